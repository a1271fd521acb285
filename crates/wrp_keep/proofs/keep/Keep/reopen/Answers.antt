use Rattle.std.proofs.Common.{◌≡◌, ◌∙◌, [], List, ℕ, length, true, rules, subst, ap, sym, arith}
use Rattle.std.specs.Prelude.{Err, Some, None, IfSome}
use Rattle.wrp_street.specs.Canonical.{canonical_of}
use Rattle.wrp_town.specs.declared.town.Town.{Town}
use Rattle.wrp_rules.specs.declared.record.Record.{Record}
use Rattle.wrp_rules.specs.Lists.{is_valid}
use Rattle.wrp_tree.specs.Trees.{TreeState}
use Rattle.wrp_keep.specs.Keeps.{KeepState}
use Rattle.wrp_keep.specs.Reopens.{ReopenIs, IsReopened}
use Rattle.wrp_keep.proofs.LoggedRecords.{reopened_at, reopen_refused, still_writable}
use Rattle.wrp_keep.proofs.keep.Keep.reopen.Goals as goal

pub returns-in_err-log-clause-exact : goal.returns-in_err-log-clause-exact
returns-in_err-log-clause-exact g c =
    let before = g.D.Disk.meaning c.args.disk.now in
    let fault = c.in_err-log.field-0.0 in
    let is : c.from_residual-in_err-log.result ≡ Err fault = search rules in
    let town : c.in_ok-tree.tree.town ≡ c.args.town.now = ap (λ (t : TreeState). t.town) c.in_ok-tree.ensures in
    rw is (reopen_refused c.args.town.now c.in_ok-tree.tree.town before c.deref.result.now c.reopened_log.new.tree.records fault (c.deref.ensures.value ∙ c.in_ok-table.ensures.text) town c.in_err-log.ensures.exact)

pub returns-clause-reopened : goal.returns-clause-reopened
returns-clause-reopened g c =
    let before = g.D.Disk.meaning c.args.disk.now in
    let tree = c.reopened_log.new.tree in
    let first : c.in_ok-tree.tree.town ≡ c.args.town.now = ap (λ (t : TreeState). t.town) c.in_ok-tree.ensures in
    let all : length c.records.result.now ≡ length tree.records = ap (λ (rs : List Record). length rs) c.records.ensures.value in
    let valid : is_valid tree.town tree.records ≡ true = subst (λ (rs : List Record). is_valid tree.town rs ≡ true) c.records.ensures.value c.records.ensures.valid in
    reopened_at c.args.town.now c.in_ok-tree.tree.town tree.town c.deref.result.now before (g.D.Disk.meaning c.reopened_log.new.disk) tree.records (length c.records.result.now) c.in_ok-log.log
    first (c.in_ok-log.ensures.town ∙ first) (c.deref.ensures.value ∙ c.in_ok-table.ensures.text) all valid (still_writable c.in_ok-tree.tree.records tree.records (ap (λ (t : TreeState). t.records) c.in_ok-tree.ensures) c.in_ok-log.ensures.writable) c.in_ok-log.ensures.told c.in_ok-log.ensures.exact c.in_ok-log.ensures.ready
