use Rattle.std.proofs.Common.{◌≡◌, ◌∙◌, List, ℕ, rules, subst}
use Rattle.std.specs.Prelude.{Err, Some, IfSome}
use Rattle.wrp_street.specs.Canonical.{canonical_of}
use Rattle.wrp_keep.specs.Starts.{Starts}
use Rattle.wrp_keep.proofs.keep.Keep.start.Goals as goal

pub returns-in_err-log-clause-starts : goal.returns-in_err-log-clause-starts
returns-in_err-log-clause-starts g c =
    let fault = c.in_err-log.field-0.0 in
    let is : c.from_residual-in_err-log.result ≡ Err fault = search rules in
    let text : c.deref.result.now ≡ canonical_of c.args.town.now = c.deref.ensures.value ∙ c.in_ok-table.ensures.text in
    let before = g.D.Disk.meaning c.args.disk.now in
    rw is (subst (λ (table : List ℕ). IfSome before.told (λ bytes. Starts table bytes before (g.D.Disk.meaning c.started_log.new.disk) (Some fault))) text c.in_err-log.ensures.starts)
