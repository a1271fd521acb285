use Rattle.std.proofs.Common.{◌≡◌, sym, ◌∙◌, ap, subst}
use Rattle.wrp_log.specs.Payloads.{payload_limit}
use Rattle.wrp_tree.proofs.Growing.{valid_more}
use Rattle.wrp_keep.specs.Keeps.{KeepState, keep_of, version, IsKeep}
use Rattle.wrp_keep.proofs.Going.{keep_pushed, is_keep_more, extends_more}
use Rattle.wrp_keep.proofs.keep.Keep.stage.Goals as goal

pub invariant_of-self-2 : goal.invariant_of-self-2
invariant_of-self-2 c =
    let tree = c.self.inside.tree in
    let keep = keep_of tree c.self.inside.acknowledged c.self.inside.log in
    let is = keep_pushed tree c.prepare.new.self c.commit.new.self c.args.item c.self.inside.acknowledged c.self.inside.log c.prepare.ensures.kept c.commit.ensures in
    let most : c.payload_limit-most.result ≡ payload_limit (version keep) = c.payload_limit-most.ensures ∙ ap payload_limit (rw (← c.self.view_is) at c.version.ensures.value) in
    let joins = rw most at c.in-Ok-join_line.ensures in
    subst (λ (k : KeepState). IsKeep k c.join_line.new.lines.items) (sym is)
    (is_keep_more keep c.args.item c.self.inside.lines.items c.join_line.new.lines.items c.self.invariant c.in-Ok.ensures.refused joins.0 joins.1)

pub returns-clause-extends : goal.returns-clause-extends
returns-clause-extends c =
    let tree = c.self.inside.tree in
    let keep = keep_of tree c.self.inside.acknowledged c.self.inside.log in
    let is = keep_pushed tree c.prepare.new.self c.commit.new.self c.args.item c.self.inside.acknowledged c.self.inside.log c.prepare.ensures.kept c.commit.ensures in
    rw (← c.self.view_is)
    (extends_more keep _ c.args.item (ap (λ (k : KeepState). k.town) is) (ap (λ (k : KeepState). k.records) is) (valid_more keep.town keep.records c.args.item c.self.invariant.valid c.in-Ok.ensures.refused))
