use Rattle.std.proofs.Common.{length, sym, ap, ◌∙◌, inl, inr}
use Rattle.std.proofs.lemmas.Bool.{eqb-true}
use Rattle.wrp_parts.proofs.Order.{numbered_known, numbered_new}
use Rattle.wrp_parts.proofs.traversal.number_from.Goals as goal
use Rattle.wrp_parts.proofs.traversal.number_from.Goals.{then-is_some-via-then-is_some, then-is_some-via-else-is_some+then-is_empty}

pub returns-then-is_some : goal.returns-then-is_some
returns-then-is_some c =
    numbered_known c.args.rows.now c.args.count c.args.root c.args.of.now c.requires.before c.requires.root
    (elim c.then-is_some.branch [
      | then-is_some-via-then-is_some w ↦ inl (sym c.is_some.ensures ∙ w.if-is_some.true)
      | then-is_some-via-else-is_some+then-is_empty w ↦ inr (sym (ap length w.bucket.ensures) ∙ eqb-true _ 0 (sym w.is_empty.ensures ∙ w.if-is_empty.true))
    ])

pub returns : goal.returns
returns c =
    numbered_new c.args.rows.now c.args.count c.args.root c.args.of.now c.spread.new.of c.requires.before c.requires.root c.in_ok-spread.ensures
