use Rattle.std.proofs.Common.{sym, ◌∙◌, arith}
use Rattle.wrp_grammar.proofs.LabelLists.{starts-before, goes-before, halves-found}
use Rattle.wrp_grammar.proofs.labels.label_halves.Goals as goal

pub loop-part-init : goal.loop-part-init
loop-part-init c = record { cut = starts-before c.args.line.now c.requires; within = omega arith }

pub returns-then-is_slash_text-clause-labels : goal.returns-then-is_slash_text-clause-labels
returns-then-is_slash_text-clause-labels c =
    (halves-found c.args.line.now c.loop-part.left.now c.in-Some.others.now c.in-Some.part.now c.loop-part.invariant.cut c.in-Some.ensures.some (sym c.is_slash_text.ensures ∙ c.if-is_slash_text.true)).labels

pub returns-then-is_slash_text-clause-streets : goal.returns-then-is_slash_text-clause-streets
returns-then-is_slash_text-clause-streets c =
    (halves-found c.args.line.now c.loop-part.left.now c.in-Some.others.now c.in-Some.part.now c.loop-part.invariant.cut c.in-Some.ensures.some (sym c.is_slash_text.ensures ∙ c.if-is_slash_text.true)).streets

pub loop-part-preserved : goal.loop-part-preserved
loop-part-preserved c = record {
  cut = goes-before c.args.line.now c.loop-part.left.now c.in-Some.others.now c.in-Some.part.now c.loop-part.invariant.cut c.in-Some.ensures.some (sym c.is_slash_text.ensures ∙ c.if-is_slash_text.false) c.in-Some.ensures.spaced;
  within = omega (arith, c.in-Some.ensures.length);
}
