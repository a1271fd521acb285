use Rattle.std.proofs.Common.{◌≡◌, ◌<◌, ap, subst, sym, ◌∙◌}
use Rattle.wrp_rules.specs.declared.layout.Tail.TheVariants.{Multipliers, Pairs}
use Rattle.wrp_grammar.specs.Parts.{parts_of, are_multiplier_parts}
use Rattle.wrp_grammar.specs.Numbers.{tail_keeps_rules, are_few_pairs, HasLimit, IsPlaceOfBad}
use Rattle.wrp_grammar.proofs.FirstNumbers.{first-same}
use Rattle.wrp_grammar.proofs.PairLists.{few_multipliers, few_pairs}
use Rattle.wrp_grammar.proofs.PairNumbers.{pairs-room}
use Rattle.wrp_grammar.proofs.ranges.tail_number.Goals as goal

pub returns-in-Multipliers-clause-first : goal.returns-in-Multipliers-clause-first
returns-in-Multipliers-clause-first c =
    let left = c.args.left.now in
    let most = c.from.result in
    let is : c.args.tail ≡ Multipliers most = c.in-Multipliers.is ∙ ap Multipliers (sym c.from.ensures) in
    let some : 0 < most = subst HasLimit is c.requires in
    subst (λ tail. IsPlaceOfBad (tail_keeps_rules tail) left c.pairs_number.result) (sym is)
    (λ broken. first-same (are_few_pairs most 4096) (are_multiplier_parts most) left c.pairs_number.result (few_multipliers most) (c.pairs_number.ensures.first some (few_multipliers most (parts_of left) ∙ broken)))

pub returns-in-Pairs-clause-first : goal.returns-in-Pairs-clause-first
returns-in-Pairs-clause-first c =
    let left = c.args.left.now in
    let most = c.in-Pairs.most in
    let at = c.pairs_number-in-Pairs.result in
    let limit : HasLimit (Pairs most) = subst HasLimit c.in-Pairs.is c.requires in
    subst (λ tail. IsPlaceOfBad (tail_keeps_rules tail) left at) (sym c.in-Pairs.is)
    (λ broken. pairs-room most left at (c.pairs_number-in-Pairs.ensures.first limit.0 (few_pairs most left ∙ broken)))
