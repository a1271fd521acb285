use Rattle.std.proofs.Common.{◌≡◌, ℤ, List, length, true, FitsSigned, to_z, of_z, rules, arith, sym, ◌∙◌, ap, subst}
use Rattle.std.specs.Int.{w64}
use Rattle.std.proofs.lemmas.Int.{to_z-of_z}
use Rattle.std.proofs.lemmas.List.{with_items_is}
use Rattle.wrp_rows.specs.Pools.{terms_of}
use Rattle.wrp_rows.specs.Tables.{number_at}
use Rattle.wrp_rows.specs.Making.{AreRounded, are_narrow}
use Rattle.wrp_rows.proofs.Made.{narrow_at, rounding_made}
use Rattle.wrp_rows.proofs.bench.Bench.make_round.Goals as goal

pub gather-requires : goal.gather-requires
gather-requires c =
    let sums : c.as_slice.result.now ≡ c.judge_round.new.sums = c.as_slice.ensures.value ∙ with_items_is c.args.self.now.sums c.judge_round.new.sums (omega arith) in
    let narrow = c.in_ok-side.ensures.narrow in (
      ap length sums ∙ omega arith,
      λ arc legal. narrow_at c.args.town.now c.as_slice.result.now arc (subst (λ (xs : List ℤ). are_narrow c.args.town.now xs ≡ true) (sym sums) narrow) legal,
    )

pub returns-clause-row : goal.returns-clause-row
returns-clause-row c = λ s kept.
    let told = c.in_ok-side.ensures in
    let sums : c.as_slice.result.now ≡ c.judge_round.new.sums = c.as_slice.ensures.value ∙ with_items_is c.args.self.now.sums c.judge_round.new.sums (omega arith) in
    let fits : FitsSigned w64 c.in_ok-side.side = search rules in
    let side : c.in_ok-side.side ≡ to_z w64 (of_z w64 c.in_ok-side.side) = sym (to_z-of_z w64 c.in_ok-side.side fits) in
    rounding_made c.args.town.now s.rows c.args.table.now c.args.divisor c.args.mult.now c.judge_round.new.sums c.gather.new.terms.items _ kept told.named
    (subst (λ (z : ℤ). AreRounded c.args.table.now c.args.divisor c.args.mult.now c.judge_round.new.sums z) side told.rounded)
    (c.in_ok-gather.ensures.terms ∙ ap (λ (xs : List ℤ). terms_of c.args.town.now (number_at xs)) sums)
