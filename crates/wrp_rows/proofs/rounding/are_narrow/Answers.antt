use Rattle.std.proofs.Common.{◌≡◌, ◌*◌, ◌<◌, ℕ, ◌||◌, not, length, unsigned_abs, sym, ap, ◌∙◌, arith}
use Rattle.std.specs.Prelude.{nat_le}
use Rattle.std.specs.List.{list_all, range_with_len}
use Rattle.wrp_town.specs.Arcs.{arcs, is_legal}
use Rattle.wrp_rules.specs.Rows.{most_coefficient}
use Rattle.wrp_rows.specs.Tables.{number_at}
use Rattle.wrp_rows.proofs.Ranges.{all_more, all_broken, all_filter}
use Rattle.wrp_rows.proofs.rounding.are_narrow.Goals as goal

pub loop-arc-preserved : goal.loop-arc-preserved
loop-arc-preserved c =
    let town = c.args.town.now in
    let sums = c.args.sums.now in
    all_more (λ (arc : ℕ). not (is_legal town arc) || nat_le (unsigned_abs (number_at sums arc)) most_coefficient) c.loop-arc.arc c.loop-arc.invariant
    (sym c.is_narrow_at.ensures ∙ c.if-not-is_narrow_at.false)

pub returns-then-not-is_narrow_at : goal.returns-then-not-is_narrow_at
returns-then-not-is_narrow_at c =
    let town = c.args.town.now in
    let sums = c.args.sums.now in
    let below : c.loop-arc.arc < 2 * length town.streets = omega arith in
    sym (all_broken (λ (arc : ℕ). not (is_legal town arc) || nat_le (unsigned_abs (number_at sums arc)) most_coefficient) (2 * length town.streets) c.loop-arc.arc below
    (sym c.is_narrow_at.ensures ∙ c.if-not-is_narrow_at.true))
    ∙ all_filter (λ (arc : ℕ). nat_le (unsigned_abs (number_at sums arc)) most_coefficient) (is_legal town) (arcs town)

pub returns : goal.returns
returns c =
    let town = c.args.town.now in
    let sums = c.args.sums.now in
    let all : c.loop-arc.arc ≡ 2 * length town.streets = omega arith in
    let narrow = λ (arc : ℕ). not (is_legal town arc) || nat_le (unsigned_abs (number_at sums arc)) most_coefficient in
    sym c.loop-arc.invariant
    ∙ ap (λ (n : ℕ). list_all narrow (range_with_len 0 n)) all
    ∙ all_filter (λ (arc : ℕ). nat_le (unsigned_abs (number_at sums arc)) most_coefficient) (is_legal town) (arcs town)
