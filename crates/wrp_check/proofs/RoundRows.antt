-- The row of a rounding of the checker's own rows is that of the rows that they stand for.
use Rattle.std.proofs.Common.{◌≡◌, ℕ, ◌^◌, ◌≤◌, Bool, true, ◌&&◌, not, ℤ, unsigned_abs, ◌-◌, map, List, length, ap, ◌∙◌, arith}
use Rattle.std.specs.Prelude.{nat_le}
use Rattle.std.specs.List.{list_all}
use Rattle.std.proofs.lemmas.Bool.{and_parts, and_from, leb-true, le-leb}
use Rattle.wrp_sums.specs.Rounding.{ceil_div}
use Rattle.wrp_sums.proofs.SumsOver.{list_all-same}
use Rattle.wrp_sums.proofs.FirstNumbers.{passes_of_inside}
use Rattle.wrp_town.specs.declared.town.Town.{Town}
use Rattle.wrp_town.specs.Arcs.{is_legal, arcs, legal_arcs}
use Rattle.wrp_town.proofs.Members.{member_passes, all_from_members}
use Rattle.wrp_rules.specs.Ranges.{is_from_one, is_ascending, are_pairs, are_multipliers}
use Rattle.wrp_rules.specs.Rows.{Row, round_row, is_wide, most_coefficient}
use Rattle.wrp_pool.specs.declared.row.Pool.{Pool}
use Rattle.wrp_pool.specs.declared.tally.Tally.{Tally}
use Rattle.wrp_pool.specs.Pools.{Holds, has_rows}
use Rattle.wrp_pool.specs.Tallies.{IsCombined, IsCombinedSide}
use Rattle.wrp_pool.specs.Cuts.{Gains}
use Rattle.wrp_pool.specs.Rounds.{rounding}
use Rattle.wrp_pool.proofs.Weights.{combined_coef_held, combined_side_held}

-- multipliers of a narrower range are of a wider one
pub wider : (narrow wide : ℕ) (mult : List (ℕ × ℕ)) → narrow ≤ wide → are_multipliers narrow mult ≡ true → are_multipliers wide mult ≡ true
wider narrow wide mult less are =
    let parts = and_parts (are_pairs narrow mult) (nat_le (length mult) 4096) are in
    let pairs = and_parts (is_ascending (2 ^ 32 - 1) (map (λ q. q.0) mult)) (list_all (λ q. is_from_one narrow q.1) mult) parts.0 in
    and_from _ _ (and_from _ _ pairs.0 (all_from_members (λ (q : ℕ × ℕ). is_from_one wide q.1) mult (λ q inside. one q.1 (member_passes (λ (q : ℕ × ℕ). is_from_one narrow q.1) mult q pairs.1 inside)))) parts.1
  where
    one : (n : ℕ) → is_from_one narrow n ≡ true → is_from_one wide n ≡ true
    one n is = let both = and_parts (nat_le 1 n) (nat_le n narrow) is in and_from _ _ both.0 (le-leb n wide (omega (arith, less, leb-true n narrow both.1)))

module _ (town : Town) (pool : Pool) (rows : List Row) (divisor : ℕ) (mult : List (ℕ × ℕ)) (tally : Tally) (side : ℤ) (holds : Holds town pool rows) (there : has_rows pool mult ≡ true)
    (combined : IsCombined town pool mult tally) (combined_side : IsCombinedSide pool mult side) where
  -- the same coefficients on legal arcs, and the same right side
  same_coef : (arc : ℕ) → is_legal town arc ≡ true → (rounding tally divisor side).coef arc ≡ (round_row rows divisor mult).coef arc
  same_coef arc legal = ap (λ (z : ℤ). ceil_div z divisor) (combined.exact arc ∙ combined_coef_held town pool rows mult arc holds there legal)

  same_side : (rounding tally divisor side).right_side ≡ (round_row rows divisor mult).right_side
  same_side = ap (λ (z : ℤ). ceil_div z divisor) (combined_side.exact ∙ combined_side_held town pool rows mult holds there)

  -- so both are too large or neither is
  pub same_width : is_wide town (rounding tally divisor side) ≡ is_wide town (round_row rows divisor mult)
  same_width =
      ap (λ (z : ℤ). not (nat_le (unsigned_abs z) most_coefficient && list_all (λ arc. nat_le (unsigned_abs ((rounding tally divisor side).coef arc)) most_coefficient) (legal_arcs town))) same_side
      ∙ ap (λ (t : Bool). not (nat_le (unsigned_abs (round_row rows divisor mult).right_side) most_coefficient && t))
      (list_all-same (λ arc. nat_le (unsigned_abs ((rounding tally divisor side).coef arc)) most_coefficient) (λ arc. nat_le (unsigned_abs ((round_row rows divisor mult).coef arc)) most_coefficient) (legal_arcs town)
      (λ arc inside. ap (λ (z : ℤ). nat_le (unsigned_abs z) most_coefficient) (same_coef arc (passes_of_inside (is_legal town) (arcs town) arc inside))))

  -- and a pool that gains the one gains the other
  pub same_gain : (new : Pool) → Gains town (rounding tally divisor side) pool new → Gains town (round_row rows divisor mult) pool new
  same_gain new gains = record {
    sparse = gains.sparse;
    added = gains.added;
    is_row = record {
      coef = λ arc legal. gains.is_row.coef arc legal ∙ same_coef arc legal;
      right_side = gains.is_row.right_side ∙ same_side;
      small = gains.is_row.small;
    };
  }
