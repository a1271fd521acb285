-- Sums divided and rounded up, and the rows that they are.
use Rattle.std.proofs.Common.{◌≡◌, ℕ, ◌<◌, Bool, true, false, cond, ◌&&◌, not, ℤ, pos, List, [], ◌∷◌, map, length, None, Some, unsigned_abs, inl, inr, ap, refl, sym, ◌∙◌, subst, arith}
use Rattle.std.specs.Prelude.{nat_le, nat_lt}
use Rattle.std.specs.List.{list_all}
use Rattle.std.proofs.lemmas.Bool.{cases_lt}
use Rattle.std.proofs.lemmas.List.{get_or_past}
use Rattle.std.proofs.Math.Nat.{div-eq_of_lt}
use Rattle.std.proofs.lemmas.List.{length-map}
use Rattle.wrp_sums.specs.Rounding.{ceil_div}
use Rattle.wrp_sums.proofs.SumsOver.{list_all-same}
use Rattle.wrp_sums.proofs.FirstNumbers.{passes_of_inside}
use Rattle.wrp_town.specs.declared.town.Town.{Town}
use Rattle.wrp_town.specs.Arcs.{arcs, is_legal, legal_arcs}
use Rattle.wrp_rules.specs.declared.record.Record.TheVariants.{Round}
use Rattle.wrp_rules.specs.declared.rule.Rule.TheVariants as rules
use Rattle.wrp_rules.specs.Rows.{Row, round_row, is_wide, most_coefficient}
use Rattle.wrp_rules.specs.Nodes.{Standing}
use Rattle.wrp_rules.specs.Rules.{has_room, rows_are_there, first_broken}
use Rattle.wrp_rows.specs.Pools.{SparseRow, sparse_of}
use Rattle.wrp_rows.specs.Making.{cut_rule, AreRounded, are_narrow}
use Rattle.wrp_rows.proofs.Kept.{combined_coef_kept, combined_side_kept}
use Rattle.wrp_rows.specs.Tables.{number_at, name_rows}

ceil_of_zero : (d : ℕ) → 0 < d → ceil_div (pos 0) d ≡ pos 0
ceil_of_zero d some = ap pos (div-eq_of_lt (omega arith))

-- sums that are divided as far as they go are divided everywhere, since the others are 0
pub divided_all : (old new : List ℤ) (d : ℕ) → 0 < d → length new ≡ length old → ((arc : ℕ) → arc < length new → number_at new arc ≡ ceil_div (number_at old arc) d) → (arc : ℕ) → number_at new arc ≡ ceil_div (number_at old arc) d
divided_all old new d some long done arc =
    elim (cases_lt arc (length new)) [
      | inl below ↦ done arc below
      | inr past ↦ (
          get_or_past new arc (pos 0) past
          ∙ sym (ceil_of_zero d some)
          ∙ ap (λ (z : ℤ). ceil_div z d) (sym (get_or_past old arc (pos 0) (omega arith)))
          )
    ]

-- ---- the sums are the coefficients of the rounding

module _ (town : Town) (rows : List Row) (divisor : ℕ) (mult : List (ℕ × ℕ)) (sums : List ℤ) (side : ℤ) (named : name_rows (map (sparse_of town) rows) mult ≡ true) (are : AreRounded (map (sparse_of town) rows) divisor mult sums side) where
  pub rounded_coef : (arc : ℕ) → is_legal town arc ≡ true → number_at sums arc ≡ (round_row rows divisor mult).coef arc
  rounded_coef arc legal = are.coefs arc ∙ ap (λ (z : ℤ). ceil_div z divisor) (combined_coef_kept town rows mult arc named legal)

  pub rounded_side : side ≡ (round_row rows divisor mult).right_side
  rounded_side = are.right_side ∙ ap (λ (z : ℤ). ceil_div z divisor) (combined_side_kept town rows mult named)

  not_wide : not (is_wide town (round_row rows divisor mult)) ≡ (nat_le (unsigned_abs side) most_coefficient && are_narrow town sums)
  not_wide =
      let coefs = list_all-same (λ (arc : ℕ). nat_le (unsigned_abs (number_at sums arc)) most_coefficient) (λ (arc : ℕ). nat_le (unsigned_abs ((round_row rows divisor mult).coef arc)) most_coefficient) (legal_arcs town)
      (λ arc inside. ap (λ (z : ℤ). nat_le (unsigned_abs z) most_coefficient) (rounded_coef arc (passes_of_inside (is_legal town) (arcs town) arc inside))) in
      twice (nat_le (unsigned_abs (round_row rows divisor mult).right_side) most_coefficient && list_all (λ (arc : ℕ). nat_le (unsigned_abs ((round_row rows divisor mult).coef arc)) most_coefficient) (legal_arcs town))
      ∙ sym (ap (λ (z : ℤ). nat_le (unsigned_abs z) most_coefficient && are_narrow town sums) rounded_side
      ∙ ap (λ (t : Bool). nat_le (unsigned_abs (round_row rows divisor mult).right_side) most_coefficient && t) coefs)
    where
      twice : (t : Bool) → not (not t) ≡ t
      twice true = refl
      twice false = refl

-- the first rule that a rounding breaks, where its rows are there and there is room
broken_of : (there room narrow t : Bool) → there ≡ true → room ≡ true → narrow ≡ t → first_broken ((rules.Range, there) ∷ (rules.Cuts, room) ∷ (rules.Wide, narrow) ∷ []) ≡ cond t None (Some rules.Wide)
broken_of there room narrow t e f g = rw (e, f, g) refl

pub round_rule : (town : Town) (s : Standing) (table : List SparseRow) (room t : Bool) (divisor : ℕ) (mult : List (ℕ × ℕ)) (sums : List ℤ) (side : ℤ) → room ≡ has_room s → table ≡ map (sparse_of town) s.rows → room ≡ true → name_rows table mult ≡ true → AreRounded table divisor mult sums side → (nat_le (unsigned_abs side) most_coefficient && are_narrow town sums) ≡ t → cut_rule town s (Round divisor mult) ≡ cond t None (Some rules.Wide)
round_rule town s table room t divisor mult sums side roomy kept free named are narrow =
    let named_kept = subst (λ (rows : List SparseRow). name_rows rows mult ≡ true) kept named in
    let are_kept = subst (λ (rows : List SparseRow). AreRounded rows divisor mult sums side) kept are in
    let there : rows_are_there s mult ≡ true = ap (λ (n : ℕ). list_all (λ (q : ℕ × ℕ). nat_lt q.0 n) mult) (sym (length-map s.rows (sparse_of town))) ∙ named_kept in
    broken_of (rows_are_there s mult) (has_room s) (not (is_wide town (round_row s.rows divisor mult))) t there (sym roomy ∙ free)
    (not_wide town s.rows divisor mult sums side named_kept are_kept ∙ narrow)

pub named_by : (rows : List SparseRow) (mult : List (ℕ × ℕ)) (count : ℕ) → count ≡ length rows → list_all (λ q. nat_lt q.0 count) mult ≡ true → name_rows rows mult ≡ true
named_by rows mult count is named = ap (λ (n : ℕ). list_all (λ (q : ℕ × ℕ). nat_lt q.0 n) mult) (sym is) ∙ named
