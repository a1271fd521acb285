-- What the multipliers of an answer are worth at its node.
use Rattle.std.proofs.Common.{◌≡◌, ℕ, ◌==◌, Bool, true, false, cond, not, nat_lt, ℤ, pos, ◌<ℤ◌, List, [], ◌∷◌, filter, length, ap, refl, sym, ◌∙◌, subst}
use Rattle.std.specs.List.{list_all}
use Rattle.std.proofs.lemmas.Bool.{and_from, and_parts}
use Rattle.wrp_sums.specs.Rounding.{ceil_div}
use Rattle.wrp_rules.specs.Nodes as nodes
use Rattle.wrp_rules.specs.Nodes.{Standing, node_at, bound_at, empty_value}
use Rattle.wrp_rules.specs.Rules.{rows_are_there}
use Rattle.wrp_laws.specs.Points.{price}
use Rattle.wrp_rows.specs.declared.point.Bounds.{Bounds}
use Rattle.wrp_rows.specs.declared.point.Point.{Point}
use Rattle.wrp_rows.specs.Pools.{RowPool, HasRowsOf}
use Rattle.wrp_rows.specs.Points.{AreBoundsOf}
use Rattle.wrp_rows.specs.Tables.{name_rows}
use Rattle.wrp_rows.proofs.RowLaws.{as_many}
use Rattle.wrp_tableau.specs.declared.tableau.Tableau.{Tableau}
use Rattle.wrp_simplex.specs.Steps.{after_steps}
use Rattle.wrp_lp.specs.declared.lp.Lp.TheVariants.{Optimal, Empty}
use Rattle.wrp_lp.specs.Reading.{optimal_multiplier, empty_multiplier}
use Rattle.wrp_lp.specs.Programs.{sizes}
use Rattle.wrp_lp.specs.Answers.{relaxed}
use Rattle.wrp_lp.proofs.Stands.{node_value, node_free_value, value_without_zeros}
use Rattle.wrp_bound.specs.Mults.{without_zeros}
use Rattle.wrp_odd.specs.Points.{denominator_of, numbers_of}
use Rattle.wrp_box.specs.Relaxing.{all_rows, IsRelaxed}
use Rattle.wrp_box.proofs.Relaxed.{sizes_named}

-- a test that all pass is passed by those that are left
left_first : (p : ℕ × ℕ → Bool) (q : ℕ × ℕ) (qs : List (ℕ × ℕ)) (t : Bool) → p q ≡ true → list_all p qs ≡ true → list_all p (cond t (q ∷ qs) qs) ≡ true
left_first p q qs true first others = and_from (p q) (list_all p qs) first others
left_first p q qs false first others = others

all_left : (p keep : ℕ × ℕ → Bool) (qs : List (ℕ × ℕ)) → list_all p qs ≡ true → list_all p (filter keep qs) ≡ true
all_left p keep [] all = refl
all_left p keep (q ∷ qs) all =
    let both = and_parts (p q) (list_all p qs) all in
    left_first p q (filter keep qs) (keep q) both.0 (all_left p keep qs both.1)

module _ (s : Standing) (node : ℕ) (pool : RowPool) (bounds : Bounds) (pivots : ℕ) (has : HasRowsOf s pool) (are : AreBoundsOf pool.town (node_at pool.town s node) bounds) where
  there_by_names : (mult : List (ℕ × ℤ)) → name_rows pool.rows (sizes mult) ≡ true → rows_are_there s (without_zeros mult) ≡ true
  there_by_names mult named =
      all_left (λ q. nat_lt q.0 (length s.rows)) (λ q. not (q.1 == 0)) (sizes mult)
      (subst (λ (n : ℕ). list_all (λ (q : ℕ × ℕ). nat_lt q.0 n) (sizes mult) ≡ true) (as_many s pool has) named)

  module _ (point : Point) (mult : List (ℕ × ℤ)) (table : Tableau) (taken : List (ℕ × ℕ)) (answer : IsRelaxed pool bounds pivots (Optimal point mult table taken)) where
    optimal_named : name_rows pool.rows (sizes mult) ≡ true
    optimal_named =
        subst (λ (m : List (ℕ × ℤ)). name_rows pool.rows (sizes m) ≡ true) (sym answer.end.2.multipliers)
        (sizes_named (length pool.rows) (optimal_multiplier (after_steps (relaxed pool (all_rows pool) bounds) taken) (denominator_of point)) pool.rows refl)

    pub optimal_there : rows_are_there s (without_zeros mult) ≡ true
    optimal_there = there_by_names mult optimal_named

    -- the bound of an optimum is what its point costs, rounded up
    pub optimum_priced : bound_at pool.town s node (denominator_of point) (without_zeros mult) ≡ price pool.town (denominator_of point) (numbers_of point)
    optimum_priced =
        let den = denominator_of point in
        ap (λ (z : ℤ). ceil_div z den)
        (value_without_zeros (nodes.program pool.town s.rows (node_at pool.town s node)) den (sizes mult)
        ∙ sym (node_value s (node_at pool.town s node) pool bounds has are (sizes mult) optimal_named den)
        ∙ answer.shows.1.value)

  module _ (mult : List (ℕ × ℤ)) (taken : List (ℕ × ℕ)) (answer : IsRelaxed pool bounds pivots (Empty mult taken)) where
    empty_named : name_rows pool.rows (sizes mult) ≡ true
    empty_named =
        subst (λ (m : List (ℕ × ℤ)). name_rows pool.rows (sizes m) ≡ true) (sym answer.end.multipliers)
        (sizes_named (length pool.rows) (empty_multiplier (after_steps (relaxed pool (all_rows pool) bounds) taken) answer.end.row) pool.rows refl)

    pub empty_there : rows_are_there s (without_zeros mult) ≡ true
    empty_there = there_by_names mult empty_named

    -- the multipliers of an empty relaxation empty the node
    pub empty_valued : pos 0 <ℤ empty_value pool.town s.rows (node_at pool.town s node) (without_zeros mult)
    empty_valued =
        subst (λ (z : ℤ). pos 0 <ℤ z)
        (node_free_value s (node_at pool.town s node) pool bounds has are (sizes mult) empty_named
        ∙ sym (value_without_zeros (nodes.free_program pool.town s.rows (node_at pool.town s node)) 1 (sizes mult)))
        answer.shows.value
