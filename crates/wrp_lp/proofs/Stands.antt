-- Over the rows of what stands and the bounds of a node, the program is the node's.
use Rattle.std.proofs.Common.{◌≡◌, ℕ, ◌*◌, ◌<◌, ◌≤◌, ◌==◌, Bool, true, false, not, cond, ℤ, pos, ◌+ℤ◌, ◌-ℤ◌, ◌*ℤ◌, ◌≤ℤ◌, List, map, filter, length, Contains, ap, refl, sym, ◌∙◌, arith, subst}
use Rattle.std.specs.Prelude.{slice_index, nat_lt}
use Rattle.std.proofs.lemmas.Bool.{ltb-true, eqb-true}
use Rattle.wrp_sums.specs.Sums.{sum_over, coef_at}
use Rattle.wrp_sums.specs.Duality as duality
use Rattle.wrp_sums.specs.Duality.{Program, least_term, combine_rows, dual_value, row_sum}
use Rattle.wrp_sums.proofs.Integers.{linear, zero_times}
use Rattle.wrp_sums.proofs.SumsOver.{sum_over-same, sum_over-ext, sum_over-filter}
use Rattle.wrp_sums.proofs.FirstNumbers.{passes_of_inside}
use Rattle.wrp_town.specs.Arcs.{arcs, is_legal, legal_arcs, cost_or_zero}
use Rattle.wrp_town.proofs.Members.{member_passes}
use Rattle.wrp_rules.specs.Rows.{row_at}
use Rattle.wrp_rules.specs.Nodes as nodes
use Rattle.wrp_rules.specs.Nodes.{Node, Standing}
use Rattle.wrp_rows.specs.declared.point.Bounds.{Bounds}
use Rattle.wrp_rows.specs.Pools.{SparseRow, RowPool, sparse_of, sparse_at, HasRowsOf}
use Rattle.wrp_rows.specs.Points.{AreBoundsOf}
use Rattle.wrp_rows.specs.Tables.{name_rows, combined_coef, combined_side}
use Rattle.wrp_rows.proofs.Kept.{coef_at_terms, combined_coef_kept, combined_side_kept}
use Rattle.wrp_rows.proofs.RowLaws.{row_there}
use Rattle.wrp_lp.specs.Answers.{program_of, free_program_of}

module _ (s : Standing) (node : Node) (pool : RowPool) (bounds : Bounds) (has : HasRowsOf s pool) (are : AreBoundsOf pool.town node bounds) where
  abbrev legal_at : (arc : ℕ) → Contains (legal_arcs pool.town) arc → is_legal pool.town arc ≡ true
  legal_at arc inside = passes_of_inside (is_legal pool.town) (arcs pool.town) arc inside

  module _ (mult : List (ℕ × ℕ)) (named : name_rows pool.rows mult ≡ true) where
    named_kept : name_rows (map (sparse_of pool.town) s.rows) mult ≡ true
    named_kept = subst (λ (rows : List SparseRow). name_rows rows mult ≡ true) has.rows named

    side_is : combined_side pool.rows mult ≡ combine_rows mult (λ i. (row_at s.rows i).right_side)
    side_is = ap (λ (rows : List SparseRow). combined_side rows mult) has.rows ∙ combined_side_kept pool.town s.rows mult named_kept

    coef_is : (arc : ℕ) → is_legal pool.town arc ≡ true → combined_coef pool.rows mult arc ≡ combine_rows mult (λ i. (row_at s.rows i).coef arc)
    coef_is arc legal = ap (λ (rows : List SparseRow). combined_coef rows mult arc) has.rows ∙ combined_coef_kept pool.town s.rows mult arc named_kept legal

    arc_is : (cost arc : ℕ) → is_legal pool.town arc ≡ true
        → least_term (pos cost -ℤ combined_coef pool.rows mult arc) (slice_index bounds.lo arc) (slice_index bounds.hi arc)
        ≡ least_term (pos cost -ℤ combine_rows mult (λ i. (row_at s.rows i).coef arc)) (node.lo arc) (node.hi arc)
    arc_is cost arc legal =
        ap (λ (z : ℤ). least_term (pos cost -ℤ z) (slice_index bounds.lo arc) (slice_index bounds.hi arc)) (coef_is arc legal)
        ∙ ap (λ (lo : ℕ). least_term (pos cost -ℤ combine_rows mult (λ i. (row_at s.rows i).coef arc)) lo (slice_index bounds.hi arc)) (are.lo arc legal)
        ∙ ap (λ (hi : ℕ). least_term (pos cost -ℤ combine_rows mult (λ i. (row_at s.rows i).coef arc)) (node.lo arc) hi) (are.hi arc legal)

    sums_are : (cost : ℕ → ℕ)
        → combined_side pool.rows mult +ℤ sum_over (λ arc. least_term (pos (cost arc) -ℤ combined_coef pool.rows mult arc) (slice_index bounds.lo arc) (slice_index bounds.hi arc)) (legal_arcs pool.town)
        ≡ combine_rows mult (λ i. (row_at s.rows i).right_side) +ℤ sum_over (λ arc. least_term (pos (cost arc) -ℤ combine_rows mult (λ i. (row_at s.rows i).coef arc)) (node.lo arc) (node.hi arc)) (legal_arcs pool.town)
    sums_are cost = omega (
      arith,
      linear,
      side_is,
      sum_over-same
          (λ arc. least_term (pos (cost arc) -ℤ combined_coef pool.rows mult arc) (slice_index bounds.lo arc) (slice_index bounds.hi arc))
          (λ arc. least_term (pos (cost arc) -ℤ combine_rows mult (λ i. (row_at s.rows i).coef arc)) (node.lo arc) (node.hi arc))
          (legal_arcs pool.town) (λ arc inside. arc_is (cost arc) arc (legal_at arc inside)),
    )

    -- multipliers are worth the same
    pub node_value : (den : ℕ) → dual_value (program_of pool bounds) den mult ≡ dual_value (nodes.program pool.town s.rows node) den mult
    node_value den = sums_are (λ arc. den * cost_or_zero pool.town arc)

    pub node_free_value : dual_value (free_program_of pool bounds) 1 mult ≡ nodes.empty_value pool.town s.rows node mult
    node_free_value = sums_are (λ arc. 1 * 0)

    row_named : (q : ℕ × ℕ) → Contains mult q → q.0 < length pool.rows
    row_named q inside = ltb-true q.0 (length pool.rows) (member_passes (λ (p : ℕ × ℕ). nat_lt p.0 (length pool.rows)) mult q named inside)

    row_is : (x : ℕ → ℕ) (i : ℕ) → i < length pool.rows → row_sum (program_of pool bounds) i x ≡ row_sum (nodes.program pool.town s.rows node) i x
    row_is x i below =
        sum_over-same (λ a. coef_at (sparse_at pool.rows i).terms a *ℤ pos (x a)) (λ a. (row_at s.rows i).coef a *ℤ pos (x a)) (legal_arcs pool.town)
        (λ a inside. ap (λ (z : ℤ). z *ℤ pos (x a))
        (ap (λ (r : SparseRow). coef_at r.terms a) (row_there s pool i has below)
        ∙ coef_at_terms pool.town (row_at s.rows i).coef a
        ∙ ap (λ (t : Bool). cond t ((row_at s.rows i).coef a) (pos 0)) (legal_at a inside)))

    -- and solutions are the same
    pub node_solution : (e : ℕ) (x : ℕ → ℕ) → duality.IsSolution (program_of pool bounds) e mult x → duality.IsSolution (nodes.program pool.town s.rows node) e mult x
    node_solution e x is = record {
      at_least = λ a inside. subst (λ lo. lo * e ≤ x a) (are.lo a (legal_at a inside)) (is.at_least a inside);
      at_most = λ a inside. subst (λ hi. x a ≤ hi * e) (are.hi a (legal_at a inside)) (is.at_most a inside);
      meets = λ q inside.
          let below = row_named q inside in
          subst (λ (z : ℤ). (pos e *ℤ (row_at s.rows q.0).right_side) ≤ℤ z) (row_is x q.0 below)
          (subst (λ (r : SparseRow). (pos e *ℤ r.right_side) ≤ℤ row_sum (program_of pool bounds) q.0 x) (row_there s pool q.0 has below) (is.meets q inside));
    }

-- ---- multipliers that are 0

some_combined : (f : ℕ → ℤ) (mult : List (ℕ × ℕ)) → combine_rows (filter (λ q. not (q.1 == 0)) mult) f ≡ combine_rows mult f
some_combined f mult =
    sum_over-filter (λ q. pos q.1 *ℤ f q.0) (λ q. not (q.1 == 0)) mult
    ∙ sum_over-ext (λ q. cond (not (q.1 == 0)) (pos q.1 *ℤ f q.0) (pos 0)) (λ q. pos q.1 *ℤ f q.0) (λ q. by q.1 (f q.0) (q.1 == 0) refl) mult
  where
    by : (n : ℕ) (z : ℤ) (t : Bool) → (n == 0) ≡ t → cond (not t) (pos n *ℤ z) (pos 0) ≡ pos n *ℤ z
    by n z true e = sym (ap (λ (m : ℕ). pos m *ℤ z) (eqb-true n 0 e) ∙ zero_times z)
    by n z false e = refl

-- they may be left out
pub value_without_zeros : (p : Program) (den : ℕ) (mult : List (ℕ × ℕ)) → dual_value p den (filter (λ q. not (q.1 == 0)) mult) ≡ dual_value p den mult
value_without_zeros p den mult = omega (
  arith,
  linear,
  some_combined p.right_side mult,
  sum_over-ext
      (λ a. least_term (pos (den * p.cost a) -ℤ combine_rows (filter (λ q. not (q.1 == 0)) mult) (λ r. p.coef r a)) (p.lo a) (p.hi a))
      (λ a. least_term (pos (den * p.cost a) -ℤ combine_rows mult (λ r. p.coef r a)) (p.lo a) (p.hi a))
      (λ a. ap (λ (z : ℤ). least_term (pos (den * p.cost a) -ℤ z) (p.lo a) (p.hi a)) (some_combined (λ r. p.coef r a) mult)) p.arcs,
)
