-- Where no rounding of an optimum's system is broken, its point meets those of its node.
use Rattle.std.proofs.Common.{◌≡◌, ℕ, Bool, true, false, not, cond, ℤ, pos, ◌*ℤ◌, List, [], ◌∷◌, filter, None, Some, ap, refl, sym, ◌∙◌, subst, arith}
use Rattle.std.specs.Prelude.{IfSome}
use Rattle.std.proofs.lemmas.Int.{by_lt_z}
use Rattle.wrp_sums.specs.Sums.{sum_over}
use Rattle.wrp_sums.proofs.Integers.{linear}
use Rattle.wrp_town.specs.declared.town.Town.{Town}
use Rattle.wrp_town.specs.Arcs.{legal_arcs}
use Rattle.wrp_town.proofs.Members.{inside_none}
use Rattle.wrp_rules.specs.declared.record.Record.{Record}
use Rattle.wrp_rules.specs.declared.rule.Rule.{Rule}
use Rattle.wrp_rules.specs.declared.rule.Rule.TheVariants as rules
use Rattle.wrp_rules.specs.Rows.{Row, row_of, round_row}
use Rattle.wrp_rules.specs.Nodes.{Standing, node_at}
use Rattle.wrp_rules.specs.Rules.{first_broken, broken_rule, rules_of, is_alone}
use Rattle.wrp_rules.specs.Contents.{has_number_rules}
use Rattle.wrp_writer.specs.Limits.{is_writable}
use Rattle.wrp_laws.specs.Points.{MeetsOver}
use Rattle.wrp_rows.specs.declared.point.Bounds.{Bounds}
use Rattle.wrp_rows.specs.declared.point.Point.{Point}
use Rattle.wrp_rows.specs.Pools.{RowPool, HasRowsOf}
use Rattle.wrp_rows.specs.Points.{AreBoundsOf}
use Rattle.wrp_tableau.specs.declared.tableau.Tableau.{Tableau}
use Rattle.wrp_tableau.specs.Kept.{system}
use Rattle.wrp_tableau.specs.Systems.{System}
use Rattle.wrp_simplex.specs.declared.end.RunEnd.TheVariants as ends
use Rattle.wrp_simplex.specs.Steps.{denominator}
use Rattle.wrp_lp.specs.declared.lp.Lp.{Lp}
use Rattle.wrp_lp.specs.declared.lp.Lp.TheVariants.{Optimal, Empty, Wide, Pivots}
use Rattle.wrp_odd.specs.Points.{denominator_of, numbers_of, Breaks}
use Rattle.wrp_odd.specs.Cuts.{IsValidCut, is_room}
use Rattle.wrp_round.specs.Roundings.{rounding_pairs, rounding_of}
use Rattle.wrp_round.specs.Optima.{IsOptimal, point_of, system_of}
use Rattle.wrp_round.specs.Broken.{AreFound}
use Rattle.wrp_box.specs.Relaxing.{all_rows, IsRelaxed}
use Rattle.wrp_licence.specs.Runs.{row_numbers, most_pivots, end_at}
use Rattle.wrp_licence.specs.Roundings.{IsRounding, MeetsRoundings}
use Rattle.wrp_licence.proofs.Same.{same_numbers}
use Rattle.wrp_licence.proofs.Ending.{one_run, run_of_answer, ends_of_answer}

-- ---- a record that breaks no rule is a valid cut

broken_off : (rule : Rule) → Some rule ≡ None → ⊥
broken_off rule e = cc

behind : (rule : Rule) (kept : Bool) (tried : List (Rule × Bool)) → first_broken ((rule, kept) ∷ tried) ≡ None → first_broken tried ≡ None
behind rule true tried none = none
behind rule false tried none = absurd (broken_off rule none)

chosen_kept : (t : Bool) (rule : Rule) (tried : List (Rule × Bool)) → first_broken tried ≡ None → first_broken (cond t ((rule, true) ∷ tried) tried) ≡ None
chosen_kept true rule tried none = none
chosen_kept false rule tried none = none

some_kept : (p : Rule × Bool → Bool) (tried : List (Rule × Bool)) → first_broken tried ≡ None → first_broken (filter p tried) ≡ None
some_kept p [] none = refl
some_kept p ((rule, true) ∷ tried) none = chosen_kept (p (rule, true)) rule (filter p tried) (some_kept p tried none)
some_kept p ((rule, false) ∷ tried) none = absurd (broken_off rule none)

module _ (town : Town) (s : Standing) (item : Record) where
  pub valid_cut : is_writable item ≡ true → broken_rule town s item ≡ None → IsValidCut town s item
  valid_cut writable none = record {
    writable = writable;
    kept = some_kept (λ q. not (is_room q.0)) (rules_of town s item)
        (behind rules.Lonely (is_alone s item) (rules_of town s item) (behind rules.Number (has_number_rules item) ((rules.Lonely, is_alone s item) ∷ rules_of town s item) none));
  }

-- ---- a row that isn't broken is met

pub met : (town : Town) (point : Point) (row : Row) → (Breaks town point row → ⊥) → MeetsOver town (denominator_of point) (numbers_of point) row
met town point row whole =
    let side = pos (denominator_of point) *ℤ row.right_side in
    let sum = sum_over (λ arc. row.coef arc *ℤ pos (numbers_of point arc)) (legal_arcs town) in
    by_lt_z sum side (λ less. absurd (whole (λ at_least. omega (arith, linear, less, at_least)))) (λ at_least. at_least)

module _ (s : Standing) (node : ℕ) (pool : RowPool) (bounds : Bounds) (has : HasRowsOf s pool) (are : AreBoundsOf pool.town (node_at pool.town s node) bounds) where
  abbrev town : Town
  town = pool.town

  module _ (point : Point) (mult : List (ℕ × ℤ)) (table : Tableau) (taken : List (ℕ × ℕ)) (relaxed_so : IsRelaxed pool bounds most_pivots (Optimal point mult table taken)) (none : AreFound town s point (system table) (all_rows pool) []) where
    none_at : (t : System) (chosen : List ℕ) → system table ≡ t → all_rows pool ≡ chosen → AreFound town s point t chosen []
    none_at t chosen table_is rows_are = subst (λ rs. AreFound town s point t rs []) rows_are (subst (λ u. AreFound town s point u (all_rows pool) []) table_is none)

    meets_rounding : (item : Record) → IsRounding town s node item → IfSome (row_of town s.rows item) (MeetsOver town (denominator_of point) (numbers_of point))
    meets_rounding item r =
        let run = run_of_answer s node pool bounds has are (Optimal point mult table taken) relaxed_so in
        let so = ends_of_answer s node pool bounds has are (Optimal point mult table taken) relaxed_so in
        let same : taken ≡ r.steps =
        one_run town s node taken r.steps ends.Optimal ends.Optimal
        (record { run = run.run; within = run.within; ends = so.0 })
        (record { run = r.run.run; within = r.run.within; ends = r.feasible }) in
        let t = end_at town s node r.steps in
        let found = none_at t (row_numbers s) (so.1 ∙ ap (end_at town s node) same) (same_numbers s node pool bounds has are) in
        let rounding = rounding_of t (row_numbers s) r.row in
        let divisor = denominator t r.row in
        let pairs = rounding_pairs t (row_numbers s) r.row in
        subst (λ (i : Record). IfSome (row_of town s.rows i) (MeetsOver town (denominator_of point) (numbers_of point))) (sym r.is)
        (met town point (round_row s.rows divisor pairs)
        (λ broken. inside_none rounding (found r.row r.names (record {
          divisor = divisor;
          mult = pairs;
          round = refl;
          valid = subst (IsValidCut town s) r.is (valid_cut town s item r.writable r.valid);
          broken = broken;
        }))))

  pub meets_roundings : (lp : Lp) → IsRelaxed pool bounds most_pivots lp → IsOptimal lp → AreFound town s (point_of lp) (system_of lp) (all_rows pool) [] → MeetsRoundings town s node (denominator_of (point_of lp)) (numbers_of (point_of lp))
  meets_roundings (Optimal point mult table taken) relaxed_so optimal none = meets_rounding point mult table taken relaxed_so none
  meets_roundings (Empty mult taken) relaxed_so optimal none = absurd optimal
  meets_roundings (Wide taken) relaxed_so optimal none = absurd optimal
  meets_roundings (Pivots taken) relaxed_so optimal none = absurd optimal
