-- No node of a valid list has a bound below 0.
use Rattle.std.proofs.Common.{◌≡◌, ℕ, zero, suc, ◌+◌, ◌<◌, ◌≤◌, true, List, length, get_or, is_none, ℤ, pos, ◌≤ℤ◌, ◌<ℤ◌, ap, refl, sym, ◌∙◌, subst, inl, inr, ◌⊎◌, arith}
use Rattle.std.specs.List.{All}
use Rattle.std.proofs.lemmas.Bool.{cases_eq, cases_lt}
use Rattle.std.proofs.lemmas.List.{get_or_past}
use Rattle.wrp_sums.proofs.Integers.{linear}
use Rattle.wrp_town.specs.declared.town.Town.{Town}
use Rattle.wrp_rules.specs.declared.record.Record.{Record}
use Rattle.wrp_rules.specs.declared.record.Record.TheVariants.{Tour, Conn, Odd, Round, Kc, Bound, Empty, Apart, Point, Blind, Split, Labels}
use Rattle.wrp_rules.specs.Nodes.{Node, root, Standing, start, node_at, bound_at, with_bound, closed, at_most, at_least, changed, after, standing}
use Rattle.wrp_rules.specs.Rules.{broken_rule}
use Rattle.wrp_rules.specs.Lists.{is_valid}
use Rattle.wrp_laws.proofs.Rules.{rules_kept, all_rules}
use Rattle.wrp_laws.proofs.Boxes.{changed_at, changed_other, changed_keeps, are_split, splits_by}
use Rattle.wrp_laws.proofs.CutRows.{goes_on_keeps}
use Rattle.wrp_laws.proofs.Lower.{bound_there}
use Rattle.wrp_progress.proofs.Keeping.{lt_told}

module _ (town : Town) (s : Standing) (low : (i : ℕ) → pos 0 ≤ℤ (node_at town s i).bound) where
  kept_bounds : (new : Standing) (node : ℕ) → new.nodes ≡ changed closed node s.nodes → (i : ℕ) → pos 0 ≤ℤ (node_at town new i).bound
  kept_bounds new node nodes i =
      subst (λ (z : ℤ). pos 0 ≤ℤ z)
      (sym (ap (λ (ns : List Node). (get_or ns i (root town)).bound) nodes ∙ changed_keeps (λ n. n.bound) closed (λ n. refl) node i s.nodes (root town)))
      (low i)

  raised_bounds : (node den : ℕ) (mult : List (ℕ × ℕ)) → is_none (broken_rule town s (Bound node den mult)) ≡ true → (i : ℕ) → pos 0 ≤ℤ (node_at town (after town s (Bound node den mult)) i).bound
  raised_bounds node den mult sound i =
      let there = (bound_there town s node den mult sound).0 in
      let raised : (node_at town s node).bound <ℤ bound_at town s node den mult = lt_told (node_at town s node).bound (bound_at town s node den mult) (rules_kept (all_rules town s (Bound node den mult)) sound 4) in
      elim (cases_eq i node) [
        | inl same ↦ subst (λ (j : ℕ). pos 0 ≤ℤ (node_at town (after town s (Bound node den mult)) j).bound) (sym same)
            (subst (λ (n : Node). pos 0 ≤ℤ n.bound) (sym (changed_at (with_bound (bound_at town s node den mult)) node s.nodes (root town) there)) (omega (arith, linear, raised, low node)))
        | inr differs ↦ subst (λ (n : Node). pos 0 ≤ℤ n.bound) (sym (changed_other (with_bound (bound_at town s node den mult)) node i s.nodes (root town) differs)) (low i)
      ]

  split_bounds : (node arc k : ℕ) → is_none (broken_rule town s (Split node arc k)) ≡ true → (i : ℕ) → pos 0 ≤ℤ (node_at town (after town s (Split node arc k)) i).bound
  split_bounds node arc k sound i =
      let parent = node_at town s node in
      let are = are_split (root town) s.nodes node (at_most arc k parent) (at_least arc (k + 1) parent) (splits_by town s node arc k sound).there in
      elim (cases_lt i (length s.nodes)) [
        | inl old ↦ subst (λ (z : ℤ). pos 0 ≤ℤ z) (sym (are.bound i old)) (low i)
        | inr new ↦ elim (cases_eq i (length s.nodes)) [
          | inl first ↦ subst (λ (n : Node). pos 0 ≤ℤ n.bound) (sym (are.first_is i first)) (low node)
          | inr other ↦ elim (cases_eq i (length s.nodes + 1)) [
            | inl second ↦ subst (λ (n : Node). pos 0 ≤ℤ n.bound) (sym (are.second_is i second)) (low node)
            | inr past ↦ subst (λ (n : Node). pos 0 ≤ℤ n.bound) (sym (get_or_past (after town s (Split node arc k)).nodes i (root town) (omega (arith, are.count)))) (omega (arith, linear))
          ]
        ]
      ]

  step_low : (item : Record) → is_none (broken_rule town s item) ≡ true → (i : ℕ) → pos 0 ≤ℤ (node_at town (after town s item) i).bound
  step_low (Bound node den mult) sound = raised_bounds node den mult sound
  step_low (Empty node mult) sound = kept_bounds (after town s (Empty node mult)) node refl
  step_low (Apart node r1 r2 set) sound = kept_bounds (after town s (Apart node r1 r2 set)) node refl
  step_low (Split node arc k) sound = split_bounds node arc k sound
  step_low (Tour cost steps) sound = low
  step_low (Conn r1 r2 set) sound = low
  step_low (Odd set) sound = low
  step_low (Round divisor mult) sound = low
  step_low (Kc k of) sound = low
  step_low (Point node den numbers) sound = low
  step_low (Blind node) sound = low
  step_low (Labels labels streets) sound = low

starts_low : (town : Town) (i : ℕ) → pos 0 ≤ℤ (node_at town (start town) i).bound
starts_low town zero = omega (arith, linear)
starts_low town (suc i) = omega (arith, linear)

pub not_negative : (town : Town) (records : List Record) → is_valid town records ≡ true → (i : ℕ) → pos 0 ≤ℤ (node_at town (standing town records) i).bound
not_negative town records valid =
    goes_on_keeps town (λ s. (i : ℕ) → pos 0 ≤ℤ (node_at town s i).bound) (λ s item sound low. step_low town s low item sound) (start town) records valid (starts_low town)
