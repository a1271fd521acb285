-- No node of a valid list allows more uses of an arc than there are demands.
use Rattle.std.proofs.Common.{◌≡◌, ℕ, zero, suc, ◌+◌, ◌≤◌, Bool, true, false, cond, ◌==◌, List, length, is_none, sym, subst, inl, inr, arith}
use Rattle.std.proofs.lemmas.Bool.{cases_eq, cases_lt}
use Rattle.std.proofs.lemmas.List.{get_or_past}
use Rattle.wrp_town.specs.declared.town.Town.{Town}
use Rattle.wrp_town.specs.Arcs.{demands}
use Rattle.wrp_rules.specs.declared.record.Record.{Record}
use Rattle.wrp_rules.specs.declared.record.Record.TheVariants.{Split}
use Rattle.wrp_rules.specs.Nodes.{Node, Standing, root, start, after, node_at, at_most, at_least}
use Rattle.wrp_rules.specs.Rules.{broken_rule}
use Rattle.wrp_rules.specs.Lists.{is_valid}
use Rattle.wrp_laws.proofs.Boxes.{SplitsBy, are_split, change_of}
use Rattle.wrp_laws.proofs.CutRows.{goes_on_keeps}
use Rattle.wrp_progress.specs.Progress.{node_in}

abbrev AllowsFew : Town → Node → Type 0
AllowsFew town node = (arc : ℕ) → node.hi arc ≤ length (demands town)

choice_few : (t : Bool) (k n most : ℕ) → k ≤ most → n ≤ most → cond t k n ≤ most
choice_few true k n most few other = few
choice_few false k n most few other = other

module _ (town : Town) where
  split_few : (s : Standing) (node arc k : ℕ) → SplitsBy town s node arc k → ((i : ℕ) → AllowsFew town (node_at town s i)) → (i : ℕ) → AllowsFew town (node_at town (after town s (Split node arc k)) i)
  split_few s node arc k by few i a =
      let parent = node_at town s node in
      let are = are_split (root town) s.nodes node (at_most arc k parent) (at_least arc (k + 1) parent) by.there in
      let allows : Node → Type 0 = λ n. n.hi a ≤ length (demands town) in
      elim (cases_lt i (length s.nodes)) [
        | inl old ↦ subst (λ (f : ℕ → ℕ). f a ≤ length (demands town)) (sym (are.hi i old)) (few i a)
        | inr new ↦ elim (cases_eq i (length s.nodes)) [
          | inl first ↦ subst allows (sym (are.first_is i first)) (choice_few (a == arc) k (parent.hi a) (length (demands town)) (omega (arith, by.high, few node arc)) (few node a))
          | inr other ↦ elim (cases_eq i (length s.nodes + 1)) [
            | inl second ↦ subst allows (sym (are.second_is i second)) (few node a)
            | inr past ↦ subst allows (sym (get_or_past (after town s (Split node arc k)).nodes i (root town) (omega (arith, are.count)))) (omega arith)
          ]
        ]
      ]

  step_few : (s : Standing) (item : Record) → is_none (broken_rule town s item) ≡ true → ((i : ℕ) → AllowsFew town (node_at town s i)) → (i : ℕ) → AllowsFew town (node_at town (after town s item) i)
  step_few s item sound few =
      elim (change_of town s item sound) [
        | inl keeps ↦ λ i a. subst (λ (f : ℕ → ℕ). f a ≤ length (demands town)) (sym (keeps.hi i)) (few i a)
        | inr parts ↦ subst (λ (r : Record). (i : ℕ) → AllowsFew town (node_at town (after town s r) i)) (sym parts.is) (split_few s parts.node parts.arc parts.k parts.by few)
      ]

  starts_few : (i : ℕ) → AllowsFew town (node_at town (start town) i)
  starts_few zero a = omega arith
  starts_few (suc i) a = omega arith

  pub few_uses : (records : List Record) → is_valid town records ≡ true → (i arc : ℕ) → (node_in town records i).hi arc ≤ length (demands town)
  few_uses records valid = goes_on_keeps town (λ s. (i : ℕ) → AllowsFew town (node_at town s i)) step_few (start town) records valid starts_few
