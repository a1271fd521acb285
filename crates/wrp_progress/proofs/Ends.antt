-- Whether a node of a list is open, and the ends that agree with the list.
use Rattle.std.proofs.Common.{◌≡◌, ℕ, zero, suc, ◌+◌, ◌<◌, ◌≤◌, ◌==◌, Bool, true, false, cond, ◌&&◌, not, List, [], ◌∷◌, length, get_or, Option, None, Some, ℤ, pos, int_le, ap, refl, sym, ◌∙◌, subst, arith}
use Rattle.std.specs.Option.{option_map_or}
use Rattle.std.specs.List.{filter}
use Rattle.std.proofs.lemmas.Bool.{and_from, eq-eqb, ne_eqb, le-leb}
use Rattle.wrp_town.specs.declared.town.Town.{Town}
use Rattle.wrp_rules.specs.declared.record.Record.{Record}
use Rattle.wrp_rules.specs.declared.record.End.TheVariants.{Optimal, Unfinished}
use Rattle.wrp_rules.specs.Nodes.{Node, root, Standing, node_at, is_open, open_nodes, standing, lower}
use Rattle.wrp_rules.specs.Rules.{int_eq}
use Rattle.wrp_rules.specs.Lists.{is_upper, is_done, agrees}
use Rattle.wrp_progress.specs.Progress.{IsOpenIn, node_in, node_count}

module _ {X : Type 0} (p : X → Bool) (d : X) where
  none_pass : (xs : List X) → ((i : ℕ) → i < length xs → p (get_or xs i d) ≡ false) → length (filter p xs) ≡ 0
  none_pass [] none = refl
  none_pass (x ∷ xs) none =
      ap (λ (t : Bool). length (cond t (x ∷ filter p xs) (filter p xs))) (none 0 (omega arith))
      ∙ none_pass xs (λ i below. none (suc i) (omega arith))

  some_pass : (xs : List X) (i : ℕ) → i < length xs → p (get_or xs i d) ≡ true → 0 < length (filter p xs)
  some_pass [] i below told = absurd (omega arith)
  some_pass (x ∷ xs) zero below told =
      subst (λ (t : Bool). 0 < length (cond t (x ∷ filter p xs) (filter p xs))) (sym told) (omega arith)
  some_pass (x ∷ xs) (suc i) below told = by (p x) (some_pass xs i (omega arith) told)
    where
      by : (t : Bool) → 0 < length (filter p xs) → 0 < length (cond t (x ∷ filter p xs) (filter p xs))
      by true rest = omega arith
      by false rest = rest

module _ (town : Town) (records : List Record) where
  abbrev s : Standing
  s = standing town records

  has_upper : (cost : ℕ) → s.upper ≡ Some cost → is_upper s cost ≡ true
  has_upper cost upper = ap (λ (u : Option ℕ). option_map_or (λ other. other == cost) u false) upper ∙ eq-eqb cost cost refl

  pub optimal_agrees : (cost : ℕ) → ((i : ℕ) → i < node_count town records → is_open s.upper (node_in town records i) ≡ false) → s.upper ≡ Some cost → agrees s (Optimal cost) ≡ true
  optimal_agrees cost none upper =
      and_from (is_done s) (is_upper s cost)
      (eq-eqb (length (open_nodes s)) 0 (none_pass (is_open s.upper) (root town) s.nodes none))
      (has_upper cost upper)

  pub unfinished_agrees : (low high i : ℕ) → IsOpenIn town records i → s.upper ≡ Some high → lower s ≡ Some (pos low) → agrees s (Unfinished low high) ≡ true
  unfinished_agrees low high i opened upper lowest =
      let some = some_pass (is_open s.upper) (root town) s.nodes i opened.there opened.told in
      and_from (not (is_done s) && is_upper s high) (option_map_or (int_eq (pos low)) (lower s) false)
      (and_from (not (is_done s)) (is_upper s high)
      (ap not (ne_eqb (length (open_nodes s)) 0 (omega (arith, some))))
      (has_upper high upper))
      (ap (λ (o : Option ℤ). option_map_or (int_eq (pos low)) o false) lowest ∙ same low)
    where
      same : (n : ℕ) → int_eq (pos n) (pos n) ≡ true
      same n = and_from (int_le (pos n) (pos n)) (int_le (pos n) (pos n)) (le-leb n n (omega arith)) (le-leb n n (omega arith))
