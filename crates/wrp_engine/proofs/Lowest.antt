-- The least bound of a list in which a node is open.
use Rattle.std.proofs.Common.{◌≡◌, ℕ, true, List, Option, Some, None, ℤ, pos, ◌≤ℤ◌, ◌<ℤ◌, unsigned_abs, ap, refl, sym, ◌∙◌, subst, arith}
use Rattle.std.specs.Prelude.{IsSome}
use Rattle.std.specs.Option.{option_map, option_or, unwrap_or}
use Rattle.std.proofs.lemmas.Bool.{and_parts, false≢true}
use Rattle.std.proofs.lemmas.List.{get_or_default}
use Rattle.wrp_sums.proofs.Integers.{tests}
use Rattle.wrp_town.specs.declared.town.Town.{Town}
use Rattle.wrp_rules.specs.declared.record.Record.{Record}
use Rattle.wrp_rules.specs.Nodes.{Node, root, Standing, standing, is_open, is_below, lower}
use Rattle.wrp_rules.specs.declared.record.End.TheVariants.{Unfinished}
use Rattle.wrp_rules.specs.Lists.{is_valid, agrees}
use Rattle.wrp_tree.specs.Indexes.{IsFirstOpen}
use Rattle.wrp_tree.proofs.Indexing.{least_is}
use Rattle.wrp_progress.specs.Progress.{node_in}
use Rattle.wrp_progress.proofs.Lows.{not_negative}
use Rattle.wrp_progress.proofs.Ends.{unfinished_agrees}
use Rattle.wrp_progress.proofs.Keeping.{lt_told}
use Rattle.wrp_point_tour.proofs.Times.{size_is}

module _ (town : Town) (records : List Record) (node : ℕ) (first : IsFirstOpen town (standing town records).nodes (standing town records).upper node) where
  abbrev s : Standing
  s = standing town records

  pub lowest : lower s ≡ Some (node_in town records node).bound
  lowest =
      ap (λ (o : Option ℤ). option_or o (option_map pos s.upper))
      (least_is (is_open s.upper) s.nodes (node_in town records node).bound node (root town) first.there first.told refl
      (λ k d below told.
      let same = get_or_default s.nodes k d (root town) below in
      omega (arith, tests, ap (λ (n : Node). n.bound) same, first.least k below (subst (λ (n : Node). is_open s.upper n ≡ true) same told))))

  pub lowest_is_below : (high : ℕ) → s.upper ≡ Some high → (node_in town records node).bound <ℤ pos high
  lowest_is_below high upper =
      lt_told (node_in town records node).bound (pos high)
      (subst (λ (u : Option ℕ). is_below (node_in town records node).bound u ≡ true) upper (and_parts _ _ first.told).1)

  pub lowest_is_not_negative : is_valid town records ≡ true → pos 0 ≤ℤ (node_in town records node).bound
  lowest_is_not_negative valid = not_negative town records valid node

  -- what the least bound is told as
  pub low_is : (told : Option ℤ) (low : ℤ) → told ≡ lower s → low ≡ unwrap_or told (pos 0) → low ≡ (node_in town records node).bound
  low_is told low is value = value ∙ ap (λ (o : Option ℤ). unwrap_or o (pos 0)) (is ∙ lowest)

  pub unfinished : (low : ℤ) (high : ℕ) → low ≡ (node_in town records node).bound → pos 0 ≤ℤ low → s.upper ≡ Some high → agrees s (Unfinished (unsigned_abs low) high) ≡ true
  unfinished low high is positive upper =
      unfinished_agrees town records (unsigned_abs low) high node (record { there = first.there; told = first.told }) upper
      (lowest ∙ ap (λ (z : ℤ). Some z) (sym is ∙ size_is low positive))

-- the cost of the cheapest tour, as it is told
pub high_is : (upper told : Option ℕ) (high : ℕ) → IsSome upper → told ≡ upper → high ≡ unwrap_or told 0 → upper ≡ Some high
high_is None told high some is value = absurd (false≢true some)
high_is (Some cost) told high some is value = ap (λ (n : ℕ). Some n) (sym (value ∙ ap (λ (o : Option ℕ). unwrap_or o 0) is))
