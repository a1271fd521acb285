-- The end that agrees with a valid list holds, whatever its records.
use Rattle.std.proofs.Common.{◌≡◌, ℕ, true, false, ◌&&◌, not, ◌==◌, List, [], ◌∷◌, ◌++◌, length, fold, Option, None, Some, is_none, IfSome, ℤ, pos, int_le, ap, refl, sym, ◌∙◌, subst, arith, append_assoc}
use Rattle.std.specs.Option.{option_map, option_map_or, option_or}
use Rattle.std.specs.List.{list_all}
use Rattle.std.proofs.lemmas.Bool.{and_parts, eqb-true, false≢true}
use Rattle.wrp_sums.proofs.Integers.{linear, tests}
use Rattle.wrp_town.specs.declared.town.Town.{Town}
use Rattle.wrp_town.specs.Walks.{IsLeastCost, HasNoTour}
use Rattle.wrp_rules.specs.declared.record.Record.{Record}
use Rattle.wrp_rules.specs.declared.record.Record.TheVariants.{Labels}
use Rattle.wrp_rules.specs.declared.record.End.{End}
use Rattle.wrp_rules.specs.declared.record.End.TheVariants.{Optimal, Infeasible, Unfinished}
use Rattle.wrp_rules.specs.Nodes.{Node, Standing, start, after, standing, open_nodes, least_bound, lower}
use Rattle.wrp_rules.specs.Rules.{broken_rule, is_labels, int_eq}
use Rattle.wrp_rules.specs.Lists.{goes_on, is_valid, is_upper, is_done, agrees}
use Rattle.wrp_rules.specs.Proofs.{Version, IsProofBy}
use Rattle.wrp_laws.specs.Ends.{IsBetween, EndHolds}
use Rattle.wrp_laws.proofs.Rules.{HasTour}
use Rattle.wrp_laws.proofs.Lower.{valid_holds, lower_bounds_every_tour}
use Rattle.wrp_laws.proofs.Labels.{labels_exclude}

upper_is : (upper : Option ℕ) (cost : ℕ) → option_map_or (λ other. other == cost) upper false ≡ true → upper ≡ Some cost
upper_is None cost same = absurd (false≢true same)
upper_is (Some other) cost same = ap Some (eqb-true other cost same)

tour_of_upper : (town : Town) (upper : Option ℕ) (cost : ℕ) → upper ≡ Some cost → IfSome upper (HasTour town) → HasTour town cost
tour_of_upper town upper cost is there = subst (λ (u : Option ℕ). IfSome u (HasTour town)) is there

no_bound : (nodes : List Node) → (length nodes == 0) ≡ true → least_bound nodes ≡ None
no_bound [] none = refl
no_bound (node ∷ nodes) none = absurd (omega (arith, eqb-true (length (node ∷ nodes)) 0 none))

lower_is : (low : ℕ) (o : Option ℤ) → option_map_or (int_eq (pos low)) o false ≡ true → o ≡ Some (pos low)
lower_is low None same = absurd (false≢true same)
lower_is low (Some b) same =
    let both = and_parts (int_le (pos low) b) (int_le b (pos low)) same in ap Some (at_most_same b both.0 both.1)
  where
    at_most_same : (b : ℤ) → int_le (pos low) b ≡ true → int_le b (pos low) ≡ true → b ≡ pos low
    at_most_same b one two = omega (arith, tests)

optimal_end : (town : Town) (records : List Record) (cost : ℕ) → is_valid town records ≡ true → agrees (standing town records) (Optimal cost) ≡ true → IsLeastCost town cost
optimal_end town records cost valid agreed =
    let s = standing town records in
    let parts = and_parts (is_done s) (is_upper s cost) agreed in
    let upper : s.upper ≡ Some cost = upper_is s.upper cost parts.1 in
    let none : least_bound (open_nodes s) ≡ None = no_bound (open_nodes s) parts.0 in
    let low : lower s ≡ Some (pos cost) = ap (λ (o : Option ℤ). option_or o (option_map pos s.upper)) none ∙ ap (λ (u : Option ℕ). option_map pos u) upper in
    let there = tour_of_upper town s.upper cost upper (valid_holds town records valid).upper in
    record {
      tour = there.tour;
      serves = there.serves;
      attained = there.attained;
      least = λ steps tour. let bound = lower_bounds_every_tour town records (pos cost) steps valid low tour in omega (arith, linear);
    }

unfinished_end : (town : Town) (records : List Record) (low high : ℕ) → is_valid town records ≡ true → agrees (standing town records) (Unfinished low high) ≡ true → IsBetween town low high
unfinished_end town records low high valid agreed =
    let s = standing town records in
    let parts = and_parts (not (is_done s) && is_upper s high) (option_map_or (int_eq (pos low)) (lower s) false) agreed in
    let first = and_parts (not (is_done s)) (is_upper s high) parts.0 in
    let there = tour_of_upper town s.upper high (upper_is s.upper high first.1) (valid_holds town records valid).upper in
    record {
      tour = there.tour;
      serves = there.serves;
      attained = there.attained;
      least = λ steps tour. let bound = lower_bounds_every_tour town records (pos low) steps valid (lower_is low (lower s) parts.1) tour in omega (arith, linear);
    }

-- ---- infeasible

labels_only : (town : Town) (s : Standing) (item : Record) → is_labels item ≡ true → is_none (broken_rule town s item) ≡ true → HasNoTour town
labels_only town s (Labels labels streets) is sound = labels_exclude town s labels streets sound
labels_only town s _ is sound = absurd (false≢true is)

records_stand : (town : Town) (s : Standing) (items : List Record) → (fold (after town) s items).records ≡ s.records ++ items
records_stand town s [] = sym (nothing_more s.records)
  where
    nothing_more : {X : Type 0} (xs : List X) → xs ++ [] ≡ xs
    nothing_more [] = refl
    nothing_more (x ∷ xs) = ap (λ ys. x ∷ ys) (nothing_more xs)
records_stand town s (item ∷ items) = records_stand town (after town s item) items ∙ append_assoc s.records (item ∷ []) items

only_labels : (town : Town) (records : List Record) → is_valid town records ≡ true → (length records == 1) ≡ true → list_all is_labels records ≡ true → HasNoTour town
only_labels town [] valid single labels = absurd (false≢true single)
only_labels town (item ∷ items) valid single labels =
    labels_only town (start town) item (and_parts (is_labels item) (list_all is_labels items) labels).0 (and_parts (is_none (broken_rule town (start town) item)) (goes_on town (after town (start town) item) items) valid).0

infeasible_end : (town : Town) (records : List Record) → is_valid town records ≡ true → agrees (standing town records) Infeasible ≡ true → HasNoTour town
infeasible_end town records valid agreed =
    let same : (standing town records).records ≡ records = records_stand town (start town) records in
    let parts = and_parts (length (standing town records).records == 1) (list_all is_labels (standing town records).records) agreed in
    only_labels town records valid (ap (λ (xs : List Record). length xs == 1) (sym same) ∙ parts.0) (ap (list_all is_labels) (sym same) ∙ parts.1)

-- ---- all ends

pub valid_end : (town : Town) (records : List Record) (end : End) → is_valid town records ≡ true → agrees (standing town records) end ≡ true → EndHolds town end
valid_end town records (Optimal cost) valid agreed = optimal_end town records cost valid agreed
valid_end town records Infeasible valid agreed = infeasible_end town records valid agreed
valid_end town records (Unfinished low high) valid agreed = unfinished_end town records low high valid agreed

pub proved_end : (town : Town) (version : Version) (records : List Record) (end : End) (bytes : List ℕ) → IsProofBy town version records end bytes → EndHolds town end
proved_end town version records end bytes proved = valid_end town records end proved.valid proved.agreeing
