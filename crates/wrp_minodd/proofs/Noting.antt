-- Sets of junctions with label 1, as records.
use Rattle.std.proofs.Common.{◌≡◌, ◌≢◌, ℕ, ◌<◌, ◌≤◌, true, false, List, [], ◌∷◌, length, filter, get_or, ap, sym, ◌∙◌, subst, inl, inr, arith, length-append}
use Rattle.std.specs.List.{All, range_with_len}
use Rattle.std.proofs.lemmas.Bool.{true≢false}
use Rattle.std.proofs.lemmas.List.{get_or_default}
use Rattle.std.proofs.lemmas.List.Elements.{All-append}
use Rattle.std.proofs.lemmas.List.Quantifiers.{all_pairs_push}
use Rattle.wrp_town.specs.declared.town.Town.{Town}
use Rattle.wrp_town.specs.Arcs.{junctions}
use Rattle.wrp_rules.specs.declared.record.Record.{Record}
use Rattle.wrp_rules.specs.declared.record.Record.TheVariants.{Odd}
use Rattle.wrp_rows.specs.declared.point.Point.{Point}
use Rattle.wrp_rows.specs.Points.{IsPoint}
use Rattle.wrp_webs.specs.Webs.{cut, IsOdd}
use Rattle.wrp_webs.specs.TownWebs.{MeetsServices}
use Rattle.wrp_webs.proofs.Found.{listed_is}
use Rattle.wrp_webs.proofs.MinOdd.{some_is_broken}
use Rattle.wrp_odd.specs.declared.tally.Tally.{Tally}
use Rattle.wrp_odd.specs.Points.{denominator_of, numbers_of}
use Rattle.wrp_odd.specs.Crossing.{tally_at, AreTallies, is_broken}
use Rattle.wrp_odd.specs.Found.{IsBrokenOddCut}
use Rattle.wrp_odd.proofs.OddSets.{told}
use Rattle.wrp_odd.proofs.Records.{odd_cut}
use Rattle.wrp_odd.proofs.ClassCuts.{on_legal, class_broken, tally_read}
use Rattle.wrp_minodd.specs.Looks.{web_of, inner, IsAddedOnce, AreBrokenOnce}

module _ (town : Town) (point : Point) (labels : List ℕ) (tallies : List Tally) (is : IsPoint town point) (are : AreTallies town (numbers_of point) labels (length town.streets) tallies)
    (two : 1 < length town.junctions) (tally : Tally) (read : tally ≡ get_or tallies 1 tally) where
  tally_is : tally ≡ tally_at tallies 1
  tally_is = tally_read tallies 1 tally read (omega (arith, are.long))

  -- a tally that is broken gives a record
  pub noted : length labels ≡ length town.junctions → (set : List ℕ) → set ≡ filter (inner labels) (range_with_len 0 (length labels)) → (den : ℕ) → den ≡ denominator_of point → true ≡ is_broken den tally → IsBrokenOddCut town point (Odd set)
  noted long set set_is den den_is broken =
      subst (λ (xs : List ℕ). IsBrokenOddCut town point (Odd xs)) (sym (set_is ∙ ap (λ (n : ℕ). filter (inner labels) (range_with_len 0 n)) long))
      (odd_cut town point (filter (inner labels) (junctions town)) (class_broken town point labels tallies is are 1 two (sym (broken ∙ ap (λ (d : ℕ). is_broken d tally) den_is ∙ ap (is_broken (denominator_of point)) tally_is))))

  -- and the tally of a light odd set is broken
  pub not_noted : (den : ℕ) → den ≡ denominator_of point → false ≡ is_broken den tally → MeetsServices town (denominator_of point) (numbers_of point) → IsOdd (web_of town point) (inner labels) → cut (web_of town point) (inner labels) < denominator_of point → ⊥
  not_noted den den_is whole met odd light =
      let set = filter (inner labels) (junctions town) in
      let found = some_is_broken town (denominator_of point) (numbers_of point) (on_legal town point is) met (inner labels) odd light in
      true≢false (sym (told town (numbers_of point) set (inner labels) (λ i below. listed_is (inner labels) (length town.junctions) i below) (denominator_of point) (on_legal town point is) (tally_at tallies 1) (are.sums 1 two) (are.demands 1 two) found.odd found.broken)
      ∙ sym (whole ∙ ap (λ (d : ℕ). is_broken d tally) den_is ∙ ap (is_broken (denominator_of point)) tally_is))

all_one : (P : Record → Type 0) (x : Record) → P x → All P (x ∷ [])
all_one P x holds k d below = by k below
  where
    by : (k : ℕ) → k < 1 → P (get_or (x ∷ []) k d)
    by k under = subst (λ (i : ℕ). P (get_or (x ∷ []) i d)) (sym (zero_is k under)) holds
      where
        zero_is : (i : ℕ) → i < 1 → i ≡ 0
        zero_is i less = omega arith

-- the records stay broken and apart with one more that is broken
pub added_broken : (town : Town) (point : Point) (record_of : Record) (old new : List Record) → AreBrokenOnce town point old → IsBrokenOddCut town point record_of → IsAddedOnce record_of old new → AreBrokenOnce town point new
added_broken town point item old new are cut (inl there) = subst (AreBrokenOnce town point) (sym there.1) are
added_broken town point item old new are cut (inr more) = subst (AreBrokenOnce town point) (sym more.1) (record {
  broken = All-append (IsBrokenOddCut town point) old (item ∷ []) are.broken (all_one (IsBrokenOddCut town point) item cut);
  apart = all_pairs_push (λ (a b : Record). a ≢ b) old item are.apart (λ k d below same. more.0 (k, below, default_same old k d item below ∙ same));
})
  where
    default_same : (xs : List Record) (k : ℕ) (d e : Record) → k < length xs → get_or xs k e ≡ get_or xs k d
    default_same xs k d e below = get_or_default xs k e d below

pub added_some : (item : Record) (old new : List Record) → IsAddedOnce item old new → (length old ≤ length new) × (0 < length new)
added_some item old new (inl there) = (omega (arith, ap (λ (xs : List Record). length xs) there.1), omega (arith, ap (λ (xs : List Record). length xs) there.1, there.0.1))
added_some item old new (inr more) =
    (omega (arith, ap (λ (xs : List Record). length xs) more.1, length-append old (item ∷ [])), omega (arith, ap (λ (xs : List Record). length xs) more.1, length-append old (item ∷ [])))
