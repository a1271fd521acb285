-- Sets whose tally is broken, as Odd records that a point breaks.
use Rattle.std.proofs.Common.{◌≡◌, ℕ, ◌-◌, ◌^◌, ◌%◌, ◌<◌, Bool, true, false, not, ◌==◌, ◌&&◌, ◌||◌, nat_lt, nat_le, List, [], ◌∷◌, length, filter, map, get_or, ap, refl, sym, ◌∙◌, subst, arith}
use Rattle.std.specs.Prelude.{unsigned_abs}
use Rattle.std.specs.List.{range_with_len}
use Rattle.std.proofs.lemmas.Bool.{and_from, and_parts, ltb-true, lt-ltb, le-leb, true≢false}
use Rattle.std.proofs.lemmas.List.{get_or_default}
use Rattle.wrp_town.specs.declared.town.Town.{Town}
use Rattle.wrp_town.specs.Arcs.{junctions, demands}
use Rattle.wrp_town.proofs.TownLaws.{few_junctions}
use Rattle.wrp_rules.specs.declared.record.Record.TheVariants.{Odd}
use Rattle.wrp_rules.specs.Rows.{odd_row}
use Rattle.wrp_rules.specs.Rules.{all_below}
use Rattle.wrp_rules.specs.Sets.{is_in, crosses, arc_at, crossing_demands}
use Rattle.wrp_graph.proofs.Rows.{row_at}
use Rattle.wrp_laws.proofs.Crossings.{count_by_zero}
use Rattle.wrp_rows.specs.declared.point.Point.{Point}
use Rattle.wrp_rows.specs.Points.{IsPoint}
use Rattle.wrp_webs.specs.Webs.{class}
use Rattle.wrp_webs.specs.Searching.{reading}
use Rattle.wrp_webs.specs.TownWebs.{IsOnLegal, IsBrokenOdd}
use Rattle.wrp_webs.proofs.Found.{listed_is}
use Rattle.wrp_webs.proofs.MinOdd.{passing_ascends, passing_below}
use Rattle.wrp_odd.specs.declared.tally.Tally.{Tally}
use Rattle.wrp_odd.specs.Points.{denominator_of, numbers_of, Breaks}
use Rattle.wrp_odd.specs.Crossing.{tally_at, AreTallies, is_broken}
use Rattle.wrp_odd.specs.Found.{IsBrokenOddCut, IsOddSet, first_of}
use Rattle.wrp_odd.proofs.OddSets.{tells_odd, tells_broken, told}
use Rattle.wrp_odd.proofs.Records.{odd_cut, set_short}

pub on_legal : (town : Town) (point : Point) → IsPoint town point → IsOnLegal town (numbers_of point)
on_legal town point is = λ arc illegal. ap unsigned_abs (is.illegal arc illegal)

-- a set that an odd number of demands cross isn't empty
none_cross : (town : Town) → crossing_demands town [] ≡ 0
none_cross town = count_by_zero (λ demand. crosses town [] (arc_at demand)) (demands town) (λ demand inside crosses. true≢false (sym crosses))

pub set_begins : (town : Town) (set : List ℕ) → all_below (length town.junctions) set ≡ true → IsOddSet town set → (0 < length set) × (first_of set < length town.junctions)
set_begins town [] below odd = absurd (true≢false (sym odd ∙ ap (λ (k : ℕ). not (k % 2 == 0)) (none_cross town)))
set_begins town (j ∷ js) below odd = (omega arith, ltb-true j (length town.junctions) (and_parts (nat_lt j (length town.junctions)) (all_below (length town.junctions) js) below).0)

module _ (town : Town) (point : Point) (labels : List ℕ) (tallies : List Tally) (is : IsPoint town point) (are : AreTallies town (numbers_of point) labels (length town.streets) tallies) where
  abbrev pub class_set : ℕ → List ℕ
  class_set c = filter (class (reading labels) c) (junctions town)

  class_is : (c i : ℕ) → i < length town.junctions → is_in (class_set c) i ≡ class (reading labels) c i
  class_is c i below = listed_is (class (reading labels) c) (length town.junctions) i below

  pub class_broken : (c : ℕ) → c < length town.junctions → is_broken (denominator_of point) (tally_at tallies c) ≡ true → IsBrokenOdd town (denominator_of point) (numbers_of point) (class_set c)
  class_broken c below broken = record {
    is_set = passing_ascends (class (reading labels) c) 0 (length town.junctions) (2 ^ 32 - 1) (omega (arith, few_junctions town));
    below = passing_below (class (reading labels) c) 0 (length town.junctions) (length town.junctions) (omega arith);
    odd = tells_odd town (numbers_of point) (class_set c) (class (reading labels) c) (class_is c) (denominator_of point) (on_legal town point is) (tally_at tallies c) (are.sums c below) (are.demands c below) broken;
    broken = tells_broken town (numbers_of point) (class_set c) (class (reading labels) c) (class_is c) (denominator_of point) (on_legal town point is) (tally_at tallies c) (are.sums c below) (are.demands c below) broken;
  }

  -- where each junction has a label of its own
  module _ (own : (j : ℕ) → j < length town.junctions → reading labels j ≡ j) where
    single_is : (j i : ℕ) → i < length town.junctions → is_in (j ∷ []) i ≡ class (reading labels) j i
    single_is j i below = or_none (i == j) ∙ ap (λ (k : ℕ). k == j) (sym (own i below))
      where
        or_none : (b : Bool) → (b || false) ≡ b
        or_none true = refl
        or_none false = refl

    pub single_broken : (j : ℕ) → j < length town.junctions → is_broken (denominator_of point) (tally_at tallies j) ≡ true → IsBrokenOdd town (denominator_of point) (numbers_of point) (j ∷ [])
    single_broken j below broken = record {
      is_set = and_from (nat_le j (2 ^ 32 - 1) && true) true (and_from (nat_le j (2 ^ 32 - 1)) true (le-leb j (2 ^ 32 - 1) (omega (arith, few_junctions town))) refl) refl;
      below = and_from (nat_lt j (length town.junctions)) true (lt-ltb j (length town.junctions) below) refl;
      odd = tells_odd town (numbers_of point) (j ∷ []) (class (reading labels) j) (single_is j) (denominator_of point) (on_legal town point is) (tally_at tallies j) (are.sums j below) (are.demands j below) broken;
      broken = tells_broken town (numbers_of point) (j ∷ []) (class (reading labels) j) (single_is j) (denominator_of point) (on_legal town point is) (tally_at tallies j) (are.sums j below) (are.demands j below) broken;
    }

    pub single_told : (j : ℕ) → j < length town.junctions → IsOddSet town (j ∷ []) → Breaks town point (odd_row town (j ∷ [])) → is_broken (denominator_of point) (tally_at tallies j) ≡ true
    single_told j below odd breaks = told town (numbers_of point) (j ∷ []) (class (reading labels) j) (single_is j) (denominator_of point) (on_legal town point is) (tally_at tallies j) (are.sums j below) (are.demands j below) odd breaks

-- what a set that is added owes
pub record IsReady (town : Town) (point : Point) (set : List ℕ) : Type 0 where
  pub some : 0 < length set
  pub first : first_of set < length town.junctions
  pub few : length set < 2 ^ 32
  pub cut : IsBrokenOddCut town point (Odd set)

pub is_ready : (town : Town) (point : Point) (set : List ℕ) → IsBrokenOdd town (denominator_of point) (numbers_of point) set → IsReady town point set
is_ready town point set broken =
    let begins = set_begins town set broken.below broken.odd in
    record { some = begins.0; first = begins.1; few = omega (arith, few_junctions town, set_short (length town.junctions) set broken.is_set broken.below); cut = odd_cut town point set broken }

-- a tally that was read
pub tally_read : (tallies : List Tally) (c : ℕ) (tally : Tally) → tally ≡ get_or tallies c tally → c < length tallies → tally ≡ tally_at tallies c
tally_read tallies c tally read below = read ∙ get_or_default tallies c tally (record { sum = 0; demands = 0 }) below

pub ready_class : (town : Town) (point : Point) (labels : List ℕ) (tallies : List Tally) → IsPoint town point → AreTallies town (numbers_of point) labels (length town.streets) tallies
    → length labels ≡ length town.junctions → (rows : List (List ℕ)) → rows ≡ map (λ c. filter (class (reading labels) c) (range_with_len 0 (length labels))) (range_with_len 0 (length labels))
    → (c : ℕ) → c < length town.junctions → (set : List ℕ) → set ≡ get_or rows c [] → (tally : Tally) → tally ≡ get_or tallies c tally → (den : ℕ) → den ≡ denominator_of point → true ≡ is_broken den tally → IsReady town point set
ready_class town point labels tallies is are long rows rows_are c below set set_is tally read den den_is broken =
    let same : set ≡ filter (class (reading labels) c) (range_with_len 0 (length labels)) = set_is ∙ row_at (length labels) (λ c. filter (class (reading labels) c) (range_with_len 0 (length labels))) rows c rows_are (omega (arith, long)) in
    subst (IsReady town point) (sym (same ∙ ap (λ (n : ℕ). filter (class (reading labels) c) (range_with_len 0 n)) long))
    (is_ready town point (class_set town point labels tallies is are c) (class_broken town point labels tallies is are c below (sym (broken ∙ ap (λ (d : ℕ). is_broken d tally) den_is ∙ ap (is_broken (denominator_of point)) (tally_read tallies c tally read (omega (arith, are.long)))))))

pub ready_single : (town : Town) (point : Point) (labels : List ℕ) (tallies : List Tally) → IsPoint town point → AreTallies town (numbers_of point) labels (length town.streets) tallies
    → ((j : ℕ) → j < length town.junctions → reading labels j ≡ j) → (c : ℕ) → c < length town.junctions → (tally : Tally) → tally ≡ get_or tallies c tally → (den : ℕ) → den ≡ denominator_of point → true ≡ is_broken den tally → IsReady town point (c ∷ [])
ready_single town point labels tallies is are own c below tally read den den_is broken =
    is_ready town point (c ∷ []) (single_broken town point labels tallies is are own c below (sym (broken ∙ ap (λ (d : ℕ). is_broken d tally) den_is ∙ ap (is_broken (denominator_of point)) (tally_read tallies c tally read (omega (arith, are.long))))))

-- a single junction whose tally isn't broken
pub not_single : (town : Town) (point : Point) (labels : List ℕ) (tallies : List Tally) → IsPoint town point → AreTallies town (numbers_of point) labels (length town.streets) tallies
    → ((j : ℕ) → j < length town.junctions → reading labels j ≡ j) → (c : ℕ) → c < length town.junctions → (tally : Tally) → tally ≡ get_or tallies c tally → (den : ℕ) → den ≡ denominator_of point → false ≡ is_broken den tally
    → IsOddSet town (c ∷ []) → Breaks town point (odd_row town (c ∷ [])) → ⊥
not_single town point labels tallies is are own c below tally read den den_is whole odd breaks =
    true≢false (sym (single_told town point labels tallies is are own c below odd breaks) ∙ sym (whole ∙ ap (λ (d : ℕ). is_broken d tally) den_is ∙ ap (is_broken (denominator_of point)) (tally_read tallies c tally read (omega (arith, are.long)))))
