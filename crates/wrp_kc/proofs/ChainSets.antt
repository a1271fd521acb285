-- The sets of a candidate make a chain, where enough demands join its ends.
use Rattle.std.proofs.Common.{◌≡◌, ◌≢◌, ℕ, zero, suc, ◌+◌, ◌-◌, ◌*◌, ◌%◌, ◌<◌, ◌≤◌, Bool, true, false, cond, ◌&&◌, ◌||◌, not, ◌==◌, nat_lt, nat_le, List, length, map, slice_index, Option, Some, None, Contains, ap, refl, sym, ◌∙◌, subst, inl, inr, ◌⊎◌, arith, eq-eqb}
use Rattle.std.specs.Option.{option_map_or}
use Rattle.std.specs.List.{list_all, list_any, range_with_len}
use Rattle.std.proofs.lemmas.Bool.{and_from, false≢true, or_left, or_right, cases_eq, cases_lt, ne_eqb, lt-ltb, le-ltb, le-leb}
use Rattle.std.proofs.lemmas.Option.{same_Some}
use Rattle.std.proofs.lemmas.List.FromFn.{length-map-range_with_len, get_or-map-range_with_len}
use Rattle.wrp_sums.proofs.FirstNumbers.{inside_numbers_below}
use Rattle.wrp_town.specs.declared.town.Town.{Town}
use Rattle.wrp_town.specs.Arcs.{tail_of, head_of, is_required}
use Rattle.wrp_town.proofs.Members.{any_from_member}
use Rattle.wrp_town.proofs.TownLaws.{tail_of-below, head_of-below}
use Rattle.wrp_rules.specs.Rows.{joins_ends, is_held, inner_sets_hold, keeps_set, streets_keep_sets, joining_demands, is_chain}
use Rattle.wrp_rules.specs.Rules.{is_partition}
use Rattle.wrp_parts.specs.RequiredParts.{AreParts, part_at}
use Rattle.wrp_webs.proofs.LegalSums.{range_numbers}
use Rattle.wrp_kc.specs.Candidates.{set_of_part, set_at, sets_for}
use Rattle.wrp_kc.proofs.Parts.{IsWithin, part_low, required_within, street_within}

-- ---- numbers of sets

own_set : (count own : ℕ) → set_of_part count own own ≡ count
own_set count own = ap (λ (b : Bool). cond b count (cond (nat_lt own own) (own + 1) own)) (eq-eqb own own refl)

lower_set : (count own part : ℕ) → part < own → set_of_part count own part ≡ part + 1
lower_set count own part less =
    ap (λ (b : Bool). cond b count (cond (nat_lt part own) (part + 1) part)) (ne_eqb part own (λ same. absurd (omega arith))) ∙ ap (λ (b : Bool). cond b (part + 1) part) (lt-ltb part own less)

higher_set : (count own part : ℕ) → own < part → set_of_part count own part ≡ part
higher_set count own part more =
    ap (λ (b : Bool). cond b count (cond (nat_lt part own) (part + 1) part)) (ne_eqb part own (λ same. absurd (omega arith))) ∙ ap (λ (b : Bool). cond b (part + 1) part) (le-ltb part own (omega arith))

-- no set of a part is above the count
set_low : (count own part : ℕ) → own < count → part < count → set_of_part count own part ≤ count
set_low count own part first second = elim (cases_eq part own) [
  | inl same ↦ omega (arith, ap (set_of_part count own) same, own_set count own)
  | inr other ↦ (
      elim (cases_lt part own) [
        | inl less ↦ omega (arith, lower_set count own part less)
        | inr more ↦ omega (arith, higher_set count own part (omega arith))
      ]
      )
]

-- each inner set is that of a part
inner_part : (count own i : ℕ) → own < count → 1 ≤ i → i < count → (part : ℕ) × (part < count) × (part ≢ own) × (set_of_part count own part ≡ i)
inner_part count own i first low below = elim (cases_lt own i) [
  | inl more ↦ (i, below, (λ same. absurd (omega arith)), higher_set count own i more)
  | inr less ↦ (i - 1, omega arith, (λ same. absurd (omega arith)), lower_set count own (i - 1) (omega arith) ∙ omega arith)
]

module _ (town : Town) (count : ℕ) (of : List (Option ℕ)) (parts : AreParts town count of) (own u : ℕ) (has : part_at of u ≡ Some own) where
  abbrev at : ℕ → ℕ
  at = set_at count of own u

  abbrev sets : List ℕ
  sets = sets_for town count of own u

  pub sets_long : length sets ≡ length town.junctions
  sets_long = length-map-range_with_len at 0 (length town.junctions)

  pub set_is : (j : ℕ) → j < length town.junctions → slice_index sets j ≡ at j
  set_is j below = get_or-map-range_with_len at 0 (length town.junctions) j j 0 below (omega arith)

  own_below : own < count
  own_below = part_low town count of parts u own has

  at_own : at u ≡ 0
  at_own = ap (λ (b : Bool). cond b 0 (option_map_or (set_of_part count own) (part_at of u) count)) (eq-eqb u u refl)

  at_part : (j part : ℕ) → j ≢ u → part_at of j ≡ Some part → at j ≡ set_of_part count own part
  at_part j part other is =
      ap (λ (b : Bool). cond b 0 (option_map_or (set_of_part count own) (part_at of j) count)) (ne_eqb j u other) ∙ ap (λ (o : Option ℕ). option_map_or (set_of_part count own) o count) is

  at_none : (j : ℕ) → j ≢ u → part_at of j ≡ None → at j ≡ count
  at_none j other is =
      ap (λ (b : Bool). cond b 0 (option_map_or (set_of_part count own) (part_at of j) count)) (ne_eqb j u other) ∙ ap (λ (o : Option ℕ). option_map_or (set_of_part count own) o count) is

  at_low : (j : ℕ) → at j ≤ count
  at_low j = elim (cases_eq j u) [
    | inl same ↦ omega (arith, ap at same, at_own)
    | inr other ↦ by (part_at of j) refl other
  ]
    where
      by : (o : Option ℕ) → part_at of j ≡ o → j ≢ u → at j ≤ count
      by None is other = omega (arith, at_none j other is)
      by (Some part) is other = omega (arith, at_part j part other is, set_low count own part own_below (part_low town count of parts j part is))

  all_low : (n a : ℕ) → list_all (λ i. nat_le i count) (map at (range_with_len a n)) ≡ true
  all_low zero a = refl
  all_low (suc n) a = and_from (nat_le (at a) count) (list_all (λ i. nat_le i count) (map at (range_with_len (a + 1) n))) (le-leb (at a) count (at_low a)) (all_low n (a + 1))

  pub sets_low : list_all (λ i. nat_le i count) sets ≡ true
  sets_low = all_low (length town.junctions) 0

  pub parted : 3 ≤ count → is_partition town count sets ≡ true
  parted three =
      and_from ((length sets == length town.junctions) && nat_le 3 count) (list_all (λ i. nat_le i count) sets)
      (and_from (length sets == length town.junctions) (nat_le 3 count) (eq-eqb (length sets) (length town.junctions) sets_long) (le-leb 3 count three)) sets_low

  -- ---- the conditions of a chain

  -- the sets of a street's ends
  abbrev tail_set : ℕ → ℕ
  tail_set s = slice_index sets (tail_of town (2 * s))

  abbrev head_set : ℕ → ℕ
  head_set s = slice_index sets (head_of town (2 * s))

  differs : (j part : ℕ) → part ≢ own → part_at of j ≡ Some part → j ≢ u
  differs j part other is same = other (same_Some part own (sym is ∙ ap (part_at of) same ∙ has))

  -- a street within another part lies in the part's set
  within_held : (part s i : ℕ) → part ≢ own → IsWithin town of part s → set_of_part count own part ≡ i → is_held town sets i s ≡ true
  within_held part s i other within set =
      and_from (is_required town s && (tail_set s == i)) (head_set s == i)
      (and_from (is_required town s) (tail_set s == i) within.required
      (eq-eqb (tail_set s) i (set_is (tail_of town (2 * s)) (tail_of-below town (2 * s) (omega (arith, within.below))) ∙ at_part (tail_of town (2 * s)) part (differs (tail_of town (2 * s)) part other within.tail) within.tail ∙ set)))
      (eq-eqb (head_set s) i (set_is (head_of town (2 * s)) (head_of-below town (2 * s) (omega (arith, within.below))) ∙ at_part (head_of town (2 * s)) part (differs (head_of town (2 * s)) part other within.head) within.head ∙ set))

  one_holds : (i : ℕ) → 1 ≤ i → i < count → list_any (is_held town sets i) (range_with_len 0 (length town.streets)) ≡ true
  one_holds i low below =
      let part = inner_part count own i own_below low below in
      let street = street_within town count of parts part.0 part.1 in
      any_from_member (is_held town sets i) (range_with_len 0 (length town.streets)) street.0
      (subst (λ (xs : List ℕ). Contains xs street.0) (sym (range_numbers (length town.streets))) (inside_numbers_below (length town.streets) street.0 street.1.below))
      (within_held part.0 street.0 i part.2 street.1 part.3)

  all_hold : (n a : ℕ) → 1 ≤ a → a + n ≤ count → list_all (λ i. list_any (is_held town sets i) (range_with_len 0 (length town.streets))) (range_with_len a n) ≡ true
  all_hold zero a low most = refl
  all_hold (suc n) a low most =
      and_from (list_any (is_held town sets a) (range_with_len 0 (length town.streets))) (list_all (λ i. list_any (is_held town sets i) (range_with_len 0 (length town.streets))) (range_with_len (a + 1) n))
      (one_holds a low (omega arith)) (all_hold n (a + 1) (omega arith) (omega arith))

  inner_hold : 3 ≤ count → inner_sets_hold town count sets ≡ true
  inner_hold three = all_hold (count - 1) 1 (omega arith) (omega arith)

  -- a required street keeps its set, or joins the first and the last
  abbrev passes : ℕ → Bool
  passes s = not (is_required town s) || joins_ends town count sets (2 * s) || keeps_set sets town s

  passing : (r j k : Bool) → (r ≡ true → (j ≡ true) ⊎ (k ≡ true)) → (not r || j || k) ≡ true
  passing false j k any = refl
  passing true true k any = refl
  passing true false true any = refl
  passing true false false any = elim (any refl) [ inl wrong ↦ absurd (false≢true wrong) | inr wrong ↦ absurd (false≢true wrong) ]

  street_passes : (s : ℕ) → s < length town.streets → passes s ≡ true
  street_passes s below = passing (is_required town s) (joins_ends town count sets (2 * s)) (keeps_set sets town s)
      (λ required. let part = required_within town count of parts s below required in by part.0 part.1.tail part.1.head (cases_eq (tail_of town (2 * s)) u) (cases_eq (head_of town (2 * s)) u))
    where
      tail_is : tail_set s ≡ at (tail_of town (2 * s))
      tail_is = set_is (tail_of town (2 * s)) (tail_of-below town (2 * s) (omega arith))

      head_is : head_set s ≡ at (head_of town (2 * s))
      head_is = set_is (head_of town (2 * s)) (head_of-below town (2 * s) (omega arith))

      own_last : (j part : ℕ) → part_at of u ≡ Some part → part_at of j ≡ Some part → j ≢ u → at j ≡ count
      own_last j part same is other = at_part j part other is ∙ ap (set_of_part count own) (same_Some part own (sym same ∙ has)) ∙ own_set count own

      by : (part : ℕ) → part_at of (tail_of town (2 * s)) ≡ Some part → part_at of (head_of town (2 * s)) ≡ Some part → (tail_of town (2 * s) ≡ u) ⊎ (tail_of town (2 * s) ≡ u → ⊥) → (head_of town (2 * s) ≡ u) ⊎ (head_of town (2 * s) ≡ u → ⊥)
          → (joins_ends town count sets (2 * s) ≡ true) ⊎ (keeps_set sets town s ≡ true)
      by part tail head (inl first) (inl second) = inr (eq-eqb (tail_set s) (head_set s) (tail_is ∙ ap at (first ∙ sym second) ∙ sym head_is))
      by part tail head (inl first) (inr second) = inl (or_left ((tail_set s == 0) && (head_set s == count)) ((tail_set s == count) && (head_set s == 0))
          (and_from (tail_set s == 0) (head_set s == count) (eq-eqb (tail_set s) 0 (tail_is ∙ ap at first ∙ at_own))
          (eq-eqb (head_set s) count (head_is ∙ own_last (head_of town (2 * s)) part (ap (part_at of) (sym first) ∙ tail) head second))))
      by part tail head (inr first) (inl second) = inl (or_right ((tail_set s == 0) && (head_set s == count)) ((tail_set s == count) && (head_set s == 0))
          (and_from (tail_set s == count) (head_set s == 0) (eq-eqb (tail_set s) count (tail_is ∙ own_last (tail_of town (2 * s)) part (ap (part_at of) (sym second) ∙ head) tail first))
          (eq-eqb (head_set s) 0 (head_is ∙ ap at second ∙ at_own))))
      by part tail head (inr first) (inr second) = inr (eq-eqb (tail_set s) (head_set s) (tail_is ∙ at_part (tail_of town (2 * s)) part first tail ∙ sym (head_is ∙ at_part (head_of town (2 * s)) part second head)))

  all_pass : (n a : ℕ) → a + n ≤ length town.streets → list_all passes (range_with_len a n) ≡ true
  all_pass zero a most = refl
  all_pass (suc n) a most = and_from (passes a) (list_all passes (range_with_len (a + 1) n)) (street_passes a (omega arith)) (all_pass n (a + 1) (omega arith))

  streets_keep : streets_keep_sets town count sets ≡ true
  streets_keep = all_pass (length town.streets) 0 (omega arith)

  -- so the demands that join its ends decide
  pub chained : 3 ≤ count → joining_demands town count sets % 2 ≡ 0 → 2 ≤ joining_demands town count sets → is_chain town count sets ≡ true
  chained three even two =
      let joining = joining_demands town count sets in
      and_from (inner_sets_hold town count sets && (joining % 2 == 0) && nat_le 2 joining) (streets_keep_sets town count sets)
      (and_from (inner_sets_hold town count sets && (joining % 2 == 0)) (nat_le 2 joining)
      (and_from (inner_sets_hold town count sets) (joining % 2 == 0) (inner_hold three) (eq-eqb (joining % 2) 0 even)) (le-leb 2 joining two)) streets_keep
