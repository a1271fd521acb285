-- Demands by streets, and the ends of demands.
use Rattle.std.proofs.Common.{◌≡◌, ℕ, zero, suc, ◌+◌, ◌*◌, ◌%◌, ◌<◌, Bool, true, false, cond, ◌&&◌, not, ◌==◌, List, [], ◌∷◌, length, count_by, Contains, ap, refl, sym, ◌∙◌, inl, inr, arith, slice_get}
use Rattle.std.specs.Option.{option_map_or}
use Rattle.std.specs.List.{list_all}
use Rattle.std.proofs.lemmas.Bool.{false≢true}
use Rattle.std.proofs.lemmas.List.Sums.{sum_by-append}
use Rattle.std.proofs.lemmas.List.Elements.{Contains-append_cases}
use Rattle.wrp_town.specs.declared.street.Need.{Need}
use Rattle.wrp_town.specs.declared.street.Need.TheVariants.{No, Either, Forward, Backward, Both}
use Rattle.wrp_town.specs.declared.street.Street.{Street}
use Rattle.wrp_town.specs.declared.town.Town.{Town}
use Rattle.wrp_town.specs.Streets.{demands_at, demands_from}
use Rattle.wrp_town.specs.Arcs.{tail_of, head_of, demands}
use Rattle.wrp_town.proofs.Members.{inside_head, inside_tail, inside_none, member_passes}
use Rattle.wrp_town.proofs.ServiceLaws.{demand_arc_from}
use Rattle.wrp_town.proofs.TownLaws.{tail_of-below, head_of-below}
use Rattle.wrp_rules.specs.Sets.{arc_at}
use Rattle.wrp_laws.proofs.Thinning.{count_cons}
use Rattle.wrp_webs.specs.Webs.{sum_below, differ, degrees}
use Rattle.wrp_webs.specs.TownWebs.{demand_count, town_web}
use Rattle.wrp_webs.proofs.SumsBelow.{same_sum, sum_of_sums, sum_single, scaled_sum, zero_sum}

sum_front : (f : ℕ → ℕ) (n : ℕ) → sum_below f (suc n) ≡ f 0 + sum_below (λ i. f (suc i)) n
sum_front f zero = omega arith
sum_front f (suc n) = omega (arith, sum_front f n)

-- ---- a count of demands is a sum over streets

module _ (q : ℕ → Bool) (both : (s : ℕ) → q (2 * s) ≡ q (2 * s + 1)) where
  count_one : (s : ℕ) (need : Need) → count_by (λ d. q (arc_at d)) (demands_at s need) ≡ cond (q (2 * s)) (length (demands_at s need)) 0
  count_one s need = by need (q (2 * s)) refl (sym (both s))
    where
      by : (need : Need) (b : Bool) → q (2 * s) ≡ b → q (2 * s + 1) ≡ q (2 * s) → count_by (λ d. q (arc_at d)) (demands_at s need) ≡ cond (q (2 * s)) (length (demands_at s need)) 0
      by No true e back = sym (ap (λ (b : Bool). cond {A = ℕ} b 0 0) e)
      by No false e back = sym (ap (λ (b : Bool). cond {A = ℕ} b 0 0) e)
      by Either b e back = omega (arith, count_cons (λ d. q (arc_at d)) (2 * s ∷ (2 * s + 1) ∷ []) [])
      by Forward b e back = omega (arith, count_cons (λ d. q (arc_at d)) (2 * s ∷ []) [])
      by Backward b e back = omega (arith, count_cons (λ d. q (arc_at d)) ((2 * s + 1) ∷ []) [], ap (λ (b : Bool). cond {A = ℕ} b 1 0) back)
      by Both true e back =
          omega (
            arith,
            count_cons (λ d. q (arc_at d)) (2 * s ∷ []) (((2 * s + 1) ∷ []) ∷ []),
            count_cons (λ d. q (arc_at d)) ((2 * s + 1) ∷ []) [],
            ap (λ (b : Bool). cond {A = ℕ} b 1 0) back,
            ap (λ (b : Bool). cond {A = ℕ} b 1 0) e,
            ap (λ (b : Bool). cond {A = ℕ} b 2 0) e,
          )
      by Both false e back =
          omega (
            arith,
            count_cons (λ d. q (arc_at d)) (2 * s ∷ []) (((2 * s + 1) ∷ []) ∷ []),
            count_cons (λ d. q (arc_at d)) ((2 * s + 1) ∷ []) [],
            ap (λ (b : Bool). cond {A = ℕ} b 1 0) back,
            ap (λ (b : Bool). cond {A = ℕ} b 1 0) e,
            ap (λ (b : Bool). cond {A = ℕ} b 2 0) e,
          )

  abbrev of_street : ℕ → List Street → ℕ → ℕ
  of_street k streets i = cond (q (2 * (k + i))) (option_map_or (λ (s : Street). length (demands_at (k + i) s.need)) (slice_get streets i) 0) 0

  count_from : (k : ℕ) (streets : List Street) → count_by (λ d. q (arc_at d)) (demands_from k streets) ≡ sum_below (of_street k streets) (length streets)
  count_from k [] = refl
  count_from k (street ∷ streets) =
      let start : k + 0 ≡ k = omega arith in
      omega (
        arith,
        sum_by-append (λ d. cond (q (arc_at d)) 1 0) (demands_at k street.need) (demands_from (k + 1) streets),
        count_one k street.need,
        ap (λ (m : ℕ). cond (q (2 * m)) (length (demands_at m street.need)) 0) start,
        count_from (k + 1) streets,
        sum_front (of_street k (street ∷ streets)) (length streets),
        same_sum (of_street (k + 1) streets) (λ i. of_street k (street ∷ streets) (suc i)) (length streets)
            (λ i below. let next : k + 1 + i ≡ k + suc i = omega arith in ap (λ (m : ℕ). cond (q (2 * m)) (option_map_or (λ (s : Street). length (demands_at m s.need)) (slice_get streets i) 0) 0) next),
      )

  pub count_by_streets : (town : Town) → count_by (λ d. q (arc_at d)) (demands town) ≡ sum_below (λ s. cond (q (2 * s)) (demand_count town s) 0) (length town.streets)
  count_by_streets town =
      count_from 0 town.streets
      ∙ same_sum (of_street 0 town.streets) (λ s. cond (q (2 * s)) (demand_count town s) 0) (length town.streets)
      (λ i below. let start : 0 + i ≡ i = omega arith in ap (λ (m : ℕ). cond (q (2 * m)) (option_map_or (λ (s : Street). length (demands_at m s.need)) (slice_get town.streets i) 0) 0) start)

-- ---- ends of demands

one_end : (t a b : Bool) → cond t (cond {A = ℕ} (differ a b) 1 0) 0 + 2 * cond {A = ℕ} (t && a && b) 1 0 ≡ cond a (cond {A = ℕ} t 1 0) 0 + cond b (cond {A = ℕ} t 1 0) 0
one_end true true true = refl
one_end true true false = refl
one_end true false true = refl
one_end true false false = refl
one_end false true true = refl
one_end false true false = refl
one_end false false true = refl
one_end false false false = refl

two_ends : (a b : Bool) → cond {A = ℕ} (differ a b) 1 0 + 2 * cond {A = ℕ} (a && b) 1 0 ≡ cond {A = ℕ} a 1 0 + cond {A = ℕ} b 1 0
two_ends true true = refl
two_ends true false = refl
two_ends false true = refl
two_ends false false = refl

share_more : (t : Bool) (m n k : ℕ) → k ≡ m + n → cond t k 0 ≡ cond t m 0 + cond t n 0
share_more true m n k e = e
share_more false m n k e = refl

-- the junctions of a set at which a demand ends are as odd as whether it crosses the set
demand_parity : (set : ℕ → Bool) (a b n : ℕ) → a < n → b < n → sum_below (λ j. cond (set j) (cond {A = ℕ} (differ (a == j) (b == j)) 1 0) 0) n % 2 ≡ cond {A = ℕ} (differ (set a) (set b)) 1 0 % 2
demand_parity set a b n first second =
    omega (
      arith,
      sum_of_sums (λ j. cond (set j) (cond {A = ℕ} (differ (a == j) (b == j)) 1 0) 0) (λ j. 2 * cond {A = ℕ} (set j && a == j && b == j) 1 0) n,
      scaled_sum 2 (λ j. cond {A = ℕ} (set j && a == j && b == j) 1 0) n,
      sum_of_sums (λ j. cond (a == j) (cond {A = ℕ} (set j) 1 0) 0) (λ j. cond (b == j) (cond {A = ℕ} (set j) 1 0) 0) n,
      same_sum (λ j. cond (set j) (cond {A = ℕ} (differ (a == j) (b == j)) 1 0) 0 + 2 * cond {A = ℕ} (set j && a == j && b == j) 1 0)
          (λ j. cond (a == j) (cond {A = ℕ} (set j) 1 0) 0 + cond (b == j) (cond {A = ℕ} (set j) 1 0) 0) n (λ j below. one_end (set j) (a == j) (b == j)),
      sum_single (λ j. cond {A = ℕ} (set j) 1 0) a n first,
      sum_single (λ j. cond {A = ℕ} (set j) 1 0) b n second,
      two_ends (set a) (set b),
    )

module _ (town : Town) (set : ℕ → Bool) where
  abbrev ends_here : ℕ → List ℕ → Bool
  ends_here j d = differ (tail_of town (arc_at d) == j) (head_of town (arc_at d) == j)

  abbrev pub over : List ℕ → Bool
  over d = differ (set (tail_of town (arc_at d))) (set (head_of town (arc_at d)))

  ends_parity : (n : ℕ) (ds : List (List ℕ)) → ((d : List ℕ) → Contains ds d → (tail_of town (arc_at d) < n) × (head_of town (arc_at d) < n))
      → sum_below (λ j. cond (set j) (count_by (ends_here j) ds) 0) n % 2 ≡ count_by over ds % 2
  ends_parity n [] below = ap (λ (m : ℕ). m % 2) (zero_sum (λ j. cond {A = ℕ} (set j) 0 0) n (λ j less. nothing (set j)))
    where
      nothing : (b : Bool) → cond {A = ℕ} b 0 0 ≡ 0
      nothing true = refl
      nothing false = refl
  ends_parity n (d ∷ ds) below =
      omega (
        arith,
        count_cons over d ds,
        same_sum (λ j. cond (set j) (count_by (ends_here j) (d ∷ ds)) 0) (λ j. cond (set j) (cond {A = ℕ} (ends_here j d) 1 0) 0 + cond (set j) (count_by (ends_here j) ds) 0) n
            (λ j less. share_more (set j) (cond {A = ℕ} (ends_here j d) 1 0) (count_by (ends_here j) ds) (count_by (ends_here j) (d ∷ ds)) (count_cons (ends_here j) d ds)),
        sum_of_sums (λ j. cond (set j) (cond {A = ℕ} (ends_here j d) 1 0) 0) (λ j. cond (set j) (count_by (ends_here j) ds) 0) n,
        demand_parity set (tail_of town (arc_at d)) (head_of town (arc_at d)) n (below d (inside_head d ds)).0 (below d (inside_head d ds)).1,
        ends_parity n ds (λ c inside. below c (inside_tail d ds c inside)),
      )

-- the arc by which a demand is known is among the town's arcs
filled_at : (s : ℕ) (need : Need) → list_all (λ d. not (length d == 0)) (demands_at s need) ≡ true
filled_at s No = refl
filled_at s Either = refl
filled_at s Forward = refl
filled_at s Backward = refl
filled_at s Both = refl

filled_from : (s : ℕ) (streets : List Street) (d : List ℕ) → Contains (demands_from s streets) d → not (length d == 0) ≡ true
filled_from s [] d inside = absurd (inside_none d inside)
filled_from s (street ∷ streets) d inside =
    elim (Contains-append_cases (demands_at s street.need) (demands_from (s + 1) streets) d inside) [
      | inl here ↦ member_passes (λ d. not (length d == 0)) (demands_at s street.need) d (filled_at s street.need) here
      | inr there ↦ filled_from (s + 1) streets d there
    ]

first_inside : (d : List ℕ) → not (length d == 0) ≡ true → Contains d (arc_at d)
first_inside [] filled = absurd (false≢true filled)
first_inside (x ∷ d) filled = inside_head x d

pub known_arc_below : (town : Town) (d : List ℕ) → Contains (demands town) d → arc_at d < 2 * length town.streets
known_arc_below town d inside = let at = demand_arc_from 0 town.streets d (arc_at d) inside (first_inside d (filled_from 0 town.streets d inside)) in omega arith

-- an odd number of demands cross a set exactly where the sum of its degrees is odd
pub degrees_are_crossings : (town : Town) (e : ℕ) (x : ℕ → ℕ) (set : ℕ → Bool) → degrees (town_web town e x) set % 2 ≡ count_by (over town set) (demands town) % 2
degrees_are_crossings town e x set =
    ends_parity town set (length town.junctions) (demands town)
    (λ d inside. (tail_of-below town (arc_at d) (known_arc_below town d inside), head_of-below town (arc_at d) (known_arc_below town d inside)))
