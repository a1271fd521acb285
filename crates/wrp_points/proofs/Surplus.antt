-- The surplus of each junction, arc after arc; and that there is none where as much leaves as enters.
use Rattle.std.proofs.Common.{◌≡◌, ℕ, suc, ◌+◌, ◌*◌, ◌^◌, ◌<◌, ◌≤◌, Bool, true, false, cond, ◌||◌, ◌==◌, ℤ, pos, ◌+ℤ◌, ◌-ℤ◌, ◌*ℤ◌, neg_ℤ, unsigned_abs, List, [], ◌∷◌, length, get_or, take, filter, sum_by, Contains, ap, refl, sym, ◌∙◌, subst, inl, inr, ◌⊎◌, arith, eq-eqb}
use Rattle.std.specs.List.{All, list_any}
use Rattle.std.proofs.lemmas.Bool.{eqb-true, ne_eqb, or_cases, cases_eq, true≢false, false≢true}
use Rattle.std.proofs.lemmas.Int.{ints}
use Rattle.std.proofs.lemmas.List.{length-take}
use Rattle.std.proofs.lemmas.List.Elements.{All-contains, All-take}
use Rattle.std.proofs.lemmas.List.Sums.{sum_by-cons}
use Rattle.wrp_sums.specs.Sums.{sum_over}
use Rattle.wrp_sums.proofs.Integers.{linear, sized, size_of_product}
use Rattle.wrp_sums.proofs.SumsOver.{sum_over_more, size_of_sum_over}
use Rattle.wrp_sums.proofs.FirstNumbers.{inside_numbers_below}
use Rattle.wrp_town.specs.declared.town.Town.{Town}
use Rattle.wrp_town.specs.Arcs.{tail_of, head_of, legal_arcs, junctions}
use Rattle.wrp_town.proofs.Members.{all_from_members, member_passes}
use Rattle.wrp_rules.specs.Rows.{one_if, balance_row}
use Rattle.wrp_rules.specs.Rules.{number_at, arcs_at, is_balanced}
use Rattle.wrp_points.specs.Points.{AreNumbers, AreLegal}
use Rattle.wrp_points.specs.Balances.{surplus_at, surplus_of, HasSurplus, arc_at, AreEven, Shifts}
use Rattle.wrp_points.proofs.LegalArcs.{range_numbers}
use Rattle.wrp_points.proofs.NumberSums.{sum_by_numbers}

-- the arc has an end at the junction
abbrev pub touches : Town → ℕ → ℕ × ℕ → Bool
touches town j q = (tail_of town q.0 == j) || (head_of town q.0 == j)

abbrev coef : Town → ℕ → ℕ → ℤ
coef town j arc = (balance_row town j).coef arc

-- ---- how large it is

unit_size : (s t : Bool) → unsigned_abs (one_if s -ℤ one_if t) ≤ 1
unit_size true true = omega arith
unit_size true false = omega arith
unit_size false true = omega arith
unit_size false false = omega arith

pub surplus_small : (town : Town) (numbers : List (ℕ × ℕ)) (j : ℕ) → All (λ q. q.1 ≤ 2 ^ 72) numbers → unsigned_abs (surplus_of town numbers j) ≤ length numbers * 2 ^ 72
surplus_small town numbers j small =
    size_of_sum_over (λ (q : ℕ × ℕ). pos q.1 *ℤ coef town j q.0) (2 ^ 72) numbers
    (λ q inside.
    let own : q.1 ≤ 2 ^ 72 = All-contains (λ (r : ℕ × ℕ). r.1 ≤ 2 ^ 72) numbers q small inside in
    let product : unsigned_abs (pos q.1 *ℤ coef town j q.0) ≤ 2 ^ 72 * 1 = size_of_product (pos q.1) (coef town j q.0) (2 ^ 72) 1 own (unit_size (tail_of town q.0 == j) (head_of town q.0 == j)) in
    omega arith)

-- ---- pair after pair

both_shifts : (n : ℕ) (s t : Bool) (old : ℤ) → (old +ℤ cond s (pos n) (pos 0)) +ℤ cond t (neg_ℤ (pos n)) (pos 0) ≡ old +ℤ pos n *ℤ (one_if s -ℤ one_if t)
both_shifts n true true old = omega (arith, ints)
both_shifts n true false old = omega (arith, ints)
both_shifts n false true old = omega (arith, ints)
both_shifts n false false old = omega (arith, ints)

turned : (m n : ℕ) → (m == n) ≡ (n == m)
turned m n = elim (cases_eq m n) [ inl same ↦ eq-eqb m n same ∙ sym (eq-eqb n m (sym same)) | inr differs ↦ ne_eqb m n differs ∙ sym (ne_eqb n m (λ same. differs (sym same))) ]

pub surplus_more : (town : Town) (numbers : List (ℕ × ℕ)) (i tail head : ℕ) (d : ℕ × ℕ) (first second : ℤ) (old middle new : List ℤ) → i < length numbers → tail ≡ tail_of town (get_or numbers i d).0 → head ≡ head_of town (get_or numbers i d).0 → first ≡ pos (get_or numbers i d).1 → second ≡ neg_ℤ (pos (get_or numbers i d).1) → HasSurplus town (take i numbers) old → Shifts tail first old middle → Shifts head second middle new → HasSurplus town (take (i + 1) numbers) new
surplus_more town numbers i tail head d first second old middle new below tail_is head_is first_is second_is has out into = λ j.
    let q = get_or numbers i d in
    let out_is : surplus_at middle j ≡ surplus_at old j +ℤ cond (tail_of town q.0 == j) (pos q.1) (pos 0) =
    out j ∙ ap (λ (k : ℕ). surplus_at old j +ℤ cond (j == k) first (pos 0)) tail_is ∙ ap (λ (z : ℤ). surplus_at old j +ℤ cond (j == tail_of town q.0) z (pos 0)) first_is ∙ ap (λ (t : Bool). surplus_at old j +ℤ cond t (pos q.1) (pos 0)) (turned j (tail_of town q.0)) in
    let into_is : surplus_at new j ≡ surplus_at middle j +ℤ cond (head_of town q.0 == j) (neg_ℤ (pos q.1)) (pos 0) =
    into j ∙ ap (λ (k : ℕ). surplus_at middle j +ℤ cond (j == k) second (pos 0)) head_is ∙ ap (λ (z : ℤ). surplus_at middle j +ℤ cond (j == head_of town q.0) z (pos 0)) second_is ∙ ap (λ (t : Bool). surplus_at middle j +ℤ cond t (neg_ℤ (pos q.1)) (pos 0)) (turned j (head_of town q.0)) in
    into_is
    ∙ ap (λ (z : ℤ). z +ℤ cond (head_of town q.0 == j) (neg_ℤ (pos q.1)) (pos 0)) out_is
    ∙ both_shifts q.1 (tail_of town q.0 == j) (head_of town q.0 == j) (surplus_at old j)
    ∙ ap (λ (z : ℤ). z +ℤ pos q.1 *ℤ coef town j q.0) (has j)
    ∙ sym (sum_over_more (λ (r : ℕ × ℕ). pos r.1 *ℤ coef town j r.0) numbers i d below)

-- so far, and with one end more, it fits
pub surplus_fits : (town : Town) (numbers : List (ℕ × ℕ)) (i j : ℕ) (surplus : List ℤ) → AreNumbers (2 * length town.streets) numbers → HasSurplus town (take i numbers) surplus → unsigned_abs (surplus_at surplus j) ≤ 2 ^ 90
surplus_fits town numbers i j surplus are has =
    omega (arith, ap unsigned_abs (has j), surplus_small town (take i numbers) j (All-take (λ q. q.1 ≤ 2 ^ 72) i numbers are.small), length-take i numbers, are.few)

one_more_fits : (t : Bool) (old amount : ℤ) → unsigned_abs old ≤ 2 ^ 90 → unsigned_abs amount ≤ 2 ^ 72 → unsigned_abs (old +ℤ cond t amount (pos 0)) ≤ 2 ^ 100
one_more_fits true old amount small small_amount = omega (arith, sized)
one_more_fits false old amount small small_amount = omega (arith, sized)

pub shifted_fits : (town : Town) (numbers : List (ℕ × ℕ)) (i j junction : ℕ) (amount : ℤ) (old new : List ℤ) → AreNumbers (2 * length town.streets) numbers → HasSurplus town (take i numbers) old → unsigned_abs amount ≤ 2 ^ 72 → Shifts junction amount old new → unsigned_abs (surplus_at new j) ≤ 2 ^ 100
shifted_fits town numbers i j junction amount old new are has small shifts =
    subst (λ (z : ℤ). unsigned_abs z ≤ 2 ^ 100) (sym (shifts j)) (one_more_fits (j == junction) (surplus_at old j) amount (surplus_fits town numbers i j old are has) small)

-- ---- junctions that no listed arc touches

untouched_term : (n : ℕ) (s t : Bool) → (s || t) ≡ false → pos n *ℤ (one_if s -ℤ one_if t) ≡ pos 0
untouched_term n true t none = absurd (true≢false none)
untouched_term n false true none = absurd (true≢false none)
untouched_term n false false none = omega (arith, ints)

pub untouched : (town : Town) (numbers : List (ℕ × ℕ)) (j : ℕ) → list_any (touches town j) numbers ≡ false → surplus_of town numbers j ≡ pos 0
untouched town [] j none = refl
untouched town (q ∷ numbers) j none =
    let parts = or_none (touches town j q) (list_any (touches town j) numbers) none in
    omega (arith, linear, untouched_term q.1 (tail_of town q.0 == j) (head_of town q.0 == j) parts.0, untouched town numbers j parts.1)
  where
    or_none : (s t : Bool) → (s || t) ≡ false → (s ≡ false) × (t ≡ false)
    or_none true t none = absurd (true≢false none)
    or_none false t none = (refl, none)

pub touched_or_none : (town : Town) (numbers : List (ℕ × ℕ)) (surplus : List ℤ) → HasSurplus town numbers surplus → (j : ℕ) → (surplus_at surplus j ≡ pos 0) ⊎ (list_any (touches town j) numbers ≡ true)
touched_or_none town numbers surplus has j = by (list_any (touches town j) numbers) refl
  where
    by : (t : Bool) → list_any (touches town j) numbers ≡ t → (surplus_at surplus j ≡ pos 0) ⊎ (t ≡ true)
    by true e = inr refl
    by false e = inl (has j ∙ untouched town numbers j e)

-- ---- balance

sides : (f : ℕ → ℕ) (s t : ℕ → Bool) (xs : List ℕ) → sum_over (λ a. pos (f a) *ℤ (one_if (s a) -ℤ one_if (t a))) xs +ℤ pos (sum_by f (filter t xs)) ≡ pos (sum_by f (filter s xs))
sides f s t [] = refl
sides f s t (x ∷ xs) = by (s x) (t x) (sides f s t xs)
  where
    rest : ℤ
    rest = sum_over (λ a. pos (f a) *ℤ (one_if (s a) -ℤ one_if (t a))) xs

    by : (u v : Bool) → rest +ℤ pos (sum_by f (filter t xs)) ≡ pos (sum_by f (filter s xs)) → (pos (f x) *ℤ (one_if u -ℤ one_if v) +ℤ rest) +ℤ pos (sum_by f (cond v (x ∷ filter t xs) (filter t xs))) ≡ pos (sum_by f (cond u (x ∷ filter s xs) (filter s xs)))
    by true true same = omega (arith, ints, sum_by-cons f x (filter t xs), sum_by-cons f x (filter s xs))
    by true false same = omega (arith, ints, sum_by-cons f x (filter s xs))
    by false true same = omega (arith, ints, sum_by-cons f x (filter t xs))
    by false false same = omega (arith, ints)

-- the numbers that leave a junction, and those that enter it
abbrev out_of : Town → List (ℕ × ℕ) → ℕ → ℕ
out_of town numbers j = sum_by (number_at numbers) (arcs_at (tail_of town) j (legal_arcs town))

abbrev into : Town → List (ℕ × ℕ) → ℕ → ℕ
into town numbers j = sum_by (number_at numbers) (arcs_at (head_of town) j (legal_arcs town))

surplus_sides : (town : Town) (numbers : List (ℕ × ℕ)) (j : ℕ) → AreLegal town numbers → surplus_of town numbers j +ℤ pos (into town numbers j) ≡ pos (out_of town numbers j)
surplus_sides town numbers j legal =
    ap (λ (z : ℤ). z +ℤ pos (into town numbers j)) (sym (sum_by_numbers town numbers (coef town j) legal))
    ∙ sides (number_at numbers) (λ arc. tail_of town arc == j) (λ arc. head_of town arc == j) (legal_arcs town)

even_is : (town : Town) (numbers : List (ℕ × ℕ)) (j : ℕ) → AreLegal town numbers → surplus_of town numbers j ≡ pos 0 → out_of town numbers j ≡ into town numbers j
even_is town numbers j legal none = omega (arith, linear, surplus_sides town numbers j legal)

even_from : (town : Town) (numbers : List (ℕ × ℕ)) (j : ℕ) → AreLegal town numbers → out_of town numbers j ≡ into town numbers j → surplus_of town numbers j ≡ pos 0
even_from town numbers j legal same = omega (arith, linear, surplus_sides town numbers j legal)

-- the ends of listed arcs are even: every junction is
touched_even : (town : Town) (numbers : List (ℕ × ℕ)) (surplus : List ℤ) (j : ℕ) → ((i : ℕ) → i < length numbers → (surplus_at surplus (tail_of town (arc_at numbers i)) ≡ pos 0) × (surplus_at surplus (head_of town (arc_at numbers i)) ≡ pos 0)) → list_any (touches town j) numbers ≡ true → surplus_at surplus j ≡ pos 0
touched_even town [] surplus j even some = absurd (false≢true some)
touched_even town (q ∷ numbers) surplus j even some =
    elim (or_cases (touches town j q) (list_any (touches town j) numbers) some) [
      | inl here ↦ elim (or_cases (tail_of town q.0 == j) (head_of town q.0 == j) here) [
        | inl tail ↦ subst (λ k. surplus_at surplus k ≡ pos 0) (eqb-true _ j tail) (even 0 (omega arith)).0
        | inr head ↦ subst (λ k. surplus_at surplus k ≡ pos 0) (eqb-true _ j head) (even 0 (omega arith)).1
      ]
      | inr there ↦ touched_even town numbers surplus j (λ i below. even (suc i) (omega arith)) there
    ]

pub even_decides : (town : Town) (numbers : List (ℕ × ℕ)) (surplus : List ℤ) (result : Bool) → AreLegal town numbers → HasSurplus town numbers surplus → AreEven town numbers surplus result → result ≡ is_balanced town numbers
even_decides town numbers surplus true legal has even =
    sym (all_from_members (λ j. out_of town numbers j == into town numbers j) (junctions town)
    (λ j inside. eq-eqb _ _ (even_is town numbers j legal (sym (has j) ∙ elim (touched_or_none town numbers surplus has j) [ inl none ↦ none | inr some ↦ touched_even town numbers surplus j even some ]))))
even_decides town numbers surplus false legal has odd =
    sym (one_fails (is_balanced town numbers) (λ all. odd.2 (has odd.0 ∙ even_from town numbers odd.0 legal (eqb-true _ _ (member_passes (λ j. out_of town numbers j == into town numbers j) (junctions town) odd.0 all (junction_inside town odd.0 odd.1))))))
  where
    one_fails : (t : Bool) → (t ≡ true → ⊥) → t ≡ false
    one_fails true never = absurd (never refl)
    one_fails false never = refl

    junction_inside : (town : Town) (j : ℕ) → j < length town.junctions → Contains (junctions town) j
    junction_inside town j below = rw range_numbers (inside_numbers_below (length town.junctions) j below)
