-- The number of each arc at a point: pair after pair, how large it is, and sums over the legal arcs.
use Rattle.std.proofs.Common.{◌≡◌, ℕ, ◌+◌, ◌*◌, ◌^◌, ◌≤◌, Bool, true, false, cond, ◌==◌, ℤ, pos, ◌+ℤ◌, ◌*ℤ◌, List, [], ◌∷◌, length, Contains, sum_by, ap, refl, sym, ◌∙◌, inl, inr, ◌⊎◌, arith, eq-eqb}
use Rattle.std.specs.List.{All, list_all}
use Rattle.std.proofs.lemmas.Bool.{and_parts, ne_eqb, false≢true, cases_eq}
use Rattle.std.proofs.lemmas.Int.{ints}
use Rattle.std.proofs.lemmas.List.Elements.{All-weaker}
use Rattle.std.proofs.lemmas.List.Sums.{sum_by-cons, sum_by-le}
use Rattle.wrp_sums.specs.Sums.{sum_over}
use Rattle.wrp_sums.proofs.Integers.{linear, zero_times, +ℤ-*ℤ}
use Rattle.wrp_sums.proofs.SumsOver.{sum_over-ext, sum_over-pos, sum_over-+ℤ, sum_over-all_zero, sum_over_only, inside_head, inside_tail, passes_inside}
use Rattle.wrp_town.specs.declared.town.Town.{Town}
use Rattle.wrp_town.specs.Arcs.{is_legal, legal_arcs}
use Rattle.wrp_rules.specs.Rules.{number_at}
use Rattle.wrp_points.specs.Points.{AreNumbers, AreLegal}
use Rattle.wrp_points.proofs.LegalArcs.{legal_once}

-- the number that a pair gives an arc
abbrev share : ℕ → ℕ × ℕ → ℕ
share arc q = cond (q.0 == arc) q.1 0

pub number_at-cons : (q : ℕ × ℕ) (numbers : List (ℕ × ℕ)) (arc : ℕ) → number_at (q ∷ numbers) arc ≡ share arc q + number_at numbers arc
number_at-cons q numbers arc = sum_by-cons (share arc) q numbers

share_small : (arc most : ℕ) (q : ℕ × ℕ) → q.1 ≤ most → share arc q ≤ most
share_small arc most q small = by (q.0 == arc)
  where
    by : (t : Bool) → cond t q.1 0 ≤ most
    by true = small
    by false = omega arith

-- no number is large
pub number_small : (numbers : List (ℕ × ℕ)) (arc : ℕ) → All (λ q. q.1 ≤ 2 ^ 72) numbers → number_at numbers arc ≤ length numbers * 2 ^ 72
number_small numbers arc small =
    sum_by-le (share arc) (2 ^ 72) numbers (All-weaker (λ (q : ℕ × ℕ). q.1 ≤ 2 ^ 72) (λ (q : ℕ × ℕ). share arc q ≤ 2 ^ 72) (λ q small. share_small arc (2 ^ 72) q small) numbers small)

pub numbers_fit : (arcs : ℕ) (numbers : List (ℕ × ℕ)) (arc : ℕ) → AreNumbers arcs numbers → number_at numbers arc ≤ 2 ^ 100
numbers_fit arcs numbers arc are = omega (arith, number_small numbers arc are.small, are.few)

-- an arc that isn't listed has number 0
pub number_none : (numbers : List (ℕ × ℕ)) (arc : ℕ) → ((q : ℕ × ℕ) → Contains numbers q → q.0 ≡ arc → ⊥) → number_at numbers arc ≡ 0
number_none [] arc others = refl
number_none (q ∷ numbers) arc others =
    number_at-cons q numbers arc
    ∙ rw (ne_eqb q.0 arc (others q (inside_head q numbers))) (omega (arith, number_none numbers arc (λ r inside. others r (inside_tail q numbers r inside))))

-- an arc is listed, or has number 0
pub listed_or_none : (numbers : List (ℕ × ℕ)) (arc : ℕ) → ((q : ℕ × ℕ) × Contains numbers q × (q.0 ≡ arc)) ⊎ (number_at numbers arc ≡ 0)
listed_or_none [] arc = inr refl
listed_or_none (q ∷ numbers) arc = by (cases_eq q.0 arc) (listed_or_none numbers arc)
  where
    by : (q.0 ≡ arc) ⊎ (q.0 ≡ arc → ⊥) → ((r : ℕ × ℕ) × Contains numbers r × (r.0 ≡ arc)) ⊎ (number_at numbers arc ≡ 0) → ((r : ℕ × ℕ) × Contains (q ∷ numbers) r × (r.0 ≡ arc)) ⊎ (number_at (q ∷ numbers) arc ≡ 0)
    by (inl same) rest = inl (q, inside_head q numbers, same)
    by (inr differs) (inl (r, inside, is)) = inl (r, inside_tail q numbers r inside, is)
    by (inr differs) (inr none) = inr (number_at-cons q numbers arc ∙ rw (ne_eqb q.0 arc differs) (omega arith))

-- the listed arcs are legal, so an illegal one has number 0
pub illegal_none : (town : Town) (numbers : List (ℕ × ℕ)) (arc : ℕ) → AreLegal town numbers → is_legal town arc ≡ false → number_at numbers arc ≡ 0
illegal_none town numbers arc legal illegal =
    number_none numbers arc (λ q inside same. false≢true (sym illegal ∙ ap (is_legal town) (sym same) ∙ passes_inside (λ (r : ℕ × ℕ). is_legal town r.0) numbers legal q inside))

-- ---- sums over the legal arcs

one_pair : (town : Town) (q : ℕ × ℕ) (x : ℕ → ℤ) → is_legal town q.0 ≡ true → sum_over (λ a. pos (share a q) *ℤ x a) (legal_arcs town) ≡ pos q.1 *ℤ x q.0
one_pair town q x legal =
    sum_over_only (λ a. pos (share a q) *ℤ x a) q.0 (legal_arcs town) (legal_once town q.0 legal)
    (λ a inside differs. rw (ne_eqb q.0 a (λ same. differs (sym same))) (zero_times (x a)))
    ∙ rw (eq-eqb q.0 q.0 refl) refl

more_of : (m n : ℕ) (x : ℤ) → pos (m + n) *ℤ x ≡ pos m *ℤ x +ℤ pos n *ℤ x
more_of m n x = ap (λ (z : ℤ). z *ℤ x) (plus m n) ∙ +ℤ-*ℤ (pos m) (pos n) x
  where
    plus : (m n : ℕ) → pos (m + n) ≡ pos m +ℤ pos n
    plus m n = omega (arith, linear)

-- a sum over the legal arcs by their numbers is one over the pairs
pub sum_by_numbers : (town : Town) (numbers : List (ℕ × ℕ)) (x : ℕ → ℤ) → AreLegal town numbers → sum_over (λ a. pos (number_at numbers a) *ℤ x a) (legal_arcs town) ≡ sum_over (λ q. pos q.1 *ℤ x q.0) numbers
sum_by_numbers town [] x legal = sum_over-all_zero (λ a. pos 0 *ℤ x a) (legal_arcs town) (λ a inside. zero_times (x a))
sum_by_numbers town (q ∷ numbers) x legal =
    let parts = and_parts (is_legal town q.0) (list_all (λ r. is_legal town r.0) numbers) legal in
    sum_over-ext (λ a. pos (number_at (q ∷ numbers) a) *ℤ x a) (λ a. pos (share a q) *ℤ x a +ℤ pos (number_at numbers a) *ℤ x a)
    (λ a. ap (λ (n : ℕ). pos n *ℤ x a) (number_at-cons q numbers a) ∙ more_of (share a q) (number_at numbers a) (x a)) (legal_arcs town)
    ∙ sum_over-+ℤ (λ a. pos (share a q) *ℤ x a) (λ a. pos (number_at numbers a) *ℤ x a) (legal_arcs town)
    ∙ ap (λ (z : ℤ). z +ℤ sum_over (λ a. pos (number_at numbers a) *ℤ x a) (legal_arcs town)) (one_pair town q x parts.0)
    ∙ ap (λ (z : ℤ). pos q.1 *ℤ x q.0 +ℤ z) (sum_by_numbers town numbers x parts.1)

product : (m n : ℕ) → pos n *ℤ pos m ≡ pos (m * n)
product m n = omega (arith, ints)

-- the same for costs
pub cost_by_numbers : (town : Town) (numbers : List (ℕ × ℕ)) (cost : ℕ → ℕ) → AreLegal town numbers → sum_by (λ a. cost a * number_at numbers a) (legal_arcs town) ≡ sum_by (λ q. cost q.0 * q.1) numbers
cost_by_numbers town numbers cost legal = same_pos (sum_by (λ a. cost a * number_at numbers a) (legal_arcs town)) (sum_by (λ q. cost q.0 * q.1) numbers)
    (sym (sum_over-pos (λ a. cost a * number_at numbers a) (legal_arcs town))
    ∙ sum_over-ext (λ a. pos (cost a * number_at numbers a)) (λ a. pos (number_at numbers a) *ℤ pos (cost a)) (λ a. sym (product (cost a) (number_at numbers a))) (legal_arcs town)
    ∙ sum_by_numbers town numbers (λ a. pos (cost a)) legal
    ∙ sum_over-ext (λ (q : ℕ × ℕ). pos q.1 *ℤ pos (cost q.0)) (λ q. pos (cost q.0 * q.1)) (λ q. product (cost q.0) q.1) numbers
    ∙ sum_over-pos (λ q. cost q.0 * q.1) numbers)
  where
    same_pos : (m n : ℕ) → pos m ≡ pos n → m ≡ n
    same_pos m n same = cc
