-- The numbers of the record of a point are the point's.
use Rattle.std.proofs.Common.{◌≡◌, ◌≢◌, ℕ, zero, suc, ◌+◌, ◌<◌, ◌≤◌, ◌==◌, Bool, true, false, not, cond, pos, unsigned_abs, List, [], ◌∷◌, map, length, ap, refl, sym, ◌∙◌, inl, inr, arith, eq-eqb}
use Rattle.std.specs.List.{filter, sum_by, range_with_len, list_all}
use Rattle.std.proofs.lemmas.Bool.{ne_eqb, eqb-true, cases_eq, cases_lt, and_from, true≢false}
use Rattle.std.proofs.lemmas.List.{get_or_past}
use Rattle.std.proofs.lemmas.List.FromFn.{sum_by-map-range_with_len_more}
use Rattle.std.proofs.lemmas.List.Sums.{sum_by-cons}
use Rattle.wrp_town.specs.declared.town.Town.{Town}
use Rattle.wrp_town.specs.Arcs.{is_legal}
use Rattle.wrp_rules.specs.Rules.{number_at}
use Rattle.wrp_rows.specs.declared.point.Point.{Point}
use Rattle.wrp_rows.specs.Points.{IsPoint}
use Rattle.wrp_odd.specs.Points.{numbers_of}
use Rattle.wrp_box.specs.Points.{pairs_of}

-- what a pair adds to the number of an arc
abbrev term : ℕ → ℕ × ℕ → ℕ
term arc q = cond (q.0 == arc) q.1 0

abbrev is_some : ℕ × ℕ → Bool
is_some q = not (q.1 == 0)

nothing : (t : Bool) (n : ℕ) → n ≡ 0 → cond t n 0 ≡ 0
nothing true n none = none
nothing false n none = refl

-- pairs whose number is 0 add nothing
left_out : (arc : ℕ) (q : ℕ × ℕ) (qs : List (ℕ × ℕ)) (t : Bool) → (q.1 == 0) ≡ t → sum_by (term arc) (filter is_some qs) ≡ sum_by (term arc) qs
    → sum_by (term arc) (cond (not t) (q ∷ filter is_some qs) (filter is_some qs)) ≡ sum_by (term arc) (q ∷ qs)
left_out arc q qs true none same =
    let zero_term : term arc q ≡ 0 = nothing (q.0 == arc) q.1 (eqb-true q.1 0 none) in
    omega (arith, same, sum_by-cons (term arc) q qs, zero_term)
left_out arc q qs false some same = omega (arith, same, sum_by-cons (term arc) q qs, sum_by-cons (term arc) q (filter is_some qs))

some_add : (arc : ℕ) (qs : List (ℕ × ℕ)) → sum_by (term arc) (filter is_some qs) ≡ sum_by (term arc) qs
some_add arc [] = refl
some_add arc (q ∷ qs) = left_out arc q qs (q.1 == 0) refl (some_add arc qs)

module _ (x : ℕ → ℕ) (arc : ℕ) where
  abbrev pair : ℕ → ℕ × ℕ
  pair a = (a, x a)

  abbrev total : ℕ → ℕ
  total n = sum_by (term arc) (map pair (range_with_len 0 n))

  total_more : (n : ℕ) → total (suc n) ≡ total n + cond (n == arc) (x n) 0
  total_more n = ap total (next n) ∙ sum_by-map-range_with_len_more (term arc) pair 0 n n (omega arith)
    where
      next : (k : ℕ) → suc k ≡ k + 1
      next k = omega arith

  none_before : (n : ℕ) → n ≤ arc → total n ≡ 0
  none_before zero h = refl
  none_before (suc n) h =
      let other : n ≢ arc = omega arith in
      omega (arith, total_more n, none_before n (omega arith), ap (λ (t : Bool). cond t (x n) 0) (ne_eqb n arc other))

  once_behind : (n : ℕ) → arc < n → total n ≡ x arc
  once_behind zero h = absurd (omega arith)
  once_behind (suc n) h = elim (cases_eq n arc) [
    | inl same ↦ omega (arith, total_more n, none_before n (omega arith), ap (λ (t : Bool). cond t (x n) 0) (eq-eqb n arc same), ap x same)
    | inr other ↦ omega (arith, total_more n, once_behind n (omega arith), ap (λ (t : Bool). cond t (x n) 0) (ne_eqb n arc other))
  ]

pub number_of_pairs : (point : Point) (arc : ℕ) → number_at (pairs_of point) arc ≡ numbers_of point arc
number_of_pairs point arc =
    let x = numbers_of point in
    let n = length point.at in
    some_add arc (map (pair x arc) (range_with_len 0 n))
    ∙ elim (cases_lt arc n) [
      | inl within ↦ once_behind x arc n within
      | inr past ↦ none_before x arc n past ∙ sym (ap unsigned_abs (get_or_past point.at arc (pos 0) past))
    ]

-- and no pair names an illegal arc
module _ (town : Town) (point : Point) (is : IsPoint town point) where
  abbrev listed : ℕ → ℕ × ℕ
  listed arc = (arc, numbers_of point arc)

  abbrev names_legal : ℕ × ℕ → Bool
  names_legal q = is_legal town q.0

  legal_first : (arc : ℕ) (qs : List (ℕ × ℕ)) (t l : Bool) → (numbers_of point arc == 0) ≡ t → is_legal town arc ≡ l → list_all names_legal qs ≡ true → list_all names_legal (cond (not t) (listed arc ∷ qs) qs) ≡ true
  legal_first arc qs true l none legal others = others
  legal_first arc qs false true some legal others = and_from (is_legal town arc) (list_all names_legal qs) legal others
  legal_first arc qs false false some illegal others =
      absurd (true≢false (sym (eq-eqb (numbers_of point arc) 0 (ap unsigned_abs (is.illegal arc illegal))) ∙ some))

  legal_pairs : (arcs : List ℕ) → list_all names_legal (filter is_some (map listed arcs)) ≡ true
  legal_pairs [] = refl
  legal_pairs (arc ∷ arcs) = legal_first arc (filter is_some (map listed arcs)) (numbers_of point arc == 0) (is_legal town arc) refl refl (legal_pairs arcs)

  pub pairs_legal : list_all (λ q. is_legal town q.0) (pairs_of point) ≡ true
  pairs_legal = legal_pairs (range_with_len 0 (length point.at))
