-- A sparse row whose terms stand on listed arcs.
use Rattle.std.proofs.Common.{◌≡◌, ℕ, zero, suc, ◌+◌, ◌≤◌, Bool, true, false, not, cond, ◌&&◌, ◌==◌, ◌<◌, ℤ, pos, ◌*ℤ◌, unsigned_abs, List, [], ◌∷◌, ◌++◌, length, get_or, take, filter, nat_eq, Contains, map, count_by, ap, refl, sym, ◌∙◌, subst, arith}
use Rattle.std.specs.List.{All, list_any}
use Rattle.std.proofs.lemmas.Map.Views.{Contains-from_any}
use Rattle.std.proofs.lemmas.Bool.{eq-eqb, eqb-true, not-false, true≢false}
use Rattle.std.proofs.lemmas.List.{take_more, flat_map_more}
use Rattle.std.proofs.lemmas.List.Concat.{flat_map-cons}
use Rattle.std.proofs.lemmas.List.Elements.{All-map, All-filter}
use Rattle.std.proofs.lemmas.List.Sums.{sum_by-cons}
use Rattle.wrp_sums.specs.Sums.{coef_at}
use Rattle.wrp_sums.proofs.Integers.{sized, zero_times, one-*ℤ}
use Rattle.wrp_sums.proofs.SumsOver.{sum_over-map, sum_over_at, count_none, count_by-filter}
use Rattle.wrp_town.proofs.Members.{any_from_member}
use Rattle.wrp_town.specs.declared.town.Town.{Town}
use Rattle.wrp_town.specs.Arcs.{is_legal}
use Rattle.wrp_rules.specs.Rows.{Row, one_if, most_coefficient}
use Rattle.wrp_pool.specs.Cuts.{term_unless_zero, terms_unless_zero}
use Rattle.wrp_pool.specs.Pools.{sparse_row, most_right_side, terms_on, AreSmallTerms, IsRow}

-- how often an arc is listed
abbrev pub times : List ℕ → ℕ → ℕ
times arcs arc = count_by (λ a. a == arc) arcs

-- terms on listed arcs, each with its coefficient
abbrev pub terms_by : (ℕ → ℤ) → List ℕ → List (ℕ × ℤ)
terms_by coef arcs = map (λ a. (a, coef a)) arcs

-- as many terms on an arc as it is listed
terms_on-by : (coef : ℕ → ℤ) (arcs : List ℕ) (arc : ℕ) → terms_on (terms_by coef arcs) arc ≡ times arcs arc
terms_on-by coef [] arc = refl
terms_on-by coef (a ∷ arcs) arc =
    sum_by-cons (λ t. cond (t.0 == arc) 1 0) (a, coef a) (terms_by coef arcs)
    ∙ ap (λ (n : ℕ). cond {A = ℕ} (a == arc) 1 0 + n) (terms_on-by coef arcs arc)
    ∙ sym (sum_by-cons (λ x. cond (x == arc) 1 0) a arcs)

-- the coefficient of an arc, as often as it is listed
pub coef_by : (coef : ℕ → ℤ) (arcs : List ℕ) (arc : ℕ) → coef_at (terms_by coef arcs) arc ≡ pos (times arcs arc) *ℤ coef arc
coef_by coef arcs arc =
    sum_over-map (λ (t : ℕ × ℤ). cond (t.0 == arc) t.1 (pos 0)) (λ a. (a, coef a)) arcs ∙ sum_over_at coef arc arcs

module _ (town : Town) (coef : ℕ → ℤ) (arcs : List ℕ) where
  -- terms on legal arcs, each listed once at most
  pub small_terms : ((arc : ℕ) → times arcs arc ≤ 1) → All (λ a. is_legal town a ≡ true) arcs → All (λ a. unsigned_abs (coef a) ≤ most_coefficient) arcs → AreSmallTerms town (terms_by coef arcs)
  small_terms once legal small = record {
    once = λ arc. omega (arith, terms_on-by coef arcs arc, once arc);
    legal = All-map (λ (t : ℕ × ℤ). is_legal town t.0 ≡ true) (λ a. (a, coef a)) arcs legal;
    small = All-map (λ (t : ℕ × ℤ). unsigned_abs t.1 ≤ most_coefficient) (λ a. (a, coef a)) arcs small;
  }

  -- they are a row that has these coefficients where an arc is listed, and 0 on all other legal arcs
  pub row_on : (row : Row) → ((arc : ℕ) → times arcs arc ≤ 1) → All (λ a. is_legal town a ≡ true) arcs → All (λ a. unsigned_abs (coef a) ≤ most_coefficient) arcs
      → ((arc : ℕ) → is_legal town arc ≡ true → times arcs arc ≡ 1 → coef arc ≡ row.coef arc)
      → ((arc : ℕ) → is_legal town arc ≡ true → times arcs arc ≡ 0 → pos 0 ≡ row.coef arc)
      → unsigned_abs row.right_side ≤ most_right_side
      → IsRow town (sparse_row (terms_by coef arcs) row.right_side) row
  row_on row once legal small here elsewhere side = record {
    coef = λ arc is. coef_by coef arcs arc ∙ by arc is (times arcs arc) refl (once arc);
    right_side = refl;
    small = record { terms = small_terms once legal small; right_side = side };
  }
    where
      by : (arc : ℕ) → is_legal town arc ≡ true → (n : ℕ) → times arcs arc ≡ n → times arcs arc ≤ 1 → pos (times arcs arc) *ℤ coef arc ≡ row.coef arc
      by arc is zero e less = ap (λ (n : ℕ). pos n *ℤ coef arc) e ∙ zero_times (coef arc) ∙ elsewhere arc is e
      by arc is (suc zero) e less = ap (λ (n : ℕ). pos n *ℤ coef arc) e ∙ one-*ℤ (coef arc) ∙ here arc is e
      by arc is (suc (suc n)) e less = absurd (omega arith)

-- ---- coefficients that may be 0

-- the terms of one arc more
pub terms_more : (coef : ℕ → ℤ) (items : List ℕ) (i d : ℕ) (initial old new : List (ℕ × ℤ)) → i < length items → old ≡ initial ++ terms_unless_zero coef (take i items) → new ≡ old ++ term_unless_zero (get_or items i d) (coef (get_or items i d))
    → new ≡ initial ++ terms_unless_zero coef (take (i + 1) items)
terms_more coef items i d initial old new below are added =
    added ∙ ap (λ (ts : List (ℕ × ℤ)). ts ++ term_unless_zero (get_or items i d) (coef (get_or items i d))) are
    ∙ flat_map_more (λ arc. term_unless_zero arc (coef arc)) initial (take i items) (get_or items i d)
    ∙ ap (λ (xs : List ℕ). initial ++ terms_unless_zero coef xs) (sym (take_more items i d below))

-- the arcs whose coefficient isn't 0
abbrev is_nonzero : (ℕ → ℤ) → ℕ → Bool
is_nonzero coef arc = not (unsigned_abs (coef arc) == 0)

nonzero_terms : (coef : ℕ → ℤ) (arcs : List ℕ) → terms_unless_zero coef arcs ≡ terms_by coef (filter (is_nonzero coef) arcs)
nonzero_terms coef [] = refl
nonzero_terms coef (a ∷ arcs) =
    flat_map-cons (λ arc. term_unless_zero arc (coef arc)) a arcs
    ∙ ap (λ (ts : List (ℕ × ℤ)). term_unless_zero a (coef a) ++ ts) (nonzero_terms coef arcs)
    ∙ by (unsigned_abs (coef a) == 0)
  where
    by : (t : Bool) → cond t [] ((a, coef a) ∷ []) ++ terms_by coef (filter (is_nonzero coef) arcs) ≡ terms_by coef (cond (not t) (a ∷ filter (is_nonzero coef) arcs) (filter (is_nonzero coef) arcs))
    by true = refl
    by false = refl

zero_of : (z : ℤ) → (unsigned_abs z == 0) ≡ true → pos 0 ≡ z
zero_of z e = omega (arith, sized, eqb-true (unsigned_abs z) 0 e)

-- the terms that aren't 0 are a row that has these coefficients where an arc is listed, and 0 elsewhere
pub nonzero_row : (town : Town) (coef : ℕ → ℤ) (arcs : List ℕ) (row : Row) → ((arc : ℕ) → times arcs arc ≤ 1) → All (λ a. is_legal town a ≡ true) arcs → All (λ a. unsigned_abs (coef a) ≤ most_coefficient) arcs
    → ((arc : ℕ) → is_legal town arc ≡ true → times arcs arc ≡ 1 → coef arc ≡ row.coef arc)
    → ((arc : ℕ) → is_legal town arc ≡ true → times arcs arc ≡ 0 → pos 0 ≡ row.coef arc)
    → unsigned_abs row.right_side ≤ most_right_side
    → IsRow town (sparse_row (terms_unless_zero coef arcs) row.right_side) row
nonzero_row town coef arcs row once legal small here elsewhere side =
    subst (λ ts. IsRow town (sparse_row ts row.right_side) row) (sym (nonzero_terms coef arcs))
    (row_on town coef (filter (is_nonzero coef) arcs) row
    (λ arc. kept_once arc (is_nonzero coef arc) (count_by-filter arc (is_nonzero coef) arcs))
    (All-filter (is_nonzero coef) (λ a. is_legal town a ≡ true) arcs legal)
    (All-filter (is_nonzero coef) (λ a. unsigned_abs (coef a) ≤ most_coefficient) arcs small)
    (λ arc is one. kept_here arc is (is_nonzero coef arc) (count_by-filter arc (is_nonzero coef) arcs) one)
    (λ arc is none. kept_elsewhere arc is (is_nonzero coef arc) refl (count_by-filter arc (is_nonzero coef) arcs) none (times arcs arc) refl)
    side)
  where
    kept : ℕ → ℕ
    kept arc = times (filter (is_nonzero coef) arcs) arc

    kept_once : (arc : ℕ) (t : Bool) → kept arc ≡ cond t (times arcs arc) 0 → kept arc ≤ 1
    kept_once arc true e = omega (arith, e, once arc)
    kept_once arc false e = omega (arith, e)

    kept_here : (arc : ℕ) → is_legal town arc ≡ true → (t : Bool) → kept arc ≡ cond t (times arcs arc) 0 → kept arc ≡ 1 → coef arc ≡ row.coef arc
    kept_here arc is true e one = here arc is (sym e ∙ one)
    kept_here arc is false e one = absurd (omega (arith, e, one))

    kept_elsewhere : (arc : ℕ) → is_legal town arc ≡ true → (t : Bool) → is_nonzero coef arc ≡ t → kept arc ≡ cond (is_nonzero coef arc) (times arcs arc) 0 → kept arc ≡ 0 → (n : ℕ) → times arcs arc ≡ n → pos 0 ≡ row.coef arc
    kept_elsewhere arc is true u e none n f = elsewhere arc is (ap (λ (t : Bool). cond t (times arcs arc) 0) (sym u) ∙ sym e ∙ none)
    kept_elsewhere arc is false u e none zero f = elsewhere arc is f
    kept_elsewhere arc is false u e none (suc n) f = zero_of (coef arc) (not-false _ u) ∙ here arc is (omega (arith, f, once arc))

-- ---- ones

-- what holds of each arc that is listed holds of all that are
pub all_listed : (P : ℕ → Type 0) (arcs : List ℕ) → ((arc : ℕ) → 0 < times arcs arc → P arc) → All P arcs
all_listed P [] each k d below = absurd (omega arith)
all_listed P (a ∷ arcs) each zero d below =
    each a (omega (arith, sum_by-cons (λ x. cond (x == a) 1 0) a arcs, ap (λ (t : Bool). cond {A = ℕ} t 1 0) (eq-eqb a a refl)))
all_listed P (a ∷ arcs) each (suc k) d below =
    all_listed P arcs (λ arc some. each arc (omega (arith, sum_by-cons (λ x. cond (x == arc) 1 0) a arcs, some))) k d (omega arith)

-- an arc that is listed is a member
pub member_from_times : (arcs : List ℕ) (arc : ℕ) → 0 < times arcs arc → Contains arcs arc
member_from_times arcs arc some = by (list_any (nat_eq arc) arcs) refl
  where
    by : (t : Bool) → list_any (nat_eq arc) arcs ≡ t → Contains arcs arc
    by true e = Contains-from_any eqb-true arc arcs e
    by false e = absurd (omega (arith, some, count_none arc arcs (λ inside. true≢false (sym (any_from_member (nat_eq arc) arcs arc inside (eq-eqb arc arc refl)) ∙ e))))

-- a row that has 1 on the legal arcs that pass a test, where these are listed once and no others are
pub ones_row : (town : Town) (test : ℕ → Bool) (arcs : List ℕ) (side : ℤ) → ((arc : ℕ) → times arcs arc ≡ cond (is_legal town arc && test arc) 1 0) → unsigned_abs side ≤ most_right_side
    → IsRow town (sparse_row (terms_by (λ a. pos 1) arcs) side) (record { coef = λ arc. one_if (test arc); right_side = side })
ones_row town test arcs side listed small =
    row_on town (λ a. pos 1) arcs (record { coef = λ arc. one_if (test arc); right_side = side })
    (λ arc. once arc (is_legal town arc && test arc) (listed arc))
    (all_listed (λ a. is_legal town a ≡ true) arcs (λ arc some. legal arc (is_legal town arc) (test arc) refl (listed arc) some))
    (λ k d below. omega arith)
    (λ arc is one. here arc (is_legal town arc) (test arc) is (listed arc) one)
    (λ arc is none. elsewhere arc (is_legal town arc) (test arc) is (listed arc) none)
    small
  where
    once : (arc : ℕ) (t : Bool) → times arcs arc ≡ cond t 1 0 → times arcs arc ≤ 1
    once arc true e = omega (arith, e)
    once arc false e = omega (arith, e)

    legal : (arc : ℕ) (t u : Bool) → is_legal town arc ≡ t → times arcs arc ≡ cond (t && u) 1 0 → 0 < times arcs arc → is_legal town arc ≡ true
    legal arc true u is e some = is
    legal arc false u is e some = absurd (omega (arith, e, some))

    here : (arc : ℕ) (t u : Bool) → t ≡ true → times arcs arc ≡ cond (t && u) 1 0 → times arcs arc ≡ 1 → pos 1 ≡ one_if u
    here arc true true is e one = refl
    here arc true false is e one = absurd (omega (arith, e, one))
    here arc false u is e one = absurd (true≢false (sym is))

    elsewhere : (arc : ℕ) (t u : Bool) → t ≡ true → times arcs arc ≡ cond (t && u) 1 0 → times arcs arc ≡ 0 → pos 0 ≡ one_if u
    elsewhere arc true true is e none = absurd (omega (arith, e, none))
    elsewhere arc true false is e none = refl
    elsewhere arc false u is e none = absurd (true≢false (sym is))
