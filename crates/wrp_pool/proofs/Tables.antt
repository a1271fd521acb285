-- A table of sums to which the terms of a sparse row are added, one after another.
use Rattle.std.proofs.Common.{◌≡◌, ℕ, suc, ◌+◌, ◌<◌, Bool, true, false, cond, ◌==◌, ℤ, pos, ◌+ℤ◌, ◌*ℤ◌, ◌≤◌, ◌^◌, unsigned_abs, List, [], ◌∷◌, length, get_or, take, ap, refl, sym, ◌∙◌, subst, arith}
use Rattle.std.specs.List.{All}
use Rattle.std.proofs.lemmas.List.Sums.{sum_by-cons, sum_by-take-le}
use Rattle.std.proofs.lemmas.List.Elements.{All-take}
use Rattle.wrp_sums.specs.Sums.{coef_at}
use Rattle.wrp_sums.proofs.Integers.{linear, sized, size_of_product, *ℤ-+ℤ}
use Rattle.wrp_sums.proofs.SparseRows.{coef_at_more}
use Rattle.wrp_town.specs.declared.town.Town.{Town}
use Rattle.wrp_rules.specs.Rows.{most_coefficient}
use Rattle.wrp_pool.specs.Pools.{terms_on, AreSmallTerms}

-- the term at place j
abbrev pub term_at : List (ℕ × ℤ) → ℕ → ℕ × ℤ
term_at terms j = get_or terms j (0, pos 0)

-- a number to which one more term is added
pub added_term : (weight : ℕ) (terms : List (ℕ × ℤ)) (j arc : ℕ) (start old new share : ℤ) → j < length terms → new ≡ old +ℤ cond ((term_at terms j).0 == arc) share (pos 0) → share ≡ pos weight *ℤ (term_at terms j).1 → old ≡ start +ℤ pos weight *ℤ coef_at (take j terms) arc → new ≡ start +ℤ pos weight *ℤ coef_at (take (j + 1) terms) arc
added_term weight terms j arc start old new share below grown is before =
    by ((term_at terms j).0 == arc) grown (coef_at_more terms arc j (0, pos 0) below)
  where
    by : (t : Bool) → new ≡ old +ℤ cond t share (pos 0) → coef_at (take (j + 1) terms) arc ≡ coef_at (take j terms) arc +ℤ cond t (term_at terms j).1 (pos 0) → new ≡ start +ℤ pos weight *ℤ coef_at (take (j + 1) terms) arc
    by true sum coef =
        omega (
          arith,
          linear,
          ap (λ (x : ℤ). pos weight *ℤ x) coef,
          *ℤ-+ℤ (pos weight) (coef_at (take j terms) arc) (term_at terms j).1,
        )
    by false sum coef =
        let same : coef_at (take (j + 1) terms) arc ≡ coef_at (take j terms) arc = omega (arith, linear) in
        omega (arith, linear, ap (λ (x : ℤ). pos weight *ℤ x) same)

-- where no term is on the arc its coefficient is 0, and where one is, that of the term
coef_none : (terms : List (ℕ × ℤ)) (arc : ℕ) → terms_on terms arc ≡ 0 → coef_at terms arc ≡ pos 0
coef_none [] arc none = refl
coef_none (t ∷ terms) arc none = by (t.0 == arc) (sym (sum_by-cons (λ u. cond (u.0 == arc) 1 0) t terms) ∙ none) (coef_none terms arc)
  where
    by : (u : Bool) → cond u 1 0 + terms_on terms arc ≡ 0 → (terms_on terms arc ≡ 0 → coef_at terms arc ≡ pos 0) → cond u t.1 (pos 0) +ℤ coef_at terms arc ≡ pos 0
    by true e rest = absurd (omega (arith, e))
    by false e rest = let none : coef_at terms arc ≡ pos 0 = rest (omega (arith, e)) in omega (arith, linear)

size_of_coef_once : (terms : List (ℕ × ℤ)) (most arc : ℕ) → terms_on terms arc ≤ 1 → All (λ t. unsigned_abs t.1 ≤ most) terms → unsigned_abs (coef_at terms arc) ≤ most
size_of_coef_once [] most arc once small = omega arith
size_of_coef_once (t ∷ terms) most arc once small =
    let first : unsigned_abs t.1 ≤ most = small 0 t (omega arith) in
    by (t.0 == arc) (subst (λ n. n ≤ 1) (sum_by-cons (λ u. cond (u.0 == arc) 1 0) t terms) once) first
    (λ few. size_of_coef_once terms most arc few (λ k d below. small (suc k) d (omega arith)))
  where
    by : (u : Bool) → cond u 1 0 + terms_on terms arc ≤ 1 → unsigned_abs t.1 ≤ most → (terms_on terms arc ≤ 1 → unsigned_abs (coef_at terms arc) ≤ most) → unsigned_abs (cond u t.1 (pos 0) +ℤ coef_at terms arc) ≤ most
    by true few first others = let none : coef_at terms arc ≡ pos 0 = coef_none terms arc (omega (arith, few)) in omega (arith, sized)
    by false few first others =
        let rest : unsigned_abs (coef_at terms arc) ≤ most = others (omega (arith, few)) in
        omega (arith, sized)

-- among the first terms there are no more on an arc
fewer_on : (terms : List (ℕ × ℤ)) (n arc : ℕ) → ((a : ℕ) → terms_on terms a ≤ 1) → terms_on (take n terms) arc ≤ 1
fewer_on terms n arc once = omega (arith, once arc, sum_by-take-le (λ (t : ℕ × ℤ). cond (t.0 == arc) 1 0) terms n)

-- what the first terms add to an entry is small
pub size_after : (town : Town) (weight : ℕ) (terms : List (ℕ × ℤ)) (j arc : ℕ) (start new : ℤ) → AreSmallTerms town terms → weight ≤ 2 ^ 60 → new ≡ start +ℤ pos weight *ℤ coef_at (take j terms) arc → unsigned_abs new ≤ unsigned_abs start + 2 ^ 80
size_after town weight terms j arc start new are light is =
    let coef : unsigned_abs (coef_at (take j terms) arc) ≤ most_coefficient =
    size_of_coef_once (take j terms) most_coefficient arc (fewer_on terms j arc are.once) (All-take (λ t. unsigned_abs t.1 ≤ most_coefficient) j terms are.small) in
    let added : unsigned_abs (pos weight *ℤ coef_at (take j terms) arc) ≤ 2 ^ 80 = size_of_product (pos weight) (coef_at (take j terms) arc) (2 ^ 60) most_coefficient light coef in
    omega (arith, sized)
