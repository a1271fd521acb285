-- Steps of the loops that read off a tableau.
use Rattle.std.proofs.Common.{◌≡◌, ◌≢◌, ℕ, suc, ◌+◌, ◌<◌, ◌≤◌, ◌==◌, cond, ℤ, pos, ◌+ℤ◌, List, [], ◌∷◌, ◌++◌, map, set, length, get_or, replicate, ap, refl, sym, ◌∙◌, arith, inl, inr, eq-eqb}
use Rattle.std.proofs.lemmas.Bool.{ne_eqb, cases_eq}
use Rattle.std.proofs.lemmas.List.{same_lists, length-map, length-set, map-append, get_or-map, get_or-set_same, get_or-set_other, get_or-replicate, length-replicate}
use Rattle.wrp_sums.specs.Sums.{sum_over, numbers_below}
use Rattle.wrp_sums.proofs.Integers.{linear}
use Rattle.wrp_sums.proofs.SumsOver.{sum_over-push, sum_over-all_zero}
use Rattle.wrp_sums.proofs.FirstNumbers.{below_of_inside, length-numbers_below, get_or-numbers_below}
use Rattle.wrp_tableau.specs.Systems.{System, row, basic}
use Rattle.wrp_tableau.specs.Soundness.{IsSound}
use Rattle.wrp_simplex.specs.Steps.{pivot_entry}
use Rattle.wrp_lp.specs.Reading.{times}
use Rattle.wrp_lp.proofs.Numbers.{one_row}

-- one more item
pub mapped_more : {X : Type 0} (f : ℕ → X) (n : ℕ) → map f (numbers_below (n + 1)) ≡ map f (numbers_below n) ++ f n ∷ []
mapped_more f n =
    let e : n + 1 ≡ suc n = omega arith in
    ap (λ (k : ℕ). map f (numbers_below k)) e ∙ map-append f (numbers_below n) (n ∷ [])

pub pushed : {X : Type 0} (f : ℕ → X) (i : ℕ) (old new : List X) (item : X) → new ≡ old ++ item ∷ [] → old ≡ map f (numbers_below i) → item ≡ f i → new ≡ map f (numbers_below (i + 1))
pushed f i old new item is before same =
    is ∙ ap (λ xs. xs ++ item ∷ []) before ∙ ap (λ x. map f (numbers_below i) ++ x ∷ []) same ∙ sym (mapped_more f i)

pub length-mapped : {X : Type 0} (f : ℕ → X) (n : ℕ) → length (map f (numbers_below n)) ≡ n
length-mapped f n = length-map (numbers_below n) f ∙ length-numbers_below n

pub get_or-mapped : {X : Type 0} (f : ℕ → X) (n i : ℕ) (d : X) → i < n → get_or (map f (numbers_below n)) i d ≡ f i
get_or-mapped f n i d h =
    get_or-map f (numbers_below n) i 0 d (rw (length-numbers_below n) h) ∙ ap f (get_or-numbers_below n i 0 h)

-- den times the value of a variable, by the first k rows
abbrev pub number_within : System → ℕ → ℕ → ℕ → ℤ
number_within s den k variable =
    sum_over (λ r. cond (basic s r == variable) (times den (row s r).right (pivot_entry s r)) (pos 0)) (numbers_below k)

pub numbers_start : (s : System) (den n : ℕ) → replicate n (pos 0) ≡ map (number_within s den 0) (numbers_below n)
numbers_start s den n = same_lists (replicate n (pos 0)) (map (number_within s den 0) (numbers_below n))
    (length-replicate n (pos 0) ∙ sym (length-mapped (number_within s den 0) n))
    (λ k d h. let below : k < n = rw (length-replicate n (pos 0)) at h in get_or-replicate n k (pos 0) d below ∙ sym (get_or-mapped (number_within s den 0) n k d below))

module _ (s : System) (den r n : ℕ) where
  abbrev value : ℕ → ℤ
  value k = times den (row s k).right (pivot_entry s k)

  within_more : (v : ℕ) → number_within s den (r + 1) v ≡ number_within s den r v +ℤ cond (basic s r == v) (value r) (pos 0)
  within_more v =
      let e : r + 1 ≡ suc r = omega arith in
      ap (λ (k : ℕ). number_within s den k v) e ∙ sum_over-push (λ k. cond (basic s k == v) (value k) (pos 0)) (numbers_below r) r

  elsewhere : (v : ℕ) → basic s r ≢ v → number_within s den (r + 1) v ≡ number_within s den r v
  elsewhere v differs = within_more v ∙ omega (arith, linear, ap (λ t. cond t (value r) (pos 0)) (ne_eqb (basic s r) v differs))

  -- a row whose basic variable is a slack
  pub numbers_skip : n ≤ basic s r → map (number_within s den r) (numbers_below n) ≡ map (number_within s den (r + 1)) (numbers_below n)
  numbers_skip slack = same_lists (map (number_within s den r) (numbers_below n)) (map (number_within s den (r + 1)) (numbers_below n))
      (length-mapped (number_within s den r) n ∙ sym (length-mapped (number_within s den (r + 1)) n))
      (λ k d h.
      let below : k < n = rw (length-mapped (number_within s den r) n) at h in
      get_or-mapped (number_within s den r) n k d below
      ∙ sym (elsewhere k (λ same. absurd (omega arith)))
      ∙ sym (get_or-mapped (number_within s den (r + 1)) n k d below))

  -- and one whose basic variable is structural
  module _ (sound : IsSound s) (here : r < length s.rows) (structural : basic s r < n) where
    none_before : number_within s den r (basic s r) ≡ pos 0
    none_before = sum_over-all_zero (λ k. cond (basic s k == basic s r) (value k) (pos 0)) (numbers_below r)
        (λ k inside.
        let below : k < r = below_of_inside r k inside in
        ap (λ t. cond t (value k) (pos 0)) (ne_eqb (basic s k) (basic s r) (λ same. let e = one_row s sound r k here (omega arith) same in absurd (omega arith))))

    there : number_within s den (r + 1) (basic s r) ≡ value r
    there = within_more (basic s r) ∙ omega (arith, linear, none_before, ap (λ t. cond t (value r) (pos 0)) (eq-eqb (basic s r) (basic s r) refl))

    pub numbers_set : set (map (number_within s den r) (numbers_below n)) (basic s r) (value r) ≡ map (number_within s den (r + 1)) (numbers_below n)
    numbers_set =
        let old = map (number_within s den r) (numbers_below n) in
        let long : length old ≡ n = length-mapped (number_within s den r) n in
        same_lists (set old (basic s r) (value r)) (map (number_within s den (r + 1)) (numbers_below n))
        (length-set old (basic s r) (value r) ∙ long ∙ sym (length-mapped (number_within s den (r + 1)) n))
        (λ k d h.
        let below : k < n = let e = length-set old (basic s r) (value r) in omega arith in
        elim (cases_eq k (basic s r)) [
          | inl same ↦ ap (λ (i : ℕ). get_or (set old (basic s r) (value r)) i d) same
              ∙ get_or-set_same old (basic s r) (value r) d (omega arith)
              ∙ sym there
              ∙ ap (number_within s den (r + 1)) (sym same)
              ∙ sym (get_or-mapped (number_within s den (r + 1)) n k d below)
          | inr differs ↦ get_or-set_other old (basic s r) k (value r) d differs
              ∙ get_or-mapped (number_within s den r) n k d below
              ∙ sym (elsewhere k (λ same. differs (sym same)))
              ∙ sym (get_or-mapped (number_within s den (r + 1)) n k d below)
        ])
