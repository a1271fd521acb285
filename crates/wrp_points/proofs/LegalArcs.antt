-- The legal arcs of a town: each stands once among them, and a test of all goes arc after arc.
use Rattle.std.proofs.Common.{◌≡◌, ℕ, zero, suc, ◌+◌, ◌-◌, ◌*◌, ◌<◌, Bool, true, false, cond, not, ◌&&◌, ◌||◌, ◌==◌, List, [], ◌∷◌, ◌++◌, length, filter, count_by, Contains, ap, refl, sym, ◌∙◌, arith}
use Rattle.std.specs.List.{list_all, range_with_len}
use Rattle.wrp_sums.specs.Sums.{numbers_below}
use Rattle.wrp_sums.proofs.FirstNumbers.{once_below, inside_numbers_below, inside_filter, passes_of_inside}
use Rattle.wrp_town.specs.declared.town.Town.{Town}
use Rattle.wrp_town.specs.Arcs.{is_legal, arcs, legal_arcs}
use Rattle.wrp_town.proofs.Lists.{range_with_len-more}
use Rattle.wrp_town.proofs.TownLaws.{legal_below}

pub range_numbers : (n : ℕ) → range_with_len 0 n ≡ numbers_below n
range_numbers zero = refl
range_numbers (suc n) =
    ap (range_with_len 0) (add-one-turned n) ∙ range_with_len-more 0 n n (omega arith) ∙ ap (λ (xs : List ℕ). xs ++ n ∷ []) (range_numbers n)
  where
    add-one-turned : (k : ℕ) → suc k ≡ k + 1
    add-one-turned k = omega arith

pub legal_once : (town : Town) (arc : ℕ) → is_legal town arc ≡ true → count_by (λ a. a == arc) (legal_arcs town) ≡ 1
legal_once town arc legal =
    ap (λ (xs : List ℕ). count_by (λ a. a == arc) (filter (is_legal town) xs)) (range_numbers (2 * length town.streets))
    ∙ once_below (is_legal town) (2 * length town.streets) arc (legal_below town arc legal) legal

pub legal_inside : (town : Town) (arc : ℕ) → is_legal town arc ≡ true → Contains (legal_arcs town) arc
legal_inside town arc legal =
    rw range_numbers (inside_filter (is_legal town) (numbers_below (2 * length town.streets)) arc (inside_numbers_below (2 * length town.streets) arc (legal_below town arc legal)) legal)

pub inside_is_legal : (town : Town) (arc : ℕ) → Contains (legal_arcs town) arc → is_legal town arc ≡ true
inside_is_legal town arc inside = passes_of_inside (is_legal town) (arcs town) arc inside

module _ (p q : ℕ → Bool) where
  -- the arc that comes next, and those after it
  pub next_and_rest : (i n : ℕ) → i < n → list_all p (filter q (range_with_len i (n - i))) ≡ ((not (q i) || p i) && list_all p (filter q (range_with_len (i + 1) (n - (i + 1)))))
  next_and_rest i n below =
      let e : n - i ≡ suc (n - (i + 1)) = omega arith in
      rw e (by (q i) (filter q (range_with_len (i + 1) (n - (i + 1)))))
    where
      by : (t : Bool) (xs : List ℕ) → list_all p (cond t (i ∷ xs) xs) ≡ ((not t || p i) && list_all p xs)
      by true xs = refl
      by false xs = refl

-- where the next passes, the rest decides
pub rest_decides : (whole all next rest : Bool) → all ≡ whole → all ≡ (next && rest) → next ≡ true → rest ≡ whole
rest_decides whole all true rest is parts passes = sym parts ∙ is
rest_decides whole all false rest is parts passes = cc

pub or_left : (s t : Bool) → s ≡ true → (s || t) ≡ true
or_left s t is = ap (λ (u : Bool). u || t) is

pub or_right : (s t : Bool) → t ≡ true → (s || t) ≡ true
or_right true t is = refl
or_right false t is = is
