-- Each legal arc stands once among the legal arcs.
use Rattle.std.proofs.Common.{◌≡◌, ℕ, zero, suc, ◌+◌, ◌*◌, ◌<◌, true, ◌==◌, List, [], ◌∷◌, ◌++◌, length, filter, Contains, count_by, ap, refl, ◌∙◌, arith}
use Rattle.std.specs.List.{range_with_len}
use Rattle.std.proofs.lemmas.List.FromFn.{length-range_with_len, get_or-range_with_len}
use Rattle.wrp_sums.specs.Sums.{numbers_below}
use Rattle.wrp_sums.proofs.FirstNumbers.{once_below, inside_filter}
use Rattle.wrp_town.specs.declared.town.Town.{Town}
use Rattle.wrp_town.specs.Arcs.{is_legal, arcs, legal_arcs}
use Rattle.wrp_town.proofs.TownLaws.{legal_below}

range_more : (a n j : ℕ) → a + n ≡ j → range_with_len a (suc n) ≡ range_with_len a n ++ j ∷ []
range_more a zero j e = ap (λ (x : ℕ). x ∷ []) (omega arith)
range_more a (suc n) j e = ap (λ (xs : List ℕ). a ∷ xs) (range_more (a + 1) n j (omega arith))

range_numbers : (n : ℕ) → range_with_len 0 n ≡ numbers_below n
range_numbers zero = refl
range_numbers (suc n) = range_more 0 n n (omega arith) ∙ ap (λ (xs : List ℕ). xs ++ n ∷ []) (range_numbers n)

pub legal_once : (town : Town) (arc : ℕ) → is_legal town arc ≡ true → count_by (λ a. a == arc) (legal_arcs town) ≡ 1
legal_once town arc legal =
    ap (λ (xs : List ℕ). count_by (λ a. a == arc) (filter (is_legal town) xs)) (range_numbers (2 * length town.streets))
    ∙ once_below (is_legal town) (2 * length town.streets) arc (legal_below town arc legal) legal

-- and each is among them
inside_range : (n i : ℕ) → i < n → Contains (range_with_len 0 n) i
inside_range n i below = (i, omega (arith, length-range_with_len 0 n), get_or-range_with_len 0 n i i below ∙ omega arith)

pub inside_legal : (town : Town) (arc : ℕ) → is_legal town arc ≡ true → Contains (legal_arcs town) arc
inside_legal town arc legal =
    inside_filter (is_legal town) (arcs town) arc (inside_range (2 * length town.streets) arc (legal_below town arc legal)) legal
