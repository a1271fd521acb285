-- Demands of two lists of streets, and of a street that is driven either way.
use Rattle.std.proofs.Common.{◌≡◌, ℕ, ◌+◌, ◌*◌, ◌/◌, List, [], ◌∷◌, ◌++◌, length, Contains, ap, sym, ◌∙◌, arith}
use Rattle.std.proofs.lemmas.List.{append_assoc}
use Rattle.wrp_town.specs.declared.street.Street.{Street}
use Rattle.wrp_town.specs.Streets.{demands_at, demands_from}
use Rattle.wrp_town.proofs.Members.{inside_cases, inside_none}

pub demands_from-append : (s : ℕ) (xs ys : List Street) → demands_from s (xs ++ ys) ≡ demands_from s xs ++ demands_from (s + length xs) ys
demands_from-append s [] ys = ap (λ t. demands_from t ys) (omega arith)
demands_from-append s (x ∷ xs) ys =
    let t : (s + 1) + length xs ≡ s + length (x ∷ xs) = omega arith in
    ap (λ ds. demands_at s x.need ++ ds) (demands_from-append (s + 1) xs ys ∙ ap (λ k. demands_from (s + 1) xs ++ demands_from k ys) t)
    ∙ sym (append_assoc (demands_at s x.need) (demands_from (s + 1) xs) (demands_from (s + length (x ∷ xs)) ys))

abbrev pub either_arcs : ℕ → List ℕ
either_arcs s = 2 * s ∷ (2 * s + 1) ∷ []

pub either_half : (s arc : ℕ) → Contains (either_arcs s) arc → arc / 2 ≡ s
either_half s arc inside =
    inside_cases (arc / 2 ≡ s) (2 * s) ((2 * s + 1) ∷ []) arc inside (λ same. omega arith)
    (λ other. inside_cases (arc / 2 ≡ s) (2 * s + 1) [] arc other (λ same. omega arith) (λ none. absurd (inside_none arc none)))
