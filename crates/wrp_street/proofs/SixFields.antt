-- A header's six fields, one by one.
use Rattle.std.proofs.Common.{◌≡◌, ◌==◌, ◌&&◌, ◌∷◌, [], ℕ, suc, List, Bool, true, false, length, refl, codes, arith}
use Rattle.std.proofs.Math.Bool.{and-false}
use Rattle.std.proofs.lemmas.Bool.Decides.{nat_tests}
use Rattle.std.specs.List.{slice_index_or}
use Rattle.std.specs.Str.{bytes_eq}
use Rattle.wrp_records.specs.Fields.{trimmed}
use Rattle.wrp_street.specs.Headers.{is_header}

-- six tests, grouped from either end
six_tests : (a b c d e f : Bool) → (a && (b && (c && (d && (e && (f && true)))))) ≡ (a && b && c && d && e && f)
six_tests false b c d e f = refl
six_tests true false c d e f = refl
six_tests true true false d e f = refl
six_tests true true true false e f = refl
six_tests true true true true false f = refl
six_tests true true true true true false = refl
six_tests true true true true true true = refl

above_six : (n : ℕ) → (suc (suc (suc (suc (suc (suc (suc n)))))) == 6) ≡ false
above_six n = grind (arith, nat_tests)

-- a header has six fields, and each is its column's name
pub header_by_fields : (fields : List (List ℕ))
    → is_header fields ≡ ((length fields == 6) && bytes_eq (trimmed (slice_index_or fields 0 [])) (codes "street")
    && bytes_eq (trimmed (slice_index_or fields 1 [])) (codes "from") && bytes_eq (trimmed (slice_index_or fields 2 [])) (codes "to")
    && bytes_eq (trimmed (slice_index_or fields 3 [])) (codes "forward") && bytes_eq (trimmed (slice_index_or fields 4 [])) (codes "backward")
    && bytes_eq (trimmed (slice_index_or fields 5 [])) (codes "need"))
unfolding is_header
header_by_fields [] = refl
header_by_fields (a ∷ []) = simp and-false
header_by_fields (a ∷ b ∷ []) = simp and-false
header_by_fields (a ∷ b ∷ c ∷ []) = simp and-false
header_by_fields (a ∷ b ∷ c ∷ d ∷ []) = simp and-false
header_by_fields (a ∷ b ∷ c ∷ d ∷ e ∷ []) = simp and-false
header_by_fields (a ∷ b ∷ c ∷ d ∷ e ∷ f ∷ []) =
    six_tests (bytes_eq (trimmed a) (codes "street")) (bytes_eq (trimmed b) (codes "from")) (bytes_eq (trimmed c) (codes "to"))
    (bytes_eq (trimmed d) (codes "forward")) (bytes_eq (trimmed e) (codes "backward")) (bytes_eq (trimmed f) (codes "need"))
header_by_fields (a ∷ b ∷ c ∷ d ∷ e ∷ f ∷ g ∷ rest) = simp (and-false, above_six (length rest))
