-- One more byte or field written, of those that are left.
use Rattle.std.proofs.Common.{◌≡◌, ◌==◌, ◌<◌, ◌≤◌, ◌+◌, ◌++◌, ◌∷◌, [], ℕ, List, suc, true, false, length, drop, get_or, map, sym, ◌∙◌, ◌≢◌, add-one, append-nil, eq-eqb, arith}
use Rattle.std.proofs.lemmas.Bool.Decides.{nat_tests}
use Rattle.std.proofs.lemmas.List.{append_assoc}
use Rattle.std.proofs.Math.ListN.{drop_of_length-le}
use Rattle.std.proofs.Math.Seq.{drop-cons}
use Rattle.std.specs.Borrow.{Bor}
use Rattle.wrp_records.specs.Lines.{after_commas, doubled, field_text}

-- the end of a field
pub doubled_done : (out field whole : List ℕ) (i : ℕ) → length field ≤ i → out ++ doubled (drop i field) ≡ whole → out ≡ whole
unfolding doubled
doubled_done out field whole i end e = sym (append-nil out) ∙ (rw (drop_of_length-le field end) at e)

-- a byte that is no double quote
pub doubled_other : (out field : List ℕ) (i : ℕ) → i < length field → get_or field i 0 ≢ 34
    → (out ++ (get_or field i 0 ∷ [])) ++ doubled (drop (i + 1) field) ≡ out ++ doubled (drop i field)
unfolding doubled
doubled_other out field i inside differs =
    let other : (get_or field i 0 == 34) ≡ false = grind (arith, nat_tests) in
    rw (drop-cons field i 0 inside, other, add-one) (append_assoc out (get_or field i 0 ∷ []) (doubled (drop (suc i) field)))

-- a double quote
pub doubled_quote : (out field : List ℕ) (i : ℕ) → i < length field → get_or field i 0 ≡ 34
    → ((out ++ (34 ∷ [])) ++ (get_or field i 0 ∷ [])) ++ doubled (drop (i + 1) field) ≡ out ++ doubled (drop i field)
unfolding doubled
doubled_quote out field i inside same =
    let quote : (get_or field i 0 == 34) ≡ true = eq-eqb (get_or field i 0) 34 same in
    rw (drop-cons field i 0 inside, quote, add-one)
    (append_assoc (out ++ (34 ∷ [])) (get_or field i 0 ∷ []) (doubled (drop (suc i) field))
    ∙ append_assoc out (34 ∷ []) (get_or field i 0 ∷ doubled (drop (suc i) field)))

-- the end of a record
pub fields_done : (out : List ℕ) (fields : List (Bor (List ℕ))) (whole : List ℕ) (i : ℕ) → length fields ≤ i
    → out ++ after_commas (map (λ field. field.now) (drop i fields)) ≡ whole → out ≡ whole
unfolding after_commas
fields_done out fields whole i end e = sym (append-nil out) ∙ (rw (drop_of_length-le fields end) at e)

-- a comma and a field
pub field_written : (out : List ℕ) (fields : List (Bor (List ℕ))) (i : ℕ) (other : Bor (List ℕ)) → i < length fields
    → ((out ++ (44 ∷ [])) ++ field_text (get_or fields i other).now) ++ after_commas (map (λ field. field.now) (drop (i + 1) fields))
    ≡ out ++ after_commas (map (λ field. field.now) (drop i fields))
unfolding after_commas
field_written out fields i other inside =
    let text = field_text (get_or fields i other).now in
    let rest = after_commas (map (λ (field : Bor (List ℕ)). field.now) (drop (suc i) fields)) in
    rw (drop-cons fields i other inside, add-one)
    (append_assoc (out ++ (44 ∷ [])) text rest ∙ append_assoc out (44 ∷ []) (text ++ rest))
