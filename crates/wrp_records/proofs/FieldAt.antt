-- The field of a record at an index, as csv says it and as a list's place with a default.
use Rattle.std.proofs.Common.{◌≡◌, ◌∷◌, [], ℕ, zero, suc, List, Some, None, refl}
use Rattle.std.specs.List.{slice_index_or}
use Rattle.csv.specs.Records.{field_at}

pub slice_index_or-here : (fields : List (List ℕ)) (i : ℕ) (text : List ℕ) → field_at fields i ≡ Some text → slice_index_or fields i [] ≡ text
unfolding field_at
slice_index_or-here [] i text e = cc e
slice_index_or-here (f ∷ fields) zero text e = cc e
slice_index_or-here (f ∷ fields) (suc i) text e = slice_index_or-here fields i text e

pub slice_index_or-missing : (fields : List (List ℕ)) (i : ℕ) → field_at fields i ≡ None → slice_index_or fields i [] ≡ []
unfolding field_at
slice_index_or-missing [] i e = refl
slice_index_or-missing (f ∷ fields) zero e = cc e
slice_index_or-missing (f ∷ fields) (suc i) e = slice_index_or-missing fields i e
