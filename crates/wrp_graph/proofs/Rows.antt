use Rattle.std.specs.Prelude.{◌≡◌, ℕ, ◌<◌, List, [], map, length, slice_index_or}
use Rattle.std.specs.List.{range_with_len}
use Rattle.std.proofs.Common.{arith}
use Rattle.std.proofs.lemmas.List.FromFn.{length-map-range_with_len, get_or-map-range_with_len}

pub row_there : (n : ℕ) (f : ℕ → List ℕ) (rows : List (List ℕ)) (j : ℕ) → rows ≡ map f (range_with_len 0 n) → j < n → j < length rows
row_there n f rows j same small = grind (arith, length-map-range_with_len f 0 n)

pub row_at : (n : ℕ) (f : ℕ → List ℕ) (rows : List (List ℕ)) (j : ℕ) → rows ≡ map f (range_with_len 0 n) → j < n → slice_index_or rows j [] ≡ f j
row_at n f rows j same small = grind (arith, get_or-map-range_with_len f 0 n j j [] small)
