-- A read from bytes in memory.
use Rattle.std.proofs.Common.{◌≡◌, ℕ, ◌≤◌, List, ◌++◌, length, take, drop, refl}
use Rattle.std.proofs.lemmas.List.{take-append-drop, take_at, drop_at, length-take-le}

module _ (left into new : List ℕ) (count : ℕ) (fits : count ≤ length left) (copied : new ≡ take count left ++ drop count into) where
  front_size : length (take count left) ≡ count
  front_size = length-take-le count left fits

  -- what a read copies to the front, and then what is left, is what was left before
  pub front_and_rest : left ≡ take count new ++ drop count left
  front_and_rest = rw (copied, take_at (take count left) (drop count into) count front_size, take-append-drop) refl

  -- behind the front nothing changes
  pub rest_stays : drop count new ≡ drop count into
  rest_stays = rw (copied, drop_at (take count left) (drop count into) count front_size) refl
