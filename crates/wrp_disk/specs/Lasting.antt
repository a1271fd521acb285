-- The images of a disk keep their rules over all changes.
use Rattle.std.specs.Prelude.{◌≡◌, ◌⊎◌, ℕ, ◌+◌, ◌-◌, ◌<◌, ◌≤◌, List, [], ◌∷◌, ◌++◌, length, take, drop, min}
use Rattle.std.proofs.Common.{inl, inr, refl, sym, ◌∙◌, arith, length-append}
use Rattle.std.proofs.lemmas.List.{length-take, length-drop, drop_at, drop_all, take_at, take_min, append_assoc}
use Rattle.wrp_disk.specs.Disks.{Torn, put_at}
use Rattle.wrp_disk.specs.Changes.{Change, Wrote, Tore, Synced, bytes_after, IsImage, LeftSince}

-- nothing of a write may have come
pub torn_none : (at n : ℕ) (bytes : List ℕ) → Torn at n bytes bytes
torn_none at n bytes = record {
  no_shorter = omega arith;
  no_longer = omega arith;
  before = take_min at bytes;
  after = refl;
}

pub length_put : (at : ℕ) (bytes old : List ℕ) → length (put_at at bytes old)
    ≡ min at (length old) + length bytes + (length old - (at + length bytes))
length_put at bytes old =
    let front = length-append (take at old) bytes in
    let whole = length-append (take at old ++ bytes) (drop (at + length bytes) old) in
    omega (arith, front, whole, length-take at old, length-drop (at + length bytes) old)

-- all of it may have come
pub torn_all : (at : ℕ) (bytes old : List ℕ) → Torn at (length bytes) old (put_at at bytes old)
torn_all at bytes old = record {
  no_shorter = omega (arith, length_put at bytes old);
  no_longer = omega (arith, length_put at bytes old);
  before = front;
  after = behind (by_le at (length old));
}
  where
    by_le : (a b : ℕ) → (a ≤ b) ⊎ (b < a)
    by_le a b = grind arith

    front : take (min at (length old)) (put_at at bytes old) ≡ take at old
    front = rw append_assoc (take_at (take at old) (bytes ++ drop (at + length bytes) old)
        (min at (length old)) (length-take at old))

    size : at ≤ length old → length (take at old ++ bytes) ≡ at + length bytes
    size le = omega (arith, length-append (take at old) bytes, length-take at old, le)

    behind : (at ≤ length old) ⊎ (length old < at)
        → drop (at + length bytes) (put_at at bytes old) ≡ drop (at + length bytes) old
    behind (inl le) = drop_at (take at old ++ bytes) (drop (at + length bytes) old)
        (at + length bytes) (size le)
    behind (inr lt) =
        let all = drop_all (at + length bytes) old (omega (arith, lt)) in
        drop_all (at + length bytes) (put_at at bytes old)
        (omega (arith, length_put at bytes old, lt)) ∙ sym all

-- what is an image now counts since each earlier moment
pub now_counts : (first : List ℕ) (changes : List Change) (t : ℕ) (c : List ℕ)
    → IsImage first changes c → LeftSince first changes t c
now_counts first [] t c is = is
now_counts first (change ∷ changes) t c is = inl is

-- what counts since this moment is an image now
pub only_now : (first : List ℕ) (changes : List Change) (c : List ℕ)
    → LeftSince first changes (length changes) c → IsImage first changes c
only_now first [] c is = is
only_now first (change ∷ changes) c (inl is) = is
only_now first (change ∷ changes) c (inr (le, _)) = absurd (omega (arith, le))

-- the bytes as they read are an image
pub honest : (first : List ℕ) (changes : List Change)
    → IsImage first changes (bytes_after first changes)
honest first [] = refl
honest first (Wrote at bytes ∷ changes) =
    let old = bytes_after first changes in (old, honest first changes, torn_all at bytes old)
honest first (Tore at n ∷ changes) =
    let old = bytes_after first changes in (old, honest first changes, torn_none at n old)
honest first (Synced ∷ changes) = refl
