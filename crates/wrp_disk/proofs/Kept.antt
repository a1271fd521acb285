-- The image that is chosen of the changes is one of their images.
use Rattle.std.proofs.Common.{◌≡◌, ◌⊎◌, inl, inr, ◌≤◌, ◌<◌, ◌+◌, ℕ, List, [], ◌∷◌, length, take, drop, min, replicate, refl, sym, ◌∙◌, ap, subst, arith}
use Rattle.std.proofs.lemmas.List.{length-replicate, take_all, take-take, length-take-le, drop_all}
use Rattle.wrp_disk.specs.declared.choice.Choice.{Choice}
use Rattle.wrp_disk.specs.declared.choice.Choice.TheVariants.{Old, New, Ones, Short}
use Rattle.wrp_disk.specs.Disks.{Torn, put_at}
use Rattle.wrp_disk.specs.Changes.{Change, Wrote, Tore, Synced, IsImage, image_of}
use Rattle.wrp_disk.specs.Lasting.{torn_none, torn_all}

torn_ones : (at n : ℕ) (old : List ℕ) → Torn at n old (put_at at (replicate n 1) old)
torn_ones at n old = subst (λ k. Torn at k old (put_at at (replicate n 1) old)) (length-replicate n 1) (torn_all at (replicate n 1) old)

-- where the end past the old one is cut off
torn_short : (at n : ℕ) (old new : List ℕ) → Torn at n old new → Torn at n old (take (length old) new)
torn_short at n old new torn = record {
  no_shorter = omega (arith, size);
  no_longer = omega (arith, size);
  before = take-take (min at (length old)) (length old) new (omega arith) ∙ torn.before;
  after = behind (by_le (length old) (at + n));
}
  where
    size : length (take (length old) new) ≡ length old
    size = length-take-le (length old) new torn.no_shorter

    by_le : (a b : ℕ) → (a ≤ b) ⊎ (b < a)
    by_le a b = grind arith

    behind : (length old ≤ at + n) ⊎ (at + n < length old) → drop (at + n) (take (length old) new) ≡ drop (at + n) old
    behind (inl le) = drop_all (at + n) (take (length old) new) (omega (arith, size, le)) ∙ sym (drop_all (at + n) old le)
    behind (inr lt) = ap (λ (l : List ℕ). drop (at + n) l) (take_all (length old) new (omega (arith, torn.no_longer, lt))) ∙ torn.after

pub image_is : (choice : Choice) (first : List ℕ) (changes : List Change) → IsImage first changes (image_of choice first changes)
image_is choice first [] = refl
image_is choice first (Synced ∷ changes) = refl
image_is Old first (Wrote at bytes ∷ changes) = (image_of Old first changes, image_is Old first changes, torn_none at (length bytes) _)
image_is Old first (Tore at n ∷ changes) = (image_of Old first changes, image_is Old first changes, torn_none at n _)
image_is New first (Wrote at bytes ∷ changes) = (image_of New first changes, image_is New first changes, torn_all at bytes _)
image_is New first (Tore at n ∷ changes) = (image_of New first changes, image_is New first changes, torn_none at n _)
image_is Ones first (Wrote at bytes ∷ changes) = (image_of Ones first changes, image_is Ones first changes, torn_ones at (length bytes) _)
image_is Ones first (Tore at n ∷ changes) = (image_of Ones first changes, image_is Ones first changes, torn_ones at n _)
image_is Short first (Wrote at bytes ∷ changes) = (image_of Short first changes, image_is Short first changes, torn_short at (length bytes) _ _ (torn_ones at (length bytes) _))
image_is Short first (Tore at n ∷ changes) = (image_of Short first changes, image_is Short first changes, torn_short at n _ _ (torn_ones at n _))
