-- The bytes and the images of a disk, from what it began with and the changes since, the latest of
-- them first.
use Rattle.std.specs.Prelude.{◌≡◌, ◌⊎◌, ℕ, ◌≤◌, List, [], ◌∷◌, length, take, replicate}
use Rattle.wrp_disk.specs.declared.choice.Choice.{Choice}
use Rattle.wrp_disk.specs.declared.choice.Choice.TheVariants.{Old, New, Ones, Short}
use Rattle.wrp_disk.specs.Disks.{Torn, put_at}

-- bytes were written at a place; a write of some bytes at a place failed; all was synced
pub data Change : Type 0 where
  Wrote : ℕ → List ℕ → Change
  Tore : ℕ → ℕ → Change
  Synced : Change

-- ---- what a read gives

abbrev pub changed_by : Change → List ℕ → List ℕ
changed_by (Wrote at bytes) old = put_at at bytes old
changed_by (Tore at n) old = old
changed_by Synced old = old

abbrev pub bytes_after : List ℕ → List Change → List ℕ
bytes_after first [] = first
bytes_after first (change ∷ changes) = changed_by change (bytes_after first changes)

-- ---- what a crash leaves

-- since the last sync each written range holds any bytes
abbrev pub IsImage : List ℕ → List Change → List ℕ → Type 0
IsImage first [] c = c ≡ first
IsImage first (Wrote at bytes ∷ changes) c =
    (d : List ℕ) × IsImage first changes d × Torn at (length bytes) d c
IsImage first (Tore at n ∷ changes) c = (d : List ℕ) × IsImage first changes d × Torn at n d c
IsImage first (Synced ∷ changes) c = c ≡ bytes_after first changes

-- what a crash after that many changes, or at some moment since, has left
abbrev pub LeftSince : List ℕ → List Change → ℕ → List ℕ → Type 0
LeftSince first [] t c = IsImage first [] c
LeftSince first (change ∷ changes) t c =
    IsImage first (change ∷ changes) c ⊎ ((t ≤ length changes) × LeftSince first changes t c)

-- ---- one image of each choice

-- each byte in the range of a write is 1
abbrev pub ones_by : Change → List ℕ → List ℕ
ones_by (Wrote at bytes) old = put_at at (replicate (length bytes) 1) old
ones_by (Tore at n) old = put_at at (replicate n 1) old
ones_by Synced old = old

-- an image after one more pending write
abbrev pub pending_by : Choice → Change → List ℕ → List ℕ
pending_by Old change old = old
pending_by New change old = changed_by change old
pending_by Ones change old = ones_by change old
pending_by Short change old = take (length old) (ones_by change old)

-- an image after one more change, where a read now gives these bytes
abbrev pub left_by : Choice → Change → List ℕ → List ℕ → List ℕ
left_by choice Synced now image = now
left_by choice change now image = pending_by choice change image

abbrev pub image_of : Choice → List ℕ → List Change → List ℕ
image_of choice first [] = first
image_of choice first (change ∷ changes) =
    left_by choice change (bytes_after first changes) (image_of choice first changes)
