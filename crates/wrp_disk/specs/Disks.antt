-- What contracts see of a disk, and what its calls may do. An image is what a crash may leave of
-- the disk's bytes. Moments are numbered, and a call passes from one to a later one.
use Rattle.std.specs.Prelude.{◌≡◌, ◌↔◌, ◌⊎◌, ℕ, ◌+◌, ◌^◌, ◌≤◌, min, max, List, ◌++◌, length, take, drop, Option, IfSome, is_some}
use Rattle.std.specs.Option.{option_map}
use Rattle.wrp_out.specs.Counts.{NeverFalls}

-- the greatest limit that a disk may have
abbrev pub greatest_limit : ℕ
greatest_limit = 2 ^ 62

-- the bytes that a read gives, None where the disk tells nothing; the images of a crash at this
-- moment; those of a crash at some moment since the numbered one; the number of this moment; how
-- often a call has failed; the greatest length
pub record Meaning : Type 1 where
  pub told : Option (List ℕ)
  pub image : List ℕ → Type 0
  pub since : ℕ → List ℕ → Type 0
  pub moment : ℕ
  pub faults : ℕ
  pub limit : ℕ

-- ---- images

-- the image new comes of old by a write of n bytes that a crash cuts short: any bytes in the range
-- and past the old end, a length from the old to the new one, all else the same
pub record Torn (at n : ℕ) (old new : List ℕ) : Type 0 where
  pub no_shorter : length old ≤ length new
  pub no_longer : length new ≤ max (length old) (at + n)
  pub before : take (min at (length old)) new ≡ take at old
  pub after : drop (at + n) new ≡ drop (at + n) old

-- old with these bytes at this place
abbrev pub put_at : ℕ → List ℕ → List ℕ → List ℕ
put_at at bytes old = take at old ++ bytes ++ drop (at + length bytes) old

-- each image has P
abbrev pub EachImage : (List ℕ → Type 0) → Meaning → Type 0
EachImage P disk = (c : List ℕ) → disk.image c → P c

-- The rules of the images: those of this moment count from it on, what counts from this moment is
-- an image now, and the bytes as they read are one.
pub record IsLawful (disk : Meaning) : Type 0 where
  pub counts : (t : ℕ) (c : List ℕ) → t ≤ disk.moment → disk.image c → disk.since t c
  pub only_now : (c : List ℕ) → disk.since disk.moment c → disk.image c
  pub honest : IfSome disk.told disk.image

-- ---- moments

-- Time passes over calls. Nothing is forgotten, and a crash that is new since an earlier moment
-- leaves what has P.
pub record Passes (P : List ℕ → Type 0) (old new : Meaning) : Type 0 where
  pub later : old.moment ≤ new.moment
  pub kept : (t : ℕ) (c : List ℕ) → t ≤ old.moment → old.since t c → new.since t c
  pub added : (t : ℕ) (c : List ℕ) → t ≤ old.moment → new.since t c → old.since t c ⊎ P c
  pub tells : is_some new.told ≡ is_some old.told
  pub faults : NeverFalls old.faults new.faults
  pub limit : new.limit ≡ old.limit

-- time passes over calls, and nothing more is said of what a crash leaves
abbrev pub Lasts : Meaning → Meaning → Type 0
Lasts old new = Passes (λ _. Unit {0}) old new

-- at each moment since old a crash leaves what has P
pub record AtEachMoment (P : List ℕ → Type 0) (old new : Meaning) : Type 0 where
  pub each : (c : List ℕ) → new.since old.moment c → P c
  -- for what began earlier
  pub time : Passes P old new

-- ---- calls

-- neither the bytes nor the images change
pub record Looks (old new : Meaning) : Type 0 where
  pub told : new.told ≡ old.told
  pub image : (c : List ℕ) → new.image c ↔ old.image c
  pub time : Passes old.image old new

-- the bytes stay, and are the only image
pub record Syncs (old new : Meaning) : Type 0 where
  pub told : new.told ≡ old.told
  pub only : IfSome old.told (λ bytes. (c : List ℕ) → new.image c → c ≡ bytes)
  pub image : (c : List ℕ) → new.image c → old.image c
  pub time : Passes old.image old new

-- the images after a write of n bytes at a place: those before it, torn
abbrev pub torn_images : ℕ → ℕ → Meaning → List ℕ → Type 0
torn_images at n old c = (d : List ℕ) × old.image d × Torn at n d c

-- the bytes stand at the place, and are pending
pub record Writes (at : ℕ) (bytes : List ℕ) (old new : Meaning) : Type 0 where
  pub told : new.told ≡ option_map (put_at at bytes) old.told
  pub image : (c : List ℕ) → new.image c ↔ torn_images at (length bytes) old c
  pub time : Passes (torn_images at (length bytes) old) old new

-- a write of n bytes failed: any bytes may stand in its range
pub record Fails (at n : ℕ) (old new : Meaning) : Type 0 where
  pub told : IfSome old.told (λ before. IfSome new.told (Torn at n before))
  pub image : (c : List ℕ) → new.image c → torn_images at n old c
  pub time : Passes (torn_images at n old) old new
