-- Disks that hold logs over many sessions, each of which may be stopped at any moment. Which lists
-- of payloads are well formed is for the user of the log to say.
use Rattle.std.specs.Prelude.{◌≡◌, ◌⊎◌, ◌↔◌, ℕ, List, [], ◌∷◌, ◌++◌, Some}
use Rattle.wrp_disk.specs.Disks.{Meaning, EachImage, AtEachMoment}
use Rattle.wrp_log.specs.Payloads.{StandsFor, list_of}

-- ---- lists

-- the second list is the first with one further payload
abbrev pub IsNext : List (List ℕ) → List (List ℕ) → Type 0
IsNext payloads next = (payload : List ℕ) × (next ≡ payloads ++ payload ∷ [])

-- both are equal, or one is the other with one further payload
abbrev pub AreNear : List (List ℕ) → List (List ℕ) → Type 0
AreNear one other = (one ≡ other) ⊎ (IsNext one other ⊎ IsNext other one)

-- the second list begins with all of the first
abbrev pub Extends : List (List ℕ) → List (List ℕ) → Type 0
Extends base payloads = (more : List (List ℕ)) × (payloads ≡ base ++ more)

-- the bytes stand for a well-formed list that extends this one
abbrev pub Holds : (List (List ℕ) → Type 0) → List (List ℕ) → List ℕ → Type 0
Holds IsFormed base bytes =
    (payloads : List (List ℕ))
    × StandsFor payloads bytes × IsFormed payloads × Extends base payloads

-- ---- disks

-- each image stands for a well-formed list, and any two of these lists are near
pub record IsSound (IsFormed : List (List ℕ) → Type 0) (disk : Meaning) : Type 0 where
  pub formed : EachImage (Holds IsFormed []) disk
  pub near : (c d : List ℕ) → disk.image c → disk.image d → AreNear (list_of c) (list_of d)

-- all images stand for this list
abbrev pub IsSettledAt : List (List ℕ) → Meaning → Type 0
IsSettledAt payloads disk = EachImage (StandsFor payloads) disk

-- the bytes stand for this list, or for it and one further payload
abbrev pub IsBaseOrNext : List (List ℕ) → List ℕ → Type 0
IsBaseOrNext base bytes =
    StandsFor base bytes ⊎ ((next : List (List ℕ)) × IsNext base next × StandsFor next bytes)

-- the shortest list of a sound disk
pub record IsBase (base : List (List ℕ)) (disk : Meaning) : Type 0 where
  pub held : (c : List ℕ) × disk.image c × StandsFor base c
  pub least : EachImage (IsBaseOrNext base) disk

-- the disk after a stop that left these bytes: nothing of them is pending
pub record IsRestarted (bytes : List ℕ) (disk : Meaning) : Type 0 where
  pub told : disk.told ≡ Some bytes
  pub only : (c : List ℕ) → disk.image c ↔ (c ≡ bytes)

-- ---- sessions

-- Calls that keep lists: what all lists extend at the start, they extend at each moment since, and
-- they stay well formed.
pub record KeepsLists (IsFormed : List (List ℕ) → Type 0) (start run : Meaning) : Type 0 where
  pub moments : (base : List (List ℕ)) → EachImage (Holds IsFormed base) start
      → AtEachMoment (Holds IsFormed base) start run

-- Sessions one after the other. Each starts on a disk of which each image is one that a crash at
-- some moment of the session before has left: the disk as that session left it, or one such image.
pub data Sessions (IsFormed : List (List ℕ) → Type 0) (first : Meaning) : Meaning → Type 1 where
  NoSession : Sessions IsFormed first first
  OneMore : (start run next : Meaning) → Sessions IsFormed first start
      → KeepsLists IsFormed start run → EachImage (run.since start.moment) next
      → Sessions IsFormed first next
