-- A disk that tells nothing of its bytes.
use Rattle.std.specs.Prelude.{ℕ, ◌^◌, None}
use Rattle.wrp_disk.specs.Disks.{Meaning, IsLawful}

-- the greatest length of a file, and of a disk that never fails
abbrev pub file_limit : ℕ
file_limit = 2 ^ 40

-- it has no images either, so that nothing is said of them
abbrev pub silent : ℕ → ℕ → Meaning
silent faults limit = record {
  told = None;
  image = λ _. ⊥;
  since = λ _ _. ⊥;
  moment = 0;
  faults = faults;
  limit = limit;
}

pub lawful_silent : (faults limit : ℕ) → IsLawful (silent faults limit)
lawful_silent faults limit = record {
  counts = λ t c le is. is;
  only_now = λ c is. is;
  honest = record {};
}
