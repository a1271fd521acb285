-- One step from a gate.
use Rattle.std.proofs.Common.{◌≡◌, ◌≢◌, ◌⊎◌, ℕ, ◌+◌, ◌-◌, ◌<◌, ◌≤◌, List, [], ◌∷◌, length, get_or, take, drop, refl, sym, ◌∙◌, ap, arith, take-append-drop}
use Rattle.std.proofs.lemmas.List.{drop-drop, drop-take, length-take-le, length-drop, get_or-take}
use Rattle.std.proofs.lemmas.Bool.Decides.{nat_tests}
use Rattle.std.specs.Prelude.{Ok, Err, true, false, nat_le, nat_lt, ◌&&◌, if◌then◌else◌}
use Rattle.byteorder.specs.Endian.{big_number}
use Rattle.byteorder.specs.Numbers.{big_from-take}
use Rattle.wrp_log.specs.declared.fault.OpenFault.TheVariants as faults
use Rattle.wrp_log.specs.Payloads.{gates, before_all, is_whole, size_at}
use Rattle.wrp_log.proofs.Gates.{gates-shut, gates-pass}

pub step_closed : (limit at : ℕ) (bytes : List ℕ) → get_or bytes 0 0 ≢ 1 → gates limit at 0 bytes ≡ Ok []
unfolding gates
step_closed limit at [] shut = refl
step_closed limit at (gate ∷ rest) shut = gates-shut limit at gate rest shut

-- behind an open gate
pub opened : (limit at : ℕ) (bytes : List ℕ) → get_or bytes 0 0 ≡ 1
    → gates limit at 0 bytes ≡ (if is_whole limit (drop 1 bytes) then before_all (take (size_at (drop 1 bytes)) (drop 4 (drop 1 bytes))) (gates limit (at + 1) (4 + size_at (drop 1 bytes)) (drop 1 bytes)) else Err (faults.Broken at))
unfolding gates
opened limit at [] is = absurd (omega (arith, is))
opened limit at (gate ∷ rest) is = rw is refl

pub step_broken : (limit at : ℕ) (bytes : List ℕ) → get_or bytes 0 0 ≡ 1 → is_whole limit (drop 1 bytes) ≡ false → gates limit at 0 bytes ≡ Err (faults.Broken at)
step_broken limit at bytes is cut = opened limit at bytes is ∙ rw cut refl

-- what is read behind a payload, with the bytes before it dropped
pub passed : (limit at : ℕ) (bytes : List ℕ) (size : ℕ) → 5 + size < length bytes
    → gates limit (at + 1) (4 + size) (drop 1 bytes) ≡ gates limit (at + 5 + size) 0 (drop (5 + size) bytes)
passed limit at bytes size long =
    let rest = drop 1 bytes in
    let behind = drop (4 + size) rest in
    ap (λ (l : List ℕ). gates limit (at + 1) (4 + size) l) (sym (take-append-drop (4 + size) rest))
    ∙ gates-pass limit (at + 1) (take (4 + size) rest) behind (4 + size) (length-take-le (4 + size) rest (omega (arith, length-drop 1 bytes, long)))
    ∙ ap (λ (k : ℕ). gates limit k 0 behind) (omega arith)
    ∙ ap (λ (l : List ℕ). gates limit (at + 5 + size) 0 l) (drop-drop (4 + size) 1 bytes ∙ ap (λ (k : ℕ). drop k bytes) (omega arith))

pub step_open : (limit at : ℕ) (bytes : List ℕ) (size : ℕ) → get_or bytes 0 0 ≡ 1 → size ≡ size_at (drop 1 bytes) → size ≤ limit → 5 + size < length bytes
    → (payload : List ℕ) × (length payload ≡ size) × (5 + size < length bytes) × (gates limit at 0 bytes ≡ before_all payload (gates limit (at + 5 + size) 0 (drop (5 + size) bytes)))
step_open limit at bytes size is reads fits long =
    let rest = drop 1 bytes in
    let len = length-drop 1 bytes in
    let whole : is_whole limit rest ≡ true = rw (← reads, len) (tests (length bytes) limit size long fits) in
    let payload = take size (drop 4 rest) in
    (payload, length-take-le size (drop 4 rest) (omega (arith, length-drop 4 rest, len, long)), long, opened limit at bytes is ∙ rw (whole, ← reads) (ap (before_all payload) (passed limit at bytes size long)))
  where
    tests : (a l s : ℕ) → 5 + s < a → s ≤ l → (nat_le 4 (a - 1) && (nat_le s l && nat_lt (4 + s) (a - 1))) ≡ true
    tests a l s lt le = grind (arith, nat_tests)

pub front_gate : (bytes front : List ℕ) → take 5 bytes ≡ front → get_or bytes 0 0 ≡ get_or front 0 0
front_gate bytes front is = sym (get_or-take 5 bytes 0 0 (omega arith)) ∙ ap (λ (l : List ℕ). get_or l 0 0) is

-- the length behind a gate, read from the first five bytes
pub size_front : (bytes front : List ℕ) → take 5 bytes ≡ front → big_number 4 (drop 1 front) ≡ size_at (drop 1 bytes)
size_front bytes front is = ap (λ (l : List ℕ). big_number 4 (drop 1 l)) (sym is) ∙ ap (λ (l : List ℕ). big_number 4 l) (drop-take 1 4 bytes) ∙ big_from-take 0 4 4 (drop 1 bytes) (omega arith)

pub cut_short : (limit : ℕ) (bytes : List ℕ) → length bytes < 5 → is_whole limit (drop 1 bytes) ≡ false
cut_short limit bytes lt = rw (length-drop 1 bytes) (tests (length bytes) limit _ lt)
  where
    tests : (a l s : ℕ) → a < 5 → (nat_le 4 (a - 1) && (nat_le s l && nat_lt (4 + s) (a - 1))) ≡ false
    tests a l s lt = grind (arith, nat_tests)

pub too_large : (limit : ℕ) (bytes : List ℕ) (size : ℕ) → size ≡ size_at (drop 1 bytes) → limit < size ⊎ (length bytes ≤ 5 + size) → is_whole limit (drop 1 bytes) ≡ false
too_large limit bytes size is large = rw (← is, length-drop 1 bytes) (tests (length bytes) limit size large)
  where
    tests : (a l s : ℕ) → l < s ⊎ (a ≤ 5 + s) → (nat_le 4 (a - 1) && (nat_le s l && nat_lt (4 + s) (a - 1))) ≡ false
    tests a l s large = grind (arith, nat_tests)
