-- What payloads behind open gates stand for.
use Rattle.std.proofs.Common.{◌≡◌, ◌≢◌, ℕ, zero, suc, ◌+◌, ◌<◌, ◌≤◌, List, [], ◌∷◌, ◌++◌, length, drop, refl, ◌∙◌, ap, arith, append_assoc, length-append}
use Rattle.std.proofs.lemmas.List.{take_at, drop_at}
use Rattle.std.proofs.lemmas.Bool.Decides.{nat_tests}
use Rattle.std.specs.Prelude.{Result, Ok, Err, true}
use Rattle.byteorder.specs.Endian.{big_number}
use Rattle.byteorder.specs.Numbers.{big_from-append}
use Rattle.wrp_log.specs.declared.fault.OpenFault.{OpenFault}
use Rattle.wrp_log.specs.Payloads.{gates, before_all, is_whole, size_at, gate_after}

-- bytes that are passed over
pub gates-pass : (limit at : ℕ) (xs rest : List ℕ) (n : ℕ) → length xs ≡ n → gates limit at n (xs ++ rest) ≡ gates limit (at + n) 0 rest
unfolding gates
gates-pass limit at [] rest zero is = ap (λ (k : ℕ). gates limit k 0 rest) (omega arith)
gates-pass limit at [] rest (suc n) is = absurd (omega (arith, is))
gates-pass limit at (x ∷ xs) rest zero is = absurd (omega (arith, is))
gates-pass limit at (x ∷ xs) rest (suc n) is = gates-pass limit (at + 1) xs rest n (omega (arith, is)) ∙ ap (λ (k : ℕ). gates limit k 0 rest) (omega arith)

-- a closed gate ends them, whatever stands behind it
pub gates-shut : (limit at gate : ℕ) (rest : List ℕ) → gate ≢ 1 → gates limit at 0 (gate ∷ rest) ≡ Ok []
unfolding gates
gates-shut limit at gate rest shut = grind (arith, nat_tests)

module _ (limit : ℕ) (payload rest size : List ℕ) (four : length size ≡ 4) (reads : big_number 4 size ≡ length payload) (fits : length payload ≤ limit) (more : 0 < length rest) where
  behind : List ℕ
  behind = (size ++ payload) ++ rest

  size_is : size_at behind ≡ length payload
  unfolding behind
  size_is = ap (λ (l : List ℕ). big_number 4 l) (append_assoc size payload rest) ∙ big_from-append 4 size (payload ++ rest) (omega (arith, four)) ∙ reads

  behind_size : drop 4 behind ≡ payload ++ rest
  unfolding behind
  behind_size = rw append_assoc (drop_at size (payload ++ rest) 4 four)

  long : length behind ≡ 4 + length payload + length rest
  unfolding behind
  long = omega (arith, four, length-append (size ++ payload) rest, length-append size payload)

  whole : is_whole limit behind ≡ true
  whole = rw (size_is, long) (grind (arith, nat_tests))

  passed : (at : ℕ) → gates limit (at + 1) (4 + length payload) behind ≡ gates limit (at + 5 + length payload) 0 rest
  unfolding behind
  passed at = gates-pass limit (at + 1) (size ++ payload) rest (4 + length payload) (omega (arith, four, length-append size payload)) ∙ ap (λ (k : ℕ). gates limit k 0 rest) (omega arith)

  -- a whole payload behind an open gate, and then what stands behind it
  gates-whole : (at : ℕ) → gates limit at 0 (1 ∷ behind) ≡ before_all payload (gates limit (at + 5 + length payload) 0 rest)
  unfolding gates
  gates-whole at = rw (whole, size_is, behind_size, take_at payload rest (length payload) refl, passed at) refl

  pub gates-sized : (at : ℕ) → gates limit at 0 (1 ∷ (size ++ payload) ++ rest) ≡ before_all payload (gates limit (at + 5 + length payload) 0 rest)
  unfolding behind
  gates-sized at = gates-whole at

-- payloads before others
abbrev pub before_others : List (List ℕ) → Result (List (List ℕ)) OpenFault → Result (List (List ℕ)) OpenFault
before_others [] result = result
before_others (payload ∷ payloads) result = before_all payload (before_others payloads result)

-- the bytes from one gate to another, with these payloads behind open gates, whatever stands after them
pub record IsFront (limit : ℕ) (payloads : List (List ℕ)) (front : List ℕ) : Type 0 where
  pub size : 8 + length front ≡ gate_after payloads
  pub goes_on : (at : ℕ) (rest : List ℕ) → 0 < length rest → gates limit at 0 (front ++ rest) ≡ before_others payloads (gates limit (at + length front) 0 rest)

pub front_none : (limit : ℕ) → IsFront limit [] []
front_none limit = record { size = refl; goes_on = λ at rest more. ap (λ (k : ℕ). gates limit k 0 rest) (omega arith) }

-- one block, and the front behind it
pub front_more : (limit : ℕ) (payload size : List ℕ) (payloads : List (List ℕ)) (front : List ℕ) → length size ≡ 4 → big_number 4 size ≡ length payload → length payload ≤ limit
    → IsFront limit payloads front → IsFront limit (payload ∷ payloads) ((1 ∷ size ++ payload) ++ front)
front_more limit payload size payloads front four reads fits others = record {
  size = omega (arith, four, others.size, length-append (size ++ payload) front, length-append size payload);
  goes_on = λ at rest more.
      rw (append_assoc (1 ∷ size ++ payload) front rest, gates-sized limit payload (front ++ rest) size four reads fits (omega (arith, more, length-append front rest)) at, others.goes_on (at + 5 + length payload) rest more)
      (ap (λ (k : ℕ). before_all payload (before_others payloads (gates limit k 0 rest))) (omega (arith, four, length-append (size ++ payload) front, length-append size payload)));
}

-- bytes of a log from its first gate on: a front, a closed gate, and what stands behind it
pub record Parts (limit : ℕ) (payloads : List (List ℕ)) (bytes : List ℕ) : Type 0 where
  pub front : List ℕ
  pub gate : ℕ
  pub rest : List ℕ
  pub is : bytes ≡ front ++ gate ∷ rest
  pub is_front : IsFront limit payloads front
  pub shut : gate ≢ 1

-- such parts stand for their payloads
pub closed : (limit at : ℕ) (payloads : List (List ℕ)) (front : List ℕ) (gate : ℕ) (rest : List ℕ) → IsFront limit payloads front → gate ≢ 1 → gates limit at 0 (front ++ gate ∷ rest) ≡ Ok payloads
closed limit at payloads front gate rest is shut =
    is.goes_on at (gate ∷ rest) (omega arith) ∙ ap (before_others payloads) (gates-shut limit (at + length front) gate rest shut) ∙ none payloads
  where
    none : (ps : List (List ℕ)) → before_others ps (Ok []) ≡ Ok ps
    none [] = refl
    none (p ∷ ps) = ap (before_all p) (none ps)

pub before_push : (payloads : List (List ℕ)) (payload : List ℕ) (read : Result (List (List ℕ)) OpenFault) → before_others (payloads ++ payload ∷ []) read ≡ before_others payloads (before_all payload read)
before_push [] payload read = refl
before_push (p ∷ payloads) payload read = ap (before_all p) (before_push payloads payload read)

pub before_none : (payloads : List (List ℕ)) → before_others payloads (Ok []) ≡ Ok payloads
before_none [] = refl
before_none (p ∷ payloads) = ap (before_all p) (before_none payloads)

pub before_err : (payloads : List (List ℕ)) (fault : OpenFault) → before_others payloads (Err fault) ≡ Err fault
before_err [] fault = refl
before_err (p ∷ payloads) fault = ap (before_all p) (before_err payloads fault)
