-- The parts of bytes that stand for payloads.
use Rattle.std.proofs.Common.{◌≡◌, inl, inr, ℕ, zero, suc, ◌+◌, ◌<◌, ◌≤◌, List, [], ◌∷◌, ◌++◌, length, take, drop, refl, sym, ◌∙◌, ap, subst, arith, append_assoc, take-append-drop}
use Rattle.std.proofs.lemmas.List.{drop-drop, length-take-le, length-drop}
use Rattle.std.proofs.lemmas.Bool.{cases_eq}
use Rattle.std.proofs.lemmas.Bool.Decides.{nat_tests}
use Rattle.std.specs.Prelude.{Result, Ok, Err, true, false, nat_le, nat_lt, ◌&&◌, if◌then◌else◌, Bool}
use Rattle.byteorder.specs.Endian.{big_number}
use Rattle.byteorder.specs.Numbers.{big_from-take}
use Rattle.wrp_log.specs.declared.fault.OpenFault.{OpenFault}
use Rattle.wrp_log.specs.declared.fault.OpenFault.TheVariants as faults
use Rattle.wrp_log.specs.Payloads.{gates, before_all, is_whole, size_at, ok_or_none}
use Rattle.wrp_log.proofs.Gates.{Parts, front_none, front_more, gates-shut}

pub whole_tests : (a l s : ℕ) → (nat_le 4 a && (nat_le s l && nat_lt (4 + s) a)) ≡ true → (4 ≤ a) × (s ≤ l) × (4 + s < a)
whole_tests a l s is = (grind (arith, nat_tests), grind (arith, nat_tests), grind (arith, nat_tests))

open_parts : (limit : ℕ) (rest : List ℕ) (payloads : List (List ℕ)) (result : Result (List (List ℕ)) OpenFault) → is_whole limit rest ≡ true → before_all (take (size_at rest) (drop 4 rest)) result ≡ Ok payloads
    → ((ps : List (List ℕ)) → result ≡ Ok ps → Parts limit ps (drop (4 + size_at rest) rest)) → Parts limit payloads (1 ∷ rest)
open_parts limit rest payloads (Err e) whole is later = absurd (grind arith)
open_parts limit rest payloads (Ok ps) whole is later =
    let tests = whole_tests (length rest) limit (size_at rest) whole in
    let p = take (size_at rest) (drop 4 rest) in
    let others = later ps refl in
    let four : length (take 4 rest) ≡ 4 = length-take-le 4 rest tests.0 in
    let size : length p ≡ size_at rest = length-take-le (size_at rest) (drop 4 rest) (omega (arith, tests.2, length-drop 4 rest)) in
    let reads : big_number 4 (take 4 rest) ≡ size_at rest = big_from-take 0 4 4 rest (omega arith) in
    let behind : drop 4 rest ≡ p ++ drop (4 + size_at rest) rest =
    sym (take-append-drop (size_at rest) (drop 4 rest)) ∙ ap (λ (l : List ℕ). p ++ l) (drop-drop (size_at rest) 4 rest) in
    let split : rest ≡ take 4 rest ++ (p ++ (others.front ++ others.gate ∷ others.rest)) =
    sym (take-append-drop 4 rest) ∙ ap (λ (l : List ℕ). take 4 rest ++ l) (behind ∙ ap (λ (l : List ℕ). p ++ l) others.is) in
    subst (λ l. Parts limit l (1 ∷ rest)) (ap ok_or_none is) (record {
      front = (1 ∷ take 4 rest ++ p) ++ others.front;
      gate = others.gate;
      rest = others.rest;
      is = ap (λ (l : List ℕ). 1 ∷ l) (split ∙ sym (append_assoc (take 4 rest) p (others.front ++ others.gate ∷ others.rest)) ∙ sym (append_assoc (take 4 rest ++ p) others.front (others.gate ∷ others.rest)));
      is_front = front_more limit p (take 4 rest) ps others.front four (reads ∙ sym size) (omega (arith, size, tests.1)) others.is_front;
      shut = others.shut;
    })

opened_parts : (limit at : ℕ) (rest : List ℕ) (payloads : List (List ℕ)) (result : Result (List (List ℕ)) OpenFault) (whole : Bool) → is_whole limit rest ≡ whole
    → (if whole then before_all (take (size_at rest) (drop 4 rest)) result else Err (faults.Broken at)) ≡ Ok payloads
    → ((ps : List (List ℕ)) → 4 + size_at rest < length rest → result ≡ Ok ps → Parts limit ps (drop (4 + size_at rest) rest)) → Parts limit payloads (1 ∷ rest)
opened_parts limit at rest payloads result true whole is later = open_parts limit rest payloads result whole is (λ ps. later ps (whole_tests (length rest) limit (size_at rest) whole).2)
opened_parts limit at rest payloads result false whole is later = absurd (grind arith)

-- bytes that stand for payloads are a front of them, a closed gate, and what stands behind it
pub parts : (limit at pass : ℕ) (bytes : List ℕ) (payloads : List (List ℕ)) → pass < length bytes → gates limit at pass bytes ≡ Ok payloads → Parts limit payloads (drop pass bytes)
unfolding gates
parts limit at pass [] payloads more is = absurd (omega (arith, more))
parts limit at (suc pass) (byte ∷ rest) payloads more is = parts limit (at + 1) pass rest payloads (omega (arith, more)) is
parts limit at zero (gate ∷ rest) payloads more is = elim (cases_eq gate 1) [
  | inr shut ↦ subst (λ l. Parts limit l (gate ∷ rest)) (ap ok_or_none (sym (gates-shut limit at gate rest shut) ∙ is)) (record { front = []; gate = gate; rest = rest; is = refl; is_front = front_none limit; shut = shut })
  | inl opened ↦ subst (λ g. Parts limit payloads (g ∷ rest)) (sym opened) (opened_parts limit at rest payloads (gates limit (at + 1) (4 + size_at rest) rest) (is_whole limit rest) refl
      (subst (λ g. gates limit at 0 (g ∷ rest) ≡ Ok payloads) opened is) (λ ps long later. parts limit (at + 1) (4 + size_at rest) rest ps long later))
]
