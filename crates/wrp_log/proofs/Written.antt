-- A log that was begun, in its parts.
use Rattle.std.proofs.Common.{◌≡◌, ◌≢◌, ◌⊎◌, inl, inr, ℕ, ◌+◌, ◌<◌, ◌≤◌, List, [], ◌∷◌, ◌++◌, length, take, drop, refl, sym, ◌∙◌, ap, subst, cond, arith, append_assoc, length-append, take-append-drop}
use Rattle.std.proofs.lemmas.List.{drop_at, take-take, get_or_append_left, get_or-take, length-take-le, length-drop, take-append-le}
use Rattle.std.proofs.lemmas.Bool.Decides.{nat_tests}
use Rattle.std.specs.Prelude.{Ok, nat_eq, nat_le, if◌then◌else◌}
use Rattle.byteorder.specs.Endian.{big_number}
use Rattle.wrp_log.specs.Payloads.{mark, version_of, payload_limit, before_all, gates, payloads_of, IsWritten, StandsFor, gate_after}
use Rattle.wrp_log.proofs.Gates.{IsFront, Parts, closed, before_others, gates-sized, gates-shut}
use Rattle.wrp_log.proofs.Parted.{parts}

-- the head of a log of this version
pub record IsHead (version : ℕ) (head : List ℕ) : Type 0 where
  pub eight : length head ≡ 8
  pub marked : take 7 head ≡ mark
  pub is : version_of head ≡ version

-- a begun log is a head, a front, and then a closed gate, with anything behind it
pub record Split (version : ℕ) (payloads : List (List ℕ)) (bytes : List ℕ) : Type 0 where
  pub head : List ℕ
  pub is_head : IsHead version head
  pub parts : Parts (payload_limit version) payloads (drop 8 bytes)
  pub is : bytes ≡ (head ++ parts.front) ++ parts.gate ∷ parts.rest
  pub size : length (head ++ parts.front) ≡ gate_after payloads

pub split_written : (version : ℕ) (payloads : List (List ℕ)) (bytes : List ℕ) → IsWritten version payloads bytes → Split version payloads bytes
split_written version payloads bytes written =
    let behind = parts (payload_limit version) 8 0 (drop 8 bytes) payloads (omega (arith, length-drop 8 bytes, written.long)) written.gates in
    let eight : length (take 8 bytes) ≡ 8 = length-take-le 8 bytes (omega (arith, written.long)) in
    record {
      head = take 8 bytes;
      is_head = record {
        eight = eight;
        marked = take-take 7 8 bytes (omega arith) ∙ written.head;
        is = ap (λ (b : ℕ). cond (nat_eq b 50) 2 1) (get_or-take 8 bytes 7 0 (omega arith)) ∙ written.same_version;
      };
      parts = behind;
      is = sym (take-append-drop 8 bytes) ∙ ap (λ (l : List ℕ). take 8 bytes ++ l) behind.is ∙ sym (append_assoc (take 8 bytes) behind.front (behind.gate ∷ behind.rest));
      size = omega (arith, eight, behind.is_front.size, length-append (take 8 bytes) behind.front);
    }

-- a head, and bytes behind it
pub head_then : (version : ℕ) (payloads : List (List ℕ)) (head rest : List ℕ) → IsHead version head → 0 < length rest → gates (payload_limit version) 8 0 rest ≡ Ok payloads → IsWritten version payloads (head ++ rest)
head_then version payloads head rest is more stands = record {
  long = omega (arith, is.eight, more, length-append head rest);
  head = take-append-le 7 head rest (omega (arith, is.eight)) ∙ is.marked;
  same_version = ap (λ (b : ℕ). cond (nat_eq b 50) 2 1) (get_or_append_left head rest 0 7 (omega (arith, is.eight))) ∙ is.is;
  gates = ap (λ (l : List ℕ). gates (payload_limit version) 8 0 l) (drop_at head rest 8 is.eight) ∙ stands;
}

pub gate_least : (payloads : List (List ℕ)) → 8 ≤ gate_after payloads
gate_least [] = omega arith
gate_least (p ∷ payloads) = omega (arith, gate_least payloads)

none_of : (payloads : List (List ℕ)) → gate_after payloads ≤ 8 → payloads ≡ []
none_of [] fits = refl
none_of (p ∷ payloads) fits = absurd (omega (arith, fits, gate_least payloads))

pub test_short : {X : Type 0} (n : ℕ) (a b : X) → n ≤ 9 → (if nat_le n 9 then a else b) ≡ a
test_short n a b le = grind (arith, nat_tests)

pub test_long : {X : Type 0} (n : ℕ) (a b : X) → 9 < n → (if nat_le n 9 then a else b) ≡ b
test_long n a b lt = grind (arith, nat_tests)

-- what was begun stands for its payloads
pub written_stands : (version : ℕ) (payloads : List (List ℕ)) (bytes : List ℕ) → IsWritten version payloads bytes → StandsFor payloads bytes
unfolding payloads_of
written_stands version payloads bytes written = elim (by_le (length bytes) 9) [
  | inl short ↦
      let split = split_written version payloads bytes written in
      let long : length bytes ≡ gate_after payloads + 1 + length split.parts.rest = omega (arith, ap length split.is, split.size, length-append (split.head ++ split.parts.front) (split.parts.gate ∷ split.parts.rest)) in
      test_short (length bytes) _ _ short ∙ ap Ok (sym (none_of payloads (omega (arith, long, short))))
  | inr long ↦
      test_long (length bytes) _ _ long ∙ rw (written.head, written.same_version) written.gates
]
  where
    by_le : (a b : ℕ) → (a ≤ b) ⊎ (b < a)
    by_le a b = grind arith

-- one open gate and a payload behind a front
pub one_more : (version : ℕ) (payloads : List (List ℕ)) (payload size head front rest : List ℕ) → IsHead version head → IsFront (payload_limit version) payloads front
    → length size ≡ 4 → big_number 4 size ≡ length payload → length payload ≤ payload_limit version
    → IsWritten version (payloads ++ payload ∷ []) ((head ++ front) ++ 1 ∷ ((size ++ payload) ++ 0 ∷ rest))
one_more version payloads payload size head front rest is_head is_front four reads fits =
    let limit = payload_limit version in
    let behind = 1 ∷ ((size ++ payload) ++ 0 ∷ rest) in
    let at = 8 + length front in
    let last : gates limit at 0 behind ≡ Ok (payload ∷ []) =
    gates-sized limit payload (0 ∷ rest) size four reads fits (omega arith) at ∙ ap (before_all payload) (gates-shut limit (at + 5 + length payload) 0 rest (omega arith)) in
    let whole : gates limit 8 0 (front ++ behind) ≡ Ok (payloads ++ payload ∷ []) = is_front.goes_on 8 behind (omega arith) ∙ ap (before_others payloads) last ∙ joined payloads payload in
    subst (IsWritten version (payloads ++ payload ∷ [])) (sym (append_assoc head front behind)) (head_then version (payloads ++ payload ∷ []) head (front ++ behind) is_head (omega (arith, length-append front behind)) whole)
  where
    joined : (ps : List (List ℕ)) (p : List ℕ) → before_others ps (Ok (p ∷ [])) ≡ Ok (ps ++ p ∷ [])
    joined [] p = refl
    joined (q ∷ ps) p = ap (before_all q) (joined ps p)

-- a closed gate behind a front
pub as_before : (version : ℕ) (payloads : List (List ℕ)) (head front : List ℕ) (gate : ℕ) (rest : List ℕ) → IsHead version head → IsFront (payload_limit version) payloads front → gate ≢ 1
    → IsWritten version payloads ((head ++ front) ++ gate ∷ rest)
as_before version payloads head front gate rest is_head is_front shut =
    subst (IsWritten version payloads) (sym (append_assoc head front (gate ∷ rest)))
    (head_then version payloads head (front ++ gate ∷ rest) is_head (omega (arith, length-append front (gate ∷ rest))) (closed (payload_limit version) 8 payloads front gate rest is_front shut))
