-- What a crash leaves while a block is put behind the closed gate, and while the gate is opened.
use Rattle.std.proofs.Common.{◌≡◌, ◌⊎◌, inl, inr, ℕ, ◌+◌, ◌<◌, ◌≤◌, ◌^◌, List, [], ◌∷◌, ◌++◌, length, get_or, take, drop, sym, ◌∙◌, ap, subst, arith, append_assoc, length-append, Option, Some, None}
use Rattle.std.proofs.lemmas.Bool.{cases_eq}
use Rattle.std.proofs.lemmas.List.{length-take-le}
use Rattle.std.proofs.lemmas.Bool.Decides.{nat_tests}
use Rattle.std.proofs.lemmas.List.{append-nil}
use Rattle.std.specs.Prelude.{IfSome, IsSome, Result, Ok, Err, OnOk, OnErr}
use Rattle.byteorder.specs.Endian.{big_bytes, big_number}
use Rattle.byteorder.specs.Numbers.{big_number-reads_back, length-bytes_high_first}
use Rattle.std.specs.Option.{option_map}
use Rattle.wrp_disk.specs.Disks.{Meaning, IsLawful, Passes, EachImage, Torn, put_at, torn_images, Syncs, Writes, Lasts}
use Rattle.wrp_disk.proofs.Time.{passes_then, passes_weaker}
use Rattle.wrp_log.specs.Payloads.{payload_limit, IsWritten, gate_after}
use Rattle.wrp_log.specs.Logs.{IsBeforeOrAfter, IsBlock}
use Rattle.wrp_log.proofs.Gates.{IsFront}
use Rattle.wrp_log.proofs.Written.{IsHead, split_written, written_stands, one_more, as_before}
use Rattle.wrp_log.proofs.Edits.{torn_behind, put_behind, torn_over, put_over}

pub if_some_map : {X : Type 0} {P Q : X → Type 0} (o : Option X) → ((x : X) → P x → Q x) → IfSome o P → IfSome o Q
if_some_map None f has = has
if_some_map (Some x) f has = f x has

-- a call that answers Ok or Err, either of which leads on
pub either_way : {X E : Type 0} {A B C : Type 0} (r : Result X E) → OnOk r A → OnErr r B → (A → C) → (B → C) → C
either_way (Ok x) a b f h = f a
either_way (Err e) a b f h = h b

pub on_ok_map : {X E : Type 0} {A B : Type 0} (r : Result X E) → (A → B) → OnOk r A → OnOk r B
on_ok_map (Ok x) f a = f a
on_ok_map (Err e) f a = a

pub length_put : (at : ℕ) (bytes old : List ℕ) → at ≤ length old → at ≤ length (put_at at bytes old)
length_put at bytes old le =
    omega (arith, length-append (take at old ++ bytes) (drop (at + length bytes) old), length-append (take at old) bytes, length-take-le at old le)

-- after a write, and a sync, there is no gap before the place of the write
pub still_no_gap : (at : ℕ) (bytes : List ℕ) (told one two : Option (List ℕ)) → IfSome told (λ b. at ≤ length b) → one ≡ option_map (put_at at bytes) told → two ≡ one → IfSome two (λ b. at ≤ length b)
still_no_gap at bytes told one two has is same = subst (λ t. IfSome t (λ b. at ≤ length b)) (sym (same ∙ is)) (mapped told has)
  where
    mapped : (t : Option (List ℕ)) → IfSome t (λ b. at ≤ length b) → IfSome (option_map (put_at at bytes) t) (λ b. at ≤ length b)
    mapped None has = has
    mapped (Some b) has = length_put at bytes b has

told_put : (P Image : List ℕ → Type 0) (put : List ℕ → List ℕ) (told after : Option (List ℕ)) → IsSome told → IfSome told (λ b. P (put b)) → after ≡ option_map put told
    → IfSome after (λ b. (c : List ℕ) → Image c → c ≡ b) → (c : List ℕ) → Image c → P c
told_put P Image put None after tells has is only c now = absurd (grind arith)
told_put P Image put (Some b) after tells has is only c now = subst P (sym (subst (λ t. IfSome t (λ b. (c : List ℕ) → Image c → c ≡ b)) is only c now)) has

-- the images after a write and a sync, from the bytes before
pub synced_put : (P : List ℕ → Type 0) (at : ℕ) (bytes : List ℕ) (old mid new : Meaning) → IsSome old.told → IfSome old.told (λ b. P (put_at at bytes b)) → Writes at bytes old mid → Syncs mid new → EachImage P new
synced_put P at bytes old mid new tells has writes syncs = told_put P new.image (put_at at bytes) old.told mid.told tells has writes.told syncs.only

pub limit_small : (version : ℕ) → payload_limit version ≤ 2 ^ 28
limit_small version = grind (arith, nat_tests)

-- a length reads back
pub reads_size : (n : ℕ) → n < 2 ^ 32 → big_number 4 (big_bytes 4 n) ≡ n
reads_size n small = ap (λ (l : List ℕ). big_number 4 l) (sym (append-nil (big_bytes 4 n))) ∙ big_number-reads_back 4 n [] (omega (arith, small))

-- any run of calls of which nothing is promised
pub lasts : (old new : Meaning) (P : List ℕ → Type 0) → Passes P old new → Lasts old new
lasts old new P time = passes_weaker P (λ _. Unit {0}) old new (λ c has. record {}) time

pub lasts_then : (old mid new : Meaning) (P : List ℕ → Type 0) → Lasts old mid → Passes P mid new → Lasts old new
lasts_then old mid new P one two = passes_then (λ _. Unit {0}) old mid new one (lasts mid new P two)

module _ (version : ℕ) (payloads : List (List ℕ)) (payload : List ℕ) (gate : ℕ) (place : gate ≡ gate_after payloads) (block : List ℕ) (is_block : IsBlock version payload block) where
  Before : List ℕ → Type 0
  Before c = IsWritten version payloads c

  -- behind the closed gate any bytes count for nothing
  pub torn_keeps : (n : ℕ) (d c : List ℕ) → IsWritten version payloads d → Torn (gate + 1) n d c → IsWritten version payloads c
  torn_keeps n d c was torn =
      let s = split_written version payloads d was in
      let pre = s.head ++ s.parts.front in
      let size : length pre ≡ gate = s.size ∙ sym place in
      let is = torn_behind pre gate size s.parts.gate s.parts.rest n c (subst (λ l. Torn (gate + 1) n l c) s.is torn) in
      subst (IsWritten version payloads) (sym is) (as_before version payloads s.head s.parts.front s.parts.gate (drop (gate + 1) c) s.is_head s.parts.is_front s.parts.shut)

  -- a block behind the gate, whatever the gate is
  pub record Staged (bytes : List ℕ) : Type 0 where
    pub head : List ℕ
    pub front : List ℕ
    pub gate_byte : ℕ
    pub rest : List ℕ
    pub is_head : IsHead version head
    pub is_front : IsFront (payload_limit version) payloads front
    pub size : length (head ++ front) ≡ gate
    pub is : bytes ≡ (head ++ front) ++ gate_byte ∷ (block ++ rest)

  pub put_stages : (d : List ℕ) → IsWritten version payloads d → Staged (put_at (gate + 1) block d)
  put_stages d was =
      let s = split_written version payloads d was in
      let pre = s.head ++ s.parts.front in
      let size : length pre ≡ gate = s.size ∙ sym place in
      record {
        head = s.head;
        front = s.parts.front;
        gate_byte = s.parts.gate;
        rest = drop (gate + 1 + length block) (pre ++ s.parts.gate ∷ s.parts.rest);
        is_head = s.is_head;
        is_front = s.parts.is_front;
        size = size;
        is = ap (put_at (gate + 1) block) s.is ∙ put_behind pre gate size s.parts.gate s.parts.rest block;
      }

  opened : (bytes : List ℕ) (s : Staged bytes) → IsWritten version (payloads ++ payload ∷ []) ((s.head ++ s.front) ++ 1 ∷ (block ++ s.rest))
  opened bytes s =
      let size = big_bytes 4 (length payload) in
      let split : block ++ s.rest ≡ (size ++ payload) ++ 0 ∷ s.rest = ap (λ (l : List ℕ). l ++ s.rest) is_block.is ∙ append_assoc (size ++ payload) (0 ∷ []) s.rest in
      subst (λ l. IsWritten version (payloads ++ payload ∷ []) ((s.head ++ s.front) ++ 1 ∷ l)) (sym split)
      (one_more version payloads payload size s.head s.front s.rest s.is_head s.is_front (length-bytes_high_first 4 (length payload)) (reads_size (length payload) (omega (arith, is_block.fits, limit_small version))) is_block.fits)

  -- the gate is opened in part: closed, or open
  pub torn_opens : (d c : List ℕ) → Staged d → Torn gate 1 d c → IsWritten version payloads c ⊎ IsWritten version (payloads ++ payload ∷ []) c
  torn_opens d c s torn =
      let is = torn_over (s.head ++ s.front) gate s.size s.gate_byte (block ++ s.rest) c (subst (λ l. Torn gate 1 l c) s.is torn) in
      elim (cases_eq (get_or c gate 0) 1) [
        | inl whole ↦ inr (subst (IsWritten version (payloads ++ payload ∷ [])) (sym (is ∙ ap (λ (b : ℕ). (s.head ++ s.front) ++ b ∷ (block ++ s.rest)) whole)) (opened d s))
        | inr shut ↦ inl (subst (IsWritten version payloads) (sym is) (as_before version payloads s.head s.front (get_or c gate 0) (block ++ s.rest) s.is_head s.is_front shut))
      ]

  pub put_opens : (d : List ℕ) → Staged d → IsWritten version (payloads ++ payload ∷ []) (put_at gate (1 ∷ []) d)
  put_opens d s = subst (IsWritten version (payloads ++ payload ∷ [])) (sym (ap (put_at gate (1 ∷ [])) s.is ∙ put_over (s.head ++ s.front) gate s.size s.gate_byte (block ++ s.rest) 1)) (opened d s)

  -- the images of the four calls, in order
  pub Opened : List ℕ → Type 0
  Opened c = IsWritten version payloads c ⊎ IsWritten version (payloads ++ payload ∷ []) c

  pub torn_behind_images : (n : ℕ) (old : Meaning) → EachImage (IsWritten version payloads) old → (c : List ℕ) → torn_images (gate + 1) n old c → IsWritten version payloads c
  torn_behind_images n old images c (d, was, torn) = torn_keeps n d c (images d was) torn

  pub torn_over_images : (old : Meaning) → EachImage Staged old → (c : List ℕ) → torn_images gate 1 old c → IsWritten version payloads c ⊎ IsWritten version (payloads ++ payload ∷ []) c
  torn_over_images old images c (d, was, torn) = torn_opens d c (images d was) torn

  stands : (c : List ℕ) → IsWritten version payloads c ⊎ IsWritten version (payloads ++ payload ∷ []) c → IsBeforeOrAfter payloads payload c
  stands c (inl before) = inl (written_stands version payloads c before)
  stands c (inr after) = inr (written_stands version (payloads ++ payload ∷ []) c after)

  -- from a disk whose images stand for the payloads: a block behind the gate, on the disk; and then the gate
  pub staged_images : (old mid new : Meaning) → IsLawful old → IsSome old.told → EachImage (IsWritten version payloads) old → Writes (gate + 1) block old mid → Syncs mid new → EachImage Staged new
  staged_images old mid new lawful tells images writes syncs =
      synced_put Staged (gate + 1) block old mid new tells (if_some_map old.told (λ b is. put_stages b (images b is)) lawful.honest) writes syncs

  pub opened_images : (old mid new : Meaning) → IsLawful old → IsSome old.told → EachImage Staged old → Writes gate (1 ∷ []) old mid → Syncs mid new → EachImage (IsWritten version (payloads ++ payload ∷ [])) new
  opened_images old mid new lawful tells images writes syncs =
      synced_put (IsWritten version (payloads ++ payload ∷ [])) gate (1 ∷ []) old mid new tells (if_some_map old.told (λ b is. put_opens b (images b is)) lawful.honest) writes syncs

  -- how far the calls have come since old
  module _ (old : Meaning) (lawful : IsLawful old) (tells : IsSome old.told) (images : EachImage (IsWritten version payloads) old) where
    P : List ℕ → Type 0
    P = IsBeforeOrAfter payloads payload

    torn_stands : (n : ℕ) (c : List ℕ) → torn_images (gate + 1) n old c → IsBeforeOrAfter payloads payload c
    torn_stands n c torn = inl (written_stands version payloads c (torn_behind_images n old images c torn))

    pub wrote : (n : ℕ) (one : Meaning) → Passes (torn_images (gate + 1) n old) old one → Passes (IsBeforeOrAfter payloads payload) old one
    wrote n one time = passes_weaker _ _ old one (torn_stands n) time

    pub wrote_images : (one : Meaning) → Writes (gate + 1) block old one → EachImage (IsWritten version payloads) one
    wrote_images one writes c is = torn_behind_images (length block) old images c ((writes.image c).0 is)

    pub synced : (one two : Meaning) → Writes (gate + 1) block old one → Passes one.image one two → Passes (IsBeforeOrAfter payloads payload) old two
    synced one two writes time =
        passes_then _ old one two (wrote (length block) one writes.time)
        (passes_weaker _ _ one two (λ c is. inl (written_stands version payloads c (wrote_images one writes c is))) time)

    pub staged : (one two : Meaning) → Writes (gate + 1) block old one → Syncs one two → EachImage Staged two
    staged one two writes syncs = staged_images old one two lawful tells images writes syncs

    pub opens : (one two three : Meaning) → Writes (gate + 1) block old one → Syncs one two → Passes (torn_images gate 1 two) two three → Passes (IsBeforeOrAfter payloads payload) old three
    opens one two three writes syncs time =
        passes_then _ old two three (synced one two writes syncs.time) (passes_weaker _ _ two three (λ c torn. stands c (torn_over_images two (staged one two writes syncs) c torn)) time)

    pub opened_synced : (one two three four : Meaning) → Writes (gate + 1) block old one → Syncs one two → Writes gate (1 ∷ []) two three → Passes three.image three four → Passes (IsBeforeOrAfter payloads payload) old four
    opened_synced one two three four writes syncs opening time =
        passes_then _ old three four (opens one two three writes syncs opening.time)
        (passes_weaker _ _ three four (λ c is. stands c (torn_over_images two (staged one two writes syncs) c ((opening.image c).0 is))) time)

    still_told : (one two : Meaning) → Writes (gate + 1) block old one → Syncs one two → IsSome two.told
    still_told one two writes syncs = syncs.time.tells ∙ writes.time.tells ∙ tells

    pub added : (one two three four : Meaning) → IsLawful two → Writes (gate + 1) block old one → Syncs one two → Writes gate (1 ∷ []) two three → Syncs three four → EachImage (IsWritten version (payloads ++ payload ∷ [])) four
    added one two three four lawful_two writes syncs opening last =
        opened_images two three four lawful_two (still_told one two writes syncs) (staged one two writes syncs) opening last
