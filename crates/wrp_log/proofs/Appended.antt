-- How a log stands on its disk before and after a payload is added, and after an upgrade.
use Rattle.std.proofs.Common.{◌≡◌, inl, ℕ, ◌+◌, ◌≤◌, List, [], ◌∷◌, ◌++◌, length, refl, sym, ◌∙◌, ap, subst, arith, length-append, Option, Some, None}
use Rattle.std.specs.Prelude.{IfSome, IsSome, is_some, false}
use Rattle.std.specs.Option.{option_map}
use Rattle.std.proofs.lemmas.List.{length_push, take-append-le}
use Rattle.wrp_disk.specs.Disks.{Meaning, IsLawful, Passes, AtEachMoment, EachImage, Lasts}
use Rattle.wrp_disk.proofs.Time.{passes_none, at_each}
use Rattle.wrp_log.specs.Payloads.{IsWritten, gate_after, list_of, ok_or_none}
use Rattle.wrp_log.specs.Logs.{Place, IsBeforeOrAfter, IsAt, IsOn, Stands, list_told, added_to}
use Rattle.wrp_log.proofs.Written.{split_written, written_stands}

-- a fact of what an option has, with the option
pub told_case : {X : Type 0} {P Q : X → Type 0} (o : Option X) → ((x : X) → o ≡ Some x → P x → Q x) → IfSome o P → IfSome o Q
told_case None f has = has
told_case (Some x) f has = f x refl has

pub told_both : {X : Type 0} (P Q : X → Type 0) (o : Option X) → IfSome o P → IfSome o Q → IfSome o (λ x. P x × Q x)
told_both P Q None p q = p
told_both P Q (Some x) p q = (p, q)

pub gate_push : (payloads : List (List ℕ)) (payload : List ℕ) → gate_after (payloads ++ payload ∷ []) ≡ gate_after payloads + 5 + length payload
gate_push [] payload = omega arith
gate_push (p ∷ payloads) payload = omega (arith, gate_push payloads payload)

long_enough : (version : ℕ) (payloads : List (List ℕ)) (bytes : List ℕ) (gate : ℕ) → gate ≡ gate_after payloads → IsWritten version payloads bytes → gate + 1 ≤ length bytes
long_enough version payloads bytes gate is written =
    let s = split_written version payloads bytes written in
    omega (arith, is, s.size, ap length s.is, length-append (s.head ++ s.parts.front) (s.parts.gate ∷ s.parts.rest))

module _ (log : Place) (old : Meaning) (lawful : IsLawful old) (begun : log.fresh ≡ false) (on : IsOn log old) where
  pub no_gap : IfSome old.told (λ bytes. log.gate + 1 ≤ length bytes)
  no_gap = told_case old.told (λ bytes is both. long_enough log.version (list_of bytes) bytes log.gate both.1.gate (both.1.begun begun bytes both.0)) (told_both _ _ old.told lawful.honest on.settled)

  -- at the start each image stands for the payloads
  pub stands_at : (bytes : List ℕ) → old.told ≡ Some bytes → IsAt log (list_of bytes) old → Stands log.version (list_of bytes) log.gate old
  stands_at bytes is at = record {
    tells = subst (λ t. IsSome t) (sym is) refl;
    images = at.begun begun;
    gate_is = at.gate;
  }

  pub any_moment : (payload : List ℕ) (new : Meaning) → ((bytes : List ℕ) → old.told ≡ Some bytes → IsAt log (list_of bytes) old → Passes (IsBeforeOrAfter (list_of bytes) payload) old new)
      → IfSome old.told (λ bytes. AtEachMoment (IsBeforeOrAfter (list_of bytes) payload) old new)
  any_moment payload new time =
      told_case old.told (λ bytes is at. at_each _ old new lawful (λ c now. inl (written_stands log.version (list_of bytes) c (at.begun begun c now))) (time bytes is at)) on.settled

  pub untouched : (payload : List ℕ) → IfSome old.told (λ bytes. AtEachMoment (IsBeforeOrAfter (list_of bytes) payload) old old)
  untouched payload = any_moment payload old (λ bytes is at. passes_none _ old)

-- where each image stands for a list that was made of the old one
module _ (log later : Place) (old new : Meaning) (lawful_new : IsLawful new) (lasts : Lasts old new) (on : IsOn log old) (grown : List (List ℕ) → List (List ℕ))
    (written : (bytes : List ℕ) → old.told ≡ Some bytes → IsAt log (list_of bytes) old → EachImage (IsWritten later.version (grown (list_of bytes))) new) where
  images : IfSome old.told (λ bytes. IsAt log (list_of bytes) old × EachImage (IsWritten later.version (grown (list_of bytes))) new)
  images = told_case old.told (λ bytes is at. (at, written bytes is at)) on.settled

  list_now : (payloads : List (List ℕ)) (bytes : List ℕ) → EachImage (IsWritten later.version payloads) new → new.image bytes → list_of bytes ≡ payloads
  list_now payloads bytes each now = ap ok_or_none (written_stands later.version payloads bytes (each bytes now))

  list_case : (o n : Option (List ℕ)) → is_some n ≡ is_some o → IfSome n new.image → IfSome o (λ bytes. IsAt log (list_of bytes) old × EachImage (IsWritten later.version (grown (list_of bytes))) new)
      → option_map list_of n ≡ option_map grown (option_map list_of o)
  list_case None None tells now at = refl
  list_case None (Some b) tells now at = absurd (grind arith)
  list_case (Some b) None tells now at = absurd (grind arith)
  list_case (Some b) (Some c) tells now at = ap Some (list_now (grown (list_of b)) c at.1 now)

  pub list_after : list_told new ≡ option_map grown (list_told old)
  list_after = list_case old.told new.told lasts.tells lawful_new.honest images

  module _ (limit : later.limit ≡ log.limit) (stands : (payloads : List (List ℕ)) → IsAt log payloads old → EachImage (IsWritten later.version (grown payloads)) new → IsAt later (grown payloads) new) where
    on_case : (o n : Option (List ℕ)) → is_some n ≡ is_some o → IfSome n new.image → IfSome o (λ bytes. IsAt log (list_of bytes) old × EachImage (IsWritten later.version (grown (list_of bytes))) new)
        → IfSome n (λ bytes. IsAt later (list_of bytes) new)
    on_case None None tells now at = at
    on_case None (Some b) tells now at = absurd (grind arith)
    on_case (Some b) None tells now at = absurd (grind arith)
    on_case (Some b) (Some c) tells now at = subst (λ l. IsAt later l new) (sym (list_now (grown (list_of b)) c at.1 now)) (stands (list_of b) at.0 at.1)

    pub on_after : IsOn later new
    on_after = record { limit = limit ∙ on.limit ∙ sym lasts.limit; settled = on_case old.told new.told lasts.tells lawful_new.honest images }

-- a log that was begun, with one payload more
pub added_at : (log : Place) (payload : List ℕ) (old new : Meaning) → log.fresh ≡ false → (payloads : List (List ℕ)) → IsAt log payloads old → EachImage (IsWritten log.version (payloads ++ payload ∷ [])) new
    → IsAt (added_to payload log) (payloads ++ payload ∷ []) new
added_at log payload old new begun payloads at each = record {
  count = omega (arith, at.count, length_push payloads payload);
  gate = omega (arith, at.gate, gate_push payloads payload);
  replayed = omega (arith, at.replayed, length_push payloads payload);
  next = at.next ∙ ap gate_after (sym (take-append-le log.replayed payloads (payload ∷ []) at.replayed));
  begun = λ _. each;
  fresh = λ fresh. absurd (grind arith);
}

-- a log that was begun, in version 2
pub upgraded_at : (log : Place) (old new : Meaning) → log.fresh ≡ false → (payloads : List (List ℕ)) → IsAt log payloads old → EachImage (IsWritten 2 payloads) new
    → IsAt (record log { version = 2 }) payloads new
upgraded_at log old new begun payloads at each = record {
  count = at.count;
  gate = at.gate;
  replayed = at.replayed;
  next = at.next;
  begun = λ _. each;
  fresh = λ fresh. absurd (grind arith);
}

pub same_list : {X : Type 0} (told : Option X) → option_map (λ x. x) told ≡ told
same_list None = refl
same_list (Some x) = refl
