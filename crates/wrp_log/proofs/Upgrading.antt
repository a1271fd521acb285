-- A log of version 1 becomes one of version 2.
use Rattle.std.proofs.Common.{◌≡◌, inl, inr, ℕ, zero, suc, ◌+◌, ◌≤◌, List, [], ◌∷◌, ◌++◌, length, get_or, take, drop, refl, sym, ◌∙◌, ap, subst, arith, length-append, take-append-drop, Result, Ok, Err, Bool, true, false, cond}
use Rattle.std.specs.Prelude.{IsSome, IfSome, Some, if◌then◌else◌, nat_le, nat_lt, nat_eq, ◌&&◌}
use Rattle.std.proofs.lemmas.Bool.{cases_eq}
use Rattle.std.proofs.lemmas.Bool.Decides.{nat_tests}
use Rattle.std.proofs.lemmas.List.{take_at, drop_more, get_or_at, length-take-le, length-drop}
use Rattle.wrp_disk.specs.Disks.{Meaning, IsLawful, Passes, AtEachMoment, EachImage, Torn, put_at, torn_images, Syncs, Writes}
use Rattle.wrp_disk.proofs.Time.{passes_then, passes_weaker, at_each}
use Rattle.wrp_log.specs.declared.fault.OpenFault.{OpenFault}
use Rattle.wrp_log.specs.declared.fault.OpenFault.TheVariants as faults
use Rattle.wrp_log.specs.Payloads.{version_of, payload_limit, gates, before_all, is_whole, size_at, IsWritten, StandsFor, list_of}
use Rattle.wrp_log.proofs.Gates.{gates-shut}
use Rattle.wrp_log.proofs.Written.{written_stands}
use Rattle.wrp_log.proofs.Edits.{torn_over, put_over, behind_gate}
use Rattle.wrp_log.specs.Logs.{Place, IsAt, IsOn}
use Rattle.wrp_log.proofs.Adding.{synced_put, if_some_map}

larger_whole : (a l m s : ℕ) → l ≤ m → (nat_le 4 a && (nat_le s l && nat_lt (4 + s) a)) ≡ true → (nat_le 4 a && (nat_le s m && nat_lt (4 + s) a)) ≡ true
larger_whole a l m s le is = grind (arith, nat_tests)

more_read : (payload : List ℕ) (payloads : List (List ℕ)) (read later : Result (List (List ℕ)) OpenFault) → before_all payload read ≡ Ok payloads → ((qs : List (List ℕ)) → read ≡ Ok qs → later ≡ Ok qs) → before_all payload later ≡ Ok payloads
more_read payload payloads (Ok qs) later is same = ap (before_all payload) (same qs refl) ∙ is
more_read payload payloads (Err e) later is same = absurd (grind arith)

more_open : (limit larger at : ℕ) (rest : List ℕ) (payloads : List (List ℕ)) (read later : Result (List (List ℕ)) OpenFault) (whole : Bool) → limit ≤ larger → is_whole limit rest ≡ whole
    → (if whole then before_all (take (size_at rest) (drop 4 rest)) read else Err (faults.Broken at)) ≡ Ok payloads → ((qs : List (List ℕ)) → read ≡ Ok qs → later ≡ Ok qs)
    → (if is_whole larger rest then before_all (take (size_at rest) (drop 4 rest)) later else Err (faults.Broken at)) ≡ Ok payloads
more_open limit larger at rest payloads read later true le whole is same = rw (larger_whole (length rest) limit larger (size_at rest) le whole) (more_read (take (size_at rest) (drop 4 rest)) payloads read later is same)
more_open limit larger at rest payloads read later false le whole is same = absurd (grind arith)

-- what stands for payloads under a limit does so under a larger one
pub gates_more : (limit larger at pass : ℕ) (bytes : List ℕ) (payloads : List (List ℕ)) → limit ≤ larger → gates limit at pass bytes ≡ Ok payloads → gates larger at pass bytes ≡ Ok payloads
unfolding gates
gates_more limit larger at pass [] payloads le is = is
gates_more limit larger at (suc pass) (byte ∷ rest) payloads le is = gates_more limit larger (at + 1) pass rest payloads le is
gates_more limit larger at zero (gate ∷ rest) payloads le is = elim (cases_eq gate 1) [
  | inr shut ↦ gates-shut larger at gate rest shut ∙ sym (gates-shut limit at gate rest shut) ∙ is
  | inl opened ↦ subst (λ g. gates larger at 0 (g ∷ rest) ≡ Ok payloads) (sym opened) (more_open limit larger at rest payloads _ (gates larger (at + 1) (4 + size_at rest) rest) (is_whole limit rest) le refl
      (subst (λ g. gates limit at 0 (g ∷ rest) ≡ Ok payloads) opened is) (λ qs same. gates_more limit larger (at + 1) (4 + size_at rest) rest qs le same))
]

limit_least : (version : ℕ) → payload_limit 1 ≤ payload_limit version
limit_least version = grind (arith, nat_tests)

module _ (payloads : List (List ℕ)) (d : List ℕ) (was : IsWritten 1 payloads d) where
  seven : length (take 7 d) ≡ 7
  seven = length-take-le 7 d (omega (arith, was.long))

  split : d ≡ take 7 d ++ get_or d 7 0 ∷ drop 8 d
  split = sym (take-append-drop 7 d) ∙ ap (λ (l : List ℕ). take 7 d ++ l) (drop_more d 7 0 (omega (arith, was.long)))

  -- with any byte at the place of the version
  relabelled : (x : ℕ) (c : List ℕ) → c ≡ take 7 d ++ x ∷ drop 8 d → IsWritten (version_of c) payloads c
  relabelled x c is = record {
    long = omega (arith, ap length is, seven, length-append (take 7 d) (x ∷ drop 8 d), length-drop 8 d, was.long);
    head = ap (λ (l : List ℕ). take 7 l) is ∙ take_at (take 7 d) (x ∷ drop 8 d) 7 seven ∙ was.head;
    same_version = refl;
    gates = gates_more (payload_limit 1) (payload_limit (version_of c)) 8 0 (drop 8 c) payloads (limit_least (version_of c))
        (ap (λ (l : List ℕ). gates (payload_limit 1) 8 0 l) (ap (λ (l : List ℕ). drop 8 l) is ∙ behind_gate (take 7 d) 7 seven x (drop 8 d)) ∙ was.gates);
  }

  pub torn_label : (c : List ℕ) → Torn 7 1 d c → StandsFor payloads c
  torn_label c torn =
      let is = torn_over (take 7 d) 7 seven (get_or d 7 0) (drop 8 d) c (subst (λ l. Torn 7 1 l c) split torn) in
      written_stands (version_of c) payloads c (relabelled (get_or c 7 0) c is)

  pub put_label : IsWritten 2 payloads (put_at 7 (50 ∷ []) d)
  put_label =
      let is = ap (put_at 7 (50 ∷ [])) split ∙ put_over (take 7 d) 7 seven (get_or d 7 0) (drop 8 d) 50 in
      let byte : get_or (put_at 7 (50 ∷ []) d) 7 0 ≡ 50 = ap (λ (l : List ℕ). get_or l 7 0) is ∙ get_or_at (take 7 d) 50 (drop 8 d) 0 7 seven in
      subst (λ v. IsWritten v payloads (put_at 7 (50 ∷ []) d)) (ap (λ (b : ℕ). cond (nat_eq b 50) 2 1) byte) (relabelled 50 (put_at 7 (50 ∷ []) d) is)

module _ (payloads : List (List ℕ)) (old : Meaning) (images : EachImage (IsWritten 1 payloads) old) where
  label_torn : (c : List ℕ) → torn_images 7 1 old c → StandsFor payloads c
  label_torn c (d, was, torn) = torn_label payloads d (images d was) c torn

  pub label_written : (one : Meaning) → Passes (torn_images 7 1 old) old one → Passes (StandsFor payloads) old one
  label_written one time = passes_weaker _ (StandsFor payloads) old one label_torn time

  pub label_synced : (one two : Meaning) → Writes 7 (50 ∷ []) old one → Passes one.image one two → Passes (StandsFor payloads) old two
  label_synced one two writes time = passes_then _ old one two (label_written one writes.time) (passes_weaker _ _ one two (λ c is. label_torn c ((writes.image c).0 is)) time)

  pub label_done : (one two : Meaning) → IsLawful old → IsSome old.told → Writes 7 (50 ∷ []) old one → Syncs one two → EachImage (IsWritten 2 payloads) two
  label_done one two lawful tells writes syncs =
      synced_put (IsWritten 2 payloads) 7 (50 ∷ []) old one two tells (if_some_map old.told (λ b is. put_label payloads b (images b is)) lawful.honest) writes syncs

-- a begun log of version 1, while its version is written
module _ (log : Place) (old new : Meaning) (lawful : IsLawful old) (begun : log.fresh ≡ false) (first : log.version ≡ 1) (on : IsOn log old) where
  first_written : (payloads : List (List ℕ)) → IsAt log payloads old → EachImage (IsWritten 1 payloads) old
  first_written payloads at c is = subst (λ v. IsWritten v payloads c) first (at.begun begun c is)

  pub upgrade_moments : ((payloads : List (List ℕ)) → EachImage (IsWritten 1 payloads) old → Passes (StandsFor payloads) old new)
      → IfSome old.told (λ bytes. AtEachMoment (StandsFor (list_of bytes)) old new)
  upgrade_moments time = if_some_map old.told (λ bytes at.
      at_each _ old new lawful (λ c is. written_stands 1 (list_of bytes) c (first_written (list_of bytes) at c is)) (time (list_of bytes) (first_written (list_of bytes) at))) on.settled

  -- the images of version 2, once it is written
  pub second_written : ((payloads : List (List ℕ)) → IsSome old.told → EachImage (IsWritten 1 payloads) old → EachImage (IsWritten 2 payloads) new)
      → (bytes : List ℕ) → old.told ≡ Some bytes → IsAt log (list_of bytes) old → EachImage (IsWritten 2 (list_of bytes)) new
  second_written written bytes is at = written (list_of bytes) (subst (λ t. IsSome t) (sym is) refl) (first_written (list_of bytes) at)
