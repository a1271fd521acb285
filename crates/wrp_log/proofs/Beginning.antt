-- What a crash leaves while a log is begun.
use Rattle.std.proofs.Common.{◌≡◌, ℕ, ◌≤◌, List, [], ◌∷◌, ◌++◌, length, take, refl, sym, ◌∙◌, ap, subst, arith, Option, Some, None}
use Rattle.std.specs.Prelude.{IfSome, IsSome, is_some, true, false}
use Rattle.std.proofs.lemmas.List.{drop_all, append-nil}
use Rattle.wrp_disk.specs.Disks.{Meaning, IsLawful, Passes, AtEachMoment, EachImage, put_at, torn_images, Syncs, Writes, Lasts}
use Rattle.wrp_disk.proofs.Time.{passes_then, passes_weaker, at_each}
use Rattle.wrp_log.specs.Payloads.{gates, payloads_of, gate_after, IsWritten, StandsFor, list_of, ok_or_none}
use Rattle.wrp_log.specs.Logs.{Place, IsAt, IsOn}
use Rattle.wrp_log.proofs.Written.{test_short, written_stands}
use Rattle.wrp_log.proofs.Adding.{synced_put, if_some_map}

abbrev pub nine : List ℕ
nine = 87 ∷ 82 ∷ 80 ∷ 76 ∷ 79 ∷ 71 ∷ 48 ∷ 50 ∷ 0 ∷ []

pub short_stands : (c : List ℕ) → length c ≤ 9 → StandsFor [] c
unfolding payloads_of
short_stands c short = test_short (length c) _ _ short

begun : IsWritten 2 [] nine
unfolding gates
begun = record { long = omega arith; head = refl; same_version = refl; gates = refl }

over_short : (c : List ℕ) → length c ≤ 9 → IsWritten 2 [] (put_at 0 nine c)
over_short c short = subst (IsWritten 2 []) (sym (ap (λ (l : List ℕ). nine ++ l) (drop_all 9 c short) ∙ append-nil nine)) begun

module _ (old : Meaning) (images : EachImage (λ c. length c ≤ 9) old) where
  torn_short : (c : List ℕ) → torn_images 0 9 old c → length c ≤ 9
  torn_short c (d, was, torn) = omega (arith, torn.no_longer, images d was)

  pub head_written : (one : Meaning) → Passes (torn_images 0 9 old) old one → Passes (λ c. length c ≤ 9) old one
  head_written one time = passes_weaker _ (λ c. length c ≤ 9) old one torn_short time

  pub head_synced : (one two : Meaning) → Writes 0 nine old one → Passes one.image one two → Passes (λ c. length c ≤ 9) old two
  head_synced one two writes time = passes_then _ old one two (head_written one writes.time) (passes_weaker _ _ one two (λ c is. torn_short c ((writes.image c).0 is)) time)

  pub head_begun : (one two : Meaning) → IsLawful old → IsSome old.told → Writes 0 nine old one → Syncs one two → EachImage (IsWritten 2 []) two
  head_begun one two lawful tells writes syncs =
      synced_put (IsWritten 2 []) 0 nine old one two tells (if_some_map old.told (λ b is. over_short b (images b is)) lawful.honest) writes syncs

-- the images of a fresh log's disk, where it tells its bytes
module _ (log : Place) (old : Meaning) (lawful : IsLawful old) (fresh : log.fresh ≡ true) (on : IsOn log old) where
  short_case : (o : Option (List ℕ)) → IfSome o (λ bytes. IsAt log (list_of bytes) old) → IsSome o → EachImage (λ c. length c ≤ 9) old
  short_case None at tells = absurd (grind arith)
  short_case (Some b) at tells = at.fresh fresh

  pub short_images : IsSome old.told → EachImage (λ c. length c ≤ 9) old
  short_images tells = short_case old.told on.settled tells

  pub begin_moments : (new : Meaning) → (EachImage (λ c. length c ≤ 9) old → Passes (λ c. length c ≤ 9) old new) → IsSome old.told → AtEachMoment (StandsFor []) old new
  begin_moments new time tells =
      let images = short_images tells in
      at_each (StandsFor []) old new lawful (λ c is. short_stands c (images c is)) (passes_weaker _ _ old new (λ c short. short_stands c short) (time images))

  -- once begun, whatever the rest of the log's place was
  pub begun_on : (later : Place) (new : Meaning) → later.fresh ≡ false → later.version ≡ 2 → later.count ≡ 0 → later.gate ≡ 8 → later.limit ≡ log.limit → later.replayed ≡ 0 → later.next ≡ 8
      → IsLawful new → Lasts old new → (IsSome old.told → EachImage (λ c. length c ≤ 9) old → EachImage (IsWritten 2 []) new) → IsOn later new
  begun_on later new is_begun version count gate limit replayed next lawful_new lasts written = record {
    limit = limit ∙ on.limit ∙ sym lasts.limit;
    settled = at_case new.told lasts.tells lawful_new.honest;
  }
    where
      at_case : (n : Option (List ℕ)) → is_some n ≡ is_some old.told → IfSome n new.image → IfSome n (λ bytes. IsAt later (list_of bytes) new)
      at_case None tells now = now
      at_case (Some b) tells now =
          let each = written (sym tells) (short_images (sym tells)) in
          let none : list_of b ≡ [] = ap ok_or_none (written_stands 2 [] b (each b now)) in
          subst (λ l. IsAt later l new) (sym none) (record {
            count = count;
            gate = gate;
            replayed = omega (arith, replayed);
            next = next ∙ sym (ap (λ (n : ℕ). gate_after (take n [])) replayed);
            begun = λ _. subst (λ v. EachImage (IsWritten v []) new) (sym version) each;
            fresh = λ still. absurd (grind arith);
          })
