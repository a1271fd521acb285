-- Which disks are sound, and what sessions keep.
use Rattle.std.proofs.Common.{◌≡◌, ◌⊎◌, ⊎_elim, inl, inr, ℕ, ◌≤◌, List, [], ◌∷◌, ◌++◌, length, refl, sym, ◌∙◌, ap, subst, IfSome, Bool, true, false}
use Rattle.std.proofs.lemmas.List.{append-nil, append_assoc}
use Rattle.wrp_disk.specs.Disks.{Meaning, IsLawful, EachImage, Passes, AtEachMoment}
use Rattle.wrp_disk.proofs.Time.{passes_then, passes_weaker, at_each}
use Rattle.wrp_log.specs.Payloads.{StandsFor, list_of, ok_or_none, head_size}
use Rattle.wrp_log.specs.Logs.{Place, IsAt, IsOn, IsBeforeOrAfter}
use Rattle.wrp_log.specs.Sound.{IsNext, AreNear, Extends, Holds, IsSound, IsSettledAt, IsBase, IsRestarted, KeepsLists, Sessions, NoSession, OneMore}
use Rattle.wrp_log.proofs.Adding.{if_some_map}
use Rattle.wrp_log.proofs.Appended.{told_both}
use Rattle.wrp_log.proofs.Beginning.{short_stands}
use Rattle.wrp_log.proofs.Written.{written_stands}

-- ---- lists

listed : (payloads : List (List ℕ)) (c : List ℕ) → StandsFor payloads c → list_of c ≡ payloads
listed payloads c stands = ap ok_or_none stands

pub extends_self : (base : List (List ℕ)) → Extends base base
extends_self base = ([], sym (append-nil base))

pub extends_next : (base next : List (List ℕ)) → IsNext base next → Extends base next
extends_next base next (payload, is) = (payload ∷ [], is)

pub extends_then : (base mid payloads : List (List ℕ)) → Extends base mid → Extends mid payloads → Extends base payloads
extends_then base mid payloads (some, one) (more, two) = (some ++ more, two ∙ ap (λ (l : List (List ℕ)). l ++ more) one ∙ append_assoc base some more)

-- ---- sound disks

module _ (IsFormed : List (List ℕ) → Type 0) where
  pub settled_sound : (payloads : List (List ℕ)) (disk : Meaning) → IsFormed payloads → IsSettledAt payloads disk → IsSound IsFormed disk
  settled_sound payloads disk formed settled = record {
    formed = λ c is. (payloads, settled c is, formed, (payloads, refl));
    near = λ c d one two. inl (listed payloads c (settled c one) ∙ sym (listed payloads d (settled d two)));
  }

  -- a disk all of whose images are fresh
  pub fresh_sound : (disk : Meaning) → IsFormed [] → EachImage (λ c. length c ≤ head_size) disk → IsSound IsFormed disk
  fresh_sound disk formed short = settled_sound [] disk formed (λ c is. short_stands c (short c is))

  pub restarted_sound : (payloads : List (List ℕ)) (bytes : List ℕ) (disk : Meaning) → IsFormed payloads → StandsFor payloads bytes → IsRestarted bytes disk → IsSound IsFormed disk
  restarted_sound payloads bytes disk formed stands restarted =
      settled_sound payloads disk formed (λ c is. subst (StandsFor payloads) (sym ((restarted.only c).0 is)) stands)

  -- wherever a payload was being added
  pub added_sound : (payloads : List (List ℕ)) (payload : List ℕ) (old new : Meaning) → IsLawful new → IsFormed payloads → IsFormed (payloads ++ payload ∷ []) → AtEachMoment (IsBeforeOrAfter payloads payload) old new
      → IsSound IsFormed new
  added_sound payloads payload old new lawful before after moments = record {
    formed = λ c is. ⊎_elim (λ stands. (payloads, stands, before, (payloads, refl))) (λ stands. (next, stands, after, (next, refl))) (left c is);
    near = λ c d one two. near_by c d (left c one) (left d two);
  }
    where
      next : List (List ℕ)
      next = payloads ++ payload ∷ []

      left : (c : List ℕ) → new.image c → IsBeforeOrAfter payloads payload c
      left c is = moments.each c (lawful.counts old.moment c moments.time.later is)

      near_by : (c d : List ℕ) → IsBeforeOrAfter payloads payload c → IsBeforeOrAfter payloads payload d → AreNear (list_of c) (list_of d)
      near_by c d (inl one) (inl two) = inl (listed payloads c one ∙ sym (listed payloads d two))
      near_by c d (inl one) (inr two) = inr (inl (payload, listed (payloads ++ payload ∷ []) d two ∙ ap (λ (l : List (List ℕ)). l ++ payload ∷ []) (sym (listed payloads c one))))
      near_by c d (inr one) (inl two) = inr (inr (payload, listed (payloads ++ payload ∷ []) c one ∙ ap (λ (l : List (List ℕ)). l ++ payload ∷ []) (sym (listed payloads d two))))
      near_by c d (inr one) (inr two) = inl (listed (payloads ++ payload ∷ []) c one ∙ sym (listed (payloads ++ payload ∷ []) d two))

  -- each list of a sound disk extends its base
  pub base_held : (base : List (List ℕ)) (disk : Meaning) → IsSound IsFormed disk → IsBase base disk → EachImage (Holds IsFormed base) disk
  base_held base disk sound least c is = held (sound.formed c is) (least.least c is)
    where
      held : Holds IsFormed [] c → StandsFor base c ⊎ ((next : List (List ℕ)) × IsNext base next × StandsFor next c) → Holds IsFormed base c
      held (payloads, stands, formed, _) (inl same) = (payloads, stands, formed, subst (Extends base) (sym (listed base c same) ∙ listed payloads c stands) (extends_self base))
      held (payloads, stands, formed, _) (inr (next, is_next, same)) = (payloads, stands, formed, subst (Extends base) (sym (listed next c same) ∙ listed payloads c stands) (extends_next base next is_next))

  -- ---- calls that keep lists

  -- a call that looks, or that syncs
  pub looks_keeps : (old new : Meaning) → IsLawful old → Passes old.image old new → KeepsLists IsFormed old new
  looks_keeps old new lawful time = record {
    moments = λ base start. at_each (Holds IsFormed base) old new lawful start (passes_weaker old.image (Holds IsFormed base) old new start time);
  }

  -- calls at each moment of which all images stand for one list, that of an image at the start
  pub settled_keeps : (payloads : List (List ℕ)) (bytes : List ℕ) (old new : Meaning) → IsLawful old → old.image bytes → StandsFor payloads bytes → IsFormed payloads → Passes (StandsFor payloads) old new
      → KeepsLists IsFormed old new
  settled_keeps payloads bytes old new lawful now stands formed time = record {
    moments = λ base start. at_each (Holds IsFormed base) old new lawful start (passes_weaker (StandsFor payloads) (Holds IsFormed base) old new (held base (start bytes now)) time);
  }
    where
      held : (base : List (List ℕ)) → Holds IsFormed base bytes → (c : List ℕ) → StandsFor payloads c → Holds IsFormed base c
      held base (same, is, _, extends) c one = (payloads, one, formed, subst (Extends base) (sym (listed same bytes is) ∙ listed payloads bytes stands) extends)

  -- a payload that is added to a list
  pub added_keeps : (payloads : List (List ℕ)) (payload bytes : List ℕ) (old new : Meaning) → IsLawful old → old.image bytes → StandsFor payloads bytes → IsFormed payloads → IsFormed (payloads ++ payload ∷ [])
      → Passes (IsBeforeOrAfter payloads payload) old new → KeepsLists IsFormed old new
  added_keeps payloads payload bytes old new lawful now stands before after time = record {
    moments = λ base start. at_each (Holds IsFormed base) old new lawful start (passes_weaker (IsBeforeOrAfter payloads payload) (Holds IsFormed base) old new (held base (start bytes now)) time);
  }
    where
      held : (base : List (List ℕ)) → Holds IsFormed base bytes → (c : List ℕ) → IsBeforeOrAfter payloads payload c → Holds IsFormed base c
      held base (same, is, _, extends) c (inl one) = (payloads, one, before, subst (Extends base) (sym (listed same bytes is) ∙ listed payloads bytes stands) extends)
      held base (same, is, _, extends) c (inr one) = (
        payloads ++ payload ∷ [],
        one,
        after,
        extends_then base payloads (payloads ++ payload ∷ []) (subst (Extends base) (sym (listed same bytes is) ∙ listed payloads bytes stands) extends) (payload ∷ [], refl),
      )

  -- some calls, and then some more
  pub keeps_then : (old mid new : Meaning) → IsLawful old → IsLawful mid → KeepsLists IsFormed old mid → KeepsLists IsFormed mid new → KeepsLists IsFormed old new
  keeps_then old mid new lawful lawful_mid one two = record {
    moments = λ base start.
        let first = one.moments base start in
        let second = two.moments base (λ c is. first.each c (lawful_mid.counts old.moment c first.time.later is)) in
        at_each (Holds IsFormed base) old new lawful start (passes_then (Holds IsFormed base) old mid new first.time second.time);
  }

  -- ---- sessions

  -- what all lists extend at the start, they extend after any sessions
  pub sessions_hold : (first last : Meaning) → Sessions IsFormed first last → (base : List (List ℕ)) → EachImage (Holds IsFormed base) first → EachImage (Holds IsFormed base) last
  sessions_hold first last NoSession base held = held
  sessions_hold first last (OneMore start run next before keeps left) base held =
      λ c is. (keeps.moments base (sessions_hold first start before base held)).each c (left c is)

-- where a log is on a disk that tells its bytes, the disk is settled at its list
pub on_settled : (log : Place) (disk : Meaning) → IsLawful disk → IsOn log disk → IfSome disk.told (λ bytes. IsSettledAt (list_of bytes) disk)
on_settled log disk lawful on = if_some_map disk.told (λ bytes both. settled bytes both.0 both.1 log.fresh refl) (told_both _ _ disk.told lawful.honest on.settled)
  where
    settled : (bytes : List ℕ) → disk.image bytes → IsAt log (list_of bytes) disk → (fresh : Bool) → log.fresh ≡ fresh → IsSettledAt (list_of bytes) disk
    settled bytes now at false is c image = written_stands log.version (list_of bytes) c (at.begun is c image)
    settled bytes now at true is c image = subst (λ l. StandsFor l c) (sym (listed [] bytes (short_stands bytes (at.fresh is bytes now)))) (short_stands c (at.fresh is c image))
