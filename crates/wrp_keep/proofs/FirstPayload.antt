-- What a disk holds while its log gets its first payload.
use Rattle.std.proofs.Common.{◌≡◌, ◌⊎◌, ⊎_elim, inl, inr, ℕ, ◌+◌, ◌^◌, ◌<◌, ◌≤◌, Bool, true, false, List, [], ◌∷◌, ◌++◌, length, Option, Some, None, Result, Ok, Err, refl, sym, ◌∙◌, ap, subst, arith}
use Rattle.std.specs.Prelude.{IfSome, IsSome, OnOk, OnErr, is_some, nat_lt, nat_le, nat_eq, ◌&&◌, if◌then◌else◌}
use Rattle.std.specs.Option.{option_map}
use Rattle.std.proofs.lemmas.Bool.{cases_lt}
use Rattle.std.proofs.lemmas.Bool.Decides.{nat_tests}
use Rattle.wrp_out.specs.Counts.{Rose}
use Rattle.wrp_out.proofs.CountFacts.{rose_then, then_rose}
use Rattle.wrp_disk.specs.Disks.{Meaning, IsLawful, EachImage, Passes, AtEachMoment, Lasts}
use Rattle.wrp_disk.proofs.Time.{passes_none, passes_then, passes_weaker, at_each}
use Rattle.wrp_log.specs.declared.fault.AppendFault.{AppendFault}
use Rattle.wrp_log.specs.declared.fault.AppendFault.TheVariants.{Full, Disk}
use Rattle.wrp_log.specs.Payloads.{StandsFor, list_of, payload_limit, head_size, gate_after}
use Rattle.wrp_log.specs.Logs.{Place, IsOn, IsAt, IsBeforeOrAfter, Added, GivenUp, list_told, length_with, added_to}
use Rattle.wrp_log.specs.Sound.{IsSettledAt}
use Rattle.wrp_log.proofs.Adding.{if_some_map}
use Rattle.wrp_log.proofs.Appended.{told_both, told_case}
use Rattle.wrp_log.proofs.SoundFacts.{on_settled}
use Rattle.wrp_log.specs.Steps.{Opens}
use Rattle.wrp_keep.specs.declared.fault.StartFault.{StartFault}
use Rattle.wrp_keep.specs.declared.fault.StartFault.TheVariants as starts
use Rattle.wrp_keep.specs.Faults.{append_as_start}
use Rattle.wrp_keep.specs.Starts.{IsEmpty, Begins, IsStarted, Puts, first_length, IsFirst, StartIs, StartLeaves, Starts}

none_of : {X : Type 0} (items : List X) → length items ≡ 0 → items ≡ []
none_of [] is = refl
none_of (item ∷ items) is = absurd (omega (arith, is))

pub limit_least : (version : ℕ) → 2 ^ 24 ≤ payload_limit version
limit_least version = grind (arith, nat_tests)

-- ---- a log with no payload

module _ (log : Place) (disk : Meaning) (on : IsOn log disk) (none : log.count ≡ 0) where
  pub empty_list : IfSome disk.told (λ bytes. list_of bytes ≡ [])
  empty_list = if_some_map disk.told (λ bytes at. none_of (list_of bytes) (sym at.count ∙ none)) on.settled

  pub empty_gate : IfSome disk.told (λ bytes. log.gate ≡ 8)
  empty_gate = if_some_map disk.told (λ bytes both. both.1.gate ∙ ap gate_after both.0) (told_both _ _ disk.told empty_list on.settled)

  settled_case : (o : Option (List ℕ)) → IfSome o (λ bytes. list_of bytes ≡ []) → IfSome o (λ bytes. IsSettledAt (list_of bytes) disk) → IsSome o → IsSettledAt [] disk
  settled_case None list settled some = absurd (grind arith)
  settled_case (Some bytes) list settled some = subst (λ (l : List (List ℕ)). IsSettledAt l disk) list settled

  pub empty_images : IsLawful disk → IsSome disk.told → IsSettledAt [] disk
  empty_images lawful some = settled_case disk.told empty_list (on_settled log disk lawful on) some

  pub empty_moments : IsLawful disk → IsSome disk.told → AtEachMoment (StandsFor []) disk disk
  empty_moments lawful some = at_each (StandsFor []) disk disk lawful (empty_images lawful some) (passes_none (StandsFor []) disk)

moments_weaker : (P Q : List ℕ → Type 0) (old new : Meaning) → ((c : List ℕ) → P c → Q c) → AtEachMoment P old new → AtEachMoment Q old new
moments_weaker P Q old new weaker moments = record { each = λ c is. weaker c (moments.each c is); time = passes_weaker P Q old new weaker moments.time }

-- what each image has at each moment, each has at the end
pub at_the_end : (P : List ℕ → Type 0) (old new : Meaning) → IsLawful new → AtEachMoment P old new → EachImage P new
at_the_end P old new lawful moments c is = moments.each c (lawful.counts old.moment c moments.time.later is)

at_some : {X : Type 0} (P : X → Type 0) (o : Option X) (x : X) → o ≡ Some x → IfSome o P → P x
at_some P o x is has = subst (λ t. IfSome t P) is has

started_case : (disk : Meaning) (payloads : List (List ℕ)) (o : Option (List ℕ)) → IsSome o → IfSome o (λ bytes. IsSettledAt (list_of bytes) disk) → IfSome (option_map list_of o) (λ l. l ≡ payloads) → IsSettledAt payloads disk
started_case disk payloads None some settled list = absurd (grind arith)
started_case disk payloads (Some bytes) some settled list = subst (λ (l : List (List ℕ)). IsSettledAt l disk) list settled

-- ---- a log was opened

module _ (table : List ℕ) (before mid : Meaning) (log : Place) (told : mid.told ≡ before.told) (on : IsOn log mid) (lawful_mid : IsLawful mid) (opened : AtEachMoment before.image before mid) (opens : IfSome before.told (Opens log)) where
  settled_mid : IfSome before.told (λ bytes. IsSettledAt (list_of bytes) mid)
  settled_mid = subst (λ (t : Option (List ℕ)). IfSome t (λ bytes. IsSettledAt (list_of bytes) mid)) told (on_settled log mid lawful_mid on)

  pub has_records : (count : ℕ) → count ≡ log.count → 0 < count → IfSome before.told (λ bytes. Starts table bytes before mid (Some (starts.HasRecords count)))
  has_records count is some = if_some_map before.told (λ bytes both. record {
    exact = (both.0.payloads, both.0.stands, is ∙ both.0.count, some);
    any_moment = moments_weaker before.image (IsFirst table bytes before) before mid (λ c was. inl was) opened;
    left = (told, both.1);
  }) (told_both _ _ before.told opens settled_mid)

  -- and has no payload; then the table was put into it
  module _ (none : log.count ≡ 0) (last : Meaning) (lawful : IsLawful before) (lawful_last : IsLawful last) (new : Place) (moments : IsSome mid.told → AtEachMoment (IsBeforeOrAfter [] table) mid last) where
    stands_empty : IfSome before.told (λ bytes. StandsFor [] bytes)
    stands_empty = if_some_map before.told (λ bytes o. subst (λ (l : List (List ℕ)). StandsFor l bytes) (none_of o.payloads (sym o.count ∙ none)) o.stands) opens

    mid_tells : (bytes : List ℕ) → before.told ≡ Some bytes → IsSome mid.told
    mid_tells bytes some = subst (λ (t : Option (List ℕ)). IsSome t) (sym (told ∙ some)) refl

    all_moments : (bytes : List ℕ) → before.told ≡ Some bytes → StandsFor [] bytes → AtEachMoment (IsFirst table bytes before) before last
    all_moments bytes some stands =
        let First : List ℕ → Type 0 = IsFirst table bytes before in
        at_each First before last lawful (λ c was. inl was)
        (passes_then First before mid last (passes_weaker before.image First before mid (λ c was. inl was) opened.time)
        (passes_weaker (IsBeforeOrAfter [] table) First mid last (λ c has. inr (stands, has)) (moments (mid_tells bytes some)).time))

    new_images : (bytes : List ℕ) → before.told ≡ Some bytes → EachImage (IsBeforeOrAfter [] table) last
    new_images bytes some = at_the_end (IsBeforeOrAfter [] table) mid last lawful_last (moments (mid_tells bytes some))

    last_tells : (bytes : List ℕ) → before.told ≡ Some bytes → IsSome last.told
    last_tells bytes some = (moments (mid_tells bytes some)).time.tells ∙ mid_tells bytes some

    abbrev Needs : ℕ → List ℕ → Type 0
    Needs size bytes = size ≡ first_length (nat_le (length bytes) head_size) before.limit table

    needs : (size : ℕ) (bytes : List ℕ) → log.fresh ≡ nat_le (length bytes) head_size → size ≡ first_length log.fresh mid.limit table → Needs size bytes
    needs size bytes fresh is = is ∙ ap (λ (f : Bool). first_length f mid.limit table) fresh ∙ ap (λ (n : ℕ). first_length (nat_le (length bytes) head_size) n table) opened.time.limit

    abbrev AtBytes : Option StartFault → Type 0
    AtBytes fault = IfSome before.told (λ bytes. Starts table bytes before last fault)

    -- the three exits
    pub put_ok : Puts table log new mid last (Ok tt) → AtBytes None
    put_ok puts = told_case before.told (λ bytes some both. record {
      exact = (
        both.0,
        let fits = at_some _ mid.told bytes (told ∙ some) puts.1 in
            subst (λ (n : ℕ). n ≤ before.limit) (needs (first_length log.fresh mid.limit table) bytes both.1.fresh refl)
            (subst (λ (n : ℕ). first_length log.fresh mid.limit table ≤ n) opened.time.limit fits),
      );
      any_moment = all_moments bytes some both.0;
      left = started_case last (table ∷ []) last.told (last_tells bytes some) (on_settled new last lawful_last puts.0.on) puts.0.list;
    }) (told_both _ _ before.told stands_empty opens)

    pub put_full : (size limit : ℕ) → Puts table log new mid last (Err (Full size limit)) → AtBytes (Some (starts.Full size limit))
    put_full size limit puts = told_case before.told (λ bytes some both. record {
      exact = (both.0, needs size bytes both.1.fresh (at_some _ mid.told bytes (told ∙ some) puts.4), puts.0 ∙ opened.time.limit, omega (arith, puts.1, puts.0, opened.time.limit));
      any_moment = all_moments bytes some both.0;
      left = empty_images new last puts.2 puts.3 lawful_last (last_tells bytes some);
    }) (told_both _ _ before.told stands_empty opens)

    pub put_disk : AtBytes (Some starts.Disk)
    put_disk = told_case before.told (λ bytes some stands. record {
      exact = record {};
      any_moment = all_moments bytes some stands;
      left = inr (stands, new_images bytes some);
    }) stands_empty

    pub put_err : (fault : AppendFault) → Puts table log new mid last (Err fault) → AtBytes (Some (append_as_start fault))
    put_err (Full size limit) puts = put_full size limit puts
    put_err Disk puts = put_disk
