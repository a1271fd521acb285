-- A search whose staged records are acknowledged.
use Rattle.std.proofs.Common.{◌≡◌, ℕ, ◌<◌, Bool, false, List, [], ◌∷◌, length, Option, None, Some, Result, Ok, Err, refl, sym, ◌∙◌, ap, subst, inl, inr, ◌⊎◌, arith}
use Rattle.std.proofs.lemmas.Bool.{cases_lt}
use Rattle.std.specs.Prelude.{IfSome, IsSome, true}
use Rattle.std.specs.Option.{option_map_or}
use Rattle.wrp_out.specs.Counts.{Rose}
use Rattle.wrp_disk.specs.Disks.{Meaning, Lasts}
use Rattle.wrp_disk.proofs.Time.{passes_none}
use Rattle.wrp_log.specs.Logs.{Place, IsOn, length_with}
use Rattle.wrp_log.specs.declared.fault.AppendFault.{AppendFault}
use Rattle.wrp_log.specs.declared.fault.AppendFault.TheVariants.{Full, Disk}
use Rattle.wrp_town.specs.declared.town.Town.{Town}
use Rattle.wrp_rules.specs.declared.record.Record.{Record}
use Rattle.wrp_rules.specs.Lists.{is_valid}
use Rattle.wrp_keep.specs.declared.fault.FlushFault.{FlushFault}
use Rattle.wrp_keep.specs.declared.fault.FlushFault.TheVariants as flushes
use Rattle.wrp_keep.specs.Keeps.{KeepState, is_stopped, version, version_in, IsHeld, staged, joined}
use Rattle.wrp_keep.specs.Appends.{AppendsTo, NeedsNoDisk}
use Rattle.wrp_keep.specs.Calls.{Extends, of_flush}
use Rattle.wrp_engine.specs.Faults as faults
use Rattle.wrp_engine.specs.Searches.{search_of, Advances, HasCause, IsGoing, AreWritable}

-- no records, or some
none_or_some : (items : List Record) → (items ≡ []) ⊎ (0 < length items)
none_or_some [] = inl refl
none_or_some (item ∷ items) = inr (omega arith)

abbrev stops_in : Option Place → Bool
stops_in log = option_map_or (λ (place : Place). place.stopped) log false

-- ---- what an addition to a log leaves

module _ (payload : List ℕ) (before after : Meaning) where
  bare_still : (old new : Option Place) (result : Result Unit AppendFault) → AppendsTo payload old new before after result → old ≡ None → new ≡ None
  bare_still None new result added none = added.0
  bare_still (Some old) new result added none = absurd (cc)

  added_lasts : (old new : Option Place) (result : Result Unit AppendFault) → AppendsTo payload old new before after result → (NeedsNoDisk payload old → after ≡ before) → Lasts before after
  added_lasts None new result added untouched = subst (λ (m : Meaning). Lasts before m) (sym (untouched (record {}))) (passes_none (λ _. Unit {0}) before)
  added_lasts (Some old) None result added untouched = absurd added
  added_lasts (Some old) (Some new) result added untouched = added.lasts

  still_goes : (old new : Option Place) → AppendsTo payload old new before after (Ok tt) → stops_in new ≡ stops_in old
  still_goes None new added = ap stops_in added.0
  still_goes (Some old) None added = absurd added
  still_goes (Some old) (Some new) added = ap (λ (place : Place). place.stopped) added.added.log

  same_version : (old new : Option Place) → AppendsTo payload old new before after (Ok tt) → version_in new ≡ version_in old
  same_version None new added = ap version_in added.0
  same_version (Some old) None added = absurd added
  same_version (Some old) (Some new) added = ap (λ (place : Place). place.version) added.added.log

  -- ---- why it failed

  disk_fails : (old new : Option Place) → AppendsTo payload old new before after (Err Disk) → IsSome old × Rose before.faults after.faults
  disk_fails None new added = absurd (cc)
  disk_fails (Some old) None added = absurd added
  disk_fails (Some old) (Some new) added = (
    refl,
    elim (cases_lt old.limit (length_with payload old)) [
      | inl above ↦ absurd (let e = (added.full above).0 in cc)
      | inr within ↦ (added.failed within).1.rose
    ],
  )

  no_room : (old new : Option Place) (size limit : ℕ) → IfSome old (λ log. IsOn log before) → AppendsTo payload old new before after (Err (Full size limit)) → IsSome old × (limit ≡ before.limit) × (limit < size)
  no_room None new size limit on added = absurd (cc)
  no_room (Some old) None size limit on added = absurd added
  no_room (Some old) (Some new) size limit on added =
      elim (cases_lt old.limit (length_with payload old)) [
        | inl above ↦
            let told = (added.full above).0 in
            let most : limit ≡ old.limit = cc in
            let long : size ≡ length_with payload old = cc in
            (refl, most ∙ on.limit, omega (arith, most, long, above))
        | inr within ↦ absurd (let told = (added.failed within).0 in cc)
      ]

-- ---- a flush

abbrev failed : FlushFault → Result Unit FlushFault
failed fault = Err fault

module _ (old new : KeepState) (before after : Meaning) (going : IsGoing (search_of old before)) (extends : Extends old new) (records : new.records ≡ old.records) where
  goes_by : (old.log ≡ None → new.log ≡ None) → Lasts before after → Advances (search_of old before) (search_of new after)
  goes_by bare lasts = record {
    town = extends.town;
    list = record {
      more = extends.more;
      is = extends.records;
      valid = subst (λ (t : Town). is_valid t new.records ≡ true) extends.town extends.valid;
    };
    writable = λ all. subst (λ (rs : List Record). AreWritable rs) (sym records) all;
    bare = bare;
    lasts = lasts;
  }

  module _ (result : Result Unit FlushFault) (idle : staged old ≡ [] → (result ≡ Ok tt) × (new ≡ old) × (after ≡ before))
      (appends : 0 < length (staged old) → AppendsTo (joined (staged old)) old.log new.log before after (of_flush result))
      (untouched : NeedsNoDisk (joined (staged old)) old.log → after ≡ before) where
    abbrev payload : List ℕ
    payload = joined (staged old)

    pub settled_on : Advances (search_of old before) (search_of new after)
    settled_on = elim (none_or_some (staged old)) [
      | inl none ↦ goes_by (λ bare. ap (λ (k : KeepState). k.log) (idle none).1 ∙ bare)
          (subst (λ (m : Meaning). Lasts before m) (sym (idle none).2) (passes_none (λ _. Unit {0}) before))
      | inr some ↦ goes_by (bare_still payload before after old.log new.log (of_flush result) (appends some))
          (added_lasts payload before after old.log new.log (of_flush result) (appends some) untouched)
    ]

  pub settled_going : (staged old ≡ [] → new ≡ old) → (0 < length (staged old) → AppendsTo (joined (staged old)) old.log new.log before after (Ok tt)) → (is_stopped new ≡ false → IsHeld new after) → IsGoing (search_of new after)
  settled_going idle appends held =
      let goes : is_stopped new ≡ false = (elim (none_or_some (staged old)) [
        | inl none ↦ ap is_stopped (idle none)
        | inr some ↦ still_goes (joined (staged old)) before after old.log new.log (appends some)
      ]) ∙ going.going in
      record {
        valid = extends.valid;
        held = held goes;
        going = goes;
        version = (elim (none_or_some (staged old)) [
          | inl none ↦ ap version (idle none)
          | inr some ↦ same_version (joined (staged old)) before after old.log new.log (appends some)
        ]) ∙ going.version;
      }

  pub settled_cause : (fault : FlushFault) → (staged old ≡ [] → failed fault ≡ Ok tt) → (0 < length (staged old) → AppendsTo (joined (staged old)) old.log new.log before after (of_flush (failed fault))) → HasCause (search_of old before) (search_of new after) (faults.of_flush fault)
  settled_cause (flushes.Full size limit) idle appends =
      elim (none_or_some (staged old)) [
        | inl none ↦ absurd (let wrong = idle none in cc)
        | inr some ↦ no_room (joined (staged old)) before after old.log new.log size limit going.held.on (appends some)
      ]
  settled_cause flushes.Disk idle appends =
      elim (none_or_some (staged old)) [
        | inl none ↦ absurd (let wrong = idle none in cc)
        | inr some ↦ disk_fails (joined (staged old)) before after old.log new.log (appends some)
      ]
