-- A search with one more record staged.
use Rattle.std.proofs.Common.{◌≡◌, zero, suc, true, List, [], ◌∷◌, ◌++◌, None, refl, sym, subst, arith}
use Rattle.std.proofs.lemmas.List.Elements.{All-append}
use Rattle.wrp_disk.specs.Disks.{Meaning}
use Rattle.wrp_disk.proofs.Time.{passes_none}
use Rattle.wrp_rules.specs.declared.record.Record.{Record}
use Rattle.wrp_writer.specs.Limits.{is_writable}
use Rattle.wrp_keep.specs.Keeps.{KeepState, broken_by}
use Rattle.wrp_keep.specs.Calls.{with_staged, SameAcknowledged}
use Rattle.wrp_keep.proofs.Holding.{held_stays}
use Rattle.wrp_progress.proofs.Growing.{goes_one_on, valid_more}
use Rattle.wrp_engine.specs.Searches.{search_of, Advances, IsGoing, AreWritable}

one_writable : (item : Record) → is_writable item ≡ true → AreWritable (item ∷ [])
one_writable item writable zero d below = writable
one_writable item writable (suc k) d below = absurd (omega (arith, below))

pub writable_more : (items : List Record) (item : Record) → is_writable item ≡ true → AreWritable items → AreWritable (items ++ item ∷ [])
writable_more items item writable all = All-append (λ item. is_writable item ≡ true) items (item ∷ []) all (one_writable item writable)

module _ (old : KeepState) (disk : Meaning) (item : Record) (going : IsGoing (search_of old disk)) (writable : is_writable item ≡ true) (none : broken_by item old ≡ None) where
  goes_staged : SameAcknowledged old (with_staged item old) → Advances (search_of old disk) (search_of (with_staged item old) disk) × IsGoing (search_of (with_staged item old) disk)
  goes_staged same = (
    record {
      town = refl;
      list = goes_one_on old.town old.records item going.valid none;
      writable = writable_more old.records item writable;
      bare = λ bare. bare;
      lasts = passes_none (λ _. Unit {0}) disk;
    },
    record {
      valid = valid_more old.town old.records item going.valid none;
      held = held_stays old (with_staged item old) disk same going.held;
      going = going.going;
      version = going.version;
    },
  )

  pub staged_on : (new : KeepState) → new ≡ with_staged item old → SameAcknowledged old new → Advances (search_of old disk) (search_of new disk) × IsGoing (search_of new disk)
  staged_on new is same =
      subst (λ (k : KeepState). Advances (search_of old disk) (search_of k disk) × IsGoing (search_of k disk)) (sym is)
      (goes_staged (subst (λ (k : KeepState). SameAcknowledged old k) is same))
