-- Calls of a search, one after the other.
use Rattle.std.proofs.Common.{◌≡◌, true, Option, None, Some, Result, Ok, Err, refl, ◌∙◌, subst}
use Rattle.std.specs.Prelude.{IsSome}
use Rattle.wrp_out.proofs.CountFacts.{then_rose}
use Rattle.wrp_disk.proofs.Time.{passes_none}
use Rattle.wrp_log.proofs.Adding.{lasts_then}
use Rattle.wrp_log.specs.Logs.{Place}
use Rattle.wrp_town.specs.declared.town.Town.{Town}
use Rattle.wrp_rules.specs.Lists.{is_valid}
use Rattle.wrp_progress.specs.Progress.{GoesOn}
use Rattle.wrp_progress.proofs.Growing.{stays, goes_on_then}
use Rattle.wrp_engine.specs.declared.fault.SearchFault.{SearchFault}
use Rattle.wrp_engine.specs.declared.fault.SearchFault.TheVariants.{Full, Disk, Memory}
use Rattle.wrp_engine.specs.Searches.{Search, Advances, HasCause, Leaves}

pub same : (s : Search) → is_valid s.keep.town s.keep.records ≡ true → Advances s s
same s valid = record {
  town = refl;
  list = stays s.keep.town s.keep.records valid;
  writable = λ all. all;
  bare = λ none. none;
  lasts = passes_none (λ _. Unit {0}) s.disk;
}

pub goes_then : (a b c : Search) → Advances a b → Advances b c → Advances a c
goes_then a b c one two = record {
  town = two.town ∙ one.town;
  list = goes_on_then a.keep.town a.keep.records b.keep.records c.keep.records one.list
      (subst (λ (t : Town). GoesOn t b.keep.records c.keep.records) one.town two.list);
  writable = λ all. two.writable (one.writable all);
  bare = λ none. two.bare (one.bare none);
  lasts = lasts_then a.disk b.disk c.disk (λ _. Unit {0}) one.lasts two.lasts;
}

log_before : (old new : Option Place) → (old ≡ None → new ≡ None) → IsSome new → IsSome old
log_before (Some place) new bare some = refl
log_before None new bare some = subst IsSome (bare refl) some

pub cause_then : (a b c : Search) (fault : SearchFault) → Advances a b → HasCause b c fault → HasCause a c fault
cause_then a b c Memory one cause = record {}
cause_then a b c Disk one cause =
    (log_before a.keep.log b.keep.log one.bare cause.0, then_rose a.disk.faults b.disk.faults c.disk.faults one.lasts.faults cause.1)
cause_then a b c (Full length limit) one cause =
    (log_before a.keep.log b.keep.log one.bare cause.0, cause.1 ∙ one.lasts.limit, cause.2)

-- a call that went well, and one behind it
pub leaves_then : {X : Type 0} (a b c : Search) (result : Result X SearchFault) → Advances a b → Leaves b c result → Leaves a c result
leaves_then a b c (Ok x) one two = (goes_then a b c one two.0, two.1)
leaves_then a b c (Err fault) one two = (goes_then a b c one two.0, cause_then a b c fault one two.1)

-- however a call ended, the search advanced
pub advanced : {X : Type 0} (a b : Search) (result : Result X SearchFault) → Leaves a b result → Advances a b
advanced a b (Ok x) leaves = leaves.0
advanced a b (Err fault) leaves = leaves.0
