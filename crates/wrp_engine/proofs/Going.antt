-- A search that went well so far, and a call behind it.
use Rattle.std.proofs.Common.{◌≡◌, Option, None, ◌∙◌}
use Rattle.wrp_log.specs.Logs.{Place}
use Rattle.wrp_engine.specs.declared.fault.SearchFault.{SearchFault}
use Rattle.wrp_engine.specs.Searches.{Search, Advances, HasCause, IsGoing}
use Rattle.wrp_engine.proofs.Advancing.{goes_then, cause_then}

-- the search went on from old, and may go on
abbrev pub Going : Search → Search → Type 0
Going old new = Advances old new × IsGoing new

pub going_then : (a b c : Search) → Going a b → Going b c → Going a c
going_then a b c one two = (goes_then a b c one.0 two.0, two.1)

-- a call that stopped
pub stopped_then : (a b c : Search) (fault : SearchFault) → Going a b → Advances b c × HasCause b c fault → Advances a c × HasCause a c fault
stopped_then a b c fault one two = (goes_then a b c one.0 two.0, cause_then a b c fault one.0 two.1)

-- without a log no call touches the disk
pub untouched_then : {X : Type 0} (start mid : Option Place) (first second third : X) → (start ≡ None → mid ≡ None) → (start ≡ None → second ≡ first) → (mid ≡ None → third ≡ second)
    → start ≡ None → third ≡ first
untouched_then start mid first second third bare one two none = two (bare none) ∙ one none
