use Rattle.std.proofs.Common.{◌≡◌, ◌++◌, true, take}
use Rattle.std.specs.List.{list_all}
use Rattle.wrp_pool.specs.Rounds.{fits_at, rounded_terms}
use Rattle.wrp_pool.proofs.round.push_rounded_terms.Given as goal

-- the terms of the arcs so far are added, and each fits
abbrev pub invariant-loop-arc : goal.invariant-loop-arc
invariant-loop-arc l = record {
  fit : list_all (fits_at l.tally l.divisor) (take l.arc-index l.arc-items) ≡ true;
  terms : l.terms.items ≡ l.initial.terms.items ++ rounded_terms l.tally l.divisor (take l.arc-index l.arc-items);
}
