use Rattle.std.proofs.Common.{◌≡◌, true, ◌||◌, not}
use Rattle.std.specs.List.{list_all, range_with_len}
use Rattle.wrp_town.specs.Streets.{forward_arc}
use Rattle.wrp_town.specs.Arcs.{is_required}
use Rattle.wrp_rules.specs.Rows.{joins_ends, keeps_set}
use Rattle.wrp_rows.proofs.chain.streets_keep_sets.Given as goal

-- the streets so far pass
abbrev pub invariant-loop-street : goal.invariant-loop-street
invariant-loop-street l =
    list_all (λ street. not (is_required l.town street) || joins_ends l.town l.k l.of (forward_arc street) || keeps_set l.of l.town street) (range_with_len 0 l.street) ≡ true
