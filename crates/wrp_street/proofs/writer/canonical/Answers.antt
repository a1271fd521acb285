use Rattle.std.proofs.Common.{subst, sym, ◌≤◌, List, ℕ, length}
use Rattle.wrp_street.specs.Canonical.{size_limit}
use Rattle.wrp_street.specs.Tables.{IsTable}
use Rattle.wrp_street.proofs.TextSteps.{sound_item, header_written, street_written, all_written}
use Rattle.wrp_street.proofs.TextSize.{length-canonical_of}
use Rattle.wrp_street.proofs.TownBack.{town_back}
use Rattle.wrp_street.proofs.writer.canonical.Goals as goal

pub loop-street-init : goal.loop-street-init
loop-street-init c = header_written c.args.town.now c.new-table.result.items c.push_header.new.out.items c.new-table.ensures.items c.in_ok-push_header.ensures

-- the ends of a street of the town are junctions of it
pub push_street-requires-clause-from : goal.push_street-requires-clause-from
push_street-requires-clause-from c =
    (sound_item c.args.town.now c.as_slice-street-items.result.now c.loop-street.street-index c.street-item.result
    (record { same = c.as_slice-street-items.ensures; below = c.loop-street-test.true; is = c.street-item.is })).from

pub push_street-requires-clause-to : goal.push_street-requires-clause-to
push_street-requires-clause-to c =
    (sound_item c.args.town.now c.as_slice-street-items.result.now c.loop-street.street-index c.street-item.result
    (record { same = c.as_slice-street-items.ensures; below = c.loop-street-test.true; is = c.street-item.is })).to

-- one more street
pub loop-street-preserved : goal.loop-street-preserved
loop-street-preserved c =
    street_written c.args.town.now c.as_slice-street-items.result.now c.loop-street.street-index c.street-item.result c.loop-street.table.items c.push_street.new.out.items
    (record { same = c.as_slice-street-items.ensures; below = c.loop-street-test.true; is = c.street-item.is })
    c.in_ok-push_street.ensures c.loop-street.invariant

-- the whole table
pub returns-clause-text : goal.returns-clause-text
returns-clause-text c = all_written c.args.town.now c.as_slice-street-items.result.now c.loop-street.street-index c.loop-street.table.items c.as_slice-street-items.ensures c.loop-street-test.false c.loop-street.invariant

pub returns-clause-read : goal.returns-clause-read
returns-clause-read c =
    subst (λ (text : List ℕ). IsTable text c.args.town.now)
    (sym (all_written c.args.town.now c.as_slice-street-items.result.now c.loop-street.street-index c.loop-street.table.items c.as_slice-street-items.ensures c.loop-street-test.false c.loop-street.invariant))
    (town_back c.args.town.now)

pub returns-clause-size : goal.returns-clause-size
returns-clause-size c =
    subst (λ (text : List ℕ). length text ≤ size_limit)
    (sym (all_written c.args.town.now c.as_slice-street-items.result.now c.loop-street.street-index c.loop-street.table.items c.as_slice-street-items.ensures c.loop-street-test.false c.loop-street.invariant))
    (length-canonical_of c.args.town.now)
