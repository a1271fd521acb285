use Rattle.std.proofs.Common.{arith}
use Rattle.wrp_town.proofs.TownLaws.{few_streets}
use Rattle.wrp_reach.specs.declared.reach.Reach.TheVariants.{Joined, Split}
use Rattle.wrp_reach.specs.Answers.{IsJoined, IsSplit}
use Rattle.wrp_reach.proofs.Whole.{exactly, base_below, base_there, joined_here, split_here, joined_without}
use Rattle.wrp_reach.proofs.reach.labels.Goals as goal

pub returns-in_default : goal.returns-in_default
returns-in_default c =
    let shown : IsJoined c.args.graph.now c.new.result = joined_without c.args.graph.now c.town-town.result.now c.new.result c.town-town.ensures c.in_default.ensures c.new.ensures in
    record { exactly = exactly c.args.graph.now (Joined c.new.result) shown; shown = shown }

pub overflow_mul-base : goal.overflow_mul-base
overflow_mul-base c = omega (arith, few_streets c.args.graph.now, base_below c.args.graph.now c.town-town.result.now c.town-town.ensures c.in-Some.base c.in-Some.ensures)

pub tail-requires : goal.tail-requires
tail-requires c = base_there c.args.graph.now c.town-town.result.now c.town-town.ensures c.in-Some.base c.in-Some.ensures

pub returns-in_ok-junctions_at-in-None : goal.returns-in_ok-junctions_at-in-None
returns-in_ok-junctions_at-in-None c =
    let town = c.args.graph.now in
    let part = c.in_ok-junctions_at-in-None.field-0 in
    let found = c.in_ok-found.found in
    let shown : IsJoined town part = joined_here town c.town-town.result.now c.town-town.ensures c.in-Some.base c.in-Some.ensures found.count found.labels.items c.in_ok-found.ensures c.tail.result c.index-home.result.now c.tail.ensures.value c.index-home.ensures
    c.deref.result.now part c.deref.ensures.value c.in-None.ensures (rw c.deref.ensures.value (rw c.deref-in-None.ensures.value at c.in_ok-junctions_at-in-None.ensures)) in
    record { exactly = exactly town (Joined part) shown; shown = shown }

pub returns-in_ok-labels_record-in-Some-first_outside : goal.returns-in_ok-labels_record-in-Some-first_outside
returns-in_ok-labels_record-in-Some-first_outside c =
    let town = c.args.graph.now in
    let found = c.in_ok-found.found in
    let item = c.in_ok-labels_record-in-Some-first_outside.field-0 in
    let shown : IsSplit town item = split_here town c.town-town.result.now c.town-town.ensures c.in-Some.base c.in-Some.ensures found.count found.labels.items c.in_ok-found.ensures c.tail.result c.index-home.result.now c.tail.ensures.value c.index-home.ensures
    c.deref.result.now c.in-Some-first_outside.street item c.deref.ensures.value c.in-Some-first_outside.ensures c.in_ok-labels_record-in-Some-first_outside.ensures in
    record { exactly = exactly town (Split item) shown; shown = shown }
