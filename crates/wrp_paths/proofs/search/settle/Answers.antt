use Rattle.std.proofs.Common.{◌<◌, ◌≤◌, ◌+◌, ◌*◌, length, arith, heap_items}
use Rattle.std.proofs.lemmas.List.Elements.{All-head}
use Rattle.std.proofs.lemmas.Result.{on_ok_weaker}
use Rattle.wrp_town.proofs.TownLaws.{few_junctions}
use Rattle.wrp_paths.specs.Search.{unsettled}
use Rattle.wrp_paths.proofs.Tables.{unsettled-added}
use Rattle.wrp_paths.proofs.Queues.{out_of-legal}
use Rattle.wrp_paths.proofs.Searches.{settled_inside, settles, works}
use Rattle.wrp_paths.proofs.search.settle.Goals as goal

pub bounds-table-walk : goal.bounds-table-walk
bounds-table-walk g c = settled_inside c.args.graph.now g.from c.args.table.now c.args.walk (heap_items c.args.queue.now) c.requires.0

pub out_of-requires : goal.out_of-requires
out_of-requires g c = All-head (λ q. q.0.junction < length c.args.graph.now.junctions) (record { 0 = c.args.walk }) (heap_items c.args.queue.now) c.requires.0.inside

pub go_on-requires-clause-legal : goal.go_on-requires-clause-legal
go_on-requires-clause-legal g c = rw (c.out_of.ensures, c.town.ensures) (out_of-legal c.args.graph.now c.args.walk.junction)

pub go_on-requires-clause-few : goal.go_on-requires-clause-few
go_on-requires-clause-few g c =
    let walk = c.args.walk in
    let table = c.args.table.now in
    let queue = heap_items c.args.queue.now in
    let town = c.args.graph.now in
    omega (
      arith,
      few_junctions town,
      unsettled-added table walk.junction walk (settled_inside town g.from table walk queue c.requires.0) c.requires.1.1,
      All-head (λ q. q.0.hops + unsettled table ≤ length town.junctions) (record { 0 = walk }) queue c.requires.0.few,
    )

pub go_on-requires-clause-cheap : goal.go_on-requires-clause-cheap
go_on-requires-clause-cheap g c = All-head (λ q. q.0.cost ≤ 1000000000 * q.0.hops) (record { 0 = c.args.walk }) (heap_items c.args.queue.now) c.requires.0.cheap

pub returns-clause-search : goal.returns-clause-search
returns-clause-search g c =
    on_ok_weaker c.go_on.result
    (λ moved. settles c.args.graph.now g.from c.args.table.now c.args.walk (heap_items c.args.queue.now) c.town.result.now c.out_of.result.now _ c.town.ensures c.out_of.ensures moved c.requires.0 c.requires.1.0 c.requires.1.1)
    c.go_on.ensures.queued

pub returns-clause-work : goal.returns-clause-work
returns-clause-work g c =
    on_ok_weaker c.go_on.result
    (λ moved. works c.args.graph.now g.from c.args.table.now c.args.walk (heap_items c.args.queue.now) c.town.result.now c.out_of.result.now _ c.town.ensures c.out_of.ensures moved c.requires.0 c.requires.1.1)
    c.go_on.ensures.queued
