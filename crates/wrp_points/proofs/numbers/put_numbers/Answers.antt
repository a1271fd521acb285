use Rattle.std.proofs.Common.{◌≤◌, ◌^◌, get_or, take, arith}
use Rattle.std.proofs.lemmas.List.Elements.{All-take}
use Rattle.std.proofs.lemmas.List.{length-take}
use Rattle.wrp_points.proofs.NumberSums.{number_small}
use Rattle.wrp_points.proofs.numbers.put_numbers.Goals as goal

pub overflow_add-table : goal.overflow_add-table
overflow_add-table c =
    let i = c.loop-pair.pair-index in
    let numbers = c.args.numbers.now in
    let arc = (get_or numbers i (0, 0)).0 in
    let own : (get_or numbers i (0, 0)).1 ≤ 2 ^ 72 = c.requires.numbers.small i (0, 0) c.loop-pair-test.true in
    omega (arith, c.loop-pair.invariant arc, number_small (take i numbers) arc (All-take (λ q. q.1 ≤ 2 ^ 72) i numbers c.requires.numbers.small), length-take i numbers, c.requires.numbers.few)
