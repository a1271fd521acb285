use Rattle.std.proofs.Common.{arith, length, ◌≡◌, rules}
use Rattle.wrp_reach.proofs.Turns.{path_inside, group_closed}
use Rattle.wrp_reach.proofs.search.Search.step.Goals as goal

pub close-requires-clause-path : goal.close-requires-clause-path
close-requires-clause-path c = path_inside c.args.graph.now c.args.self.now c.requires

pub returns-else-len-group-clause-on : goal.returns-else-len-group-clause-on
returns-else-len-group-clause-on c = λ _.
    let long : c.len.result ≡ length c.args.self.now.todo.items = search rules in
    group_closed c.args.graph.now c.args.self.now c.close.new.self c.in-Some.group c.requires c.in-Some.ensures (omega (arith, c.if-len-group.false)) c.close.ensures
