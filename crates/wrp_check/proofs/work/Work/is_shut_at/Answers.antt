use Rattle.std.proofs.Common.{◌∙◌}
use Rattle.wrp_nodes.specs.Kept.{node_in}
use Rattle.wrp_check.proofs.Shutting.{shut_is}
use Rattle.wrp_check.proofs.work.Work.is_shut_at.Goals as goal

pub returns-clause-shut : goal.returns-clause-shut
returns-clause-shut c = λ s is.
    let town = c.args.graph.now in
    let entered = c.enter.ensures.entered town c.requires.rest in
    c.is_shut-shut.ensures ∙ shut_is town c.args.self.now.set.set c.enter.new.self (node_in town s.nodes c.args.node) (entered.box s.nodes is.nodes)
