use Rattle.std.proofs.Common.{ap, ◌∙◌, ◌≡◌, rules}
use Rattle.std.specs.Option.{option_map}
use Rattle.wrp_paths.specs.declared.arrival.Arrival.{Arrival}
use Rattle.wrp_paths.specs.Arrivals.{entry_at}
use Rattle.wrp_paths.proofs.Tables.{cost_there}
use Rattle.wrp_paths.proofs.paths.Paths.dist.Goals as goal

pub returns : goal.returns
returns c =
    let mapped : c.map.result ≡ option_map (λ (walk : Arrival). walk.cost) c.entry.result = search rules in
    mapped
    ∙ ap (option_map (λ walk. walk.cost)) (c.entry.ensures ∙ ap (λ t. entry_at t c.args.j) c.deref.ensures.value)
    ∙ cost_there c.self.inside.table.items c.args.self.now c.args.j c.self.view_is c.requires
