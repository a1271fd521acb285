use Rattle.std.proofs.Common.{ℕ, List, Some, None, ap, sym, ◌∙◌, ◌≡◌}
use Rattle.std.specs.Option.{option_map}
use Rattle.wrp_town.specs.declared.street.Step.{Step}
use Rattle.wrp_paths.specs.Arrivals.{entry_at, steps_to}
use Rattle.wrp_paths.proofs.Tables.{way_there}
use Rattle.wrp_paths.proofs.paths.Paths.path.Goals as goal

pub returns-in_ok-read_back-in-Some : goal.returns-in_ok-read_back-in-Some
returns-in_ok-read_back-in-Some c =
    let table = c.self.inside.table.items in
    let there : entry_at table c.args.j ≡ Some c.in-Some.walk = ap (λ t. entry_at t c.args.j) (sym c.deref.ensures.value) ∙ sym c.in-Some.ensures in
    ap Some (c.in_ok-read_back-in-Some.ensures ∙ ap (λ t. steps_to t c.in-Some.walk.hops c.args.j) c.deref-in-Some.ensures.value)
    ∙ ap (option_map {T = ℕ × List Step} (λ way. way.1)) (sym (way_there table c.args.self.now c.args.j (Some c.in-Some.walk) c.self.view_is c.requires there))

pub returns-in-None : goal.returns-in-None
returns-in-None c =
    let table = c.self.inside.table.items in
    let there : entry_at table c.args.j ≡ None = ap (λ t. entry_at t c.args.j) (sym c.deref.ensures.value) ∙ sym c.in-None.ensures in
    ap (option_map {T = ℕ × List Step} (λ way. way.1)) (sym (way_there table c.args.self.now c.args.j None c.self.view_is c.requires there))
