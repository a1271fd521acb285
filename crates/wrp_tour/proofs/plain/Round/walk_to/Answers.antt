use Rattle.std.proofs.Common.{◌++◌, ◌∙◌, ap, List, refl}
use Rattle.wrp_town.specs.declared.street.Step.{Step}
use Rattle.wrp_tour.specs.declared.plain.Round.{Round}
use Rattle.wrp_tour.proofs.Rounds.{way_leads, way_is_there, from_here, goes_on_by}
use Rattle.wrp_tour.proofs.plain.Round.walk_to.Goals as goal

pub returns-in_ok-extend_from_slice-clause-on : goal.returns-in_ok-extend_from_slice-clause-on
returns-in_ok-extend_from_slice-clause-on c =
    let town = c.args.graph.now in
    let old = c.args.self.now in
    let to = c.args.to in
    let path : List Step = c.in-Some.path in
    let new : Round = record { base = old.base; steps = c.extend_from_slice.new.self; at = to } in
    let lead = way_leads town old.at to c.in_ok-shortest.field-0 c.in_ok-path.field-0 path c.in_ok-shortest.ensures c.requires.there c.in_ok-path.ensures c.in-Some.is in
    goes_on_by town old new path c.requires.round refl (c.in_ok-extend_from_slice.ensures.items ∙ ap (λ (xs : List Step). old.steps.items ++ xs) c.as_slice.ensures) lead c.requires.there c.requires.strong

pub returns-in_default : goal.returns-in_default
returns-in_default c =
    let town = c.args.graph.now in
    let old = c.args.self.now in
    absurd (way_is_there town old.at c.args.to c.in_ok-shortest.field-0 c.in_ok-path.field-0 c.in_ok-shortest.ensures c.requires.there c.in_ok-path.ensures c.in_default.is (from_here town old c.args.to c.requires.round c.requires.strong))
