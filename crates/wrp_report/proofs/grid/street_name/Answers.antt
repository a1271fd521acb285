use Rattle.std.proofs.Common.{◌≡◌, true, List, ℕ, subst, sym, ◌∙◌}
use Rattle.wrp_town.specs.Names.{is_name}
use Rattle.wrp_report.proofs.Grids.{street_is_name}
use Rattle.wrp_report.proofs.grid.street_name.Goals as goal

pub name_of-requires : goal.name_of-requires
name_of-requires c = subst (λ (xs : List ℕ). is_name xs ≡ true) (sym (c.as_str.ensures.value ∙ c.in_ok-street_text.ensures)) (street_is_name c.args.plan c.requires.x c.requires.y)
