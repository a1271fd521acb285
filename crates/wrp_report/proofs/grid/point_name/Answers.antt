use Rattle.std.proofs.Common.{◌≡◌, true, List, ℕ, subst, sym, ◌∙◌}
use Rattle.wrp_town.specs.Names.{is_name}
use Rattle.wrp_report.proofs.Grids.{point_is_name}
use Rattle.wrp_report.proofs.grid.point_name.Goals as goal

pub name_of-requires : goal.name_of-requires
name_of-requires c = subst (λ (xs : List ℕ). is_name xs ≡ true) (sym (c.as_str.ensures.value ∙ c.in_ok-point.ensures)) (point_is_name c.args.x c.args.y c.requires.x c.requires.y)
