use Rattle.std.proofs.Common.{ℕ, List, map, get_or, ap, ◌∙◌}
use Rattle.std.specs.List.{list_all}
use Rattle.wrp_points.specs.declared.service.Demand.{Demand}
use Rattle.wrp_points.specs.Demands.{arcs_of, is_met}
use Rattle.wrp_points.proofs.Services.{served_by_table}
use Rattle.wrp_points.proofs.point.is_served.Goals as goal

pub returns : goal.returns
returns c = λ town pairs full legal.
    c.meets_all.ensures
    ∙ ap (λ (ds : List Demand). list_all (is_met c.deref.result.now c.args.denominator) (map arcs_of ds)) c.as_slice.ensures
    ∙ ap (λ (ds : List (List ℕ)). list_all (is_met c.deref.result.now c.args.denominator) ds) full.demands
    ∙ served_by_table town c.args.denominator pairs c.deref.result.now legal (λ arc. ap (λ (xs : List ℕ). get_or xs arc 0) c.deref.ensures.value ∙ full.numbers arc)
