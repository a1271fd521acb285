use Rattle.wrp_licence.proofs.Offering.{bound_joined, bound_refused, tour_keeps, point_kept}
use Rattle.wrp_licence.proofs.offered_bounds_are_prices.Goals as goal

pub returns-clause-joined : goal.returns-clause-joined
returns-clause-joined c = λ town items node den e mult x priced there. bound_joined town items node den mult e x priced there

pub returns-clause-refused : goal.returns-clause-refused
returns-clause-refused c = λ town items node den e mult x priced valid unlabelled opened writable rows point refused.
    bound_refused town items node den mult e x priced valid unlabelled opened writable rows point refused

pub returns-clause-tours : goal.returns-clause-tours
returns-clause-tours c = λ town items cost i steps. tour_keeps town items cost i steps

pub returns-clause-points : goal.returns-clause-points
returns-clause-points c = λ town s t node other point rows lo hi is. point_kept town s t node other point rows lo hi is
