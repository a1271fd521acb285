use Rattle.std.proofs.Common.{ℕ, ℤ, pos, List, [], ◌∷◌, refl, sym, ◌∙◌, subst, arith}
use Rattle.wrp_flow.specs.declared.net.Net.{Net}
use Rattle.wrp_flow.specs.Flows.{IsNet}
use Rattle.wrp_flow.proofs.Nets.{net_from_tests}
use Rattle.wrp_flow.proofs.tests.one_arc.Goals as goal

pub returns-clause-net : goal.returns-clause-net
returns-clause-net c =
    let net : Net = record { nodes = 2; arcs = (0, 1, pos 3) ∷ [] } in
    subst (λ (arcs : List (ℕ × ℕ × ℤ)). IsNet record { nodes = 2; arcs = arcs }) (sym (c.from_vec-arcs.ensures ∙ c.in_ok-vec.ensures.items))
    (net_from_tests net refl (omega arith))
