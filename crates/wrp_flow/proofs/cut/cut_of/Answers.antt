use Rattle.std.proofs.Common.{◌<◌, ℕ, ℤ, List, pos, get_or, length, sym, ap, ◌∙◌, subst, arith}
use Rattle.std.proofs.lemmas.Int.{to_z_pos}
use Rattle.std.specs.Prelude.{◌≤ℤ◌}
use mir.Syntax.{w128}
use Rattle.wrp_sums.proofs.Integers.{pos-≤ℤ}
use Rattle.wrp_rules.specs.Sets.{is_in}
use Rattle.wrp_flow.specs.Flows.{IsFlowList, leaving_in}
use Rattle.wrp_flow.specs.Searches.{is_marked}
use Rattle.wrp_flow.specs.Sides.{IsResidual}
use Rattle.wrp_flow.proofs.Pushing.{carried, room_small}
use Rattle.wrp_flow.proofs.Cuts.{closed_cut, all_leave, value_small, listed_leaving, listed, is_side, flow_list}
use Rattle.wrp_flow.proofs.cut.cut_of.Goals as goal

pub flow_of-requires-clause-small : goal.flow_of-requires-clause-small
flow_of-requires-clause-small c = λ k below.
    let room = c.args.found.now.room.items in
    let residual = c.requires.grown.residual in
    let inside : k < length room = omega (arith, ap length c.as_slice.ensures.value) in
    omega (arith, ap (λ (xs : List ℕ). get_or xs k 0) c.as_slice.ensures.value, room_small c.args.net.now c.requires.net room residual.shared k (omega (arith, residual.long)))

pub overflow_cast-result : goal.overflow_cast-result
overflow_cast-result c = omega (arith, value_small c.args.net.now c.requires.net c.args.s c.args.t c.requires.poles c.args.found.now.value c.args.found.now.room.items c.requires.grown.residual)

pub returns-clause-value : goal.returns-clause-value
returns-clause-value c = to_z_pos w128 c.args.found.now.value (omega (arith, value_small c.args.net.now c.requires.net c.args.s c.args.t c.requires.poles c.args.found.now.value c.args.found.now.room.items c.requires.grown.residual))

pub returns-clause-flow : goal.returns-clause-flow
returns-clause-flow c =
    let small = value_small c.args.net.now c.requires.net c.args.s c.args.t c.requires.poles c.args.found.now.value c.args.found.now.room.items c.requires.grown.residual in
    subst (λ (z : ℤ). IsFlowList c.args.net.now c.args.s c.args.t z c.in_ok-flow.flow) (sym (to_z_pos w128 c.args.found.now.value (omega (arith, small))))
    (flow_list c.args.net.now c.args.s c.args.t c.args.found.now.value c.as_slice.result.now c.in_ok-flow.flow (subst (λ (r : List ℕ). IsResidual c.args.net.now c.args.s c.args.t c.args.found.now.value r) (sym c.as_slice.ensures.value) c.requires.grown.residual) c.in_ok-flow.ensures)

pub returns-clause-set : goal.returns-clause-set
returns-clause-set c =
    let marks = c.as_slice-2.result.now in
    is_side c.args.net.now c.args.s c.args.t (is_marked marks) c.in_ok-set.set c.requires.poles.source c.requires.poles.sink c.in_ok-set.ensures.items c.in_ok-set.ensures.ascends
    (ap (λ ms. is_marked ms c.args.s) c.as_slice-2.ensures.value ∙ c.requires.grown.reached.begun) (ap (λ ms. is_marked ms c.args.t) c.as_slice-2.ensures.value ∙ c.requires.grown.leaves_out)

pub returns-clause-worth : goal.returns-clause-worth
returns-clause-worth c =
    let net = c.args.net.now in
    let marks = c.args.found.now.reach.marks.items in
    let small = value_small net c.requires.net c.args.s c.args.t c.requires.poles c.args.found.now.value c.args.found.now.room.items c.requires.grown.residual in
    ap pos (listed_leaving net c.requires.net (is_marked marks) (is_in c.in_ok-set.set) (λ j below. listed (is_marked c.as_slice-2.result.now) net.nodes c.in_ok-set.set c.in_ok-set.ensures.items j below ∙ ap (λ ms. is_marked ms j) c.as_slice-2.ensures.value)
    ∙ closed_cut net c.requires.net c.args.s c.args.t c.requires.poles c.args.found.now.value c.args.found.now.room.items c.requires.grown.residual (is_marked marks) c.requires.grown.reached.begun c.requires.grown.leaves_out c.requires.grown.closed)
    ∙ sym (to_z_pos w128 c.args.found.now.value (omega (arith, small)))

pub returns-clause-least : goal.returns-clause-least
returns-clause-least c = λ set holds out.
    let net = c.args.net.now in
    let residual = c.requires.grown.residual in
    let small = value_small net c.requires.net c.args.s c.args.t c.requires.poles c.args.found.now.value c.args.found.now.room.items residual in
    subst (λ (z : ℤ). z ≤ℤ pos (leaving_in net set)) (sym (to_z_pos w128 c.args.found.now.value (omega (arith, small))))
    (pos-≤ℤ c.args.found.now.value (leaving_in net set) (all_leave net c.requires.net c.args.s c.args.t c.requires.poles c.args.found.now.value (carried c.args.found.now.room.items) residual.flow set holds out))
