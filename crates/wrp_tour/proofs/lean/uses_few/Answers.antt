use Rattle.std.proofs.Common.{◌≡◌, ℕ, ◌+◌, ◌<◌, length, get_or, set, rules, arith, refl, sym, ap, ◌∙◌, List, vec_len, false}
use Rattle.std.specs.Prelude.{slice_index}
use Rattle.std.proofs.lemmas.List.{take_all}
use Rattle.wrp_town.specs.declared.street.Step.{Step}
use Rattle.wrp_town.specs.Arcs.{arc_of}
use Rattle.wrp_town.proofs.TownLaws.{legal_below}
use Rattle.wrp_town.specs.Walks.{count_of}
use Rattle.wrp_town.proofs.WalkLaws.{tour_legal}
use Rattle.wrp_tour.proofs.Uses.{counted_more, legal_at, small_street, read_at}
use Rattle.wrp_tour.proofs.lean.uses_few.Goals as goal

pub arc-arc-requires : goal.arc-arc-requires
arc-arc-requires c =
    let d : Step = record { street = 0; back = false } in
    small_street c.args.town.now (get_or c.args.steps.now c.loop-step.step-index d) (legal_at c.args.town.now c.args.steps.now c.loop-step.step-index d (tour_legal c.args.town.now c.args.steps.now c.requires) c.loop-step-test.true)

pub index-requires : goal.index-requires
index-requires c =
    let d : Step = record { street = 0; back = false } in
    let below = legal_below c.args.town.now (arc_of (get_or c.args.steps.now c.loop-step.step-index d)) (legal_at c.args.town.now c.args.steps.now c.loop-step.step-index d (tour_legal c.args.town.now c.args.steps.now c.requires) c.loop-step-test.true) in
    let long : vec_len c.loop-step.counts ≡ length c.loop-step.counts.items = search rules in
    omega (arith, below, c.arc-arc.ensures, long, c.loop-step.invariant.counted.each)

pub index_mut-requires : goal.index_mut-requires
index_mut-requires c =
    let d : Step = record { street = 0; back = false } in
    let below = legal_below c.args.town.now (arc_of (get_or c.args.steps.now c.loop-step.step-index d)) (legal_at c.args.town.now c.args.steps.now c.loop-step.step-index d (tour_legal c.args.town.now c.args.steps.now c.requires) c.loop-step-test.true) in
    let long : vec_len c.loop-step.counts ≡ length c.loop-step.counts.items = search rules in
    omega (arith, below, c.arc-arc.ensures, long, c.loop-step.invariant.counted.each)

pub overflow_add-index_mut : goal.overflow_add-index_mut
overflow_add-index_mut c =
    let d : Step = record { street = 0; back = false } in
    let counts = c.loop-step.counts.items in
    let below = legal_below c.args.town.now (arc_of (get_or c.args.steps.now c.loop-step.step-index d)) (legal_at c.args.town.now c.args.steps.now c.loop-step.step-index d (tour_legal c.args.town.now c.args.steps.now c.requires) c.loop-step-test.true) in
    let inside : c.arc-arc.result < length counts = omega (arith, below, c.arc-arc.ensures, c.loop-step.invariant.counted.each) in
    omega (arith, read_at counts c.arc-arc.result c.index.result.now inside c.index.ensures, read_at counts c.arc-arc.result c.index_mut.result.now inside c.index_mut.ensures.value, c.if-index-most.false, c.demand_count-most.type_inv)

pub loop-step-preserved : goal.loop-step-preserved
loop-step-preserved c =
    let d : Step = record { street = 0; back = false } in
    let counts = c.loop-step.counts.items in
    let town = c.args.town.now in
    let steps = c.args.steps.now in
    let i = c.loop-step.step-index in
    let step = get_or steps i d in
    let below = legal_below town (arc_of step) (legal_at town steps i d (tour_legal c.args.town.now c.args.steps.now c.requires) c.loop-step-test.true) in
    let inside : c.arc-arc.result < length counts = omega (arith, below, c.arc-arc.ensures, c.loop-step.invariant.counted.each) in
    let first = read_at counts c.arc-arc.result c.index.result.now inside c.index.ensures in
    let second = read_at counts c.arc-arc.result c.index_mut.result.now inside c.index_mut.ensures.value in
    let at = ap (slice_index counts) c.arc-arc.ensures in
    record {
      most = c.loop-step.invariant.most;
      counted = counted_more town c.demand_count-most.result i steps step d counts (set counts c.arc-arc.result (c.index_mut.result.now + 1)) (tour_legal c.args.town.now c.args.steps.now c.requires) c.loop-step-test.true refl c.loop-step.invariant.counted (omega (arith, at, first, c.if-index-most.false))
          (ap (λ (k : ℕ). set counts k (c.index_mut.result.now + 1)) c.arc-arc.ensures ∙ ap (λ (v : ℕ). set counts (arc_of step) (v + 1)) (sym second ∙ at));
    }

pub returns : goal.returns
returns c = λ _ arc.
    let i = c.loop-step.invariant in
    omega (arith, i.most, i.counted.few arc, ap (λ (xs : List Step). count_of xs arc) (take_all c.loop-step.step-index c.args.steps.now c.loop-step-test.false))
