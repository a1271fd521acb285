use Rattle.std.proofs.Common.{◌<◌, ℕ, List, [], ◌∷◌, ◌++◌, length, map, ap, subst, ◌∙◌, arith}
use Rattle.wrp_rules.specs.declared.record.Record.{Record}
use Rattle.wrp_webs.specs.Searching.{IsSearch, HasBelow, reading, work}
use Rattle.wrp_odd.specs.Points.{denominator_of}
use Rattle.wrp_minodd.specs.declared.look.Look.{Look}
use Rattle.wrp_minodd.specs.declared.look.Look.TheVariants.{Split}
use Rattle.wrp_minodd.specs.Looks.{web_of, Shows}
use Rattle.wrp_minodd.proofs.Steps.{none_met, broken_not_met, nothing_of, goes_far, split_turn, lent_is, as_pending}
use Rattle.wrp_minodd.proofs.search.search.Goals as goal
use Rattle.wrp_minodd.proofs.search.search.Goals.{in-Far, in-Split+in_ok-one-in-Split+in_ok-two-in-Split+in_ok-push-in-Split+in_ok-push-in-Split-2}

pub returns-in-Found-clause-none : goal.returns-in-Found-clause-none
returns-in-Found-clause-none c =
    let shown = subst (λ (l : Look). Shows c.args.town.now c.args.point.now c.as_slice.result.now l) c.in-Found.is c.in_ok-look_at.ensures in
    ((λ none. absurd (omega (arith, shown.1, ap (λ (xs : List Record). length xs) none))), (λ met. absurd (broken_not_met c.args.town.now c.args.point.now c.in-Found.records.items shown.0.broken shown.1 met)))

turn : (c : goal.After-drop-map-inside-in-Some)
    → (IsSearch (web_of c.args.town.now c.args.point.now) (denominator_of c.args.point.now) c.match-branch-3.pending.items)
    × (work (web_of c.args.town.now c.args.point.now) (map reading c.match-branch-3.pending.items) < work (web_of c.args.town.now c.args.point.now) (map reading c.loop-map.pending.items))
turn c =
    let town = c.args.town.now in
    let point = c.args.point.now in
    let rest = c.pop.new.self.items in
    let item = c.in-Some.map in
    let now = subst (IsSearch (web_of town point) (denominator_of point)) c.in-Some.ensures.items c.loop-map.invariant in
    elim c.match-branch-3.branch [
      | in-Far w ↦ (
          let shown = subst (λ (l : Look). Shows town point c.as_slice.result.now l) w.in-Far.is c.in_ok-look_at.ensures in
          let both = goes_far (web_of town point) (denominator_of point) rest item now (subst (λ (xs : List ℕ). HasBelow (web_of town point) (denominator_of point) (reading xs) → ⊥) c.as_slice.ensures shown) in
          as_pending (web_of town point) (denominator_of point) c.match-branch-3.pending.items rest c.loop-map.pending.items (rest ++ item ∷ []) (ap (λ v. v.items) w.pending-is) c.in-Some.ensures.items both
          )
      | in-Split+in_ok-one-in-Split+in_ok-two-in-Split+in_ok-push-in-Split+in_ok-push-in-Split-2 w ↦ (
          let one = w.in_ok-one-in-Split.one in
          let two = w.in_ok-two-in-Split.two in
          let inside = w.in-Split.inside.items in
          let shown = subst (λ (xs : List ℕ). Shows town point xs (Split w.in-Split.inside w.in-Split.s w.in-Split.t)) c.as_slice.ensures (subst (λ (l : Look). Shows town point c.as_slice.result.now l) w.in-Split.is c.in_ok-look_at.ensures) in
          let both = split_turn town point rest item inside one two w.in-Split.s w.in-Split.t now shown.0 shown.1 shown.2 shown.3
          (w.in_ok-one-in-Split.ensures.long ∙ ap (λ (xs : List ℕ). length xs) w.as_slice-in-Split.ensures)
          (λ j below. lent_is w.as_slice-in-Split.result.now w.as_slice-in-Split-2.result.now item inside one 1 w.in-Split.t w.as_slice-in-Split.ensures w.as_slice-in-Split-2.ensures.value j w.in_ok-one-in-Split.ensures.is below)
          (w.in_ok-two-in-Split.ensures.long ∙ ap (λ (xs : List ℕ). length xs) w.as_slice-in-Split-3.ensures)
          (λ j below. lent_is w.as_slice-in-Split-3.result.now w.as_slice-in-Split-4.result.now item inside two 0 w.in-Split.s w.as_slice-in-Split-3.ensures w.as_slice-in-Split-4.ensures.value j w.in_ok-two-in-Split.ensures.is below) in
          as_pending (web_of town point) (denominator_of point) c.match-branch-3.pending.items ((rest ++ one ∷ []) ++ two ∷ []) c.loop-map.pending.items (rest ++ item ∷ [])
          (ap (λ v. v.items) w.pending-is ∙ w.in_ok-push-in-Split-2.ensures.items ∙ ap (λ (xs : List (List ℕ)). xs ++ two ∷ []) w.in_ok-push-in-Split.ensures.items) c.in-Some.ensures.items both
          )
    ]

pub loop-map-smaller : goal.loop-map-smaller
loop-map-smaller c = (turn c).1

pub loop-map-preserved : goal.loop-map-preserved
loop-map-preserved c = (turn c).0

pub returns-clause-none : goal.returns-clause-none
returns-clause-none c =
    let none = nothing_of c.loop-map.pending.items c.loop-map.pending.len c.loop-map.pending.ok.0 c.in_default.ensures.cases.0 in
    let empty = subst (IsSearch (web_of c.args.town.now c.args.point.now) (denominator_of c.args.point.now)) none c.loop-map.invariant in
    ((λ is. none_met c.args.town.now c.args.point.now c.requires.point c.requires.services empty), (λ met. c.new.ensures.items))
