use Rattle.std.proofs.Common.{◌≡◌, ◌<◌, ◌≤◌, ℕ, ℤ, pos, ◌<ℤ◌, ◌≤ℤ◌, to_z, of_z, List, Option, length, get_or, refl, sym, subst, arith}
use Rattle.std.specs.Prelude.{IfSome}
use Rattle.std.specs.Int.{w128}
use Rattle.std.proofs.lemmas.Int.{to_z-of_z}
use Rattle.wrp_sums.proofs.Integers.{casts}
use Rattle.wrp_rows.specs.Points.{most_denominator}
use Rattle.wrp_rules.specs.Sets.{is_in}
use Rattle.wrp_flow.specs.declared.net.BothCuts.{BothCuts}
use Rattle.wrp_flow.specs.Flows.{leaving_in, IsSideOf, LeavesAll}
use Rattle.wrp_webs.specs.Webs.{outside, cut, IsOdd}
use Rattle.wrp_odd.specs.Points.{denominator_of}
use Rattle.wrp_minodd.specs.declared.pairs.Seen.{Seen}
use Rattle.wrp_minodd.specs.Looks.{web_of, inner, IsSide, IsKept}
use Rattle.wrp_minodd.proofs.Seeing.{seen_more, seen_none, map_small, labels_small, near_is_light, value_bounds, den_bounds}
use Rattle.wrp_minodd.proofs.pairs.see.Goals as goal

pub side_of-requires-clause-map : goal.side_of-requires-clause-map
side_of-requires-clause-map c = map_small (web_of c.args.town.now c.args.point.now) c.args.map.now c.requires.map

pub side_of-requires-2-clause-map : goal.side_of-requires-2-clause-map
side_of-requires-2-clause-map c = map_small (web_of c.args.town.now c.args.point.now) c.args.map.now c.requires.map

pub note-requires-clause-labels : goal.note-requires-clause-labels
note-requires-clause-labels c =
    subst (λ (xs : List ℕ). (k : ℕ) → (d : ℕ) → k < length xs → get_or xs k d < length c.args.town.now.junctions) (sym c.as_slice-3.ensures.value)
    (labels_small c.args.map.now c.as_slice.result.now c.in_ok-near.near.items 1 0 (length c.args.town.now.junctions) c.in_ok-near.ensures (omega (arith, c.requires.s.below, c.requires.t.below, c.requires.apart)) (omega (arith, c.requires.s.below)))

pub note-requires-2-clause-labels : goal.note-requires-2-clause-labels
note-requires-2-clause-labels c =
    subst (λ (xs : List ℕ). (k : ℕ) → (d : ℕ) → k < length xs → get_or xs k d < length c.args.town.now.junctions) (sym c.as_slice-4.ensures.value)
    (labels_small c.args.map.now c.as_slice-2.result.now c.in_ok-far.far.items 0 1 (length c.args.town.now.junctions) c.in_ok-far.ensures (omega (arith, c.requires.s.below)) (omega (arith, c.requires.s.below, c.requires.t.below, c.requires.apart)))

-- a number of 128 bits that is passed is the same
passed : (z : ℤ) → pos 1 ≤ℤ z → z ≤ℤ pos most_denominator → to_z w128 (of_z w128 z) ≡ z
passed z positive low = to_z-of_z w128 z (omega (arith, casts))

pub returns-in_default : goal.returns-in_default
returns-in_default c = λ nodes seen.
    seen_none c.args.town.now c.args.point.now c.args.map.now c.args.s c.args.t nodes c.args.seen.now seen
    (den_bounds c.args.town.now c.args.point.now c.args.map.now c.args.net.now c.args.s c.args.t c.requires.point.positive c.requires.map c.requires.net c.requires.s c.requires.t (subst (λ (z : ℤ). LeavesAll c.args.net.now c.args.s c.args.t z) (passed c.args.point.now.den c.requires.point.positive c.requires.point.low) (c.in_ok-both.ensures.enough c.in_default.is)))

more : {m n : ℕ} → 0 < m → m ≤ n → 0 < n
more some grown = omega arith

grown_twice : {k m n : ℕ} → k ≤ m → m ≤ n → k ≤ n
grown_twice first second = omega arith

kept : (den bound value : ℕ) (inside : List ℕ) (t : ℕ) (old new : Seen) → den ≡ bound → IsKept den value inside t old new → IsKept bound value inside t old new
kept den bound value inside t old new same is = subst (λ (k : ℕ). IsKept k value inside t old new) same is

pub returns : goal.returns
returns c =
    let town = c.args.town.now in
    let point = c.args.point.now in
    let map = c.args.map.now in
    let net = c.args.net.now in
    let s = c.args.s in
    let t = c.args.t in
    let both = c.in-Some.both in
    let near : List ℕ = c.in_ok-near.near.items in
    let mid : Seen = record { records = c.note-2.new.records; best = c.args.seen.now.best } in
    let value = c.weight_of.result in
    let sets = subst (λ (o : Option BothCuts). IfSome o (λ both. IsSideOf net s t both.cut.set × IsSideOf net t s both.sink_side)) c.in-Some.is c.in_ok-both.ensures.sets in
    let worth = subst (λ (o : Option BothCuts). IfSome o (λ both. (pos (leaving_in net (is_in both.cut.set)) ≡ both.cut.value) × (pos (leaving_in net (outside (is_in both.sink_side))) ≡ both.cut.value))) c.in-Some.is c.in_ok-both.ensures.worth in
    let below = subst (λ (z : ℤ). both.cut.value <ℤ z) (passed point.den c.requires.point.positive c.requires.point.low) (subst (λ (o : Option BothCuts). IfSome o (λ both. both.cut.value <ℤ to_z w128 (of_z w128 point.den))) c.in-Some.is c.in_ok-both.ensures.below) in
    let least = subst (λ (o : Option BothCuts). IfSome o (λ both. LeavesAll net s t both.cut.value)) c.in-Some.is c.in_ok-both.ensures.least in
    let labels : IsSide map both.cut.set 1 0 near = subst (λ (xs : List ℕ). IsSide map xs 1 0 near) c.as_slice.ensures c.in_ok-near.ensures in
    let noted : IsOdd (web_of town point) (inner near) → cut (web_of town point) (inner near) < denominator_of point → 0 < length c.note-2.new.records.items =
    subst (λ (xs : List ℕ). IsOdd (web_of town point) (inner xs) → cut (web_of town point) (inner xs) < denominator_of point → 0 < length c.note-2.new.records.items) c.as_slice-3.ensures.value
    (λ odd light. more (c.in_ok-note.ensures.found c.requires.services odd light) c.in_ok-note-2.ensures.grown) in
    let light = near_is_light town point map net s t c.requires.point.positive c.requires.map c.requires.net c.requires.s c.requires.t both.cut.set near both.cut.value value (length mid.records.items) sets.0 labels worth.0 c.weight_of.ensures below noted in
    λ nodes seen.
    seen_more town point map s t value nodes near c.args.seen.now mid c.keep.new.seen seen c.in_ok-note-2.ensures.broken (grown_twice c.in_ok-note.ensures.grown c.in_ok-note-2.ensures.grown) refl light
    (value_bounds town point map net s t c.requires.point.positive c.requires.map c.requires.net c.requires.s c.requires.t both.cut.value value least c.weight_of.ensures) (kept c.denominator.result (denominator_of point) value near t mid c.keep.new.seen c.denominator.ensures.value c.keep.ensures)
