use Rattle.std.proofs.Common.{◌≡◌, ◌<◌, ℕ, ℤ, List, map, set, length, unsigned_abs, to_z, of_z, ap, ◌∙◌, arith, rules, Vec, Global}
use Rattle.std.specs.Int.{w128}
use Rattle.std.proofs.lemmas.List.{length-map}
use Rattle.wrp_sums.specs.Sums.{numbers_below}
use Rattle.wrp_tableau.specs.Rows.{equation}
use Rattle.wrp_tableau.specs.Systems as systems
use Rattle.wrp_tableau.specs.Systems.{row}
use Rattle.wrp_tableau.specs.Kept.{system}
use Rattle.wrp_tableau.proofs.Factoring.{cast}
use Rattle.wrp_simplex.specs.Steps.{pivot_entry}
use Rattle.wrp_lp.specs.Reading.{times, number_of}
use Rattle.wrp_lp.proofs.Denominators.{small_den}
use Rattle.wrp_lp.proofs.Readings.{number_within, numbers_start, numbers_skip, numbers_set}
use Rattle.wrp_lp.proofs.reading.point_numbers.Goals as goal
use Rattle.wrp_lp.proofs.reading.point_numbers.Goals.{then-basic-width, else-basic-width}

pub loop-r-init : goal.loop-r-init
loop-r-init c =
    let items = c.in_ok-at.ensures.items_if_clones_equal (λ y h. search rules) in
    let den = to_z w128 (of_z w128 c.args.den) in
    items ∙ numbers_start (system c.args.tableau.now) (unsigned_abs den) c.args.width

pub loop-r-preserved : goal.loop-r-preserved
loop-r-preserved c =
    let s = system c.args.tableau.now in
    let den = unsigned_abs (to_z w128 (of_z w128 c.args.den)) in
    let r = c.loop-r.r in
    let n = c.args.width in
    let basic = c.basic-basic.result in
    let basic_is : basic ≡ systems.basic s r = c.basic-basic.ensures in
    let old = map (number_within s den r) (numbers_below n) in
    let below : r < length s.rows = let e = length-map c.args.tableau.now.rows equation in let f = c.rows-r-end.ensures.count in let g = c.loop-r-test.true in omega arith in
    elim c.if-basic-width.branch [
      | then-basic-width w ↦
          let value : ℤ = to_z w128 (of_z w128 w.times.result) in
          let p_small = w.right.ensures.small in
          let q_small = w.entry.ensures.small in
          let value_is : value ≡ times den (row s r).right (pivot_entry s r) =
          cast w.times.result (let h = w.times.ensures.small in omega arith)
          ∙ w.times.ensures.value
          ∙ ap (λ (z : ℤ). times den z (to_z w128 (of_z w128 w.entry.result))) (cast w.right.result (omega arith) ∙ w.right.ensures.value)
          ∙ ap (λ (z : ℤ). times den (row s r).right z) (cast w.entry.result (omega arith) ∙ w.entry.ensures.value ∙ ap (row s r).entry basic_is) in
          ap (λ (v : Vec ℤ Global). v.items) w.at-is
          ∙ ap (λ (xs : List ℤ). set xs basic value) c.loop-r.invariant
          ∙ ap (λ (i : ℕ). set old i value) basic_is
          ∙ ap (λ (z : ℤ). set old (systems.basic s r) z) value_is
          ∙ numbers_set s den r n c.rows-r-end.ensures.sound below (let h = w.if-basic-width.true in omega arith)
      | else-basic-width w ↦
          ap (λ (v : Vec ℤ Global). v.items) w.at-is
          ∙ c.loop-r.invariant
          ∙ numbers_skip s den r n (let h = w.if-basic-width.false in omega arith)
    ]

pub returns : goal.returns
returns c =
    let s = system c.args.tableau.now in
    let small = small_den c.args.den c.requires.den in
    let n = length-map c.args.tableau.now.rows equation in
    let all : c.loop-r.r ≡ length s.rows = let a = c.loop-r-test.false in let b = c.loop-r.auto.r-end in let e = c.rows-r-end.ensures.count in omega arith in
    c.from_vec.ensures
    ∙ c.loop-r.invariant
    ∙ ap (λ (z : ℤ). map (number_within s (unsigned_abs z) c.loop-r.r) (numbers_below c.args.width)) (cast c.args.den (omega arith))
    ∙ ap (λ (k : ℕ). map (number_within s (unsigned_abs c.args.den) k) (numbers_below c.args.width)) all
    ∙ ap (λ (k : ℕ). map (number_of s (unsigned_abs c.args.den)) (numbers_below k)) c.requires.width
