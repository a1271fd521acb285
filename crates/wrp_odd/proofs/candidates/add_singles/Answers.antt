use Rattle.std.proofs.Common.{◌≡◌, ◌+◌, ◌<◌, ℕ, List, length, slice_index, ap, ◌∙◌, sym, subst, arith}
use Rattle.wrp_odd.specs.Found.{GoesOn}
use Rattle.wrp_odd.proofs.ClassCuts.{ready_single, not_single}
use Rattle.wrp_odd.proofs.Singles.{HasSingles, single_added, single_passed}
use Rattle.wrp_odd.proofs.candidates.add_singles.Goals as goal
use Rattle.wrp_odd.proofs.candidates.add_singles.Goals.{then-is_broken+in_ok-add, else-is_broken}

pub loop-j-preserved : goal.loop-j-preserved
loop-j-preserved c =
    let town = c.args.town.now in
    let point = c.args.point.now in
    let own = c.as_slice.result.now in
    let old = c.loop-j.found in
    let k = c.loop-j.j in
    let tallies = c.in_ok-tallies.tallies.items in
    let owns : (j : ℕ) → j < length town.junctions → slice_index own j ≡ j = λ j below. ap (λ (xs : List ℕ). slice_index xs j) c.as_slice.ensures.value ∙ c.in_ok-own.ensures.own j (omega arith) in
    elim c.if-is_broken.branch [
      | then-is_broken+in_ok-add w ↦ subst (HasSingles town point (k + 1)) (sym w.found-is)
          (single_added town point k old (omega arith) c.loop-j.invariant w.add.new.self
          (ready_single town point own tallies c.requires.point c.in_ok-tallies.ensures.tallies owns k (omega arith) c.index.result.now c.index.ensures c.denominator-den.result c.denominator-den.ensures.value (w.if-is_broken.ensures))
          (subst (λ (set : List ℕ). GoesOn set old w.add.new.self) w.as_slice-then-is_broken.ensures w.in_ok-add.ensures))
      | else-is_broken w ↦ subst (HasSingles town point (k + 1)) (sym w.found-is)
          (single_passed town point k old (omega arith) c.loop-j.invariant
          (not_single town point own tallies c.requires.point c.in_ok-tallies.ensures.tallies owns k (omega arith) c.index.result.now c.index.ensures c.denominator-den.result c.denominator-den.ensures.value (w.if-is_broken.ensures)))
    ]
