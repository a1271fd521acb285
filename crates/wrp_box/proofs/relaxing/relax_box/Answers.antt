use Rattle.std.proofs.Common.{◌<◌, List, ℕ, length, sym, subst}
use Rattle.std.specs.List.{All, AllPairs}
use Rattle.wrp_simplex.specs.Steps.{after_steps}
use Rattle.wrp_lp.specs.Answers.{relaxed, steps_of}
use Rattle.wrp_box.proofs.Relaxed.{ascending_range, below_range, result_shows}
use Rattle.wrp_box.proofs.relaxing.relax_box.Goals as goal

pub relax-requires-clause-ascending : goal.relax-requires-clause-ascending
relax-requires-clause-ascending c =
    subst (λ (xs : List ℕ). AllPairs (λ i j. i < j) xs) (sym c.requires.all) (ascending_range (length c.args.rows.now.rows))

pub relax-requires-clause-there : goal.relax-requires-clause-there
relax-requires-clause-there c =
    subst (λ (xs : List ℕ). All (λ i. i < length c.args.rows.now.rows) xs) (sym c.requires.all) (below_range (length c.args.rows.now.rows))

pub returns-clause-shows : goal.returns-clause-shows
returns-clause-shows c s node has are =
    let pool = c.args.rows.now in
    result_shows s node pool c.args.bounds.now c.args.pivots c.args.chosen.now
    (λ lp. after_steps (relaxed pool c.args.chosen.now c.args.bounds.now) (steps_of lp))
    c.relax.result c.requires.all has are c.requires.bounds c.relax.ensures.end c.relax.ensures.shows
