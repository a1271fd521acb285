use Rattle.std.proofs.Common.{sym, ◌∙◌}
use Rattle.wrp_points.proofs.InBox.{box_decided, not_in_box}
use Rattle.wrp_points.proofs.within.is_in_box.Goals as goal
use Rattle.wrp_points.proofs.within.is_in_box.Goals.{then-allows_listed, else-allows_listed}

pub returns-clause-is_in_box : goal.returns-clause-is_in_box
returns-clause-is_in_box c = λ stand has.
    let town = c.args.town.now in
    let kept = c.args.nodes.now in
    let entered = c.enter.ensures.entered town c.requires.rest in
    let decided = box_decided town kept c.args.node c.enter.new.self c.args.denominator c.args.numbers.now c.args.table.now stand c.requires.there has entered c.requires.legal c.requires.full in
    let not_listed = not_in_box town kept c.args.node c.enter.new.self c.args.denominator c.args.numbers.now c.args.table.now stand c.requires.there has entered c.requires.legal c.requires.full in
    elim c.if-allows_listed.branch [
      | then-allows_listed w ↦ w.allowed-is ∙ decided w.allows_cut-allowed.result (sym w.if-allows_listed.true ∙ c.allows_listed.ensures) w.allows_cut-allowed.ensures
      | else-allows_listed w ↦ w.allowed-is ∙ w.if-allows_listed.false ∙ not_listed (sym w.if-allows_listed.false ∙ c.allows_listed.ensures)
    ]
