use Rattle.std.proofs.Common.{All, sym, subst}
use Rattle.std.proofs.lemmas.List.Elements.{All-push}
use Rattle.wrp_tableau.specs.Starts.{IsLine}
use Rattle.wrp_lp.specs.Relaxed.{width}
use Rattle.wrp_lp.proofs.lines.push_arc.Goals as goal

pub returns-clause-fit : goal.returns-clause-fit
returns-clause-fit c =
    let P = IsLine (width c.args.town.now) in
    let one = subst (All P) (sym c.in_ok-push.ensures.items) (All-push P c.args.lines.now.items c.in_ok-arc_line.field-0 c.requires.fit c.in_ok-arc_line.ensures.fits) in
    subst (All P) (sym c.in_ok-push-2.ensures.items) (All-push P c.push.new.self.items c.in_ok-arc_line-2.field-0 one c.in_ok-arc_line-2.ensures.fits)
