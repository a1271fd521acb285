use Rattle.std.proofs.Common.{ℕ, ℤ, List, sym, subst}
use Rattle.wrp_odd.specs.Points.{numbers_of}
use Rattle.wrp_conn.specs.Shrunk.{IsNetBelow}
use Rattle.wrp_conn.proofs.Arcs.{no_arcs}
use Rattle.wrp_conn.proofs.net.net_of.Goals as goal

pub loop-arc-init : goal.loop-arc-init
loop-arc-init c = subst (λ (arcs : List (ℕ × ℕ × ℤ)). IsNetBelow c.args.town.now c.args.nodes.now (numbers_of c.args.point.now) 0 arcs) (sym c.new-arcs.ensures.items) (no_arcs c.args.town.now c.args.nodes.now (numbers_of c.args.point.now))
