use Rattle.wrp_points.proofs.Surplus.{even_decides}
use Rattle.wrp_points.proofs.balance.is_balanced.Goals as goal

pub returns-clause-is_balanced : goal.returns-clause-is_balanced
returns-clause-is_balanced c =
    even_decides c.args.town.now c.args.numbers.now c.put_surplus.new.surplus c.are_even-even.result c.requires.legal c.put_surplus.ensures c.are_even-even.ensures
