use Rattle.wrp_round.proofs.Cuts.{rounding_cut, odd_cut_broken, odd_cut_of}
use Rattle.wrp_round.proofs.laws.cut_laws.Goals as goal

pub returns : goal.returns
returns c = record { rounding = rounding_cut; odd = odd_cut_broken; form = odd_cut_of }
