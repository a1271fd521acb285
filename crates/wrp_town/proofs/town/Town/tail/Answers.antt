use Rattle.std.proofs.Common.{arith}
use Rattle.wrp_town.proofs.TownLaws.{sound_street}
use Rattle.wrp_town.proofs.town.Town.tail.Goals as goal

pub returns-then-arc-eq0-clause-junction : goal.returns-then-arc-eq0-clause-junction
returns-then-arc-eq0-clause-junction c =
    let sound = sound_street c.args.self.now _ c.street-street.result.now c.street-street.ensures in
    omega (arith, sound.from, sound.to)

pub returns-else-arc-eq0-clause-junction : goal.returns-else-arc-eq0-clause-junction
returns-else-arc-eq0-clause-junction c =
    let sound = sound_street c.args.self.now _ c.street-street.result.now c.street-street.ensures in
    omega (arith, sound.from, sound.to)
