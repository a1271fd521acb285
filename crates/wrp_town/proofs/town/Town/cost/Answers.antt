use Rattle.wrp_town.proofs.TownLaws.{sound_street, IfSome-from_is_cost}
use Rattle.wrp_town.proofs.town.Town.cost.Goals as goal

pub returns-then-arc-eq0-clause-limit : goal.returns-then-arc-eq0-clause-limit
returns-then-arc-eq0-clause-limit c = IfSome-from_is_cost _ (sound_street c.args.self.now _ c.street-street.result.now c.street-street.ensures).forward

pub returns-else-arc-eq0-clause-limit : goal.returns-else-arc-eq0-clause-limit
returns-else-arc-eq0-clause-limit c = IfSome-from_is_cost _ (sound_street c.args.self.now _ c.street-street.result.now c.street-street.ensures).backward
