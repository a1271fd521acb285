use Rattle.std.proofs.Common.{◌++◌, map, ap, sym, ◌∙◌, subst, List}
use Rattle.wrp_town.specs.declared.street.Street.{Street}
use Rattle.wrp_town.specs.Streets.{IsTown}
use Rattle.wrp_turn.specs.TurnTowns.{turn_street, turns_of, turn_streets}
use Rattle.wrp_turn.proofs.TurnTowns.{turn_town}
use Rattle.wrp_turn.proofs.expansion.build.Goals as goal

pub invariant_of-result : goal.invariant_of-result
invariant_of-result c =
    let town = c.args.places.now.town.now in
    let bans = c.args.turns.now.bans.now in
    let streets = c.in_ok-push_turns.ensures ∙ ap (λ front. front ++ map (turn_street town) (turns_of town bans)) c.in_ok-streets.ensures in
    record {
      well_formed = subst (λ (xs : List Street). IsTown c.in_ok-junctions.junctions xs) (sym streets)
          (subst (λ (names : List (List _)). IsTown names (turn_streets town bans)) (sym c.in_ok-junctions.ensures) (turn_town town bans c.requires.fits));
    }
