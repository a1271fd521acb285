use Rattle.std.proofs.lemmas.Result.{on_ok_weaker}
use Rattle.wrp_engine.proofs.Broken.{odd_cuts_of, odds_useful, appended_useful, appended_behind, grown_behind}
use Rattle.wrp_engine.proofs.cuts.add_odd_sets.Goals as goal

pub add_forms-requires : goal.add_forms-requires
add_forms-requires c = odd_cuts_of c.args.rows.now.town c.args.point.now c.in_ok-found.found.items c.in_ok-found.ensures.broken.broken

pub returns-then-round-le-LAST_OPEN_ROUND : goal.returns-then-round-le-LAST_OPEN_ROUND
returns-then-round-le-LAST_OPEN_ROUND c = record {
  useful = c.add_forms.ensures.useful c.args.point.now (record { serving = c.requires.point; broken = c.in_ok-found.ensures.broken.broken }) c.requires.useful;
  odds = grown_behind c.add_forms.result c.args.cuts.now.items c.in_ok-found.found.items c.add_forms.new.cuts.items c.add_forms.ensures.long c.in_ok-found.ensures.none.0;
}

pub returns-else-round-le-LAST_OPEN_ROUND : goal.returns-else-round-le-LAST_OPEN_ROUND
returns-else-round-le-LAST_OPEN_ROUND c =
    let found = c.in_ok-found.found.items in
    record {
      useful = appended_useful c.args.rows.now c.args.point.now c.append.result c.args.cuts.now.items found c.append.new.self.items c.append.ensures.items c.requires.useful
          (odds_useful c.args.rows.now c.args.point.now found c.in_ok-found.ensures.broken.broken);
      odds = on_ok_weaker c.append.result (λ behind none. c.in_ok-found.ensures.none.0 (behind none))
          (appended_behind c.append.result c.args.cuts.now.items found c.append.new.self.items c.append.ensures.items);
    }
