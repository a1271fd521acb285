use Rattle.std.proofs.Common.{sym, ◌∙◌}
use Rattle.std.proofs.lemmas.Result.{on_ok_weaker}
use Rattle.wrp_round.specs.Optima.{point_of}
use Rattle.wrp_engine.proofs.Broken.{roundings_useful, taken_useful, appended_useful, appended_first, appended_behind, nothing_taken, none_named}
use Rattle.wrp_engine.proofs.cuts.add_roundings.Goals as goal

pub returns : goal.returns
returns c =
    let pool = c.args.rows.now in
    let point = point_of c.args.lp.now in
    let found = c.in_ok-found.found.items in
    let taken = c.truncate.new.self.items in
    let useful = taken_useful pool point taken found 2 c.truncate.ensures.items (roundings_useful pool point found c.in_ok-found.ensures.broken) in
    record {
      useful = appended_useful pool point c.append.result c.args.cuts.now.items taken c.append.new.self.items c.append.ensures.items c.requires.useful useful;
      old = appended_first c.append.result c.args.cuts.now.items taken c.append.new.self.items c.append.ensures.items;
      named = on_ok_weaker c.append.result (λ behind none. none_named pool c.args.chosen.now c.args.lp.now found c.in_ok-found.ensures.named (nothing_taken found 1 (sym c.truncate.ensures.items ∙ behind none)))
          (appended_behind c.append.result c.args.cuts.now.items taken c.append.new.self.items c.append.ensures.items);
    }
