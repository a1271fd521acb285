use Rattle.std.proofs.Common.{◌∷◌, [], length, ap, arith, subst, length-append}
use Rattle.std.proofs.lemmas.List.Elements.{All-head}
use Rattle.wrp_odd.specs.Found.{IsBrokenOddCut}
use Rattle.wrp_engine.specs.Cuts.{AreOddCuts, AreBrokenOdds}
use Rattle.wrp_engine.proofs.Broken.{first_odd, other_odds, other_broken, pushed_useful, form_is_cut}
use Rattle.wrp_engine.proofs.cuts.add_forms.Goals as goal

pub round_of_odd-requires : goal.round_of_odd-requires
round_of_odd-requires c =
    let town = c.args.rows.now.town in
    first_odd town c.in-Some.item c.next.new.self.rest.items
    (subst (AreOddCuts town) c.in-Some.ensures.steps.0 c.loop-item.invariant.odds)

pub loop-item-preserved : goal.loop-item-preserved
loop-item-preserved c =
    let pool = c.args.rows.now in
    let item = c.in-Some.item in
    let others = c.next.new.self.rest.items in
    let form = c.in_ok-round_of_odd.field-0 in
    let told = c.in_ok-round_of_odd.ensures in
    let rest = λ (point : _) (all : AreBrokenOdds pool.town point c.args.found.items). subst (AreBrokenOdds pool.town point) c.in-Some.ensures.steps.0 (c.loop-item.invariant.broken point all) in
    record {
      odds = other_odds pool.town item others (subst (AreOddCuts pool.town) c.in-Some.ensures.steps.0 c.loop-item.invariant.odds);
      broken = λ point all. other_broken pool.town item others point (rest point all);
      useful = λ point all old. pushed_useful pool point c.push.new.self.items c.loop-item.cuts.items form c.in_ok-push.ensures.items (c.loop-item.invariant.useful point all old)
          (λ s rows base. record {
            cut = form_is_cut pool.town item form told.form;
            broken = told.broken s point base (rest point all).serving.is (rest point all).serving.balanced (All-head (IsBrokenOddCut pool.town point) item others (rest point all).broken);
          });
      long = let steps = ap length c.in-Some.ensures.steps.0 in let push = ap length c.in_ok-push.ensures.items in omega (arith, steps, push, length-append c.loop-item.cuts.items (form ∷ []), c.loop-item.invariant.long);
    }
