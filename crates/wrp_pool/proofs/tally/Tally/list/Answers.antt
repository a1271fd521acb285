use Rattle.std.proofs.Common.{◌<◌, false, length, refl, sym, ◌∙◌, arith}
use Rattle.std.proofs.lemmas.List.{get_or_read}
use Rattle.wrp_town.proofs.TownLaws.{legal_below}
use Rattle.wrp_pool.proofs.Tallying.{lists_more, lists_again}
use Rattle.wrp_pool.proofs.tally.Tally.list.Goals as goal

pub returns-in_ok-push : goal.returns-in_ok-push
returns-in_ok-push c =
    let inside : c.args.arc < length c.args.self.now.marks.items = omega (arith, c.requires.tally.marks, legal_below c.args.town.now c.args.arc c.requires.legal) in
    lists_more c.args.town.now c.args.self.now _ c.args.arc c.requires.tally c.requires.legal
    (sym (get_or_read c.args.self.now.marks.items c.args.arc c.index.result.now inside c.index.ensures false) ∙ c.if-not-index.true)
    refl refl c.in_ok-push.ensures.items

pub returns-else-not-index : goal.returns-else-not-index
returns-else-not-index c =
    let inside : c.args.arc < length c.args.self.now.marks.items = omega (arith, c.requires.tally.marks, legal_below c.args.town.now c.args.arc c.requires.legal) in
    lists_again c.args.town.now c.args.self.now _ c.args.arc c.requires.tally c.requires.legal
    (sym (get_or_read c.args.self.now.marks.items c.args.arc c.index.result.now inside c.index.ensures false) ∙ c.if-not-index.false)
    refl refl refl
