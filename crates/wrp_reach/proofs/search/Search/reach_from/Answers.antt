use Rattle.std.proofs.Common.{◌<◌, length, arith, ◌∙◌, ◌+◌, sym, subst}
use Rattle.wrp_reach.specs.Search.{IsAtRoot}
use Rattle.wrp_reach.specs.declared.search.Search.{Search}
use Rattle.wrp_reach.proofs.Turns.{mark_read}
use Rattle.wrp_reach.proofs.Roots.{going_more, root_enters, root_done, root_known}
use Rattle.wrp_reach.proofs.search.Search.reach_from.Goals as goal

pub loop-init : goal.loop-init
loop-init c =
    let s = c.args.self.now in
    let inside : c.args.root < length s.marks.items = omega (arith, c.requires.root, c.requires.search.search.order.each) in
    let fresh = mark_read s.marks.items c.args.root c.index.result.now inside c.index.ensures ∙ c.in-New.is in
    record { search = (root_enters c.args.graph.now c.args.root s c.enter.new.self c.requires.search c.requires.root fresh c.in_ok-enter.ensures).search; kept = λ j is. is }

pub loop-preserved : goal.loop-preserved
loop-preserved c = going_more c.args.graph.now c.enter.new.self c.loop.self c.step.new.self c.loop.invariant (c.in_ok-step.ensures.on c.if-branch.true)

pub loop-smaller : goal.loop-smaller
loop-smaller c = (c.in_ok-step.ensures.on c.if-branch.true).less

pub returns-else-branch : goal.returns-else-branch
returns-else-branch c =
    let s = c.args.self.now in
    let inside : c.args.root < length s.marks.items = omega (arith, c.requires.root, c.requires.search.search.order.each) in
    let fresh = mark_read s.marks.items c.args.root c.index.result.now inside c.index.ensures ∙ c.in-New.is in
    let over = c.in_ok-step.ensures.over c.if-branch.false in
    subst (λ (z : Search). IsAtRoot c.args.graph.now (c.args.root + 1) z) (sym over.0)
    (root_done c.args.graph.now c.args.root s c.enter.new.self c.loop.self c.requires.search c.requires.root fresh c.in_ok-enter.ensures c.loop.invariant over.1)

pub returns-in_default : goal.returns-in_default
returns-in_default c =
    let s = c.args.self.now in
    let inside : c.args.root < length s.marks.items = omega (arith, c.requires.root, c.requires.search.search.order.each) in
    root_known c.args.graph.now c.args.root s c.requires.search (λ fresh. c.in_default.not-New (sym (mark_read s.marks.items c.args.root c.index.result.now inside c.index.ensures) ∙ fresh))
