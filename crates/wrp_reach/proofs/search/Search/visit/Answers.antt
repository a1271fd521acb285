use Rattle.std.proofs.Common.{◌≡◌, ◌<◌, length, rules, arith, ◌∙◌}
use Rattle.std.proofs.lemmas.Result.{on_ok_weaker}
use Rattle.wrp_reach.proofs.Turns.{last_read, mark_read, visited_below, visited_new, visited_done, visited_path}
use Rattle.wrp_reach.proofs.search.Search.visit.Goals as goal

pub returns-in-New : goal.returns-in-New
returns-in-New c =
    let old = c.args.self.now in
    let j = c.index-j.result.now in
    let long : c.len.result ≡ length old.todo.items = search rules in
    let top = last_read old.todo.items c.len.result j long (omega (arith, c.requires.some.some)) c.index-j.ensures in
    let inside : j < length old.marks.items = omega (arith, visited_below c.args.graph.now old c.requires.search c.requires.some j top, c.requires.search.order.each) in
    let is = mark_read old.marks.items j c.index.result.now inside c.index.ensures ∙ c.in-New.is in
    on_ok_weaker c.enter.result
    (λ entered. visited_new c.args.graph.now old c.requires.search c.requires.some j top c.enter.new.self is entered) c.enter.ensures

pub returns-in-OnPath : goal.returns-in-OnPath
returns-in-OnPath c =
    let old = c.args.self.now in
    let j = c.index-j.result.now in
    let long : c.len.result ≡ length old.todo.items = search rules in
    let top = last_read old.todo.items c.len.result j long (omega (arith, c.requires.some.some)) c.index-j.ensures in
    let inside : j < length old.marks.items = omega (arith, visited_below c.args.graph.now old c.requires.search c.requires.some j top, c.requires.search.order.each) in
    let is = mark_read old.marks.items j c.index.result.now inside c.index.ensures ∙ c.in-OnPath.is in
    visited_path c.args.graph.now old c.requires.search c.requires.some j top c.join.new.self c.drop_last.new.self c.in-OnPath.place is c.join.ensures c.drop_last.ensures

pub returns-in-Done : goal.returns-in-Done
returns-in-Done c =
    let old = c.args.self.now in
    let j = c.index-j.result.now in
    let long : c.len.result ≡ length old.todo.items = search rules in
    let top = last_read old.todo.items c.len.result j long (omega (arith, c.requires.some.some)) c.index-j.ensures in
    let inside : j < length old.marks.items = omega (arith, visited_below c.args.graph.now old c.requires.search c.requires.some j top, c.requires.search.order.each) in
    let is = mark_read old.marks.items j c.index.result.now inside c.index.ensures ∙ c.in-Done.is in
    visited_done c.args.graph.now old c.requires.search c.requires.some j top c.drop_last-in-Done.new.self c.in-Done.label is c.drop_last-in-Done.ensures
