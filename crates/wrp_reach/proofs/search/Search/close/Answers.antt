use Rattle.std.proofs.Common.{◌≡◌, ℕ, ◌+◌, ◌-◌, ◌∙◌, ap, take, length, rules, refl, List}
use Rattle.std.specs.Vec.{with_items}
use Rattle.std.proofs.lemmas.List.{with_items_is}
use Rattle.wrp_reach.specs.declared.search.Mark.{Mark}
use Rattle.wrp_reach.specs.declared.search.Search.{Search}
use Rattle.wrp_reach.specs.Search.{mark_at}
use Rattle.wrp_reach.proofs.Turns.{closed_by}
use Rattle.wrp_reach.proofs.search.Search.close.Goals as goal

pub returns : goal.returns
returns c =
    let s = c.args.self.now in
    let new : Search = record { marks = with_items s.marks c.mark_done.new.marks; path = c.truncate.new.self; todo = s.todo; groups = c.truncate-2.new.self; count = s.count + 1 } in
    let long : length c.mark_done.new.marks ≡ length s.marks.items = search rules in
    let groups : c.len.result ≡ length s.groups.items = search rules in
    let before : c.deref_mut.result.now ≡ s.marks.items = c.deref_mut.ensures.value in
    closed_by s new c.args.group c.deref.result.now c.mark_done.new.marks c.requires.last c.deref.ensures.value
    (record { marked = c.mark_done.ensures.marked; others = λ j absent. c.mark_done.ensures.others j absent ∙ ap (λ (ms : List Mark). mark_at ms j) before })
    (with_items_is s.marks c.mark_done.new.marks (search rules)) long c.truncate.ensures.items (c.truncate-2.ensures.items ∙ ap (λ (n : ℕ). take (n - 1) s.groups.items) groups) refl refl
