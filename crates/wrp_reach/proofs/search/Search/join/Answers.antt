use Rattle.std.proofs.Common.{◌≡◌, ℕ, ◌-◌, ◌∙◌, ap, take, length, refl, rules}
use Rattle.wrp_reach.specs.declared.search.Search.{Search}
use Rattle.wrp_reach.proofs.Steps.{joining_begins, joining_goes, joining_stops_at, joining_stops_none}
use Rattle.wrp_reach.proofs.search.Search.join.Goals as goal

pub loop-group-init : goal.loop-group-init
loop-group-init c = joining_begins c.args.place c.args.self.now

pub returns-then-group-place : goal.returns-then-group-place
returns-then-group-place c =
    joining_stops_at c.args.place c.args.self.now c.loop-group.self c.in-Some.group c.requires c.loop-group.invariant c.in-Some.ensures c.if-group-place.true

pub loop-group-preserved : goal.loop-group-preserved
loop-group-preserved c =
    let s = c.loop-group.self in
    let new : Search = record s { groups = c.truncate.new.self } in
    let long : c.len.result ≡ length s.groups.items = search rules in
    joining_goes c.args.place c.args.self.now s new c.in-Some.group c.loop-group.invariant c.in-Some.ensures c.if-group-place.false refl
    (c.truncate.ensures.items ∙ ap (λ (n : ℕ). take (n - 1) s.groups.items) long)

pub returns : goal.returns
returns c = joining_stops_none c.args.place c.args.self.now c.loop-group.self c.loop-group.invariant c.in_default.ensures
