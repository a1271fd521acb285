use Rattle.std.proofs.Common.{◌≡◌, ◌∙◌, ◌-◌, List, ℕ, length, take, drop, refl, ap, arith, length-drop}
use Rattle.std.proofs.lemmas.List.{take_all}
use Rattle.wrp_rules.specs.declared.record.Record.{Record}
use Rattle.wrp_keep.specs.Keeps.{keep_of, staged, joined}
use Rattle.wrp_keep.proofs.Holding.{held_more}
use Rattle.wrp_keep.proofs.Going.{lines_some, taken_all}
use Rattle.wrp_keep.proofs.keep.Keep.flush.Goals as goal

pub slice_bounds-append_to-count : goal.slice_bounds-append_to-count
slice_bounds-append_to-count g c =
    let some = rw (← c.self.view_is) at c.staged.ensures in
    let long = lines_some _ _ c.self.invariant (omega (arith, some, c.if-staged-eq0.false)) in
    omega (arith, long, ap length c.deref.ensures.value)

pub slice_bounds-append_to-start : goal.slice_bounds-append_to-start
slice_bounds-append_to-start g c =
    let some = rw (← c.self.view_is) at c.staged.ensures in
    let long = lines_some _ _ c.self.invariant (omega (arith, some, c.if-staged-eq0.false)) in
    omega (arith, long, ap length c.deref.ensures.value)

pub returns-clause-held : goal.returns-clause-held
returns-clause-held g c = λ going.
    let keep = keep_of c.self.inside.tree c.self.inside.acknowledged c.self.inside.log in
    let some = rw (← c.self.view_is) at c.staged.ensures in
    let held = rw (← c.self.view_is) at c.requires.held in
    let taken = ap (λ (rs : List Record). take (length rs) c.self.inside.tree.records) c.records.ensures.value ∙ taken_all c.self.inside.tree.records c.self.inside.acknowledged in
    let lines = c.deref.result.now in
    let payload : take (length lines - 1) (drop 1 lines) ≡ joined (staged keep) =
    take_all (length lines - 1) (drop 1 lines) (omega (arith, length-drop 1 lines)) ∙ ap (λ (l : List ℕ). drop 1 l) (c.deref.ensures.value ∙ c.self.invariant.lines_are) in
    held_more keep _ (staged keep) _ (g.D.Disk.meaning c.args.disk.now) _ refl taken payload
    (omega (arith, some, c.if-staged-eq0.false)) held c.in_ok-append_to.ensures.appends
