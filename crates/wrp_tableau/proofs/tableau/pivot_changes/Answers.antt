-- The changes are those of the fields, which contracts see as one value.
use Rattle.std.proofs.Common.{◌≡◌, ◌≢◌, ℕ, ◌<◌, pos, List, length, get_or, ap, sym, subst, ◌∙◌}
use Rattle.wrp_tableau.specs.declared.row.Row.{Row}
use Rattle.wrp_tableau.specs.Systems.{row, pivoted, IsWide}
use Rattle.wrp_tableau.specs.Rows.{row_without, HasEntry}
use Rattle.wrp_tableau.specs.Changes.{row_at, CanPivot, AreChanges, IsSomeWide, TakesOut, IsWideWithout}
use Rattle.wrp_tableau.specs.Kept.{SparseSystem, system, IsPivot}
use Rattle.wrp_tableau.proofs.Changing.{read_at}
use Rattle.wrp_tableau.proofs.Assembly.{can_pivot, cost_entry, wide_row, wide_cost, assembled}
use Rattle.wrp_tableau.proofs.tableau.pivot_changes.Goals as goal

there_of : (s t : SparseSystem) (r : ℕ) → s ≡ t → r < length t.rows → r < length s.rows
there_of s t r e h = subst (λ u. r < length u.rows) (sym e) h

some_of : (s t : SparseSystem) (r c : ℕ) → s ≡ t → (row (system t) r).entry c ≢ pos 0 → (row (system s) r).entry c ≢ pos 0
some_of s t r c e h = subst (λ u. (row (system u) r).entry c ≢ pos 0) (sym e) h

pub changes_of-requires : goal.changes_of-requires
changes_of-requires c =
    let s : SparseSystem = record { width = c.tableau.inside.width; rows = c.tableau.inside.rows.items; basics = c.tableau.inside.basics.items; cost = c.tableau.inside.cost } in
    let there = there_of s c.args.tableau.now c.args.r c.tableau.view_is c.requires.there in
    let some = some_of s c.args.tableau.now c.args.r c.args.c c.tableau.view_is c.requires.entry in
    subst (CanPivot c.args.c c.args.r) (sym c.as_slice-rows.ensures.value) (can_pivot s c.tableau.invariant c.args.r c.args.c there some)

pub returns-in_default-clause-wide : goal.returns-in_default-clause-wide
returns-in_default-clause-wide c none =
    let s : SparseSystem = record { width = c.tableau.inside.width; rows = c.tableau.inside.rows.items; basics = c.tableau.inside.basics.items; cost = c.tableau.inside.cost } in
    let there = there_of s c.args.tableau.now c.args.r c.tableau.view_is c.requires.there in
    let some = some_of s c.args.tableau.now c.args.r c.args.c c.tableau.view_is c.requires.entry in
    subst (λ u. IsWide (pivoted (system u) c.args.r c.args.c)) c.tableau.view_is
    (wide_row s c.tableau.invariant c.args.r c.args.c there some
    (subst (IsSomeWide c.args.c c.args.r) c.as_slice-rows.ensures.value (c.in_ok-changes.ensures.wide c.in_default.is)))

pub change_of-requires-clause-some : goal.change_of-requires-clause-some
change_of-requires-clause-some c =
    let s : SparseSystem = record { width = c.tableau.inside.width; rows = c.tableau.inside.rows.items; basics = c.tableau.inside.basics.items; cost = c.tableau.inside.cost } in
    let there = there_of s c.args.tableau.now c.args.r c.tableau.view_is c.requires.there in
    let some = some_of s c.args.tableau.now c.args.r c.args.c c.tableau.view_is c.requires.entry in
    let read : row_at s.rows c.args.r ≡ c.index-rows-r.result = read_at s.rows c.args.r c.index-rows-r.result (c.index-rows-r.is ∙ ap (λ (rs : List Row). get_or rs c.args.r c.index-rows-r.result) c.as_slice-rows.ensures.value) there in
    subst (λ y. HasEntry (row_without c.args.c y s.cost)) read (cost_entry s c.tableau.invariant c.args.r c.args.c there some)

pub returns-in_default-2-clause-wide : goal.returns-in_default-2-clause-wide
returns-in_default-2-clause-wide c none =
    let s : SparseSystem = record { width = c.tableau.inside.width; rows = c.tableau.inside.rows.items; basics = c.tableau.inside.basics.items; cost = c.tableau.inside.cost } in
    let there = there_of s c.args.tableau.now c.args.r c.tableau.view_is c.requires.there in
    let some = some_of s c.args.tableau.now c.args.r c.args.c c.tableau.view_is c.requires.entry in
    let read : row_at s.rows c.args.r ≡ c.index-rows-r.result = read_at s.rows c.args.r c.index-rows-r.result (c.index-rows-r.is ∙ ap (λ (rs : List Row). get_or rs c.args.r c.index-rows-r.result) c.as_slice-rows.ensures.value) there in
    subst (λ u. IsWide (pivoted (system u) c.args.r c.args.c)) c.tableau.view_is
    (wide_cost s c.tableau.invariant c.args.r c.args.c there some
    (subst (λ y. IsWideWithout c.args.c y s.cost) (sym read) (c.in_ok-cost.ensures.wide c.in_default-2.is)))

pub returns-clause-ok : goal.returns-clause-ok
returns-clause-ok c =
    let s : SparseSystem = record { width = c.tableau.inside.width; rows = c.tableau.inside.rows.items; basics = c.tableau.inside.basics.items; cost = c.tableau.inside.cost } in
    let there = there_of s c.args.tableau.now c.args.r c.tableau.view_is c.requires.there in
    let some = some_of s c.args.tableau.now c.args.r c.args.c c.tableau.view_is c.requires.entry in
    let read : row_at s.rows c.args.r ≡ c.index-rows-r.result = read_at s.rows c.args.r c.index-rows-r.result (c.index-rows-r.is ∙ ap (λ (rs : List Row). get_or rs c.args.r c.index-rows-r.result) c.as_slice-rows.ensures.value) there in
    let made = rw c.in-Some.is at c.in_ok-changes.ensures in
    let cost = rw c.in-Some-2.is at c.in_ok-cost.ensures in
    subst (λ u. IsPivot u c.args.r c.args.c c.in-Some.changes.items c.in-Some-2.cost) c.tableau.view_is
    (assembled s c.tableau.invariant c.args.r c.args.c there some c.in-Some.changes.items c.in-Some-2.cost
    (subst (λ (rs : List Row). AreChanges c.args.c c.args.r rs (length rs) c.in-Some.changes.items) c.as_slice-rows.ensures.value made.ok)
    (subst (λ y. TakesOut c.args.c y s.cost c.in-Some-2.cost) (sym read) cost.ok)
    cost.stored)
