-- The fields after the pivot are kept, and so not wide.
use Rattle.std.proofs.Common.{◌≡◌, ◌<◌, List, length, subst, sym, ap, ◌∙◌, slice_set}
use Rattle.wrp_tableau.specs.declared.row.Row.{Row}
use Rattle.wrp_tableau.specs.Changes.{changed_rows}
use Rattle.wrp_tableau.specs.Systems.{pivoted, IsWide}
use Rattle.wrp_tableau.specs.Solutions.{HaveSameSolutions, HasCosts}
use Rattle.wrp_tableau.specs.Kept.{SparseSystem, system, IsKept, IsPivot, pivoted_by}
use Rattle.wrp_tableau.proofs.Assembly.{length-changed_rows, inside, kept_after, kept_narrow}
use Rattle.wrp_tableau.proofs.Costs.{same_solutions, costs_kept}
use Rattle.wrp_tableau.proofs.tableau.Tableau.pivot.Goals as goal

module _ (c : goal.After-self-1) where
  -- the changes are those of the pivot
  is : IsPivot c.args.self.now c.args.r c.args.c c.in-Ok-Some.changes.items c.in-Ok-Some.cost
  is = let e = rw c.in-Ok-Some.field-0-is at c.in-Ok-Some.ensures in e.ok

  old_kept : IsKept c.args.self.now
  old_kept = subst IsKept c.self.view_is c.self.invariant

  kept : IsKept (pivoted_by c.args.self.now c.args.r c.args.c c.in-Ok-Some.changes.items c.in-Ok-Some.cost)
  kept = kept_after c.args.self.now old_kept c.args.r c.args.c c.requires.there c.requires.entry c.in-Ok-Some.changes.items c.in-Ok-Some.cost is

  -- the fields after the pivot
  abbrev new : SparseSystem
  new = record {
    width = c.self.inside.width;
    rows = c.apply_all.new.rows.items;
    basics = slice_set c.self.inside.basics.items c.args.r c.args.c;
    cost = c.apply.new.row;
  }

  new_is : new ≡ pivoted_by c.args.self.now c.args.r c.args.c c.in-Ok-Some.changes.items c.in-Ok-Some.cost
  new_is =
      ap (λ (rows : List Row). record { width = c.self.inside.width; rows = rows; basics = slice_set c.self.inside.basics.items c.args.r c.args.c; cost = c.apply.new.row }) c.apply_all.ensures
      ∙ ap (λ (cost : Row). record { width = c.self.inside.width; rows = changed_rows c.self.inside.rows.items c.in-Ok-Some.changes.items; basics = slice_set c.self.inside.basics.items c.args.r c.args.c; cost = cost }) c.apply.ensures
      ∙ ap (λ (s : SparseSystem). pivoted_by s c.args.r c.args.c c.in-Ok-Some.changes.items c.in-Ok-Some.cost) c.self.view_is

  system_is : system new ≡ pivoted (system c.args.self.now) c.args.r c.args.c
  system_is = ap system new_is ∙ is.pivoted

  here : c.args.r < length (system c.args.self.now).rows
  here = inside c.args.self.now old_kept c.args.r c.requires.there

pub invariant_of-self : goal.invariant_of-self
invariant_of-self c = subst IsKept (sym (new_is c)) (kept c)

pub returns-in-Ok-Some-clause-narrow : goal.returns-in-Ok-Some-clause-narrow
returns-in-Ok-Some-clause-narrow c wide =
    kept_narrow (pivoted_by c.args.self.now c.args.r c.args.c c.in-Ok-Some.changes.items c.in-Ok-Some.cost) (kept c) (subst IsWide (sym (is c).pivoted) wide)

pub returns-in-Ok-Some-clause-solutions : goal.returns-in-Ok-Some-clause-solutions
returns-in-Ok-Some-clause-solutions c =
    subst (HaveSameSolutions (system c.args.self.now)) (sym (system_is c))
    (same_solutions (system c.args.self.now) c.args.r c.args.c (old_kept c).sound (here c) c.requires.entry)

pub returns-in-Ok-Some-clause-costs : goal.returns-in-Ok-Some-clause-costs
returns-in-Ok-Some-clause-costs c costs has =
    subst (HasCosts costs) (sym (system_is c))
    (costs_kept (system c.args.self.now) c.args.r c.args.c (old_kept c).sound (here c) c.requires.entry costs has)

pub returns-in-Ok-Some-clause-rows : goal.returns-in-Ok-Some-clause-rows
returns-in-Ok-Some-clause-rows c =
    ap (λ (rows : List Row). length rows) c.apply_all.ensures
    ∙ length-changed_rows c.self.inside.rows.items c.in-Ok-Some.changes.items
    ∙ ap (λ (s : SparseSystem). length s.rows) c.self.view_is
