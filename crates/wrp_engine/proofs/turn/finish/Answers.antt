use Rattle.std.proofs.Common.{◌≡◌, Err, Option, Some, Bor, rules, subst, ◌∙◌, arith}
use Rattle.std.specs.Prelude.{IfSome}
use Rattle.std.specs.Option.{option_map}
use Rattle.wrp_town.specs.declared.town.Town.{Town}
use Rattle.wrp_rows.specs.declared.point.Point.{Point}
use Rattle.wrp_box.specs.declared.branch.Branch.{Branch}
use Rattle.wrp_box.specs.Branching.{IsBranch, PartsPoint}
use Rattle.wrp_engine.specs.declared.fault.SearchFault.TheVariants.{Memory}
use Rattle.wrp_engine.specs.Searches.{search_of, IsOpenAt}
use Rattle.wrp_engine.specs.Turns.{IsRoundedLeft}
use Rattle.wrp_engine.specs.Splits.{IsRoundedLeave}
use Rattle.wrp_engine.proofs.Adding.{where_also, where_weaker}
use Rattle.wrp_engine.proofs.Advancing.{same}
use Rattle.wrp_engine.proofs.Ending.{no_labels}
use Rattle.wrp_engine.proofs.Finishing.{may_split, rounded_leave, seen_through, split_point}
use Rattle.wrp_engine.proofs.turn.finish.Goals as goal

-- what the branch parts, at the town of the keep
parts_at : (town shown : Town) (branch : Branch) (found : Option Branch) (lent : Option (Bor Point)) (o : Option Point) → shown ≡ town → found ≡ Some branch → option_map (λ p. p.now) lent ≡ o → IfSome lent (λ p. PartsPoint shown found p.now) → IfSome o (PartsPoint town (Some branch))
parts_at town shown branch found lent o same is seen told =
    subst (λ (t : Town). IfSome o (PartsPoint t (Some branch))) same
    (subst (λ (b : Option Branch). IfSome o (PartsPoint shown b)) is (seen_through (λ (p : Bor Point). p.now) (PartsPoint shown found) lent o seen told))

pub leave_of-requires-clause-point : goal.leave_of-requires-clause-point
leave_of-requires-clause-point g c =
    let keep = c.args.keep.now in
    let opened : IsOpenAt keep c.args.node = search rules in
    let branch = subst (λ (t : Town). IsBranch t c.args.desk.now.bounds c.in-Some.branch) (c.town.ensures ∙ c.requires.desk.is.graph) c.in-Some.ensures.some in
    split_point keep c.args.node c.in-Some.branch c.args.left (c.requires.left opened) branch.legal

pub returns-in_err-leave-in-Some-clause-leaves : goal.returns-in_err-leave-in-Some-clause-leaves
returns-in_err-leave-in-Some-clause-leaves g c =
    let is : c.from_residual.result ≡ Err Memory = search rules in
    rw is (same (search_of c.args.keep.now (g.D.Disk.meaning c.args.disk.now)) c.requires.going.valid, record {})

pub split-requires-clause-leave : goal.split-requires-clause-leave
split-requires-clause-leave g c =
    let keep = c.args.keep.now in
    let left = c.args.left in
    let branch = c.in-Some.branch in
    let town = c.town.ensures ∙ c.requires.desk.is.graph in
    let opened : IsOpenAt keep c.args.node = search rules in
    let parted = subst (λ (t : Town). IsBranch t c.args.desk.now.bounds branch) town c.in-Some.ensures.some in
    let parts = parts_at keep.town c.town.result.now branch c.branch_of.result c.as_ref.result left.point town c.in-Some.is c.as_ref.ensures.value c.branch_of.ensures.parts in
    may_split keep c.args.node branch opened c.requires.going.valid (no_labels keep.town keep.records c.requires.tour c.requires.going.valid) parted.legal left (c.requires.left opened) parts
    c.in_ok-leave-in-Some.leave c.in_ok-leave-in-Some.ensures

pub returns-in-Some-clause-adds : goal.returns-in-Some-clause-adds
returns-in-Some-clause-adds g c =
    let keep = c.args.keep.now in
    let left = c.args.left in
    let branch = c.in-Some.branch in
    let town = c.town.ensures ∙ c.requires.desk.is.graph in
    let opened : IsOpenAt keep c.args.node = search rules in
    let parted = subst (λ (t : Town). IsBranch t c.args.desk.now.bounds branch) town c.in-Some.ensures.some in
    let parts = parts_at keep.town c.town.result.now branch c.branch_of.result c.as_ref.result left.point town c.in-Some.is c.as_ref.ensures.value c.branch_of.ensures.parts in
    let so = IsRoundedLeave keep c.args.node c.in_ok-leave-in-Some.leave in
    let also = IsRoundedLeft keep c.args.node left in
    where_weaker also 2 2 0 1 keep c.split.new.keep (omega arith) (omega arith)
    (where_also so also 2 0 keep c.split.new.keep
    (rounded_leave keep c.args.node branch opened c.requires.going.valid (no_labels keep.town keep.records c.requires.tour c.requires.going.valid) parted.legal left (c.requires.left opened) parts
    c.in_ok-leave-in-Some.leave c.in_ok-leave-in-Some.ensures)
    c.split.ensures.adds)
