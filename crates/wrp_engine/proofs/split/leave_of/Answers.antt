use Rattle.std.proofs.Common.{subst}
use Rattle.std.specs.Prelude.{Option, IfSome}
use Rattle.wrp_town.specs.declared.town.Town.{Town}
use Rattle.wrp_rows.specs.declared.point.Point.{Point}
use Rattle.wrp_engine.specs.Splits.{IsSplitPoint}
use Rattle.wrp_engine.proofs.split.leave_of.Goals as goal

pub point_record-requires-clause-point : goal.point_record-requires-clause-point
point_record-requires-clause-point c =
    let branch = c.args.branch in
    let known = subst (λ (o : Option Point). IfSome o (λ p. (town : Town) × IsSplitPoint town branch p)) c.in-Some.is c.requires.point in
    (known.0, known.1.is)
