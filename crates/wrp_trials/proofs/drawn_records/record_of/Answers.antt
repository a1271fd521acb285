use Rattle.wrp_trials.proofs.drawn_records.record_of.Goals as goal

pub point_record-requires-clause-point : goal.point_record-requires-clause-point
point_record-requires-clause-point c = (c.args.town.now, (c.is_point.ensures c.if-not-is_point.false).0)
