use Rattle.wrp_round.proofs.tests.count.Goals as goal

pub round_candidates-requires : goal.round_candidates-requires
round_candidates-requires c = record {
  optimal = c.is_optimal.ensures c.if-is_optimal.true;
  bounds = c.args.bounds.now;
  limit = 0;
  are_bounds = c.requires;
  end = c.in_ok-lp.ensures.end;
  shows = c.in_ok-lp.ensures.shows;
}
