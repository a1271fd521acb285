-- The reader after `is_ready` has what was left before the call; its pending bytes give the next piece.
use Rattle.std.proofs.Common.{length, ap, arith, length-append, [], ◌∷◌}
use Rattle.std.proofs.lemmas.Result.{err_from_is_err_and}
use Rattle.wrp_out.proofs.OutsideFacts.{took_no_more}
use Rattle.wrp_check.specs.Streams.{ahead, line_len}
use Rattle.wrp_check.specs.declared.lines.LinesFault.TheVariants.{TooLong}
use Rattle.wrp_check.proofs.Readings.{one_line_more, has_no_feed, length_more, not_true, line_len-le-length, passes_limit, same_fault, took_fed, took_whole}
use Rattle.wrp_check.proofs.Drawing.{draws_then, draws_kept}
use Rattle.wrp_check.proofs.lines.Lines.next.Goals as goal

pub returns-in_err-take_piece-clause-too_long : goal.returns-in_err-take_piece-clause-too_long
returns-in_err-take_piece-clause-too_long g c =
    let fault = err_from_is_err_and c.from_residual-in_err-take_piece.result c.from_residual-in_err-take_piece.ensures.1 in
    let ready = c.in_ok-is_ready.ensures.ready in
    let kept = c.loop-self.invariant in
    rw (fault.1, fault.2) (λ is. passes_limit (ahead c.args.self.now (g.P.Source.input c.args.source.now)) (g.P.Source.input c.is_ready.new.source) c.is_ready.new.self c.args.limit c.args.self.now.taken
    (rw ready.line (took_no_more kept.took ready.nothing)) (rw ready.line kept.one_line) (rw (ready.line, ready.taken) kept.taken) (c.in_err-take_piece.ensures.too_long (same_fault c.in_err-take_piece.field-0.0 TooLong is)))

pub returns-then-branch-2-clause-line : goal.returns-then-branch-2-clause-line
returns-then-branch-2-clause-line g c =
    let ready = c.in_ok-is_ready.ensures.ready in
    let piece = c.in_ok-take_piece.ensures.piece in
    let kept = c.loop-self.invariant in
    let longer = length_more c.is_ready.new.self.line c.is_ready.new.self.pending c.take_piece.new.self.line piece.line in
    let fed = piece.has_feed.0 c.if-branch-2.true in
    record {
      took = took_fed _ (g.P.Source.input c.is_ready.new.source) c.is_ready.new.self c.take_piece.new.self (rw ready.line (took_no_more kept.took ready.nothing)) piece.line piece.pending fed;
      one_line = rw piece.line (one_line_more c.is_ready.new.self.line c.is_ready.new.self.pending (rw ready.line kept.one_line));
      within = piece.within;
      taken = omega (arith, longer, fed, ap length ready.line, ready.taken, piece.taken, kept.taken, length-append c.take_piece.new.self.line (10 ∷ []));
      most = piece.most;
      end = tt;
    }

pub loop-self-preserved : goal.loop-self-preserved
loop-self-preserved g c =
    let ready = c.in_ok-is_ready.ensures.ready in
    let piece = c.in_ok-take_piece.ensures.piece in
    let kept = c.loop-self.invariant in
    let longer = length_more c.is_ready.new.self.line c.is_ready.new.self.pending c.take_piece.new.self.line piece.line in
    let unfed = has_no_feed c.in_ok-take_piece.field-0 (line_len c.is_ready.new.self.pending) (length c.is_ready.new.self.pending) piece.has_feed.1 c.if-branch-2.false in
    record {
      took = took_whole _ (g.P.Source.input c.is_ready.new.source) c.is_ready.new.self c.take_piece.new.self (rw ready.line (took_no_more kept.took ready.nothing)) piece.line piece.pending unfed;
      one_line = rw piece.line (one_line_more c.is_ready.new.self.line c.is_ready.new.self.pending (rw ready.line kept.one_line));
      within = piece.within;
      draws = draws_kept _ (draws_then kept.draws c.is_ready.ensures.draws) c.take_piece.ensures.drawn;
      taken = omega (arith, longer, unfed, line_len-le-length c.is_ready.new.self.pending, ap length ready.line, ready.taken, piece.taken, kept.taken);
    }

pub returns-clause-line : goal.returns-clause-line
returns-clause-line g c =
    let ready = c.in_ok-is_ready.ensures.ready in
    let kept = c.loop-self.invariant in
    record {
      took = rw ready.line (took_no_more kept.took ready.nothing);
      one_line = rw ready.line kept.one_line;
      within = rw ready.line kept.within;
      taken = omega (arith, ap length ready.line, ready.taken, kept.taken);
      most = omega (arith, ready.taken, c.is_ready.ensures.most);
      end = ready.end (not_true c.in_ok-is_ready.field-0 c.if-branch.false);
    }

pub returns-in_err-is_ready-clause-draws : goal.returns-in_err-is_ready-clause-draws
returns-in_err-is_ready-clause-draws g c = draws_then c.loop-self.invariant.draws c.is_ready.ensures.draws

pub returns-in_err-take_piece-clause-draws : goal.returns-in_err-take_piece-clause-draws
returns-in_err-take_piece-clause-draws g c =
    draws_kept _ (draws_then c.loop-self.invariant.draws c.is_ready.ensures.draws) c.take_piece.ensures.drawn

pub returns-then-branch-2-clause-draws : goal.returns-then-branch-2-clause-draws
returns-then-branch-2-clause-draws g c =
    draws_kept _ (draws_then c.loop-self.invariant.draws c.is_ready.ensures.draws) c.take_piece.ensures.drawn

pub returns-clause-draws : goal.returns-clause-draws
returns-clause-draws g c = draws_then c.loop-self.invariant.draws c.is_ready.ensures.draws
