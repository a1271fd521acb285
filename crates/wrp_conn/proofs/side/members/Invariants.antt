use Rattle.std.proofs.Common.{◌≡◌, cond, not, filter}
use Rattle.std.specs.List.{range_with_len}
use Rattle.wrp_rows.specs.Marks.{is_marked}
use Rattle.wrp_conn.proofs.side.members.Given as goal

-- the members so far
abbrev pub invariant-loop-j : goal.invariant-loop-j
invariant-loop-j l = l.set ≡ filter (λ k. cond l.inside (is_marked l.side k) (not (is_marked l.side k))) (range_with_len 0 l.j)
