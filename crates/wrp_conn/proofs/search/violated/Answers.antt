use Rattle.std.proofs.Common.{sym, ◌∙◌}
use Rattle.wrp_conn.proofs.Cuts.{first_broken}
use Rattle.wrp_conn.proofs.search.violated.Goals as goal

pub returns-clause-some : goal.returns-clause-some
returns-clause-some c = first_broken c.args.rows.now.town c.args.point.now c.in_ok-found.found.items c.next-first.new.self.rest.items c.next-first.result (sym c.into_iter.ensures.rest ∙ c.next-first.ensures.items) c.in_ok-found.ensures.broken.broken
