use Rattle.wrp_minodd.proofs.Steps.{last_none, none_last, last_broken}
use Rattle.wrp_minodd.proofs.search.min_odd.Goals as goal

pub returns-clause-none : goal.returns-clause-none
returns-clause-none c = (
  (λ none. c.in_ok-found.ensures.none.0 (last_none c.in_ok-found.found.items c.in_ok-found.found.len c.pop-first.new.self.len c.in_ok-found.found.ok.0 c.pop-first.result c.pop-first.ensures.cases none)),
  (λ met. none_last c.in_ok-found.found.items c.pop-first.new.self.items c.pop-first.result (c.in_ok-found.ensures.none.1 met) c.pop-first.ensures.items),
)

pub returns-clause-some : goal.returns-clause-some
returns-clause-some c = last_broken c.args.rows.now.town c.args.point.now c.in_ok-found.found.items c.pop-first.new.self.items c.pop-first.result c.in_ok-found.ensures.broken.broken c.pop-first.ensures.items
