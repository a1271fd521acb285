use Rattle.wrp_simplex.proofs.Runs.{one_next, one_run, longest_run, only_run, one_end, follows_run}
use Rattle.wrp_simplex.proofs.laws.run_laws.Goals as goal

pub returns-clause-step : goal.returns-clause-step
returns-clause-step c s n a b sound one other = one_next s sound n a b one other

pub returns-clause-begins : goal.returns-clause-begins
returns-clause-begins c s a b sound one other shorter = one_run s a b sound one other shorter

pub returns-clause-longest : goal.returns-clause-longest
returns-clause-longest c s limit a b end sound whole run within = longest_run s limit sound a b end whole run within

pub returns-clause-only : goal.returns-clause-only
returns-clause-only c s limit a b one other sound first second = only_run s limit sound a b one other first second

pub returns-clause-end : goal.returns-clause-end
returns-clause-end c s limit steps one other sound so too = one_end s limit steps sound one other so too

pub returns-clause-follows : goal.returns-clause-follows
returns-clause-follows c s steps sound run = follows_run s steps sound run
