use Rattle.std.proofs.lemmas.List.{append-nil}
use Rattle.wrp_postman.proofs.text.accepted_text.Goals as goal

pub returns-in-Optimal : goal.returns-in-Optimal
returns-in-Optimal c = rw c.in-Optimal.is (simp append-nil c.optimal_text.ensures)

pub returns-in-Unfinished : goal.returns-in-Unfinished
returns-in-Unfinished c = rw c.in-Unfinished.is (simp append-nil c.unfinished_text.ensures)
