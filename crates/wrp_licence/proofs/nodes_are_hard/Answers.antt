use Rattle.wrp_licence.proofs.Ending.{hard_ended, hard_by_answer, hard_kept}
use Rattle.wrp_licence.proofs.nodes_are_hard.Goals as goal

pub returns-clause-ended : goal.returns-clause-ended
returns-clause-ended c = λ town s node hard. hard_ended town s node hard

pub returns-clause-answer : goal.returns-clause-answer
returns-clause-answer c = λ s node pool bounds lp has are relaxed none. hard_by_answer s node pool bounds has are lp relaxed none

pub returns-clause-kept : goal.returns-clause-kept
returns-clause-kept c = λ town s t node rows lo hi hard. hard_kept town s t node rows lo hi hard
