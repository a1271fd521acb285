use Rattle.std.proofs.Common.{◌∙◌, Some, ap, sym, arith}
use Rattle.wrp_out.proofs.OutsideFacts.{took_nothing, took_at_most}
use Rattle.wrp_postman.specs.declared.command.Names.{Names}
use Rattle.wrp_postman.specs.Words.{command_in}
use Rattle.wrp_postman.proofs.ToldStatuses.{solve_answered, check_answered}
use Rattle.wrp_postman.proofs.run.postman.Goals as goal

pub returns-in-Some-Solve-clause-answer : goal.returns-in-Some-Solve-clause-answer
returns-in-Some-Solve-clause-answer g c =
    solve_answered _ _ _ _ c.in-Some-Solve.budget c.run_solve.result _ _ _ _ _ _
    (ap (λ (n : Names). Some (command_in n)) (sym c.in-Some-Solve.field-0-is) ∙ c.in-Some-Solve.ensures.command)
    c.run_solve.ensures.answer

pub returns-in-Some-Solve-clause-taken : goal.returns-in-Some-Solve-clause-taken
returns-in-Some-Solve-clause-taken g c = record { streets = c.run_solve.ensures.taken; proof_in = took_at_most _ (took_nothing _) (omega arith) }

pub returns-in-Some-Check-clause-answer : goal.returns-in-Some-Check-clause-answer
returns-in-Some-Check-clause-answer g c =
    check_answered _ _ _ c.check_files-status.result c.tell.result _ _ _ _ _ _
    (ap (λ (n : Names). Some (command_in n)) (sym c.in-Some-Check.field-0-is) ∙ c.in-Some-Check.ensures.command)
    c.check_files-status.ensures.found c.tell.ensures
