-- What a status that was told says of the run.
use Rattle.std.proofs.Common.{◌≡◌, ◌⊎◌, inl, inr, ℕ, List, Option, None, Some, IfSome, refl, sym, subst}
use Rattle.wrp_out.specs.Outside.{Input, Output, Gained}
use Rattle.wrp_postman.specs.declared.status.Status.{Status}
use Rattle.wrp_postman.specs.declared.status.Status.TheVariants.{Accepted, Usage, WriteFault, Memory}
use Rattle.wrp_postman.specs.Words.{Command, Solve, Check}
use Rattle.wrp_postman.specs.Statuses.{accepted_line, status_line}
use Rattle.wrp_postman.specs.Outsides.{Sources, Outputs, Outside, sources, outputs, outside, IsCut}
use Rattle.wrp_postman.specs.Searches.{Solves}
use Rattle.wrp_postman.specs.Runs.{FindsCheck, Answers, AnswersCheck, AnswersUsage, EndsBehindTable, WritesLine, after_cut, CutsAcceptance, Told}

-- the line of a status was written whole, or cut, or it has none
module _ (old new : Output) where
  whole_or_cut : (told : Option (List ℕ)) (line : List ℕ) → told ≡ Some line → (Gained old new line ⊎ IsCut old new line) → IfSome told (λ l. Gained old new l ⊎ IsCut old new l)
  whole_or_cut told line is written = rw is written

  none_missing : (told : Option (List ℕ)) → told ≡ None → IfSome told (λ l. Gained old new l ⊎ IsCut old new l)
  none_missing told is = rw is tt

  pub line_written : (status : Status) (line : List ℕ) → status_line status ≡ Some line → Gained old new line → WritesLine status old new
  line_written (Accepted end) line is gained = let same : line ≡ accepted_line end = cc in subst (Gained old new) same gained
  line_written status line is gained = whole_or_cut (status_line status) line is (inl gained)

  pub line_cut : (status : Status) (line : List ℕ) → status_line status ≡ Some line → IsCut old new line → Told status (after_cut status) old new
  line_cut (Accepted end) line is cut = let same : line ≡ accepted_line end = cc in inr (refl, subst (IsCut old new) same cut)
  line_cut status line is cut = inl (refl, whole_or_cut (status_line status) line is (inr cut))

  pub line_missing : (status : Status) → status_line status ≡ None → WritesLine status old new
  line_missing (Accepted end) is = cc
  line_missing status is = none_missing (status_line status) is

  line_of_told : (status answer : Status) → Told status answer old new → WritesLine answer old new
  line_of_told status answer (inl (same, written)) = subst (λ (s : Status). WritesLine s old new) (sym same) written
  line_of_told status answer (inr (same, cut)) = subst (λ (s : Status). WritesLine s old new) (sym same) tt

  pub line_told : (status answer : Status) → (Told status answer old new ⊎ Told Memory answer old new) → WritesLine answer old new
  line_told status answer (inl told) = line_of_told status answer told
  line_told status answer (inr told) = line_of_told Memory answer told

  usage_of_told : (status answer : Status) → AnswersUsage status → Told status answer old new → AnswersUsage answer
  usage_of_told status answer right (inl (same, written)) = subst AnswersUsage (sym same) right
  usage_of_told Usage answer right (inr (same, cut)) = absurd cut
  usage_of_told Memory answer right (inr (same, cut)) = absurd cut
  usage_of_told status answer right (inr (same, cut)) = absurd right

  pub usage_told : (answer : Status) → (Told Usage answer old new ⊎ Told Memory answer old new) → AnswersUsage answer
  usage_told answer (inl told) = usage_of_told Usage answer tt told
  usage_told answer (inr told) = usage_of_told Memory answer tt told

-- what a check found, once it was told, is its answer
module _ (old new : Outside) where
  found_answers : (status : Status) → FindsCheck status old.sources new.sources → AnswersCheck status old new
  found_answers WriteFault (inl ends) = absurd ends
  found_answers WriteFault (inr (town, table, judged)) = absurd judged
  found_answers status found = found

  cut_answers : (status : Status) → FindsCheck status old.sources new.sources → CutsAcceptance status old.outputs.out new.outputs.out → AnswersCheck WriteFault old new
  cut_answers (Accepted end) found cut = (end, found, cut)
  cut_answers status found cut = absurd cut

  answer_of_told : (status answer : Status) → FindsCheck status old.sources new.sources → Told status answer old.outputs.out new.outputs.out → AnswersCheck answer old new
  answer_of_told status answer found (inl (same, written)) = subst (λ (s : Status). AnswersCheck s old new) (sym same) (found_answers status found)
  answer_of_told status answer found (inr (same, cut)) = subst (λ (s : Status). AnswersCheck s old new) (sym same) (cut_answers status found cut)

  check_told : (status answer : Status) → FindsCheck status old.sources new.sources → (Told status answer old.outputs.out new.outputs.out ⊎ Told Memory answer old.outputs.out new.outputs.out) → AnswersCheck answer old new
  check_told status answer found (inl told) = answer_of_told status answer found told
  check_told status answer found (inr told) = answer_of_told Memory answer (inl tt) told

-- what is answered to a command is answered to the words
answered : (command : Command) (found : Option Command) (status : Status) (old new : Outside) → Some command ≡ found → Answers (Some command) status old new → Answers found status old new
answered command found status old new same answers = subst (λ (f : Option Command). Answers f status old new) same answers

pub solve_answered : (found : Option Command) (streets proof : List ℕ) (log : Option (List ℕ)) (budget : ℕ) (status : Status) (s t p q : Input) (a b : Outputs) → Some (Solve streets proof log budget) ≡ found → EndsBehindTable (λ town. Solves town budget status a b) status s t → Answers found status (outside (sources s p) a) (outside (sources t q) b)
solve_answered found streets proof log budget status s t p q a b same ends =
    answered (Solve streets proof log budget) found status (outside (sources s p) a) (outside (sources t q) b) same ends

pub check_answered : (found : Option Command) (streets proof : List ℕ) (status answer : Status) (s t : Sources) (p q a b : Output) → Some (Check streets proof) ≡ found → FindsCheck status s t → (Told status answer a b ⊎ Told Memory answer a b) → Answers found answer (outside s (outputs p a)) (outside t (outputs q b))
check_answered found streets proof status answer s t p q a b same finds told =
    answered (Check streets proof) found answer (outside s (outputs p a)) (outside t (outputs q b)) same
    (check_told (outside s (outputs p a)) (outside t (outputs q b)) status answer finds told)
