-- What a text that is written says of the run.
use Rattle.std.proofs.Common.{◌≡◌, ◌∙◌, ℕ, List, None, Result, Ok, Err, IfOk, Vec, Global, refl, ap, subst}
use Rattle.wrp_out.specs.Outside.{Output}
use Rattle.wrp_town.specs.declared.town.Town.{Town}
use Rattle.wrp_rules.specs.declared.record.End.{End}
use Rattle.wrp_rules.specs.declared.record.End.TheVariants.{Optimal, Infeasible, Unfinished}
use Rattle.wrp_street.specs.Tables.{Table, table_in}
use Rattle.wrp_street.specs.Canonical.{canonical_of}
use Rattle.wrp_postman.specs.declared.status.Status.{Status}
use Rattle.wrp_postman.specs.declared.status.Status.TheVariants.{Memory, WriteFault}
use Rattle.wrp_postman.specs.declared.demo.SummaryText.{SummaryText}
use Rattle.wrp_postman.specs.Statuses.{status_line}
use Rattle.wrp_postman.specs.Outsides.{Writes, WritesSome}
use Rattle.wrp_postman.specs.Searches.{status_of, IsSummary, Demonstrates}
use Rattle.wrp_postman.specs.Runs.{IsInfo, IsCanonical, WritesTable, IsDrawnSummary, AnswersDemo, WritesLine}
use Rattle.wrp_postman.proofs.ToldStatuses.{line_missing}

pub canonical_found : {E : Type 0} (table : Table) (town : Town) (made : Result (Vec ℕ Global) E) → table_in town ≡ table → IfOk made (λ text. text.items ≡ canonical_of town) → IfOk made (λ text. IsCanonical table text.items)
canonical_found table town (Ok text) same is = (town, same, is)
canonical_found table town (Err fault) same is = tt

pub writes_table : (table : Table) (text lent : List ℕ) (status : Status) (old new : Output) → lent ≡ text → IsCanonical table text → Writes lent status old new → WritesTable table status old new
writes_table table text lent Memory old new same is written = tt
writes_table table text lent status old new same is written = (text, is, subst (λ (t : List ℕ). Writes t status old new) same written)

pub writes_info : (town : Town) (text lent : List ℕ) (status : Status) (old new : Output) → lent ≡ text → IsInfo town text → Writes lent status old new → WritesSome (IsInfo town) status old new
writes_info town text lent status old new same is written = (text, is, subst (λ (t : List ℕ). Writes t status old new) same written)

-- ---- the summary of a town that is drawn

pub summary_found : {E : Type 0} (table : Table) (budget : ℕ) (town : Town) (made : Result SummaryText E) → table_in town ≡ table → IfOk made (IsSummary town budget) → IfOk made (IsDrawnSummary table budget)
summary_found table budget town (Ok summary) same is = (town, same, is)
summary_found table budget town (Err fault) same is = tt

module _ (table : Table) (budget : ℕ) (summary : SummaryText) (old new : Output) where
  pub answers_demo : (status : Status) → IsDrawnSummary table budget summary → ((town : Town) (budget : ℕ) → IsSummary town budget summary → Demonstrates town budget status old new) → AnswersDemo table budget status old new
  answers_demo Memory drawn puts = tt
  answers_demo status (town, same, is) puts = (town, same, puts town budget is)

  no_line : (end : End) (done : ℕ) → status_line (status_of end done) ≡ None
  no_line (Optimal cost) done = refl
  no_line Infeasible done = refl
  no_line (Unfinished low high) done = refl

  demonstrated_line : (town : Town) (status : Status) → Demonstrates town budget status old new → WritesLine status old new
  demonstrated_line town WriteFault shows = tt
  demonstrated_line town status shows = line_missing old new status (ap status_line shows.summarized.0.is ∙ no_line shows.end _)

  pub demo_line : (status : Status) → IsDrawnSummary table budget summary → ((town : Town) (budget : ℕ) → IsSummary town budget summary → Demonstrates town budget status old new) → WritesLine status old new
  demo_line status (town, same, is) puts = demonstrated_line town status (puts town budget is)
