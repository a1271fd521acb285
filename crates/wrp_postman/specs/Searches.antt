-- What a search for the cheapest tour finds, and what is written of it.
use Rattle.std.specs.Prelude.{◌≡◌, ℕ, ◌≤◌, ◌⊎◌, true, List, [], length, None}
use Rattle.std.specs.List.{AllByRecursion}
use Rattle.wrp_out.specs.Outside.{Output, Gained}
use Rattle.wrp_town.specs.declared.town.Town.{Town}
use Rattle.wrp_rules.specs.declared.record.Record.{Record}
use Rattle.wrp_rules.specs.declared.record.End.{End}
use Rattle.wrp_rules.specs.declared.record.End.TheVariants as ends
use Rattle.wrp_rules.specs.Nodes.{standing, done}
use Rattle.wrp_rules.specs.Lists.{is_valid, agrees}
use Rattle.wrp_rules.specs.Proofs.{proof_text, version_2, most_bytes, IsProof}
use Rattle.wrp_writer.specs.Limits.{is_writable}
use Rattle.wrp_laws.specs.Ends.{EndHolds}
use Rattle.wrp_keep.specs.Keeps.{KeepState}
use Rattle.wrp_engine.specs.declared.found.Found.{Found}
use Rattle.wrp_engine.specs.declared.found.Found.TheVariants as founds
use Rattle.wrp_engine.specs.Found.{end_of}
use Rattle.wrp_engine.specs.Forced.{IsForced, above_done}
use Rattle.wrp_report.specs.Texts.{text_of, report_lines, summary_lines}
use Rattle.wrp_report.specs.Lists.{last_tour, answer_of, WalksTo}
use Rattle.wrp_report.specs.declared.answer.Answer.{Answer}
use Rattle.wrp_postman.specs.declared.search.Solved.{Solved}
use Rattle.wrp_postman.specs.declared.solve.Texts.{Texts}
use Rattle.wrp_postman.specs.declared.demo.SummaryText.{SummaryText}
use Rattle.wrp_postman.specs.declared.status.Status.{Status}
use Rattle.wrp_postman.specs.declared.status.Status.TheVariants.{Optimal, Unfinished, Infeasible, WriteFault}
use Rattle.wrp_postman.specs.Outsides.{Outputs, IsCut}

-- a valid list of records that may be written, and an end that agrees with it
pub record IsFound (town : Town) (records : List Record) (end : End) : Type 0 where
  pub valid : is_valid town records ≡ true
  pub agreeing : agrees (standing town records) end ≡ true
  pub writable : AllByRecursion (λ item. is_writable item ≡ true) records

-- what is found is true of the town: its end holds, the walk of its last tour is a tour of the cost
-- that the end names, and the text of the list and the end proves it, unless it is too long
pub record IsTrue (town : Town) (records : List Record) (end : End) : Type 0 where
  pub holds : EndHolds town end
  pub walks : WalksTo town end (last_tour records)
  pub proves : length (proof_text version_2 records end) ≤ most_bytes
      → IsProof town end (proof_text version_2 records end)

-- the texts that are written of what is found
abbrev pub proof_of : List Record → End → List ℕ
proof_of records end = proof_text version_2 records end

abbrev pub report_of : Town → List Record → End → List ℕ
report_of town records end = text_of (report_lines town (answer_of town records end))

abbrev pub summary_of : Town → List Record → End → List ℕ
summary_of town records end = text_of (summary_lines town (answer_of town records end))

-- the status of an end, where so many nodes are done
abbrev pub status_of : End → ℕ → Status
status_of (ends.Optimal cost) done = Optimal cost
status_of ends.Infeasible done = Infeasible
status_of (ends.Unfinished low high) done = Unfinished low high 0 done

-- a search ends with a node open only where it has done so many
abbrev pub IsSpent : ℕ → End → ℕ → Type 0
IsSpent budget (ends.Unfinished low high) done = budget ≤ done
IsSpent budget end done = Unit {0}

-- the status is that of the end, and the budget is spent where a node is open
pub record IsStatusOf
    (town : Town) (budget : ℕ) (records : List Record) (end : End) (status : Status)
    : Type 0 where
  pub is : status ≡ status_of end (done (standing town records))
  pub spent : IsSpent budget end (done (standing town records))

-- no node is open at this end
abbrev pub IsClosedEnd : End → Type 0
IsClosedEnd (ends.Unfinished low high) = ⊥
IsClosedEnd end = Unit {0}

-- each record of the list has its cause, and they are few for the budget; a budget of
-- `2 * (m + 1) ^ a` or more, for m demands and a legal arcs, is never spent
pub record IsForcedSearch (town : Town) (budget : ℕ) (records : List Record) (end : End)
    : Type 0 where
  pub forced : IsForced town budget [] records
  pub closed : above_done town ≤ budget → IsClosedEnd end

-- ---- what is told of a search

-- a keep with no log, before any record
abbrev pub bare_of : Town → KeepState
bare_of town = record { town = town; records = []; acknowledged = 0; log = None }

-- the status in which a search ends that found this
abbrev pub status_found : Found → Status
status_found (founds.Optimal cost) = Optimal cost
status_found (founds.Unfinished low high before after) = Unfinished low high before after

-- the list of the keep was found, with this end and its status
pub record FindsIn (town : Town) (budget : ℕ) (keep : KeepState) (found : Found) : Type 0 where
  pub same : keep.town ≡ town
  pub list : IsFound town keep.records (end_of found)
  pub searched : IsForcedSearch town budget keep.records (end_of found)
  pub status : IsStatusOf town budget keep.records (end_of found) (status_found found)

-- the list and the end were found, and the answer is theirs
pub record IsListed (town : Town) (records : List Record) (answer : Answer) : Type 0 where
  pub found : IsFound town records answer.end
  pub is : answer ≡ answer_of town records answer.end

-- the answer is that of the list, and the status that of its end
pub record IsAnswer (town : Town) (budget : ℕ) (records : List Record) (solved : Solved)
    : Type 0 where
  pub listed : IsListed town records solved.answer
  pub searched : IsForcedSearch town budget records solved.answer.end
  pub status : IsStatusOf town budget records solved.answer.end solved.status

abbrev pub IsAnswerOfSome : Town → ℕ → Solved → Type 0
IsAnswerOfSome town budget solved = (records : List Record) × IsAnswer town budget records solved

-- ---- what is written of it

-- the texts of a list that was found, and its end as a status
pub record AreTexts (town : Town) (budget : ℕ) (texts : Texts) : Type 0 where
  pub records : List Record
  pub end : End
  pub found : IsFound town records end
  pub searched : IsForcedSearch town budget records end
  pub true : IsTrue town records end
  pub status : IsStatusOf town budget records end texts.status
  pub proof : texts.proof.items ≡ proof_of records end
  pub report : texts.report.items ≡ report_of town records end

-- both texts were written
pub record WritesAll (town : Town) (records : List Record) (end : End) (old new : Outputs)
    : Type 0 where
  pub proof : Gained old.proof_out new.proof_out (proof_of records end)
  pub report : Gained old.out new.out (report_of town records end)

-- the proof was cut, or the report behind it
abbrev pub CutsOne : Town → List Record → End → Outputs → Outputs → Type 0
CutsOne town records end old new =
    (IsCut old.proof_out new.proof_out (proof_of records end) × (new.out ≡ old.out))
    ⊎ (Gained old.proof_out new.proof_out (proof_of records end)
    × IsCut old.out new.out (report_of town records end))

-- what a search found was written, and the answer is its end; or it was cut
abbrev pub Reports : Town → ℕ → List Record → End → Status → Outputs → Outputs → Type 0
Reports town budget records end WriteFault old new = CutsOne town records end old new
Reports town budget records end status old new =
    IsStatusOf town budget records end status × WritesAll town records end old new

-- a list of records was found for the town, and is reported
pub record Solves (town : Town) (budget : ℕ) (status : Status) (old new : Outputs) : Type 0 where
  pub records : List Record
  pub end : End
  pub found : IsFound town records end
  pub searched : IsForcedSearch town budget records end
  pub true : IsTrue town records end
  pub reported : Reports town budget records end status old new

-- the summary of a list that was found, and its end as a status
pub record IsSummary (town : Town) (budget : ℕ) (summary : SummaryText) : Type 0 where
  pub records : List Record
  pub end : End
  pub found : IsFound town records end
  pub searched : IsForcedSearch town budget records end
  pub true : IsTrue town records end
  pub status : IsStatusOf town budget records end summary.status
  pub text : summary.text.items ≡ summary_of town records end

-- the summary of what a search found was written, and the answer is its end; or it was cut
abbrev pub Summarizes : Town → ℕ → List Record → End → Status → Output → Output → Type 0
Summarizes town budget records end WriteFault old new = IsCut old new (summary_of town records end)
Summarizes town budget records end status old new =
    IsStatusOf town budget records end status × Gained old new (summary_of town records end)

-- a list of records was found for the town, and its summary is told
pub record Demonstrates (town : Town) (budget : ℕ) (status : Status) (old new : Output)
    : Type 0 where
  pub records : List Record
  pub end : End
  pub found : IsFound town records end
  pub searched : IsForcedSearch town budget records end
  pub true : IsTrue town records end
  pub summarized : Summarizes town budget records end status old new
