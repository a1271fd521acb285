-- What a run of the program answers, and what it writes to its output.
use Rattle.std.specs.Prelude.{◌≡◌, ◌≢◌, ℕ, ◌<◌, ◌≤◌, ◌^◌, ◌⊎◌, Bool, true, false, List, length, Option, None, Some, IfSome, Err}
use Rattle.wrp_out.specs.Outside.{Input, Output, FaultRose, Gained}
use Rattle.wrp_town.specs.declared.town.Town.{Town}
use Rattle.wrp_town.specs.Walks.{HasNoTour}
use Rattle.wrp_street.specs.declared.table.TableFault.{TableFault}
use Rattle.wrp_street.specs.declared.table.TableFault.TheVariants as faults
use Rattle.wrp_street.specs.Tables.{Table, table_of, table_in, IsTable}
use Rattle.wrp_street.specs.Canonical.{canonical_of}
use Rattle.wrp_rules.specs.declared.record.End.{End}
use Rattle.wrp_rules.specs.Proofs.{IsProof}
use Rattle.wrp_laws.specs.Ends.{EndHolds}
use Rattle.wrp_parts.specs.RequiredParts.{AreParts}
use Rattle.wrp_tour.specs.Tours.{HasTour}
use Rattle.wrp_report.specs.Texts.{text_of, info_lines}
use Rattle.wrp_report.specs.Grid.{grid_of}
use Rattle.wrp_check.specs.Verdicts.{Verdict, Refused, Long, verdict}
use Rattle.wrp_check.specs.Verdicts as verdicts
use Rattle.wrp_postman.specs.declared.demo.SummaryText.{SummaryText}
use Rattle.wrp_postman.specs.declared.status.Status.{Status}
use Rattle.wrp_postman.specs.declared.status.Status.TheVariants.{Accepted, ProofRefused, Usage, TableRefused, ReadFault, WriteFault, TooLong, Memory}
use Rattle.wrp_postman.specs.Statuses.{accepted_line, status_line}
use Rattle.wrp_postman.specs.Words.{Command, Solve, Check, Info, Draw, Demo}
use Rattle.wrp_postman.specs.Outsides.{Sources, Outside, IsCut, WritesSome}
use Rattle.wrp_postman.specs.Searches.{Solves, IsSummary, Demonstrates}

-- the greatest number of bytes of a table
abbrev pub table_bytes : ℕ
table_bytes = 2 ^ 22

-- ---- the table

-- the bytes are not too long, and the table of the town; or they have this fault first
pub record IsTownTable (town : Town) (bytes : List ℕ) : Type 0 where
  pub short : length bytes ≤ table_bytes
  pub table : IsTable bytes town

pub record HasFault (fault : TableFault) (bytes : List ℕ) : Type 0 where
  pub short : length bytes ≤ table_bytes
  pub first : table_of bytes ≡ Err fault

-- what the source tells is the table of the town
abbrev pub TellsTable : Input → Town → Type 0
TellsTable streets town = IfSome streets.left (IsTownTable town)

abbrev pub TellsTown : Input → Type 0
TellsTown streets = (town : Town) × TellsTable streets town

-- why a run ends at its table: it is too long, or has this fault, or a read of it failed; want of
-- memory is free
abbrev pub EndsAtTable : Status → Input → Input → Type 0
EndsAtTable TooLong old new = IfSome old.left (λ bytes. table_bytes < length bytes)
EndsAtTable (TableRefused fault) old new =
    (fault ≢ faults.Memory) × IfSome old.left (HasFault fault)
EndsAtTable ReadFault old new = FaultRose old new
EndsAtTable Memory old new = Unit {0}
EndsAtTable status old new = ⊥

-- ---- the proof

-- what the source tells has this verdict
abbrev pub HasVerdict : Input → Town → Verdict → Type 0
HasVerdict proof town said = IfSome proof.left (λ bytes. verdict town bytes ≡ said)

-- what the source tells is a proof of the town with this end, and the end is true
pub record Proves (proof : Input) (town : Town) (end : End) : Type 0 where
  pub judged : HasVerdict proof town (verdicts.Accepted end)
  pub proved : IfSome proof.left (IsProof town end)
  pub holds : EndHolds town end

-- how a check ends at the proof of a town: by the verdict on its bytes, or a read of it failed;
-- want of memory is free
abbrev pub EndsAtProof : Town → Status → Input → Input → Type 0
EndsAtProof town (Accepted end) old new = Proves old town end
EndsAtProof town (ProofRefused line rule) old new = HasVerdict old town (Refused line rule)
EndsAtProof town TooLong old new = HasVerdict old town Long
EndsAtProof town ReadFault old new = FaultRose old new
EndsAtProof town Memory old new = Unit {0}
EndsAtProof town status old new = ⊥

-- ---- the answers

-- the run ends at its table, or as the town of the table says
abbrev pub EndsBehindTable : (Town → Type 0) → Status → Input → Input → Type 0
EndsBehindTable ends status old new =
    EndsAtTable status old new ⊎ ((town : Town) × TellsTable old town × ends town)

-- what a check finds: it ends at the table, or at the proof of the town of the table
abbrev pub FindsCheck : Status → Sources → Sources → Type 0
FindsCheck status old new =
    EndsBehindTable (λ town. EndsAtProof town status old.proof_in new.proof_in)
    status old.streets new.streets

-- a check answers what it finds, or that the line of an acceptance that it finds was not written
abbrev pub AnswersCheck : Status → Outside → Outside → Type 0
AnswersCheck WriteFault old new =
    (end : End) × FindsCheck (Accepted end) old.sources new.sources
    × IsCut old.outputs.out new.outputs.out (accepted_line end)
AnswersCheck status old new = FindsCheck status old.sources new.sources

-- words that are no command are answered by the usage; want of memory is free
abbrev pub AnswersUsage : Status → Type 0
AnswersUsage Usage = Unit {0}
AnswersUsage Memory = Unit {0}
AnswersUsage status = ⊥

-- a tour is there, or there is none
abbrev pub TellsTour : Town → Bool → Type 0
TellsTour town true = HasTour town
TellsTour town false = HasNoTour town

-- how many required parts the town has, and whether it has a tour
pub record IsInfo (town : Town) (text : List ℕ) : Type 0 where
  pub parts : ℕ
  pub of : List (Option ℕ)
  pub are_parts : AreParts town parts of
  pub tour : Bool
  pub has_tour : TellsTour town tour
  pub is : text ≡ text_of (info_lines town parts tour)

-- such a text of the town of the table is written
abbrev pub AnswersInfo : Status → Outside → Outside → Type 0
AnswersInfo status old new = EndsBehindTable
    (λ town. WritesSome (IsInfo town) status old.outputs.out new.outputs.out)
    status old.sources.streets new.sources.streets

-- the text is the canonical table of the town that has this table
abbrev pub IsCanonical : Table → List ℕ → Type 0
IsCanonical table text = (town : Town) × (table_in town ≡ table) × (text ≡ canonical_of town)

-- such a text is written; want of memory is free
abbrev pub WritesTable : Table → Status → Output → Output → Type 0
WritesTable table Memory old new = Unit {0}
WritesTable table status old new = WritesSome (IsCanonical table) status old new

-- the town of the table is searched, and what is found is written
abbrev pub AnswersSolve : ℕ → Status → Outside → Outside → Type 0
AnswersSolve budget status old new = EndsBehindTable
    (λ town. Solves town budget status old.outputs new.outputs)
    status old.sources.streets new.sources.streets

-- the summary is that of a search of the town that has this table
abbrev pub IsDrawnSummary : Table → ℕ → SummaryText → Type 0
IsDrawnSummary table budget summary =
    (town : Town) × (table_in town ≡ table) × IsSummary town budget summary

-- the town that has this table is searched, and the summary is written; want of memory is free
abbrev pub AnswersDemo : Table → ℕ → Status → Output → Output → Type 0
AnswersDemo table budget Memory old new = Unit {0}
AnswersDemo table budget status old new =
    (town : Town) × (table_in town ≡ table) × Demonstrates town budget status old new

-- what a command answers
abbrev pub Answers : Option Command → Status → Outside → Outside → Type 0
Answers None status old new = AnswersUsage status
Answers (Some (Solve streets proof log budget)) status old new = AnswersSolve budget status old new
Answers (Some (Check streets proof)) status old new = AnswersCheck status old new
Answers (Some (Info streets)) status old new = AnswersInfo status old new
Answers (Some (Draw seed width height)) status old new =
    WritesTable (grid_of seed width height) status old.outputs.out new.outputs.out
Answers (Some (Demo seed width height budget)) status old new =
    AnswersDemo (grid_of seed width height) budget status old.outputs.out new.outputs.out

-- the line of an acceptance was written; that of another status was, or was cut
abbrev pub WritesLine : Status → Output → Output → Type 0
WritesLine (Accepted end) old new = Gained old new (accepted_line end)
WritesLine status old new =
    IfSome (status_line status) (λ line. Gained old new line ⊎ IsCut old new line)

-- the status where its line was cut, and whether a cut line leads there
abbrev pub after_cut : Status → Status
after_cut (Accepted end) = WriteFault
after_cut status = status

abbrev pub CutsAcceptance : Status → Output → Output → Type 0
CutsAcceptance (Accepted end) old new = IsCut old new (accepted_line end)
CutsAcceptance status old new = ⊥

-- a status was told: its line was written or cut, or it was an acceptance whose line was cut
abbrev pub Told : Status → Status → Output → Output → Type 0
Told status answer old new =
    ((answer ≡ status) × WritesLine status old new)
    ⊎ ((answer ≡ WriteFault) × CutsAcceptance status old new)
