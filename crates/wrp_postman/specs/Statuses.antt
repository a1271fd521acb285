-- The exit status and the line of each status.
use Rattle.std.specs.Prelude.{ℕ, codes, List, ◌++◌, Option, None, Some}
use Rattle.std.specs.Option.{option_map}
use Rattle.std.specs.Fmt.{decimal}
use Rattle.wrp_street.specs.declared.table.TableFault.{TableFault}
use Rattle.wrp_street.specs.declared.table.TableFault.TheVariants as faults
use Rattle.wrp_rules.specs.declared.rule.Rule.{Rule}
use Rattle.wrp_rules.specs.declared.rule.Rule.TheVariants as rules
use Rattle.wrp_rules.specs.Lines.{end_text}
use Rattle.wrp_rules.specs.Proofs.{ended}
use Rattle.wrp_rules.specs.declared.record.End.{End}
use Rattle.wrp_postman.specs.declared.status.LogCause.{LogCause}
use Rattle.wrp_postman.specs.declared.status.LogCause.TheVariants as causes
use Rattle.wrp_postman.specs.declared.status.VisitFault.{VisitFault}
use Rattle.wrp_postman.specs.declared.status.VisitFault.TheVariants as visits
use Rattle.wrp_postman.specs.declared.status.TurnFault.{TurnFault}
use Rattle.wrp_postman.specs.declared.status.TurnFault.TheVariants as turns
use Rattle.wrp_postman.specs.declared.status.Status.{Status}
use Rattle.wrp_postman.specs.declared.status.Status.TheVariants.{Optimal, Accepted, Done, Unfinished, Infeasible, ProofRefused, Usage, TableRefused, ReadFault, WriteFault, DiskFault, LogRefused, LogFull, TooLong, StopsRefused, BansRefused, Memory}

abbrev pub code_of : Status → ℕ
code_of (Optimal cost) = 0
code_of (Accepted end) = 0
code_of Done = 0
code_of (Unfinished low high before after) = 1
code_of Infeasible = 2
code_of (ProofRefused line rule) = 3
code_of Usage = 4
code_of (TableRefused fault) = 5
code_of ReadFault = 6
code_of WriteFault = 7
code_of DiskFault = 8
code_of (LogRefused cause) = 9
code_of (LogFull length limit) = 10
code_of TooLong = 11
code_of (StopsRefused fault) = 12
code_of (BansRefused fault) = 13
code_of Memory = 20

-- a rule's name
abbrev pub rule_name : Rule → List ℕ
rule_name rules.Start = codes "Start"
rule_name rules.Form = codes "Form"
rule_name rules.Number = codes "Number"
rule_name rules.Lonely = codes "Lonely"
rule_name rules.Range = codes "Range"
rule_name rules.Walk = codes "Walk"
rule_name rules.Serve = codes "Serve"
rule_name rules.Cost = codes "Cost"
rule_name rules.Dear = codes "Dear"
rule_name rules.Cuts = codes "Cuts"
rule_name rules.Cross = codes "Cross"
rule_name rules.Even = codes "Even"
rule_name rules.Wide = codes "Wide"
rule_name rules.Chain = codes "Chain"
rule_name rules.Closed = codes "Closed"
rule_name rules.Low = codes "Low"
rule_name rules.Leak = codes "Leak"
rule_name rules.Box = codes "Box"
rule_name rules.Balance = codes "Balance"
rule_name rules.Service = codes "Service"
rule_name rules.Price = codes "Price"
rule_name rules.Alone = codes "Alone"
rule_name rules.Part = codes "Part"
rule_name rules.Rise = codes "Rise"
rule_name rules.Label = codes "Label"
rule_name rules.End = codes "End"
rule_name rules.Missing = codes "Missing"
rule_name rules.After = codes "After"

-- a text with a row and a field behind it
abbrev pub at_field : List ℕ → ℕ → ℕ → List ℕ
at_field text row field = text ++ (decimal row ++ (codes " field " ++ decimal field))

-- a fault of a table, with its row and field
abbrev pub fault_text : TableFault → List ℕ
fault_text faults.Header = codes "table Header"
fault_text (faults.Fields row) = codes "table Fields row " ++ decimal row
fault_text (faults.Name row field) = at_field (codes "table Name row ") row field
fault_text (faults.Cost row field) = at_field (codes "table Cost row ") row field
fault_text (faults.Need row) = codes "table Need row " ++ decimal row
fault_text (faults.Streets row) = codes "table Streets row " ++ decimal row
fault_text (faults.Junctions row) = codes "table Junctions row " ++ decimal row
fault_text (faults.Demands row) = codes "table Demands row " ++ decimal row
fault_text faults.Memory = codes "no memory"

-- what an accepted end says: its line without `end `
abbrev pub accepted_text : End → List ℕ
accepted_text end = codes "accepted " ++ end_text end

-- which line of a proof was refused, and by which rule
abbrev pub refused_text : ℕ → Rule → List ℕ
refused_text line rule = codes "refused " ++ (decimal line ++ (codes " " ++ rule_name rule))

-- the length that a log would have, and the limit of its disk
abbrev pub full_text : ℕ → ℕ → List ℕ
full_text length limit = codes "log full " ++ (decimal length ++ (codes " " ++ decimal limit))

-- why a log was refused
abbrev pub log_text : LogCause → List ℕ
log_text (causes.HasRecords count) = codes "log HasRecords " ++ decimal count
log_text causes.NoRecords = codes "log NoRecords"
log_text (causes.NotALog length) = codes "log NotALog " ++ decimal length
log_text (causes.Broken at) = codes "log Broken at " ++ decimal at
log_text (causes.OtherTable at) = codes "log OtherTable at " ++ decimal at
log_text (causes.BadRecord index rule) =
    codes "log BadRecord " ++ (decimal index ++ (codes " " ++ rule_name rule))

-- why stops were refused
abbrev pub visit_text : VisitFault → List ℕ
visit_text (visits.Unknown line) = codes "stops Unknown line " ++ decimal line
visit_text (visits.Repeat line) = codes "stops Repeat line " ++ decimal line
visit_text (visits.Full line) = codes "stops Full line " ++ decimal line
visit_text visits.Memory = codes "no memory"

-- why bans were refused
abbrev pub turn_text : TurnFault → List ℕ
turn_text (turns.Form line) = codes "bans Form line " ++ decimal line
turn_text (turns.Turn line) = codes "bans Turn line " ++ decimal line
turn_text (turns.Either street) = codes "bans Either street " ++ decimal street
turn_text (turns.Size junctions streets) =
    codes "bans Size " ++ (decimal junctions ++ (codes " " ++ decimal streets))
turn_text turns.Memory = codes "no memory"

-- the commands and their words
abbrev pub usage_text : List ℕ
usage_text =
    codes "usage: solve STREETS PROOF LOG BUDGET" ++ codes " | resume STREETS PROOF LOG BUDGET"
    ++ codes " | check STREETS PROOF" ++ codes " | info STREETS" ++ codes " | town SEED W H"
    ++ codes " | demo SEED W H BUDGET" ++ codes " | expand STREETS STOPS"
    ++ codes " | visit STREETS STOPS PROOF LOG BUDGET" ++ codes " | unfold STREETS BANS"
    ++ codes " | turns STREETS BANS PROOF LOG BUDGET"

-- the line of a status, without its line feed; none where a report stands for it, and after a fault
-- of a write
abbrev pub status_text : Status → Option (List ℕ)
status_text (Accepted end) = Some (accepted_text end)
status_text (ProofRefused line rule) = Some (refused_text line rule)
status_text Usage = Some usage_text
status_text (TableRefused fault) = Some (fault_text fault)
status_text ReadFault = Some (codes "read fault")
status_text DiskFault = Some (codes "disk fault")
status_text (LogRefused cause) = Some (log_text cause)
status_text (LogFull length limit) = Some (full_text length limit)
status_text TooLong = Some (codes "too long")
status_text (StopsRefused fault) = Some (visit_text fault)
status_text (BansRefused fault) = Some (turn_text fault)
status_text Memory = Some (codes "no memory")
status_text status = None

-- the same with its line feed
abbrev pub status_line : Status → Option (List ℕ)
status_line status = option_map ended (status_text status)

abbrev pub accepted_line : End → List ℕ
accepted_line end = ended (accepted_text end)
