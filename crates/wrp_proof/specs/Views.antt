-- What a view of a line stands for, and which lines have one.
use Rattle.std.specs.Prelude.{◌≡◌, ⊤, ℕ, ◌^◌, ◌≤◌, ◌<◌, Bool, true, false, nat_lt, List, length, None}
use Rattle.std.specs.List.{list_all}
use Rattle.wrp_rules.specs.Proofs.{longest_line}
use Rattle.wrp_rules.specs.declared.layout.Kind.{Kind}
use Rattle.wrp_rules.specs.declared.record.Record.{Record}
use Rattle.wrp_rules.specs.declared.record.Record.TheVariants.{Tour, Conn, Odd, Round, Kc, Bound, Empty, Apart, Point, Blind, Split, Labels}
use Rattle.wrp_proof.specs.declared.views.View.{View}
use Rattle.wrp_proof.specs.declared.views.View.TheVariants as views
use Rattle.wrp_proof.specs.declared.views.ViewFault.{ViewFault}
use Rattle.wrp_proof.specs.declared.views.ViewFault.TheVariants as faults
use Rattle.wrp_proof.specs.declared.fault.LineFault.{LineFault}
use Rattle.wrp_proof.specs.declared.fault.LineFault.TheVariants as line_faults
use Rattle.wrp_rules.specs.Layouts.{record_kinds}
use Rattle.wrp_rules.specs.Lines.{line_of}
use Rattle.wrp_rules.specs.Contents.{has_number_rules}
use Rattle.wrp_grammar.specs.Shapes.{is_of_kinds}
use Rattle.wrp_grammar.specs.Fronts.{IsLongestFront}
use Rattle.wrp_grammar.specs.Numbers.{IsFirstBadNumber}
use Rattle.wrp_grammar.specs.Spelling.{spelled}

-- the record with the fields and the lists of a view
abbrev pub record_of : View → Record
record_of (views.Tour cost steps) = Tour cost steps
record_of (views.Conn r1 r2 set) = Conn r1 r2 set
record_of (views.Odd set) = Odd set
record_of (views.Round divisor mult) = Round divisor mult
record_of (views.Kc k of) = Kc k of
record_of (views.Bound node den mult) = Bound node den mult
record_of (views.Empty node mult) = Empty node mult
record_of (views.Apart node r1 r2 set) = Apart node r1 r2 set
record_of (views.Point node den numbers) = Point node den numbers
record_of (views.Blind node) = Blind node
record_of (views.Split node arc k) = Split node arc k
record_of (views.Labels labels streets) = Labels labels streets

-- the second numbers of multipliers are below 2 ^ 64
abbrev pub are_narrow : List (ℕ × ℕ) → Bool
are_narrow mult = list_all (λ q. nat_lt q.1 (2 ^ 64)) mult

abbrev pub has_narrow_multipliers : Record → Bool
has_narrow_multipliers (Round divisor mult) = are_narrow mult
has_narrow_multipliers (Bound node den mult) = are_narrow mult
has_narrow_multipliers (Empty node mult) = are_narrow mult
has_narrow_multipliers item = true

-- the line spells a record that keeps the number rules
pub record IsLineOf (item : Record) (line : List ℕ) : Type 0 where
  pub text : line_of item ≡ line
  pub numbers : has_number_rules item ≡ true

-- the fault of a line of some kinds: Form where it isn't in a shape of theirs, at the end of its
-- longest front, else Number, at the first number that breaks a rule
abbrev pub IsFaultIn : List Kind → List ℕ → ViewFault → Type 0
IsFaultIn kinds line (faults.Form at) =
    (length line ≤ longest_line) × (is_of_kinds kinds line ≡ false) × (at ≤ length line)
    × IsLongestFront (is_of_kinds kinds) line at
IsFaultIn kinds line (faults.Number at) =
    (length line ≤ longest_line) × (is_of_kinds kinds line ≡ true) × (at ≤ length line)
    × IsFirstBadNumber kinds line at
IsFaultIn kinds line faults.Long = longest_line < length line

abbrev pub IsFaultOf : List ℕ → ViewFault → Type 0
IsFaultOf line fault = IsFaultIn record_kinds line fault

-- the fault of a line as a reader of records says it, who may want memory
abbrev pub IsLineFaultOf : List ℕ → LineFault → Type 0
IsLineFaultOf line (line_faults.Form at) = IsFaultOf line (faults.Form at)
IsLineFaultOf line (line_faults.Number at) = IsFaultOf line (faults.Number at)
IsLineFaultOf line line_faults.Long = IsFaultOf line faults.Long
IsLineFaultOf line line_faults.Memory = ⊤

-- where a record isn't read, the line spells none, or it is long or memory is wanting
abbrev pub IsWithoutRecord : List ℕ → LineFault → Type 0
IsWithoutRecord line (line_faults.Form at) = spelled line ≡ None
IsWithoutRecord line (line_faults.Number at) = spelled line ≡ None
IsWithoutRecord line fault = ⊤
