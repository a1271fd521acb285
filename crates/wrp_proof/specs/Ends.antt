-- The lines of ends, and their faults.
use Rattle.std.specs.Prelude.{◌≡◌, ℕ, true, List}
use Rattle.wrp_rules.specs.declared.record.End.{End}
use Rattle.wrp_proof.specs.declared.fault.LineFault.{LineFault}
use Rattle.wrp_proof.specs.declared.fault.LineFault.TheVariants as faults
use Rattle.wrp_proof.specs.declared.views.ViewFault.{ViewFault}
use Rattle.wrp_proof.specs.declared.views.ViewFault.TheVariants as view_faults
use Rattle.wrp_rules.specs.Layouts.{end_kinds}
use Rattle.wrp_rules.specs.Lines.{end_line}
use Rattle.wrp_rules.specs.Contents.{has_end_numbers}
use Rattle.wrp_proof.specs.Views.{IsFaultIn}

-- the line spells an end with numbers in range
pub record IsEndLineOf (end : End) (line : List ℕ) : Type 0 where
  pub text : end_line end ≡ line
  pub numbers : has_end_numbers end ≡ true

-- a fault of a line as a reader says it who may want memory
abbrev pub line_fault : ViewFault → LineFault
line_fault (view_faults.Form at) = faults.Form at
line_fault (view_faults.Number at) = faults.Number at
line_fault view_faults.Long = faults.Long

-- the fault of an end line, which takes no memory
abbrev pub IsEndFault : List ℕ → LineFault → Type 0
IsEndFault line (faults.Form at) = IsFaultIn end_kinds line (view_faults.Form at)
IsEndFault line (faults.Number at) = IsFaultIn end_kinds line (view_faults.Number at)
IsEndFault line faults.Long = IsFaultIn end_kinds line view_faults.Long
IsEndFault line faults.Memory = ⊥
