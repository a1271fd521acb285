use Rattle.std.proofs.Common.{◌≡◌, length}
use Rattle.wrp_records.specs.Fields.{trim_end}
use Rattle.wrp_records.proofs.fields.trim_end.Given as goal

-- the field and what is left of it have the same trimmed end
abbrev pub invariant-loop-last : goal.invariant-loop-last
invariant-loop-last l = trim_end l.rest ≡ trim_end l.fn.field

abbrev pub decreases-loop-last : goal.decreases-loop-last
decreases-loop-last l = length l.rest
