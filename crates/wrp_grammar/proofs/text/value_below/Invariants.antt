use Rattle.std.proofs.Common.{◌≡◌, ◌<◌, take}
use Rattle.wrp_grammar.specs.Parts.{number_of}
use Rattle.wrp_grammar.proofs.text.value_below.Given as goal

abbrev pub invariant-loop-digit : goal.invariant-loop-digit
invariant-loop-digit l = record { value : l.value ≡ number_of (take l.digit-index l.digits); small : l.value < l.limit }
