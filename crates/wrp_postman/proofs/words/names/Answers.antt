use Rattle.std.proofs.Common.{map, inl, inr, sym, arith}
use Rattle.std.specs.String.{string_bytes}
use Rattle.std.proofs.lemmas.List.{length-map}
use Rattle.wrp_postman.proofs.Numbers.{no_command}
use Rattle.wrp_postman.proofs.words.names.Goals as goal

pub returns-in-len1-clause-command : goal.returns-in-len1-clause-command
returns-in-len1-clause-command c = sym (no_command (map string_bytes c.args.words.now) (inl (omega (arith, length-map c.args.words.now string_bytes, c.in-len1.len_below))))

pub returns-in-len6-up-clause-command : goal.returns-in-len6-up-clause-command
returns-in-len6-up-clause-command c = sym (no_command (map string_bytes c.args.words.now) (inr (omega (arith, length-map c.args.words.now string_bytes, c.in-len6-up.len_at_least))))
