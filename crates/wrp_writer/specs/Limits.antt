-- The records that may stand in a proof.
use Rattle.std.specs.Prelude.{Bool, ◌&&◌, nat_le, length}
use Rattle.wrp_rules.specs.declared.record.Record.{Record}
use Rattle.wrp_rules.specs.Contents.{has_number_rules}
use Rattle.wrp_rules.specs.Lines.{line_of}
use Rattle.wrp_rules.specs.Proofs.{version_2}

-- the record keeps the number rules, and its line is no longer than version 2 allows
abbrev pub is_writable : Record → Bool
is_writable item = has_number_rules item && nat_le (length (line_of item)) version_2.limit
