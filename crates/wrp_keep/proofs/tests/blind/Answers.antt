use Rattle.std.proofs.Common.{◌≡◌, ℕ, ◌+◌, ◌^◌, ◌<◌, ◌≤◌, true, ◌&&◌, nat_lt, nat_le, [], ◌++◌, length, refl, arith}
use Rattle.std.specs.Prelude.{codes}
use Rattle.std.specs.Fmt.{decimal}
use Rattle.std.proofs.lemmas.Bool.{and_from, lt-ltb, le-leb}
use Rattle.std.proofs.lemmas.Fmt.{length-decimal-le}
use Rattle.std.proofs.lemmas.List.{length-append}
use Rattle.wrp_rules.specs.declared.record.Record.TheVariants.{Blind}
use Rattle.wrp_rules.specs.Contents.{has_number_rules}
use Rattle.wrp_rules.specs.Lines.{line_of}
use Rattle.wrp_writer.specs.Limits.{is_writable}
use Rattle.wrp_keep.proofs.tests.blind.Goals as goal

blind_writable : (node : ℕ) → node < 2 ^ 63 → is_writable (Blind node) ≡ true
blind_writable node small =
    and_from (has_number_rules (Blind node)) (nat_le (length (line_of (Blind node))) (2 ^ 28))
    (and_from (nat_lt node (2 ^ 63) && true) true (and_from (nat_lt node (2 ^ 63)) true (lt-ltb node (2 ^ 63) small) refl) refl)
    (le-leb (length (line_of (Blind node))) (2 ^ 28)
    (omega (
      arith,
      length-append (codes " " ++ decimal node) [],
      length-append (codes " ") (decimal node),
      length-decimal-le 19 node (omega arith) (omega (arith, small)) (omega (arith, small)),
    )))

pub returns : goal.returns
returns c = blind_writable 0 (omega arith)
