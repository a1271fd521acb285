-- Connectivity records of a town may be written.
use Rattle.std.proofs.Common.{◌≡◌, ℕ, ◌*◌, ◌^◌, ◌<◌, ◌≤◌, true, ◌&&◌, nat_lt, nat_le, List, [], ◌∷◌, ◌++◌, map, length, refl, arith}
use Rattle.std.specs.Prelude.{codes}
use Rattle.std.specs.Fmt.{decimal}
use Rattle.std.specs.List.{flat_map}
use Rattle.std.proofs.lemmas.Bool.{and_from, and_parts, ltb-true, lt-ltb, le-leb}
use Rattle.std.proofs.lemmas.Fmt.{length-decimal-le}
use Rattle.std.proofs.lemmas.List.{length-append}
use Rattle.wrp_rules.specs.declared.record.Record.TheVariants.{Conn}
use Rattle.wrp_rules.specs.Contents.{has_number_rules}
use Rattle.wrp_rules.specs.Lines.{line_of}
use Rattle.wrp_rules.specs.Ranges.{is_set}
use Rattle.wrp_rules.specs.Rules.{all_below}
use Rattle.wrp_writer.specs.Limits.{is_writable}

-- numbers with a space before each
texts_short : (xs : List ℕ) → all_below (2 ^ 32) xs ≡ true → length (flat_map (λ part. codes " " ++ part) (map decimal xs)) ≤ 11 * length xs
texts_short [] below = omega arith
texts_short (x ∷ xs) below =
    let tests = and_parts (nat_lt x (2 ^ 32)) (all_below (2 ^ 32) xs) below in
    let small : x < 2 ^ 32 = ltb-true x (2 ^ 32) tests.0 in
    omega (
      arith,
      length-append (codes " " ++ decimal x) (flat_map (λ part. codes " " ++ part) (map decimal xs)),
      length-append (codes " ") (decimal x),
      length-decimal-le 10 x (omega arith) (omega (arith, small)) (omega (arith, small)),
      texts_short xs tests.1,
    )

pub conn_writable : (r1 r2 : ℕ) (set : List ℕ) → r1 < 2 ^ 32 → r2 < 2 ^ 32 → is_set set ≡ true → all_below (2 ^ 32) set ≡ true → length set ≤ 2000 → is_writable (Conn r1 r2 set) ≡ true
conn_writable r1 r2 set first second ascends below few =
    let numbers = and_from (nat_lt r1 (2 ^ 32)) (all_below (2 ^ 32) (r2 ∷ set)) (lt-ltb r1 (2 ^ 32) first) (and_from (nat_lt r2 (2 ^ 32)) (all_below (2 ^ 32) set) (lt-ltb r2 (2 ^ 32) second) below) in
    and_from (has_number_rules (Conn r1 r2 set)) (nat_le (length (line_of (Conn r1 r2 set))) (2 ^ 28))
    (and_from (nat_lt r1 (2 ^ 32) && (nat_lt r2 (2 ^ 32) && true)) (is_set set) (and_from (nat_lt r1 (2 ^ 32)) (nat_lt r2 (2 ^ 32) && true) (lt-ltb r1 (2 ^ 32) first) (and_from (nat_lt r2 (2 ^ 32)) true (lt-ltb r2 (2 ^ 32) second) refl)) ascends)
    (le-leb (length (line_of (Conn r1 r2 set))) (2 ^ 28) (omega (arith, texts_short (r1 ∷ r2 ∷ set) numbers, few)))
