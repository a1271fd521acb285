-- The numbers of digits of numbers.
use Rattle.std.proofs.Common.{◌≡◌, ℕ, ◌+◌, ◌%◌, ◌/◌, ◌<◌, ◌≤◌, ◌^◌, [], ◌∷◌, length, ap, ◌∙◌, arith, length-append}
use Rattle.std.proofs.lemmas.Fmt.{decimal_step_wide, length-decimal-le_wide}
use Rattle.std.specs.Fmt.{decimal}

-- a number of more than one digit has one more than its tenth
pub one-more-digit : (n : ℕ) → 10 ≤ n → n < 2 ^ 128 → length (decimal n) ≡ length (decimal (n / 10)) + 1
one-more-digit n some small = ap length (decimal_step_wide n some (omega arith)) ∙ length-append (decimal (n / 10)) ((48 + n % 10) ∷ [])

pub few-digits : (n : ℕ) → n < 2 ^ 128 → length (decimal n) ≤ 39
few-digits n small = length-decimal-le_wide 39 n (omega arith) (omega arith) (omega arith)
