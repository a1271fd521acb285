-- Whole-number equations, and what a pivot makes of one.
use Rattle.std.specs.Prelude.{ℕ, zero, suc, ◌%◌, ◌==◌, if◌then◌else◌, int_div, unsigned_abs, ℤ, pos, negsuc, ◌-ℤ◌, ◌*ℤ◌}

-- the sum of entry j times number j, over all j, is the right side
pub record Equation : Type 0 where
  pub entry : ℕ → ℤ
  pub right : ℤ

-- no entry, and the right side 0
abbrev pub nothing : Equation
nothing = record { entry = λ j. pos 0; right = pos 0 }

-- the greatest common divisor, in at most `steps` divisions with rest
unfoldable pub gcd_within : ℕ → ℕ → ℕ → ℕ
gcd_within zero a b = a
gcd_within (suc steps) a b = if b == 0 then a else gcd_within steps b (a % b)

abbrev pub gcd_of : ℕ → ℕ → ℕ
gcd_of a b = gcd_within (suc b) a b

-- the greatest common factor of the first n entries and the right side
unfoldable pub common_factor : ℕ → Equation → ℕ
common_factor zero e = unsigned_abs e.right
common_factor (suc n) e = gcd_of (common_factor n e) (unsigned_abs (e.entry n))

-- an equation divided by a number that divides it
abbrev pub divided : ℕ → Equation → Equation
divided g e = record { entry = λ j. int_div (e.entry j) (pos g); right = int_div e.right (pos g) }

-- an equation over n numbers, divided by its greatest common factor
unfoldable pub reduced : ℕ → Equation → Equation
reduced n e = divided (common_factor n e) e

-- 1, or -1 where p is below 0
abbrev pub sign_of : ℤ → ℤ
sign_of (pos p) = pos 1
sign_of (negsuc p) = negsuc 0

-- |p| x - sign(p) q y
abbrev pub combined : ℤ → ℤ → ℤ → ℤ → ℤ
combined p q x y = pos (unsigned_abs p) *ℤ x -ℤ (sign_of p *ℤ q) *ℤ y

-- equation e without its entry at c, by means of an equation with an entry there
unfoldable pub without : ℕ → Equation → Equation → Equation
without c by e = record {
  entry = λ j. combined (by.entry c) (e.entry c) (e.entry j) (by.entry j);
  right = combined (by.entry c) (e.entry c) e.right by.right;
}
