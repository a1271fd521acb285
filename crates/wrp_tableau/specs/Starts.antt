-- The lines of which a tableau can be made.
use Rattle.std.specs.Prelude.{ℕ, ◌≡◌, ◌≤◌, ◌^◌, unsigned_abs, length, All}
use Rattle.wrp_tableau.specs.declared.line.Line.{Line}

-- a line over so many variables, with entries of at most 2 ^ 60 in size
pub record IsLine (width : ℕ) (line : Line) : Type 0 where
  pub count : length line.coefs ≡ width
  pub coefs_small : All (λ z. unsigned_abs z ≤ 2 ^ 60) line.coefs
  pub rhs_small : unsigned_abs line.rhs ≤ 2 ^ 60
