-- Candidates: rows that may leave and columns that may enter, in the order in which they are
-- chosen.
use Rattle.std.specs.Prelude.{ℕ, List, ◌<◌, ◌≤◌, ◌≡◌, ◌^◌, Bool, IsTrue, Option, Some, None, IfSome, ◌⊎◌, unsigned_abs, ℤ, pos, ◌*ℤ◌, ◌<ℤ◌, ◌≤ℤ◌}
use Rattle.wrp_tableau.specs.Equations.{sign_of}
use Rattle.wrp_tableau.specs.Sparse.{number_at}
use Rattle.wrp_tableau.specs.Systems.{System, row, basic, reduced_cost}
use Rattle.wrp_simplex.specs.declared.candidate.Candidate.{Candidate}
use Rattle.wrp_simplex.specs.Steps.{numerator, denominator, IsBroken}

-- the denominator is above 0, and both numbers are at most 2 ^ 60 in size
pub record IsSized (a : Candidate) : Type 0 where
  pub positive : pos 0 <ℤ a.denominator
  pub numerator_small : unsigned_abs a.numerator ≤ 2 ^ 60
  pub denominator_small : unsigned_abs a.denominator ≤ 2 ^ 60

-- the fraction of the first is at most that of the second
abbrev pub IsNoGreater : Candidate → Candidate → Type 0
IsNoGreater a b = (a.numerator *ℤ b.denominator) ≤ℤ (b.numerator *ℤ a.denominator)

-- the first comes before the second, or neither before the other: by their fractions where these
-- count, and then by their variables
pub record IsNoLater (by_fraction : Bool) (a b : Candidate) : Type 0 where
  pub least : IsTrue by_fraction → IsNoGreater a b
  pub first : (IsTrue by_fraction → IsNoGreater b a) → a.variable ≤ b.variable

-- of two candidates, of which each may be missing, the result comes first
abbrev pub IsFirstOf : Bool → Option Candidate → Option Candidate → Option Candidate → Type 0
IsFirstOf by_fraction None next result = result ≡ next
IsFirstOf by_fraction (Some a) None result = result ≡ Some a
IsFirstOf by_fraction (Some a) (Some b) result =
    ((result ≡ Some a) × IsNoLater by_fraction a b)
    ⊎ ((result ≡ Some b) × IsNoLater by_fraction b a)

-- row r, with its basic value
abbrev pub row_candidate : System → ℕ → Candidate
row_candidate s r = record {
  place = r;
  variable = basic s r;
  numerator = numerator s r;
  denominator = pos (denominator s r);
}

-- the candidate is row r, which is broken
pub record IsBrokenRow (s : System) (r : ℕ) (a : Candidate) : Type 0 where
  pub broken : IsBroken s r
  pub is : a ≡ row_candidate s r

-- column c, with its reduced cost over a size
abbrev pub column_candidate : System → ℕ → ℤ → Candidate
column_candidate s c size = record {
  place = c;
  variable = c;
  numerator = reduced_cost s c;
  denominator = size;
}

-- the candidate is column c with a size above 0
pub record IsSizedColumn (s : System) (c : ℕ) (size : ℤ) (a : Candidate) : Type 0 where
  pub above : pos 0 <ℤ size
  pub is : a ≡ column_candidate s c size

-- an entry of row r, with the sign of the row's right side
abbrev pub signed_entry : System → ℕ → ℕ → ℤ
signed_entry s r c = sign_of (row s r).right *ℤ (row s r).entry c

-- column c has an entry in row r with the sign of the right side
abbrev pub HasRightSign : System → ℕ → ℕ → Type 0
HasRightSign s r c = pos 0 <ℤ signed_entry s r c

-- the column of term k of row r has one
abbrev pub IsRightColumn : System → ℕ → List (ℕ × ℤ) → ℕ → Type 0
IsRightColumn s r terms k = HasRightSign s r (number_at terms k)

-- the column of term k of row r, with its reduced cost over that entry
abbrev pub right_column : System → ℕ → List (ℕ × ℤ) → ℕ → Candidate
right_column s r terms k =
    column_candidate s (number_at terms k) (signed_entry s r (number_at terms k))

-- of the first n of a family the chosen one is eligible, and none that is comes before it
pub record IsChosen (by_fraction : Bool) (IsEligible : ℕ → Type 0) (family : ℕ → Candidate) (n : ℕ)
    (chosen : Candidate) : Type 0 where
  pub at : ℕ
  pub below : at < n
  pub eligible : IsEligible at
  pub is : chosen ≡ family at
  pub first : (k : ℕ) → k < n → IsEligible k → IsNoLater by_fraction chosen (family k)

-- the best of the first n of a family, or None where none is eligible
pub record IsBest (by_fraction : Bool) (IsEligible : ℕ → Type 0) (family : ℕ → Candidate) (n : ℕ)
    (best : Option Candidate) : Type 0 where
  pub none : best ≡ None → (k : ℕ) → k < n → IsEligible k → ⊥
  pub some : IfSome best (IsChosen by_fraction IsEligible family n)
