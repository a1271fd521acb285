-- A system of equations with a basis and a cost row: its start from lines and costs, and the pivot.
use Rattle.std.specs.Prelude.{ℕ, suc, ◌+◌, ◌<◌, ◌^◌, ◌==◌, if◌then◌else◌, unsigned_abs, ℤ, pos, negsuc, neg_ℤ, ◌+ℤ◌, List, [], ◌∷◌, length, map, slice_index_or, slice_set, ◌⊎◌}
use Rattle.wrp_tableau.specs.declared.line.Line.{Line}
use Rattle.wrp_tableau.specs.Equations.{Equation, nothing, reduced, without}

-- The first `width` variables are structural, and variable width + i is the slack of line i. The
-- cost row is an equation too, with one number more, the cost, behind the variables: its entry
-- there is the scale, negated, and its right side is the value, negated.
pub record System : Type 0 where
  pub width : ℕ
  pub rows : List Equation
  -- the basic variable of each row
  pub basics : List ℕ
  pub cost : Equation

abbrev pub variables : System → ℕ
variables s = s.width + length s.rows

abbrev pub row : System → ℕ → Equation
row s r = slice_index_or s.rows r nothing

abbrev pub basic : System → ℕ → ℕ
basic s r = slice_index_or s.basics r 0

abbrev pub scale : System → ℤ
scale s = neg_ℤ (s.cost.entry (variables s))

abbrev pub value : System → ℤ
value s = neg_ℤ s.cost.right

-- the reduced cost of variable j
abbrev pub reduced_cost : System → ℕ → ℤ
reduced_cost s j = s.cost.entry j

-- coefs * x less the slack is the right side
abbrev pub slack_row : ℕ → List ℤ → ℤ → Equation
slack_row slack coefs right = record {
  entry = λ j. slice_index_or coefs j (pos 0) +ℤ (if j == slack then negsuc 0 else pos 0);
  right = right;
}

-- the rows of lines, whose slacks are numbered from `slack` on
abbrev pub line_rows : ℕ → List Line → List Equation
line_rows slack [] = []
line_rows slack (line ∷ lines) = slack_row slack line.coefs line.rhs ∷ line_rows (slack + 1) lines

-- the slacks of lines
abbrev pub slacks : ℕ → List Line → List ℕ
slacks slack [] = []
slacks slack (line ∷ lines) = slack ∷ slacks (slack + 1) lines

-- each slack is basic in the row of its line
abbrev pub start_of : ℕ → List Line → List ℤ → System
start_of width lines costs = record {
  width = width;
  rows = line_rows width lines;
  basics = slacks width lines;
  cost = slack_row (width + length lines) costs (pos 0);
}

-- the system after a pivot in row r at column c
unfoldable pub pivoted : System → ℕ → ℕ → System
pivoted s r c =
    let made = λ (e : Equation). reduced (suc (variables s)) (without c (row s r) e) in
    record {
      width = s.width;
      rows = slice_set (map made s.rows) r (reduced (suc (variables s)) (row s r));
      basics = slice_set s.basics r c;
      cost = made s.cost;
    }

-- an entry or the right side of an equation is above 2 ^ 60 in size
abbrev pub IsWideRow : Equation → Type 0
IsWideRow e = ((j : ℕ) × (2 ^ 60 < unsigned_abs (e.entry j))) ⊎ (2 ^ 60 < unsigned_abs e.right)

-- a row of a system, or its cost row, is wide
abbrev pub IsWide : System → Type 0
IsWide s = ((r : ℕ) × (r < length s.rows) × IsWideRow (row s r)) ⊎ IsWideRow s.cost
