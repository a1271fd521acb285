-- The roundings that the rows of a system name.
use Rattle.std.specs.Prelude.{ℕ, ◌+◌, ◌<◌, ◌==◌, not, ℤ, pos, neg_ℤ, ◌*ℤ◌, unsigned_abs, List, map, length, slice_index}
use Rattle.std.specs.Int.{int_rem_euclid}
use Rattle.std.specs.List.{filter, range_with_len}
use Rattle.wrp_rules.specs.declared.record.Record.{Record}
use Rattle.wrp_rules.specs.declared.record.Record.TheVariants.{Round}
use Rattle.wrp_tableau.specs.Equations.{sign_of}
use Rattle.wrp_tableau.specs.Systems.{System, row, basic}
use Rattle.wrp_simplex.specs.Steps.{pivot_entry, denominator}
use Rattle.wrp_lp.specs.Reading.{IsValueWhole}

-- (-sign(p) entry) mod |p|
abbrev pub multiplier : ℤ → ℤ → ℕ
multiplier p entry =
    unsigned_abs (int_rem_euclid (neg_ℤ (sign_of p *ℤ entry)) (pos (unsigned_abs p)))

-- the same, with p the entry of the basic variable of row r, for the slack of line i
abbrev pub rounding_multiplier : System → ℕ → ℕ → ℕ
rounding_multiplier s r i = multiplier (pivot_entry s r) ((row s r).entry (s.width + i))

-- the multipliers of the first n lines that aren't 0, each with the chosen row of its line
abbrev pub first_pairs : System → List ℕ → ℕ → ℕ → List (ℕ × ℕ)
first_pairs s chosen r n =
    filter (λ q. not (q.1 == 0))
    (map (λ i. (slice_index chosen i, rounding_multiplier s r i)) (range_with_len 0 n))

-- those of all lines of chosen rows
abbrev pub rounding_pairs : System → List ℕ → ℕ → List (ℕ × ℕ)
rounding_pairs s chosen r = first_pairs s chosen r (length chosen)

-- row r names a rounding: its basic variable is structural, with a value that isn't whole
pub record NamesRounding (s : System) (r : ℕ) : Type 0 where
  pub there : r < length s.rows
  pub structural : basic s r < s.width
  pub part : IsValueWhole s 1 r → ⊥

-- the rounding that row r names, over these chosen rows
abbrev pub rounding_of : System → List ℕ → ℕ → Record
rounding_of s chosen r = Round (denominator s r) (rounding_pairs s chosen r)
