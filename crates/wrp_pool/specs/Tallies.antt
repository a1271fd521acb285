-- A number for each arc, and the list of the arcs that may have one other than 0.
use Rattle.std.specs.Prelude.{◌≡◌, ℕ, ◌+◌, ◌*◌, ◌^◌, ◌≤◌, ◌==◌, cond, Bool, true, false, ℤ, pos, ◌+ℤ◌, ◌*ℤ◌, List, [], length, slice_index_or, unsigned_abs}
use Rattle.std.specs.List.{All, count_by}
use Rattle.wrp_sums.specs.Sums.{coef_at}
use Rattle.wrp_town.specs.declared.town.Town.{Town}
use Rattle.wrp_town.specs.Arcs.{is_legal}
use Rattle.wrp_pool.specs.declared.row.Pool.{Pool}
use Rattle.wrp_pool.specs.declared.tally.Tally.{Tally}
use Rattle.wrp_pool.specs.Pools.{combined_coef, combined_side}

-- the number of an arc
abbrev pub number_of : Tally → ℕ → ℤ
number_of tally arc = slice_index_or tally.numbers.items arc (pos 0)

-- the arc is listed
abbrev pub is_listed : Tally → ℕ → Bool
is_listed tally arc = slice_index_or tally.marks.items arc false

-- numbers of the arcs of a town; each arc that is listed is legal and listed once, and each other
-- arc has the number 0
pub record IsTally (town : Town) (tally : Tally) : Type 0 where
  pub numbers : length tally.numbers.items ≡ 2 * length town.streets
  pub marks : length tally.marks.items ≡ 2 * length town.streets
  pub once : (arc : ℕ) → count_by (λ a. a == arc) tally.listed.items ≡ cond (is_listed tally arc) 1 0
  pub blank : (arc : ℕ) → is_listed tally arc ≡ false → number_of tally arc ≡ pos 0
  pub legal : All (λ a. is_legal town a ≡ true) tally.listed.items

-- no arc is listed, so that each number is 0
pub record IsBlank (town : Town) (tally : Tally) : Type 0 where
  pub is_tally : IsTally town tally
  pub none : tally.listed.items ≡ []

-- each number is at most that in size
abbrev pub AreWithin : ℕ → Tally → Type 0
AreWithin most tally = (arc : ℕ) → unsigned_abs (number_of tally arc) ≤ most

-- one more arc is listed, if it wasn't, and no number has changed
pub record Lists (town : Town) (at : ℕ) (old new : Tally) : Type 0 where
  pub is_tally : IsTally town new
  pub same : new.numbers.items ≡ old.numbers.items
  pub listed : is_listed new at ≡ true
  pub kept : (arc : ℕ) → is_listed old arc ≡ true → is_listed new arc ≡ true

-- the number of one arc has grown by so much
pub record Adds (town : Town) (at : ℕ) (number : ℤ) (old new : Tally) : Type 0 where
  pub is_tally : IsTally town new
  pub exact : (arc : ℕ) → number_of new arc ≡ number_of old arc +ℤ cond (at == arc) number (pos 0)

-- a number, times a weight of at most 2^60
pub record IsWeighted (weight : ℕ) (number product : ℤ) : Type 0 where
  pub exact : product ≡ pos weight *ℤ number
  pub size : unsigned_abs product ≤ 2 ^ 83

-- each number has grown by its coefficient in the terms, times the weight
pub record Grows (town : Town) (terms : List (ℕ × ℤ)) (weight : ℕ) (old new : Tally) : Type 0 where
  pub is_tally : IsTally town new
  pub exact : (arc : ℕ) → number_of new arc ≡ number_of old arc +ℤ pos weight *ℤ coef_at terms arc
  pub size : (arc : ℕ) → unsigned_abs (number_of new arc) ≤ unsigned_abs (number_of old arc) + 2 ^ 80

-- the greatest size of a coefficient, and of the right side, in a combination of at most 4,096 rows
abbrev pub most_combined : ℕ
most_combined = 2 ^ 92

abbrev pub most_combined_side : ℕ
most_combined_side = 2 ^ 95

-- the numbers are the coefficients of the combined rows, and this is their right side
pub record IsCombined (town : Town) (pool : Pool) (multipliers : List (ℕ × ℕ)) (tally : Tally)
    : Type 0 where
  pub is_tally : IsTally town tally
  pub exact : (arc : ℕ) → number_of tally arc ≡ combined_coef pool multipliers arc
  pub size : AreWithin most_combined tally

pub record IsCombinedSide (pool : Pool) (multipliers : List (ℕ × ℕ)) (side : ℤ) : Type 0 where
  pub exact : side ≡ combined_side pool multipliers
  pub size : unsigned_abs side ≤ most_combined_side
