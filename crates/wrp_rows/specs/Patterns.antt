-- What the coefficients of a new row follow from.
use Rattle.std.specs.Prelude.{◌≡◌, ℕ, ◌-◌, ◌*◌, ◌≤◌, Bool, true, false, ◌&&◌, ◌||◌, not, if◌then◌else◌, ◌==◌, nat_le, ℤ, pos, length, slice_index, unsigned_abs}
use Rattle.std.specs.Int.{abs_diff}
use Rattle.std.specs.List.{list_all, count_by}
use Rattle.wrp_town.specs.declared.town.Town.{Town}
use Rattle.wrp_town.specs.Arcs.{is_legal, tail_of, head_of, demands}
use Rattle.wrp_rules.specs.Sets.{arc_at}
use Rattle.wrp_rules.specs.Rows.{one_if, most_coefficient}
use Rattle.wrp_rows.specs.declared.pattern.Pattern.{Pattern}
use Rattle.wrp_rows.specs.declared.pattern.Pattern.TheVariants.{Leaving, Crossing, Chain, Sums}
use Rattle.wrp_rows.specs.Marks.{is_marked, differ}
use Rattle.wrp_rows.specs.Tables.{number_at}

-- two sets are the first and the last of a chain
abbrev pub are_ends : ℕ → ℕ → ℕ → Bool
are_ends k i j = ((i == 0) && (j == k)) || ((i == k) && (j == 0))

-- how far apart two sets of a chain are
abbrev pub distance : ℕ → ℕ → ℕ → ℕ
distance k i j = if are_ends k i j then k - 2 else abs_diff i j

-- the coefficient of an arc by the pattern
abbrev pub coef_by : Town → Pattern → ℕ → ℤ
coef_by town (Leaving marks) arc =
    one_if (is_marked marks.now (tail_of town arc) && not (is_marked marks.now (head_of town arc)))
coef_by town (Crossing marks) arc =
    one_if (differ marks.now (tail_of town arc) (head_of town arc))
coef_by town (Chain k of) arc =
    pos (distance k (slice_index of.now (tail_of town arc)) (slice_index of.now (head_of town arc)))
coef_by town (Sums sums) arc = number_at sums.now arc

-- a street between these two junctions counts for the right side
abbrev pub joins : Pattern → ℕ → ℕ → Bool
joins (Crossing marks) i j = differ marks.now i j
joins (Chain k of) i j = are_ends k (slice_index of.now i) (slice_index of.now j)
joins pattern i j = false

abbrev pub joins_by : Town → Pattern → ℕ → Bool
joins_by town pattern arc = joins pattern (tail_of town arc) (head_of town arc)

-- how many demands have such a street
abbrev pub demands_by : Town → Pattern → ℕ
demands_by town pattern = count_by (λ demand. joins_by town pattern (arc_at demand)) (demands town)

-- a pattern of this town: a mark or set number for each junction, or a small number for each arc
abbrev pub Fits : Town → Pattern → Type 0
Fits town (Leaving marks) = length marks.now ≡ length town.junctions
Fits town (Crossing marks) = length marks.now ≡ length town.junctions
Fits town (Chain k of) =
    (length of.now ≡ length town.junctions) × (list_all (λ i. nat_le i k) of.now ≡ true)
    × (2 ≤ k) × (k ≤ most_coefficient)
Fits town (Sums sums) =
    (length sums.now ≡ 2 * length town.streets)
    × ((arc : ℕ) → is_legal town arc ≡ true
    → unsigned_abs (number_at sums.now arc) ≤ most_coefficient)
