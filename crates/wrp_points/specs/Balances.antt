-- The surplus of each junction: what leaves it less what enters it.
use Rattle.std.specs.Prelude.{◌≡◌, ℕ, ◌<◌, Bool, true, false, if◌then◌else◌, ◌==◌, ℤ, pos, ◌+ℤ◌, ◌*ℤ◌, List, length, slice_index_or}
use Rattle.wrp_sums.specs.Sums.{sum_over}
use Rattle.wrp_town.specs.declared.town.Town.{Town}
use Rattle.wrp_town.specs.Arcs.{tail_of, head_of}
use Rattle.wrp_rules.specs.Rows.{balance_row}

-- the surplus of a junction in a table
abbrev pub surplus_at : List ℤ → ℕ → ℤ
surplus_at surplus j = slice_index_or surplus j (pos 0)

-- that of one junction has grown by an amount
abbrev pub Shifts : ℕ → ℤ → List ℤ → List ℤ → Type 0
Shifts junction amount old new =
    (j : ℕ) → surplus_at new j ≡ surplus_at old j +ℤ (if j == junction then amount else pos 0)

-- the surplus of a junction at a point
abbrev pub surplus_of : Town → List (ℕ × ℕ) → ℕ → ℤ
surplus_of town numbers j = sum_over (λ q. pos q.1 *ℤ (balance_row town j).coef q.0) numbers

-- the table has the surplus of each junction
abbrev pub HasSurplus : Town → List (ℕ × ℕ) → List ℤ → Type 0
HasSurplus town numbers surplus = (j : ℕ) → surplus_at surplus j ≡ surplus_of town numbers j

-- the arc of a place in the list
abbrev pub arc_at : List (ℕ × ℕ) → ℕ → ℕ
arc_at numbers i = (slice_index_or numbers i (0, 0)).0

-- the ends of every listed arc have no surplus, or some junction has one
abbrev pub AreEven : Town → List (ℕ × ℕ) → List ℤ → Bool → Type 0
AreEven town numbers surplus true =
    (i : ℕ) → i < length numbers
    → (surplus_at surplus (tail_of town (arc_at numbers i)) ≡ pos 0)
    × (surplus_at surplus (head_of town (arc_at numbers i)) ≡ pos 0)
AreEven town numbers surplus false =
    (j : ℕ) × (j < length town.junctions) × (surplus_at surplus j ≡ pos 0 → ⊥)
