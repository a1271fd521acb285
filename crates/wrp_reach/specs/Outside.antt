-- Streets with a demand that isn't met within a label.
use Rattle.std.specs.Prelude.{◌≡◌, ℕ, ◌<◌, true, false, List, length}
use Rattle.wrp_town.specs.declared.town.Town.{Town}
use Rattle.wrp_rules.specs.Rules.{breaks_label}

-- the street is there, and has a demand none of whose legal arcs has both ends at the label
abbrev pub HasOutside : Town → List ℕ → ℕ → ℕ → Type 0
HasOutside town labels label street =
    (street < length town.streets) × (breaks_label town labels label street ≡ true)

-- no street has such a demand
abbrev pub HasNoneOutside : Town → List ℕ → ℕ → Type 0
HasNoneOutside town labels label =
    (street : ℕ) → street < length town.streets → breaks_label town labels label street ≡ false
