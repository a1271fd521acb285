-- What a street needs of the numbers of its two ways.
use Rattle.std.specs.Prelude.{ℕ, ◌+◌, ◌≤◌, ⊤}
use Rattle.wrp_town.specs.declared.street.Need.{Need}
use Rattle.wrp_town.specs.declared.street.Need.TheVariants.{No, Either, Forward, Backward, Both}

-- the numbers over e are enough for the need
abbrev pub IsEnough : Need → ℕ → ℕ → ℕ → Type 0
IsEnough No e forward backward = ⊤
IsEnough Either e forward backward = e ≤ forward + backward
IsEnough Forward e forward backward = e ≤ forward
IsEnough Backward e forward backward = e ≤ backward
IsEnough Both e forward backward = (e ≤ forward) × (e ≤ backward)
