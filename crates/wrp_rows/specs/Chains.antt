-- The inner sets of a chain, street after street.
use Rattle.std.specs.Prelude.{ℕ, Bool, List}
use Rattle.std.specs.List.{list_any, range_with_len}
use Rattle.wrp_town.specs.declared.town.Town.{Town}
use Rattle.wrp_rules.specs.Rows.{is_held}

-- one of the first n streets is required and lies wholly in set i
abbrev pub holds_within : Town → List ℕ → ℕ → ℕ → Bool
holds_within town of i n = list_any (is_held town of i) (range_with_len 0 n)
