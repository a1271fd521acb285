-- The limits of a town, and the lower ones of a small town.
use Rattle.std.specs.Prelude.{ℕ}

-- the most junctions, streets and demands of a town, and the most that a direction costs
abbrev pub junction_limit : ℕ
junction_limit = 2000

abbrev pub street_limit : ℕ
street_limit = 4000

abbrev pub demand_limit : ℕ
demand_limit = 4000

abbrev pub cost_limit : ℕ
cost_limit = 1000000000

-- the same of a small town
abbrev pub small_junction_limit : ℕ
small_junction_limit = 500

abbrev pub small_street_limit : ℕ
small_street_limit = 1000

abbrev pub small_demand_limit : ℕ
small_demand_limit = 1000

abbrev pub small_cost_limit : ℕ
small_cost_limit = 1000000
