-- Towns that are drawn: streets of a grid, whose costs and needs come from a generator of numbers.
use Rattle.std.specs.Prelude.{ℕ, ◌+◌, ◌*◌, ◌/◌, ◌%◌, ◌^◌, Bool, true, false, ◌&&◌, if◌then◌else◌, ◌==◌, nat_lt, nat_le, codes, List, [], ◌∷◌, ◌++◌, Option, None, Some}
use Rattle.std.specs.Fmt.{decimal}
use Rattle.std.specs.List.{flat_map, range_with_len}
use Rattle.wrp_town.specs.declared.street.Need.TheVariants.{No, Either}
use Rattle.wrp_street.specs.declared.row.Row.{Row}
use Rattle.wrp_street.specs.Tables.{Table, no_rows, with_row}
use Rattle.wrp_report.specs.declared.grid.Plan.{Plan}

-- the state of the generator after a draw, and the number below k that it gives
abbrev pub next_state : ℕ → ℕ
next_state x = (1103515245 * x + 12345) % 2 ^ 31

abbrev pub drawn : ℕ → ℕ → ℕ
drawn k x = (x / 65536) % k

-- the name of a junction
abbrev pub point : ℕ → ℕ → List ℕ
point x y = decimal x ++ (codes "." ++ decimal y)

-- the name of a street, and the junctions where it begins and ends
abbrev pub street_text : Plan → List ℕ
street_text plan = (if plan.east then codes "e" else codes "s") ++ point plan.x plan.y

abbrev pub end_point : Plan → List ℕ
end_point plan = if plan.east then point (plan.x + 1) plan.y else point plan.x (plan.y + 1)

-- some streets may have one direction alone
abbrev pub may_be_one_way : Plan → Bool
may_be_one_way plan = plan.east && nat_le 1 plan.y

-- the cost of a direction, none where the street hasn't got it
abbrev pub cost_drawn : Bool → ℕ → Option ℕ
cost_drawn is_closed draw = if is_closed then None else Some (draw + 1)

-- the row of a street, drawn from this state: two costs, a kind and a need
abbrev pub row_with : Plan → ℕ → ℕ → ℕ → ℕ → Row
row_with plan f b kind need = record {
  street = street_text plan;
  from = point plan.x plan.y;
  to = end_point plan;
  forward = cost_drawn (may_be_one_way plan && (kind == 1)) f;
  backward = cost_drawn (may_be_one_way plan && (kind == 0)) b;
  need = if need == 1 then Either else No;
}

abbrev pub row_drawn : Plan → ℕ → Row
row_drawn plan x =
    row_with plan (drawn 9 (next_state x)) (drawn 9 (next_state (next_state x)))
    (drawn 4 (next_state (next_state (next_state x))))
    (drawn 2 (next_state (next_state (next_state (next_state x)))))

abbrev pub state_after : ℕ → ℕ
state_after x = next_state (next_state (next_state (next_state x)))

-- the streets that begin at a junction: to the east, then to the south
abbrev pub plans_at : ℕ → ℕ → ℕ → ℕ → List Plan
plans_at width height y x =
    (if nat_lt (x + 1) width then record { east = true; x = x; y = y } ∷ [] else [])
    ++ (if nat_lt (y + 1) height then record { east = false; x = x; y = y } ∷ [] else [])

-- those of a row of junctions, and all
abbrev pub plans_in : ℕ → ℕ → ℕ → List Plan
plans_in width height y = flat_map (plans_at width height y) (range_with_len 0 width)

abbrev pub plans_of : ℕ → ℕ → List Plan
plans_of width height = flat_map (plans_in width height) (range_with_len 0 height)

-- a table with the rows of some streets behind it
abbrev pub with_plans : Table → ℕ → List Plan → Table
with_plans table x [] = table
with_plans table x (plan ∷ plans) =
    with_plans (with_row table (row_drawn plan x)) (state_after x) plans

-- the table of the town that a seed gives
abbrev pub grid_of : ℕ → ℕ → ℕ → Table
grid_of seed width height = with_plans no_rows seed (plans_of width height)
