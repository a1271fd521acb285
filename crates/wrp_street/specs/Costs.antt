-- What a field says of a direction.
use Rattle.std.specs.Prelude.{ℕ, List, length, Bool, Option, Some, None, if◌then◌else◌, ◌==◌, ◌&&◌, nat_le, codes}
use Rattle.std.specs.Char.{is_ascii_digit}
use Rattle.std.specs.List.{list_all}
use Rattle.std.specs.Str.{bytes_eq}
use Rattle.std.specs.Str.Parse.{digits_value}
use Rattle.wrp_records.specs.Fields.{trimmed}
use Rattle.wrp_town.specs.Limits.{cost_limit}

-- the most digits of a cost
abbrev pub digit_limit : ℕ
digit_limit = 10

-- whether a text is a dash
abbrev pub is_dash : List ℕ → Bool
is_dash text = bytes_eq text (codes "-")

-- whether a text is a few digits, and the number that they write is within the limit
abbrev pub is_cost_number : List ℕ → Bool
is_cost_number text =
    nat_le (length text) digit_limit
    && (list_all is_ascii_digit text && nat_le (digits_value 10 text) cost_limit)

-- what a text says of a direction: `Some None` that it is illegal, `Some (Some cost)` that it is
-- legal, and `None` is a fault
abbrev pub cost_of_text : List ℕ → Option (Option ℕ)
cost_of_text text =
    if length text == 0 then Some None
    else if is_dash text then Some None
    else if is_cost_number text then Some (Some (digits_value 10 text))
    else None

-- what a field says of a direction
unfoldable pub cost_of : List ℕ → Option (Option ℕ)
cost_of field = cost_of_text (trimmed field)
