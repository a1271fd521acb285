-- Valid lists of records, and the ends that agree with them.
use Rattle.std.specs.Prelude.{ℕ, Bool, true, false, ◌&&◌, not, ◌==◌, pos, List, [], ◌∷◌, length, is_none}
use Rattle.std.specs.Option.{option_map_or}
use Rattle.std.specs.List.{list_all}
use Rattle.wrp_town.specs.declared.town.Town.{Town}
use Rattle.wrp_rules.specs.declared.record.Record.{Record}
use Rattle.wrp_rules.specs.declared.record.End.{End}
use Rattle.wrp_rules.specs.declared.record.End.TheVariants.{Optimal, Infeasible, Unfinished}
use Rattle.wrp_rules.specs.Nodes.{Standing, start, after, open_nodes, lower}
use Rattle.wrp_rules.specs.Rules.{broken_rule, is_labels, int_eq}

-- each of these records breaks no rule after those that stand and those before it
abbrev pub goes_on : Town → Standing → List Record → Bool
goes_on town s [] = true
goes_on town s (item ∷ items) =
    is_none (broken_rule town s item) && goes_on town (after town s item) items

-- each record breaks no rule after those before it
abbrev pub is_valid : Town → List Record → Bool
is_valid town records = goes_on town (start town) records

-- the cheapest tour has this cost
abbrev pub is_upper : Standing → ℕ → Bool
is_upper s cost = option_map_or (λ upper. upper == cost) s.upper false

-- no node is open
abbrev pub is_done : Standing → Bool
is_done s = length (open_nodes s) == 0

-- an end that agrees with what stands
abbrev pub agrees : Standing → End → Bool
agrees s (Optimal cost) = is_done s && is_upper s cost
agrees s Infeasible = (length s.records == 1) && list_all is_labels s.records
agrees s (Unfinished low high) =
    not (is_done s) && is_upper s high && option_map_or (int_eq (pos low)) (lower s) false
