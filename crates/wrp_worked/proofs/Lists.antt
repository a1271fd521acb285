-- Valid lists of records and the ends that agree with them, worked out on small towns.
use Rattle.std.proofs.Common.{◌≡◌, ℕ, pos, false, List, [], ◌∷◌, ◌++◌, Some, refl}
use Rattle.std.specs.Prelude.{map}
use Rattle.wrp_town.specs.Arcs.{is_small}
use Rattle.wrp_rules.specs.declared.record.Record.{Record}
use Rattle.wrp_rules.specs.declared.record.Record.TheVariants.{Tour, Conn, Odd, Round, Kc, Bound, Empty, Apart, Point, Blind, Split, Labels}
use Rattle.wrp_rules.specs.declared.record.End.TheVariants.{Optimal, Infeasible, Unfinished}
use Rattle.wrp_sums.specs.Duality.{dual_value}
use Rattle.wrp_rules.specs.Rows.{row_at, kc_row}
use Rattle.wrp_rules.specs.Nodes.{standing, lower, program, root}
use Rattle.wrp_rules.specs.Lists.{agrees}
use Rattle.wrp_worked.proofs.Towns.{IsAccepted, forth, back, no_street, round_trip, windy_street, one_way_street, closed_street, two_parts, shared_arc, loop_street, parallel_streets, both_ways, one_direction, wrong_direction, dear_return, costly_street, chained_parts, grid}

-- the one tour of a single street, there and back
abbrev pub there_and_back : ℕ → Record
there_and_back cost = Tour cost (forth 0 ∷ back 0 ∷ [])

-- the cheapest tour of the two parts
abbrev pub parts_tour : Record
parts_tour = Tour 24 (forth 0 ∷ forth 1 ∷ forth 2 ∷ back 2 ∷ back 1 ∷ back 0 ∷ [])

-- the cheapest tour of the chain
abbrev pub chain_tour : Record
chain_tour = Tour 6 (forth 0 ∷ back 1 ∷ forth 4 ∷ forth 2 ∷ forth 5 ∷ forth 3 ∷ back 5 ∷ back 4 ∷ [])

-- a bound from a cut that an odd number of demands cross, with multipliers over 2
abbrev pub odd_list : List Record
odd_list = there_and_back 5 ∷ Odd (0 ∷ []) ∷ Bound 0 2 ((1, 1) ∷ (3, 5) ∷ []) ∷ []

pub odd_cut_counts_twice : IsAccepted windy_street odd_list (Optimal 5)
odd_cut_counts_twice = (refl, refl)

-- its value is twice the least cost, since the denominator is 2
pub odd_value_is_over_two : dual_value (program windy_street (standing windy_street odd_list).rows (root windy_street)) 2 ((1, 1) ∷ (3, 5) ∷ []) ≡ pos 10
odd_value_is_over_two = refl

-- two roundings say that each arc is used
abbrev pub rounded_list : List Record
rounded_list = there_and_back 5 ∷ Round 2 ((1, 1) ∷ (2, 1) ∷ []) ∷ Round 2 ((0, 1) ∷ (2, 1) ∷ []) ∷ Bound 0 1 ((3, 3) ∷ (4, 2) ∷ []) ∷ []

pub rounding_proves_the_same : IsAccepted windy_street rounded_list (Optimal 5)
rounding_proves_the_same = (refl, refl)

-- the first rounding asks for arc 1 alone, once
pub first_rounding_asks_for_arc_1 :
    (map (row_at (standing windy_street rounded_list).rows 3).coef (0 ∷ 1 ∷ []) ≡ pos 0 ∷ pos 1 ∷ [])
    × ((row_at (standing windy_street rounded_list).rows 3).right_side ≡ pos 1)
first_rounding_asks_for_arc_1 = (refl, refl)

-- and the second for arc 0
pub second_rounding_asks_for_arc_0 :
    (map (row_at (standing windy_street rounded_list).rows 4).coef (0 ∷ 1 ∷ []) ≡ pos 1 ∷ pos 0 ∷ [])
    × ((row_at (standing windy_street rounded_list).rows 4).right_side ≡ pos 1)
second_rounding_asks_for_arc_0 = (refl, refl)

-- no arc leads to a higher label, and the street between the labels is required
pub labels_show_no_return : IsAccepted one_way_street (Labels (1 ∷ 0 ∷ []) (0 ∷ 0 ∷ []) ∷ []) Infeasible
labels_show_no_return = (refl, refl)

-- connectivity cuts and odd cuts together reach the cost of crossing the dear street twice
pub cuts_join_the_parts :
    IsAccepted two_parts
    (parts_tour ∷ Odd (0 ∷ []) ∷ Odd (3 ∷ []) ∷ Conn 0 2 (0 ∷ 1 ∷ []) ∷ Conn 2 0 (2 ∷ 3 ∷ []) ∷ Bound 0 1 ((6, 1) ∷ (7, 1) ∷ (8, 10) ∷ (9, 10) ∷ []) ∷ [])
    (Optimal 24)
cuts_join_the_parts = (refl, refl)

-- a bound may go below zero in a reduced cost, which counts as often as there are demands
pub negative_costs_count :
    IsAccepted windy_street (there_and_back 5 ∷ Odd (0 ∷ []) ∷ Bound 0 2 ((1, 1) ∷ (3, 6) ∷ []) ∷ []) (Optimal 5)
negative_costs_count = (refl, refl)

-- a split without a point, one half emptied and the other bounded
pub tree_needs_no_cut :
    IsAccepted windy_street
    (there_and_back 5 ∷ Blind 0 ∷ Split 0 0 0 ∷ Empty 1 ((0, 1) ∷ (2, 1) ∷ []) ∷ Bound 2 1 ((1, 3) ∷ []) ∷ []) (Optimal 5)
tree_needs_no_cut = (refl, refl)

-- a bound and a point of the same cost before a split
abbrev pub pointed : List Record
pointed = there_and_back 5 ∷ Bound 0 2 ((1, 1) ∷ (2, 5) ∷ []) ∷ Point 0 2 ((0, 1) ∷ (1, 1) ∷ []) ∷ []

pub point_allows_a_split :
    IsAccepted windy_street (pointed ++ Split 0 0 0 ∷ Empty 1 ((0, 1) ∷ (2, 1) ∷ []) ∷ Bound 2 1 ((1, 3) ∷ []) ∷ []) (Optimal 5)
point_allows_a_split = (refl, refl)

-- the bound there is 5 over 2, rounded up
pub root_bound_is_rounded_up : lower (standing windy_street pointed) ≡ Some (pos 3)
root_bound_is_rounded_up = refl

-- where no arc leaves a part, the node is closed and the other stays open
pub part_without_exit_is_closed :
    IsAccepted two_parts (parts_tour ∷ Blind 0 ∷ Split 0 2 0 ∷ Apart 1 0 2 (0 ∷ 1 ∷ []) ∷ []) (Unfinished 0 24)
part_without_exit_is_closed = (refl, refl)

-- the cheapest tour takes the street beside the required one
pub cheaper_way_is_taken :
    IsAccepted parallel_streets (Tour 4 (forth 1 ∷ back 0 ∷ []) ∷ Odd (0 ∷ []) ∷ Bound 0 1 ((1, 1) ∷ (3, 2) ∷ []) ∷ [])
    (Optimal 4)
cheaper_way_is_taken = (refl, refl)

-- a chain of parts is bounded by one cut
pub chain_cut_bounds :
    IsAccepted chained_parts (chain_tour ∷ Kc 3 (0 ∷ 3 ∷ 1 ∷ 2 ∷ []) ∷ Bound 0 1 ((8, 1) ∷ []) ∷ []) (Optimal 6)
chain_cut_bounds = (refl, refl)

-- and the right side of that cut is the least cost
pub chain_cut_has_side_6 : (kc_row chained_parts 3 (0 ∷ 3 ∷ 1 ∷ 2 ∷ [])).right_side ≡ pos 6
chain_cut_has_side_6 = refl

-- a ring is bounded by its demands alone
pub ring_needs_no_cut :
    IsAccepted round_trip
    (Tour 12 (forth 0 ∷ forth 1 ∷ forth 2 ∷ []) ∷ Bound 0 1 ((3, 3) ∷ (4, 4) ∷ (5, 5) ∷ []) ∷ []) (Optimal 12)
ring_needs_no_cut = (refl, refl)

-- where nothing is there, the empty walk is optimal
pub empty_walk_is_optimal : IsAccepted no_street (Tour 0 [] ∷ []) (Optimal 0)
empty_walk_is_optimal = (refl, refl)

-- a street without legal directions needs one label
pub one_label_shows_no_direction : IsAccepted closed_street (Labels (0 ∷ 0 ∷ []) (0 ∷ []) ∷ []) Infeasible
one_label_shows_no_direction = (refl, refl)

-- balance at the junctions asks for the shared arc twice
pub shared_arc_is_used_twice :
    IsAccepted shared_arc
    (Tour 9 (forth 0 ∷ forth 1 ∷ forth 2 ∷ forth 0 ∷ forth 3 ∷ []) ∷ Bound 0 1 ((0, 1) ∷ (2, 2) ∷ (3, 3) ∷ (4, 6) ∷ []) ∷ [])
    (Optimal 9)
shared_arc_is_used_twice = (refl, refl)

-- a loop is a tour of one step
pub loop_is_a_tour : IsAccepted loop_street (Tour 7 (forth 0 ∷ []) ∷ Bound 0 1 ((1, 7) ∷ []) ∷ []) (Optimal 7)
loop_is_a_tour = (refl, refl)

-- each direction has a demand of its own: its bound is two demands times the costs of their arcs
abbrev pub both_ways_list : List Record
both_ways_list = there_and_back 5 ∷ Bound 0 1 ((2, 2) ∷ (3, 3) ∷ []) ∷ []

pub both_directions_are_served : IsAccepted both_ways both_ways_list (Optimal 5)
both_directions_are_served = (refl, refl)

-- a demand of one direction, and balance for the way back
pub one_direction_is_served :
    IsAccepted one_direction (there_and_back 5 ∷ Bound 0 1 ((1, 3) ∷ (2, 5) ∷ []) ∷ []) (Optimal 5)
one_direction_is_served = (refl, refl)

-- a demand whose only arc isn't legal can't be served
pub wrong_direction_has_no_tour : IsAccepted wrong_direction (Labels (0 ∷ 0 ∷ []) (0 ∷ []) ∷ []) Infeasible
wrong_direction_has_no_tour = (refl, refl)

-- the way out is the cheap one, though another is beside the street
pub dear_return_is_served :
    IsAccepted dear_return (Tour 10 (back 0 ∷ forth 0 ∷ []) ∷ Bound 0 1 ((0, 1) ∷ (3, 10) ∷ []) ∷ []) (Optimal 10)
dear_return_is_served = (refl, refl)

-- costs above a million are proved alike
pub costly_street_is_proved :
    IsAccepted costly_street (there_and_back 1000004 ∷ Odd (0 ∷ []) ∷ Bound 0 2 ((0, 999998) ∷ (3, 1000004) ∷ []) ∷ []) (Optimal 1000004)
costly_street_is_proved = (refl, refl)

-- but not in the first version, which is for small towns
pub costly_street_is_not_small : is_small costly_street ≡ false
costly_street_is_not_small = refl

-- no end agrees that no record reaches
pub no_record_is_not_optimal : agrees (standing windy_street []) (Optimal 5) ≡ false
no_record_is_not_optimal = refl

-- a tour alone leaves the search unfinished, from 0 to its cost
pub tour_alone_is_unfinished : IsAccepted windy_street (there_and_back 5 ∷ []) (Unfinished 0 5)
tour_alone_is_unfinished = (refl, refl)

-- and no other end agrees with it
pub tour_alone_proves_no_more :
    (agrees (standing windy_street (there_and_back 5 ∷ [])) (Optimal 5) ≡ false)
    × (agrees (standing windy_street (there_and_back 5 ∷ [])) Infeasible ≡ false)
    × (agrees (standing windy_street (there_and_back 5 ∷ [])) (Unfinished 1 5) ≡ false)
    × (agrees (standing windy_street (there_and_back 5 ∷ [])) (Unfinished 0 6) ≡ false)
tour_alone_proves_no_more = (refl, refl, refl, refl)

-- a proved optimum is no unfinished end, and no other cost
pub optimum_is_the_one_end :
    (agrees (standing windy_street odd_list) (Unfinished 5 5) ≡ false)
    × (agrees (standing windy_street odd_list) (Optimal 4) ≡ false)
    × (agrees (standing windy_street odd_list) (Optimal 6) ≡ false)
    × (agrees (standing windy_street odd_list) Infeasible ≡ false)
optimum_is_the_one_end = (refl, refl, refl, refl)

-- a tour of the grid drives the two streets at each of two corners twice
abbrev pub grid_tour : Record
grid_tour =
    Tour 16
    (forth 1 ∷ forth 6 ∷ forth 10 ∷ forth 11 ∷ back 9 ∷ forth 9 ∷ back 11 ∷ back 8 ∷ forth 7 ∷ back 4 ∷ back 2 ∷ back 0 ∷ forth 1 ∷ forth 5 ∷ back 3 ∷ back 0 ∷ [])

-- a cut for the middle of each side, where three streets meet
abbrev pub grid_list : List Record
grid_list = grid_tour ∷ Odd (1 ∷ []) ∷ Odd (2 ∷ []) ∷ Odd (5 ∷ []) ∷ Odd (7 ∷ []) ∷ Bound 0 1 ((21, 1) ∷ (22, 1) ∷ (23, 1) ∷ (24, 1) ∷ []) ∷ []

pub side_cuts_bound_the_grid : IsAccepted grid grid_list (Optimal 16)
side_cuts_bound_the_grid = (refl, refl)

-- each of these cuts is crossed four times
pub side_cuts_have_side_4 : map (λ i. (row_at (standing grid grid_list).rows i).right_side) (21 ∷ 22 ∷ 23 ∷ 24 ∷ []) ≡ pos 4 ∷ pos 4 ∷ pos 4 ∷ pos 4 ∷ []
side_cuts_have_side_4 = refl
