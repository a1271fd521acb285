-- Each rule at a record that breaks it first: nodes, points, labels, numbers and what has to be there.
use Rattle.std.proofs.Common.{◌+◌, ◌^◌, [], ◌∷◌, refl}
use Rattle.wrp_rules.specs.declared.record.Record.TheVariants.{Tour, Conn, Odd, Kc, Bound, Empty, Apart, Point, Blind, Split, Labels}
use Rattle.wrp_rules.specs.declared.rule.Rule.TheVariants as rules
use Rattle.wrp_worked.proofs.Towns.{IsRefused, forth, back, windy_street, one_way_street, two_parts, dear_return, chained_parts}
use Rattle.wrp_worked.proofs.Lists.{there_and_back, parts_tour, chain_tour, odd_list}

-- a bound of 0 isn't above the root's bound of 0
pub bound_rises : IsRefused windy_street (there_and_back 5 ∷ []) (Bound 0 1 []) rules.Low
bound_rises = refl

-- the second of two equal bounds isn't above the first
pub equal_bound_is_low : IsRefused windy_street (there_and_back 5 ∷ Bound 0 1 ((2, 2) ∷ []) ∷ []) (Bound 0 1 ((2, 2) ∷ [])) rules.Low
equal_bound_is_low = refl

-- an emptied node has a value above 0
pub empty_value_is_above_0 : IsRefused windy_street (there_and_back 5 ∷ Blind 0 ∷ Split 0 0 0 ∷ []) (Empty 1 []) rules.Low
empty_value_is_above_0 = refl

-- the node that uses the arc isn't emptied by the same multipliers
pub used_arc_is_not_empty : IsRefused windy_street (there_and_back 5 ∷ Blind 0 ∷ Split 0 0 0 ∷ []) (Empty 2 ((0, 1) ∷ (2, 1) ∷ [])) rules.Low
used_arc_is_not_empty = refl

-- a node whose bound is the cheapest tour's cost isn't open
pub bounded_node_is_closed : IsRefused windy_street odd_list (Blind 0) rules.Closed
bounded_node_is_closed = refl

-- a split node isn't open
pub split_node_is_closed : IsRefused windy_street (there_and_back 5 ∷ Blind 0 ∷ Split 0 0 0 ∷ []) (Blind 0) rules.Closed
split_node_is_closed = refl

-- an emptied node isn't open
pub emptied_node_is_closed : IsRefused windy_street (there_and_back 5 ∷ Blind 0 ∷ Split 0 0 0 ∷ Empty 1 ((0, 1) ∷ (2, 1) ∷ []) ∷ []) (Blind 1) rules.Closed
emptied_node_is_closed = refl

-- a split makes two nodes, no more
pub split_makes_two_nodes : IsRefused windy_street (there_and_back 5 ∷ Blind 0 ∷ Split 0 0 0 ∷ []) (Blind 3) rules.Range
split_makes_two_nodes = refl

-- a point uses no arc more often than there are demands
pub point_stays_in_the_box : IsRefused windy_street (there_and_back 5 ∷ []) (Point 0 1 ((0, 2) ∷ (1, 2) ∷ [])) rules.Box
point_stays_in_the_box = refl

-- a point uses an arc as often as its node asks
pub point_meets_the_least_number : IsRefused windy_street (there_and_back 5 ∷ Blind 0 ∷ Split 0 0 0 ∷ []) (Point 2 1 []) rules.Box
point_meets_the_least_number = refl

-- as much enters a junction as leaves it
pub point_is_balanced : IsRefused windy_street (there_and_back 5 ∷ []) (Point 0 1 ((0, 1) ∷ [])) rules.Balance
point_is_balanced = refl

-- a point serves each demand
pub point_serves : IsRefused windy_street (there_and_back 5 ∷ []) (Point 0 1 []) rules.Service
point_serves = refl

-- a point names legal arcs
pub point_names_legal_arcs : IsRefused one_way_street [] (Point 0 1 ((1, 1) ∷ [])) rules.Range
point_names_legal_arcs = refl

-- no legal arc leads to a higher label
pub labels_fall : IsRefused one_way_street [] (Labels (0 ∷ 1 ∷ []) (0 ∷ 0 ∷ [])) rules.Rise
labels_fall = refl

-- a street that stays at its label shows nothing
pub label_needs_a_crossing_street : IsRefused one_way_street [] (Labels (0 ∷ 0 ∷ []) (0 ∷ [])) rules.Label
label_needs_a_crossing_street = refl

-- nor does one of two legal directions
pub two_way_street_has_no_labels : IsRefused windy_street [] (Labels (0 ∷ 0 ∷ []) (0 ∷ [])) rules.Label
two_way_street_has_no_labels = refl

-- nor does a street without a demand
pub free_street_shows_nothing : IsRefused dear_return [] (Labels (0 ∷ 0 ∷ 0 ∷ []) (1 ∷ [])) rules.Label
free_street_shows_nothing = refl

-- each junction has a label
pub each_junction_is_labelled : IsRefused one_way_street [] (Labels (0 ∷ []) (0 ∷ [])) rules.Range
each_junction_is_labelled = refl

-- each label has a street
pub each_label_has_a_street : IsRefused one_way_street [] (Labels (1 ∷ 0 ∷ []) (0 ∷ [])) rules.Range
each_label_has_a_street = refl

-- labels follow nothing
pub labels_come_first : IsRefused windy_street (there_and_back 5 ∷ []) (Labels (0 ∷ 0 ∷ []) (0 ∷ [])) rules.Lonely
labels_come_first = refl

-- a set is ascending
pub set_is_ascending : IsRefused windy_street (there_and_back 5 ∷ []) (Odd (1 ∷ 0 ∷ [])) rules.Number
set_is_ascending = refl

-- and holds no junction twice
pub set_has_no_junction_twice : IsRefused windy_street (there_and_back 5 ∷ []) (Odd (0 ∷ 0 ∷ [])) rules.Number
set_has_no_junction_twice = refl

-- a denominator isn't 0
pub denominator_is_not_0 : IsRefused windy_street (there_and_back 5 ∷ []) (Bound 0 0 ((2, 2) ∷ [])) rules.Number
denominator_is_not_0 = refl

-- nor above 2^40
pub denominator_is_limited : IsRefused windy_street (there_and_back 5 ∷ []) (Bound 0 (2 ^ 40 + 1) ((2, 2) ∷ [])) rules.Number
denominator_is_limited = refl

-- a multiplier isn't 0
pub multiplier_is_not_0 : IsRefused windy_street (there_and_back 5 ∷ []) (Bound 0 1 ((2, 0) ∷ [])) rules.Number
multiplier_is_not_0 = refl

-- nor above 2^60
pub multiplier_is_limited : IsRefused windy_street (there_and_back 5 ∷ []) (Bound 0 1 ((2, 2 ^ 60 + 1) ∷ [])) rules.Number
multiplier_is_limited = refl

-- the junctions of a set are there
pub set_is_there : IsRefused windy_street (there_and_back 5 ∷ []) (Odd (0 ∷ 2 ∷ [])) rules.Range
set_is_there = refl

-- the streets of a tour are there
pub steps_are_there : IsRefused windy_street [] (Tour 5 (forth 1 ∷ back 0 ∷ [])) rules.Range
steps_are_there = refl

-- a bound names rows that are there, and no cut that stands behind it
pub rows_are_there_before : IsRefused windy_street (there_and_back 5 ∷ []) (Bound 0 1 ((3, 1) ∷ [])) rules.Range
rows_are_there_before = refl

-- the step back on a one-way street isn't legal
pub illegal_step_is_no_walk : IsRefused one_way_street [] (Tour 2 (forth 0 ∷ back 0 ∷ [])) rules.Walk
illegal_step_is_no_walk = refl

-- the street in the set of a cut is required
pub free_street_parts_nothing : IsRefused two_parts (parts_tour ∷ []) (Conn 1 2 (0 ∷ 1 ∷ 2 ∷ [])) rules.Cross
free_street_parts_nothing = refl

-- the second street has no end in the set
pub second_street_is_outside : IsRefused two_parts (parts_tour ∷ []) (Conn 0 2 (0 ∷ 1 ∷ 2 ∷ [])) rules.Cross
second_street_is_outside = refl

-- a node that isn't open comes before a set that parts nothing
pub closed_comes_before_cross : IsRefused two_parts (parts_tour ∷ Blind 0 ∷ Split 0 2 0 ∷ []) (Apart 0 0 2 (0 ∷ [])) rules.Closed
closed_comes_before_cross = refl

-- a chain numbers each junction
pub chain_numbers_each_junction : IsRefused chained_parts (chain_tour ∷ []) (Kc 3 (0 ∷ 3 ∷ 1 ∷ [])) rules.Range
chain_numbers_each_junction = refl

-- leave to split stands directly before
pub leave_is_the_last_record : IsRefused windy_street (there_and_back 5 ∷ Blind 0 ∷ Odd (0 ∷ []) ∷ []) (Split 0 0 0) rules.Alone
leave_is_the_last_record = refl

-- and is for the same node
pub leave_is_for_the_node : IsRefused windy_street (there_and_back 5 ∷ Blind 0 ∷ Split 0 0 0 ∷ Blind 1 ∷ []) (Split 2 1 0) rules.Alone
leave_is_for_the_node = refl

-- a split doesn't go below what its node asks for
pub split_stays_in_the_box : IsRefused windy_street (there_and_back 5 ∷ Blind 0 ∷ Split 0 0 0 ∷ Blind 2 ∷ []) (Split 2 0 0) rules.Part
split_stays_in_the_box = refl
