-- Records that a rule refuses, worked out on small towns.
use Rattle.std.proofs.Common.{List, [], ◌∷◌, refl}
use Rattle.wrp_rules.specs.declared.record.Record.{Record}
use Rattle.wrp_rules.specs.declared.record.Record.TheVariants.{Tour, Conn, Odd, Round, Kc, Bound, Apart, Point, Blind, Split, Labels}
use Rattle.wrp_rules.specs.declared.rule.Rule.TheVariants as rules
use Rattle.wrp_worked.proofs.Towns.{IsRefused, forth, back, windy_street, one_way_street, two_parts, chained_parts}
use Rattle.wrp_worked.proofs.Lists.{there_and_back, parts_tour, chain_tour}

-- the record of a tour for the refusals after it
abbrev pub toured : List Record
toured = there_and_back 5 ∷ []

-- a set of both junctions is crossed by no demand
pub even_set_is_no_cut : IsRefused windy_street toured (Odd (0 ∷ 1 ∷ [])) rules.Even
even_set_is_no_cut = refl

-- a split has to leave uses above it: there is one demand, so 1 is the greatest number
pub split_leaves_both_halves : IsRefused windy_street (there_and_back 5 ∷ Blind 0 ∷ []) (Split 0 0 1) rules.Part
split_leaves_both_halves = refl

-- a split without a record that allows it
pub split_needs_leave : IsRefused windy_street toured (Split 0 0 0) rules.Alone
split_needs_leave = refl

-- a point that costs 3 where the bound is 2
pub point_costs_the_bound :
    IsRefused windy_street (there_and_back 5 ∷ Bound 0 1 ((2, 2) ∷ []) ∷ []) (Point 0 2 ((0, 1) ∷ (1, 1) ∷ [])) rules.Price
point_costs_the_bound = refl

-- in the other half the arc that leaves the part is used
pub exit_leaks : IsRefused two_parts (parts_tour ∷ Blind 0 ∷ Split 0 2 0 ∷ []) (Apart 2 0 2 (0 ∷ 1 ∷ [])) rules.Leak
exit_leaks = refl

-- both middle sets have to hold a required street
pub chain_holds_streets : IsRefused chained_parts (chain_tour ∷ []) (Kc 3 (0 ∷ 3 ∷ 1 ∷ 1 ∷ [])) rules.Chain
chain_holds_streets = refl

-- a chain has at least four sets
pub chain_is_long : IsRefused chained_parts (chain_tour ∷ []) (Kc 2 (0 ∷ 2 ∷ 1 ∷ 1 ∷ [])) rules.Range
chain_is_long = refl

-- coefficients of 2^21 are above 2^20
pub wide_row_is_refused : IsRefused windy_street toured (Round 1 ((2, 2097152) ∷ [])) rules.Wide
wide_row_is_refused = refl

-- the first street has an end outside the set
pub cut_parts_the_streets : IsRefused two_parts (parts_tour ∷ []) (Conn 0 2 (0 ∷ [])) rules.Cross
cut_parts_the_streets = refl

-- nothing follows labels
pub labels_stand_alone : IsRefused one_way_street (Labels (1 ∷ 0 ∷ []) (0 ∷ 0 ∷ []) ∷ []) (Blind 0) rules.Lonely
labels_stand_alone = refl

-- a tour comes back to where it begins, which is asked before its cost
pub open_walk_is_refused : IsRefused windy_street [] (Tour 5 (forth 0 ∷ [])) rules.Walk
open_walk_is_refused = refl

-- the empty walk serves no demand
pub empty_walk_serves_none : IsRefused windy_street [] (Tour 0 []) rules.Serve
empty_walk_serves_none = refl

-- a tour states its cost
pub wrong_cost_is_refused : IsRefused windy_street [] (there_and_back 6) rules.Cost
wrong_cost_is_refused = refl

-- a second tour has to be cheaper
pub second_tour_is_cheaper : IsRefused windy_street toured (Tour 5 (back 0 ∷ forth 0 ∷ [])) rules.Dear
second_tour_is_cheaper = refl

-- a bound names a node that is there
pub bound_names_a_node : IsRefused windy_street [] (Bound 9 1 ((0, 1) ∷ [])) rules.Range
bound_names_a_node = refl
