-- Small towns on which the rules of records are worked out, and what it is to accept a list or to refuse a record.
use Rattle.std.specs.Prelude.{codes, length, nat_le, ◌&&◌}
use Rattle.std.proofs.Common.{◌≡◌, ℕ, Bool, true, false, List, [], ◌∷◌, ◌++◌, Option, None, Some, refl}
use Rattle.std.specs.List.{list_all}
use Rattle.std.specs.Str.{is_utf8, chars}
use lib.Utf8.{encode}
use Rattle.std.proofs.lemmas.Bool.{and_parts, leb-true}
use Rattle.wrp_town.specs.declared.street.Need.{Need}
use Rattle.wrp_town.specs.declared.street.Need.TheVariants.{No, Either, Forward, Backward, Both}
use Rattle.wrp_town.specs.declared.street.Street.{Street}
use Rattle.wrp_town.specs.declared.street.Step.{Step}
use Rattle.wrp_town.specs.declared.town.Town.{Town}
use Rattle.wrp_town.specs.Names.{is_name}
use Rattle.wrp_town.specs.Streets.{IsTown, is_street, demands_from, are_different, come_in_order, ends_of}
use Rattle.wrp_rules.specs.declared.record.Record.{Record}
use Rattle.wrp_rules.specs.declared.record.End.{End}
use Rattle.wrp_rules.specs.declared.rule.Rule.{Rule}
use Rattle.wrp_rules.specs.Nodes.{standing}
use Rattle.wrp_rules.specs.Lists.{is_valid, agrees}
use Rattle.wrp_rules.specs.Rules.{broken_rule}

-- the list is valid and the end agrees with it
abbrev pub IsAccepted : Town → List Record → End → Type 0
IsAccepted town records end = (is_valid town records ≡ true) × (agrees (standing town records) end ≡ true)

-- the rule is the first that the record breaks after these
abbrev pub IsRefused : Town → List Record → Record → Rule → Type 0
IsRefused town before item rule = broken_rule town (standing town before) item ≡ Some rule

-- the steps along a street and back
abbrev pub forth : ℕ → Step
forth s = record { street = s; back = false }

abbrev pub back : ℕ → Step
back s = record { street = s; back = true }

-- a street by its name, ends, costs and need
abbrev pub road : List ℕ → ℕ → ℕ → Option ℕ → Option ℕ → Need → Street
road name from to forward backward need = record { name = name; from = from; to = to; forward = forward; backward = backward; need = need }

-- what makes a town of junctions and streets, as one test
abbrev pub makes_town : List (List ℕ) → List Street → Bool
makes_town names roads =
    nat_le (length names) 2000 && (nat_le (length roads) 4000 && (nat_le (length (demands_from 0 roads)) 4000
    && (list_all is_name names && (are_different names && (list_all (is_street (length names)) roads && come_in_order (length names) 0 (ends_of roads))))))

pub IsTown-from_test : (names : List (List ℕ)) (roads : List Street) → makes_town names roads ≡ true → IsTown names roads
IsTown-from_test names roads passes =
    let a = and_parts _ _ passes in
    let b = and_parts _ _ a.1 in
    let c = and_parts _ _ b.1 in
    let d = and_parts _ _ c.1 in
    let e = and_parts _ _ d.1 in
    let f = and_parts _ _ e.1 in
    record {
      few_junctions = leb-true _ _ a.0;
      few_streets = leb-true _ _ b.0;
      few_demands = leb-true _ _ c.0;
      named = d.0;
      different = e.0;
      sound = f.0;
      in_order = f.1;
    }

abbrev pub town_of : (names : List (List ℕ)) (roads : List Street) → makes_town names roads ≡ true → Town
town_of names roads passes = record { junctions = names; streets = roads; well_formed = IsTown-from_test names roads passes }

abbrev pub no_names : List (List ℕ)
no_names = []

abbrev pub one_name : List (List ℕ)
one_name = codes "A" ∷ []

abbrev pub two_names : List (List ℕ)
two_names = codes "A" ∷ codes "B" ∷ []

abbrev pub three_names : List (List ℕ)
three_names = codes "A" ∷ codes "B" ∷ codes "C" ∷ []

abbrev pub four_names : List (List ℕ)
four_names = codes "A" ∷ codes "B" ∷ codes "C" ∷ codes "D" ∷ []

-- no street at all
abbrev pub no_street_roads : List Street
no_street_roads = []

pub no_street_is_one : makes_town no_names no_street_roads ≡ true
unfolding is_utf8 chars encode
no_street_is_one = refl

abbrev pub no_street : Town
no_street = town_of no_names no_street_roads no_street_is_one

-- three required streets in a ring
abbrev pub round_trip_roads : List Street
round_trip_roads =
    road (codes "ab") 0 1 (Some 3) (Some 3) Either ∷
    road (codes "bc") 1 2 (Some 4) (Some 4) Either ∷
    road (codes "ca") 2 0 (Some 5) (Some 5) Either ∷ []

pub round_trip_is_one : makes_town three_names round_trip_roads ≡ true
unfolding is_utf8 chars encode
round_trip_is_one = refl

abbrev pub round_trip : Town
round_trip = town_of three_names round_trip_roads round_trip_is_one

-- one required street, dearer one way than the other
abbrev pub windy_street_roads : List Street
windy_street_roads =
    road (codes "e") 0 1 (Some 2) (Some 3) Either ∷ []

pub windy_street_is_one : makes_town two_names windy_street_roads ≡ true
unfolding is_utf8 chars encode
windy_street_is_one = refl

abbrev pub windy_street : Town
windy_street = town_of two_names windy_street_roads windy_street_is_one

-- one required street that leads nowhere back
abbrev pub one_way_street_roads : List Street
one_way_street_roads =
    road (codes "e") 0 1 (Some 2) None Either ∷ []

pub one_way_street_is_one : makes_town two_names one_way_street_roads ≡ true
unfolding is_utf8 chars encode
one_way_street_is_one = refl

abbrev pub one_way_street : Town
one_way_street = town_of two_names one_way_street_roads one_way_street_is_one

-- one required street without a legal direction
abbrev pub closed_street_roads : List Street
closed_street_roads =
    road (codes "e") 0 1 None None Either ∷ []

pub closed_street_is_one : makes_town two_names closed_street_roads ≡ true
unfolding is_utf8 chars encode
closed_street_is_one = refl

abbrev pub closed_street : Town
closed_street = town_of two_names closed_street_roads closed_street_is_one

-- two required streets with a dear one between them
abbrev pub two_parts_roads : List Street
two_parts_roads =
    road (codes "e") 0 1 (Some 1) (Some 1) Either ∷
    road (codes "f") 1 2 (Some 10) (Some 10) No ∷
    road (codes "g") 2 3 (Some 1) (Some 1) Either ∷ []

pub two_parts_is_one : makes_town four_names two_parts_roads ≡ true
unfolding is_utf8 chars encode
two_parts_is_one = refl

abbrev pub two_parts : Town
two_parts = town_of four_names two_parts_roads two_parts_is_one

-- an arc that both required streets need
abbrev pub shared_arc_roads : List Street
shared_arc_roads =
    road (codes "a") 0 1 (Some 1) None No ∷
    road (codes "b") 1 2 (Some 1) None Either ∷
    road (codes "c") 2 0 (Some 1) None No ∷
    road (codes "d") 1 0 (Some 5) None Either ∷ []

pub shared_arc_is_one : makes_town three_names shared_arc_roads ≡ true
unfolding is_utf8 chars encode
shared_arc_is_one = refl

abbrev pub shared_arc : Town
shared_arc = town_of three_names shared_arc_roads shared_arc_is_one

-- a street from a junction to itself
abbrev pub loop_street_roads : List Street
loop_street_roads =
    road (codes "l") 0 0 (Some 7) None Either ∷ []

pub loop_street_is_one : makes_town one_name loop_street_roads ≡ true
unfolding is_utf8 chars encode
loop_street_is_one = refl

abbrev pub loop_street : Town
loop_street = town_of one_name loop_street_roads loop_street_is_one

-- a required street and a cheaper one beside it
abbrev pub parallel_streets_roads : List Street
parallel_streets_roads =
    road (codes "a") 0 1 (Some 2) (Some 3) Either ∷
    road (codes "b") 0 1 (Some 1) (Some 9) No ∷ []

pub parallel_streets_is_one : makes_town two_names parallel_streets_roads ≡ true
unfolding is_utf8 chars encode
parallel_streets_is_one = refl

abbrev pub parallel_streets : Town
parallel_streets = town_of two_names parallel_streets_roads parallel_streets_is_one

-- a street that is required in both directions
abbrev pub both_ways_roads : List Street
both_ways_roads =
    road (codes "e") 0 1 (Some 2) (Some 3) Both ∷ []

pub both_ways_is_one : makes_town two_names both_ways_roads ≡ true
unfolding is_utf8 chars encode
both_ways_is_one = refl

abbrev pub both_ways : Town
both_ways = town_of two_names both_ways_roads both_ways_is_one

-- a street that is required in its first direction
abbrev pub one_direction_roads : List Street
one_direction_roads =
    road (codes "e") 0 1 (Some 2) (Some 3) Forward ∷ []

pub one_direction_is_one : makes_town two_names one_direction_roads ≡ true
unfolding is_utf8 chars encode
one_direction_is_one = refl

abbrev pub one_direction : Town
one_direction = town_of two_names one_direction_roads one_direction_is_one

-- a street that is required in a direction that isn't legal
abbrev pub wrong_direction_roads : List Street
wrong_direction_roads =
    road (codes "e") 0 1 None (Some 3) Forward ∷ []

pub wrong_direction_is_one : makes_town two_names wrong_direction_roads ≡ true
unfolding is_utf8 chars encode
wrong_direction_is_one = refl

abbrev pub wrong_direction : Town
wrong_direction = town_of two_names wrong_direction_roads wrong_direction_is_one

-- a street that is required in its dear direction
abbrev pub dear_return_roads : List Street
dear_return_roads =
    road (codes "ab") 0 1 (Some 1) (Some 9) Backward ∷
    road (codes "bc") 1 2 (Some 1) (Some 1) No ∷
    road (codes "ca") 2 0 (Some 1) (Some 1) No ∷ []

pub dear_return_is_one : makes_town three_names dear_return_roads ≡ true
unfolding is_utf8 chars encode
dear_return_is_one = refl

abbrev pub dear_return : Town
dear_return = town_of three_names dear_return_roads dear_return_is_one

-- a street above the costs of small towns
abbrev pub costly_street_roads : List Street
costly_street_roads =
    road (codes "e") 0 1 (Some 1000001) (Some 3) Either ∷ []

pub costly_street_is_one : makes_town two_names costly_street_roads ≡ true
unfolding is_utf8 chars encode
costly_street_is_one = refl

abbrev pub costly_street : Town
costly_street = town_of two_names costly_street_roads costly_street_is_one

-- two streets that join the ends of a chain of parts
abbrev pub chained_parts_roads : List Street
chained_parts_roads =
    road (codes "a") 0 1 (Some 1) (Some 1) Either ∷
    road (codes "b") 0 1 (Some 1) (Some 1) Either ∷
    road (codes "l") 2 2 (Some 0) None Either ∷
    road (codes "m") 3 3 (Some 0) None Either ∷
    road (codes "f") 0 2 (Some 1) (Some 1) No ∷
    road (codes "g") 2 3 (Some 1) (Some 1) No ∷
    road (codes "h") 3 1 (Some 1) (Some 1) No ∷ []

pub chained_parts_is_one : makes_town four_names chained_parts_roads ≡ true
unfolding is_utf8 chars encode
chained_parts_is_one = refl

abbrev pub chained_parts : Town
chained_parts = town_of four_names chained_parts_roads chained_parts_is_one

abbrev pub nine_names : List (List ℕ)
nine_names = four_names ++ codes "E" ∷ codes "F" ∷ codes "G" ∷ codes "H" ∷ codes "I" ∷ []

-- the streets of a grid of three by three junctions, each east of its junction before that south of it
abbrev pub grid_roads : List Street
grid_roads =
    road (codes "s0") 0 1 (Some 1) (Some 1) Either ∷
    road (codes "s1") 0 2 (Some 1) (Some 1) Either ∷
    road (codes "s2") 1 3 (Some 1) (Some 1) Either ∷
    road (codes "s3") 1 4 (Some 1) (Some 1) Either ∷
    road (codes "s4") 3 5 (Some 1) (Some 1) Either ∷
    road (codes "s5") 2 4 (Some 1) (Some 1) Either ∷
    road (codes "s6") 2 6 (Some 1) (Some 1) Either ∷
    road (codes "s7") 4 5 (Some 1) (Some 1) Either ∷
    road (codes "s8") 4 7 (Some 1) (Some 1) Either ∷
    road (codes "s9") 5 8 (Some 1) (Some 1) Either ∷
    road (codes "s10") 6 7 (Some 1) (Some 1) Either ∷
    road (codes "s11") 7 8 (Some 1) (Some 1) Either ∷ []

pub grid_is_one : makes_town nine_names grid_roads ≡ true
unfolding is_utf8 chars encode
grid_is_one = refl

abbrev pub grid : Town
grid = town_of nine_names grid_roads grid_is_one
