-- The classes of the worked towns.
use Rattle.std.proofs.Common.{◌≡◌, refl}
use Rattle.wrp_town.specs.Classes.{class_of}
use Rattle.wrp_town.specs.declared.class.Class.TheVariants as classes
use Rattle.wrp_worked.proofs.Towns.{no_street, round_trip, windy_street, one_way_street, two_parts, loop_street, chained_parts}

-- equal costs both ways
pub ring_is_rural : class_of round_trip ≡ classes.Rural
ring_is_rural = refl

pub parts_are_rural : class_of two_parts ≡ classes.Rural
parts_are_rural = refl

-- nothing is required
pub no_street_is_empty : class_of no_street ≡ classes.Empty
no_street_is_empty = refl

-- one legal direction
pub one_way_street_is_directed : class_of one_way_street ≡ classes.Directed
one_way_street_is_directed = refl

pub loop_is_directed : class_of loop_street ≡ classes.Directed
loop_is_directed = refl

-- streets of one direction beside streets of equal costs
pub chain_is_mixed : class_of chained_parts ≡ classes.Mixed
chain_is_mixed = refl

-- two costs of one street
pub windy_street_is_windy : class_of windy_street ≡ classes.Windy
windy_street_is_windy = refl
