-- What one more row does to a table.
use Rattle.std.proofs.Common.{◌≡◌, ℕ, ◌+◌, ◌≤◌, Bool, true, false, cond, List, [], ◌∷◌, ◌++◌, length, refl, ◌∙◌, arith, length-append}
use Rattle.std.specs.Prelude.{Result, Ok, Err, OnOk}
use Rattle.std.proofs.lemmas.Bool.{ltb-false}
use Rattle.wrp_town.specs.declared.street.Need.{Need}
use Rattle.wrp_town.specs.declared.street.Need.TheVariants.{No, Either, Forward, Backward, Both}
use Rattle.wrp_town.specs.declared.street.Street.{Street}
use Rattle.wrp_town.specs.Limits.{street_limit, junction_limit, demand_limit}
use Rattle.wrp_town.specs.Streets.{demands_at, demands_from}
use Rattle.wrp_street.specs.declared.row.Row.{Row}
use Rattle.wrp_street.specs.declared.reader.TableReader.{TableReader}
use Rattle.wrp_street.specs.declared.table.TableFault.{TableFault}
use Rattle.wrp_street.specs.Faults.{GivesNew}
use Rattle.wrp_street.specs.Tables.{Table, with_junction, with_ends, with_row, number_of, within_limits}
use Rattle.wrp_street.specs.Growing.{rows_in, IsGrowing}
use Rattle.wrp_street.proofs.Places.{placed, number_kept}

-- both ends of a row have the numbers that they get when they are added in turn
pub from_number : (names : List (List ℕ)) (row : Row) → number_of (with_ends names row) row.from ≡ number_of names row.from
from_number names row =
    let from = placed row.from names in
    number_kept row.from row.to (with_junction names row.from) from.there ∙ from.same

pub to_number : (names : List (List ℕ)) (row : Row) → number_of (with_ends names row) row.to ≡ number_of (with_junction names row.from) row.to
to_number names row = (placed row.to (with_junction names row.from)).same

-- a street with both numbers, pushed behind the others, makes the table with the row
pub row_added : (names : List (List ℕ)) (streets : List Street) (row : Row) → with_row (record { junctions = names; streets = streets }) row
    ≡ record {
      junctions = with_ends names row;
      streets = streets ++ record {
        name = row.street;
        from = number_of names row.from;
        to = number_of (with_junction names row.from) row.to;
        forward = row.forward;
        backward = row.backward;
        need = row.need;
      } ∷ [];
    }
row_added names streets row = cc (from_number names row, to_number names row)

count_alike : (s : ℕ) (need : Need) → length (demands_at s need) ≡ length (demands_at 0 need)
count_alike s No = refl
count_alike s Either = refl
count_alike s Forward = refl
count_alike s Backward = refl
count_alike s Both = refl

-- one more street adds its demands
pub length-demands_from-push : (s : ℕ) (streets : List Street) (street : Street) → length (demands_from s (streets ++ street ∷ [])) ≡ length (demands_from s streets) + length (demands_at 0 street.need)
length-demands_from-push s [] street = omega (arith, length-append (demands_at s street.need) [], count_alike s street.need)
length-demands_from-push s (first ∷ streets) street =
    omega (arith, length-append (demands_at s first.need) (demands_from (s + 1) (streets ++ street ∷ [])), length-append (demands_at s first.need) (demands_from (s + 1) streets), length-demands_from-push (s + 1) streets street)

-- ---- the limits

pub record IsWithin (table next : Table) : Type 0 where
  pub few_streets : length table.streets ≤ street_limit
  pub few_junctions : length table.junctions ≤ junction_limit
  pub few_demands : length (demands_from 0 table.streets) ≤ demand_limit
  pub same : table ≡ next

all_false : {A E : Type 0} (a b c : Bool) (x y z : E) (t next : A) → cond a (Err x) (cond b (Err y) (cond c (Err z) (Ok t))) ≡ Ok next → (a ≡ false) × (b ≡ false) × (c ≡ false) × (t ≡ next)
all_false true b c x y z t next is = absurd (cc)
all_false false true c x y z t next is = absurd (cc)
all_false false false true x y z t next is = absurd (cc)
all_false false false false x y z t next is = (refl, refl, refl, (cc))

pub within_limits-keeps : (row : ℕ) (table next : Table) → within_limits row table ≡ Ok next → IsWithin table next
unfolding within_limits
within_limits-keeps row table next is =
    let tests = all_false _ _ _ _ _ _ table next is in
    record { few_streets = ltb-false _ _ tests.0; few_junctions = ltb-false _ _ tests.1; few_demands = ltb-false _ _ tests.2; same = tests.3 }

-- a reader that kept the limits is as it was, with one more row
pub still_growing : (reader : TableReader) (row : ℕ) (answer : Result (Unit {0}) TableFault) → reader.demands ≡ length (demands_from 0 reader.streets)
    → GivesNew (rows_in reader) answer (within_limits row (rows_in reader)) → OnOk answer (IsGrowing reader)
still_growing reader row (Ok done) counted given =
    let within = within_limits-keeps row (rows_in reader) (rows_in reader) given in
    record { few_streets = within.few_streets; few_junctions = within.few_junctions; few_demands = within.few_demands; counted = counted }
still_growing reader row (Err fault) counted given = tt
