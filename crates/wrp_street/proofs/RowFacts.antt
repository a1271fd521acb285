-- What a row that was read keeps: names are names, and costs are within their limit.
use Rattle.std.proofs.Common.{◌≡◌, ℕ, ◌==◌, Bool, true, false, cond, List, length, Option, Some, None, refl, subst}
use Rattle.std.specs.Prelude.{Result, Ok, Err, nat_le}
use Rattle.std.proofs.lemmas.Bool.{and_parts}
use Rattle.std.specs.Str.Parse.{digits_value}
use Rattle.wrp_records.specs.Fields.{trimmed}
use Rattle.wrp_town.specs.Limits.{cost_limit}
use Rattle.wrp_town.specs.Names.{is_name}
use Rattle.wrp_town.specs.Streets.{is_cost}
use Rattle.wrp_street.specs.declared.row.Row.{Row}
use Rattle.wrp_street.specs.declared.table.TableFault.{TableFault}
use Rattle.wrp_street.specs.Costs.{cost_of, is_cost_number}
use Rattle.wrp_street.specs.Faults.{◌>>=◌}
use Rattle.wrp_street.specs.Rows.{name_in, cost_in, need_in, found_or, field_at, six_of, row_of}

-- both steps of a reading that gave a value
pub bind_ok : {A B : Type 0} (read : Result A TableFault) (f : A → Result B TableFault) (y : B) → (read >>= f) ≡ Ok y → (x : A) × (read ≡ Ok x) × (f x ≡ Ok y)
bind_ok (Ok x) f y is = (x, refl, is)
bind_ok (Err fault) f y is = absurd (cc)

-- a test that let a value through
pub chosen_ok : {A : Type 0} (b : Bool) (read : Result A TableFault) (fault : TableFault) (y : A) → cond b read (Err fault) ≡ Ok y → (b ≡ true) × (read ≡ Ok y)
chosen_ok true read fault y is = (refl, is)
chosen_ok false read fault y is = absurd (cc)

found_ok : {A : Type 0} (fault : TableFault) (found : Option A) (y : A) → found_or fault found ≡ Ok y → found ≡ Some y
found_ok fault None y is = absurd (cc)
found_ok fault (Some x) y is = (cc)

name_in-is_name : (row field : ℕ) (text name : List ℕ) → name_in row field text ≡ Ok name → is_name name ≡ true
name_in-is_name row field text name is =
    let chosen = chosen_ok (is_name (trimmed text)) (Ok (trimmed text)) _ name is in
    let same : trimmed text ≡ name = cc (chosen.1) in
    subst (λ n. is_name n ≡ true) same chosen.0

cost_by_tests : (empty dash number : Bool) (n : ℕ) (cost : Option ℕ) → (number ≡ true → nat_le n cost_limit ≡ true)
    → cond empty (Some None) (cond dash (Some None) (cond number (Some (Some n)) None)) ≡ Some cost → is_cost cost ≡ true
cost_by_tests true dash number n cost small is = let same : None ≡ cost = cc in subst (λ c. is_cost c ≡ true) same refl
cost_by_tests false true number n cost small is = let same : None ≡ cost = cc in subst (λ c. is_cost c ≡ true) same refl
cost_by_tests false false true n cost small is = let same : Some n ≡ cost = cc in subst (λ c. is_cost c ≡ true) same (small refl)
cost_by_tests false false false n cost small is = absurd (cc)

cost_of-is_cost : (text : List ℕ) (cost : Option ℕ) → cost_of text ≡ Some cost → is_cost cost ≡ true
unfolding cost_of
cost_of-is_cost text cost is =
    cost_by_tests _ _ (is_cost_number (trimmed text)) (digits_value 10 (trimmed text)) cost (λ number. (and_parts _ _ (and_parts _ _ number).1).1) is

cost_in-is_cost : (row field : ℕ) (text : List ℕ) (cost : Option ℕ) → cost_in row field text ≡ Ok cost → is_cost cost ≡ true
cost_in-is_cost row field text cost is = cost_of-is_cost text cost (found_ok _ (cost_of text) cost is)

pub record IsRow (row : Row) : Type 0 where
  pub street : is_name row.street ≡ true
  pub from : is_name row.from ≡ true
  pub to : is_name row.to ≡ true
  pub forward : is_cost row.forward ≡ true
  pub backward : is_cost row.backward ≡ true

six_of-IsRow : (n : ℕ) (fields : List (List ℕ)) (row : Row) → six_of n fields ≡ Ok row → IsRow row
unfolding six_of
six_of-IsRow n fields row is =
    let street = bind_ok (name_in n 1 (field_at fields 1)) _ row is in
    let from = bind_ok (name_in n 2 (field_at fields 2)) _ row street.2 in
    let to = bind_ok (name_in n 3 (field_at fields 3)) _ row from.2 in
    let forward = bind_ok (cost_in n 4 (field_at fields 4)) _ row to.2 in
    let backward = bind_ok (cost_in n 5 (field_at fields 5)) _ row forward.2 in
    let need = bind_ok (need_in n (field_at fields 6)) _ row backward.2 in
    let whole : Row = record { street = street.0; from = from.0; to = to.0; forward = forward.0; backward = backward.0; need = need.0 } in
    let same : whole ≡ row = cc (need.2) in
    subst IsRow same (record {
      street = name_in-is_name n 1 (field_at fields 1) street.0 street.1;
      from = name_in-is_name n 2 (field_at fields 2) from.0 from.1;
      to = name_in-is_name n 3 (field_at fields 3) to.0 to.1;
      forward = cost_in-is_cost n 4 (field_at fields 4) forward.0 forward.1;
      backward = cost_in-is_cost n 5 (field_at fields 5) backward.0 backward.1;
    })

pub row_of-IsRow : (n : ℕ) (fields : List (List ℕ)) (row : Row) → row_of n fields ≡ Ok row → IsRow row
unfolding row_of
row_of-IsRow n fields row is = six_of-IsRow n fields row (chosen_ok (length fields == 6) (six_of n fields) _ row is).1
