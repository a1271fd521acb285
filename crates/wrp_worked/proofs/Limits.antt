-- The limits on the number of cuts and of multipliers, at the first record that passes them.
use Rattle.std.specs.Prelude.{map, length, nat_le}
use Rattle.std.proofs.Common.{Bool, ◌&&◌, ◌^◌, ◌≡◌, ℕ, zero, suc, List, [], ◌∷◌, ◌++◌, Option, None, Some, true, false, refl, ◌∙◌, ap, sym, append-nil, append_assoc}
use Rattle.std.specs.List.{fold, range_with_len}
use Rattle.wrp_town.specs.declared.town.Town.{Town}
use Rattle.wrp_rules.specs.declared.record.Record.{Record}
use Rattle.wrp_rules.specs.declared.record.Record.TheVariants.{Odd, Bound}
use Rattle.wrp_rules.specs.declared.rule.Rule.{Rule}
use Rattle.wrp_rules.specs.declared.rule.Rule.TheVariants as rules
use Rattle.wrp_rules.specs.Nodes.{Standing, standing, start, after}
use Rattle.wrp_rules.specs.Contents.{has_number_rules}
use Rattle.wrp_rules.specs.Ranges.{is_count, is_from_one, are_pairs, are_multipliers}
use Rattle.wrp_rules.specs.Rules.{broken_rule, first_broken, is_alone, rules_of}
use Rattle.wrp_worked.proofs.Towns.{IsRefused, windy_street}
use Rattle.wrp_worked.proofs.Lists.{there_and_back}

-- the same cut so many times
abbrev pub cuts : ℕ → List Record
cuts zero = []
cuts (suc n) = Odd (0 ∷ []) ∷ cuts n

-- each record stands behind those before it
records_stand : (town : Town) (s : Standing) (items : List Record) → (fold (after town) s items).records ≡ s.records ++ items
records_stand town s [] = sym (append-nil s.records)
records_stand town s (item ∷ items) = records_stand town (after town s item) items ∙ append_assoc s.records (item ∷ []) items

-- what the rules say of one more such cut depends on the records before it alone
same_rule_behind : (s : Standing) (records : List Record) (rule : Option Rule) → s.records ≡ records
    → broken_rule windy_street (record s { records = records }) (Odd (0 ∷ [])) ≡ rule
    → broken_rule windy_street s (Odd (0 ∷ [])) ≡ rule
same_rule_behind s records rule same judged = ap (λ r. broken_rule windy_street (record s { records = r }) (Odd (0 ∷ []))) same ∙ judged

-- behind 20,000 cuts there is no room for another
pub cuts_run_out : IsRefused windy_street (there_and_back 5 ∷ cuts 20000) (Odd (0 ∷ [])) rules.Cuts
cuts_run_out =
    same_rule_behind (standing windy_street (there_and_back 5 ∷ cuts 20000)) (there_and_back 5 ∷ cuts 20000) (Some rules.Cuts)
    (records_stand windy_street (start windy_street) (there_and_back 5 ∷ cuts 20000)) refl

-- behind one cut less there is
pub last_cut_has_room : broken_rule windy_street (standing windy_street (there_and_back 5 ∷ cuts 19999)) (Odd (0 ∷ [])) ≡ None
last_cut_has_room =
    same_rule_behind (standing windy_street (there_and_back 5 ∷ cuts 19999)) (there_and_back 5 ∷ cuts 19999) None
    (records_stand windy_street (start windy_street) (there_and_back 5 ∷ cuts 19999)) refl

-- so many rows from the first on, each with multiplier 1
abbrev pub units : ℕ → List (ℕ × ℕ)
units n = map (λ i. (i, 1)) (range_with_len 0 n)

and_false : (a b : Bool) → b ≡ false → (a && b) ≡ false
and_false true b wrong = wrong
and_false false b wrong = refl

-- a record that breaks a number rule is refused by that rule, whatever else it breaks
number_comes_first : (town : Town) (s : Standing) (item : Record) → has_number_rules item ≡ false → broken_rule town s item ≡ Some rules.Number
number_comes_first town s item wrong = ap (λ kept. first_broken ((rules.Number, kept) ∷ (rules.Lonely, is_alone s item) ∷ rules_of town s item)) wrong

-- more than 4,096 multipliers are refused
too_many_multipliers : (town : Town) (s : Standing) (node den : ℕ) (mult : List (ℕ × ℕ)) → nat_le (length mult) 4096 ≡ false
    → broken_rule town s (Bound node den mult) ≡ Some rules.Number
too_many_multipliers town s node den mult many =
    number_comes_first town s (Bound node den mult)
    (and_false (is_count node && (is_from_one (2 ^ 40) den && true)) (are_multipliers (2 ^ 60) mult) (and_false (are_pairs (2 ^ 60) mult) (nat_le (length mult) 4096) many))

pub multipliers_run_out : IsRefused windy_street (there_and_back 5 ∷ []) (Bound 0 1 (units 4097)) rules.Number
multipliers_run_out = too_many_multipliers windy_street (standing windy_street (there_and_back 5 ∷ [])) 0 1 (units 4097) refl
