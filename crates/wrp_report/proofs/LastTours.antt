-- The last tour of a valid list is the cheapest one.
use Rattle.std.proofs.Common.{◌≡◌, ℕ, min, true, false, ◌==◌, pos, List, [], ◌∷◌, Option, None, Some, is_none, IfSome, refl, subst, arith}
use Rattle.std.specs.Option.{option_map_or}
use Rattle.std.specs.List.{fold}
use Rattle.std.proofs.lemmas.Bool.{and_parts, and_from, eqb-true, ltb-true, false≢true}
use Rattle.wrp_town.specs.declared.street.Step.{Step}
use Rattle.wrp_town.specs.declared.town.Town.{Town}
use Rattle.wrp_town.proofs.WalkLaws.{are_legal, are_legal-from_closed}
use Rattle.wrp_rules.specs.declared.record.Record.{Record}
use Rattle.wrp_rules.specs.declared.record.Record.TheVariants.{Tour}
use Rattle.wrp_rules.specs.declared.record.End.{End}
use Rattle.wrp_rules.specs.declared.record.End.TheVariants.{Optimal, Infeasible, Unfinished}
use Rattle.wrp_rules.specs.Nodes.{Standing, start, after, standing, upper_after, is_below}
use Rattle.wrp_rules.specs.Rules.{broken_rule}
use Rattle.wrp_rules.specs.Lists.{goes_on, is_valid, agrees}
use Rattle.wrp_laws.proofs.Rules.{rules_kept, all_rules}
use Rattle.wrp_report.specs.Lists.{tour_after, last_tour, IsTourOfCost, WalksTo}

-- the steps are a tour of the cost of the cheapest one
IsCheapest : Town → Option ℕ → List Step → Type 0
IsCheapest town upper steps = IfSome upper (IsTourOfCost town steps)

-- a cheaper tour is the cheapest one
cheaper : (town : Town) (upper : Option ℕ) (cost : ℕ) (steps : List Step) → is_below (pos cost) upper ≡ true → IsTourOfCost town steps cost → IsCheapest town (Some (option_map_or (min cost) upper cost)) steps
unfolding IsCheapest
cheaper town None cost steps below is = is
cheaper town (Some other) cost steps below is = let same : cost ≡ min cost other = omega (arith, ltb-true cost other below) in subst (IsTourOfCost town steps) same is

tour_kept : (town : Town) (s : Standing) (cost : ℕ) (steps : List Step) → is_none (broken_rule town s (Tour cost steps)) ≡ true → IsCheapest town (upper_after s.upper (Tour cost steps)) steps
tour_kept town s cost steps sound =
    let kept = rules_kept (all_rules town s (Tour cost steps)) sound in
    cheaper town s.upper cost steps (kept 6) (record { tour = and_from _ _ (kept 3) (kept 4); costs = eqb-true _ _ (kept 5) })

kept_after : (town : Town) (s : Standing) (steps : List Step) (item : Record) → is_none (broken_rule town s item) ≡ true → IsCheapest town s.upper steps → IsCheapest town (after town s item).upper (tour_after steps item)
kept_after town s steps (Tour cost new) sound cheapest = tour_kept town s cost new sound
kept_after town s steps item sound cheapest = cheapest

all_kept : (town : Town) (records : List Record) (s : Standing) (steps : List Step) → goes_on town s records ≡ true → IsCheapest town s.upper steps → IsCheapest town (fold (after town) s records).upper (fold tour_after steps records)
all_kept town [] s steps valid cheapest = cheapest
all_kept town (item ∷ records) s steps valid cheapest =
    let parts = and_parts _ _ valid in
    all_kept town records (after town s item) (tour_after steps item) parts.1 (kept_after town s steps item parts.0 cheapest)

cheapest_last : (town : Town) (records : List Record) → is_valid town records ≡ true → IsCheapest town (standing town records).upper (last_tour records)
unfolding IsCheapest
cheapest_last town records valid = all_kept town records (start town) [] valid tt

of_upper : (town : Town) (upper : Option ℕ) (steps : List Step) (cost : ℕ) → option_map_or (λ u. u == cost) upper false ≡ true → IsCheapest town upper steps → IsTourOfCost town steps cost
unfolding IsCheapest
of_upper town None steps cost is cheapest = absurd (false≢true is)
of_upper town (Some upper) steps cost is cheapest = subst (IsTourOfCost town steps) (eqb-true upper cost is) cheapest

-- it has the cost that an end names which agrees with the list
pub last_walks : (town : Town) (records : List Record) (end : End) → is_valid town records ≡ true → agrees (standing town records) end ≡ true → WalksTo town end (last_tour records)
last_walks town records (Optimal cost) valid agreeing = of_upper town (standing town records).upper (last_tour records) cost (and_parts _ _ agreeing).1 (cheapest_last town records valid)
last_walks town records Infeasible valid agreeing = tt
last_walks town records (Unfinished low high) valid agreeing = of_upper town (standing town records).upper (last_tour records) high (and_parts _ _ (and_parts _ _ agreeing).0).1 (cheapest_last town records valid)

-- ---- its steps are legal

legal_after : (town : Town) (s : Standing) (steps : List Step) (item : Record) → is_none (broken_rule town s item) ≡ true → are_legal town steps ≡ true → are_legal town (tour_after steps item) ≡ true
legal_after town s steps (Tour cost new) sound legal = are_legal-from_closed town new (rules_kept (all_rules town s (Tour cost new)) sound 3)
legal_after town s steps item sound legal = legal

all_legal : (town : Town) (records : List Record) (s : Standing) (steps : List Step) → goes_on town s records ≡ true → are_legal town steps ≡ true → are_legal town (fold tour_after steps records) ≡ true
all_legal town [] s steps valid legal = legal
all_legal town (item ∷ records) s steps valid legal =
    let parts = and_parts _ _ valid in
    all_legal town records (after town s item) (tour_after steps item) parts.1 (legal_after town s steps item parts.0 legal)

pub last_legal : (town : Town) (records : List Record) → is_valid town records ≡ true → are_legal town (last_tour records) ≡ true
last_legal town records valid = all_legal town records (start town) [] valid refl
