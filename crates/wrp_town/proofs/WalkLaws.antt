-- Laws of walks: of steps put one after another, of what they serve, cost and count.
use Rattle.std.proofs.Common.{◌≡◌, ℕ, ◌+◌, Bool, true, false, cond, ◌&&◌, ◌||◌, ◌==◌, List, [], ◌∷◌, ◌++◌, ap, refl, sym, ◌∙◌, subst, eq-eqb}
use Rattle.std.specs.List.{list_all}
use Rattle.std.proofs.Math.Bool.{and_assoc}
use Rattle.std.proofs.lemmas.Bool.{and_parts, and_from, eqb-true}
use Rattle.std.proofs.lemmas.List.Folds.{list_any-append}
use Rattle.std.proofs.lemmas.List.Sums.{sum_by-cons, sum_by-append}
use Rattle.wrp_town.specs.declared.street.Step.{Step}
use Rattle.wrp_town.specs.declared.town.Town.{Town}
use Rattle.wrp_town.specs.Arcs.{is_legal, tail_of, head_of, cost_or_zero, arc_of, has_arc}
use Rattle.wrp_town.specs.Walks.{leads, is_closed_walk, serves, serves_all, is_tour, walk_cost, count_of}
use Rattle.wrp_town.proofs.Lists.{eqb_turned}

-- ---- where steps lead

-- each step names a street and is legal
abbrev pub are_legal : Town → List Step → Bool
are_legal town steps = list_all (λ step. is_legal town (arc_of step)) steps

-- what `leads` says of a first step
pub record LeadsBy (town : Town) (i : ℕ) (step : Step) (steps : List Step) (j : ℕ) : Type 0 where
  pub legal : is_legal town (arc_of step) ≡ true
  pub begins : tail_of town (arc_of step) ≡ i
  pub goes_on : leads town (head_of town (arc_of step)) steps j ≡ true

pub LeadsBy-from_leads : (town : Town) (i : ℕ) (step : Step) (steps : List Step) (j : ℕ) → leads town i (step ∷ steps) j ≡ true → LeadsBy town i step steps j
LeadsBy-from_leads town i step steps j lead =
    let a = and_parts _ _ lead in
    let b = and_parts _ _ a.0 in
    record { legal = b.0; begins = eqb-true _ _ b.1; goes_on = a.1 }

pub leads-from_LeadsBy : (town : Town) (i : ℕ) (step : Step) (steps : List Step) (j : ℕ) → LeadsBy town i step steps j → leads town i (step ∷ steps) j ≡ true
leads-from_LeadsBy town i step steps j by = and_from _ _ (and_from _ _ by.legal (eq-eqb _ _ by.begins)) by.goes_on

-- two walks, one after the other
pub leads-join : (town : Town) (i : ℕ) (xs ys : List Step) (k j : ℕ) → leads town i xs k ≡ true → leads town k ys j ≡ true → leads town i (xs ++ ys) j ≡ true
leads-join town i [] ys k j first second = subst (λ m. leads town m ys j ≡ true) (sym (eqb-true i k first)) second
leads-join town i (step ∷ xs) ys k j first second =
    let by = LeadsBy-from_leads town i step xs k first in
    leads-from_LeadsBy town i step (xs ++ ys) j (record { legal = by.legal; begins = by.begins; goes_on = leads-join town (head_of town (arc_of step)) xs ys k j by.goes_on second })

-- one step more
pub leads-push : (town : Town) (i : ℕ) (xs : List Step) (step : Step) (k : ℕ) → leads town i xs k ≡ true → is_legal town (arc_of step) ≡ true → tail_of town (arc_of step) ≡ k → leads town i (xs ++ step ∷ []) (head_of town (arc_of step)) ≡ true
leads-push town i xs step k lead legal begins =
    leads-join town i xs (step ∷ []) k _ lead (leads-from_LeadsBy town k step [] _ (record { legal = legal; begins = begins; goes_on = eq-eqb _ _ refl }))

first_last : (a b c t : Bool) → b ≡ t → ((a && b) && c) ≡ (t && (a && c))
first_last true b c t same = ap (λ x. x && c) same
first_last false true c t same = ap (λ x. x && false) same
first_last false false c t same = ap (λ x. x && false) same

-- `leads` of one step more, as an equation
pub leads-push_is : (town : Town) (i : ℕ) (xs : List Step) (step : Step) (j : ℕ) → leads town i (xs ++ step ∷ []) j ≡ (leads town i xs (tail_of town (arc_of step)) && (is_legal town (arc_of step) && head_of town (arc_of step) == j))
leads-push_is town i [] step j = first_last _ _ _ _ (eqb_turned (tail_of town (arc_of step)) i)
leads-push_is town i (first ∷ xs) step j =
    ap (λ b. (is_legal town (arc_of first) && tail_of town (arc_of first) == i) && b) (leads-push_is town (head_of town (arc_of first)) xs step j)
    ∙ sym (and_assoc (is_legal town (arc_of first) && tail_of town (arc_of first) == i) _ _)

-- steps that lead somewhere are legal
pub are_legal-from_leads : (town : Town) (i : ℕ) (steps : List Step) (j : ℕ) → leads town i steps j ≡ true → are_legal town steps ≡ true
are_legal-from_leads town i [] j lead = refl
are_legal-from_leads town i (step ∷ steps) j lead =
    let by = LeadsBy-from_leads town i step steps j lead in
    and_from _ _ by.legal (are_legal-from_leads town (head_of town (arc_of step)) steps j by.goes_on)

-- ---- closed walks

-- steps that lead from a junction back to it are a closed walk, and a closed walk leads so from some junction
pub closed-from_leads : (town : Town) (i : ℕ) (steps : List Step) → leads town i steps i ≡ true → is_closed_walk town steps ≡ true
closed-from_leads town i [] lead = refl
closed-from_leads town i (step ∷ steps) lead =
    subst (λ k. leads town k (step ∷ steps) k ≡ true) (sym (LeadsBy-from_leads town i step steps i lead).begins) lead

pub leads-from_closed : (town : Town) (steps : List Step) → is_closed_walk town steps ≡ true → (i : ℕ) × (leads town i steps i ≡ true)
leads-from_closed town [] closed = (0, refl)
leads-from_closed town (step ∷ steps) closed = (tail_of town (arc_of step), closed)

pub are_legal-from_closed : (town : Town) (steps : List Step) → is_closed_walk town steps ≡ true → are_legal town steps ≡ true
are_legal-from_closed town steps closed = let from = leads-from_closed town steps closed in are_legal-from_leads town from.0 steps from.0 from.1

-- ---- tours

pub tour_closed : (town : Town) (steps : List Step) → is_tour town steps ≡ true → is_closed_walk town steps ≡ true
tour_closed town steps tour = (and_parts _ _ tour).0

pub tour_serves : (town : Town) (steps : List Step) → is_tour town steps ≡ true → serves_all town steps ≡ true
tour_serves town steps tour = (and_parts _ _ tour).1

-- ---- service, cost and counts of walks one after the other

pub walk_cost-cons : (town : Town) (step : Step) (steps : List Step) → walk_cost town (step ∷ steps) ≡ cost_or_zero town (arc_of step) + walk_cost town steps
walk_cost-cons town step steps = sum_by-cons (λ s. cost_or_zero town (arc_of s)) step steps

pub walk_cost-append : (town : Town) (xs ys : List Step) → walk_cost town (xs ++ ys) ≡ walk_cost town xs + walk_cost town ys
walk_cost-append town xs ys = sum_by-append (λ s. cost_or_zero town (arc_of s)) xs ys

pub count_of-cons : (step : Step) (steps : List Step) (arc : ℕ) → count_of (step ∷ steps) arc ≡ cond (arc_of step == arc) 1 0 + count_of steps arc
count_of-cons step steps arc = sum_by-cons (λ s. cond (arc_of s == arc) 1 0) step steps

pub count_of-append : (xs ys : List Step) (arc : ℕ) → count_of (xs ++ ys) arc ≡ count_of xs arc + count_of ys arc
count_of-append xs ys arc = sum_by-append (λ s. cond (arc_of s == arc) 1 0) xs ys

-- the junction where steps from junction i end
abbrev pub end_of : Town → ℕ → List Step → ℕ
end_of town i [] = i
end_of town i (step ∷ steps) = end_of town (head_of town (arc_of step)) steps

-- steps taken apart
pub record LeadsVia (town : Town) (i : ℕ) (xs ys : List Step) (j : ℕ) : Type 0 where
  pub before : leads town i xs (end_of town i xs) ≡ true
  pub after : leads town (end_of town i xs) ys j ≡ true

pub leads-split : (town : Town) (i : ℕ) (xs ys : List Step) (j : ℕ) → leads town i (xs ++ ys) j ≡ true → LeadsVia town i xs ys j
leads-split town i [] ys j lead = record { before = eq-eqb i i refl; after = lead }
leads-split town i (step ∷ xs) ys j lead =
    let by = LeadsBy-from_leads town i step (xs ++ ys) j lead in
    let via = leads-split town (head_of town (arc_of step)) xs ys j by.goes_on in
    record {
      before = leads-from_LeadsBy town i step xs _ (record { legal = by.legal; begins = by.begins; goes_on = via.before });
      after = via.after;
    }

-- a closed walk may begin at any of its steps
pub closed-turned : (town : Town) (xs ys : List Step) → is_closed_walk town (xs ++ ys) ≡ true → is_closed_walk town (ys ++ xs) ≡ true
closed-turned town xs ys closed =
    let from = leads-from_closed town (xs ++ ys) closed in
    let via = leads-split town from.0 xs ys from.0 from.1 in
    closed-from_leads town (end_of town from.0 xs) (ys ++ xs) (leads-join town _ ys xs from.0 _ via.after via.before)

pub tour_legal : (town : Town) (steps : List Step) → is_tour town steps ≡ true → are_legal town steps ≡ true
tour_legal town steps tour = are_legal-from_closed town steps (tour_closed town steps tour)

pub tour_from : (town : Town) (steps : List Step) → is_closed_walk town steps ≡ true → serves_all town steps ≡ true → is_tour town steps ≡ true
tour_from town steps closed served = and_from _ _ closed served

pub serves-append : (xs ys : List Step) (demand : List ℕ) → serves (xs ++ ys) demand ≡ (serves xs demand || serves ys demand)
serves-append xs ys demand = list_any-append (λ step. has_arc demand (arc_of step)) xs ys
