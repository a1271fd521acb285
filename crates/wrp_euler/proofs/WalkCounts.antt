-- What the counts of a walk say: how often it leaves and enters each junction, and which junctions it joins.
use Rattle.std.proofs.Common.{◌≡◌, ℕ, ◌+◌, ◌*◌, ◌<◌, Bool, true, cond, ◌==◌, List, [], ◌∷◌, ◌++◌, reverse, length, ap, refl, sym, ◌∙◌, subst, inl, inr, arith, eq-eqb}
use Rattle.std.specs.Prelude.{slice_index}
use Rattle.std.specs.List.{sum_by}
use Rattle.std.proofs.lemmas.Bool.{eqb-true, cases_eq, ne_eqb}
use Rattle.std.proofs.lemmas.List.{reverse-append}
use Rattle.wrp_town.specs.declared.street.Step.{Step}
use Rattle.wrp_town.specs.declared.town.Town.{Town}
use Rattle.wrp_town.specs.Arcs.{is_legal, tail_of, head_of, arc_of}
use Rattle.wrp_town.specs.Walks.{leads, count_of}
use Rattle.wrp_town.proofs.TownLaws.{legal_below}
use Rattle.wrp_town.proofs.WalkLaws.{LeadsBy-from_leads, count_of-cons, count_of-append}
use Rattle.wrp_graph.specs.Stars.{out_of, into}
use Rattle.wrp_graph.specs.Pieces.{Joined}
use Rattle.wrp_graph.specs.Pieces.Joined.{here, along}
use Rattle.wrp_euler.proofs.StarSums.{sum_by_plus, sum_by_same, sum_by_none, star_one}

-- ---- one arc more

pub count_same : (step : Step) (steps : List Step) (arc : ℕ) → arc_of step ≡ arc → count_of (step ∷ steps) arc ≡ 1 + count_of steps arc
count_same step steps arc same = omega (arith, count_of-cons step steps arc, ap {B = ℕ} (λ t. cond t 1 0) (eq-eqb (arc_of step) arc same))

pub count_other : (step : Step) (steps : List Step) (arc : ℕ) → (arc_of step ≡ arc → ⊥) → count_of (step ∷ steps) arc ≡ count_of steps arc
count_other step steps arc differs = omega (arith, count_of-cons step steps arc, ap {B = ℕ} (λ t. cond t 1 0) (ne_eqb (arc_of step) arc differs))

pub count_push : (steps : List Step) (step : Step) (arc : ℕ) → count_of (steps ++ step ∷ []) arc ≡ count_of steps arc + cond (arc_of step == arc) 1 0
count_push steps step arc = omega (arith, count_of-append steps (step ∷ []) arc, count_of-cons step [] arc)

pub reverse_cons : (step : Step) (steps : List Step) → reverse (step ∷ steps) ≡ reverse steps ++ step ∷ []
reverse_cons step steps = reverse-append (step ∷ []) steps

pub reverse_push : (steps : List Step) (step : Step) → reverse (steps ++ step ∷ []) ≡ step ∷ reverse steps
reverse_push steps step = reverse-append steps (step ∷ [])

pub count_reverse : (steps : List Step) (arc : ℕ) → count_of (reverse steps) arc ≡ count_of steps arc
count_reverse [] arc = refl
count_reverse (step ∷ steps) arc =
    omega (arith, ap (λ xs. count_of xs arc) (reverse_cons step steps), count_push (reverse steps) step arc, count_of-cons step steps arc, count_reverse steps arc)

-- ---- how often a walk leaves and enters a junction

pub out_one : (town : Town) (b j : ℕ) → is_legal town b ≡ true → sum_by (λ arc. cond (b == arc) 1 0) (out_of town j) ≡ cond (tail_of town b == j) 1 0
out_one town b j legal = star_one (is_legal town) (λ arc. tail_of town arc == j) (2 * length town.streets) b (legal_below town b legal) legal

pub in_one : (town : Town) (b j : ℕ) → is_legal town b ≡ true → sum_by (λ arc. cond (b == arc) 1 0) (into town j) ≡ cond (head_of town b == j) 1 0
in_one town b j legal = star_one (is_legal town) (λ arc. head_of town arc == j) (2 * length town.streets) b (legal_below town b legal) legal

count_sum : (step : Step) (steps : List Step) (arcs : List ℕ) → sum_by (count_of (step ∷ steps)) arcs ≡ sum_by (λ arc. cond (arc_of step == arc) 1 0) arcs + sum_by (count_of steps) arcs
count_sum step steps arcs =
    sum_by_same (count_of (step ∷ steps)) (λ arc. cond (arc_of step == arc) 1 0 + count_of steps arc) arcs (count_of-cons step steps)
    ∙ sum_by_plus (λ arc. cond (arc_of step == arc) 1 0) (count_of steps) arcs

-- over any arcs, what is left behind a walk and what it takes are what there was
pub walked_sum : (rest left : List ℕ) (steps : List Step) (arcs : List ℕ) → ((arc : ℕ) → slice_index rest arc + count_of steps arc ≡ slice_index left arc)
    → sum_by (slice_index rest) arcs + sum_by (count_of steps) arcs ≡ sum_by (slice_index left) arcs
walked_sum rest left steps arcs counted =
    sym (sum_by_plus (slice_index rest) (count_of steps) arcs)
    ∙ sum_by_same (λ a. slice_index rest a + count_of steps a) (slice_index left) arcs counted

-- a walk leaves each junction as often as it enters it, but for its ends
pub walk_balance : (town : Town) (i : ℕ) (steps : List Step) (j k : ℕ) → leads town i steps j ≡ true
    → sum_by (count_of steps) (out_of town k) + cond (j == k) 1 0 ≡ sum_by (count_of steps) (into town k) + cond (i == k) 1 0
walk_balance town i [] j k lead =
    omega (arith, sum_by_none (count_of []) (out_of town k) (λ arc. refl), sum_by_none (count_of []) (into town k) (λ arc. refl), ap {B = ℕ} (λ n. cond (n == k) 1 0) (eqb-true i j lead))
walk_balance town i (step ∷ steps) j k lead =
    let by = LeadsBy-from_leads town i step steps j lead in
    omega (
      arith,
      walk_balance town (head_of town (arc_of step)) steps j k by.goes_on,
      count_sum step steps (out_of town k),
      count_sum step steps (into town k),
      out_one town (arc_of step) k by.legal,
      in_one town (arc_of step) k by.legal,
      ap {B = ℕ} (λ n. cond (n == k) 1 0) by.begins,
    )

-- ---- the arcs of a walk

-- an arc of a walk is legal
pub walk_legal : (town : Town) (i : ℕ) (steps : List Step) (j arc : ℕ) → leads town i steps j ≡ true → 0 < count_of steps arc → is_legal town arc ≡ true
walk_legal town i [] j arc lead used = absurd (omega arith)
walk_legal town i (step ∷ steps) j arc lead used =
    let by = LeadsBy-from_leads town i step steps j lead in
    elim (cases_eq (arc_of step) arc) [
      | inl same ↦ subst (λ a. is_legal town a ≡ true) same by.legal
      | inr differs ↦ walk_legal town (head_of town (arc_of step)) steps j arc by.goes_on (omega (arith, count_other step steps arc differs))
    ]

-- what holds where a walk begins and where each of its arcs ends holds where each of them begins
pub walk_tails : (P : ℕ → Type 0) (town : Town) (i : ℕ) (steps : List Step) (j : ℕ) → leads town i steps j ≡ true
    → P i → ((arc : ℕ) → 0 < count_of steps arc → P (head_of town arc)) → (arc : ℕ) → 0 < count_of steps arc → P (tail_of town arc)
walk_tails P town i [] j lead first heads arc used = absurd (omega arith)
walk_tails P town i (step ∷ steps) j lead first heads arc used =
    let by = LeadsBy-from_leads town i step steps j lead in
    elim (cases_eq (arc_of step) arc) [
      | inl same ↦ subst (λ a. P (tail_of town a)) same (subst P (sym by.begins) first)
      | inr differs ↦ walk_tails P town (head_of town (arc_of step)) steps j by.goes_on
          (heads (arc_of step) (omega (arith, count_same step steps (arc_of step) refl)))
          (λ a more. heads a (omega (arith, count_of-cons step steps a))) arc (omega (arith, count_other step steps arc differs))
    ]

-- ---- joined junctions

-- a walk joins where it begins with where each of its arcs begins
pub walk_joins : (town : Town) (taken : ℕ → Bool) (i : ℕ) (steps : List Step) (j : ℕ) → leads town i steps j ≡ true
    → ((arc : ℕ) → 0 < count_of steps arc → taken arc ≡ true) → (arc : ℕ) → 0 < count_of steps arc → Joined town taken i (tail_of town arc)
walk_joins town taken i [] j lead all arc used = absurd (omega arith)
walk_joins town taken i (step ∷ steps) j lead all arc used =
    let by = LeadsBy-from_leads town i step steps j lead in
    elim (cases_eq (arc_of step) arc) [
      | inl same ↦ subst (λ n. Joined town taken n (tail_of town arc)) (ap (tail_of town) (sym same) ∙ by.begins) (here (tail_of town arc))
      | inr differs ↦ subst (λ n. Joined town taken n (tail_of town arc)) by.begins
          (along (arc_of step) (tail_of town arc) (legal_below town (arc_of step) by.legal) (all (arc_of step) (omega (arith, count_same step steps (arc_of step) refl)))
          (walk_joins town taken (head_of town (arc_of step)) steps j by.goes_on (λ a more. all a (omega (arith, count_of-cons step steps a))) arc
          (omega (arith, count_other step steps arc differs))))
    ]
