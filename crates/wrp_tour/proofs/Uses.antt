-- Uses of arcs, counted step by step.
use Rattle.std.proofs.Common.{◌≡◌, ℕ, ◌+◌, ◌*◌, ◌<◌, ◌≤◌, Bool, true, cond, ◌==◌, List, [], ◌∷◌, ◌++◌, length, take, get_or, set, replicate, sym, ap, ◌∙◌, subst, inl, inr, arith, eq-eqb}
use Rattle.std.specs.Prelude.{slice_index, ◌^◌}
use Rattle.std.specs.List.{list_all}
use Rattle.std.proofs.lemmas.Bool.{cases_eq, ne_eqb}
use Rattle.std.proofs.lemmas.List.{take_more, get_or-set_same, get_or-set_other, length-set, get_or-replicate, length-replicate, get_or_read}
use Rattle.wrp_town.specs.declared.street.Step.{Step}
use Rattle.wrp_town.specs.declared.town.Town.{Town}
use Rattle.wrp_town.specs.Arcs.{arc_of, is_legal}
use Rattle.wrp_town.specs.Walks.{count_of}
use Rattle.wrp_town.proofs.TownLaws.{legal_below, legal_step_below, few_streets}
use Rattle.wrp_town.proofs.Lists.{list_all-at}
use Rattle.wrp_town.proofs.WalkLaws.{count_of-append, count_of-cons}

-- the counts of some steps, none above the limit
pub record AreCounted (town : Town) (most : ℕ) (steps : List Step) (counts : List ℕ) : Type 0 where
  pub each : length counts ≡ 2 * length town.streets
  pub same : (arc : ℕ) → arc < 2 * length town.streets → slice_index counts arc ≡ count_of steps arc
  pub few : (arc : ℕ) → count_of steps arc ≤ most

pub counted_none : (town : Town) (most : ℕ) (counts : List ℕ) → counts ≡ replicate (2 * length town.streets) 0 → AreCounted town most [] counts
counted_none town most counts is = record {
  each = ap length is ∙ length-replicate (2 * length town.streets) 0;
  same = λ arc below. ap (λ (xs : List ℕ). slice_index xs arc) is ∙ get_or-replicate (2 * length town.streets) arc 0 0 below;
  few = λ arc. omega arith;
}

-- a step of legal ones
pub legal_at : (town : Town) (steps : List Step) (i : ℕ) (d : Step) → list_all (λ step. is_legal town (arc_of step)) steps ≡ true → i < length steps → is_legal town (arc_of (get_or steps i d)) ≡ true
legal_at town steps i d legal small = list_all-at (λ step. is_legal town (arc_of step)) steps i d legal small

pub small_street : (town : Town) (step : Step) → is_legal town (arc_of step) ≡ true → step.street < 2 ^ 31
small_street town step legal = omega (arith, legal_step_below town step legal, few_streets town)

count_push : (steps : List Step) (step : Step) (arc : ℕ) → count_of (steps ++ step ∷ []) arc ≡ count_of steps arc + cond (arc_of step == arc) 1 0
count_push steps step arc = omega (arith, count_of-append steps (step ∷ []) arc, count_of-cons step [] arc)

pub counted_more : (town : Town) (most i : ℕ) (steps : List Step) (step d : Step) (counts new : List ℕ) → list_all (λ s. is_legal town (arc_of s)) steps ≡ true → i < length steps → step ≡ get_or steps i d → AreCounted town most (take i steps) counts → slice_index counts (arc_of step) < most
    → new ≡ set counts (arc_of step) (slice_index counts (arc_of step) + 1) → AreCounted town most (take (i + 1) steps) new
counted_more town most i steps step d counts new legal small is c low made =
    let arc : ℕ = arc_of step in
    let below : arc < 2 * length town.streets = legal_below town arc (subst (λ s. is_legal town (arc_of s) ≡ true) (sym is) (legal_at town steps i d legal small)) in
    let more : take (i + 1) steps ≡ take i steps ++ step ∷ [] = take_more steps i d small ∙ ap (λ s. take i steps ++ s ∷ []) (sym is) in
    subst (λ (xs : List Step). AreCounted town most xs new) (sym more)
    (record {
      each = ap length made ∙ length-set counts arc (slice_index counts arc + 1) ∙ c.each;
      same = λ a small_a. elim (cases_eq a arc) [
        | inl here ↦ omega (
          arith,
          ap (λ (xs : List ℕ). slice_index xs a) made,
          ap (λ (k : ℕ). slice_index (set counts arc (slice_index counts arc + 1)) k) here,
          get_or-set_same counts arc (slice_index counts arc + 1) 0 (omega (arith, c.each)),
          count_push (take i steps) step a,
          ap (λ (b : Bool). cond {A = ℕ} b 1 0) (eq-eqb arc a (sym here)),
          c.same a small_a,
          ap (slice_index counts) here,
        )
        | inr other ↦ omega (
          arith,
          ap (λ (xs : List ℕ). slice_index xs a) made,
          get_or-set_other counts arc a (slice_index counts arc + 1) 0 other,
          count_push (take i steps) step a,
          ap (λ (b : Bool). cond {A = ℕ} b 1 0) (ne_eqb arc a (λ same. other (sym same))),
          c.same a small_a,
        )
      ];
      few = λ a. elim (cases_eq a arc) [
        | inl here ↦ omega (arith, count_push (take i steps) step a, ap (λ (b : Bool). cond {A = ℕ} b 1 0) (eq-eqb arc a (sym here)), c.same arc below, ap (λ (k : ℕ). count_of (take i steps) k) here)
        | inr other ↦ omega (arith, count_push (take i steps) step a, ap (λ (b : Bool). cond {A = ℕ} b 1 0) (ne_eqb arc a (λ same. other (sym same))), c.few a)
      ];
    })

-- what is read twice is one
pub read_at : (xs : List ℕ) (i x : ℕ) → i < length xs → x ≡ get_or xs i x → slice_index xs i ≡ x
read_at xs i x inside read = sym (get_or_read xs i x inside read 0)
