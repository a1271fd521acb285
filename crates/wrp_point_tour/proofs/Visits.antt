-- Visits of junctions: of one, and of some after others.
use Rattle.std.proofs.Common.{◌≡◌, ℕ, ◌<◌, Bool, true, false, cond, not, List, [], ◌∷◌, ◌++◌, length, set, refl, sym, ap, ◌∙◌, subst, inl, inr, arith}
use Rattle.std.specs.List.{Contains}
use Rattle.std.proofs.lemmas.Bool.{cases_eq, cases_lt, true≢false, false≢true}
use Rattle.std.proofs.lemmas.List.{get_or-set_same, get_or-set_other, length-set, length_push, get_or_past}
use Rattle.std.proofs.lemmas.List.Elements.{Contains-append_left, Contains-append_right, Contains-push, Contains-push_cases, Contains-append_cases}
use Rattle.std.proofs.lemmas.List.Sums.{sum_by-set}
use Rattle.wrp_parts.proofs.Visits.{in_single}
use Rattle.wrp_point_tour.specs.Counts.{is_marked}
use Rattle.wrp_point_tour.specs.Search.{IsVisit}

-- a junction that is marked is within the list
pub marked_inside : (marks : List Bool) (j : ℕ) → is_marked marks j ≡ true → j < length marks
marked_inside marks j is = elim (cases_lt j (length marks)) [ inl inside ↦ inside | inr past ↦ absurd (false≢true (sym (get_or_past marks j false past) ∙ is)) ]

-- a junction that is marked already
pub visit_old : (k : ℕ) (old : List Bool) (stack : List ℕ) → is_marked old k ≡ true → IsVisit (k ∷ []) old stack old stack
visit_old k old stack has = record {
  long = refl;
  kept = λ j is. is;
  met = λ j inside. subst (λ z. is_marked old z ≡ true) (in_single k j inside) has;
  fresh = λ j is. inl is;
  older = λ j inside. inside;
  stacked = λ j inside. inl inside;
  work = refl;
}

-- a junction that isn't
pub visit_new : (k : ℕ) (old : List Bool) (stack : List ℕ) → k < length old → is_marked old k ≡ false → IsVisit (k ∷ []) old stack (set old k true) (stack ++ k ∷ [])
visit_new k old stack inside none =
    let here = get_or-set_same old k true false inside in
    record {
      long = length-set old k true;
      kept = λ j is. elim (cases_eq j k) [
        | inl same ↦ absurd (true≢false (sym is ∙ ap (is_marked old) same ∙ none))
        | inr differs ↦ get_or-set_other old k j true false differs ∙ is
      ];
      met = λ j has. subst (λ z. is_marked (set old k true) z ≡ true) (in_single k j has) here;
      fresh = λ j is. elim (cases_eq j k) [
        | inl same ↦ inr (subst (λ z. Contains (k ∷ []) z) (sym same) (Contains-push [] k), subst (λ z. Contains (stack ++ k ∷ []) z) (sym same) (Contains-push stack k))
        | inr differs ↦ inl (sym (get_or-set_other old k j true false differs) ∙ is)
      ];
      older = λ j has. Contains-append_left stack (k ∷ []) j has;
      stacked = λ j has. elim (Contains-push_cases stack k j has) [
        | inl before ↦ inl before
        | inr same ↦ inr (subst (λ z. Contains (k ∷ []) z) same (Contains-push [] k), subst (λ z. is_marked (set old k true) z ≡ true) same here)
      ];
      work = omega (arith, length_push stack k, sum_by-set (λ (b : Bool). cond (not b) 1 0) old k true false inside, ap (λ (b : Bool). cond {A = ℕ} (not b) 1 0) none);
    }

-- no junction
pub visit_none : (old : List Bool) (stack : List ℕ) → IsVisit [] old stack old stack
visit_none old stack = record {
  long = refl;
  kept = λ j is. is;
  met = λ j inside. absurd (omega (arith, inside.1));
  fresh = λ j is. inl is;
  older = λ j inside. inside;
  stacked = λ j inside. inl inside;
  work = refl;
}

-- junctions after others
pub visit_join : (xs ys : List ℕ) (old mid new : List Bool) (s t u : List ℕ) → IsVisit xs old s mid t → IsVisit ys mid t new u → IsVisit (xs ++ ys) old s new u
visit_join xs ys old mid new s t u a b = record {
  long = b.long ∙ a.long;
  kept = λ j is. b.kept j (a.kept j is);
  met = λ k has. elim (Contains-append_cases xs ys k has) [ inl first ↦ b.kept k (a.met k first) | inr second ↦ b.met k second ];
  fresh = λ j is. elim (b.fresh j is) [
    | inl was ↦ elim (a.fresh j was) [ inl before ↦ inl before | inr first ↦ inr (Contains-append_left xs ys j first.0, b.older j first.1) ]
    | inr second ↦ inr (Contains-append_right xs ys j second.0, second.1)
  ];
  older = λ j has. b.older j (a.older j has);
  stacked = λ j has. elim (b.stacked j has) [
    | inl was ↦ elim (a.stacked j was) [ inl before ↦ inl before | inr first ↦ inr (Contains-append_left xs ys j first.0, b.kept j first.1) ]
    | inr second ↦ inr (Contains-append_right xs ys j second.0, second.1)
  ];
  work = b.work ∙ a.work;
}
