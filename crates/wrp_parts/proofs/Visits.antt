-- Visits of junctions: of one, and of some after others.
use Rattle.std.proofs.Common.{◌≡◌, ℕ, zero, suc, ◌<◌, Bool, true, false, cond, List, [], ◌∷◌, ◌++◌, length, set, refl, sym, ap, ◌∙◌, subst, inl, inr, arith, Option, Some, None, is_some}
use Rattle.std.specs.Prelude.{not}
use Rattle.std.specs.List.{Contains}
use Rattle.std.proofs.lemmas.Bool.{cases_eq, cases_lt, false≢true}
use Rattle.std.proofs.lemmas.Option.{none-some, same_Some}
use Rattle.std.proofs.lemmas.List.{get_or-set_same, get_or-set_other, length-set, length_push, get_or_past}
use Rattle.std.proofs.lemmas.List.Elements.{Contains-append_left, Contains-append_right, Contains-push, Contains-push_cases, Contains-append_cases}
use Rattle.std.proofs.lemmas.List.Sums.{sum_by-set}
use Rattle.wrp_town.proofs.TownLaws.{some_value}
use Rattle.wrp_parts.specs.RequiredParts.{part_at}
use Rattle.wrp_parts.specs.Traversal.{Kept, IsVisit}

-- the one item of a list
pub in_single : (k j : ℕ) → Contains (k ∷ []) j → k ≡ j
in_single k j (zero, small, is) = is
in_single k j (suc i, small, is) = absurd (omega arith)

pub no_item : (j : ℕ) → Contains {X = ℕ} [] j → ⊥
no_item j has = omega (arith, has.1)

-- a junction with a part is within the list
pub part_inside : (of : List (Option ℕ)) (j q : ℕ) → part_at of j ≡ Some q → j < length of
part_inside of j q is = elim (cases_lt j (length of)) [ inl inside ↦ inside | inr past ↦ absurd (none-some q (sym (get_or_past of j None past) ∙ is)) ]

pub some_kept : (old new : List (Option ℕ)) (k : ℕ) → Kept old new → is_some (part_at old k) ≡ true → is_some (part_at new k) ≡ true
some_kept old new k kept some = let part = some_value (part_at old k) some in ap is_some (kept k part.0 part.1)

-- a junction without a part
pub visit_new : (k part : ℕ) (old : List (Option ℕ)) (stack : List ℕ) → k < length old → part_at old k ≡ None → IsVisit (k ∷ []) part old stack (set old k (Some part)) (stack ++ k ∷ [])
visit_new k part old stack inside none =
    let here = get_or-set_same old k (Some part) None inside in
    record {
      long = length-set old k (Some part);
      kept = λ j q is. elim (cases_eq j k) [
        | inl same ↦ absurd (none-some q (sym none ∙ subst (λ z. part_at old z ≡ Some q) same is))
        | inr differs ↦ get_or-set_other old k j (Some part) None differs ∙ is
      ];
      met = λ j has. subst (λ z. is_some (part_at (set old k (Some part)) z) ≡ true) (in_single k j has) (ap is_some here);
      fresh = λ j q is. elim (cases_eq j k) [
        | inl same ↦ inr (same_Some q part (sym is ∙ subst (λ z. part_at (set old k (Some part)) z ≡ Some part) (sym same) here), (subst (λ z. Contains (k ∷ []) z) (sym same) (Contains-push [] k)), (subst (λ z. Contains (stack ++ k ∷ []) z) (sym same) (Contains-push stack k)))
        | inr differs ↦ inl (sym (get_or-set_other old k j (Some part) None differs) ∙ is)
      ];
      older = λ j has. Contains-append_left stack (k ∷ []) j has;
      stacked = λ j has. elim (Contains-push_cases stack k j has) [
        | inl before ↦ inl before
        | inr same ↦ inr (subst (λ z. Contains (k ∷ []) z) same (Contains-push [] k), subst (λ z. part_at (set old k (Some part)) z ≡ Some part) same here)
      ];
      work = omega (arith, length_push stack k, sum_by-set (λ (o : Option ℕ). cond (not (is_some o)) 1 0) old k (Some part) None inside, ap (λ (o : Option ℕ). cond {A = ℕ} (not (is_some o)) 1 0) none);
    }

-- junctions after others
pub visit_join : (xs ys : List ℕ) (part : ℕ) (old mid new : List (Option ℕ)) (s t u : List ℕ) → IsVisit xs part old s mid t → IsVisit ys part mid t new u → IsVisit (xs ++ ys) part old s new u
visit_join xs ys part old mid new s t u a b = record {
  long = b.long ∙ a.long;
  kept = λ j q is. b.kept j q (a.kept j q is);
  met = λ k has. elim (Contains-append_cases xs ys k has) [ inl first ↦ some_kept mid new k b.kept (a.met k first) | inr second ↦ b.met k second ];
  fresh = λ j q is. elim (b.fresh j q is) [
    | inl was ↦ elim (a.fresh j q was) [ inl before ↦ inl before | inr first ↦ inr (first.0, Contains-append_left xs ys j first.1, b.older j first.2) ]
    | inr second ↦ inr (second.0, Contains-append_right xs ys j second.1, second.2)
  ];
  older = λ j has. b.older j (a.older j has);
  stacked = λ j has. elim (b.stacked j has) [
    | inl was ↦ elim (a.stacked j was) [ inl before ↦ inl before | inr first ↦ inr (Contains-append_left xs ys j first.0, b.kept j part first.1) ]
    | inr second ↦ inr (Contains-append_right xs ys j second.0, second.1)
  ];
  work = b.work ∙ a.work;
}

-- tests of the code
pub none_from_test : (o : Option ℕ) (b : Bool) → is_some o ≡ not b → b ≡ true → o ≡ None
none_from_test None b is holds = refl
none_from_test (Some q) true is holds = absurd (false≢true (sym is))
none_from_test (Some q) false is holds = absurd (false≢true holds)
