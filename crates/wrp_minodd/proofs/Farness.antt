-- Weights of splits, from the weights of sets between one odd node and each other one.
use Rattle.std.proofs.Common.{◌≡◌, ℕ, ◌≤◌, Bool, true, false, not, List, [], ◌∷◌, ◌++◌, ap, sym, ◌∙◌, inl, inr, ◌⊎◌, arith}
use Rattle.std.proofs.lemmas.Bool.{cases_Bool, true≢false}
use Rattle.std.proofs.lemmas.List.Elements.{Contains-append_cases}
use Rattle.wrp_town.proofs.Members.{inside_cases, inside_none}
use Rattle.wrp_webs.specs.Webs.{Web, outside, cut, IsWeb, IsMerge, Keeps, IsOddNode, IsSplit, IsLeastSplit}
use Rattle.wrp_webs.specs.Searching.{HasBelow}
use Rattle.wrp_webs.proofs.Uncrossing.{cut_outside}
use Rattle.wrp_webs.proofs.Splitting.{odd_is_split, keeps_outside}
use Rattle.wrp_minodd.specs.Looks.{IsFar}

module _ (web : Web) (at : ℕ → ℕ) (merge : IsMerge web at) (s least : ℕ)
    (far : (v : ℕ) → IsOddNode web at v → (v ≡ s → ⊥) → (set : ℕ → Bool) → Keeps web at set → set s ≡ true → set v ≡ false → least ≤ cut web set) where
  apart : (other : ℕ → Bool) (v : ℕ) → other s ≡ true → other v ≡ false → v ≡ s → ⊥
  apart other v holds out same = true≢false (sym holds ∙ ap other (sym same) ∙ out)

  -- no split weighs less
  pub splits_far : (other : ℕ → Bool) (v w : ℕ) → IsSplit web at other v w → least ≤ cut web other
  splits_far other v w split = by (cases_Bool (other s))
    where
      by : (other s ≡ true) ⊎ (other s ≡ false) → least ≤ cut web other
      by (inl holds) = far w split.second (apart other w holds split.leaves_out) other split.keeps holds split.leaves_out
      by (inr out) =
          omega (
            arith,
            cut_outside web other,
            far v split.first (apart (outside other) v (ap not out) (ap not split.holds)) (outside other) (keeps_outside web at merge other split.keeps) (ap not out) (ap not split.holds),
          )

  -- so no odd set does
  pub none_when_far : IsWeb web → HasBelow web least at → ⊥
  none_when_far is has =
      let split = odd_is_split web at merge has.set is has.keeps has.odd in
      absurd (omega (arith, has.lighter, splits_far has.set split.0 split.1 split.2))

  -- and a split of that weight is a least one
  pub least_when_far : (u : ℕ → Bool) (t : ℕ) → IsOddNode web at s → IsOddNode web at t → Keeps web at u → u s ≡ true → u t ≡ false → cut web u ≡ least → IsLeastSplit web at u s t
  least_when_far u t first second keeps holds out weighs = record {
    split = record { keeps = keeps; first = first; second = second; holds = holds; leaves_out = out };
    least = λ other v w split. omega (arith, splits_far other v w split);
  }

-- ---- far from one node more

pub far_less : (web : Web) (at : ℕ → ℕ) (s : ℕ) (nodes : List ℕ) (least less : ℕ) → less ≤ least → IsFar web at s nodes least → IsFar web at s nodes less
far_less web at s nodes least less below far = λ v inside set keeps holds out. omega (arith, far v inside set keeps holds out)

pub far_more : (web : Web) (at : ℕ → ℕ) (s t : ℕ) (nodes : List ℕ) (least : ℕ) → IsFar web at s nodes least
    → ((set : ℕ → Bool) → Keeps web at set → set s ≡ true → set t ≡ false → least ≤ cut web set) → IsFar web at s (nodes ++ t ∷ []) least
far_more web at s t nodes least far here = λ v inside set keeps holds out. elim (Contains-append_cases nodes (t ∷ []) v inside) [
  | inl before ↦ far v before set keeps holds out
  | inr last ↦ inside_cases (least ≤ cut web set) t [] v last (λ same. here set keeps holds (ap set same ∙ out)) (λ none. absurd (inside_none v none))
]
