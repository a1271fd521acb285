-- Parents and labels of components.
use Rattle.std.proofs.Common.{◌≡◌, ℕ, ◌+◌, ◌<◌, ◌≤◌, List, [], ◌∷◌, ◌++◌, length, slice_index, ap, sym, ◌∙◌, inl, inr, ◌⊎◌, arith, length-append}
use Rattle.std.proofs.lemmas.List.{get_or_append_left}
use Rattle.std.proofs.lemmas.Bool.{cases_eq}
use Rattle.std.proofs.Math.Seq.{get_or-append_seam}
use Rattle.wrp_odd.specs.Merging.{AreParents}

-- the labels of the junctions below j
pub record AreLabelsTo (parents labels : List ℕ) (j : ℕ) : Type 0 where
  pub long : length labels ≡ j
  pub low : (i : ℕ) → i < j → slice_index labels i ≤ i
  pub still : (i : ℕ) → i < j → slice_index labels (slice_index labels i) ≡ slice_index labels i
  pub same : (i : ℕ) → i < j → slice_index labels (slice_index parents i) ≡ slice_index labels i

-- one label more
module _ (parents labels : List ℕ) (j label : ℕ) (are : AreParents (length parents) parents) (below : j < length parents) (old : AreLabelsTo parents labels j) where
  left : (i : ℕ) → i < j → slice_index (labels ++ label ∷ []) i ≡ slice_index labels i
  left i less = get_or_append_left labels (label ∷ []) 0 i (omega (arith, old.long))

  last : slice_index (labels ++ label ∷ []) j ≡ label
  last = ap (λ (k : ℕ). slice_index (labels ++ label ∷ []) k) (sym old.long) ∙ get_or-append_seam labels label [] 0

  pub labels_more : ((slice_index parents j ≡ j) × (label ≡ j)) ⊎ ((slice_index parents j ≡ j → ⊥) × (label ≡ slice_index labels (slice_index parents j)))
      → AreLabelsTo parents (labels ++ label ∷ []) (j + 1)
  labels_more is = record {
    long = omega (arith, length-append labels (label ∷ []), old.long);
    low = λ i less. low i less (cases_eq i j);
    still = λ i less. still i less (cases_eq i j);
    same = λ i less. same i less (cases_eq i j);
  }
    where
      label_low : label ≤ j
      label_low = elim is [ inl own ↦ omega (arith, own.1) | inr other ↦ omega (arith, other.1, old.low (slice_index parents j) (omega (arith, are.low j below, other.0)), are.low j below) ]

      label_still : slice_index (labels ++ label ∷ []) label ≡ label
      label_still = elim is [
        | inl own ↦ ap (slice_index (labels ++ label ∷ [])) own.1 ∙ last
        | inr other ↦ (
            let parent : slice_index parents j < j = omega (arith, are.low j below, other.0) in
            let below_j : label < j = omega (arith, other.1, old.low (slice_index parents j) parent) in
            left label below_j ∙ ap (slice_index labels) other.1 ∙ old.still (slice_index parents j) parent ∙ sym other.1
            )
      ]

      label_same : slice_index (labels ++ label ∷ []) (slice_index parents j) ≡ label
      label_same = elim is [
        | inl own ↦ ap (slice_index (labels ++ label ∷ [])) own.0 ∙ last
        | inr other ↦ left (slice_index parents j) (omega (arith, are.low j below, other.0)) ∙ sym other.1
      ]

      low : (i : ℕ) → i < j + 1 → (i ≡ j) ⊎ (i ≡ j → ⊥) → slice_index (labels ++ label ∷ []) i ≤ i
      low i less (inl here) = omega (arith, ap (slice_index (labels ++ label ∷ [])) here, last, label_low)
      low i less (inr there) = omega (arith, left i (omega arith), old.low i (omega arith))

      still : (i : ℕ) → i < j + 1 → (i ≡ j) ⊎ (i ≡ j → ⊥) → slice_index (labels ++ label ∷ []) (slice_index (labels ++ label ∷ []) i) ≡ slice_index (labels ++ label ∷ []) i
      still i less (inl here) =
          let at : slice_index (labels ++ label ∷ []) i ≡ label = ap (slice_index (labels ++ label ∷ [])) here ∙ last in
          ap (slice_index (labels ++ label ∷ [])) at ∙ label_still ∙ sym at
      still i less (inr there) =
          let under : i < j = omega arith in
          let at = left i under in
          ap (slice_index (labels ++ label ∷ [])) at ∙ left (slice_index labels i) (omega (arith, old.low i under)) ∙ old.still i under ∙ sym at

      same : (i : ℕ) → i < j + 1 → (i ≡ j) ⊎ (i ≡ j → ⊥) → slice_index (labels ++ label ∷ []) (slice_index parents i) ≡ slice_index (labels ++ label ∷ []) i
      same i less (inl here) = ap (λ (k : ℕ). slice_index (labels ++ label ∷ []) (slice_index parents k)) here ∙ label_same ∙ sym last ∙ ap (slice_index (labels ++ label ∷ [])) (sym here)
      same i less (inr there) =
          let under : i < j = omega arith in
          left (slice_index parents i) (omega (arith, are.low i (omega arith))) ∙ old.same i under ∙ sym (left i under)
