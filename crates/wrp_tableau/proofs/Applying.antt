-- Changes put into their rows one by one.
use Rattle.std.proofs.Common.{◌≡◌, ℕ, zero, suc, ◌+◌, ◌<◌, List, [], ◌∷◌, length, get_or, slice_set, ap, refl, sym, ◌∙◌, arith}
use Rattle.std.proofs.Math.ListN.{length-set}
use Rattle.wrp_tableau.specs.declared.row.Row.{Row}
use Rattle.wrp_tableau.specs.declared.change.Change.{Change}
use Rattle.wrp_tableau.specs.Changes.{changed, changed_rows}

-- the rows where changes are still to come from row n on
abbrev pub changed_from : ℕ → List Row → List Change → List Row
changed_from zero rows changes = changed_rows rows changes
changed_from (suc n) [] changes = []
changed_from (suc n) (row ∷ rows) changes = row ∷ changed_from n rows changes

unchanged : (rows : List Row) → changed_rows rows [] ≡ rows
unchanged [] = refl
unchanged (row ∷ rows) = refl

pub changed_from-nil : (n : ℕ) (rows : List Row) → changed_from n rows [] ≡ rows
changed_from-nil zero rows = unchanged rows
changed_from-nil (suc n) [] = refl
changed_from-nil (suc n) (row ∷ rows) = ap (λ (rs : List Row). row ∷ rs) (changed_from-nil n rows)

pub changed_from-more : (n : ℕ) (rows : List Row) (next : Change) (changes : List Change) (d : Row) → n < length rows
    → changed_from (suc n) (slice_set rows n (changed (get_or rows n d) next)) changes ≡ changed_from n rows (next ∷ changes)
changed_from-more n [] next changes d h = absurd (omega arith)
changed_from-more zero (row ∷ rows) next changes d h = refl
changed_from-more (suc n) (row ∷ rows) next changes d h = ap (λ (rs : List Row). row ∷ rs) (changed_from-more n rows next changes d (omega arith))

-- one step of a loop: k is the place, x the row there, and y what becomes of it
pub changed_from_next : (n m k : ℕ) (rows : List Row) (rest : List Change) (next : Change) (left : List Change) (all : List Row) (x y : Row)
    → rest ≡ next ∷ left → k ≡ n → m ≡ n + 1 → y ≡ changed (get_or rows k x) next → n + length rest ≡ length rows → changed_from n rows rest ≡ all
    → record { rest : changed_from m (slice_set rows k y) left ≡ all; count : m + length left ≡ length (slice_set rows k y) }
changed_from_next n m k rows rest next left all x y rest_is k_is m_is y_is count so_far =
    let more : length rest ≡ suc (length left) = ap length rest_is in
    let below : n < length rows = omega arith in
    let m_suc : m ≡ suc n = omega arith in
    let set_is : slice_set rows k y ≡ slice_set rows n (changed (get_or rows n x) next) = ap (λ (z : Row). slice_set rows k z) y_is ∙ ap (λ (i : ℕ). slice_set rows i (changed (get_or rows i x) next)) k_is in
    record {
      rest =
          ap (λ (i : ℕ). changed_from i (slice_set rows k y) left) m_suc
          ∙ ap (λ (rs : List Row). changed_from (suc n) rs left) set_is
          ∙ changed_from-more n rows next left x below
          ∙ ap (changed_from n rows) (sym rest_is)
          ∙ so_far;
      count = let l : length (slice_set rows k y) ≡ length rows = length-set rows k y in omega arith;
    }
