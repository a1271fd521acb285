-- More or fewer numbers than ranges are not in them.
use Rattle.std.proofs.Common.{◌≡◌, ℕ, Bool, true, false, ◌&&◌, List, [], ◌∷◌, length, refl, ap, ◌∙◌, arith}
use Rattle.wrp_rules.specs.declared.layout.Range.{Range}
use Rattle.wrp_rules.specs.Ranges.{is_in_range, are_in_ranges}

pub unmatched : (ranges : List Range) (numbers : List ℕ) → ¬ (length ranges ≡ length numbers) → are_in_ranges ranges numbers ≡ false
unmatched [] [] h = absurd (h refl)
unmatched [] (n ∷ ns) h = refl
unmatched (range ∷ ranges) [] h = refl
unmatched (range ∷ ranges) (n ∷ ns) h = ap (λ b. is_in_range range n && b) (unmatched ranges ns (λ e. h (omega arith))) ∙ off (is_in_range range n)
  where
    off : (b : Bool) → (b && false) ≡ false
    off true = refl
    off false = refl
