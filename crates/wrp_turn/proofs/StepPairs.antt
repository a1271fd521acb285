-- Words that spell two steps.
use Rattle.std.proofs.Common.{◌≡◌, ℕ, Bool, true, false, cond, List, [], ◌∷◌, map, length, Some, None, ap, refl, sym, ◌∙◌, arith}
use Rattle.std.specs.List.{list_all, slice_index_or}
use Rattle.std.proofs.lemmas.Option.{none-some, same_Some}
use Rattle.wrp_town.specs.declared.street.Step.{Step}
use Rattle.wrp_grammar.specs.Parts.{is_step, step_of}
use Rattle.wrp_turn.specs.BanFiles.{steps_in}

held : (b : Bool) (xs ys : List Step) → cond b (Some xs) None ≡ Some ys → (b ≡ true) × (xs ≡ ys)
held true xs ys is = (refl, same_Some xs ys is)
held false xs ys is = absurd (none-some ys is)

-- where words are steps, and these are two, they are the steps of the words
pub two_held : (words : List (List ℕ)) (first second : Step) → cond (list_all is_step words) (Some (map step_of words)) None ≡ Some (first ∷ second ∷ []) → Some (first, second) ≡ steps_in words
two_held [] first second is = let h = held true [] (first ∷ second ∷ []) is in absurd (omega (arith, ap length h.1))
two_held (x ∷ []) first second is = let h = held (list_all is_step (x ∷ [])) (map step_of (x ∷ [])) (first ∷ second ∷ []) is in absurd (omega (arith, ap length h.1))
two_held (x ∷ y ∷ []) first second is =
    let h = held (list_all is_step (x ∷ y ∷ [])) (map step_of (x ∷ y ∷ [])) (first ∷ second ∷ []) is in
    ap (λ xs. Some (slice_index_or xs 0 first, slice_index_or xs 1 first)) (sym h.1)
    ∙ sym (ap (λ b. cond b (Some (step_of x, step_of y)) None) h.0)
two_held (x ∷ y ∷ z ∷ more) first second is = let h = held (list_all is_step (x ∷ y ∷ z ∷ more)) (map step_of (x ∷ y ∷ z ∷ more)) (first ∷ second ∷ []) is in absurd (omega (arith, ap length h.1))
