-- Why a town has no turn town, and that it has one where nothing is wrong.
use Rattle.std.proofs.Common.{◌≡◌, ℕ, suc, ◌+◌, ◌*◌, ◌<◌, ◌≤◌, Bool, true, false, cond, not, ◌&&◌, List, [], ◌∷◌, length, Some, None, ap, refl, sym, ◌∙◌, arith}
use Rattle.std.specs.Prelude.{position, nat_lt, nat_le}
use Rattle.std.specs.List.{list_all, position_or_len}
use Rattle.std.proofs.lemmas.Bool.{ltb-true, ltb-false}
use Rattle.std.proofs.lemmas.Option.{none-some, same_Some}
use Rattle.wrp_town.specs.declared.town.Town.{Town}
use Rattle.wrp_town.specs.Limits.{junction_limit, street_limit}
use Rattle.wrp_turn.specs.declared.fault.TurnFault.TheVariants as faults
use Rattle.wrp_turn.specs.TurnTowns.{arcs_of, turns_of, has_choice, can_turn, junctions_needed, streets_needed}
use Rattle.wrp_turn.specs.Refusals.{first_choice, fits_turns, refusal_of}

-- where no place passes, none does, and where one passes, not all fail
none_passes : {X : Type 0} (p : X → Bool) (xs : List X) → length xs ≤ position_or_len p xs → list_all (λ x. not (p x)) xs ≡ true
none_passes p [] past = refl
none_passes p (x ∷ xs) past = by (p x) (none_passes p xs) past
  where
    by : (b : Bool) → (length xs ≤ position_or_len p xs → list_all (λ x. not (p x)) xs ≡ true) → suc (length xs) ≤ cond {A = ℕ} (not b) (1 + position_or_len p xs) 0 → (not b && list_all (λ x. not (p x)) xs) ≡ true
    by true others past = absurd (omega (arith, past))
    by false others past = others (omega (arith, past))

one_passes : {X : Type 0} (p : X → Bool) (xs : List X) → position_or_len p xs < length xs → list_all (λ x. not (p x)) xs ≡ false
one_passes p [] inside = absurd (omega (arith, inside))
one_passes p (x ∷ xs) inside = by (p x) (one_passes p xs) inside
  where
    by : (b : Bool) → (position_or_len p xs < length xs → list_all (λ x. not (p x)) xs ≡ false) → cond {A = ℕ} (not b) (1 + position_or_len p xs) 0 < suc (length xs) → (not b && list_all (λ x. not (p x)) xs) ≡ false
    by true others inside = refl
    by false others inside = others (omega (arith, inside))

module _ (town : Town) where
  pub choice_missing : position has_choice town.streets ≡ None → can_turn town ≡ true
  choice_missing is = by (nat_lt (first_choice town) (length town.streets)) refl is
    where
      by : (b : Bool) → nat_lt (first_choice town) (length town.streets) ≡ b → cond b (Some (first_choice town)) None ≡ None → can_turn town ≡ true
      by true less none = absurd (none-some (first_choice town) (sym none))
      by false less none = none_passes has_choice town.streets (omega (arith, ltb-false _ _ less))

  pub choice_found : (bans : List (ℕ × ℕ)) (street : ℕ) → position has_choice town.streets ≡ Some street → refusal_of town bans ≡ Some (faults.Either street)
  choice_found bans street is = by (nat_lt (first_choice town) (length town.streets)) refl is
    where
      by : (b : Bool) → nat_lt (first_choice town) (length town.streets) ≡ b → cond b (Some (first_choice town)) None ≡ Some street → refusal_of town bans ≡ Some (faults.Either street)
      by true less some =
          ap (λ can. cond (not can) (Some (faults.Either (first_choice town))) (cond (not (fits_turns town bans)) (Some (faults.Size (junctions_needed town) (streets_needed town bans))) None)) (one_passes has_choice town.streets (ltb-true _ _ less))
          ∙ ap (λ s. Some (faults.Either s)) (same_Some (first_choice town) street some)
      by false less none = absurd (none-some street none)

  -- the refusal where no street has a choice, by the sizes of the turn town
  module _ (bans : List (ℕ × ℕ)) (own same count : ℕ) (fits : Bool) (can : can_turn town ≡ true) (are : own ≡ length (arcs_of town)) (too : same ≡ length (arcs_of town)) (counted : count ≡ length (turns_of town bans))
      (is : fits ≡ (nat_le (2 * own) junction_limit && nat_le (same + count) street_limit)) where
    refused : refusal_of town bans ≡ cond (not fits) (Some (faults.Size (2 * own) (same + count))) None
    refused =
        ap (λ b. cond (not b) (Some (faults.Either (first_choice town))) (cond (not (fits_turns town bans)) (Some (faults.Size (junctions_needed town) (streets_needed town bans))) None)) can
        ∙ (λ i. cond (not (nat_le (2 * sym are i) junction_limit && nat_le (sym too i + sym counted i) street_limit)) (Some (faults.Size (2 * sym are i) (sym too i + sym counted i))) None)
        ∙ ap (λ f. cond (not f) (Some (faults.Size (2 * own) (same + count))) None) (sym is)

    pub too_large : fits ≡ false → refusal_of town bans ≡ Some (faults.Size (2 * own) (same + count))
    too_large large = refused ∙ ap (λ f. cond (not f) (Some (faults.Size (2 * own) (same + count))) None) large

    pub not_refused : fits ≡ true → refusal_of town bans ≡ None
    not_refused few = refused ∙ ap (λ f. cond (not f) (Some (faults.Size (2 * own) (same + count))) None) few
