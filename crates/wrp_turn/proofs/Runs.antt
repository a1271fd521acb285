-- Steps that go on from one arc to another by turns.
use Rattle.std.proofs.Common.{◌≡◌, ℕ, true, not, List, [], ◌∷◌, ◌++◌, ap, refl, sym, ◌∙◌, subst, eq-eqb}
use Rattle.std.proofs.lemmas.Bool.{and_parts, and_from, eqb-true}
use Rattle.wrp_town.specs.declared.street.Step.{Step}
use Rattle.wrp_town.specs.declared.town.Town.{Town}
use Rattle.wrp_town.specs.Arcs.{is_legal, tail_of, head_of, arc_of}
use Rattle.wrp_town.specs.Walks.{leads}
use Rattle.wrp_town.proofs.WalkLaws.{LeadsBy-from_leads, leads-from_LeadsBy}
use Rattle.wrp_turn.specs.Turns.{is_banned, is_turn, turns_kept}
use Rattle.wrp_turn.proofs.Places.{turn_parts, turn_from}

-- the steps go on from the arc a to the arc b by turns
abbrev pub Runs : Town → List (ℕ × ℕ) → ℕ → List Step → ℕ → Type 0
Runs town bans a [] b = a ≡ b
Runs town bans a (step ∷ steps) b = (is_turn town bans a (arc_of step) ≡ true) × Runs town bans (arc_of step) steps b

module _ (town : Town) (bans : List (ℕ × ℕ)) where
  pub runs_lead : (a : ℕ) (steps : List Step) (b : ℕ) → Runs town bans a steps b → leads town (head_of town a) steps (head_of town b) ≡ true
  runs_lead a [] b runs = eq-eqb (head_of town a) (head_of town b) (ap (head_of town) runs)
  runs_lead a (step ∷ steps) b runs =
      let t = turn_parts town bans a (arc_of step) runs.0 in
      leads-from_LeadsBy town (head_of town a) step steps (head_of town b) (record { legal = t.second; begins = sym t.meets; goes_on = runs_lead (arc_of step) steps b runs.1 })

  pub runs_kept : (a : ℕ) (steps : List Step) (b c : ℕ) → Runs town bans a steps b → not (is_banned bans b c) ≡ true → turns_kept bans a steps c ≡ true
  runs_kept a [] b c runs free = subst (λ x. not (is_banned bans x c) ≡ true) (sym runs) free
  runs_kept a (step ∷ steps) b c runs free =
      and_from _ _ (turn_parts town bans a (arc_of step) runs.0).free (runs_kept (arc_of step) steps b c runs.1 free)

  -- the last turn of a run
  pub runs_last : (a : ℕ) (steps : List Step) (step : Step) (b : ℕ) → Runs town bans a (steps ++ step ∷ []) b → (c : ℕ) × (Runs town bans a steps c) × (is_turn town bans c (arc_of step) ≡ true)
  runs_last a [] step b runs = (a, refl, runs.0)
  runs_last a (first ∷ steps) step b runs = let r = runs_last (arc_of first) steps step b runs.1 in (r.0, (runs.0, r.1), r.2)

  pub runs_from : (a : ℕ) (steps : List Step) (j c : ℕ) → is_legal town a ≡ true → is_legal town c ≡ true → tail_of town c ≡ j → leads town (head_of town a) steps j ≡ true → turns_kept bans a steps c ≡ true
      → (b : ℕ) × (Runs town bans a steps b) × (is_turn town bans b c ≡ true)
  runs_from a [] j c legal last begins lead kept =
      (a, refl, turn_from town bans a c (record { first = legal; second = last; meets = eqb-true (head_of town a) j lead ∙ sym begins; free = kept }))
  runs_from a (step ∷ steps) j c legal last begins lead kept =
      let by = LeadsBy-from_leads town (head_of town a) step steps j lead in
      let k = and_parts (not (is_banned bans a (arc_of step))) (turns_kept bans (arc_of step) steps c) kept in
      let r = runs_from (arc_of step) steps j c by.legal last begins by.goes_on k.1 in
      (r.0, (turn_from town bans a (arc_of step) (record { first = legal; second = by.legal; meets = sym by.begins; free = k.0 }), r.1), r.2)
