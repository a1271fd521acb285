use Rattle.std.proofs.Common.{◌≡◌, ℕ, ◌<◌, None}
use Rattle.std.specs.Prelude.{IfSome}
use Rattle.wrp_box.specs.Branching.{IsPartOf, PartsAt}
use Rattle.wrp_box.proofs.branch.parting.Given as goal

abbrev pub invariant-loop-arc : goal.invariant-loop-arc
invariant-loop-arc l =
    IfSome l.best (λ choice. PartsAt l.town l.point choice.branch)
    × (l.best ≡ None → (a : ℕ) → a < l.arc → IsPartOf l.town l.point a → ⊥)
