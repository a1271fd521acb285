-- The sides of arcs by their parity.
use Rattle.std.proofs.Common.{◌≡◌, ℕ, ◌+◌, ◌*◌, ◌/◌, ◌%◌, ◌<◌, Bool, cond, ◌==◌, ap, sym, ◌∙◌, inl, inr, ◌⊎◌, arith, eq-eqb}
use Rattle.std.proofs.lemmas.Bool.{cases_eq, ne_eqb}
use Rattle.wrp_flow.specs.declared.net.Net.{Net}
use Rattle.wrp_flow.specs.Flows.{tail_in, head_in, IsNet}
use Rattle.wrp_flow.specs.Sides.{begin_in, end_in, sides, twin_of}

pick_even : (a x y : ℕ) → cond ((2 * a) % 2 == 0) x y ≡ x
pick_even a x y = ap (λ (b : Bool). cond b x y) (eq-eqb ((2 * a) % 2) 0 (omega arith))

pick_odd : (a x y : ℕ) → cond ((2 * a + 1) % 2 == 0) x y ≡ y
pick_odd a x y = ap (λ (b : Bool). cond b x y) (ne_eqb ((2 * a + 1) % 2) 0 (λ e. absurd (omega arith)))

half_even : (a : ℕ) → (2 * a) / 2 ≡ a
half_even a = omega arith

half_odd : (a : ℕ) → (2 * a + 1) / 2 ≡ a
half_odd a = omega arith

-- a side is one or the other of an arc
pub side_cases : (side : ℕ) → ((a : ℕ) × (side ≡ 2 * a)) ⊎ ((a : ℕ) × (side ≡ 2 * a + 1))
side_cases side = elim (cases_eq (side % 2) 0) [ inl even ↦ inl (side / 2, omega arith) | inr odd ↦ inr (side / 2, omega arith) ]

pub begin_even : (net : Net) (a : ℕ) → begin_in net (2 * a) ≡ tail_in net a
begin_even net a = pick_even a _ _ ∙ ap (tail_in net) (half_even a)

pub begin_odd : (net : Net) (a : ℕ) → begin_in net (2 * a + 1) ≡ head_in net a
begin_odd net a = pick_odd a _ _ ∙ ap (head_in net) (half_odd a)

pub end_even : (net : Net) (a : ℕ) → end_in net (2 * a) ≡ head_in net a
end_even net a = pick_even a _ _ ∙ ap (head_in net) (half_even a)

pub end_odd : (net : Net) (a : ℕ) → end_in net (2 * a + 1) ≡ tail_in net a
end_odd net a = pick_odd a _ _ ∙ ap (tail_in net) (half_odd a)

pub twin_even : (a : ℕ) → twin_of (2 * a) ≡ 2 * a + 1
twin_even a = pick_even a _ _

pub twin_odd : (a : ℕ) → twin_of (2 * a + 1) ≡ 2 * a
twin_odd a = pick_odd a _ _ ∙ omega arith

module _ (net : Net) (is : IsNet net) where
  pub begin_below : (side : ℕ) → side < sides net → begin_in net side < net.nodes
  begin_below side inside = elim (side_cases side) [
    | inl (a, e) ↦ omega (arith, ap (begin_in net) e, begin_even net a, is.tails a (omega arith))
    | inr (a, e) ↦ omega (arith, ap (begin_in net) e, begin_odd net a, is.heads a (omega arith))
  ]

  pub end_below : (side : ℕ) → side < sides net → end_in net side < net.nodes
  end_below side inside = elim (side_cases side) [
    | inl (a, e) ↦ omega (arith, ap (end_in net) e, end_even net a, is.heads a (omega arith))
    | inr (a, e) ↦ omega (arith, ap (end_in net) e, end_odd net a, is.tails a (omega arith))
  ]

-- the twin of a side
pub twin_below : (net : Net) (side : ℕ) → side < sides net → twin_of side < sides net
twin_below net side inside = elim (side_cases side) [
  | inl (a, e) ↦ omega (arith, ap twin_of e, twin_even a)
  | inr (a, e) ↦ omega (arith, ap twin_of e, twin_odd a)
]

pub begin_twin : (net : Net) (side : ℕ) → begin_in net (twin_of side) ≡ end_in net side
begin_twin net side = elim (side_cases side) [
  | inl (a, e) ↦ ap (λ (k : ℕ). begin_in net (twin_of k)) e ∙ ap (begin_in net) (twin_even a) ∙ begin_odd net a ∙ sym (end_even net a) ∙ ap (end_in net) (sym e)
  | inr (a, e) ↦ ap (λ (k : ℕ). begin_in net (twin_of k)) e ∙ ap (begin_in net) (twin_odd a) ∙ begin_even net a ∙ sym (end_odd net a) ∙ ap (end_in net) (sym e)
]

pub end_twin : (net : Net) (side : ℕ) → end_in net (twin_of side) ≡ begin_in net side
end_twin net side = elim (side_cases side) [
  | inl (a, e) ↦ ap (λ (k : ℕ). end_in net (twin_of k)) e ∙ ap (end_in net) (twin_even a) ∙ end_odd net a ∙ sym (begin_even net a) ∙ ap (begin_in net) (sym e)
  | inr (a, e) ↦ ap (λ (k : ℕ). end_in net (twin_of k)) e ∙ ap (end_in net) (twin_odd a) ∙ end_even net a ∙ sym (begin_odd net a) ∙ ap (begin_in net) (sym e)
]

pub twin_twin : (side : ℕ) → twin_of (twin_of side) ≡ side
twin_twin side = elim (side_cases side) [
  | inl (a, e) ↦ ap (λ (k : ℕ). twin_of (twin_of k)) e ∙ ap twin_of (twin_even a) ∙ twin_odd a ∙ sym e
  | inr (a, e) ↦ ap (λ (k : ℕ). twin_of (twin_of k)) e ∙ ap twin_of (twin_odd a) ∙ twin_even a ∙ sym e
]
