-- The two arcs of a street: what is the same for both.
use Rattle.std.proofs.Common.{◌≡◌, ℕ, ◌+◌, ◌*◌, ◌/◌, ◌%◌, Bool, true, false, ◌&&◌, ◌||◌, not, ◌==◌, ap, refl, sym, ◌∙◌, subst, inl, inr, ◌⊎◌, arith, eq-eqb, slice_get}
use Rattle.std.specs.Prelude.{if◌then◌else◌}
use Rattle.std.specs.Option.{option_map_or}
use Rattle.std.proofs.lemmas.Bool.{cases_eq, ne_eqb}
use Rattle.wrp_town.specs.declared.street.Street.{Street}
use Rattle.wrp_town.specs.declared.town.Town.{Town}
use Rattle.wrp_town.specs.Arcs.{tail_of, head_of}

even_cases : (arc : ℕ) → (arc ≡ 2 * (arc / 2)) ⊎ (arc ≡ 2 * (arc / 2) + 1)
even_cases arc = elim (cases_eq (arc % 2) 0) [ inl even ↦ inl (omega arith) | inr odd ↦ inr (omega arith) ]

abbrev first_end : Town → ℕ → ℕ
first_end town street = option_map_or (λ (s : Street). s.from) (slice_get town.streets street) 0

abbrev second_end : Town → ℕ → ℕ
second_end town street = option_map_or (λ (s : Street). s.to) (slice_get town.streets street) 0

abbrev tail_by : Town → Bool → ℕ → ℕ
tail_by town even street = option_map_or (λ (s : Street). if even then s.from else s.to) (slice_get town.streets street) 0

abbrev head_by : Town → Bool → ℕ → ℕ
head_by town even street = option_map_or (λ (s : Street). if even then s.to else s.from) (slice_get town.streets street) 0

even_is : (s : ℕ) → ((2 * s) % 2 == 0) ≡ true
even_is s = eq-eqb _ _ (omega arith)

odd_is : (s : ℕ) → ((2 * s + 1) % 2 == 0) ≡ false
odd_is s = ne_eqb _ _ (λ e. absurd (omega arith))

half_even : (s : ℕ) → (2 * s) / 2 ≡ s
half_even s = omega arith

half_odd : (s : ℕ) → (2 * s + 1) / 2 ≡ s
half_odd s = omega arith

tail_forward : (town : Town) (s : ℕ) → tail_of town (2 * s) ≡ first_end town s
tail_forward town s = ap (λ b. tail_by town b ((2 * s) / 2)) (even_is s) ∙ ap (tail_by town true) (half_even s)

head_forward : (town : Town) (s : ℕ) → head_of town (2 * s) ≡ second_end town s
head_forward town s = ap (λ b. head_by town b ((2 * s) / 2)) (even_is s) ∙ ap (head_by town true) (half_even s)

tail_backward : (town : Town) (s : ℕ) → tail_of town (2 * s + 1) ≡ second_end town s
tail_backward town s = ap (λ b. tail_by town b ((2 * s + 1) / 2)) (odd_is s) ∙ ap (tail_by town false) (half_odd s)

head_backward : (town : Town) (s : ℕ) → head_of town (2 * s + 1) ≡ first_end town s
head_backward town s = ap (λ b. head_by town b ((2 * s + 1) / 2)) (odd_is s) ∙ ap (head_by town false) (half_odd s)

-- a test of the ends of an arc that takes them in either order is the same for both arcs of a street
pub both_ways_same : (town : Town) (p : ℕ → ℕ → Bool) → ((u v : ℕ) → p u v ≡ p v u) → (s : ℕ) → p (tail_of town (2 * s)) (head_of town (2 * s)) ≡ p (tail_of town (2 * s + 1)) (head_of town (2 * s + 1))
both_ways_same town p turned s =
    ap (λ u. p u (head_of town (2 * s))) (tail_forward town s)
    ∙ ap (p (first_end town s)) (head_forward town s)
    ∙ turned (first_end town s) (second_end town s)
    ∙ ap (λ u. p u (first_end town s)) (sym (tail_backward town s))
    ∙ ap (p (tail_of town (2 * s + 1))) (sym (head_backward town s))

-- a test that both arcs of each street pass alike passes arcs of one street alike
pub alike_on_street : (q : ℕ → Bool) → ((s : ℕ) → q (2 * s) ≡ q (2 * s + 1)) → (a b : ℕ) → a / 2 ≡ b / 2 → q a ≡ q b
alike_on_street q both a b same = at_even a ∙ ap (λ s. q (2 * s)) same ∙ sym (at_even b)
  where
    at_even : (arc : ℕ) → q arc ≡ q (2 * (arc / 2))
    at_even arc = elim (even_cases arc) [ inl e ↦ ap q e | inr e ↦ ap q e ∙ sym (both (arc / 2)) ]

-- what holds of both ends of a street's forward arc holds of the tail of each of its arcs
pub tail_on_street : (P : ℕ → Type 0) (town : Town) (arc : ℕ) → P (tail_of town (2 * (arc / 2))) → P (head_of town (2 * (arc / 2))) → P (tail_of town arc)
tail_on_street P town arc tail head =
    elim (even_cases arc) [
      | inl e ↦ subst (λ a. P (tail_of town a)) (sym e) tail
      | inr e ↦ subst (λ a. P (tail_of town a)) (sym e) (subst P (head_forward town (arc / 2) ∙ sym (tail_backward town (arc / 2))) head)
    ]

-- exactly one of two tests passes, in either order
pub over_turned : (x y : Bool) → ((x && not y) || (not x && y)) ≡ ((y && not x) || (not y && x))
over_turned true true = refl
over_turned true false = refl
over_turned false true = refl
over_turned false false = refl
