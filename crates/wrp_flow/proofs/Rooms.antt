-- The room of sides where nothing flows.
use Rattle.std.proofs.Common.{◌≡◌, ℕ, ◌+◌, ◌*◌, ◌<◌, Bool, true, false, cond, ◌==◌, List, [], ◌∷◌, ◌++◌, length, get_or, refl, sym, ap, ◌∙◌, inl, inr, ◌⊎◌, arith}
use Rattle.std.proofs.lemmas.Bool.{cases_eq}
use Rattle.std.proofs.lemmas.List.{length_push, get_or_push}
use Rattle.std.proofs.Math.ListN.{get_or-append}
use Rattle.wrp_webs.specs.Nets.{sum_at_end}
use Rattle.wrp_webs.proofs.SumsBelow.{zero_sum}
use Rattle.wrp_flow.specs.declared.net.Net.{Net}
use Rattle.wrp_flow.specs.Flows.{tail_in, head_in, capacity_in}
use Rattle.wrp_flow.specs.Sides.{IsResidual}
use Rattle.wrp_flow.proofs.Pushing.{carried}

-- the arcs below a number have all their capacity
pub record HasRooms (net : Net) (count : ℕ) (room : List ℕ) : Type 0 where
  pub long : length room ≡ 2 * count
  pub is : (a : ℕ) → a < count → (get_or room (2 * a) 0 ≡ capacity_in net a) × (get_or room (2 * a + 1) 0 ≡ 0)

pub rooms_more : (net : Net) (count : ℕ) (room new : List ℕ) (most : ℕ) → HasRooms net count room → most ≡ capacity_in net count → new ≡ (room ++ most ∷ []) ++ 0 ∷ [] → HasRooms net (count + 1) new
rooms_more net count room new most has capacity made = record {
  long = omega (arith, ap length made, length_push (room ++ most ∷ []) 0, length_push room most, has.long);
  is = λ a below. by a below (cases_eq a count);
}
  where
    older : (k : ℕ) → k < length room → get_or new k 0 ≡ get_or room k 0
    older k below = ap (λ (xs : List ℕ). get_or xs k 0) made ∙ get_or-append (room ++ most ∷ []) (0 ∷ []) 0 k (omega (arith, length_push room most)) ∙ get_or-append room (most ∷ []) 0 k below

    here : get_or new (2 * count) 0 ≡ most
    here = ap (λ (xs : List ℕ). get_or xs (2 * count) 0) made ∙ get_or-append (room ++ most ∷ []) (0 ∷ []) 0 (2 * count) (omega (arith, length_push room most, has.long)) ∙ get_or_push room most 0 (2 * count) has.long

    there : get_or new (2 * count + 1) 0 ≡ 0
    there = ap (λ (xs : List ℕ). get_or xs (2 * count + 1) 0) made ∙ get_or_push (room ++ most ∷ []) 0 0 (2 * count + 1) (omega (arith, length_push room most, has.long))

    by : (a : ℕ) → a < count + 1 → (a ≡ count) ⊎ (a ≡ count → ⊥) → (get_or new (2 * a) 0 ≡ capacity_in net a) × (get_or new (2 * a + 1) 0 ≡ 0)
    by a below (inl same) = (ap (λ (k : ℕ). get_or new (2 * k) 0) same ∙ here ∙ capacity ∙ ap (capacity_in net) (sym same), ap (λ (k : ℕ). get_or new (2 * k + 1) 0) same ∙ there)
    by a below (inr differs) = (older (2 * a) (omega (arith, has.long)) ∙ (has.is a (omega arith)).0, older (2 * a + 1) (omega (arith, has.long)) ∙ (has.is a (omega arith)).1)

pub rooms_whole : (net : Net) (room : List ℕ) (count s t : ℕ) → count ≡ length net.arcs → HasRooms net count room → IsResidual net s t 0 room
rooms_whole net room count s t all has = record {
  long = omega (arith, has.long, all);
  shared = λ a below. omega (arith, (has.is a (omega (arith, all))).0, (has.is a (omega (arith, all))).1);
  flow = record {
    within = λ a below. omega (arith, (has.is a (omega (arith, all))).1);
    kept = λ j below no_s no_t. none (tail_in net) j ∙ sym (none (head_in net) j);
    worth = omega (arith, none (tail_in net) s, none (head_in net) s);
  };
}
  where
    one : (b : Bool) (x : ℕ) → x ≡ 0 → cond b x 0 ≡ 0
    one true x e = e
    one false x e = refl

    none : (end : ℕ → ℕ) (j : ℕ) → sum_at_end (length net.arcs) end (carried room) j ≡ 0
    none end j = zero_sum (λ a. cond (end a == j) (carried room a) 0) (length net.arcs) (λ a below. one (end a == j) (carried room a) (has.is a (omega (arith, all))).1)
