-- The last sides that begin at nodes, and the sides of a node from the last one back.
use Rattle.std.proofs.Common.{◌≡◌, ℕ, ◌+◌, ◌<◌, ◌≤◌, true, List, [], ◌∷◌, ◌++◌, length, get_or, set, replicate, refl, sym, ap, ◌∙◌, subst, inl, inr, ◌⊎◌, arith, Option, Some, None}
use Rattle.std.proofs.lemmas.Bool.{cases_eq}
use Rattle.std.proofs.lemmas.Option.{none-some, same_Some}
use Rattle.std.proofs.lemmas.List.{get_or-set_same, get_or-set_other, length-set, length-replicate, get_or-replicate, length_push, get_or_push}
use Rattle.std.proofs.Math.ListN.{get_or-append}
use Rattle.wrp_flow.specs.declared.net.Net.{Net}
use Rattle.wrp_flow.specs.declared.star.Star.{Star}
use Rattle.wrp_flow.specs.declared.reach.Mark.{Mark}
use Rattle.wrp_flow.specs.Sides.{begin_in, end_in, sides, IsLast, last_at, IsStar}
use Rattle.wrp_flow.specs.Searches.{mark_at, is_marked, IsDone}
use Rattle.wrp_flow.proofs.Searches.{still_marked}

-- the star of the sides below a number
pub record IsStarBelow (net : Net) (count : ℕ) (lasts befores : List (Option ℕ)) : Type 0 where
  pub nodes : length lasts ≡ net.nodes
  pub sides : length befores ≡ count
  pub last : (node : ℕ) → node < net.nodes → IsLast net node count (last_at lasts node)
  pub before : (side : ℕ) → side < count → IsLast net (begin_in net side) side (last_at befores side)

module _ (net : Net) where
  pub last_none : (node : ℕ) (o : Option ℕ) → o ≡ None → IsLast net node 0 o
  last_none node o none = record { is = λ k e. absurd (none-some k (sym none ∙ e)); none_later = λ side below e. absurd (omega arith) }

  last_same : (node side : ℕ) (o : Option ℕ) → (begin_in net side ≡ node → ⊥) → IsLast net node side o → IsLast net node (side + 1) o
  last_same node side o differs is = record {
    is = λ k e. (omega (arith, (is.is k e).0), (is.is k e).1);
    none_later = λ other below begins. elim (cases_eq other side) [
      | inl same ↦ absurd (differs (ap (begin_in net) (sym same) ∙ begins))
      | inr other_side ↦ is.none_later other (omega arith) begins
    ];
  }

  last_new : (side : ℕ) → IsLast net (begin_in net side) (side + 1) (Some side)
  last_new side = record {
    is = λ k e. (omega (arith, same_Some side k e), ap (begin_in net) (sym (same_Some side k e)));
    none_later = λ other below begins. (side, refl, omega arith);
  }

  pub star_more : (side : ℕ) (last before : List (Option ℕ)) → begin_in net side < net.nodes → IsStarBelow net side last before
      → IsStarBelow net (side + 1) (set last (begin_in net side) (Some side)) (before ++ last_at last (begin_in net side) ∷ [])
  star_more side last before inside is = record {
    nodes = length-set last (begin_in net side) (Some side) ∙ is.nodes;
    sides = length_push before (last_at last (begin_in net side)) ∙ ap (λ (n : ℕ). n + 1) is.sides;
    last = λ node below. elim (cases_eq node (begin_in net side)) [
      | inl same ↦ subst (λ (z : ℕ). IsLast net z (side + 1) (last_at (set last (begin_in net side) (Some side)) z)) (sym same)
          (subst (λ (o : Option ℕ). IsLast net (begin_in net side) (side + 1) o) (sym (get_or-set_same last (begin_in net side) (Some side) None (omega (arith, is.nodes)))) (last_new side))
      | inr differs ↦ subst (λ (o : Option ℕ). IsLast net node (side + 1) o) (sym (get_or-set_other last (begin_in net side) node (Some side) None differs))
          (last_same node side (last_at last node) (λ e. differs (sym e)) (is.last node below))
    ];
    before = λ other below. elim (cases_eq other side) [
      | inl same ↦ subst (λ (z : ℕ). IsLast net (begin_in net z) z (last_at (before ++ last_at last (begin_in net side) ∷ []) z)) (sym same)
          (subst (λ (o : Option ℕ). IsLast net (begin_in net side) side o) (sym (get_or_push before (last_at last (begin_in net side)) None side is.sides)) (is.last (begin_in net side) inside))
      | inr other_side ↦ subst (λ (o : Option ℕ). IsLast net (begin_in net other) other o) (sym (get_or-append before (last_at last (begin_in net side) ∷ []) None other (omega (arith, is.sides))))
          (is.before other (omega arith))
    ];
  }

  pub star_first : (lasts befores : List (Option ℕ)) → lasts ≡ replicate net.nodes None → befores ≡ [] → IsStarBelow net 0 lasts befores
  star_first lasts befores none empty = record {
    nodes = ap length none ∙ length-replicate net.nodes None;
    sides = ap length empty;
    last = λ node below. last_none node (last_at lasts node) (ap (λ (xs : List (Option ℕ)). get_or xs node None) none ∙ get_or-replicate net.nodes node None None below);
    before = λ side below. absurd (omega arith);
  }

  pub star_whole : (star : Star) (count : ℕ) → count ≡ sides net → IsStarBelow net count star.last.items star.before.items → IsStar net star
  star_whole star count all is = record {
    nodes = is.nodes;
    sides = is.sides ∙ all;
    last = λ node below. subst (λ (n : ℕ). IsLast net node n (last_at star.last.items node)) all (is.last node below);
    before = λ side below. is.before side (omega (arith, all));
  }

-- ---- the sides of a node that are still to be visited

-- how many sides there are at most to the last one, itself with them
abbrev pub up_to : Option ℕ → ℕ
up_to None = 0
up_to (Some k) = k + 1

-- the next side begins at the node, and those after it are done
pub record IsPending (net : Net) (room : List ℕ) (marks : List (Option Mark)) (node : ℕ) (next : Option ℕ) : Type 0 where
  pub is : (k : ℕ) → next ≡ Some k → (k < sides net) × (begin_in net k ≡ node)
  pub rest : (side : ℕ) → side < sides net → begin_in net side ≡ node → 0 < get_or room side 0
      → (is_marked marks (end_in net side) ≡ true) ⊎ ((k : ℕ) × (next ≡ Some k) × (side ≤ k))

module _ (net : Net) (star : Star) (is : IsStar net star) (room : List ℕ) where
  pub pending_first : (marks : List (Option Mark)) (node : ℕ) → node < net.nodes → IsPending net room marks node (last_at star.last.items node)
  pending_first marks node below = record {
    is = λ k e. (is.last node below).is k e;
    rest = λ side inside begins some. inr ((is.last node below).none_later side inside begins);
  }

  pub pending_next : (marks new : List (Option Mark)) (node side : ℕ) → IsPending net room marks node (Some side)
      → ((j : ℕ) (mark : Mark) → mark_at marks j ≡ Some mark → mark_at new j ≡ Some mark)
      → (0 < get_or room side 0 → is_marked new (end_in net side) ≡ true)
      → IsPending net room new node (last_at star.before.items side)
  pending_next marks new node side p kept done =
      let here = p.is side refl in
      let last = is.before side here.0 in
      record {
        is = λ k e. (omega (arith, (last.is k e).0, here.0), (last.is k e).1 ∙ here.1);
        rest = λ other inside begins some. elim (p.rest other inside begins some) [
          | inl has ↦ inl (still_marked marks new kept (end_in net other) has)
          | inr (k, e, most) ↦ elim (cases_eq other side) [
            | inl same ↦ inl (ap (λ (z : ℕ). is_marked new (end_in net z)) same ∙ done (subst (λ (z : ℕ). 0 < get_or room z 0) same some))
            | inr other_side ↦ inr (last.none_later other (omega (arith, same_Some side k e)) (begins ∙ sym here.1))
          ]
        ];
      }

  pub before_falls : (side : ℕ) → side < sides net → up_to (last_at star.before.items side) < side + 1
  before_falls side inside = by (last_at star.before.items side) refl
    where
      by : (o : Option ℕ) → last_at star.before.items side ≡ o → up_to o < side + 1
      by None e = omega arith
      by (Some k) e = omega (arith, ((is.before side inside).is k e).0)

pub pending_last : (net : Net) (room : List ℕ) (marks : List (Option Mark)) (node : ℕ) → IsPending net room marks node None → IsDone net room marks node
pending_last net room marks node p side inside begins some =
    elim (p.rest side inside begins some) [ inl has ↦ has | inr (k, e, most) ↦ absurd (none-some k e) ]
