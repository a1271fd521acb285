-- A part that spreads from a root: what holds between two visits, at the start and at the end.
use Rattle.std.proofs.Common.{◌≡◌, ℕ, ◌+◌, ◌<◌, List, [], ◌∷◌, ◌++◌, length, sym, ap, ◌∙◌, subst, inl, inr, arith, Option, Some, None}
use Rattle.std.specs.Prelude.{◌⊎◌}
use Rattle.std.specs.List.{Contains}
use Rattle.std.proofs.lemmas.Option.{none-some, same_Some}
use Rattle.std.proofs.lemmas.List.Elements.{Contains-append_left, Contains-push, Contains-push_cases}
use Rattle.wrp_town.proofs.TownLaws.{some_value}
use Rattle.wrp_parts.specs.RequiredParts.{part_at}
use Rattle.wrp_parts.specs.Traversal.{next_to, IsNetwork, Reached, stay, go, Kept, HaveParts, IsVisit, IsFresh, IsSpread}
use Rattle.wrp_parts.proofs.Visits.{in_single, no_item, part_inside}

-- ---- ways

pub reached_more : (rows : List (List ℕ)) (i j k : ℕ) → Reached rows i j → Contains (next_to rows j) k → Reached rows i k
reached_more rows i j k (stay m) near = go m k k near (stay k)
reached_more rows i j k (go m a n first rest) near = go m a k first (reached_more rows a n k rest near)

pub reached_join : (rows : List (List ℕ)) (i j k : ℕ) → Reached rows i j → Reached rows j k → Reached rows i k
reached_join rows i j k (stay m) second = second
reached_join rows i j k (go m a n first rest) second = go m a k first (reached_join rows a n k rest second)

pub reached_back : (rows : List (List ℕ)) (i j : ℕ) → IsNetwork rows → Reached rows i j → Reached rows j i
reached_back rows i j network (stay m) = stay m
reached_back rows i j network (go m a n first rest) = reached_more rows n a m (reached_back rows a n network rest) (network.back m a first)

has_some : (xs : List ℕ) (k : ℕ) → Contains xs k → 0 < length xs
has_some xs k has = omega (arith, has.1)

-- what is reached from a junction with neighbours has neighbours
pub reached_ended : (rows : List (List ℕ)) (i j : ℕ) → IsNetwork rows → 0 < length (next_to rows i) → Reached rows i j → 0 < length (next_to rows j)
reached_ended rows i j network some (stay m) = some
reached_ended rows i j network some (go m a n first rest) = reached_ended rows a n network (has_some (next_to rows a) m (network.back m a first)) rest

-- ---- the part

-- the part has spread over what was reached so far, and still has to spread from what stands on the stack
pub record IsSpreading (rows : List (List ℕ)) (root part : ℕ) (before of : List (Option ℕ)) (stack : List ℕ) : Type 0 where
  pub long : length of ≡ length before
  pub kept : Kept before of
  pub fresh : (j q : ℕ) → part_at of j ≡ Some q → (part_at before j ≡ Some q) ⊎ ((q ≡ part) × Reached rows root j)
  pub root_has : part_at of root ≡ Some part
  pub stacked : (j : ℕ) → Contains stack j → part_at of j ≡ Some part
  pub closed : (j k : ℕ) → Contains (next_to rows j) k → part_at of j ≡ Some part → (Contains stack j) ⊎ (part_at of k ≡ Some part)

not_before : (rows : List (List ℕ)) (part j : ℕ) (before : List (Option ℕ)) → HaveParts rows part before → part_at before j ≡ Some part → ⊥
not_before rows part j before parts is = omega (arith, parts.fewer j part is)

pub spreading_first : (rows : List (List ℕ)) (root part : ℕ) (before of : List (Option ℕ)) (stack : List ℕ) → HaveParts rows part before → part_at before root ≡ None → IsVisit (root ∷ []) part before [] of stack → IsSpreading rows root part before of stack
spreading_first rows root part before of stack parts none visit =
    let at_root = some_value (part_at of root) (visit.met root (Contains-push [] root)) in
    record {
      long = visit.long;
      kept = visit.kept;
      fresh = λ j q is. elim (visit.fresh j q is) [ inl was ↦ inl was | inr here ↦ inr (here.0, subst (λ z. Reached rows root z) (in_single root j here.1) (stay root)) ];
      root_has = elim (visit.fresh root at_root.0 at_root.1) [ inl was ↦ absurd (none-some at_root.0 (sym none ∙ was)) | inr here ↦ at_root.1 ∙ ap Some here.0 ];
      stacked = λ j has. elim (visit.stacked j has) [ inl was ↦ absurd (no_item j was) | inr here ↦ here.1 ];
      closed = λ j k near is. elim (visit.fresh j part is) [ inl was ↦ absurd (not_before rows part j before parts was) | inr here ↦ inl here.2 ];
    }

-- the junction from which the part spreads next was reached
from_reached : (rows : List (List ℕ)) (root part j : ℕ) (before of : List (Option ℕ)) (stack : List ℕ) → HaveParts rows part before → IsSpreading rows root part before of (stack ++ j ∷ []) → Reached rows root j
from_reached rows root part j before of stack parts s =
    elim (s.fresh j part (s.stacked j (Contains-push stack j))) [ inl was ↦ absurd (not_before rows part j before parts was) | inr here ↦ here.1 ]

pub next_inside : (rows : List (List ℕ)) (root part j : ℕ) (before of : List (Option ℕ)) (stack : List ℕ) → HaveParts rows part before → IsSpreading rows root part before of (stack ++ j ∷ []) → j < length rows
next_inside rows root part j before of stack parts s = omega (arith, part_inside of j part (s.stacked j (Contains-push stack j)), s.long, parts.long)

-- its neighbours have this part after the visit
neighbour_has : (rows : List (List ℕ)) (root part j k : ℕ) (before of new : List (Option ℕ)) (stack grown : List ℕ) → IsNetwork rows → HaveParts rows part before → IsSpreading rows root part before of (stack ++ j ∷ []) → IsVisit (next_to rows j) part of stack new grown
    → Contains (next_to rows j) k → part_at new k ≡ Some part
neighbour_has rows root part j k before of new stack grown network parts s visit near =
    let at_k = some_value (part_at new k) (visit.met k near) in
    let at_j = visit.kept j part (s.stacked j (Contains-push stack j)) in
    let same : at_k.0 ≡ part = elim (visit.fresh k at_k.0 at_k.1) [
      | inl was ↦ elim (s.fresh k at_k.0 was) [
        | inl old ↦ same_Some at_k.0 part (sym (visit.kept j at_k.0 (s.kept j at_k.0 (parts.closed k j at_k.0 (network.back j k near) old))) ∙ at_j)
        | inr here ↦ here.0
      ]
      | inr here ↦ here.0
    ] in
    at_k.1 ∙ ap Some same

pub spreading_more : (rows : List (List ℕ)) (root part j : ℕ) (before of new : List (Option ℕ)) (stack grown : List ℕ) → IsNetwork rows → HaveParts rows part before → IsSpreading rows root part before of (stack ++ j ∷ []) → IsVisit (next_to rows j) part of stack new grown
    → IsSpreading rows root part before new grown
spreading_more rows root part j before of new stack grown network parts s visit =
    let to_j = from_reached rows root part j before of stack parts s in
    record {
      long = visit.long ∙ s.long;
      kept = λ i q is. visit.kept i q (s.kept i q is);
      fresh = λ i q is. elim (visit.fresh i q is) [ inl was ↦ s.fresh i q was | inr here ↦ inr (here.0, reached_more rows root j i to_j here.1) ];
      root_has = visit.kept root part s.root_has;
      stacked = λ i has. elim (visit.stacked i has) [ inl was ↦ visit.kept i part (s.stacked i (Contains-append_left stack (j ∷ []) i was)) | inr here ↦ here.1 ];
      closed = λ i k near is. elim (visit.fresh i part is) [
        | inl was ↦ elim (s.closed i k near was) [
          | inl waits ↦ elim (Contains-push_cases stack j i waits) [
            | inl still ↦ inl (visit.older i still)
            | inr same ↦ inr (neighbour_has rows root part j k before of new stack grown network parts s visit (subst (λ z. Contains (next_to rows z) k) (sym same) near))
          ]
          | inr has ↦ inr (visit.kept k part has)
        ]
        | inr here ↦ inl here.2
      ];
    }

spread_closed : (rows : List (List ℕ)) (root part j k q : ℕ) (before of : List (Option ℕ)) → HaveParts rows part before → IsSpreading rows root part before of [] → Contains (next_to rows j) k → part_at of j ≡ Some q → part_at of k ≡ Some q
spread_closed rows root part j k q before of parts s near is =
    elim (s.fresh j q is) [
      | inl was ↦ s.kept k q (parts.closed j k q near was)
      | inr here ↦ elim (s.closed j k near (is ∙ ap Some here.0)) [ inl waits ↦ absurd (no_item j waits) | inr has ↦ has ∙ ap Some (sym here.0) ]
    ]

spread_reached : (rows : List (List ℕ)) (root part i j q : ℕ) (before of : List (Option ℕ)) → IsNetwork rows → HaveParts rows part before → IsSpreading rows root part before of [] → part_at of i ≡ Some q → part_at of j ≡ Some q → Reached rows i j
spread_reached rows root part i j q before of network parts s at_i at_j =
    elim (s.fresh i q at_i) [
      | inl old_i ↦ elim (s.fresh j q at_j) [
        | inl old_j ↦ parts.reached i j q old_i old_j
        | inr new_j ↦ absurd (not_before rows part i before parts (old_i ∙ ap Some new_j.0))
      ]
      | inr new_i ↦ elim (s.fresh j q at_j) [
        | inl old_j ↦ absurd (not_before rows part j before parts (old_j ∙ ap Some new_i.0))
        | inr new_j ↦ reached_join rows i root j (reached_back rows root i network new_i.1) new_j.1
      ]
    ]

spreading_last : (rows : List (List ℕ)) (root part : ℕ) (before of : List (Option ℕ)) → IsNetwork rows → 0 < length (next_to rows root) → HaveParts rows part before → IsSpreading rows root part before of [] → HaveParts rows (part + 1) of
spreading_last rows root part before of network ended parts s = record {
  long = s.long ∙ parts.long;
  fewer = λ j q is. elim (s.fresh j q is) [ inl was ↦ omega (arith, parts.fewer j q was) | inr here ↦ omega (arith, here.0) ];
  closed = λ j k q near is. spread_closed rows root part j k q before of parts s near is;
  reached = λ i j q at_i at_j. spread_reached rows root part i j q before of network parts s at_i at_j;
  ended = λ j q is. elim (s.fresh j q is) [ inl was ↦ parts.ended j q was | inr here ↦ reached_ended rows root j network ended here.1 ];
}

pub spread_at_end : (rows : List (List ℕ)) (root part : ℕ) (before of : List (Option ℕ)) → IsNetwork rows → IsFresh rows root before → HaveParts rows part before → IsSpreading rows root part before of [] → IsSpread rows root part before of
spread_at_end rows root part before of network fresh parts s =
    record { parts = spreading_last rows root part before of network fresh.ended parts s; kept = s.kept; begun = s.root_has }
