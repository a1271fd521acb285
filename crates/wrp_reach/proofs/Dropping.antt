-- The last junction that is to be visited is dropped, where it is known otherwise: the search keeps what it keeps.
use Rattle.std.proofs.Common.{◌≡◌, ℕ, ◌<◌, ◌≤◌, List, length, get_or, sym, ap, ◌∙◌, subst, inl, inr, arith}
use Rattle.std.specs.Prelude.{slice_index}
use Rattle.std.specs.List.{All}
use Rattle.std.proofs.lemmas.Bool.{cases_lt}
use Rattle.std.proofs.lemmas.List.{get_or-take}
use Rattle.std.proofs.lemmas.List.Elements.{All-take}
use Rattle.wrp_town.specs.declared.town.Town.{Town}
use Rattle.wrp_town.specs.Arcs.{head_of}
use Rattle.wrp_reach.specs.declared.search.Mark.TheVariants.{OnPath, Done}
use Rattle.wrp_reach.specs.declared.search.Search.{Search}
use Rattle.wrp_reach.specs.Reaching.{Reaches}
use Rattle.wrp_reach.specs.Search.{mark_at, group_at, IsKnown, done, on_path, waits, AreOrdered, IsPath, AreDone, IsSearch, Drops}

-- a junction is known though it doesn't wait
pub data IsMet (s : Search) (i : ℕ) : Type 0 where
  is_done : (label : ℕ) → mark_at s.marks.items i ≡ Done label → IsMet s i
  is_placed : (at : ℕ) → mark_at s.marks.items i ≡ OnPath at → ((k : ℕ) → k < length s.groups.items → (group_at s.groups.items k).start ≤ at) → IsMet s i

module _ (town : Town) (old new : Search) (search : IsSearch town old) (d : Drops old new) (met : IsMet old (slice_index old.todo.items (length new.todo.items))) (low : (k : ℕ) → k < length old.groups.items → (group_at old.groups.items k).todo ≤ length new.todo.items) where
  abbrev dropped : Search
  dropped = record old { todo = new.todo }

  todo_left : (t : ℕ) → t < length new.todo.items → slice_index new.todo.items t ≡ slice_index old.todo.items t
  todo_left t small = ap (λ (xs : List ℕ). get_or xs t 0) d.todo ∙ get_or-take (length new.todo.items) old.todo.items t 0 small

  met_known : (at i : ℕ) → IsMet old i → IsKnown dropped at i
  met_known at i (is_done label marked) = done label marked
  met_known at i (is_placed p marked before) = on_path p marked (λ k small behind. absurd (omega (arith, before k small)))

  known_dropped : (at i : ℕ) → IsKnown old at i → IsKnown dropped at i
  known_dropped at i (done label marked) = done label marked
  known_dropped at i (on_path p marked grouped) = on_path p marked grouped
  known_dropped at i (waits t small found behind) = elim (cases_lt t (length new.todo.items)) [
    | inl left ↦ waits t left (todo_left t left ∙ found) behind
    | inr last ↦ met_known at i (subst (IsMet old) (ap (λ (n : ℕ). slice_index old.todo.items n) (omega (arith, d.one)) ∙ found) met)
  ]

  order_dropped : AreOrdered (length town.junctions) dropped
  order_dropped = record {
    each = search.order.each;
    placed = search.order.placed;
    stands = search.order.stands;
    ascend = search.order.ascend;
    begun = λ k small. ((search.order.begun k small).0, low k small);
    covered = search.order.covered;
    inside = subst (λ (xs : List ℕ). All (λ i. i < length town.junctions) xs) (sym d.todo) (All-take (λ i. i < length town.junctions) (length new.todo.items) old.todo.items search.order.inside);
    few = search.order.few;
  }

  path_dropped : IsPath town dropped
  path_dropped = record {
    forward = search.path.forward;
    back = search.path.back;
    wanted = λ k t small behind below.
        subst (λ z. Reaches town (slice_index old.path.items (group_at old.groups.items k).start) z) (sym (todo_left t below)) (search.path.wanted k t small behind (omega (arith, d.one)));
    known = λ arc at legal small leaves. known_dropped at (head_of town arc) (search.path.known arc at legal small leaves);
  }

  done_dropped : AreDone town dropped
  done_dropped = record { below = search.done.below; falls = search.done.falls; strong = search.done.strong }

  pub search_dropped : IsSearch town new
  search_dropped = subst (λ s. IsSearch town s) (sym d.same) (record { order = order_dropped; path = path_dropped; done = done_dropped })
