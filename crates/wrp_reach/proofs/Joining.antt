-- Groups become one, where an arc leads back from the last one: the search keeps what it keeps.
use Rattle.std.proofs.Common.{◌≡◌, ℕ, ◌+◌, ◌<◌, ◌≤◌, List, length, sym, ap, ◌∙◌, subst, inl, inr, arith}
use Rattle.std.specs.Prelude.{slice_index}
use Rattle.std.proofs.lemmas.Bool.{cases_eq, cases_lt}
use Rattle.std.proofs.lemmas.List.{get_or-take, length-take-le}
use Rattle.wrp_town.specs.declared.town.Town.{Town}
use Rattle.wrp_town.specs.Arcs.{head_of}
use Rattle.wrp_reach.specs.declared.search.Group.{Group}
use Rattle.wrp_reach.specs.declared.search.Search.{Search}
use Rattle.wrp_reach.specs.Reaching.{Reaches}
use Rattle.wrp_reach.specs.Search.{group_at, AreGrouped, IsKnown, done, on_path, waits, AreOrdered, IsPath, AreDone, IsSearch, Joins}
use Rattle.wrp_reach.proofs.Ways.{reach_join}

module _ (town : Town) (place : ℕ) (old new : Search) (search : IsSearch town old) (j : Joins place old new) (within : place < length old.path.items) (number : ℕ) (last : length old.groups.items ≡ number + 1) (leads_back : Reaches town (slice_index old.path.items (group_at old.groups.items number).start) (slice_index old.path.items place)) where
  long : length new.groups.items ≡ j.left
  long = ap length j.groups ∙ length-take-le j.left old.groups.items j.fewer

  group_left : (k : ℕ) → k < j.left → group_at new.groups.items k ≡ group_at old.groups.items k
  group_left k small = ap (λ (gs : List Group). group_at gs k) j.groups ∙ get_or-take j.left old.groups.items k (record { start = 0; todo = 0 }) small

  start_left : (k : ℕ) → k < j.left → (group_at new.groups.items k).start ≡ (group_at old.groups.items k).start
  start_left k small = ap (λ (g : Group). g.start) (group_left k small)

  todo_left : (k : ℕ) → k < j.left → (group_at new.groups.items k).todo ≡ (group_at old.groups.items k).todo
  todo_left k small = ap (λ (g : Group). g.todo) (group_left k small)

  -- the group of the place is left
  host : (k : ℕ) × (k < j.left) × ((group_at old.groups.items k).start ≤ place)
  host =
      let c = search.order.covered place within in
      elim (cases_lt c.0 j.left) [ inl small ↦ (c.0, small, c.2) | inr past ↦ absurd (omega (arith, j.later c.0 past c.1, c.2)) ]

  covered_joined : (at : ℕ) → at < length old.path.items → (k : ℕ) × (k < length new.groups.items) × ((group_at new.groups.items k).start ≤ at)
  covered_joined at small =
      let c = search.order.covered at small in
      elim (cases_lt c.0 j.left) [
        | inl one ↦ (c.0, omega (arith, long), omega (arith, c.2, start_left c.0 one))
        | inr past ↦ (host.0, omega (arith, long, host.1), omega (arith, j.later c.0 past c.1, c.2, host.2, start_left host.0 host.1))
      ]

  grouped_joined : (first second : ℕ) → AreGrouped old.groups.items first second → AreGrouped new.groups.items first second
  grouped_joined first second grouped = λ k small low.
      let one : k < j.left = omega (arith, long) in
      let after = grouped k (omega arith) (omega (arith, start_left k one)) in
      omega (arith, start_left k one)

  -- up to the place, and from it back, the groups are as they were
  grouped_before : (first second : ℕ) → second ≤ place → AreGrouped new.groups.items first second → AreGrouped old.groups.items first second
  grouped_before first second low grouped = λ k small behind. elim (cases_lt k j.left) [
    | inl one ↦ (let after = grouped k (omega (arith, long)) (omega (arith, start_left k one)) in omega (arith, start_left k one))
    | inr past ↦ omega (arith, j.later k past small)
  ]

  grouped_place : (first second : ℕ) → place < second → AreGrouped new.groups.items first second → AreGrouped old.groups.items first place
  grouped_place first second low grouped = λ k small behind. elim (cases_lt k j.left) [
    | inl one ↦ (let after = grouped k (omega (arith, long)) (omega (arith, start_left k one)) in omega (arith, start_left k one))
    | inr past ↦ j.later k past small
  ]

  -- no group starts behind the last one
  grouped_last : (second : ℕ) → AreGrouped old.groups.items (group_at old.groups.items number).start second
  grouped_last second = λ k small low. elim (cases_eq k number) [
    | inl same ↦ absurd (omega (arith, ap (λ (i : ℕ). (group_at old.groups.items i).start) same))
    | inr before ↦ absurd (omega (arith, (search.order.ascend k number (omega arith) (omega arith)).0))
  ]

  -- all that is on the path reaches the place
  to_place : (at : ℕ) → at < length old.path.items → Reaches town (slice_index old.path.items at) (slice_index old.path.items place)
  to_place at small =
      let start = (group_at old.groups.items number).start in
      let begun = search.order.begun number (omega arith) in
      elim (cases_lt start at) [
        | inl behind ↦ reach_join town _ (slice_index old.path.items start) _ (search.path.back start at (omega arith) small (grouped_last at)) leads_back
        | inr before ↦ reach_join town _ (slice_index old.path.items start) _ (search.path.forward at start before begun.0) leads_back
      ]

  back_joined : (first second : ℕ) → first ≤ second → second < length old.path.items → AreGrouped new.groups.items first second → Reaches town (slice_index old.path.items second) (slice_index old.path.items first)
  back_joined first second less small grouped = elim (cases_lt place second) [
    | inr low ↦ search.path.back first second less small (grouped_before first second low grouped)
    | inl high ↦
        reach_join town _ (slice_index old.path.items place) _ (to_place second small)
        (elim (cases_lt place first) [
          | inl behind ↦ search.path.forward place first (omega arith) (omega arith)
          | inr before ↦ search.path.back first place before within (grouped_place first second high grouped)
        ])
  ]

  abbrev joined : Search
  joined = record old { groups = new.groups }

  known_joined : (at i : ℕ) → IsKnown old at i → IsKnown joined at i
  known_joined at i (done label marked) = done label marked
  known_joined at i (on_path p marked grouped) = on_path p marked (grouped_joined p at grouped)
  known_joined at i (waits t small found behind) =
      waits t small found
      (λ k inside low.
      let one : k < j.left = omega (arith, long) in
      omega (arith, behind k (omega (arith, j.fewer)) (omega (arith, start_left k one)), todo_left k one))

  order_joined : AreOrdered (length town.junctions) joined
  order_joined = record {
    each = search.order.each;
    placed = search.order.placed;
    stands = search.order.stands;
    ascend = λ k m less small.
        let first : k < j.left = omega (arith, long) in
        let second : m < j.left = omega (arith, long) in
        let a = search.order.ascend k m less (omega (arith, j.fewer)) in
        (omega (arith, a.0, start_left k first, start_left m second), omega (arith, a.1, todo_left k first, todo_left m second));
    begun = λ k small.
        let one : k < j.left = omega (arith, long) in
        let b = search.order.begun k (omega (arith, j.fewer)) in
        (omega (arith, b.0, start_left k one), omega (arith, b.1, todo_left k one));
    covered = covered_joined;
    inside = search.order.inside;
    few = omega (arith, search.order.few, long, j.fewer);
  }

  path_joined : IsPath town joined
  path_joined = record {
    forward = search.path.forward;
    back = back_joined;
    wanted = λ k t small low below.
        let one : k < j.left = omega (arith, long) in
        subst (λ i. Reaches town (slice_index old.path.items i) (slice_index old.todo.items t)) (sym (start_left k one))
        (search.path.wanted k t (omega (arith, j.fewer)) (omega (arith, todo_left k one)) below);
    known = λ arc at legal small leaves. known_joined at (head_of town arc) (search.path.known arc at legal small leaves);
  }

  done_joined : AreDone town joined
  done_joined = record { below = search.done.below; falls = search.done.falls; strong = search.done.strong }

  pub search_joined : IsSearch town new
  search_joined = subst (λ s. IsSearch town s) (sym j.same) (record { order = order_joined; path = path_joined; done = done_joined })

  -- no group starts behind the place any more
  pub low_joined : (k : ℕ) → k < length new.groups.items → (group_at new.groups.items k).start ≤ place
  low_joined k small =
      let one : k < j.left = omega (arith, long) in
      omega (arith, j.earlier k one, start_left k one)

  pub fewer_joined : length new.groups.items ≤ length old.groups.items
  fewer_joined = omega (arith, long, j.fewer)

  -- and the last one's todo isn't the later
  pub todo_joined : (t k : ℕ) → (group_at old.groups.items number).todo ≤ t → k < length new.groups.items → (group_at new.groups.items k).todo ≤ t
  todo_joined t k low small =
      let one : k < j.left = omega (arith, long) in
      elim (cases_eq k number) [
        | inl same ↦ omega (arith, todo_left k one, ap (λ (i : ℕ). (group_at old.groups.items i).todo) same)
        | inr before ↦ omega (arith, todo_left k one, (search.order.ascend k number (omega (arith, j.fewer)) (omega arith)).1)
      ]
