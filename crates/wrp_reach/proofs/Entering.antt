-- A new junction enters the path: the search keeps what it keeps.
use Rattle.std.proofs.Common.{◌≡◌, ℕ, ◌+◌, ◌-◌, ◌*◌, ◌<◌, ◌≤◌, true, cond, List, [], ◌∷◌, length, map, get_or, refl, sym, ap, ◌∙◌, subst, inl, inr, arith}
use Rattle.std.specs.Prelude.{slice_index}
use Rattle.std.specs.List.{All}
use Rattle.std.proofs.lemmas.Bool.{cases_eq, cases_lt}
use Rattle.std.proofs.lemmas.List.{get_or-set_same, get_or-set_other, length-set, length_push, get_or_push, get_or_append_left, get_or-append-add, length-append, length-map, get_or-map}
use Rattle.std.proofs.lemmas.List.Elements.{All-append, All-map, All-weaker, All-get_or}
use Rattle.std.proofs.lemmas.List.Sums.{sum_by-set}
use Rattle.wrp_town.specs.declared.town.Town.{Town}
use Rattle.wrp_town.specs.Arcs.{is_legal, tail_of, head_of}
use Rattle.wrp_town.proofs.TownLaws.{legal_below, head_of-below}
use Rattle.wrp_graph.specs.Stars.{out_of}
use Rattle.wrp_reach.specs.declared.search.Mark.{Mark}
use Rattle.wrp_reach.specs.declared.search.Mark.TheVariants.{New, OnPath, Done}
use Rattle.wrp_reach.specs.declared.search.Group.{Group}
use Rattle.wrp_reach.specs.declared.search.Search.{Search}
use Rattle.wrp_reach.specs.Reaching.{Reaches}
use Rattle.wrp_reach.specs.Search.{mark_at, group_at, is_new, new_ones, AreGrouped, IsKnown, done, on_path, waits, AreOrdered, IsPath, AreDone, IsSearch, AllReach, Enters, GoesOn}
use Rattle.wrp_reach.proofs.Ways.{reach_none, reach_join, reach_arc, out_of-legal, out_of-tail, out_of-has, length-out_of, place_of, new_or_path, path_or_done, same_place}

module _ (town : Town) (j : ℕ) (old new : Search) (search : IsSearch town old) (e : Enters town j old new) (there : j < length town.junctions) (fresh : mark_at old.marks.items j ≡ New) (reached : AllReach town old j) where
  inside : j < length old.marks.items
  inside = omega (arith, search.order.each)

  mark_here : mark_at new.marks.items j ≡ OnPath (length old.path.items)
  mark_here = ap (λ (ms : List Mark). mark_at ms j) e.marks ∙ get_or-set_same old.marks.items j (OnPath (length old.path.items)) New inside

  mark_else : (i : ℕ) → (i ≡ j → ⊥) → mark_at new.marks.items i ≡ mark_at old.marks.items i
  mark_else i differs = ap (λ (ms : List Mark). mark_at ms i) e.marks ∙ get_or-set_other old.marks.items j i (OnPath (length old.path.items)) New differs

  -- a junction that is done, or on the path, stays so
  mark_kept : (i : ℕ) (m : Mark) → mark_at old.marks.items i ≡ m → (m ≡ New → ⊥) → mark_at new.marks.items i ≡ m
  mark_kept i m is known = mark_else i (λ same. known (sym is ∙ ap (mark_at old.marks.items) same ∙ fresh)) ∙ is

  path_long : length new.path.items ≡ length old.path.items + 1
  path_long = ap length e.path ∙ length_push old.path.items j

  path_old : (at : ℕ) → at < length old.path.items → slice_index new.path.items at ≡ slice_index old.path.items at
  path_old at small = ap (λ (xs : List ℕ). get_or xs at 0) e.path ∙ get_or_append_left old.path.items (j ∷ []) 0 at small

  path_new : (at : ℕ) → at ≡ length old.path.items → slice_index new.path.items at ≡ j
  path_new at is = ap (λ (xs : List ℕ). get_or xs at 0) e.path ∙ get_or_push old.path.items j 0 at (sym is)

  path_isnt : (at : ℕ) → at < length old.path.items → slice_index old.path.items at ≡ j → ⊥
  path_isnt at small is = new_or_path at _ fresh (ap (mark_at old.marks.items) (sym is) ∙ search.order.stands at small)

  groups_long : length new.groups.items ≡ length old.groups.items + 1
  groups_long = ap length e.groups ∙ length_push old.groups.items (record { start = length old.path.items; todo = length old.todo.items })

  group_old : (k : ℕ) → k < length old.groups.items → group_at new.groups.items k ≡ group_at old.groups.items k
  group_old k small =
      ap (λ (gs : List Group). group_at gs k) e.groups ∙ get_or_append_left old.groups.items (record { start = length old.path.items; todo = length old.todo.items } ∷ []) (record { start = 0; todo = 0 }) k small

  start_old : (k : ℕ) → k < length old.groups.items → (group_at new.groups.items k).start ≡ (group_at old.groups.items k).start
  start_old k small = ap (λ (g : Group). g.start) (group_old k small)

  todo_of_old : (k : ℕ) → k < length old.groups.items → (group_at new.groups.items k).todo ≡ (group_at old.groups.items k).todo
  todo_of_old k small = ap (λ (g : Group). g.todo) (group_old k small)

  group_new : (k : ℕ) → k ≡ length old.groups.items → group_at new.groups.items k ≡ record { start = length old.path.items; todo = length old.todo.items }
  group_new k is =
      ap (λ (gs : List Group). group_at gs k) e.groups ∙ get_or_push old.groups.items (record { start = length old.path.items; todo = length old.todo.items }) (record { start = 0; todo = 0 }) k (sym is)

  start_new : (k : ℕ) → k ≡ length old.groups.items → (group_at new.groups.items k).start ≡ length old.path.items
  start_new k is = ap (λ (g : Group). g.start) (group_new k is)

  todo_of_new : (k : ℕ) → k ≡ length old.groups.items → (group_at new.groups.items k).todo ≡ length old.todo.items
  todo_of_new k is = ap (λ (g : Group). g.todo) (group_new k is)

  heads : List ℕ
  heads = map (head_of town) (out_of town j)

  todo_long : length new.todo.items ≡ length old.todo.items + length (out_of town j)
  todo_long = omega (arith, ap length e.todo, length-append old.todo.items (map (head_of town) (out_of town j)), length-map (out_of town j) (head_of town))

  todo_old : (t : ℕ) → t < length old.todo.items → slice_index new.todo.items t ≡ slice_index old.todo.items t
  todo_old t small = ap (λ (xs : List ℕ). get_or xs t 0) e.todo ∙ get_or_append_left old.todo.items (map (head_of town) (out_of town j)) 0 t small

  todo_new : (k : ℕ) → k < length (out_of town j) → slice_index new.todo.items (length old.todo.items + k) ≡ head_of town (get_or (out_of town j) k 0)
  todo_new k small =
      ap (λ (xs : List ℕ). get_or xs (length old.todo.items + k) 0) e.todo ∙ get_or-append-add old.todo.items (map (head_of town) (out_of town j)) k 0 ∙ get_or-map (head_of town) (out_of town j) k 0 0 small

  -- the junction reaches what it adds
  adds : (t : ℕ) → length old.todo.items ≤ t → t < length new.todo.items → Reaches town j (slice_index new.todo.items t)
  adds t past small =
      let k : ℕ = t - length old.todo.items in
      let below : k < length (out_of town j) = omega (arith, todo_long) in
      let at : length old.todo.items + k ≡ t = omega arith in
      let arc = get_or (out_of town j) k 0 in
      let is : slice_index new.todo.items t ≡ head_of town arc = ap (λ (i : ℕ). slice_index new.todo.items i) (sym at) ∙ todo_new k below in
      let legal = All-get_or (λ a. is_legal town a ≡ true) (out_of town j) k 0 below (out_of-legal town j) in
      let leaves = All-get_or (λ a. tail_of town a ≡ j) (out_of town j) k 0 below (out_of-tail town j) in
      subst (λ z. Reaches town z (slice_index new.todo.items t)) leaves (subst (λ z. Reaches town (tail_of town arc) z) (sym is) (reach_arc town arc legal))

  ascend_entered : (k m : ℕ) → k < m → m < length new.groups.items → ((group_at new.groups.items k).start < (group_at new.groups.items m).start) × ((group_at new.groups.items k).todo ≤ (group_at new.groups.items m).todo)
  ascend_entered k m less small =
      elim (cases_lt m (length old.groups.items)) [
        | inl before ↦ (
            let a = search.order.ascend k m less before in
            let first : k < length old.groups.items = omega arith in
            (omega (arith, a.0, start_old k first, start_old m before), omega (arith, a.1, todo_of_old k first, todo_of_old m before))
            )
        | inr last ↦ (
            let is : m ≡ length old.groups.items = omega (arith, groups_long) in
            let first : k < length old.groups.items = omega arith in
            let b = search.order.begun k first in
            (omega (arith, b.0, start_old k first, start_new m is), omega (arith, b.1, todo_of_old k first, todo_of_new m is))
            )
      ]

  begun_entered : (k : ℕ) → k < length new.groups.items → ((group_at new.groups.items k).start < length new.path.items) × ((group_at new.groups.items k).todo ≤ length new.todo.items)
  begun_entered k small =
      elim (cases_lt k (length old.groups.items)) [
        | inl before ↦ (let b = search.order.begun k before in (omega (arith, b.0, start_old k before, path_long), omega (arith, b.1, todo_of_old k before, todo_long)))
        | inr last ↦ (
            let is : k ≡ length old.groups.items = omega (arith, groups_long) in
            (omega (arith, start_new k is, path_long), omega (arith, todo_of_new k is, todo_long))
            )
      ]

  covered_entered : (at : ℕ) → at < length new.path.items → (k : ℕ) × (k < length new.groups.items) × ((group_at new.groups.items k).start ≤ at)
  covered_entered at small =
      elim (cases_lt at (length old.path.items)) [
        | inl before ↦ (let c = search.order.covered at before in (c.0, omega (arith, c.1, groups_long), omega (arith, c.2, start_old c.0 c.1)))
        | inr last ↦ (length old.groups.items, omega (arith, groups_long), omega (arith, start_new (length old.groups.items) refl))
      ]

  fewer_new : new_ones new.marks.items + 1 ≡ new_ones old.marks.items
  fewer_new =
      omega (
        arith,
        ap new_ones e.marks,
        sum_by-set (λ (m : Mark). cond {A = ℕ} (is_new m) 1 0) old.marks.items j (OnPath (length old.path.items)) New inside,
        ap (λ (m : Mark). cond {A = ℕ} (is_new m) 1 0) fresh,
      )

  order_entered : AreOrdered (length town.junctions) new
  order_entered = record {
    each = ap length e.marks ∙ length-set old.marks.items j (OnPath (length old.path.items)) ∙ search.order.each;
    placed = λ i at is. elim (cases_eq i j) [
      | inl same ↦ (
          let last : length old.path.items ≡ at = same_place (length old.path.items) at _ (ap (mark_at new.marks.items) same ∙ mark_here) is in
          (omega (arith, path_long), path_new at (sym last) ∙ sym same)
          )
      | inr differs ↦ (let p = search.order.placed i at (sym (mark_else i differs) ∙ is) in (omega (arith, p.0, path_long), path_old at p.0 ∙ p.1))
    ];
    stands = λ at small. elim (cases_lt at (length old.path.items)) [
      | inl before ↦ ap (mark_at new.marks.items) (path_old at before) ∙ mark_else (slice_index old.path.items at) (path_isnt at before) ∙ search.order.stands at before
      | inr last ↦ (
          let is : at ≡ length old.path.items = omega (arith, path_long) in
          ap (mark_at new.marks.items) (path_new at is) ∙ mark_here ∙ ap OnPath (sym is)
          )
    ];
    ascend = ascend_entered;
    begun = begun_entered;
    covered = covered_entered;
    inside = subst (λ (xs : List ℕ). All (λ i. i < length town.junctions) xs) (sym e.todo)
        (All-append (λ i. i < length town.junctions) old.todo.items (map (head_of town) (out_of town j)) search.order.inside
        (All-map (λ i. i < length town.junctions) (head_of town) (out_of town j) (All-weaker (λ a. is_legal town a ≡ true) (λ a. head_of town a < length town.junctions) (λ a legal. head_of-below town a (legal_below town a legal)) (out_of town j) (out_of-legal town j))));
    few = omega (arith, search.order.few, fewer_new, groups_long, e.count);
  }

  -- what the old path said of its groups
  grouped_before : (first second : ℕ) → AreGrouped new.groups.items first second → AreGrouped old.groups.items first second
  grouped_before first second grouped = λ k small low.
      let after = grouped k (omega (arith, groups_long)) (omega (arith, start_old k small)) in
      omega (arith, start_old k small)

  grouped_after : (first second : ℕ) → second < length old.path.items → AreGrouped old.groups.items first second → AreGrouped new.groups.items first second
  grouped_after first second within grouped = λ k small low. elim (cases_lt k (length old.groups.items)) [
    | inl before ↦ (let after = grouped k before (omega (arith, start_old k before)) in omega (arith, start_old k before))
    | inr last ↦ omega (arith, start_new k (omega (arith, groups_long)))
  ]

  known_before : (at i : ℕ) → at < length old.path.items → IsKnown old at i → IsKnown new at i
  known_before at i small (done label is) = done label (mark_kept i (Done label) is (λ bad. absurd (cc)))
  known_before at i small (on_path place is grouped) =
      on_path place (mark_kept i (OnPath place) is (λ bad. absurd (cc))) (grouped_after place at small grouped)
  known_before at i small (waits t below is behind) =
      waits t (omega (arith, todo_long)) (todo_old t below ∙ is)
      (λ k within low. elim (cases_lt k (length old.groups.items)) [
        | inl before ↦ omega (arith, behind k before (omega (arith, start_old k before)), todo_of_old k before)
        | inr last ↦ absurd (omega (arith, start_new k (omega (arith, groups_long))))
      ])

  known_here : (arc at : ℕ) → is_legal town arc ≡ true → at ≡ length old.path.items → tail_of town arc ≡ j → IsKnown new at (head_of town arc)
  known_here arc at legal last leaves =
      let p = place_of (out_of town j) arc (out_of-has town j arc legal leaves) in
      waits (length old.todo.items + p.0) (omega (arith, p.1, todo_long)) (todo_new p.0 p.1 ∙ ap (head_of town) p.2)
      (λ k within low. elim (cases_lt k (length old.groups.items)) [
        | inl before ↦ omega (arith, (search.order.begun k before).1, todo_of_old k before)
        | inr past ↦ omega (arith, todo_of_new k (omega (arith, groups_long)))
      ])

  path_entered : IsPath town new
  path_entered = record {
    forward = λ first second less small. elim (cases_lt second (length old.path.items)) [
      | inl before ↦
          subst (λ z. Reaches town z (slice_index new.path.items second)) (sym (path_old first (omega arith)))
          (subst (λ z. Reaches town (slice_index old.path.items first) z) (sym (path_old second before)) (search.path.forward first second less before))
      | inr last ↦ elim (cases_lt first (length old.path.items)) [
        | inl earlier ↦
            subst (λ z. Reaches town z (slice_index new.path.items second)) (sym (path_old first earlier))
            (subst (λ z. Reaches town (slice_index old.path.items first) z) (sym (path_new second (omega (arith, path_long)))) (reached first earlier))
        | inr same ↦ reach_none town _ _ (ap (λ (i : ℕ). slice_index new.path.items i) (omega (arith, path_long)))
      ]
    ];
    back = λ first second less small grouped. elim (cases_lt second (length old.path.items)) [
      | inl before ↦
          subst (λ z. Reaches town z (slice_index new.path.items first)) (sym (path_old second before))
          (subst (λ z. Reaches town (slice_index old.path.items second) z) (sym (path_old first (omega arith))) (search.path.back first second less before (grouped_before first second grouped)))
      | inr last ↦ elim (cases_lt first (length old.path.items)) [
        | inl earlier ↦
            absurd (omega (arith, path_long, grouped (length old.groups.items) (omega (arith, groups_long)) (omega (arith, start_new (length old.groups.items) refl)), start_new (length old.groups.items) refl))
        | inr same ↦ reach_none town _ _ (ap (λ (i : ℕ). slice_index new.path.items i) (omega (arith, path_long)))
      ]
    ];
    wanted = λ k t within low small. elim (cases_lt k (length old.groups.items)) [
      | inl before ↦ (
          let begun = search.order.begun k before in
          let starts : slice_index new.path.items (group_at new.groups.items k).start ≡ slice_index old.path.items (group_at old.groups.items k).start = ap (λ (i : ℕ). slice_index new.path.items i) (start_old k before) ∙ path_old _ begun.0 in
          elim (cases_lt t (length old.todo.items)) [
            | inl old_one ↦
                subst (λ z. Reaches town z (slice_index new.todo.items t)) (sym starts)
                (subst (λ z. Reaches town (slice_index old.path.items (group_at old.groups.items k).start) z) (sym (todo_old t old_one)) (search.path.wanted k t before (omega (arith, todo_of_old k before)) old_one))
            | inr new_one ↦
                subst (λ z. Reaches town z (slice_index new.todo.items t)) (sym starts)
                (reach_join town _ j _ (reached (group_at old.groups.items k).start begun.0) (adds t new_one small))
          ]
          )
      | inr last ↦ (
          let is : k ≡ length old.groups.items = omega (arith, groups_long) in
          subst (λ z. Reaches town z (slice_index new.todo.items t)) (sym (path_new (group_at new.groups.items k).start (start_new k is))) (adds t (omega (arith, todo_of_new k is)) small)
          )
    ];
    known = λ arc at legal small leaves. elim (cases_lt at (length old.path.items)) [
      | inl before ↦ known_before at (head_of town arc) before (search.path.known arc at legal before (leaves ∙ path_old at before))
      | inr last ↦ known_here arc at legal (omega (arith, path_long)) (leaves ∙ path_new at (omega (arith, path_long)))
    ];
  }

  -- junctions that are done are those that were
  done_before : (i label : ℕ) → mark_at new.marks.items i ≡ Done label → mark_at old.marks.items i ≡ Done label
  done_before i label is = sym (mark_else i (λ same. path_or_done (length old.path.items) label _ mark_here (ap (mark_at new.marks.items) (sym same) ∙ is))) ∙ is

  done_entered : AreDone town new
  done_entered = record {
    below = λ i label is. omega (arith, search.done.below i label (done_before i label is), e.count);
    falls = λ arc label legal is.
        let f = search.done.falls arc label legal (done_before (tail_of town arc) label is) in
        (f.0, mark_kept (head_of town arc) (Done f.0) f.1 (λ bad. absurd (cc)), f.2);
    strong = λ a b label first second. search.done.strong a b label (done_before a label first) (done_before b label second);
  }

  pub search_entered : IsSearch town new
  search_entered = record { order = order_entered; path = path_entered; done = done_entered }

  kept_entered : (i : ℕ) → mark_at new.marks.items i ≡ New → mark_at old.marks.items i ≡ New
  kept_entered i is = elim (cases_eq i j) [
    | inl same ↦ ap (mark_at old.marks.items) same ∙ fresh
    | inr differs ↦ sym (mark_else i differs) ∙ is
  ]

  pub goes_on_entered : GoesOn town old new
  goes_on_entered = record {
    search = search_entered;
    less = (
        let n : ℕ = new_ones new.marks.items in
        let s : ℕ = 2 * length town.streets + 2 in
        let more : new_ones old.marks.items * s ≡ n * s + s = ap (λ (a : ℕ). a * s) (sym fewer_new) ∙ omega arith in
        omega (arith, more, groups_long, todo_long, length-out_of town j)
        );
    kept = kept_entered;
  }

  pub met_entered : (i : ℕ) → i ≡ j → mark_at new.marks.items i ≡ New → ⊥
  met_entered i same is = new_or_path (length old.path.items) _ is (ap (mark_at new.marks.items) same ∙ mark_here)
