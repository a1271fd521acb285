-- One turn of a search: a junction is visited, or a group is closed.
use Rattle.std.proofs.Common.{◌≡◌, ℕ, ◌+◌, ◌-◌, ◌*◌, ◌<◌, ◌≤◌, List, length, take, drop, get_or, refl, sym, ap, ◌∙◌, subst, inl, inr, arith}
use Rattle.std.specs.Prelude.{slice_index}
use Rattle.std.specs.List.{All}
use Rattle.std.proofs.lemmas.Bool.{cases_eq, cases_lt}
use Rattle.std.proofs.lemmas.List.Elements.{All-get_or, All-from_get_or}
use Rattle.std.proofs.lemmas.List.{get_or_past, get_or_read_under, get_or-drop, length-drop, take_rest, get_or_default}
use Rattle.wrp_town.specs.declared.town.Town.{Town}
use Rattle.wrp_reach.specs.declared.search.Mark.TheVariants.{New, OnPath, Done}
use Rattle.wrp_reach.specs.declared.search.Group.{Group}
use Rattle.wrp_reach.specs.declared.search.Search.{Search}
use Rattle.wrp_reach.specs.Reaching.{Reaches}
use Rattle.wrp_reach.specs.Search.{mark_at, group_at, new_ones, AreGrouped, IsLastGroup, IsSearch, AllReach, HasTodo, Enters, Joins, Drops, Closes, GoesOn}
use Rattle.wrp_reach.proofs.Ways.{reach_join, new_or_path, place_of}
use Rattle.wrp_reach.specs.declared.search.Mark.{Mark}
use Rattle.wrp_reach.proofs.Steps.{IsMarking}
use Rattle.wrp_reach.proofs.Entering.{goes_on_entered}
use Rattle.wrp_reach.proofs.Joining.{search_joined, low_joined, fewer_joined, todo_joined}
use Rattle.wrp_reach.proofs.Dropping.{is_done, is_placed, search_dropped}
use Rattle.wrp_reach.proofs.Closing.{goes_on_closed}

module _ (town : Town) (old : Search) (search : IsSearch town old) (work : HasTodo old) (j : ℕ) (top : slice_index old.todo.items (length old.todo.items - 1) ≡ j) where
  last_there : work.number < length old.groups.items
  last_there = omega (arith, work.last)

  pub visited_below : j < length town.junctions
  visited_below = subst (λ i. i < length town.junctions) top (All-get_or (λ i. i < length town.junctions) old.todo.items (length old.todo.items - 1) 0 (omega (arith, work.some)) search.order.inside)

  -- the last group's start reaches the junction, and so does all that is on the path
  from_last : Reaches town (slice_index old.path.items (group_at old.groups.items work.number).start) j
  from_last =
      subst (λ i. Reaches town (slice_index old.path.items (group_at old.groups.items work.number).start) i) top
      (search.path.wanted work.number (length old.todo.items - 1) last_there (omega (arith, work.some)) (omega (arith, work.some)))

  no_later : (second : ℕ) → AreGrouped old.groups.items (group_at old.groups.items work.number).start second
  no_later second = λ k small low. elim (cases_eq k work.number) [
    | inl same ↦ absurd (omega (arith, ap (λ (i : ℕ). (group_at old.groups.items i).start) same))
    | inr before ↦ absurd (omega (arith, (search.order.ascend k work.number (omega (arith, work.last)) last_there).0))
  ]

  all_reach : AllReach town old j
  all_reach = λ at small.
      let start = (group_at old.groups.items work.number).start in
      elim (cases_lt start at) [
        | inl behind ↦ reach_join town _ (slice_index old.path.items start) j (search.path.back start at (omega arith) small (no_later at)) from_last
        | inr before ↦ reach_join town _ (slice_index old.path.items start) j (search.path.forward at start before (search.order.begun work.number last_there).0) from_last
      ]

  pub visited_new : (new : Search) → mark_at old.marks.items j ≡ New → Enters town j old new → GoesOn town old new
  visited_new new fresh entered = goes_on_entered town j old new search entered visited_below fresh all_reach

  -- the todo of each group ends before the junction
  low_todo : (k : ℕ) → k < length old.groups.items → (group_at old.groups.items k).todo ≤ length old.todo.items - 1
  low_todo k small = elim (cases_eq k work.number) [
    | inl same ↦ omega (arith, work.some, ap (λ (i : ℕ). (group_at old.groups.items i).todo) same)
    | inr before ↦ omega (arith, work.some, (search.order.ascend k work.number (omega (arith, work.last)) last_there).1)
  ]

  pub visited_done : (new : Search) (label : ℕ) → mark_at old.marks.items j ≡ Done label → Drops old new → GoesOn town old new
  visited_done new label is d =
      let at : length new.todo.items ≡ length old.todo.items - 1 = omega (arith, d.one) in
      let same : slice_index old.todo.items (length new.todo.items) ≡ j = ap (λ (i : ℕ). slice_index old.todo.items i) at ∙ top in
      let marks = ap (λ s. s.marks.items) d.same in
      record {
        search = search_dropped town old new search d (is_done label (ap (mark_at old.marks.items) same ∙ is)) (λ k small. omega (arith, low_todo k small));
        less = omega (arith, d.one, ap (λ s. new_ones s.marks.items * (2 * length town.streets + 2)) d.same, ap (λ s. length s.groups.items) d.same);
        kept = λ i fresh. ap (λ ms. mark_at ms i) (sym marks) ∙ fresh;
      }

  pub visited_path : (mid new : Search) (place : ℕ) → mark_at old.marks.items j ≡ OnPath place → Joins place old mid → Drops mid new → GoesOn town old new
  visited_path mid new place is joins d =
      let p = search.order.placed j place is in
      let back = subst (λ i. Reaches town (slice_index old.path.items (group_at old.groups.items work.number).start) i) (sym p.1) from_last in
      let todos = ap (λ s. s.todo.items) joins.same in
      let marks = ap (λ s. s.marks.items) joins.same in
      let long = ap length todos in
      let at : length new.todo.items ≡ length old.todo.items - 1 = omega (arith, d.one) in
      let same : slice_index mid.todo.items (length new.todo.items) ≡ j = ap (λ (xs : List ℕ). slice_index xs (length new.todo.items)) todos ∙ ap (λ (i : ℕ). slice_index old.todo.items i) at ∙ top in
      let kept = search_joined town place old mid search joins p.0 work.number work.last back in
      let marked : mark_at mid.marks.items (slice_index mid.todo.items (length new.todo.items)) ≡ OnPath place = ap (mark_at mid.marks.items) same ∙ ap (λ ms. mark_at ms j) marks ∙ is in
      let fewer = fewer_joined town place old mid search joins p.0 work.number work.last back in
      record {
        search = search_dropped town mid new kept d (is_placed place marked (low_joined town place old mid search joins p.0 work.number work.last back))
            (λ k small. todo_joined town place old mid search joins p.0 work.number work.last back (length new.todo.items) k (omega (arith, work.some)) small);
        less = omega (
          arith,
          d.one,
          long,
          fewer,
          ap (λ s. new_ones s.marks.items * (2 * length town.streets + 2)) d.same,
          ap (λ s. new_ones s.marks.items * (2 * length town.streets + 2)) joins.same,
          ap (λ s. length s.groups.items) d.same,
        );
        kept = λ i fresh. ap (λ ms. mark_at ms i) (sym marks) ∙ ap (λ s. mark_at s.marks.items i) (sym d.same) ∙ fresh;
      }

-- the last group, as it was found
pub has_todo : (s : Search) (group : Group) → IsLastGroup s.groups.items group → group.todo < length s.todo.items → HasTodo s
has_todo s group last some = record { number = last.number; last = last.last; some = omega (arith, ap (λ (g : Group). g.todo) last.is) }

pub last_start : (town : Town) (s : Search) (group : Group) → IsSearch town s → IsLastGroup s.groups.items group → group.start ≤ length s.path.items
last_start town s group search last = omega (arith, ap (λ (g : Group). g.start) last.is, (search.order.begun last.number (omega (arith, last.last))).0)

pub few_labels : (town : Town) (s : Search) → IsSearch town s → s.count ≤ length town.junctions
few_labels town s search = omega (arith, search.order.few)

pub group_closed : (town : Town) (old new : Search) (group : Group) → IsSearch town old → IsLastGroup old.groups.items group → length old.todo.items ≤ group.todo → Closes old new → GoesOn town old new
group_closed town old new group search last idle closes =
    let same : last.number ≡ closes.number = omega (arith, last.last, closes.last) in
    goes_on_closed town old new search closes (omega (arith, ap (λ (g : Group). g.todo) last.is, ap (λ (i : ℕ). (group_at old.groups.items i).todo) same))

-- what stands on the path is a junction
pub path_inside : (town : Town) (s : Search) → IsSearch town s → All (λ j. j < length s.marks.items) s.path.items
path_inside town s search = All-from_get_or (λ j. j < length s.marks.items) s.path.items 0 (λ at small.
    elim (cases_lt (slice_index s.path.items at) (length s.marks.items)) [
      | inl inside ↦ inside
      | inr past ↦ absurd (new_or_path at _ (get_or_past s.marks.items (slice_index s.path.items at) New past) (search.order.stands at small))
    ])

-- the last item, as it was read
pub last_read : (xs : List ℕ) (len x : ℕ) → len ≡ length xs → 0 < length xs → x ≡ get_or xs (len - 1) x → slice_index xs (length xs - 1) ≡ x
last_read xs len x long some read = ap (λ (n : ℕ). get_or xs (n - 1) 0) (sym long) ∙ sym (get_or_read_under xs (len - 1) (length xs) x 0 read (omega arith) refl)

-- a group closed as the code does it
pub closed_by : (old new : Search) (group : Group) (path : List ℕ) (marks : List Mark) → IsLastGroup old.groups.items group → path ≡ old.path.items → IsMarking old.count (take (length path - group.start) (drop group.start path)) old.marks.items marks → new.marks.items ≡ marks → length marks ≡ length old.marks.items
    → new.path.items ≡ take group.start old.path.items → new.groups.items ≡ take (length old.groups.items - 1) old.groups.items → new.todo ≡ old.todo → new.count ≡ old.count + 1 → Closes old new
closed_by old new group path marks last same marking marks_new long path_new groups_new todo_new count_new =
    let from = ap (λ (g : Group). g.start) last.is in
    let rest : take (length path - group.start) (drop group.start path) ≡ drop group.start old.path.items = take_rest path group.start ∙ ap (drop group.start) same in
    let m = subst (λ (js : List ℕ). IsMarking old.count js old.marks.items marks) rest marking in
    record {
      number = last.number;
      last = last.last;
      groups = groups_new ∙ ap (λ (n : ℕ). take n old.groups.items) (omega (arith, last.last));
      path = path_new ∙ ap (λ (n : ℕ). take n old.path.items) (sym from);
      todo = todo_new;
      count = count_new;
      each = ap length marks_new ∙ long;
      marked = λ at low small.
          let k : ℕ = at - group.start in
          let is : get_or (drop group.start old.path.items) k 0 ≡ slice_index old.path.items at = get_or-drop group.start old.path.items k 0 ∙ ap (λ (i : ℕ). get_or old.path.items i 0) (omega (arith, from)) in
          ap (λ (ms : List Mark). mark_at ms (slice_index old.path.items at)) marks_new
          ∙ ap (mark_at marks) (sym is) ∙ m.marked k 0 (omega (arith, length-drop group.start old.path.items, from));
      others = λ j absent.
          ap (λ (ms : List Mark). mark_at ms j) marks_new
          ∙ m.others j (λ has.
          let p = place_of (drop group.start old.path.items) j has in
          absent (group.start + p.0) (omega (arith, from)) (omega (arith, p.1, length-drop group.start old.path.items)) (sym (get_or-drop group.start old.path.items p.0 0) ∙ p.2));
    }

pub mark_read : (marks : List Mark) (j : ℕ) (x : Mark) → j < length marks → x ≡ get_or marks j x → mark_at marks j ≡ x
mark_read marks j x inside read = get_or_default marks j New x inside ∙ sym read
