-- What a search for strongly connected components keeps true.
--
-- The path holds junctions of components that aren't done, each of which reaches all behind it. It
-- is cut into groups, whose junctions reach each other. Behind the start of a group's todo stand
-- the junctions to which arcs lead from this group or a later one, where they aren't known yet.
use Rattle.std.specs.Prelude.{◌≡◌, ℕ, ◌+◌, ◌*◌, ◌<◌, ◌≤◌, Bool, true, false, List, [], ◌∷◌, ◌++◌, map, length, take, slice_index, slice_index_or, slice_set}
use Rattle.std.specs.List.{All, count_by}
use Rattle.wrp_town.specs.declared.town.Town.{Town}
use Rattle.wrp_town.specs.Arcs.{is_legal, tail_of, head_of}
use Rattle.wrp_graph.specs.Stars.{out_of}
use Rattle.wrp_reach.specs.declared.search.Mark.{Mark}
use Rattle.wrp_reach.specs.declared.search.Mark.TheVariants.{New, OnPath, Done}
use Rattle.wrp_reach.specs.declared.search.Group.{Group}
use Rattle.wrp_reach.specs.declared.search.Search.{Search}
use Rattle.wrp_reach.specs.Reaching.{Reaches}

-- the mark of a junction, the junction at a place of the path, and the group of a number
abbrev pub mark_at : List Mark → ℕ → Mark
mark_at marks j = slice_index_or marks j New

abbrev pub group_at : List Group → ℕ → Group
group_at groups k = slice_index_or groups k (record { start = 0; todo = 0 })

pub record IsLastGroup (groups : List Group) (group : Group) : Type 0 where
  pub number : ℕ
  pub last : length groups ≡ number + 1
  pub is : group_at groups number ≡ group

abbrev pub is_new : Mark → Bool
is_new New = true
is_new mark = false

-- how many junctions are new
abbrev pub new_ones : List Mark → ℕ
new_ones marks = count_by is_new marks

-- no group starts behind the first place and up to the second
abbrev pub AreGrouped : List Group → ℕ → ℕ → Type 0
AreGrouped groups first second =
    (k : ℕ) → k < length groups → first < (group_at groups k).start
    → second < (group_at groups k).start

-- later groups start later, and so do their todos, where these aren't empty
abbrev pub AreAscending : List Group → Type 0
AreAscending groups =
    (k m : ℕ) → k < m → m < length groups
    → ((group_at groups k).start < (group_at groups m).start)
    × ((group_at groups k).todo ≤ (group_at groups m).todo)

-- what is known of a junction to which an arc leads from a place of the path: it is done, or on the
-- path behind the start of the place's group, or waits in the todo of that group
pub data IsKnown (s : Search) (place j : ℕ) : Type 0 where
  done : (label : ℕ) → mark_at s.marks.items j ≡ Done label → IsKnown s place j
  on_path : (at : ℕ) → mark_at s.marks.items j ≡ OnPath at → AreGrouped s.groups.items at place
      → IsKnown s place j
  waits : (t : ℕ) → t < length s.todo.items → slice_index s.todo.items t ≡ j
      → ((k : ℕ) → k < length s.groups.items → (group_at s.groups.items k).start ≤ place
      → (group_at s.groups.items k).todo ≤ t)
      → IsKnown s place j

-- marks, path, groups and todo belong together
pub record AreOrdered (n : ℕ) (s : Search) : Type 0 where
  pub each : length s.marks.items ≡ n
  -- the junctions on the path are marked with their places
  pub placed : (j at : ℕ) → mark_at s.marks.items j ≡ OnPath at
      → (at < length s.path.items) × (slice_index s.path.items at ≡ j)
  pub stands : (at : ℕ) → at < length s.path.items
      → mark_at s.marks.items (slice_index s.path.items at) ≡ OnPath at
  -- the groups ascend, the first one starts at the start of the path
  pub ascend : AreAscending s.groups.items
  pub begun : (k : ℕ) → k < length s.groups.items
      → ((group_at s.groups.items k).start < length s.path.items)
      × ((group_at s.groups.items k).todo ≤ length s.todo.items)
  pub covered : (at : ℕ) → at < length s.path.items
      → (k : ℕ) × (k < length s.groups.items) × ((group_at s.groups.items k).start ≤ at)
  pub inside : All (λ j. j < n) s.todo.items
  -- there are no more labels and groups than junctions that aren't new
  pub few : s.count + length s.groups.items + new_ones s.marks.items ≤ n

-- what the junctions on the path reach, and where arcs lead from them
pub record IsPath (town : Town) (s : Search) : Type 0 where
  pub forward : (first second : ℕ) → first ≤ second → second < length s.path.items
      → Reaches town (slice_index s.path.items first) (slice_index s.path.items second)
  pub back : (first second : ℕ) → first ≤ second → second < length s.path.items
      → AreGrouped s.groups.items first second
      → Reaches town (slice_index s.path.items second) (slice_index s.path.items first)
  pub wanted : (k t : ℕ) → k < length s.groups.items → (group_at s.groups.items k).todo ≤ t
      → t < length s.todo.items
      → Reaches town (slice_index s.path.items (group_at s.groups.items k).start)
      (slice_index s.todo.items t)
  pub known : (arc at : ℕ) → is_legal town arc ≡ true → at < length s.path.items
      → tail_of town arc ≡ slice_index s.path.items at → IsKnown s at (head_of town arc)

-- the junctions that are done are whole components: arcs lead from them to no higher label
pub record AreDone (town : Town) (s : Search) : Type 0 where
  pub below : (j label : ℕ) → mark_at s.marks.items j ≡ Done label → label < s.count
  pub falls : (arc label : ℕ) → is_legal town arc ≡ true
      → mark_at s.marks.items (tail_of town arc) ≡ Done label
      → (lower : ℕ) × (mark_at s.marks.items (head_of town arc) ≡ Done lower) × (lower ≤ label)
  pub strong : (i j label : ℕ) → mark_at s.marks.items i ≡ Done label
      → mark_at s.marks.items j ≡ Done label → Reaches town i j

pub record IsSearch (town : Town) (s : Search) : Type 0 where
  pub order : AreOrdered (length town.junctions) s
  pub path : IsPath town s
  pub done : AreDone town s

-- ---- what the steps of a search change

-- all junctions on the path reach j
abbrev pub AllReach : Town → Search → ℕ → Type 0
AllReach town s j =
    (at : ℕ) → at < length s.path.items → Reaches town (slice_index s.path.items at) j

-- the last group has junctions to visit
pub record HasTodo (s : Search) : Type 0 where
  pub number : ℕ
  pub last : length s.groups.items ≡ number + 1
  pub some : (group_at s.groups.items number).todo < length s.todo.items

-- a new junction is put on the path as a group, and the heads of its arcs are to be visited
pub record Enters (town : Town) (j : ℕ) (old new : Search) : Type 0 where
  pub marks : new.marks.items ≡ slice_set old.marks.items j (OnPath (length old.path.items))
  pub path : new.path.items ≡ old.path.items ++ j ∷ []
  pub todo : new.todo.items ≡ old.todo.items ++ map (head_of town) (out_of town j)
  pub groups : new.groups.items
      ≡ old.groups.items
      ++ record { start = length old.path.items; todo = length old.todo.items } ∷ []
  pub count : new.count ≡ old.count

-- the groups that start behind a place become one with that of the place
pub record Joins (place : ℕ) (old new : Search) : Type 0 where
  pub left : ℕ
  pub fewer : left ≤ length old.groups.items
  pub groups : new.groups.items ≡ take left old.groups.items
  pub earlier : (k : ℕ) → k < left → (group_at old.groups.items k).start ≤ place
  pub later : (k : ℕ) → left ≤ k → k < length old.groups.items
      → place < (group_at old.groups.items k).start
  pub same : new ≡ record old { groups = new.groups }

-- the last junction to be visited is dropped
pub record Drops (old new : Search) : Type 0 where
  pub todo : new.todo.items ≡ take (length new.todo.items) old.todo.items
  pub one : length old.todo.items ≡ length new.todo.items + 1
  pub same : new ≡ record old { todo = new.todo }

-- the last group gets the next label, and leaves the path
pub record Closes (old new : Search) : Type 0 where
  pub number : ℕ
  pub last : length old.groups.items ≡ number + 1
  pub groups : new.groups.items ≡ take number old.groups.items
  pub path : new.path.items ≡ take (group_at old.groups.items number).start old.path.items
  pub todo : new.todo ≡ old.todo
  pub count : new.count ≡ old.count + 1
  pub each : length new.marks.items ≡ length old.marks.items
  pub marked : (at : ℕ) → (group_at old.groups.items number).start ≤ at
      → at < length old.path.items
      → mark_at new.marks.items (slice_index old.path.items at) ≡ Done old.count
  pub others : (j : ℕ)
      → ((at : ℕ) → (group_at old.groups.items number).start ≤ at → at < length old.path.items
      → slice_index old.path.items at ≡ j → ⊥)
      → mark_at new.marks.items j ≡ mark_at old.marks.items j

-- how much of the search is left: a new junction puts as many junctions as arcs leave it into the
-- todo, and one group on the path
abbrev pub work_left : Town → Search → ℕ
work_left town s =
    new_ones s.marks.items * (2 * length town.streets + 2) + length s.todo.items
    + length s.groups.items

-- the search goes on: less is left to do, and no junction becomes new
pub record GoesOn (town : Town) (old new : Search) : Type 0 where
  pub search : IsSearch town new
  pub less : work_left town new < work_left town old
  pub kept : (j : ℕ) → mark_at new.marks.items j ≡ New → mark_at old.marks.items j ≡ New

-- between two roots no path is left, and the junctions below r aren't new
pub record IsAtRoot (town : Town) (r : ℕ) (s : Search) : Type 0 where
  pub search : IsSearch town s
  pub idle : length s.groups.items ≡ 0
  pub met : (j : ℕ) → j < r → mark_at s.marks.items j ≡ New → ⊥
