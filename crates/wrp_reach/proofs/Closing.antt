-- The last group has nothing left to visit and is done: the search keeps what it keeps.
use Rattle.std.proofs.Common.{◌≡◌, ℕ, ◌+◌, ◌*◌, ◌<◌, ◌≤◌, List, length, get_or, sym, ap, ◌∙◌, subst, inl, inr, arith}
use Rattle.std.specs.Prelude.{slice_index}
use Rattle.std.specs.List.{All}
use Rattle.std.proofs.Math.Nat.{mul-le-mul_right}
use Rattle.std.proofs.lemmas.Bool.{cases_lt}
use Rattle.std.proofs.lemmas.List.{get_or-take, length-take-le}
use Rattle.wrp_town.specs.declared.town.Town.{Town}
use Rattle.wrp_town.specs.Arcs.{tail_of, head_of}
use Rattle.wrp_reach.specs.declared.search.Mark.{Mark}
use Rattle.wrp_reach.specs.declared.search.Mark.TheVariants.{OnPath, Done}
use Rattle.wrp_reach.specs.declared.search.Group.{Group}
use Rattle.wrp_reach.specs.declared.search.Search.{Search}
use Rattle.wrp_reach.specs.Reaching.{Reaches}
use Rattle.wrp_reach.specs.Search.{mark_at, group_at, new_ones, AreGrouped, IsKnown, done, on_path, waits, AreOrdered, IsPath, AreDone, IsSearch, Closes, GoesOn}
use Rattle.wrp_reach.proofs.Ways.{by_mark, new_or_path, new_or_done, path_or_done, same_place, same_label}
use Rattle.wrp_reach.proofs.Counts.{fewer_ones}

-- a mark is new where it was, or where it is done in place of a place behind the start
data Changes (s : ℕ) (label : ℕ) (old new : Mark) : Type 0 where
  closes : (at : ℕ) → old ≡ OnPath at → s ≤ at → new ≡ Done label → Changes s label old new
  stays : new ≡ old → ((at : ℕ) → old ≡ OnPath at → at < s) → Changes s label old new

module _ (town : Town) (old new : Search) (search : IsSearch town old) (c : Closes old new) (idle : length old.todo.items ≤ (group_at old.groups.items c.number).todo) where
  there : c.number < length old.groups.items
  there = omega (arith, c.last)

  -- where the last group starts
  abbrev start : ℕ
  start = (group_at old.groups.items c.number).start

  within : start < length old.path.items
  within = (search.order.begun c.number there).0

  changes : (i : ℕ) → Changes start old.count (mark_at old.marks.items i) (mark_at new.marks.items i)
  changes i = by_mark (Changes start old.count (mark_at old.marks.items i) (mark_at new.marks.items i)) (mark_at old.marks.items i)
      (λ fresh. stays (c.others i (λ at low small is. new_or_path at _ fresh (ap (mark_at old.marks.items) (sym is) ∙ search.order.stands at small))) (λ at placed. absurd (new_or_path at _ fresh placed)))
      (λ at placed.
      let p = search.order.placed i at placed in
      elim (cases_lt at start) [
        | inl before ↦ stays (c.others i (λ other low small is. absurd (omega (arith, same_place at other _ placed (ap (mark_at old.marks.items) (sym is) ∙ search.order.stands other small)))))
            (λ other is. omega (arith, same_place at other _ placed is))
        | inr behind ↦ closes at placed behind (ap (mark_at new.marks.items) (sym p.1) ∙ c.marked at behind p.0)
      ])
      (λ label closed. stays (c.others i (λ at low small is. absurd (path_or_done at label _ (ap (mark_at old.marks.items) (sym is) ∙ search.order.stands at small) closed))) (λ at placed. absurd (path_or_done at label _ placed closed)))

  path_long : length new.path.items ≡ start
  path_long = ap length c.path ∙ length-take-le start old.path.items (omega (arith, within))

  path_left : (at : ℕ) → at < start → slice_index new.path.items at ≡ slice_index old.path.items at
  path_left at small = ap (λ (xs : List ℕ). get_or xs at 0) c.path ∙ get_or-take start old.path.items at 0 small

  groups_long : length new.groups.items ≡ c.number
  groups_long = ap length c.groups ∙ length-take-le c.number old.groups.items (omega (arith, there))

  group_left : (k : ℕ) → k < c.number → group_at new.groups.items k ≡ group_at old.groups.items k
  group_left k small = ap (λ (gs : List Group). group_at gs k) c.groups ∙ get_or-take c.number old.groups.items k (record { start = 0; todo = 0 }) small

  start_left : (k : ℕ) → k < c.number → (group_at new.groups.items k).start ≡ (group_at old.groups.items k).start
  start_left k small = ap (λ (g : Group). g.start) (group_left k small)

  todo_left : (k : ℕ) → k < c.number → (group_at new.groups.items k).todo ≡ (group_at old.groups.items k).todo
  todo_left k small = ap (λ (g : Group). g.todo) (group_left k small)

  todo_same : new.todo.items ≡ old.todo.items
  todo_same = ap (λ v. v.items) c.todo

  -- what was done is done
  done_still : (i label : ℕ) → mark_at old.marks.items i ≡ Done label → mark_at new.marks.items i ≡ Done label
  done_still i label is = elim (changes i) [
    | closes at placed behind closed ↦ absurd (path_or_done at label _ placed is)
    | stays same before ↦ same ∙ is
  ]

  covered_closed : (at : ℕ) → at < length new.path.items → (k : ℕ) × (k < length new.groups.items) × ((group_at new.groups.items k).start ≤ at)
  covered_closed at small =
      let v = search.order.covered at (omega (arith, path_long, within)) in
      elim (cases_lt v.0 c.number) [
        | inl one ↦ (v.0, omega (arith, groups_long), omega (arith, v.2, start_left v.0 one))
        | inr last ↦ absurd (omega (arith, path_long, v.2, ap (λ (i : ℕ). (group_at old.groups.items i).start) (let is : v.0 ≡ c.number = omega (arith, v.1, c.last) in is)))
      ]

  fewer_new : new_ones new.marks.items ≤ new_ones old.marks.items
  fewer_new = fewer_ones old.marks.items new.marks.items c.each (λ i is. elim (changes i) [
    | closes at placed behind closed ↦ absurd (new_or_done old.count _ is closed)
    | stays same before ↦ sym same ∙ is
  ])

  order_closed : AreOrdered (length town.junctions) new
  order_closed = record {
    each = c.each ∙ search.order.each;
    placed = λ i at is. elim (changes i) [
      | closes place placed behind closed ↦ absurd (path_or_done at old.count _ is closed)
      | stays same before ↦ (
          let was : mark_at old.marks.items i ≡ OnPath at = sym same ∙ is in
          let low = before at was in
          (omega (arith, path_long), path_left at low ∙ (search.order.placed i at was).1)
          )
    ];
    stands = λ at small.
        let low : at < start = omega (arith, path_long) in
        let stood = search.order.stands at (omega (arith, within)) in
        ap (mark_at new.marks.items) (path_left at low)
        ∙ elim (changes (slice_index old.path.items at)) [
          | closes place placed behind closed ↦ absurd (omega (arith, same_place place at _ placed stood))
          | stays same before ↦ same ∙ stood
        ];
    ascend = λ k m less small.
        let first : k < c.number = omega (arith, groups_long) in
        let second : m < c.number = omega (arith, groups_long) in
        let a = search.order.ascend k m less (omega (arith, there)) in
        (omega (arith, a.0, start_left k first, start_left m second), omega (arith, a.1, todo_left k first, todo_left m second));
    begun = λ k small.
        let one : k < c.number = omega (arith, groups_long) in
        let b = search.order.begun k (omega (arith, there)) in
        let a = search.order.ascend k c.number one there in
        (omega (arith, a.0, start_left k one, path_long), omega (arith, b.1, todo_left k one, ap length todo_same));
    covered = covered_closed;
    inside = subst (λ (xs : List ℕ). All (λ i. i < length town.junctions) xs) (sym todo_same) search.order.inside;
    few = omega (arith, search.order.few, groups_long, c.last, c.count, fewer_new);
  }

  grouped_before : (first second : ℕ) → second < start → AreGrouped new.groups.items first second → AreGrouped old.groups.items first second
  grouped_before first second low grouped = λ k small behind. elim (cases_lt k c.number) [
    | inl one ↦ (let after = grouped k (omega (arith, groups_long)) (omega (arith, start_left k one)) in omega (arith, start_left k one))
    | inr last ↦ (let is : k ≡ c.number = omega (arith, c.last) in omega (arith, ap (λ (i : ℕ). (group_at old.groups.items i).start) is))
  ]

  grouped_after : (first second : ℕ) → AreGrouped old.groups.items first second → AreGrouped new.groups.items first second
  grouped_after first second grouped = λ k small low.
      let one : k < c.number = omega (arith, groups_long) in
      let after = grouped k (omega (arith, there)) (omega (arith, start_left k one)) in
      omega (arith, start_left k one)

  known_closed : (at i : ℕ) → IsKnown old at i → IsKnown new at i
  known_closed at i (done label is) = done label (done_still i label is)
  known_closed at i (on_path place is grouped) = elim (changes i) [
    | closes other placed behind closed ↦ done old.count closed
    | stays same before ↦ on_path place (same ∙ is) (grouped_after place at grouped)
  ]
  known_closed at i (waits t small is behind) =
      waits t (omega (arith, ap length todo_same)) (ap (λ (xs : List ℕ). slice_index xs t) todo_same ∙ is)
      (λ k inside low.
      let one : k < c.number = omega (arith, groups_long) in
      omega (arith, behind k (omega (arith, there)) (omega (arith, start_left k one)), todo_left k one))

  path_closed : IsPath town new
  path_closed = record {
    forward = λ first second less small.
        subst (λ z. Reaches town z (slice_index new.path.items second)) (sym (path_left first (omega (arith, path_long))))
        (subst (λ z. Reaches town (slice_index old.path.items first) z) (sym (path_left second (omega (arith, path_long)))) (search.path.forward first second less (omega (arith, path_long, within))));
    back = λ first second less small grouped.
        subst (λ z. Reaches town z (slice_index new.path.items first)) (sym (path_left second (omega (arith, path_long))))
        (subst (λ z. Reaches town (slice_index old.path.items second) z) (sym (path_left first (omega (arith, path_long))))
        (search.path.back first second less (omega (arith, path_long, within)) (grouped_before first second (omega (arith, path_long)) grouped)));
    wanted = λ k t small low below.
        let one : k < c.number = omega (arith, groups_long) in
        let a = search.order.ascend k c.number one there in
        let starts : slice_index new.path.items (group_at new.groups.items k).start ≡ slice_index old.path.items (group_at old.groups.items k).start = ap (λ (i : ℕ). slice_index new.path.items i) (start_left k one) ∙ path_left _ a.0 in
        subst (λ z. Reaches town z (slice_index new.todo.items t)) (sym starts)
        (subst (λ (xs : List ℕ). Reaches town (slice_index old.path.items (group_at old.groups.items k).start) (slice_index xs t)) (sym todo_same)
        (search.path.wanted k t (omega (arith, there)) (omega (arith, todo_left k one)) (omega (arith, ap length todo_same))));
    known = λ arc at legal small leaves. known_closed at (head_of town arc) (search.path.known arc at legal (omega (arith, path_long, within)) (leaves ∙ path_left at (omega (arith, path_long))));
  }

  -- no group starts behind the last one
  grouped_last : (first second : ℕ) → start ≤ first → AreGrouped old.groups.items first second
  grouped_last first second low = λ k small behind. elim (cases_lt k c.number) [
    | inl one ↦ absurd (omega (arith, (search.order.ascend k c.number one there).0))
    | inr last ↦ (let is : k ≡ c.number = omega (arith, c.last) in absurd (omega (arith, ap (λ (i : ℕ). (group_at old.groups.items i).start) is)))
  ]

  -- the last group's junctions reach each other
  strong_here : (i j p q : ℕ) → start ≤ p → start ≤ q → mark_at old.marks.items i ≡ OnPath p → mark_at old.marks.items j ≡ OnPath q → Reaches town i j
  strong_here i j p q low_p low_q first second =
      let a = search.order.placed i p first in
      let b = search.order.placed j q second in
      subst (λ z. Reaches town z j) a.1 (subst (λ z. Reaches town (slice_index old.path.items p) z) b.1
      (elim (cases_lt q p) [
        | inr up ↦ search.path.forward p q up b.0
        | inl down ↦ search.path.back q p (omega arith) a.0 (grouped_last q p low_q)
      ]))

  -- an arc from the last group leads to this group, or to a junction that is done
  falls_here : (at i : ℕ) → start ≤ at → IsKnown old at i → (lower : ℕ) × (mark_at new.marks.items i ≡ Done lower) × (lower ≤ old.count)
  falls_here at i low (done label is) = (label, done_still i label is, omega (arith, search.done.below i label is))
  falls_here at i low (on_path place is grouped) = elim (changes i) [
    | closes other placed behind closed ↦ (old.count, closed, omega arith)
    | stays same before ↦ absurd (omega (arith, grouped c.number there (before place is)))
  ]
  falls_here at i low (waits t small is behind) = absurd (omega (arith, behind c.number there low))

  done_closed : AreDone town new
  done_closed = record {
    below = λ i label is. elim (changes i) [
      | closes at placed behind closed ↦ omega (arith, c.count, same_label label old.count _ is closed)
      | stays same before ↦ omega (arith, c.count, search.done.below i label (sym same ∙ is))
    ];
    falls = λ arc label legal is. elim (changes (tail_of town arc)) [
      | closes at placed behind closed ↦ (
          let p = search.order.placed (tail_of town arc) at placed in
          let f = falls_here at (head_of town arc) behind (search.path.known arc at legal p.0 (sym p.1)) in
          (f.0, f.1, omega (arith, f.2, same_label label old.count _ is closed))
          )
      | stays same before ↦ (let f = search.done.falls arc label legal (sym same ∙ is) in (f.0, done_still (head_of town arc) f.0 f.1, f.2))
    ];
    strong = λ i j label first second. elim (changes i) [
      | closes p placed_i behind_i closed_i ↦ elim (changes j) [
        | closes q placed_j behind_j closed_j ↦ strong_here i j p q behind_i behind_j placed_i placed_j
        | stays same before ↦ absurd (omega (arith, same_label label old.count _ first closed_i, search.done.below j label (sym same ∙ second)))
      ]
      | stays same_i before_i ↦ elim (changes j) [
        | closes q placed_j behind_j closed_j ↦ absurd (omega (arith, same_label label old.count _ second closed_j, search.done.below i label (sym same_i ∙ first)))
        | stays same_j before_j ↦ search.done.strong i j label (sym same_i ∙ first) (sym same_j ∙ second)
      ]
    ];
  }

  pub goes_on_closed : GoesOn town old new
  goes_on_closed = record {
    search = record { order = order_closed; path = path_closed; done = done_closed };
    less = (
        let less : new_ones new.marks.items * (2 * length town.streets + 2) ≤ new_ones old.marks.items * (2 * length town.streets + 2) = mul-le-mul_right (2 * length town.streets + 2) fewer_new in
        omega (arith, less, groups_long, c.last, ap length todo_same)
        );
    kept = λ i is. elim (changes i) [
      | closes at placed behind closed ↦ absurd (new_or_done old.count _ is closed)
      | stays same before ↦ sym same ∙ is
    ];
  }
