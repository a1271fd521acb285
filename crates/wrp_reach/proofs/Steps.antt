-- Steps of a search, each over the lists that it changes.
use Rattle.std.proofs.Common.{◌≡◌, ℕ, ◌+◌, ◌-◌, ◌<◌, ◌≤◌, List, [], ◌∷◌, ◌++◌, length, take, set, refl, sym, ap, ◌∙◌, subst, inl, inr, arith, get_or}
use Rattle.std.proofs.lemmas.List.{take-take, get_or-take, length-take-le, take_all, take_more, get_or-set_same, get_or-set_other}
use Rattle.std.specs.List.{All, Contains}
use Rattle.std.proofs.lemmas.List.Elements.{All-nil, All-push, All-weaker, Contains-push, Contains-append_left}
use Rattle.wrp_reach.specs.declared.search.Mark.{Mark}
use Rattle.wrp_reach.specs.declared.search.Mark.TheVariants.{New, Done}
use Rattle.std.proofs.lemmas.Bool.{cases_lt, cases_eq}
use Rattle.wrp_reach.specs.declared.search.Group.{Group}
use Rattle.wrp_reach.specs.declared.search.Search.{Search}
use Rattle.wrp_reach.specs.Search.{group_at, mark_at, AreAscending, IsLastGroup, Joins}

-- groups that start behind a place are dropped one after the other
pub record IsJoining (place : ℕ) (old new : Search) : Type 0 where
  pub fewer : length new.groups.items ≤ length old.groups.items
  pub groups : new.groups.items ≡ take (length new.groups.items) old.groups.items
  pub later : (k : ℕ) → length new.groups.items ≤ k → k < length old.groups.items → place < (group_at old.groups.items k).start
  pub same : new ≡ record old { groups = new.groups }

pub joining_begins : (place : ℕ) (s : Search) → IsJoining place s s
joining_begins place s = record {
  fewer = omega arith;
  groups = sym (take_all (length s.groups.items) s.groups.items (omega arith));
  later = λ k low small. absurd (omega arith);
  same = refl;
}

-- what is at a number of the groups that are left is so of all groups
group_left : (place k : ℕ) (old new : Search) → IsJoining place old new → k < length new.groups.items → group_at new.groups.items k ≡ group_at old.groups.items k
group_left place k old new j small =
    ap (λ (gs : List Group). group_at gs k) j.groups ∙ get_or-take (length new.groups.items) old.groups.items k (record { start = 0; todo = 0 }) small

pub joining_goes : (place : ℕ) (old mid new : Search) (group : Group) → IsJoining place old mid → IsLastGroup mid.groups.items group → place < group.start → new ≡ record mid { groups = new.groups } → new.groups.items ≡ take (length mid.groups.items - 1) mid.groups.items → IsJoining place old new
joining_goes place old mid new group j last behind same groups =
    let long : length new.groups.items ≡ length mid.groups.items - 1 = ap length groups ∙ length-take-le (length mid.groups.items - 1) mid.groups.items (omega arith) in
    record {
      fewer = omega (arith, j.fewer);
      groups = groups ∙ ap (take (length mid.groups.items - 1)) j.groups ∙ take-take (length mid.groups.items - 1) (length mid.groups.items) old.groups.items (omega arith) ∙ ap (λ (n : ℕ). take n old.groups.items) (sym long);
      later = λ k low small. elim (cases_lt k (length mid.groups.items)) [
        | inl last_one ↦ (
            let here : k ≡ last.number = omega (arith, last.last) in
            let is = sym (group_left place k old mid j last_one) ∙ ap (group_at mid.groups.items) here ∙ last.is in
            omega (arith, ap (λ (g : Group). g.start) is)
            )
        | inr past ↦ j.later k past small
      ];
      same = same ∙ ap (λ (s : Search). record s { groups = new.groups }) j.same;
    }

-- the groups before the last one that stays
pub joining_stops : (place : ℕ) (old new : Search) → IsJoining place old new → ((k : ℕ) → k < length new.groups.items → (group_at new.groups.items k).start ≤ place) → Joins place old new
joining_stops place old new j low = record {
  left = length new.groups.items;
  fewer = j.fewer;
  groups = j.groups;
  earlier = λ k small. omega (arith, low k small, ap (λ (g : Group). g.start) (group_left place k old new j small));
  later = j.later;
  same = j.same;
}

pub joining_stops_at : (place : ℕ) (old new : Search) (group : Group) → AreAscending old.groups.items → IsJoining place old new → IsLastGroup new.groups.items group → group.start ≤ place → Joins place old new
joining_stops_at place old new group ascend j last low = joining_stops place old new j (λ k small. elim (cases_eq k last.number) [
  | inl here ↦ omega (arith, ap (λ (g : Group). g.start) (ap (group_at new.groups.items) here ∙ last.is))
  | inr before ↦ (
      let up = ascend k last.number (omega (arith, last.last)) (omega (arith, last.last, j.fewer)) in
      omega (
        arith,
        up.0,
        ap (λ (g : Group). g.start) (group_left place k old new j small),
        ap (λ (g : Group). g.start) (group_left place last.number old new j (omega (arith, last.last))),
        ap (λ (g : Group). g.start) last.is,
      )
      )
])

pub joining_stops_none : (place : ℕ) (old new : Search) → IsJoining place old new → length new.groups.items ≡ 0 → Joins place old new
joining_stops_none place old new j none = joining_stops place old new j (λ k small. absurd (omega arith))

-- ---- marks

-- some junctions have a label, and no others have changed
pub record IsMarking (label : ℕ) (js : List ℕ) (old new : List Mark) : Type 0 where
  pub marked : All (λ j. mark_at new j ≡ Done label) js
  pub others : (j : ℕ) → (Contains js j → ⊥) → mark_at new j ≡ mark_at old j

pub marking_begins : (label : ℕ) (marks : List Mark) → IsMarking label [] marks marks
marking_begins label marks = record { marked = All-nil (λ j. mark_at marks j ≡ Done label); others = λ j none. refl }

marked_still : (label x j : ℕ) (marks : List Mark) → x < length marks → mark_at marks j ≡ Done label → mark_at (set marks x (Done label)) j ≡ Done label
marked_still label x j marks inside is = elim (cases_eq j x) [
  | inl same ↦ ap (mark_at (set marks x (Done label))) same ∙ get_or-set_same marks x (Done label) New inside
  | inr differs ↦ get_or-set_other marks x j (Done label) New differs ∙ is
]

pub marking_goes : (label i : ℕ) (js : List ℕ) (old marks : List Mark) → i < length js → get_or js i 0 < length marks → IsMarking label (take i js) old marks → IsMarking label (take (i + 1) js) old (set marks (get_or js i 0) (Done label))
marking_goes label i js old marks small inside m =
    let x = get_or js i 0 in
    let more = take_more js i 0 small in
    subst (λ (xs : List ℕ). IsMarking label xs old (set marks x (Done label))) (sym more)
    (record {
      marked = All-push (λ j. mark_at (set marks x (Done label)) j ≡ Done label) (take i js) x (All-weaker (λ j. mark_at marks j ≡ Done label) (λ j. mark_at (set marks x (Done label)) j ≡ Done label) (λ j is. marked_still label x j marks inside is) (take i js) m.marked)
          (get_or-set_same marks x (Done label) New inside);
      others = λ j absent.
          get_or-set_other marks x j (Done label) New (λ same. absent (subst (λ z. Contains (take i js ++ x ∷ []) z) (sym same) (Contains-push (take i js) x)))
          ∙ m.others j (λ has. absent (Contains-append_left (take i js) (x ∷ []) j has));
    })

pub marking_ends : (label i : ℕ) (js : List ℕ) (old marks : List Mark) → length js ≤ i → IsMarking label (take i js) old marks → IsMarking label js old marks
marking_ends label i js old marks past m = subst (λ (xs : List ℕ). IsMarking label xs old marks) (take_all i js past) m
