-- A search along the arcs that are used: at its start, from one junction to the next, and at its end.
use Rattle.std.proofs.Common.{◌≡◌, ℕ, ◌+◌, ◌<◌, Bool, true, false, cond, List, [], ◌∷◌, ◌++◌, length, map, filter, get_or, take, replicate, refl, sym, ap, ◌∙◌, subst, inl, inr, arith}
use Rattle.std.specs.List.{Contains}
use Rattle.std.proofs.lemmas.Bool.{true≢false, cases_lt}
use Rattle.std.proofs.lemmas.List.{map-append, get_or-replicate, get_or_past, length-replicate}
use Rattle.std.proofs.lemmas.List.Elements.{Contains-append_left, Contains-push, Contains-push_cases, filter_more, All-contains}
use Rattle.wrp_sums.proofs.FirstNumbers.{inside_filter, passes_of_inside}
use Rattle.wrp_town.specs.declared.town.Town.{Town}
use Rattle.wrp_town.specs.Arcs.{tail_of, head_of, is_legal}
use Rattle.wrp_town.proofs.Members.{inside_head, inside_tail, inside_cases, inside_none}
use Rattle.wrp_town.proofs.TownLaws.{legal_below}
use Rattle.wrp_graph.specs.Stars.{out_of}
use Rattle.wrp_graph.specs.Pieces.{Joined}
use Rattle.wrp_graph.specs.Pieces.Joined.{here, along}
use Rattle.wrp_graph.proofs.Joins.{joined_trans}
use Rattle.wrp_parts.proofs.Visits.{in_single, no_item}
use Rattle.wrp_reach.proofs.Ways.{out_of-legal, out_of-tail, out_of-has}
use Rattle.wrp_euler.specs.Circuits.{is_used}
use Rattle.wrp_point_tour.specs.Counts.{is_marked}
use Rattle.wrp_point_tour.specs.Search.{IsReach, IsSearch, IsVisit, heads_of_used}
use Rattle.wrp_point_tour.proofs.Visits.{marked_inside, visit_join, visit_none}

-- ---- members of lists that were filtered and mapped

pub inside_map : (f : ℕ → ℕ) (xs : List ℕ) (x : ℕ) → Contains xs x → Contains (map f xs) (f x)
inside_map f [] x inside = absurd (inside_none x inside)
inside_map f (y ∷ xs) x inside =
    inside_cases (Contains (map f (y ∷ xs)) (f x)) y xs x inside
    (λ same. subst (λ z. Contains (map f (y ∷ xs)) (f z)) same (inside_head (f y) (map f xs)))
    (λ other. inside_tail (f y) (map f xs) (f x) (inside_map f xs x other))

pub inside_of_map : (f : ℕ → ℕ) (xs : List ℕ) (y : ℕ) → Contains (map f xs) y → (x : ℕ) × (Contains xs x) × (f x ≡ y)
inside_of_map f [] y inside = absurd (inside_none y inside)
inside_of_map f (x ∷ xs) y inside =
    inside_cases ((z : ℕ) × (Contains (x ∷ xs) z) × (f z ≡ y)) (f x) (map f xs) y inside
    (λ same. (x, inside_head x xs, same))
    (λ other. let m = inside_of_map f xs y other in (m.0, inside_tail x xs m.0 m.1, m.2))

pub inside_of_filter : (p : ℕ → Bool) (xs : List ℕ) (x : ℕ) → Contains (filter p xs) x → Contains xs x
inside_of_filter p [] x inside = inside
inside_of_filter p (y ∷ xs) x inside = by (p y) (λ other. inside_of_filter p xs x other) inside
  where
    by : (b : Bool) → (Contains (filter p xs) x → Contains xs x) → Contains (cond b (y ∷ filter p xs) (filter p xs)) x → Contains (y ∷ xs) x
    by true before there = inside_cases (Contains (y ∷ xs) x) y (filter p xs) x there (λ same. subst (λ z. Contains (y ∷ xs) z) same (inside_head y xs)) (λ other. inside_tail y xs x (before other))
    by false before there = inside_tail y xs x (before there)

-- ---- heads

-- one arc more
pub heads_more : (town : Town) (counts arcs : List ℕ) (i : ℕ) → i < length arcs
    → heads_of_used town counts (take (i + 1) arcs) ≡ heads_of_used town counts (take i arcs) ++ map (head_of town) (cond (is_used counts (get_or arcs i 0)) (get_or arcs i 0 ∷ []) [])
heads_more town counts arcs i below =
    ap (map (head_of town)) (filter_more (is_used counts) arcs i 0 below)
    ∙ map-append (head_of town) (filter (is_used counts) (take i arcs)) (cond (is_used counts (get_or arcs i 0)) (get_or arcs i 0 ∷ []) [])

-- a visit of the heads so far, and of the next one, where its arc is used
pub visit_used : (town : Town) (counts arcs : List ℕ) (i : ℕ) (old mid new : List Bool) (s t u : List ℕ) → i < length arcs → is_used counts (get_or arcs i 0) ≡ true
    → IsVisit (heads_of_used town counts (take i arcs)) old s mid t → IsVisit (head_of town (get_or arcs i 0) ∷ []) mid t new u → IsVisit (heads_of_used town counts (take (i + 1) arcs)) old s new u
visit_used town counts arcs i old mid new s t u below used before next =
    subst (λ (hs : List ℕ). IsVisit hs old s new u)
    (sym (heads_more town counts arcs i below ∙ ap (λ (b : Bool). heads_of_used town counts (take i arcs) ++ map (head_of town) (cond b (get_or arcs i 0 ∷ []) [])) used))
    (visit_join (heads_of_used town counts (take i arcs)) (head_of town (get_or arcs i 0) ∷ []) old mid new s t u before next)

pub visit_unused : (town : Town) (counts arcs : List ℕ) (i : ℕ) (old mid : List Bool) (s t : List ℕ) → i < length arcs → is_used counts (get_or arcs i 0) ≡ false
    → IsVisit (heads_of_used town counts (take i arcs)) old s mid t → IsVisit (heads_of_used town counts (take (i + 1) arcs)) old s mid t
visit_unused town counts arcs i old mid s t below unused before =
    subst (λ (hs : List ℕ). IsVisit hs old s mid t)
    (sym (heads_more town counts arcs i below ∙ ap (λ (b : Bool). heads_of_used town counts (take i arcs) ++ map (head_of town) (cond b (get_or arcs i 0 ∷ []) [])) unused))
    (visit_join (heads_of_used town counts (take i arcs)) [] old mid mid s t t before (visit_none mid t))

-- a head of an arc that is used and leaves the junction
pub head_there : (town : Town) (counts : List ℕ) (arc : ℕ) → is_legal town arc ≡ true → is_used counts arc ≡ true → Contains (heads_of_used town counts (out_of town (tail_of town arc))) (head_of town arc)
head_there town counts arc legal used =
    inside_map (head_of town) (filter (is_used counts) (out_of town (tail_of town arc))) arc
    (inside_filter (is_used counts) (out_of town (tail_of town arc)) arc (out_of-has town (tail_of town arc) arc legal refl) used)

-- is joined with the junction
pub head_joined : (town : Town) (counts : List ℕ) (j k : ℕ) → Contains (heads_of_used town counts (out_of town j)) k → Joined town (is_used counts) j k
head_joined town counts j k inside =
    let m = inside_of_map (head_of town) (filter (is_used counts) (out_of town j)) k inside in
    let used = passes_of_inside (is_used counts) (out_of town j) m.0 m.1 in
    let there = inside_of_filter (is_used counts) (out_of town j) m.0 m.1 in
    let legal = All-contains (λ arc. is_legal town arc ≡ true) (out_of town j) m.0 (out_of-legal town j) there in
    let begins = All-contains (λ arc. tail_of town arc ≡ j) (out_of town j) m.0 (out_of-tail town j) there in
    subst (λ n. Joined town (is_used counts) n k) begins
    (subst (λ n. Joined town (is_used counts) (tail_of town m.0) n) m.2 (along m.0 (head_of town m.0) (legal_below town m.0 legal) used (here (head_of town m.0))))

-- ---- the search

module _ (town : Town) (counts : List ℕ) (base : ℕ) where
  unmarked_at : (n j : ℕ) → is_marked (replicate n false) j ≡ false
  unmarked_at n j =
      elim (cases_lt j n) [
        | inl below ↦ get_or-replicate n j false false below
        | inr past ↦ get_or_past (replicate n false) j false (omega (arith, length-replicate n false))
      ]

  -- the base alone
  pub search_first : (none marks : List Bool) (stack : List ℕ) → none ≡ replicate (length town.junctions) false → IsVisit (base ∷ []) none [] marks stack → IsSearch town counts base marks stack
  search_first none marks stack is visit =
      let fresh : (j : ℕ) → is_marked marks j ≡ true → Contains (base ∷ []) j × Contains stack j = λ j marked.
      elim (visit.fresh j marked) [
        | inl was ↦ absurd (true≢false (sym was ∙ ap (λ (xs : List Bool). is_marked xs j) is ∙ unmarked_at (length town.junctions) j))
        | inr new ↦ new
      ] in
      record {
        long = visit.long ∙ ap length is ∙ length-replicate (length town.junctions) false;
        begun = visit.met base (Contains-push [] base);
        stacked = λ j inside. elim (visit.stacked j inside) [ inl was ↦ absurd (no_item j was) | inr new ↦ new.1 ];
        closed = λ arc legal used marked. inl (fresh (tail_of town arc) marked).1;
        reached = λ j marked. subst (λ n. Joined town (is_used counts) base n) (in_single base j (fresh j marked).0) (here base);
      }

  -- the junction on top of the stack
  pub next_inside : (marks : List Bool) (stack : List ℕ) (j : ℕ) → IsSearch town counts base marks (stack ++ j ∷ []) → j < length town.junctions
  next_inside marks stack j s = omega (arith, marked_inside marks j (s.stacked j (Contains-push stack j)), s.long)

  pub search_more : (marks new : List Bool) (stack grown : List ℕ) (j : ℕ) → IsSearch town counts base marks (stack ++ j ∷ []) → IsVisit (heads_of_used town counts (out_of town j)) marks stack new grown → IsSearch town counts base new grown
  search_more marks new stack grown j s visit = record {
    long = visit.long ∙ s.long;
    begun = visit.kept base s.begun;
    stacked = λ i inside. elim (visit.stacked i inside) [ inl was ↦ visit.kept i (s.stacked i (Contains-append_left stack (j ∷ []) i was)) | inr fresh ↦ fresh.1 ];
    closed = λ arc legal used marked. elim (visit.fresh (tail_of town arc) marked) [
      | inl was ↦ elim (s.closed arc legal used was) [
        | inl waits ↦ elim (Contains-push_cases stack j (tail_of town arc) waits) [
          | inl still ↦ inl (visit.older (tail_of town arc) still)
          | inr same ↦ inr (visit.met (head_of town arc) (subst (λ n. Contains (heads_of_used town counts (out_of town n)) (head_of town arc)) (sym same) (head_there town counts arc legal used)))
        ]
        | inr met ↦ inr (visit.kept (head_of town arc) met)
      ]
      | inr fresh ↦ inl fresh.1
    ];
    reached = λ i marked. elim (visit.fresh i marked) [
      | inl was ↦ s.reached i was
      | inr fresh ↦ joined_trans town (is_used counts) i base j (s.reached j (s.stacked j (Contains-push stack j))) (head_joined town counts j i fresh.0)
    ];
  }

  pub search_last : (marks : List Bool) → IsSearch town counts base marks [] → IsReach town counts base marks
  search_last marks s = record {
    begun = s.begun;
    closed = λ arc legal used marked. elim (s.closed arc legal used marked) [ inl waits ↦ absurd (no_item (tail_of town arc) waits) | inr met ↦ met ];
    reached = s.reached;
  }
