-- Pieces of a walk between uses of an arc: what is kept of them.
use Rattle.std.proofs.Common.{◌≡◌, ℕ, zero, suc, ◌+◌, ◌-◌, ◌*◌, ◌<◌, ◌≤◌, Bool, true, false, cond, ◌||◌, not, ◌==◌, List, [], ◌∷◌, ◌++◌, length, take, drop, get_or, Contains, refl, sym, ap, ◌∙◌, subst, inl, inr, arith, eq-eqb}
use Rattle.std.proofs.lemmas.Bool.{and_parts, and_from, or_left, or_right, or_cases, cases_lt, cases_eq, cases_Bool, ne_eqb, eqb-true, not-true, true≢false}
use Rattle.std.proofs.lemmas.List.{take-append-drop, drop-drop, drop_more, drop_all, take_all, get_or-take, get_or-drop, get_or_default}
use Rattle.std.proofs.Math.Seq.{take-add}
use Rattle.std.proofs.lemmas.List.Sums.{count_by-le-length}
use Rattle.wrp_town.specs.declared.street.Step.{Step}
use Rattle.wrp_town.specs.declared.town.Town.{Town}
use Rattle.wrp_town.specs.Arcs.{arc_of, tail_of, demands}
use Rattle.wrp_town.specs.Walks.{leads, serves, is_tour, is_closed_walk, walk_cost, count_of}
use Rattle.wrp_town.proofs.WalkLaws.{LeadsBy-from_leads, leads-join, leads-split, end_of, closed-from_leads, closed-turned, tour_closed, tour_serves, tour_from, serves-append, walk_cost-append, count_of-append, count_of-cons, tour_legal}
use Rattle.wrp_town.proofs.TownLaws.{legal_below}
use Rattle.wrp_town.proofs.ServiceLaws.{counted_is_legal}
use Rattle.wrp_town.proofs.Members.{member_from_any, member_passes, any_from_member, all_from_members}
use Rattle.wrp_laws.proofs.Thinning.{count_by_more_than}
use Rattle.wrp_tour.specs.Thinning.{IsThinner, is_new, adds_service, step_at, IsPieceEnd, IsTurned, IsKept, IsFirstUse}

no_step : Step
no_step = record { street = 0; back = false }

-- no step drives the arc
pub count_zero : (steps : List Step) (arc : ℕ) → ((k : ℕ) → k < length steps → arc_of (step_at steps k) ≡ arc → ⊥) → count_of steps arc ≡ 0
count_zero [] arc none = refl
count_zero (step ∷ steps) arc none =
    omega (arith, count_of-cons step steps arc, ap (λ (b : Bool). cond {A = ℕ} b 1 0) (ne_eqb (arc_of step) arc (none 0 (omega arith))), count_zero steps arc (λ k small. none (suc k) (omega arith)))

module _ (town : Town) (arc : ℕ) (steps kept : List Step) (start end : ℕ) (k : IsKept town arc steps start kept) (e : IsPieceEnd steps arc start end) where
  abbrev piece : List Step
  piece = take (end - start) (drop start steps)

  abbrev t : ℕ
  t = tail_of town arc

  inside : start < length steps
  inside = omega (arith, e.behind, e.within)

  whole : drop start steps ≡ piece ++ drop end steps
  whole =
      let rest : drop (end - start) (drop start steps) ≡ drop end steps = drop-drop (end - start) start steps ∙ ap (λ (n : ℕ). drop n steps) (omega (arith, e.behind)) in
      sym (take-append-drop (end - start) (drop start steps)) ∙ ap (λ (ys : List Step). piece ++ ys) rest

  before : take end steps ≡ take start steps ++ piece
  before = ap (λ (n : ℕ). take n steps) (omega (arith, e.behind)) ∙ take-add start (end - start) steps

  split : leads town t (piece ++ drop end steps) t ≡ true
  split = subst (λ (xs : List Step). leads town t xs t ≡ true) whole k.rest

  -- the piece ends where it began
  ends_at : end_of town t piece ≡ t
  ends_at =
      let after = (leads-split town t piece (drop end steps) t split).after in
      elim (cases_lt end (length steps)) [
        | inl more ↦ (
            let first = step_at steps end in
            let from = subst (λ (xs : List Step). leads town (end_of town t piece) xs t ≡ true) (drop_more steps end no_step more ∙ ap (λ (s : Step). s ∷ drop (end + 1) steps) (at_default end more)) after in
            sym (LeadsBy-from_leads town (end_of town t piece) first (drop (end + 1) steps) t from).begins ∙ ap (tail_of town) (e.next more)
            )
        | inr last ↦ eqb-true (end_of town t piece) t (subst (λ (xs : List Step). leads town (end_of town t piece) xs t ≡ true) (drop_all end steps last) after)
      ]
    where
      at_default : (n : ℕ) → n < length steps → get_or steps n no_step ≡ step_at steps n
      at_default n small = get_or_default steps n no_step (record { street = 0; back = false }) small

  piece_leads : leads town t piece t ≡ true
  piece_leads = subst (λ j. leads town t piece j ≡ true) ends_at (leads-split town t piece (drop end steps) t split).before

  rest_leads : leads town t (drop end steps) t ≡ true
  rest_leads = subst (λ j. leads town j (drop end steps) t ≡ true) ends_at (leads-split town t piece (drop end steps) t split).after

  -- it drives the arc once
  once : count_of piece arc ≤ 1
  once =
      let more = drop_more steps start (record { street = 0; back = false }) inside in
      let rest = take (end - start - 1) (drop (start + 1) steps) in
      let is : piece ≡ step_at steps start ∷ rest = ap (λ (n : ℕ). take n (drop start steps)) (let s : end - start ≡ suc (end - start - 1) = omega (arith, e.behind) in s) ∙ ap (take (suc (end - start - 1))) more in
      let none : count_of rest arc ≡ 0 = count_zero rest arc (λ i small drives.
      let below : i < end - start - 1 = omega (arith, length_at_most (end - start - 1) (drop (start + 1) steps)) in
      e.none (start + 1 + i) (omega arith) (omega arith)
      (ap arc_of (sym (get_or-take (end - start - 1) (drop (start + 1) steps) i (record { street = 0; back = false }) below ∙ get_or-drop (start + 1) steps i (record { street = 0; back = false }))) ∙ drives)) in
      omega (arith, ap (λ (xs : List Step). count_of xs arc) is, count_of-cons (step_at steps start) rest arc, none, bit_at_most (arc_of (step_at steps start) == arc))
    where
      bit_at_most : (b : Bool) → cond {A = ℕ} b 1 0 ≤ 1
      bit_at_most true = omega arith
      bit_at_most false = omega arith

      length_at_most : (n : ℕ) (xs : List Step) → length (take n xs) ≤ n
      length_at_most zero xs = omega arith
      length_at_most (suc n) [] = omega arith
      length_at_most (suc n) (x ∷ xs) = omega (arith, length_at_most n xs)

  serves_more : (demand : List ℕ) → serves kept demand ≡ true → serves (kept ++ piece) demand ≡ true
  serves_more demand s = serves-append kept piece demand ∙ or_left (serves kept demand) (serves piece demand) s

  serves_last : (demand : List ℕ) → serves piece demand ≡ true → serves (kept ++ piece) demand ≡ true
  serves_last demand s = serves-append kept piece demand ∙ or_right (serves kept demand) (serves piece demand) s

  -- a demand that is served up to the end of the piece
  served_before : (demand : List ℕ) → serves (take end steps) demand ≡ true → (serves (take start steps) demand || serves piece demand) ≡ true
  served_before demand s = sym (serves-append (take start steps) piece demand) ∙ ap (λ (xs : List Step). serves xs demand) (sym before) ∙ s

  pub kept_with : adds_service town piece kept ≡ true → IsKept town arc steps end (kept ++ piece)
  kept_with adds =
      let m = member_from_any (is_new piece kept) (demands town) adds in
      let new = and_parts (serves piece m.0) (not (serves kept m.0)) m.2 in
      record {
        within = e.within;
        next = e.next;
        rest = rest_leads;
        closed = leads-join town t kept piece t t k.closed piece_leads;
        few = omega (arith, count_of-append kept piece arc, once, k.few, count_by_more_than (serves kept) (serves (kept ++ piece)) (demands town) m.0 serves_more m.1 (not-true (serves kept m.0) new.1) (serves_last m.0 new.0));
        counts = λ b. omega (arith, count_of-append kept piece b, count_of-append (take start steps) piece b, ap (λ (xs : List Step). count_of xs b) before, k.counts b);
        cost = omega (arith, walk_cost-append town kept piece, walk_cost-append town (take start steps) piece, ap (walk_cost town) before, k.cost);
        served = λ demand there s. elim (or_cases (serves (take start steps) demand) (serves piece demand) (served_before demand s)) [
          | inl earlier ↦ serves_more demand (k.served demand there earlier)
          | inr last ↦ serves_last demand last
        ];
      }

  pub kept_without : adds_service town piece kept ≡ false → IsKept town arc steps end kept
  kept_without adds = record {
    within = e.within;
    next = e.next;
    rest = rest_leads;
    closed = k.closed;
    few = k.few;
    counts = λ b. omega (arith, count_of-append (take start steps) piece b, ap (λ (xs : List Step). count_of xs b) before, k.counts b);
    cost = omega (arith, walk_cost-append town (take start steps) piece, ap (walk_cost town) before, k.cost);
    served = λ demand there s. elim (or_cases (serves (take start steps) demand) (serves piece demand) (served_before demand s)) [
      | inl earlier ↦ k.served demand there earlier
      | inr last ↦ not_new demand there last
    ];
  }
    where
      not_new : (demand : List ℕ) → Contains (demands town) demand → serves piece demand ≡ true → serves kept demand ≡ true
      not_new demand there last = elim (cases_Bool (serves kept demand)) [
        | inl served ↦ served
        | inr missing ↦ absurd (true≢false (sym (any_from_member (is_new piece kept) (demands town) demand there (and_from (serves piece demand) (not (serves kept demand)) last (ap not missing))) ∙ adds))
      ]

-- before the first piece
pub kept_none : (town : Town) (arc : ℕ) (steps : List Step) → IsTurned town arc steps → IsKept town arc steps 0 []
kept_none town arc steps turned = record {
  within = omega arith;
  next = λ some. turned.first;
  rest = turned.closed;
  closed = eq-eqb (tail_of town arc) (tail_of town arc) refl;
  few = omega arith;
  counts = λ b. omega arith;
  cost = omega arith;
  served = λ demand there s. s;
}

-- a closed walk that begins with a use of an arc
pub turned_begins : (town : Town) (arc at : ℕ) (steps turned : List Step) → is_tour town steps ≡ true → IsFirstUse steps arc at → turned ≡ drop at steps ++ take at steps → IsTurned town arc turned
turned_begins town arc at steps turned tour first is =
    let d : Step = record { street = 0; back = false } in
    let more = drop_more steps at d first.there in
    let begins : turned ≡ step_at steps at ∷ (drop (at + 1) steps ++ take at steps) = is ∙ ap (λ (xs : List Step). xs ++ take at steps) more in
    let closed = closed-turned town (take at steps) (drop at steps) (subst (λ (xs : List Step). is_closed_walk town xs ≡ true) (sym (take-append-drop at steps)) (tour_closed town steps tour)) in
    let whole : is_closed_walk town (step_at steps at ∷ (drop (at + 1) steps ++ take at steps)) ≡ true = subst (λ (xs : List Step). is_closed_walk town xs ≡ true) (sym is ∙ begins) closed in
    record {
      some = omega (arith, ap length begins);
      first = ap (λ (xs : List Step). arc_of (step_at xs 0)) begins ∙ first.drives;
      closed = subst (λ (xs : List Step). leads town (tail_of town arc) xs (tail_of town arc) ≡ true) (sym begins) (subst (λ a. leads town (tail_of town a) (step_at steps at ∷ (drop (at + 1) steps ++ take at steps)) (tail_of town a) ≡ true) first.drives whole);
    }

-- what is kept at the end is a thinner tour
pub thinner_by : (town : Town) (arc at : ℕ) (steps turned kept : List Step) → is_tour town steps ≡ true → turned ≡ drop at steps ++ take at steps → IsKept town arc turned (length turned) kept → IsThinner town steps kept
thinner_by town arc at steps turned kept tour is k =
    let all : take (length turned) turned ≡ turned = take_all (length turned) turned (omega arith) in
    let parts = take-append-drop at steps in
    record {
      tour = tour_from town kept (closed-from_leads town (tail_of town arc) kept k.closed) (all_from_members (serves kept) (demands town) (λ demand there.
          k.served demand there (subst (λ (xs : List Step). serves xs demand ≡ true) (sym all) (turned_serves demand (member_passes (serves steps) (demands town) demand (tour_serves town steps tour) there)))));
      cost = omega (arith, k.cost, ap (walk_cost town) all, ap (walk_cost town) is, walk_cost-append town (drop at steps) (take at steps), walk_cost-append town (take at steps) (drop at steps), ap (walk_cost town) parts);
      counts = λ b. omega (
        arith,
        k.counts b,
        ap (λ (xs : List Step). count_of xs b) all,
        ap (λ (xs : List Step). count_of xs b) is,
        count_of-append (drop at steps) (take at steps) b,
        count_of-append (take at steps) (drop at steps) b,
        ap (λ (xs : List Step). count_of xs b) parts,
      );
    }
  where
    turned_serves : (demand : List ℕ) → serves steps demand ≡ true → serves turned demand ≡ true
    turned_serves demand s =
        let both = sym (serves-append (take at steps) (drop at steps) demand) ∙ ap (λ (xs : List Step). serves xs demand) (take-append-drop at steps) ∙ s in
        ap (λ (xs : List Step). serves xs demand) is ∙ serves-append (drop at steps) (take at steps) demand ∙ elim (or_cases (serves (take at steps) demand) (serves (drop at steps) demand) both) [
          | inl first ↦ or_right (serves (drop at steps) demand) (serves (take at steps) demand) first
          | inr second ↦ or_left (serves (drop at steps) demand) (serves (take at steps) demand) second
        ]

pub few_by : (town : Town) (arc : ℕ) (turned kept : List Step) → IsKept town arc turned (length turned) kept → count_of kept arc ≤ length (demands town)
few_by town arc turned kept k = omega (arith, k.few, count_by-le-length (serves kept) (demands town))

-- one thinner tour after another
pub thinner_still : (town : Town) (one two three : List Step) → IsThinner town one two → IsThinner town two three → IsThinner town one three
thinner_still town one two three a b = record { tour = b.tour; cost = omega (arith, a.cost, b.cost); counts = λ arc. omega (arith, a.counts arc, b.counts arc) }

pub thinner_same : (town : Town) (steps : List Step) → is_tour town steps ≡ true → IsThinner town steps steps
thinner_same town steps tour = record { tour = tour; cost = omega arith; counts = λ arc. omega arith }

-- one arc more is used seldom enough
pub few_more : (town : Town) (old new : List Step) (arc : ℕ) → IsThinner town old new → ((a : ℕ) → a < arc → count_of old a ≤ length (demands town)) → count_of new arc ≤ length (demands town) → (a : ℕ) → a < arc + 1 → count_of new a ≤ length (demands town)
few_more town old new arc thinner few last a small = elim (cases_eq a arc) [
  | inl same ↦ omega (arith, last, ap (λ (b : ℕ). count_of new b) same)
  | inr before ↦ omega (arith, few a (omega arith), thinner.counts a)
]

-- an arc past the streets is not used at all
pub few_past : (town : Town) (steps : List Step) (n : ℕ) → is_tour town steps ≡ true → 2 * length town.streets ≤ n → ((a : ℕ) → a < n → count_of steps a ≤ length (demands town)) → (a : ℕ) → count_of steps a ≤ length (demands town)
few_past town steps n tour past few a = elim (cases_lt 0 (count_of steps a)) [
  | inl used ↦ few a (omega (arith, legal_below town a (counted_is_legal town steps a (tour_legal town steps tour) used)))
  | inr none ↦ omega arith
]
