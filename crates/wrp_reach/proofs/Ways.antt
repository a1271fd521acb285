-- Ways between junctions, the arcs that leave a junction, and the marks of a search.
use Rattle.std.proofs.Common.{◌≡◌, ℕ, ◌*◌, ◌<◌, ◌≤◌, true, List, [], ◌∷◌, ◌++◌, length, get_or, refl, ap, ◌∙◌, subst, arith, eq-eqb, ◌==◌, Contains}
use Rattle.std.specs.List.{All}
use Rattle.std.proofs.lemmas.Bool.{eqb-true}
use Rattle.std.proofs.lemmas.List.{get_or_default}
use Rattle.std.proofs.lemmas.List.Elements.{All-filter, filter_passes, All-weaker}
use Rattle.std.proofs.lemmas.List.Sums.{length-filter, count_by-le-length}
use Rattle.std.proofs.lemmas.List.FromFn.{length-range_with_len}
use Rattle.wrp_sums.proofs.FirstNumbers.{inside_filter}
use Rattle.wrp_town.specs.declared.town.Town.{Town}
use Rattle.wrp_town.specs.Arcs.{arcs, legal_arcs, is_legal, tail_of, head_of, arc_of, step_along}
use Rattle.wrp_town.specs.Walks.{leads}
use Rattle.wrp_town.proofs.TownLaws.{arc_of-step_along}
use Rattle.wrp_town.proofs.WalkLaws.{leads-join, leads-push}
use Rattle.wrp_graph.specs.Stars.{out_of}
use Rattle.wrp_rules.proofs.LegalArcs.{inside_legal}
use Rattle.wrp_reach.specs.declared.search.Mark.{Mark}
use Rattle.wrp_reach.specs.declared.search.Mark.TheVariants.{New, OnPath, Done}
use Rattle.wrp_reach.specs.Reaching.{Reaches}

-- ---- ways

pub reach_none : (town : Town) (i j : ℕ) → i ≡ j → Reaches town i j
reach_none town i j same = ([], eq-eqb i j same)

pub reach_join : (town : Town) (i j k : ℕ) → Reaches town i j → Reaches town j k → Reaches town i k
reach_join town i j k first second = (first.0 ++ second.0, leads-join town i first.0 second.0 j k first.1 second.1)

pub reach_arc_step : (town : Town) (arc : ℕ) → is_legal town arc ≡ true → leads town (tail_of town arc) (step_along arc ∷ []) (head_of town arc) ≡ true
reach_arc_step town arc legal =
    let step = step_along arc in
    let same = arc_of-step_along arc in
    let tail = tail_of town (arc_of step) in
    subst (λ a. leads town (tail_of town a) (step ∷ []) (head_of town a) ≡ true) same (leads-push town tail [] step tail (eq-eqb tail tail refl) (ap (is_legal town) same ∙ legal) refl)

pub reach_arc : (town : Town) (arc : ℕ) → is_legal town arc ≡ true → Reaches town (tail_of town arc) (head_of town arc)
reach_arc town arc legal = (step_along arc ∷ [], reach_arc_step town arc legal)

-- ---- the arcs that leave a junction

pub out_of-legal : (town : Town) (j : ℕ) → All (λ arc. is_legal town arc ≡ true) (out_of town j)
out_of-legal town j = All-filter (λ arc. tail_of town arc == j) (λ arc. is_legal town arc ≡ true) (legal_arcs town) (filter_passes (is_legal town) (arcs town))

pub out_of-tail : (town : Town) (j : ℕ) → All (λ arc. tail_of town arc ≡ j) (out_of town j)
out_of-tail town j =
    All-weaker (λ arc. (tail_of town arc == j) ≡ true) (λ arc. tail_of town arc ≡ j) (λ arc is. eqb-true (tail_of town arc) j is) (out_of town j) (filter_passes (λ arc. tail_of town arc == j) (legal_arcs town))

pub out_of-has : (town : Town) (j arc : ℕ) → is_legal town arc ≡ true → tail_of town arc ≡ j → Contains (out_of town j) arc
out_of-has town j arc legal leaves = inside_filter (λ a. tail_of town a == j) (legal_arcs town) arc (inside_legal town arc legal) (eq-eqb (tail_of town arc) j leaves)

pub length-out_of : (town : Town) (j : ℕ) → length (out_of town j) ≤ 2 * length town.streets
length-out_of town j =
    omega (
      arith,
      length-filter (λ arc. tail_of town arc == j) (legal_arcs town),
      count_by-le-length (λ arc. tail_of town arc == j) (legal_arcs town),
      length-filter (is_legal town) (arcs town),
      count_by-le-length (is_legal town) (arcs town),
      length-range_with_len 0 (2 * length town.streets),
    )

-- the place of an item of a list
pub place_of : (xs : List ℕ) (x : ℕ) → Contains xs x → (k : ℕ) × (k < length xs) × (get_or xs k 0 ≡ x)
place_of xs x (k, small, is) = (k, small, get_or_default xs k 0 x small ∙ is)

-- ---- marks

pub new_or_path : (p : ℕ) (m : Mark) → m ≡ New → m ≡ OnPath p → ⊥
new_or_path p m first second = absurd (cc)

pub new_or_done : (l : ℕ) (m : Mark) → m ≡ New → m ≡ Done l → ⊥
new_or_done l m first second = absurd (cc)

pub path_or_done : (p l : ℕ) (m : Mark) → m ≡ OnPath p → m ≡ Done l → ⊥
path_or_done p l m first second = absurd (cc)

pub same_place : (p q : ℕ) (m : Mark) → m ≡ OnPath p → m ≡ OnPath q → p ≡ q
same_place p q m first second = cc

pub same_label : (p q : ℕ) (m : Mark) → m ≡ Done p → m ≡ Done q → p ≡ q
same_label p q m first second = cc

pub by_mark : (P : Type 0) (m : Mark) → (m ≡ New → P) → ((p : ℕ) → m ≡ OnPath p → P) → ((l : ℕ) → m ≡ Done l → P) → P
by_mark P New fresh path done = fresh refl
by_mark P (OnPath p) fresh path done = path p refl
by_mark P (Done l) fresh path done = done l refl
