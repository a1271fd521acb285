-- What a trail keeps at each turn, and what it has when it ends.
use Rattle.std.proofs.Common.{◌≡◌, ℕ, ◌+◌, ◌-◌, ◌*◌, ◌<◌, Bool, true, false, cond, ◌==◌, List, [], ◌∷◌, ◌++◌, reverse, length, sum, ap, refl, sym, ◌∙◌, subst, inl, inr, arith, eq-eqb, length-set, length-append, get_or-set_same, get_or-set_other}
use Rattle.std.specs.Prelude.{slice_index, slice_set}
use Rattle.std.specs.List.{sum_by}
use Rattle.std.proofs.lemmas.Bool.{and_parts, eqb-true, cases_eq, ne_eqb}
use Rattle.std.proofs.lemmas.List.Sums.{sum_by-le-sum_by, sum_by-set}
use Rattle.wrp_town.specs.declared.street.Step.{Step}
use Rattle.wrp_town.specs.declared.town.Town.{Town}
use Rattle.wrp_town.specs.Arcs.{is_legal, tail_of, head_of, arc_of}
use Rattle.wrp_town.specs.Walks.{leads, count_of}
use Rattle.wrp_town.proofs.TownLaws.{legal_below, tail_of-below, head_of-below}
use Rattle.wrp_town.proofs.WalkLaws.{leads-push, leads-push_is, leads-from_LeadsBy}
use Rattle.wrp_graph.specs.Stars.{out_of, into}
use Rattle.wrp_euler.specs.declared.trail.Trail.{Trail}
use Rattle.wrp_graph.specs.Balances.{AreBalanced, leaving, entering}
use Rattle.wrp_euler.specs.Trails.{IsTrail, IsStart, GoesOn, GoesBack, IsOver, Turns, IsPiece}
use Rattle.wrp_euler.proofs.StarSums.{sum_by_plus, sum_by_same}
use Rattle.wrp_euler.proofs.WalkCounts.{count_push, count_reverse, reverse_push, walk_balance}

-- ---- the last step of a path

pub record EndsBy (town : Town) (i : ℕ) (steps : List Step) (step : Step) (j : ℕ) : Type 0 where
  pub before : leads town i steps (tail_of town (arc_of step)) ≡ true
  pub legal : is_legal town (arc_of step) ≡ true
  pub ends : head_of town (arc_of step) ≡ j

pub ends_by : (town : Town) (i : ℕ) (path : List Step) (j : ℕ) (steps : List Step) (step : Step) → leads town i path j ≡ true → path ≡ steps ++ step ∷ [] → EndsBy town i steps step j
ends_by town i path j steps step lead is =
    let parts = and_parts _ _ (sym (leads-push_is town i steps step j) ∙ subst (λ xs. leads town i xs j ≡ true) is lead) in
    let last = and_parts _ _ parts.1 in
    record { before = parts.0; legal = last.0; ends = eqb-true _ _ last.1 }

pub last_legal : (town : Town) (i : ℕ) (path : List Step) (j : ℕ) (steps : List Step) (step : Step) → leads town i path j ≡ true → path ≡ steps ++ step ∷ [] → is_legal town (arc_of step) ≡ true
last_legal town i path j steps step lead is = (ends_by town i path j steps step lead is).legal

-- ---- what a trail keeps

-- what is left, what is on the path and what is done are the counts; what is done leads back to the base; and no arc is
-- left where a step that is done ends
pub record IsRun (town : Town) (counts : List ℕ) (base : ℕ) (trail : Trail) : Type 0 where
  pub kept : IsTrail town trail
  pub begins : trail.base ≡ base
  pub counted : (arc : ℕ) → slice_index trail.left.items arc + count_of trail.path.items arc + count_of trail.done.items arc ≡ slice_index counts arc
  pub met : ℕ
  pub returns : leads town met (reverse trail.done.items) base ≡ true
  pub spent : (arc : ℕ) → 0 < count_of trail.done.items arc → leaving town trail.left.items (head_of town arc) ≡ 0

pub run_begins : (town : Town) (counts : List ℕ) (base : ℕ) (trail : Trail) → IsStart town counts base trail → IsRun town counts base trail
run_begins town counts base trail is = record {
  kept = is.kept;
  begins = is.begins;
  counted = λ arc. omega (arith, ap (λ xs. slice_index xs arc) is.left, ap (λ xs. count_of xs arc) is.path, ap (λ xs. count_of xs arc) is.done);
  met = base;
  returns = subst (λ xs. leads town base (reverse xs) base ≡ true) (sym is.done) (eq-eqb base base refl);
  spent = λ arc more. absurd (omega (arith, ap (λ xs. count_of xs arc) is.done));
}

-- ---- a turn on

pub one_less : (left : List ℕ) (b arc : ℕ) → b < length left → 0 < slice_index left b
    → slice_index (slice_set left b (slice_index left b - 1)) arc + cond (b == arc) 1 0 ≡ slice_index left arc
one_less left b arc below more =
    elim (cases_eq b arc) [
      | inl same ↦ omega (
        arith,
        ap {B = ℕ} (λ t. cond t 1 0) (eq-eqb b arc same),
        ap (slice_index (slice_set left b (slice_index left b - 1))) same,
        ap (slice_index left) same,
        get_or-set_same left b (slice_index left b - 1) 0 below,
      )
      | inr differs ↦ omega (
        arith,
        ap {B = ℕ} (λ t. cond t 1 0) (ne_eqb b arc differs),
        get_or-set_other left b arc (slice_index left b - 1) 0 (λ same. differs (sym same)),
      )
    ]

pub run_on : (town : Town) (counts : List ℕ) (base : ℕ) (old new : Trail) → IsRun town counts base old → GoesOn town old new → IsRun town counts base new
run_on town counts base old new run on =
    let b = arc_of on.step in
    let below = legal_below town b on.open_arc.legal in
    let less : (arc : ℕ) → slice_index new.left.items arc + cond (b == arc) 1 0 ≡ slice_index old.left.items arc
    = λ arc. ap (λ xs. slice_index xs arc + cond (b == arc) 1 0) on.left ∙ one_less old.left.items b arc (omega (arith, run.kept.sized)) on.open_arc.remains in
    record {
      kept = record {
        there = omega (arith, on.at, head_of-below town b below);
        sized = omega (arith, run.kept.sized, ap length on.left, length-set old.left.items b (slice_index old.left.items b - 1));
        places = on.places;
        goes = go on.path on.at on.base (leads-push town old.base old.path.items on.step old.at run.kept.goes on.open_arc.legal on.open_arc.begins);
      };
      begins = on.base ∙ run.begins;
      counted = λ arc. omega (arith, run.counted arc, less arc, ap (λ xs. count_of xs arc) on.path, count_push old.path.items on.step arc, ap (λ xs. count_of xs arc) on.done);
      met = run.met;
      returns = subst (λ xs. leads town run.met (reverse xs) base ≡ true) (sym on.done) run.returns;
      spent = λ arc more. omega (
        arith,
        run.spent arc (omega (arith, ap (λ xs. count_of xs arc) on.done)),
        sum_by-le-sum_by (slice_index new.left.items) (slice_index old.left.items) (out_of town (head_of town arc)) (λ a. omega (arith, less a)),
      );
    }
  where
    go : {path path' : List Step} {at at' base base' : ℕ} → path' ≡ path → at' ≡ at → base' ≡ base → leads town base path at ≡ true → leads town base' path' at' ≡ true
    go p a b lead = cc

-- ---- a turn back

sum_of_parts : (counts left : List ℕ) (path done : List Step) (arcs : List ℕ)
    → ((arc : ℕ) → slice_index left arc + count_of path arc + count_of done arc ≡ slice_index counts arc)
    → sum_by (slice_index left) arcs + sum_by (count_of path) arcs + sum_by (count_of done) arcs ≡ sum_by (slice_index counts) arcs
sum_of_parts counts left path done arcs counted =
    omega (
      arith,
      sum_by_plus (slice_index left) (count_of path) arcs,
      sum_by_plus (λ arc. slice_index left arc + count_of path arc) (count_of done) arcs,
      sum_by_same (λ arc. slice_index left arc + count_of path arc + count_of done arc) (slice_index counts) arcs counted,
    )

-- what is left leaves each junction as often as it enters it, but for the current junction and the one where what is done begins
pub left_balance : (town : Town) (counts : List ℕ) (base : ℕ) (trail : Trail) (run : IsRun town counts base trail) → AreBalanced town counts → (k : ℕ) → k < length town.junctions
    → leaving town trail.left.items k + cond (run.met == k) 1 0 ≡ entering town trail.left.items k + cond (trail.at == k) 1 0
left_balance town counts base trail run balanced k below =
    omega (
      arith,
      balanced k below,
      sum_of_parts counts trail.left.items trail.path.items trail.done.items (out_of town k) run.counted,
      sum_of_parts counts trail.left.items trail.path.items trail.done.items (into town k) run.counted,
      walk_balance town trail.base trail.path.items trail.at k run.kept.goes,
      walk_balance town run.met (reverse trail.done.items) base k run.returns,
      ap {B = ℕ} (λ n. cond (n == k) 1 0) run.begins,
      sum_by_same (count_of (reverse trail.done.items)) (count_of trail.done.items) (out_of town k) (count_reverse trail.done.items),
      sum_by_same (count_of (reverse trail.done.items)) (count_of trail.done.items) (into town k) (count_reverse trail.done.items),
    )

-- so where no arc is left at the current junction, what is done begins there
pub met_here : (town : Town) (counts : List ℕ) (base : ℕ) (trail : Trail) (run : IsRun town counts base trail) → AreBalanced town counts
    → leaving town trail.left.items trail.at ≡ 0 → run.met ≡ trail.at
met_here town counts base trail run balanced stuck =
    elim (cases_eq run.met trail.at) [
      | inl same ↦ same
      | inr differs ↦ absurd (omega (
        arith,
        stuck,
        left_balance town counts base trail run balanced trail.at run.kept.there,
        ap {B = ℕ} (λ t. cond t 1 0) (ne_eqb run.met trail.at differs),
        ap {B = ℕ} (λ t. cond t 1 0) (eq-eqb trail.at trail.at refl),
      ))
    ]

pub run_back : (town : Town) (counts : List ℕ) (base : ℕ) (old new : Trail) → IsRun town counts base old → AreBalanced town counts → GoesBack town old new → IsRun town counts base new
run_back town counts base old new run balanced back =
    let b = arc_of back.step in
    let ends = ends_by town old.base old.path.items old.at new.path.items back.step run.kept.goes back.path in
    let here = met_here town counts base old run balanced back.stuck in
    record {
      kept = record {
        there = omega (arith, back.at, tail_of-below town b (legal_below town b ends.legal));
        sized = ap length back.left ∙ run.kept.sized;
        places = back.places;
        goes = go new.path.items back.at back.base ends.before;
      };
      begins = back.base ∙ run.begins;
      counted = λ arc. omega (
        arith,
        run.counted arc,
        ap (λ xs. slice_index xs arc) back.left,
        ap (λ xs. count_of xs arc) back.path,
        count_push new.path.items back.step arc,
        ap (λ xs. count_of xs arc) back.done,
        count_push old.done.items back.step arc,
      );
      met = tail_of town b;
      returns = subst (λ xs. leads town (tail_of town b) xs base ≡ true) (sym (ap reverse back.done ∙ reverse_push old.done.items back.step))
          (leads-from_LeadsBy town (tail_of town b) back.step (reverse old.done.items) base (record {
            legal = ends.legal;
            begins = refl;
            goes_on = subst (λ n. leads town n (reverse old.done.items) base ≡ true) (here ∙ sym ends.ends) run.returns;
          }));
      spent = λ arc more. subst (λ xs. leaving town xs (head_of town arc) ≡ 0) (sym back.left)
          (elim (cases_eq b arc) [
            | inl same ↦ subst (λ n. leaving town old.left.items n ≡ 0) (sym ends.ends ∙ ap (head_of town) same) back.stuck
            | inr differs ↦ run.spent arc (omega (arith, ap (λ xs. count_of xs arc) back.done, count_push old.done.items back.step arc, ap {B = ℕ} (λ t. cond t 1 0) (ne_eqb b arc differs)))
          ]);
    }
  where
    go : (path : List Step) {at at' base base' : ℕ} → at' ≡ at → base' ≡ base → leads town base path at ≡ true → leads town base' path at' ≡ true
    go path a b lead = cc

-- ---- the end

pub run_ends : (town : Town) (counts : List ℕ) (base : ℕ) (old new : Trail) → IsRun town counts base old → AreBalanced town counts → IsOver town old new → IsPiece town counts base new.left.items new.done.items
run_ends town counts base old new run balanced over =
    let at_base : old.base ≡ old.at = eqb-true old.base old.at (subst (λ xs. leads town old.base xs old.at ≡ true) over.path run.kept.goes) in
    let here = met_here town counts base old run balanced over.stuck in
    record {
      sized = ap length over.left ∙ run.kept.sized;
      closed = subst (λ xs. leads town base (reverse xs) base ≡ true) (sym over.done)
          (subst (λ n. leads town n (reverse old.done.items) base ≡ true) (here ∙ sym at_base ∙ run.begins) run.returns);
      counted = λ arc. omega (arith, run.counted arc, ap (λ xs. slice_index xs arc) over.left, ap (λ xs. count_of xs arc) over.path, ap (λ xs. count_of xs arc) over.done);
      base_spent = subst (λ xs. leaving town xs base ≡ 0) (sym over.left) (subst (λ n. leaving town old.left.items n ≡ 0) (sym at_base ∙ run.begins) over.stuck);
      heads_spent = λ arc more. subst (λ xs. leaving town xs (head_of town arc) ≡ 0) (sym over.left) (run.spent arc (omega (arith, ap (λ xs. count_of xs arc) over.done)));
    }

-- ---- a turn, by its answer

pub run_goes : (town : Town) (counts : List ℕ) (base : ℕ) (old new : Trail) (went : Bool) → IsRun town counts base old → AreBalanced town counts → Turns town old new went → went ≡ true → IsRun town counts base new
run_goes town counts base old new went run balanced turns is =
    elim (subst (Turns town old new) is turns) [
      | inl on ↦ run_on town counts base old new run on
      | inr back ↦ run_back town counts base old new run balanced back
    ]

pub run_stops : (town : Town) (counts : List ℕ) (base : ℕ) (old new : Trail) (went : Bool) → IsRun town counts base old → AreBalanced town counts → Turns town old new went → went ≡ false → IsPiece town counts base new.left.items new.done.items
run_stops town counts base old new went run balanced turns is = run_ends town counts base old new run balanced (subst (Turns town old new) is turns)

-- ---- the measure

-- the steps that are still to be taken and taken back
abbrev pub work : Trail → ℕ
work trail = 2 * sum trail.left.items + length trail.path.items

pub work_on : (town : Town) (old new : Trail) → IsTrail town old → GoesOn town old new → work new < work old
work_on town old new is on =
    let b = arc_of on.step in
    omega (
      arith,
      is.sized,
      legal_below town b on.open_arc.legal,
      on.open_arc.remains,
      ap sum on.left,
      sum_by-set (λ x. x) old.left.items b (slice_index old.left.items b - 1) 0 (omega (arith, is.sized, legal_below town b on.open_arc.legal)),
      ap length on.path,
      length-append old.path.items (on.step ∷ []),
    )

pub work_back : (town : Town) (old new : Trail) → GoesBack town old new → work new < work old
work_back town old new back = omega (arith, ap sum back.left, ap length back.path, length-append new.path.items (back.step ∷ []))

pub work_goes : (town : Town) (old new : Trail) (went : Bool) → IsTrail town old → Turns town old new went → went ≡ true → work new < work old
work_goes town old new went is turns goes =
    elim (subst (Turns town old new) goes turns) [ inl on ↦ work_on town old new is on | inr back ↦ work_back town old new back ]
