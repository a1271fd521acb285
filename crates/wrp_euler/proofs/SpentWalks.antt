-- Balanced counts that are one piece have a circuit. A walk goes on from junction to junction and takes one traversal away
-- at each step, until nothing is left at any junction that it meets.
use Rattle.std.proofs.Common.{◌≡◌, ℕ, zero, suc, ◌+◌, ◌-◌, ◌*◌, ◌<◌, ◌≤◌, true, cond, ◌==◌, ◌⊎◌, List, [], ◌∷◌, ◌++◌, reverse, length, get_or, sum, ap, refl, sym, ◌∙◌, subst, inl, inr, arith, eq-eqb, length-set}
use Rattle.std.specs.Prelude.{slice_index, slice_set}
use Rattle.std.specs.List.{sum_by, range_with_len}
use Rattle.std.proofs.lemmas.Bool.{cases_lt, cases_eq, ne_eqb, lt-ltb}
use Rattle.std.proofs.lemmas.List.{reverse-reverse}
use Rattle.std.proofs.lemmas.List.Sums.{sum_by-cons, sum_by-set, sum_by-le-sum_by}
use Rattle.wrp_town.specs.declared.street.Step.{Step}
use Rattle.wrp_town.specs.declared.town.Town.{Town}
use Rattle.wrp_town.specs.Arcs.{is_legal, tail_of, head_of, arc_of, step_along}
use Rattle.wrp_town.specs.Walks.{leads, count_of}
use Rattle.wrp_town.proofs.TownLaws.{legal_below, tail_of-below, head_of-below, arc_of-step_along}
use Rattle.wrp_town.proofs.WalkLaws.{count_of-append, count_of-cons, leads-join, leads-from_LeadsBy, leads-from_closed}
use Rattle.wrp_graph.specs.Stars.{out_of, into}
use Rattle.wrp_graph.specs.Balances.{leaving, entering, AreBalanced}
use Rattle.wrp_euler.specs.Circuits.{AreCounts, AreOnePiece, AreNone, HasCircuit, IsCircuit, is_used}
use Rattle.wrp_euler.specs.Trails.{IsOpen, IsPiece}
use Rattle.wrp_euler.proofs.StarSums.{sum_by_plus, sum_by_same, range_all}
use Rattle.wrp_euler.proofs.WalkCounts.{count_other, count_reverse, walked_sum, out_one, in_one, walk_balance}
use Rattle.wrp_euler.proofs.Places.{open_at}
use Rattle.wrp_euler.proofs.TrailLaws.{one_less}
use Rattle.wrp_euler.proofs.PieceLaws.{used_legal, spent_out, joined_spent, piece_circuit}

-- ---- what is left at a junction

-- all terms of a sum are 0, or one of them is not
some_term : (f : ℕ → ℕ) (xs : List ℕ) → (sum_by f xs ≡ 0) ⊎ ((k : ℕ) × (k < length xs) × (0 < f (get_or xs k 0)))
some_term f [] = inl refl
some_term f (x ∷ xs) =
    elim (cases_lt 0 (f x)) [
      | inl more ↦ inr (0, omega arith, more)
      | inr none ↦ elim (some_term f xs) [
        | inl spent ↦ inl (omega (arith, sum_by-cons f x xs))
        | inr (k, below, more) ↦ inr (suc k, omega arith, more)
      ]
    ]

open_or_spent : (town : Town) (left : List ℕ) (j : ℕ) → (leaving town left j ≡ 0) ⊎ ((arc : ℕ) × IsOpen town left j arc)
open_or_spent town left j =
    elim (some_term (slice_index left) (out_of town j)) [
      | inl spent ↦ inl spent
      | inr (k, below, more) ↦ inr (slice_index (out_of town j) k, open_at town j (out_of town j) left refl k below more)
    ]

-- no arc is traversed, or one is
none_or_used : (counts : List ℕ) → AreNone counts ⊎ ((arc : ℕ) × (0 < slice_index counts arc))
none_or_used [] = inl (λ arc. refl)
none_or_used (n ∷ counts) =
    elim (cases_lt 0 n) [
      | inl more ↦ inr (0, more)
      | inr none ↦ elim (none_or_used counts) [
        | inl others ↦ inl (all none others)
        | inr (arc, more) ↦ inr (suc arc, more)
      ]
    ]
  where
    all : n ≤ 0 → AreNone counts → AreNone (n ∷ counts)
    all none others zero = omega arith
    all none others (suc arc) = others arc

-- ---- spent walks

-- what is left leaves each junction as often as it enters it, where a walk between these junctions is still to come
abbrev AreLeftFor : Town → List ℕ → ℕ → ℕ → Type 0
AreLeftFor town left i j = (k : ℕ) → k < length town.junctions → leaving town left k + cond (j == k) 1 0 ≡ entering town left k + cond (i == k) 1 0

-- a walk at whose junctions nothing is left
record IsSpent (town : Town) (left : List ℕ) (i j : ℕ) : Type 0 where
  steps : List Step
  rest : List ℕ
  sized : length rest ≡ 2 * length town.streets
  goes : leads town i steps j ≡ true
  counted : (arc : ℕ) → slice_index rest arc + count_of steps arc ≡ slice_index left arc
  first_spent : leaving town rest i ≡ 0
  heads_spent : (arc : ℕ) → 0 < count_of steps arc → leaving town rest (head_of town arc) ≡ 0

-- where nothing is left at the first, it is the last
stays : (town : Town) (left : List ℕ) (i j : ℕ) → length left ≡ 2 * length town.streets → i < length town.junctions → AreLeftFor town left i j → leaving town left i ≡ 0 → IsSpent town left i j
stays town left i j sized there for_walk spent = record {
  steps = [];
  rest = left;
  sized = sized;
  goes = eq-eqb i j (last (cases_eq i j));
  counted = λ arc. omega arith;
  first_spent = spent;
  heads_spent = λ arc more. absurd (omega arith);
}
  where
    last : (i ≡ j) ⊎ (i ≡ j → ⊥) → i ≡ j
    last (inl same) = same
    last (inr differs) = absurd (omega (arith, for_walk i there, spent, ap {B = ℕ} (λ t. cond t 1 0) (ne_eqb j i (λ same. differs (sym same))), ap {B = ℕ} (λ t. cond t 1 0) (eq-eqb i i refl)))

-- one traversal of an arc less
abbrev one_taken : List ℕ → ℕ → List ℕ
one_taken left arc = slice_set left arc (slice_index left arc - 1)

-- over any arcs, what one takes away and what is left then are what there was
taken_sum : (left : List ℕ) (arc : ℕ) (arcs : List ℕ) → arc < length left → 0 < slice_index left arc
    → sum_by (slice_index (one_taken left arc)) arcs + sum_by (λ a. cond (arc == a) 1 0) arcs ≡ sum_by (slice_index left) arcs
taken_sum left arc arcs below more =
    sym (sum_by_plus (slice_index (one_taken left arc)) (λ a. cond (arc == a) 1 0) arcs)
    ∙ sum_by_same (λ a. slice_index (one_taken left arc) a + cond (arc == a) 1 0) (slice_index left) arcs (λ a. one_less left arc a below more)

-- one step more: from its head the walk is still to come
goes_on : (town : Town) (left : List ℕ) (i j arc : ℕ) → length left ≡ 2 * length town.streets → AreLeftFor town left i j → IsOpen town left i arc → AreLeftFor town (one_taken left arc) (head_of town arc) j
goes_on town left i j arc sized for_walk is k inside =
    let below : arc < length left = omega (arith, legal_below town arc is.legal) in
    omega (
      arith,
      for_walk k inside,
      taken_sum left arc (out_of town k) below is.remains,
      taken_sum left arc (into town k) below is.remains,
      out_one town arc k is.legal,
      in_one town arc k is.legal,
      ap {B = ℕ} (λ n. cond (n == k) 1 0) is.begins,
    )

-- behind a walk a closed one may begin anywhere
goes_round : (town : Town) (left rest : List ℕ) (steps : List Step) (i j at : ℕ) → AreLeftFor town left i j → leads town i steps j ≡ true
    → ((arc : ℕ) → slice_index rest arc + count_of steps arc ≡ slice_index left arc) → AreLeftFor town rest at at
goes_round town left rest steps i j at for_walk goes counted k inside =
    omega (
      arith,
      for_walk k inside,
      walked_sum rest left steps (out_of town k) counted,
      walked_sum rest left steps (into town k) counted,
      walk_balance town i steps j k goes,
    )

-- where less is left, nothing is where nothing was
spent_less : (town : Town) (rest left : List ℕ) (steps : List Step) (j : ℕ) → ((arc : ℕ) → slice_index rest arc + count_of steps arc ≡ slice_index left arc) → leaving town left j ≡ 0 → leaving town rest j ≡ 0
spent_less town rest left steps j counted spent = omega (arith, walked_sum rest left steps (out_of town j) counted)

-- a closed walk, then the step, then the walk that goes on
spent_join : (town : Town) (left : List ℕ) (i j arc : ℕ) → length left ≡ 2 * length town.streets → (is : IsOpen town left i arc)
    → (on : IsSpent town (one_taken left arc) (head_of town arc) j) → IsSpent town on.rest i i → IsSpent town left i j
spent_join town left i j arc sized is on round =
    let below : arc < length left = omega (arith, legal_below town arc is.legal) in
    let step = step_along arc in
    let same : arc_of step ≡ arc = arc_of-step_along arc in
    let steps = round.steps ++ step ∷ on.steps in
    let second : leads town i (step ∷ on.steps) j ≡ true = leads-from_LeadsBy town i step on.steps j (record {
      legal = ap (is_legal town) same ∙ is.legal;
      begins = ap (tail_of town) same ∙ is.begins;
      goes_on = subst (λ n. leads town n on.steps j ≡ true) (ap (head_of town) (sym same)) on.goes;
    }) in
    let counts : (a : ℕ) → count_of steps a ≡ count_of round.steps a + (cond (arc == a) 1 0 + count_of on.steps a)
    = λ a. count_of-append round.steps (step ∷ on.steps) a ∙ ap (λ n. count_of round.steps a + n) (count_of-cons step on.steps a ∙ ap (λ n. cond (n == a) 1 0 + count_of on.steps a) same) in
    record {
      steps = steps;
      rest = round.rest;
      sized = round.sized;
      goes = leads-join town i round.steps (step ∷ on.steps) i j round.goes second;
      counted = λ a. omega (arith, counts a, round.counted a, on.counted a, one_less left arc a below is.remains);
      first_spent = round.first_spent;
      heads_spent = λ a used. heads a used (cases_lt 0 (count_of round.steps a)) (cases_eq arc a);
    }
  where
    heads : (a : ℕ) → 0 < count_of (round.steps ++ step_along arc ∷ on.steps) a → (0 < count_of round.steps a) ⊎ (count_of round.steps a ≤ 0) → (arc ≡ a) ⊎ (arc ≡ a → ⊥) → leaving town round.rest (head_of town a) ≡ 0
    heads a used (inl there) same = round.heads_spent a there
    heads a used (inr not) (inl same) = subst (λ n. leaving town round.rest (head_of town n) ≡ 0) same
        (spent_less town round.rest on.rest round.steps (head_of town arc) round.counted on.first_spent)
    heads a used (inr not) (inr differs) =
        spent_less town round.rest on.rest round.steps (head_of town a) round.counted (on.heads_spent a (omega (
          arith,
          count_of-append round.steps (step_along arc ∷ on.steps) a,
          count_other (step_along arc) on.steps a (λ same. differs (sym (arc_of-step_along arc) ∙ same)),
        )))

-- ---- there is one

sum_taken : (left : List ℕ) (arc : ℕ) → arc < length left → 0 < slice_index left arc → sum (one_taken left arc) < sum left
sum_taken left arc below more = omega (arith, sum_by-set (λ x. x) left arc (slice_index left arc - 1) 0 below)

sum_walked : (rest left : List ℕ) (steps : List Step) → length rest ≡ length left → ((arc : ℕ) → slice_index rest arc + count_of steps arc ≡ slice_index left arc) → sum rest ≤ sum left
sum_walked rest left steps same counted =
    omega (
      arith,
      range_all rest,
      range_all left,
      ap (λ n. sum_by (slice_index rest) (range_with_len 0 n)) same,
      sum_by-le-sum_by (slice_index rest) (slice_index left) (range_with_len 0 (length left)) (λ a. omega (arith, counted a)),
    )

spent_walk : (n : ℕ) (town : Town) (left : List ℕ) (i j : ℕ) → sum left < n → length left ≡ 2 * length town.streets → i < length town.junctions → AreLeftFor town left i j → IsSpent town left i j
spent_walk zero town left i j few sized there for_walk = absurd (omega arith)
spent_walk (suc n) town left i j few sized there for_walk =
    elim (open_or_spent town left i) [
      | inl spent ↦ stays town left i j sized there for_walk spent
      | inr (arc, is) ↦
          let below : arc < length left = omega (arith, legal_below town arc is.legal) in
          let long : length (one_taken left arc) ≡ 2 * length town.streets = length-set left arc (slice_index left arc - 1) ∙ sized in
          let less = sum_taken left arc below is.remains in
          let ahead = goes_on town left i j arc sized for_walk is in
          let on = spent_walk n town (one_taken left arc) (head_of town arc) j (omega arith) long (head_of-below town arc (legal_below town arc is.legal)) ahead in
          let fewer = sum_walked on.rest (one_taken left arc) on.steps (on.sized ∙ sym long) on.counted in
          let around = goes_round town (one_taken left arc) on.rest on.steps (head_of town arc) j i ahead on.goes on.counted in
          spent_join town left i j arc sized is on (spent_walk n town on.rest i i (omega arith) on.sized there around)
    ]

-- ---- a piece, and a circuit

piece_there : (town : Town) (counts : List ℕ) (base : ℕ) → length counts ≡ 2 * length town.streets → AreBalanced town counts → base < length town.junctions
    → (left : List ℕ) × (done : List Step) × IsPiece town counts base left done
piece_there town counts base sized balanced there =
    let walk = spent_walk (suc (sum counts)) town counts base base (omega arith) sized there (λ k inside. ap (λ n. n + cond (base == k) 1 0) (balanced k inside)) in (
      walk.rest,
      reverse walk.steps,
      record {
        sized = walk.sized;
        closed = subst (λ xs. leads town base xs base ≡ true) (sym (reverse-reverse walk.steps)) walk.goes;
        counted = λ arc. ap (λ n. slice_index walk.rest arc + n) (count_reverse walk.steps arc) ∙ walk.counted arc;
        base_spent = walk.first_spent;
        heads_spent = λ arc more. walk.heads_spent arc (omega (arith, count_reverse walk.steps arc));
      },
    )

-- the piece of an arc that is traversed is all
circuit_of_piece : (town : Town) (counts left : List ℕ) (done : List Step) (first : ℕ) → AreCounts town counts → AreBalanced town counts → AreOnePiece town counts → 0 < slice_index counts first
    → IsPiece town counts (tail_of town first) left done → HasCircuit town counts
circuit_of_piece town counts left done first are balanced one more piece =
    (reverse done, piece_circuit town counts (tail_of town first) left done piece (none (none_or_used left)))
  where
    spent : (other : ℕ) → 0 < slice_index left other → ⊥
    spent other remains =
        let used : is_used counts other ≡ true = lt-ltb 0 (slice_index counts other) (omega (arith, piece.counted other)) in
        let joined = one first other (lt-ltb 0 (slice_index counts first) more) used in
        omega (
          arith,
          spent_out town left (tail_of town other) other (joined_spent town counts (tail_of town first) left done piece are balanced (tail_of town other) joined)
              (used_legal town counts are other used) refl,
        )

    none : AreNone left ⊎ ((arc : ℕ) × (0 < slice_index left arc)) → AreNone left
    none (inl all) = all
    none (inr (other, remains)) = absurd (spent other remains)

pub circuit_there : (town : Town) (counts : List ℕ) → AreCounts town counts → AreBalanced town counts → AreOnePiece town counts → HasCircuit town counts
circuit_there town counts are balanced one =
    elim (none_or_used counts) [
      | inl none ↦ ([], record { closed = refl; counted = λ arc. sym (none arc) })
      | inr (first, more) ↦
          let legal = used_legal town counts are first (lt-ltb 0 (slice_index counts first) more) in
          let piece = piece_there town counts (tail_of town first) are.each balanced (tail_of-below town first (legal_below town first legal)) in
          circuit_of_piece town counts piece.0 piece.1 first are balanced one more piece.2
    ]

-- ---- and the other direction

pub circuit_balanced : (town : Town) (counts : List ℕ) (steps : List Step) → IsCircuit town counts steps → AreBalanced town counts
circuit_balanced town counts steps circuit k inside =
    let from = leads-from_closed town steps circuit.closed in
    omega (
      arith,
      walk_balance town from.0 steps from.0 k from.1,
      sum_by_same (count_of steps) (slice_index counts) (out_of town k) circuit.counted,
      sum_by_same (count_of steps) (slice_index counts) (into town k) circuit.counted,
    )
