-- What the trail of a whole piece proves: the circuit, or that another piece is there; and what every circuit proves.
use Rattle.std.proofs.Common.{◌≡◌, ℕ, ◌+◌, ◌*◌, ◌<◌, true, ◌==◌, List, reverse, length, refl, sym, ◌∙◌, subst, arith, eq-eqb}
use Rattle.std.specs.Prelude.{slice_index}
use Rattle.std.specs.List.{sum_by}
use Rattle.std.proofs.lemmas.Bool.{ltb-true, ltb-false, lt-ltb, true_from_ne_false}
use Rattle.wrp_town.specs.declared.street.Step.{Step}
use Rattle.wrp_town.specs.declared.town.Town.{Town}
use Rattle.wrp_town.specs.Arcs.{is_legal, tail_of, head_of}
use Rattle.wrp_town.specs.Walks.{count_of}
use Rattle.wrp_town.proofs.TownLaws.{legal_below, head_of-below}
use Rattle.wrp_town.proofs.WalkLaws.{closed-from_leads, leads-from_closed}
use Rattle.wrp_graph.specs.Stars.{out_of, into}
use Rattle.wrp_graph.specs.Pieces.{Joined}
use Rattle.wrp_graph.specs.Balances.{AreBalanced, leaving, entering}
use Rattle.wrp_euler.specs.Circuits.{AreCounts, AreOnePiece, AreNone, AreApart, IsCircuit, IsLeastUsed, is_used}
use Rattle.wrp_euler.specs.Trails.{IsPiece}
use Rattle.wrp_euler.proofs.StarSums.{star_term}
use Rattle.wrp_euler.proofs.WalkCounts.{count_reverse, walked_sum, walk_balance, walk_tails, walk_joins}
use Rattle.wrp_graph.proofs.Joins.{joined_trans, joined_turned, joined_keeps}

-- ---- counts

pub used_more : (counts : List ℕ) (arc : ℕ) → is_used counts arc ≡ true → 0 < slice_index counts arc
used_more counts arc is = ltb-true 0 (slice_index counts arc) is

pub used_legal : (town : Town) (counts : List ℕ) → AreCounts town counts → (arc : ℕ) → is_used counts arc ≡ true → is_legal town arc ≡ true
used_legal town counts are arc is = true_from_ne_false (is_legal town arc) (λ not. omega (arith, are.legal arc not, used_more counts arc is))

-- nothing is left of an arc that leaves, or enters, a junction where none that does is left
pub spent_out : (town : Town) (left : List ℕ) (j arc : ℕ) → leaving town left j ≡ 0 → is_legal town arc ≡ true → tail_of town arc ≡ j → slice_index left arc ≡ 0
spent_out town left j arc spent legal begins =
    omega (arith, spent, star_term (is_legal town) (λ a. tail_of town a == j) (2 * length town.streets) (slice_index left) arc (legal_below town arc legal) legal (eq-eqb (tail_of town arc) j begins))

spent_in : (town : Town) (left : List ℕ) (j arc : ℕ) → entering town left j ≡ 0 → is_legal town arc ≡ true → head_of town arc ≡ j → slice_index left arc ≡ 0
spent_in town left j arc spent legal ends =
    omega (arith, spent, star_term (is_legal town) (λ a. head_of town a == j) (2 * length town.streets) (slice_index left) arc (legal_below town arc legal) legal (eq-eqb (head_of town arc) j ends))

-- ---- a piece

module _ (town : Town) (counts : List ℕ) (base : ℕ) (left : List ℕ) (done : List Step) (piece : IsPiece town counts base left done) where
  -- where nothing is left, its steps are a circuit
  pub piece_circuit : AreNone left → IsCircuit town counts (reverse done)
  piece_circuit none = record {
    closed = closed-from_leads town base (reverse done) piece.closed;
    counted = λ arc. omega (arith, count_reverse done arc, piece.counted arc, none arc);
  }

  -- what is left is balanced
  left_balanced : AreBalanced town counts → (j : ℕ) → j < length town.junctions → leaving town left j ≡ entering town left j
  left_balanced balanced j below =
      omega (arith, balanced j below, parts (out_of town j), parts (into town j), walk_balance town base (reverse done) base j piece.closed)
    where
      parts : (arcs : List ℕ) → sum_by (slice_index left) arcs + sum_by (count_of (reverse done)) arcs ≡ sum_by (slice_index counts) arcs
      parts arcs = walked_sum left counts (reverse done) arcs (λ arc. omega (arith, count_reverse done arc, piece.counted arc))

  -- no arc is left at a junction that is joined with the base
  pub joined_spent : AreCounts town counts → AreBalanced town counts → (j : ℕ) → Joined town (is_used counts) base j → leaving town left j ≡ 0
  joined_spent are balanced j joined = joined_keeps (λ k. leaving town left k ≡ 0) town (is_used counts) (λ arc below. on arc) (λ arc below. back arc) base j joined piece.base_spent
    where
      on : (arc : ℕ) → is_used counts arc ≡ true → leaving town left (tail_of town arc) ≡ 0 → leaving town left (head_of town arc) ≡ 0
      on arc used spent =
          piece.heads_spent arc (omega (arith, piece.counted arc, used_more counts arc used, spent_out town left (tail_of town arc) arc spent (used_legal town counts are arc used) refl))

      back : (arc : ℕ) → is_used counts arc ≡ true → leaving town left (head_of town arc) ≡ 0 → leaving town left (tail_of town arc) ≡ 0
      back arc used spent =
          let legal = used_legal town counts are arc used in
          let even = left_balanced balanced (head_of town arc) (head_of-below town arc (legal_below town arc legal)) in
          let none = spent_in town left (head_of town arc) arc (sym even ∙ spent) legal refl in
          walk_tails (λ k. leaving town left k ≡ 0) town base (reverse done) base piece.closed piece.base_spent
          (λ a more. piece.heads_spent a (omega (arith, count_reverse done a)))
          arc (omega (arith, count_reverse done arc, piece.counted arc, used_more counts arc used))

  -- an arc that is done is joined with the base
  done_joined : (arc : ℕ) → 0 < count_of done arc → Joined town (is_used counts) base (tail_of town arc)
  done_joined arc more =
      walk_joins town (is_used counts) base (reverse done) base piece.closed
      (λ a used. lt-ltb 0 (slice_index counts a) (omega (arith, count_reverse done a, piece.counted a))) arc (omega (arith, count_reverse done arc))

  -- where something is left, it is in another piece
  pub piece_apart : AreCounts town counts → AreBalanced town counts → (first other : ℕ) → IsLeastUsed counts first → base ≡ tail_of town first
      → IsLeastUsed left other → AreApart town counts first other
  piece_apart are balanced first other least begins rest =
      let used : is_used counts other ≡ true = lt-ltb 0 (slice_index counts other) (omega (arith, piece.counted other, used_more left other rest.used)) in
      record {
        balanced = balanced;
        first_used = least.used;
        first_least = least.least;
        other_used = used;
        other_apart = λ joined.
            omega (
              arith,
              used_more left other rest.used,
              spent_out town left (tail_of town other) other
                  (joined_spent are balanced (tail_of town other) (subst (λ n. Joined town (is_used counts) n (tail_of town other)) (sym begins) joined))
                  (used_legal town counts are other used) refl,
            );
        other_least = λ arc below is.
            subst (λ n. Joined town (is_used counts) n (tail_of town arc)) begins
            (done_joined arc (omega (arith, piece.counted arc, used_more counts arc is, ltb-false 0 (slice_index left arc) (rest.least arc below))));
      }

-- a circuit joins all the arcs that are traversed
pub circuit_one_piece : (town : Town) (counts : List ℕ) (steps : List Step) → IsCircuit town counts steps → AreOnePiece town counts
circuit_one_piece town counts steps circuit first second first_used second_used =
    let from = leads-from_closed town steps circuit.closed in
    let taken : (arc : ℕ) → 0 < count_of steps arc → is_used counts arc ≡ true = λ arc more. lt-ltb 0 (slice_index counts arc) (omega (arith, circuit.counted arc)) in
    let reached : (arc : ℕ) → is_used counts arc ≡ true → Joined town (is_used counts) from.0 (tail_of town arc)
    = λ arc used. walk_joins town (is_used counts) from.0 steps from.0 from.1 taken arc (omega (arith, circuit.counted arc, used_more counts arc used)) in
    joined_trans town (is_used counts) _ _ _ (joined_turned town (is_used counts) _ _ (reached first first_used)) (reached second second_used)
