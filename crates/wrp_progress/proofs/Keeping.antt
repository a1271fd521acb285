-- What each further record keeps of the nodes.
use Rattle.std.proofs.Common.{◌≡◌, ℕ, ◌+◌, ◌<◌, ◌≤◌, min, Bool, true, false, ◌&&◌, not, List, [], ◌∷◌, length, get_or, Option, None, Some, is_none, ℤ, pos, ◌<ℤ◌, int_lt, ap, refl, sym, ◌∙◌, subst, inl, inr, arith}
use Rattle.std.specs.Option.{option_map_or}
use Rattle.std.proofs.lemmas.Bool.{and_parts, and_from, cases_eq, true≢false, false≢true, ltb-true, false_from_ne_true}
use Rattle.wrp_town.specs.declared.street.Step.{Step}
use Rattle.wrp_town.specs.Arcs.{is_legal}
use Rattle.wrp_sums.proofs.Integers.{linear, tests}
use Rattle.wrp_town.specs.declared.town.Town.{Town}
use Rattle.wrp_rules.specs.declared.record.Record.{Record}
use Rattle.wrp_rules.specs.declared.record.Record.TheVariants.{Tour, Conn, Odd, Round, Kc, Bound, Empty, Apart, Point, Blind, Split, Labels}
use Rattle.wrp_rules.specs.Nodes.{Node, root, Standing, node_at, bound_at, with_bound, closed, at_most, at_least, changed, is_below, is_open, after, standing, done}
use Rattle.wrp_rules.specs.Rules.{broken_rule, node_is_there, rows_are_there, streets_are_there, junctions_are_there}
use Rattle.wrp_rules.specs.Lists.{is_valid}
use Rattle.wrp_laws.proofs.Rules.{rules_kept, all_rules}
use Rattle.wrp_laws.proofs.Boxes.{length-changed, changed_at, changed_other, changed_keeps, are_split}
use Rattle.wrp_laws.proofs.CutRows.{goes_on_keeps}
use Rattle.wrp_progress.specs.Progress.{GoesOn, IsOpenIn, IsDoneIn, node_in}
use Rattle.wrp_progress.proofs.Growing.{standing_both, goes_on_behind}
use Rattle.wrp_progress.proofs.Counting.{count_grows, count_rises}

-- each node is there still, with its box, and open only where it was
pub record KeepsNodes (town : Town) (old new : Standing) : Type 0 where
  pub there : length old.nodes ≤ length new.nodes
  pub lo : (i : ℕ) → i < length old.nodes → (node_at town new i).lo ≡ (node_at town old i).lo
  pub hi : (i : ℕ) → i < length old.nodes → (node_at town new i).hi ≡ (node_at town old i).hi
  pub opens : (i : ℕ) → i < length old.nodes → is_open new.upper (node_at town new i) ≡ true → is_open old.upper (node_at town old i) ≡ true

keeps_own : (town : Town) (s : Standing) → KeepsNodes town s s
keeps_own town s = record { there = omega arith; lo = λ i below. refl; hi = λ i below. refl; opens = λ i below told. told }

keeps_then : (town : Town) (first second third : Standing) → KeepsNodes town first second → KeepsNodes town second third → KeepsNodes town first third
keeps_then town first second third one two = record {
  there = omega (arith, one.there, two.there);
  lo = λ i below. two.lo i (omega (arith, one.there)) ∙ one.lo i below;
  hi = λ i below. two.hi i (omega (arith, one.there)) ∙ one.hi i below;
  opens = λ i below told. one.opens i below (two.opens i (omega (arith, one.there)) told);
}

-- ---- each kind of record

pub lt_test : (a b : ℤ) → a <ℤ b → int_lt a b ≡ true
lt_test a b less = by (int_lt a b) refl
  where
    by : (t : Bool) → int_lt a b ≡ t → t ≡ true
    by true e = refl
    by false e = absurd (omega (arith, tests, e, less))

pub lt_told : (a b : ℤ) → int_lt a b ≡ true → a <ℤ b
lt_told a b told = omega (arith, tests, told)

-- a cheaper tour opens no node
below_cheaper : (bound : ℤ) (cost : ℕ) (upper : Option ℕ) → is_below bound (Some (option_map_or (min cost) upper cost)) ≡ true → is_below bound upper ≡ true
below_cheaper bound cost None below = refl
below_cheaper bound cost (Some other) below = lt_test bound (pos other) (omega (arith, linear, tests, below))

opens_cheaper : (cost : ℕ) (upper : Option ℕ) (node : Node) → is_open (Some (option_map_or (min cost) upper cost)) node ≡ true → is_open upper node ≡ true
opens_cheaper cost upper node told =
    let parts = and_parts (not node.is_closed) (is_below node.bound (Some (option_map_or (min cost) upper cost))) told in
    and_from (not node.is_closed) (is_below node.bound upper) parts.0 (below_cheaper node.bound cost upper parts.1)

-- nor does a higher bound
below_higher : (low high : ℤ) (upper : Option ℕ) → low <ℤ high → is_below high upper ≡ true → is_below low upper ≡ true
below_higher low high None less below = refl
below_higher low high (Some cost) less below = lt_test low (pos cost) (omega (arith, linear, tests, below, less))

opens_higher : (bound : ℤ) (upper : Option ℕ) (node : Node) → node.bound <ℤ bound → is_open upper (with_bound bound node) ≡ true → is_open upper node ≡ true
opens_higher bound upper node less told =
    let parts = and_parts (not node.is_closed) (is_below bound upper) told in
    and_from (not node.is_closed) (is_below node.bound upper) parts.0 (below_higher node.bound bound upper less parts.1)

opens_closed : (upper : Option ℕ) (node : Node) → is_open upper (closed node) ≡ true → is_open upper node ≡ true
opens_closed upper node told = absurd (false≢true told)

opens_changed : (d : Node) (upper : Option ℕ) (change : Node → Node) (k i : ℕ) (nodes : List Node) → k < length nodes → (is_open upper (change (get_or nodes k d)) ≡ true → is_open upper (get_or nodes k d) ≡ true) → is_open upper (get_or (changed change k nodes) i d) ≡ true → is_open upper (get_or nodes i d) ≡ true
opens_changed d upper change k i nodes there here told =
    elim (cases_eq i k) [
      | inl same ↦ subst (λ (j : ℕ). is_open upper (get_or nodes j d) ≡ true) (sym same) (here (subst (λ (n : Node). is_open upper n ≡ true) (changed_at change k nodes d there) (subst (λ (j : ℕ). is_open upper (get_or (changed change k nodes) j d) ≡ true) same told)))
      | inr differs ↦ subst (λ (n : Node). is_open upper n ≡ true) (changed_other change k i nodes d differs) told
    ]

changed_kept : (town : Town) (s new : Standing) (change : Node → Node) (k : ℕ) → new.nodes ≡ changed change k s.nodes → new.upper ≡ s.upper → k < length s.nodes → ((n : Node) → (change n).lo ≡ n.lo) → ((n : Node) → (change n).hi ≡ n.hi) → (is_open s.upper (change (node_at town s k)) ≡ true → is_open s.upper (node_at town s k) ≡ true) → KeepsNodes town s new
changed_kept town s new change k nodes upper there lo hi here = record {
  there = omega (arith, ap length nodes, length-changed change k s.nodes);
  lo = λ i below. ap (λ (ns : List Node). (get_or ns i (root town)).lo) nodes ∙ changed_keeps (λ n. n.lo) change lo k i s.nodes (root town);
  hi = λ i below. ap (λ (ns : List Node). (get_or ns i (root town)).hi) nodes ∙ changed_keeps (λ n. n.hi) change hi k i s.nodes (root town);
  opens = λ i below told. opens_changed (root town) s.upper change k i s.nodes there here
      (subst (λ (u : Option ℕ). is_open u (get_or (changed change k s.nodes) i (root town)) ≡ true) upper
      (subst (λ (ns : List Node). is_open new.upper (get_or ns i (root town)) ≡ true) nodes told));
}

-- what the rules of a record that names a node say
node_there : (town : Town) (s : Standing) (node : ℕ) (others : Bool) → (node_is_there s node && others) ≡ true → node < length s.nodes
node_there town s node others kept = ltb-true node (length s.nodes) (and_parts (node_is_there s node) others kept).0

bound_kept : (town : Town) (s : Standing) (node den : ℕ) (mult : List (ℕ × ℕ)) → is_none (broken_rule town s (Bound node den mult)) ≡ true → KeepsNodes town s (after town s (Bound node den mult))
bound_kept town s node den mult sound =
    let kept = rules_kept (all_rules town s (Bound node den mult)) sound in
    let raised : (node_at town s node).bound <ℤ bound_at town s node den mult = lt_told (node_at town s node).bound (bound_at town s node den mult) (kept 4) in
    changed_kept town s (after town s (Bound node den mult)) (with_bound (bound_at town s node den mult)) node refl refl
    (node_there town s node (rows_are_there s mult) (kept 2)) (λ n. refl) (λ n. refl)
    (opens_higher (bound_at town s node den mult) s.upper (node_at town s node) raised)

close_kept : (town : Town) (s new : Standing) (node : ℕ) → new.nodes ≡ changed closed node s.nodes → new.upper ≡ s.upper → node < length s.nodes → KeepsNodes town s new
close_kept town s new node nodes upper there =
    changed_kept town s new closed node nodes upper there (λ n. refl) (λ n. refl) (opens_closed s.upper (node_at town s node))

tour_kept : (town : Town) (s : Standing) (cost : ℕ) (steps : List Step) → KeepsNodes town s (after town s (Tour cost steps))
tour_kept town s cost steps = record {
  there = omega arith;
  lo = λ i below. refl;
  hi = λ i below. refl;
  opens = λ i below told. opens_cheaper cost s.upper (node_at town s i) told;
}

split_kept : (town : Town) (s : Standing) (node arc k : ℕ) → node < length s.nodes → KeepsNodes town s (after town s (Split node arc k))
split_kept town s node arc k there =
    let parent = node_at town s node in
    let are = are_split (root town) s.nodes node (at_most arc k parent) (at_least arc (k + 1) parent) there in
    record {
      there = omega (arith, are.count);
      lo = are.lo;
      hi = are.hi;
      opens = λ i below told. elim (cases_eq i node) [
        | inl same ↦ absurd (false≢true (subst (λ (n : Node). is_open s.upper n ≡ true) are.here (subst (λ (j : ℕ). is_open s.upper (node_at town (after town s (Split node arc k)) j) ≡ true) same told)))
        | inr differs ↦ subst (λ (n : Node). is_open s.upper n ≡ true) (are.others i below differs) told
      ];
    }

same_kept : (town : Town) (s : Standing) (item : Record) → (after town s item).nodes ≡ s.nodes → (after town s item).upper ≡ s.upper → KeepsNodes town s (after town s item)
same_kept town s item nodes upper = record {
  there = omega (arith, ap length nodes);
  lo = λ i below. ap (λ (ns : List Node). (get_or ns i (root town)).lo) nodes;
  hi = λ i below. ap (λ (ns : List Node). (get_or ns i (root town)).hi) nodes;
  opens = λ i below told. subst (λ (u : Option ℕ). is_open u (node_at town s i) ≡ true) upper
      (subst (λ (ns : List Node). is_open (after town s item).upper (get_or ns i (root town)) ≡ true) nodes told);
}

pub step_keeps : (town : Town) (s : Standing) (item : Record) → is_none (broken_rule town s item) ≡ true → KeepsNodes town s (after town s item)
step_keeps town s (Tour cost steps) sound = tour_kept town s cost steps
step_keeps town s (Bound node den mult) sound = bound_kept town s node den mult sound
step_keeps town s (Empty node mult) sound =
    close_kept town s (after town s (Empty node mult)) node refl refl (node_there town s node (rows_are_there s mult) (rules_kept (all_rules town s (Empty node mult)) sound 2))
step_keeps town s (Apart node r1 r2 set) sound =
    close_kept town s (after town s (Apart node r1 r2 set)) node refl refl (node_there town s node (streets_are_there town (r1 ∷ r2 ∷ [])) (and_parts (node_is_there s node && streets_are_there town (r1 ∷ r2 ∷ [])) (junctions_are_there town set) (rules_kept (all_rules town s (Apart node r1 r2 set)) sound 2)).0)
step_keeps town s (Split node arc k) sound =
    split_kept town s node arc k (node_there town s node (is_legal town arc) (rules_kept (all_rules town s (Split node arc k)) sound 2))
step_keeps town s (Conn r1 r2 set) sound = same_kept town s (Conn r1 r2 set) refl refl
step_keeps town s (Odd set) sound = same_kept town s (Odd set) refl refl
step_keeps town s (Round divisor mult) sound = same_kept town s (Round divisor mult) refl refl
step_keeps town s (Kc k of) sound = same_kept town s (Kc k of) refl refl
step_keeps town s (Point node den numbers) sound = same_kept town s (Point node den numbers) refl refl
step_keeps town s (Blind node) sound = same_kept town s (Blind node) refl refl
step_keeps town s (Labels labels streets) sound = same_kept town s (Labels labels streets) refl refl

-- ---- lists that go on

pub goes_on_keeps_nodes : (town : Town) (old new : List Record) → GoesOn town old new → KeepsNodes town (standing town old) (standing town new)
goes_on_keeps_nodes town old new goes =
    subst (λ (s : Standing). KeepsNodes town (standing town old) s)
    (sym (ap (standing town) goes.is ∙ standing_both town old goes.more))
    (goes_on_keeps town (KeepsNodes town (standing town old))
    (λ s item sound keeps. keeps_then town (standing town old) s (after town s item) keeps (step_keeps town s item sound))
    (standing town old) goes.more
    (goes_on_behind town old goes.more (subst (λ (xs : List Record). is_valid town xs ≡ true) goes.is goes.valid))
    (keeps_own town (standing town old)))

pub still_done : (town : Town) (old new : List Record) (i : ℕ) → GoesOn town old new → IsDoneIn town old i → IsDoneIn town new i
still_done town old new i goes done =
    let keeps = goes_on_keeps_nodes town old new goes in
    record {
      there = omega (arith, keeps.there, done.there);
      told = false_from_ne_true (is_open (standing town new).upper (node_in town new i)) (λ told. true≢false (sym (keeps.opens i done.there told) ∙ done.told));
    }

not_shuts : (a b : Bool) → (b ≡ true → a ≡ true) → not a ≡ true → not b ≡ true
not_shuts true b keeps shut = absurd (false≢true shut)
not_shuts false true keeps shut = absurd (false≢true (keeps refl))
not_shuts false false keeps shut = refl

pub done_grows : (town : Town) (old new : List Record) → GoesOn town old new → done (standing town old) ≤ done (standing town new)
done_grows town old new goes =
    let keeps = goes_on_keeps_nodes town old new goes in
    count_grows (λ node. not (is_open (standing town old).upper node)) (λ node. not (is_open (standing town new).upper node)) (root town)
    (standing town old).nodes (standing town new).nodes keeps.there
    (λ i below. not_shuts (is_open (standing town old).upper (node_in town old i)) (is_open (standing town new).upper (node_in town new i)) (keeps.opens i below))

pub done_rises : (town : Town) (old new : List Record) (i : ℕ) → GoesOn town old new → IsOpenIn town old i → IsDoneIn town new i → done (standing town old) < done (standing town new)
done_rises town old new i goes opened done =
    let keeps = goes_on_keeps_nodes town old new goes in
    count_rises (λ node. not (is_open (standing town old).upper node)) (λ node. not (is_open (standing town new).upper node)) (root town)
    (standing town old).nodes (standing town new).nodes i keeps.there
    (λ j below. not_shuts (is_open (standing town old).upper (node_in town old j)) (is_open (standing town new).upper (node_in town new j)) (keeps.opens j below))
    opened.there (ap not opened.told) (ap not done.told)
