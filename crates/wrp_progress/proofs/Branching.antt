-- Records that may follow, and after which a node is done.
use Rattle.std.proofs.Common.{◌≡◌, ℕ, ◌+◌, ◌<◌, Bool, true, false, ◌&&◌, not, nat_le, List, [], ◌∷◌, ◌++◌, length, get_or, None, pos, ◌<ℤ◌, int_lt, ap, refl, sym, ◌∙◌, subst, arith}
use Rattle.std.specs.Option.{option_map_or}
use Rattle.std.specs.List.{list_all, list_any, last_or}
use Rattle.std.proofs.lemmas.Bool.{and_parts, and_from, lt-ltb, false≢true}
use Rattle.wrp_town.specs.declared.town.Town.{Town}
use Rattle.wrp_town.specs.Arcs.{is_legal}
use Rattle.wrp_rules.specs.declared.record.Record.{Record}
use Rattle.wrp_rules.specs.declared.record.Record.TheVariants.{Bound, Empty, Apart, Blind, Split}
use Rattle.wrp_rules.specs.declared.rule.Rule.{Rule}
use Rattle.wrp_rules.specs.Contents.{has_number_rules}
use Rattle.wrp_rules.specs.Lines.{line_of}
use Rattle.wrp_rules.specs.Sets.{is_parted}
use Rattle.wrp_rules.specs.Nodes.{Node, root, Standing, node_at, bound_at, with_bound, closed, at_most, at_least, changed, empty_value, is_below, is_open, after, standing}
use Rattle.wrp_rules.specs.Rules.{first_broken, broken_rule, is_alone, is_labels, leads_to_split, rules_of, node_is_there, node_is_open, rows_are_there, streets_are_there, junctions_are_there, parts_range, raises_bound}
use Rattle.wrp_rules.specs.Proofs.{version_2}
use Rattle.wrp_writer.specs.Limits.{is_writable}
use Rattle.wrp_laws.proofs.Rules.{all_rules}
use Rattle.wrp_laws.proofs.Boxes.{length-changed, changed_at, are_split}
use Rattle.wrp_progress.specs.Progress.{HasNoLabels, LeadsTo, IsOpenIn, IsDoneIn, node_in, is_shut}
use Rattle.wrp_progress.proofs.Growing.{standing_records, standing_more}
use Rattle.wrp_progress.proofs.Keeping.{lt_test}

-- where each rule is kept, none is broken
pub none_broken : (tried : List (Rule × Bool)) → list_all (λ t. t.1) tried ≡ true → first_broken tried ≡ None
none_broken [] kept = refl
none_broken ((rule, true) ∷ tried) kept = none_broken tried kept
none_broken ((rule, false) ∷ tried) kept = absurd (false≢true kept)

module _ (town : Town) (records : List Record) (unlabelled : HasNoLabels records) where
  abbrev s : Standing
  s = standing town records

  -- a record of a kind of its own is alone
  alone : not (list_any is_labels s.records) ≡ true
  alone = ap (λ (rs : List Record). not (list_any is_labels rs)) (standing_records town records) ∙ ap not unlabelled

  -- the rules of every record, and those of its kind
  follows : (item : Record) → is_writable item ≡ true → is_alone s item ≡ true → list_all (λ t. t.1) (rules_of town s item) ≡ true → broken_rule town s item ≡ None
  follows item writable lone kept =
      none_broken (all_rules town s item)
      (and_from (has_number_rules item) (is_alone s item && list_all (λ t. t.1) (rules_of town s item)) (and_parts (has_number_rules item) (nat_le (length (line_of item)) version_2.limit) writable).0
      (and_from (is_alone s item) (list_all (λ t. t.1) (rules_of town s item)) lone kept))

  there_test : (node : ℕ) → node < length s.nodes → node_is_there s node ≡ true
  there_test node there = lt-ltb node (length s.nodes) there

  -- ---- splits

  pub blind_follows : (node : ℕ) → is_writable (Blind node) ≡ true → IsOpenIn town records node → broken_rule town s (Blind node) ≡ None
  blind_follows node writable opened =
      follows (Blind node) writable alone
      (and_from (node_is_there s node) (node_is_open town s node && true) (there_test node opened.there) (and_from (node_is_open town s node) true opened.told refl))

  pub split_follows : (node arc k : ℕ) → is_writable (Split node arc k) ≡ true → IsOpenIn town records node → LeadsTo records node → is_legal town arc ≡ true → parts_range (node_in town records node) arc k ≡ true → broken_rule town s (Split node arc k) ≡ None
  split_follows node arc k writable opened leads legal parts =
      let led : option_map_or (leads_to_split node) (last_or None s.records) false ≡ true = ap (λ (rs : List Record). option_map_or (leads_to_split node) (last_or None rs) false) (standing_records town records) ∙ leads in
      follows (Split node arc k) writable alone
      (and_from (node_is_there s node && is_legal town arc) _ (and_from (node_is_there s node) (is_legal town arc) (there_test node opened.there) legal)
      (and_from (node_is_open town s node) _ opened.told
      (and_from (option_map_or (leads_to_split node) (last_or None s.records) false) _ led
      (and_from (parts_range (node_at town s node) arc k) true parts refl))))

  -- ---- nodes without tours

  pub empty_follows : (node : ℕ) (mult : List (ℕ × ℕ)) → is_writable (Empty node mult) ≡ true → IsOpenIn town records node → rows_are_there s mult ≡ true → pos 0 <ℤ empty_value town s.rows (node_in town records node) mult → broken_rule town s (Empty node mult) ≡ None
  empty_follows node mult writable opened rows above =
      follows (Empty node mult) writable alone
      (and_from (node_is_there s node && rows_are_there s mult) _ (and_from (node_is_there s node) (rows_are_there s mult) (there_test node opened.there) rows)
      (and_from (node_is_open town s node) _ opened.told
      (and_from (int_lt (pos 0) (empty_value town s.rows (node_at town s node) mult)) true (lt_test (pos 0) (empty_value town s.rows (node_at town s node) mult) above) refl)))

  pub apart_follows : (node r1 r2 : ℕ) (set : List ℕ) → is_writable (Apart node r1 r2 set) ≡ true → IsOpenIn town records node → streets_are_there town (r1 ∷ r2 ∷ []) ≡ true → junctions_are_there town set ≡ true → is_parted town r1 r2 set ≡ true → is_shut town (node_in town records node) set ≡ true → broken_rule town s (Apart node r1 r2 set) ≡ None
  apart_follows node r1 r2 set writable opened streets junctions parted shut =
      follows (Apart node r1 r2 set) writable alone
      (and_from ((node_is_there s node && streets_are_there town (r1 ∷ r2 ∷ [])) && junctions_are_there town set) _
      (and_from (node_is_there s node && streets_are_there town (r1 ∷ r2 ∷ [])) (junctions_are_there town set) (and_from (node_is_there s node) (streets_are_there town (r1 ∷ r2 ∷ [])) (there_test node opened.there) streets) junctions)
      (and_from (node_is_open town s node) _ opened.told
      (and_from (is_parted town r1 r2 set) _ parted
      (and_from (is_shut town (node_at town s node) set) true shut refl))))

  -- ---- bounds

  pub bound_follows : (node den : ℕ) (mult : List (ℕ × ℕ)) → is_writable (Bound node den mult) ≡ true → IsOpenIn town records node → rows_are_there s mult ≡ true → (node_in town records node).bound <ℤ bound_at town s node den mult → broken_rule town s (Bound node den mult) ≡ None
  bound_follows node den mult writable opened rows raised =
      follows (Bound node den mult) writable alone
      (and_from (node_is_there s node && rows_are_there s mult) _ (and_from (node_is_there s node) (rows_are_there s mult) (there_test node opened.there) rows)
      (and_from (node_is_open town s node) _ opened.told
      (and_from (raises_bound town s node den mult) true (lt_test (node_at town s node).bound (bound_at town s node den mult) raised) refl)))

-- ---- nodes that are done

module _ (town : Town) (records : List Record) (node : ℕ) (opened : IsOpenIn town records node) where
  abbrev standing_now : Standing
  standing_now = standing town records

  -- a node closed in the nodes that stand after the record
  shut_in : (item : Record) → (after town standing_now item).nodes ≡ changed closed node standing_now.nodes → IsDoneIn town (records ++ item ∷ []) node
  shut_in item nodes = record {
    there = subst (λ (s : Standing). node < length s.nodes) (sym (standing_more town records item)) (omega (arith, ap length nodes, length-changed closed node standing_now.nodes, opened.there));
    told = subst (λ (s : Standing). is_open s.upper (node_at town s node) ≡ false) (sym (standing_more town records item))
        (ap (λ (ns : List Node). is_open (after town standing_now item).upper (get_or ns node (root town))) nodes
        ∙ ap (is_open (after town standing_now item).upper) (changed_at closed node standing_now.nodes (root town) opened.there));
  }

  pub emptied : (mult : List (ℕ × ℕ)) → IsDoneIn town (records ++ Empty node mult ∷ []) node
  emptied mult = shut_in (Empty node mult) refl

  pub shut_off : (r1 r2 : ℕ) (set : List ℕ) → IsDoneIn town (records ++ Apart node r1 r2 set ∷ []) node
  shut_off r1 r2 set = shut_in (Apart node r1 r2 set) refl

  pub split_up : (arc k : ℕ) → IsDoneIn town (records ++ Split node arc k ∷ []) node
  split_up arc k =
      let parent = node_at town standing_now node in
      let are = are_split (root town) standing_now.nodes node (at_most arc k parent) (at_least arc (k + 1) parent) opened.there in
      record {
        there = subst (λ (s : Standing). node < length s.nodes) (sym (standing_more town records (Split node arc k))) (omega (arith, are.count, opened.there));
        told = subst (λ (s : Standing). is_open s.upper (node_at town s node) ≡ false) (sym (standing_more town records (Split node arc k)))
            (ap (is_open standing_now.upper) are.here);
      }

  -- a bound that isn't below the cheapest tour
  pub bounded : (den : ℕ) (mult : List (ℕ × ℕ)) → is_below (bound_at town standing_now node den mult) standing_now.upper ≡ false → IsDoneIn town (records ++ Bound node den mult ∷ []) node
  bounded den mult high =
      let item = Bound node den mult in
      let raised = with_bound (bound_at town standing_now node den mult) in
      record {
        there = subst (λ (s : Standing). node < length s.nodes) (sym (standing_more town records item)) (omega (arith, length-changed raised node standing_now.nodes, opened.there));
        told = subst (λ (s : Standing). is_open s.upper (node_at town s node) ≡ false) (sym (standing_more town records item))
            (ap (is_open standing_now.upper) (changed_at raised node standing_now.nodes (root town) opened.there)
            ∙ and_false (not (node_at town standing_now node).is_closed) (is_below (bound_at town standing_now node den mult) standing_now.upper) high);
      }
    where
      and_false : (a b : Bool) → b ≡ false → (a && b) ≡ false
      and_false true b low = low
      and_false false b low = refl
