-- The record of an exact point breaks no rule.
use Rattle.std.proofs.Common.{◌≡◌, ℕ, ◌*◌, ◌%◌, ◌<◌, ◌≤◌, ◌==◌, true, ◌&&◌, not, nat_le, int_le, ℤ, pos, negsuc, ◌*ℤ◌, ◌≤ℤ◌, unsigned_abs, List, [], ◌∷◌, map, length, Contains, None, ap, refl, sym, ◌∙◌, subst, arith, eq-eqb}
use Rattle.std.specs.Prelude.{slice_index}
use Rattle.std.specs.List.{filter, sum_by, list_any, list_all}
use Rattle.std.proofs.Math.ListN.{get_or-map}
use Rattle.std.proofs.lemmas.Bool.{and_from, and_parts, le-leb, lt-ltb}
use Rattle.std.proofs.lemmas.List.Elements.{All-contains}
use Rattle.std.proofs.lemmas.List.Sums.{sum_by-cons}
use Rattle.wrp_sums.specs.Sums.{sum_over}
use Rattle.wrp_sums.specs.Rounding.{ceil_div}
use Rattle.wrp_sums.proofs.Integers.{linear, one-*ℤ, ≤-from_pos}
use Rattle.wrp_sums.proofs.FirstNumbers.{passes_of_inside}
use Rattle.wrp_sums.proofs.SumsOver.{sum_over-ext, sum_over-pos}
use Rattle.wrp_town.specs.declared.town.Town.{Town}
use Rattle.wrp_town.specs.Arcs.{is_legal, tail_of, head_of, arcs, legal_arcs, junctions, demands, cost_or_zero}
use Rattle.wrp_town.proofs.Members.{inside_none, inside_cases, all_from_members}
use Rattle.wrp_rules.specs.declared.record.Record.{Record}
use Rattle.wrp_rules.specs.declared.record.Record.TheVariants as records
use Rattle.wrp_rules.specs.Contents.{has_number_rules}
use Rattle.wrp_rules.specs.Lines.{line_of}
use Rattle.wrp_rules.specs.Proofs.{version_2}
use Rattle.wrp_rules.specs.Rows.{Row, balance_row, service_row, conn_row, odd_row}
use Rattle.wrp_rules.specs.Nodes.{Node, Standing, standing, node_at}
use Rattle.wrp_rules.specs.Rules.{number_at, arcs_at, is_in_box, is_balanced, is_served, price_of, int_eq, is_labels, is_alone, node_is_there, node_is_open, rules_of, broken_rule}
use Rattle.wrp_writer.specs.Limits.{is_writable}
use Rattle.wrp_laws.specs.Meets.{sum_of_counts}
use Rattle.wrp_laws.specs.Points.{MeetsOver, price}
use Rattle.wrp_laws.proofs.Balances.{balanced_where_met}
use Rattle.wrp_laws.proofs.Rules.{all_rules}
use Rattle.wrp_rows.specs.declared.point.Point.{Point}
use Rattle.wrp_rows.specs.Base.{demand_row}
use Rattle.wrp_rows.specs.Pools.{SparseRow, sparse_of}
use Rattle.wrp_rows.proofs.BaseRows.{demands_kept}
use Rattle.wrp_rows.proofs.RowLaws.{sum_of_terms}
use Rattle.wrp_odd.specs.Points.{denominator_of, numbers_of}
use Rattle.wrp_progress.specs.Progress.{HasNoLabels, IsOpenIn}
use Rattle.wrp_progress.proofs.Branching.{none_broken}
use Rattle.wrp_progress.proofs.Growing.{standing_records}
use Rattle.wrp_progress.proofs.Meeting.{balances, services}
use Rattle.wrp_box.specs.Points.{pairs_of, IsPointRecord}
use Rattle.wrp_box.specs.Branching.{IsPart}
use Rattle.wrp_box.proofs.Relaxed.{below_range}
use Rattle.wrp_licence.specs.Licences.{IsLicensed, IsExactPoint}
use Rattle.wrp_licence.proofs.PointNumbers.{number_of_pairs, pairs_legal}

sum_by_same : (f g : ℕ → ℕ) → ((a : ℕ) → f a ≡ g a) → (xs : List ℕ) → sum_by f xs ≡ sum_by g xs
sum_by_same f g same [] = refl
sum_by_same f g same (x ∷ xs) = omega (arith, sum_by-cons f x xs, sum_by-cons g x xs, same x, sum_by_same f g same xs)

same_mapped : {X Y : Type 0} (f g : X → Y) (xs : List X) → map f xs ≡ map g xs → (x : X) → Contains xs x → f x ≡ g x
same_mapped f g [] e x inside = absurd (inside_none x inside)
same_mapped f g (y ∷ ys) e x inside =
    inside_cases (f x ≡ g x) y ys x inside (λ here. subst (λ z. f z ≡ g z) here (cc)) (λ there. same_mapped f g ys (cc) x there)

equal_to_itself : (z : ℤ) → int_eq z z ≡ true
equal_to_itself (pos n) = and_from (int_le (pos n) (pos n)) (int_le (pos n) (pos n)) (le-leb n n (omega arith)) (le-leb n n (omega arith))
equal_to_itself (negsuc n) = and_from (int_le (negsuc n) (negsuc n)) (int_le (negsuc n) (negsuc n)) (le-leb n n (omega arith)) (le-leb n n (omega arith))

ones_sum : (x : ℕ → ℕ) (xs : List ℕ) → sum_over (λ (t : ℕ × ℤ). t.1 *ℤ pos (x t.0)) (map (λ arc. (arc, pos 1)) xs) ≡ pos (sum_by x xs)
ones_sum x [] = refl
ones_sum x (a ∷ xs) = omega (arith, linear, one-*ℤ (pos (x a)), ones_sum x xs, sum_by-cons x a xs)

-- ---- the rules of a Point, for numbers that are x over e

module _ (town : Town) (x : ℕ → ℕ) (e : ℕ) (numbers : List (ℕ × ℕ)) (same : (arc : ℕ) → number_at numbers arc ≡ x arc) where
  in_box : (node : Node) → ((arc : ℕ) → is_legal town arc ≡ true → node.lo arc * e ≤ x arc) → ((arc : ℕ) → is_legal town arc ≡ true → x arc ≤ node.hi arc * e) → is_in_box town node e numbers ≡ true
  in_box node low high =
      all_from_members (λ arc. nat_le (node.lo arc * e) (number_at numbers arc) && nat_le (number_at numbers arc) (node.hi arc * e)) (legal_arcs town)
      (λ arc inside.
      let legal = passes_of_inside (is_legal town) (arcs town) arc inside in
      and_from _ _
      (le-leb (node.lo arc * e) (number_at numbers arc) (omega (arith, same arc, low arc legal)))
      (le-leb (number_at numbers arc) (node.hi arc * e) (omega (arith, same arc, high arc legal))))

  balanced : (counts : List ℕ) → ((arc : ℕ) → slice_index counts arc ≡ x arc) → ((j : ℕ) → j < length town.junctions → sum_of_counts town x (balance_row town j).coef ≡ pos 0) → is_balanced town numbers ≡ true
  balanced counts listed even =
      all_from_members
      (λ j. sum_by (number_at numbers) (arcs_at (tail_of town) j (legal_arcs town)) == sum_by (number_at numbers) (arcs_at (head_of town) j (legal_arcs town)))
      (junctions town)
      (λ j inside. eq-eqb _ _ (
      turned (arcs_at (tail_of town) j (legal_arcs town))
      ∙ (balanced_where_met town counts j).1
      (sum_over-ext (λ arc. (balance_row town j).coef arc *ℤ pos (slice_index counts arc)) (λ arc. (balance_row town j).coef arc *ℤ pos (x arc))
      (λ arc. ap (λ (n : ℕ). (balance_row town j).coef arc *ℤ pos n) (listed arc)) (legal_arcs town)
      ∙ even j (All-contains (λ i. i < length town.junctions) (junctions town) j (below_range (length town.junctions)) inside))
      ∙ sym (turned (arcs_at (head_of town) j (legal_arcs town)))))
    where
      turned : (star : List ℕ) → sum_by (number_at numbers) star ≡ sum_by (slice_index counts) star
      turned star = sum_by_same (number_at numbers) (slice_index counts) (λ arc. same arc ∙ sym (listed arc)) star

  enough : (demand : List ℕ) → Contains (demands town) demand → MeetsOver town e x (service_row demand) → e ≤ sum_by (number_at numbers) (filter (is_legal town) demand)
  enough demand inside met =
      let row : demand_row town demand ≡ sparse_of town (service_row demand) = same_mapped (demand_row town) (λ d. sparse_of town (service_row d)) (demands town) (demands_kept town) demand inside in
      let sum : sum_over (λ arc. (service_row demand).coef arc *ℤ pos (x arc)) (legal_arcs town) ≡ pos (sum_by x (filter (is_legal town) demand)) =
      sum_of_terms town (service_row demand) (λ a. pos (x a))
      ∙ sym (ap (λ (r : SparseRow). sum_over (λ (t : ℕ × ℤ). t.1 *ℤ pos (x t.0)) r.terms) row)
      ∙ ones_sum x (filter (is_legal town) demand) in
      let product : pos (e * 1) ≡ pos e *ℤ pos 1 = refl in
      let reach : e * 1 ≤ sum_by x (filter (is_legal town) demand) = ≤-from_pos (e * 1) (sum_by x (filter (is_legal town) demand)) (omega (arith, linear, met, sum)) in
      omega (arith, reach, sum_by_same (number_at numbers) x same (filter (is_legal town) demand))

  served : ((demand : List ℕ) → Contains (demands town) demand → MeetsOver town e x (service_row demand)) → is_served town e numbers ≡ true
  served meets =
      all_from_members (λ demand. nat_le e (sum_by (number_at numbers) (filter (is_legal town) demand))) (demands town)
      (λ demand inside. le-leb e (sum_by (number_at numbers) (filter (is_legal town) demand)) (enough demand inside (meets demand inside)))

  pub price_is : price_of town e numbers ≡ price town e x
  price_is =
      ap (λ (z : ℤ). ceil_div z e)
      (ap pos (sum_by_same (λ arc. cost_or_zero town arc * number_at numbers arc) (λ arc. cost_or_zero town arc * x arc) (λ arc. ap (λ (n : ℕ). cost_or_zero town arc * n) (same arc)) (legal_arcs town))
      ∙ sym (sum_over-pos (λ arc. cost_or_zero town arc * x arc) (legal_arcs town)))

-- ---- an exact point of a node

module _ (town : Town) (items : List Record) (node : ℕ) (point : Point) (unlabelled : HasNoLabels items) (opened : IsOpenIn town items node) (exact : IsExactPoint town items node point) where
  abbrev s : Standing
  s = standing town items

  abbrev e : ℕ
  e = denominator_of point

  abbrev x : ℕ → ℕ
  x = numbers_of point

  abbrev numbers : List (ℕ × ℕ)
  numbers = pairs_of point

  same_here : (arc : ℕ) → number_at numbers arc ≡ x arc
  same_here arc = number_of_pairs point arc

  abbrev counts : List ℕ
  counts = map unsigned_abs point.at

  alone : not (list_any is_labels s.records) ≡ true
  alone = ap (λ (rs : List Record). not (list_any is_labels rs)) (standing_records town items) ∙ ap not unlabelled

  rules_kept : list_all (λ t. t.1) (rules_of town s (records.Point node e numbers)) ≡ true
  rules_kept =
      let of_node = exact.is.of_node in
      and_from (node_is_there s node && list_all (λ q. is_legal town q.0) numbers) _
      (and_from (node_is_there s node) (list_all (λ q. is_legal town q.0) numbers) (lt-ltb node (length s.nodes) opened.there) (pairs_legal town point exact.is.is))
      (and_from (node_is_open town s node) _ opened.told
      (and_from (is_in_box town (node_at town s node) e numbers) _ (in_box town x e numbers same_here (node_at town s node) of_node.at_least of_node.at_most)
      (and_from (is_balanced town numbers) _
      (balanced town x e numbers same_here counts (λ arc. get_or-map unsigned_abs point.at arc (pos 0)) (λ j below. balances town items e x of_node.meets j below))
      (and_from (is_served town e numbers) _ (served town x e numbers same_here (λ demand inside. services town items e x of_node.meets demand inside))
      (and_from (int_eq (price_of town e numbers) (node_at town s node).bound) true
      (ap (λ (z : ℤ). int_eq z (node_at town s node).bound) (price_is town x e numbers same_here ∙ exact.costs) ∙ equal_to_itself (node_at town s node).bound)
      refl)))))

  point_stands : is_writable (records.Point node e numbers) ≡ true → broken_rule town s (records.Point node e numbers) ≡ None
  point_stands writable =
      let item = records.Point node e numbers in
      none_broken (all_rules town s item)
      (and_from (has_number_rules item) (is_alone s item && list_all (λ t. t.1) (rules_of town s item))
      (and_parts (has_number_rules item) (nat_le (length (line_of item)) version_2.limit) writable).0
      (and_from (is_alone s item) (list_all (λ t. t.1) (rules_of town s item)) alone rules_kept))

  pub record_stands : (item : Record) → IsPointRecord node point item → broken_rule town s item ≡ None
  record_stands item is =
      ap (broken_rule town s) is.is ∙ point_stands (sym (ap is_writable is.is) ∙ is.writable)

  -- the numbers of the record meet what the point meets
  pub met_here : (row : Row) → MeetsOver town e x row → MeetsOver town e (number_at numbers) row
  met_here row met =
      subst (λ (z : ℤ). (pos e *ℤ row.right_side) ≤ℤ z)
      (sum_over-ext (λ arc. row.coef arc *ℤ pos (x arc)) (λ arc. row.coef arc *ℤ pos (number_at numbers arc)) (λ arc. ap (λ (n : ℕ). row.coef arc *ℤ pos n) (sym (same_here arc))) (legal_arcs town))
      met

  pub licensed_where : (item : Record) (arc : ℕ) → IsPointRecord node point item → IsPart town e x arc → IsLicensed town s node e numbers
  licensed_where item arc is part = record {
    valid = point_stands (sym (ap is_writable is.is) ∙ is.writable);
    arc = arc;
    part = record { legal = part.legal; part = λ none. part.part (sym (ap (λ (n : ℕ). n % e) (same_here arc)) ∙ none) };
    conns = λ r1 r2 set parted uncrossed. met_here (conn_row town set) (exact.conns r1 r2 set parted uncrossed);
    odds = λ set odd. met_here (odd_row town set) (exact.odds set odd);
  }
