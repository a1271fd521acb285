-- The piece in which the arcs that are used serve every demand: it is closed, balanced and one.
use Rattle.std.proofs.Common.{◌≡◌, ℕ, zero, suc, ◌+◌, ◌*◌, ◌/◌, ◌<◌, ◌≤◌, Bool, true, false, cond, ◌&&◌, not, ◌==◌, ℤ, pos, ◌-ℤ◌, ◌*ℤ◌, List, [], ◌∷◌, length, filter, Contains, Option, None, Some, ap, refl, sym, ◌∙◌, subst, inl, inr, ◌⊎◌, arith, slice_get}
use Rattle.std.specs.Prelude.{slice_index}
use Rattle.std.specs.Option.{option_map_or}
use Rattle.std.specs.List.{range_with_len}
use Rattle.std.proofs.lemmas.Bool.{cases_Bool, ne_eqb, true≢false, false≢true, true_from_ne_false, eqb-true, ltb-true, ltb-false, lt-ltb}
use Rattle.wrp_sums.proofs.Integers.{linear, one-*ℤ, zero_times, times_zero, ≤-from_pos}
use Rattle.wrp_sums.proofs.SumsOver.{sum_over-ext, sum_over-*ℤ}
use Rattle.wrp_sums.proofs.FirstNumbers.{below_of_inside}
use Rattle.wrp_town.specs.declared.street.Street.{Street}
use Rattle.wrp_town.specs.declared.town.Town.{Town}
use Rattle.wrp_town.specs.Streets.{demands_at}
use Rattle.wrp_town.specs.Arcs.{tail_of, head_of, is_legal, legal_arcs, demands, junctions, is_required, has_arc}
use Rattle.wrp_town.proofs.Members.{inside_head, inside_none, all_from_members}
use Rattle.wrp_town.proofs.ServiceLaws.{member_from_has_arc, demand_arc_street}
use Rattle.wrp_town.proofs.TownLaws.{tail_of-below, head_of-below, legal_below}
use Rattle.wrp_graph.specs.Pieces.{Joined}
use Rattle.wrp_graph.specs.Pieces.Joined.{here, along, against}
use Rattle.wrp_graph.specs.Balances.{AreBalanced}
use Rattle.wrp_graph.proofs.Joins.{joined_trans, joined_turned, joined_keeps}
use Rattle.wrp_rules.specs.Rows.{one_if, balance_row}
use Rattle.wrp_rules.specs.Sets.{is_in, crosses}
use Rattle.wrp_rules.proofs.TwoWays.{both_ways_same, alike_on_street, tail_on_street, over_turned}
use Rattle.wrp_laws.proofs.Balances.{balanced_where_met}
use Rattle.wrp_laws.proofs.Crossings.{demand_there}
use Rattle.wrp_reach.proofs.Demands.{street_of_demand, required_there}
use Rattle.wrp_webs.specs.Webs.{sum_below, differ}
use Rattle.wrp_webs.specs.Nets.{entering}
use Rattle.wrp_webs.specs.TownWebs.{IsOnLegal, IsUncrossed, out_of_set}
use Rattle.wrp_webs.proofs.SumsBelow.{zero_sum, same_sum, term_sum}
use Rattle.wrp_webs.proofs.LegalSums.{ones_sum, range_numbers}
use Rattle.wrp_webs.proofs.ConnRows.{leaving_is_entering, conn_row_met}
use Rattle.wrp_webs.proofs.ConnFound.{found_parts}
use Rattle.wrp_webs.proofs.Found.{listed_is}
use Rattle.wrp_euler.specs.Circuits.{AreCounts, AreOnePiece, is_used}
use Rattle.wrp_conn.specs.Conns.{is_uncrossed}
use Rattle.wrp_point_tour.specs.Counts.{AreFew, AreTourCounts, AreServed, AreKept, IsRequiredStreet, is_marked}
use Rattle.wrp_point_tour.specs.Search.{IsReach}

-- ---- tests and sums

cond_at_most : (b : Bool) (n : ℕ) → cond b n 0 ≤ n
cond_at_most true n = omega arith
cond_at_most false n = omega arith

cond_none : (b : Bool) → cond {A = ℕ} b 0 0 ≡ 0
cond_none true = refl
cond_none false = refl

picked : (b : Bool) (n : ℕ) → 0 < cond b n 0 → (b ≡ true) × (0 < n)
picked true n more = (refl, more)
picked false n more = absurd (omega arith)

positive_term : (f : ℕ → ℕ) (n : ℕ) → 0 < sum_below f n → (i : ℕ) × (0 < f i)
positive_term f zero more = absurd (omega arith)
positive_term f (suc n) more = by (f n) refl (λ less. positive_term f n less)
  where
    by : (k : ℕ) → f n ≡ k → (0 < sum_below f n → (i : ℕ) × (0 < f i)) → (i : ℕ) × (0 < f i)
    by zero none before = before (omega arith)
    by (suc k) some before = (n, omega arith)

out_none : (t h : Bool) (n : ℕ) → (t ≡ true → 0 < n → h ≡ true) → cond (t && not h) n 0 ≡ 0
out_none true true n closed = refl
out_none true false zero closed = refl
out_none true false (suc n) closed = absurd (false≢true (closed refl (omega arith)))
out_none false true n closed = refl
out_none false false n closed = refl

same_from : (t h : Bool) → (t ≡ true → h ≡ true) → (t ≡ false → h ≡ true → ⊥) → t ≡ h
same_from true true on back = refl
same_from true false on back = absurd (false≢true (on refl))
same_from false true on back = absurd (back refl refl)
same_from false false on back = refl

in_term : (t h : Bool) (n : ℕ) → t ≡ false → h ≡ true → cond (not t && h) n 0 ≡ n
in_term true h n out within = absurd (true≢false out)
in_term false true n out within = refl
in_term false false n out within = absurd (false≢true within)

differ_same : (a b : Bool) → a ≡ b → differ a b ≡ false
differ_same true true same = refl
differ_same true false same = absurd (true≢false same)
differ_same false true same = absurd (false≢true same)
differ_same false false same = refl

same_differ : (a b : Bool) → differ a b ≡ false → a ≡ b
same_differ true true none = refl
same_differ true false none = absurd (true≢false none)
same_differ false true none = absurd (true≢false none)
same_differ false false none = refl

not_both : (r t h : Bool) → (r ≡ true → t ≡ h) → not (r && differ t h) ≡ true
not_both true t h same = ap not (differ_same t h (same refl))
not_both false t h same = refl

-- a term of a set's arcs
one_same : (a : ℤ) (s : Bool) (n : ℕ) → a *ℤ pos (cond s n 0) ≡ pos (cond s 1 0) *ℤ (a *ℤ pos n)
one_same a true n = sym (one-*ℤ (a *ℤ pos n))
one_same a false n = times_zero a ∙ sym (zero_times (a *ℤ pos n))

-- a balance term where the mark of the junction is that of the arcs at it
one_kept : (t h b s : Bool) (n : ℕ) → (t ≡ true → b ≡ s) → (h ≡ true → b ≡ s) → (one_if t -ℤ one_if h) *ℤ pos (cond b n 0) ≡ pos (cond s 1 0) *ℤ ((one_if t -ℤ one_if h) *ℤ pos n)
one_kept true h b s n first second =
    ap (λ (k : Bool). (pos 1 -ℤ one_if h) *ℤ pos (cond k n 0)) (first refl) ∙ one_same (pos 1 -ℤ one_if h) s n
one_kept false true b s n first second =
    ap (λ (k : Bool). (pos 0 -ℤ pos 1) *ℤ pos (cond k n 0)) (second refl) ∙ one_same (pos 0 -ℤ pos 1) s n
one_kept false false b s n first second =
    zero_times (pos (cond b n 0)) ∙ sym (ap (λ (z : ℤ). pos (cond s 1 0) *ℤ z) (zero_times (pos n)) ∙ times_zero (pos (cond s 1 0)))

-- ---- demands of streets

first_of_some : (xs : List (List ℕ)) → not (length xs == 0) ≡ true → (d : List ℕ) × (Contains xs d)
first_of_some [] some = absurd (false≢true some)
first_of_some (d ∷ xs) some = (d, inside_head d xs)

filled : (xs : List (List ℕ)) (d : List ℕ) → Contains xs d → not (length xs == 0) ≡ true
filled [] d inside = absurd (inside_none d inside)
filled (x ∷ xs) d inside = ap not (ne_eqb (length (x ∷ xs)) 0 (λ e. absurd (omega arith)))

-- a required street has a demand, whose arcs are its own
demand_of : (town : Town) (r : ℕ) → is_required town r ≡ true → (d : List ℕ) × (Contains (demands town) d) × ((arc : ℕ) → Contains d arc → arc / 2 ≡ r)
demand_of town r required = by (slice_get town.streets r) refl required
  where
    by : (o : Option Street) → slice_get town.streets r ≡ o → option_map_or (λ s. not (length (demands_at r s.need) == 0)) o false ≡ true → (d : List ℕ) × (Contains (demands town) d) × ((arc : ℕ) → Contains d arc → arc / 2 ≡ r)
    by None e some = absurd (false≢true some)
    by (Some street) e some =
        let m = first_of_some (demands_at r street.need) some in
        let zero_more : r ≡ 0 + r = omega arith in (
          m.0,
          demand_there 0 r town.streets street m.0 e (subst (λ k. Contains (demands_at k street.need) m.0) zero_more m.1),
          λ arc has. demand_arc_street r street.need m.0 arc m.1 has,
        )

-- a demand is one of a required street
record IsOfRequired (town : Town) (d : List ℕ) : Type 0 where
  street : ℕ
  needs : is_required town street ≡ true
  own : (arc : ℕ) → Contains d arc → arc / 2 ≡ street

of_required : (town : Town) (d : List ℕ) → Contains (demands town) d → IsOfRequired town d
of_required town d inside =
    let o = street_of_demand 0 town.streets d inside in
    let zero_more : 0 + o.number ≡ o.number = omega arith in
    let there = subst (λ k. Contains (demands_at k o.street.need) d) zero_more o.there in
    let test = λ (found : Option Street). option_map_or (λ s. not (length (demands_at o.number s.need) == 0)) found false in
    record {
      street = o.number;
      needs = ap test o.is ∙ filled (demands_at o.number o.street.need) d there;
      own = λ arc has. demand_arc_street o.number o.street.need d arc there has;
    }

required_of : (town : Town) (d : List ℕ) (arc : ℕ) → Contains (demands town) d → Contains d arc → is_required town (arc / 2) ≡ true
required_of town d arc inside has = let r = of_required town d inside in ap (is_required town) (r.own arc has) ∙ r.needs

-- some street is required where there is a demand
pub some_required : (town : Town) → 0 < length (demands town) → ((street : ℕ) → is_required town street ≡ false) → ⊥
some_required town some none = by (demands town) refl some
  where
    by : (ds : List (List ℕ)) → demands town ≡ ds → 0 < length ds → ⊥
    by [] e some = omega arith
    by (d ∷ ds) e some =
        let r = of_required town d (subst (λ (xs : List (List ℕ)). Contains xs d) (sym e) (inside_head d ds)) in
        true≢false (sym r.needs ∙ none r.street)

-- ---- counts within a set

module _ (town : Town) (marks : List Bool) (counts kept : List ℕ) (keeps : AreKept town marks counts kept) where
  pub kept_at_most : (arc : ℕ) → slice_index kept arc ≤ slice_index counts arc
  kept_at_most arc = omega (arith, keeps arc, cond_at_most (is_marked marks (tail_of town arc)) (slice_index counts arc))

  pub kept_counts : length kept ≡ length counts → AreCounts town counts → AreCounts town kept
  kept_counts long are = record { each = long ∙ are.each; legal = λ arc illegal. omega (arith, kept_at_most arc, are.legal arc illegal) }

  pub kept_few : AreFew town counts → AreFew town kept
  kept_few few = λ arc. omega (arith, kept_at_most arc, few arc)

-- ---- the piece

module _ (town : Town) (counts : List ℕ) (are : AreCounts town counts) (is : AreTourCounts town counts) (street : ℕ) (required : IsRequiredStreet town street) (marks : List Bool) (reach : IsReach town counts (tail_of town (2 * street)) marks) (kept : List ℕ) (keeps : AreKept town marks counts kept) where
  abbrev set : ℕ → Bool
  set = is_marked marks

  abbrev on : IsOnLegal town (slice_index counts)
  on = are.legal

  used_more : (arc : ℕ) → is_used counts arc ≡ true → 0 < slice_index counts arc
  used_more arc used = ltb-true 0 (slice_index counts arc) used

  used_legal : (arc : ℕ) → is_used counts arc ≡ true → is_legal town arc ≡ true
  used_legal arc used = true_from_ne_false (is_legal town arc) (λ illegal. omega (arith, are.legal arc illegal, used_more arc used))

  none_leaves : out_of_set town (slice_index counts) set ≡ 0
  none_leaves =
      zero_sum (λ a. cond (set (tail_of town a) && not (set (head_of town a))) (slice_index counts a) 0) (2 * length town.streets)
      (λ a below. out_none (set (tail_of town a)) (set (head_of town a)) (slice_index counts a)
      (λ begins more. let used = lt-ltb 0 (slice_index counts a) more in reach.closed a (used_legal a used) used begins))

  none_enters : entering (2 * length town.streets) (tail_of town) (head_of town) (slice_index counts) set ≡ 0
  none_enters = sym (leaving_is_entering town (slice_index counts) on is.balanced set) ∙ none_leaves

  -- an arc that is used has both ends marked, or neither
  same_side : (arc : ℕ) → is_used counts arc ≡ true → set (tail_of town arc) ≡ set (head_of town arc)
  same_side arc used =
      same_from (set (tail_of town arc)) (set (head_of town arc)) (λ begins. reach.closed arc (used_legal arc used) used begins)
      (λ out within. omega (
        arith,
        none_enters,
        term_sum (λ a. cond (not (set (tail_of town a)) && set (head_of town a)) (slice_index counts a) 0) arc (2 * length town.streets) (legal_below town arc (used_legal arc used)),
        in_term (set (tail_of town arc)) (set (head_of town arc)) (slice_index counts arc) out within,
        used_more arc used,
      ))

  -- each demand has an arc that is used
  served : AreServed town counts
  served d inside =
      let sum = ones_sum town (slice_index counts) (has_arc d) on in
      let row = is.services d inside in
      let side : pos 1 *ℤ pos 1 ≡ pos 1 = refl in
      let more : 1 ≤ sum_below (λ a. cond (has_arc d a) (slice_index counts a) 0) (2 * length town.streets) = ≤-from_pos 1 _ (omega (arith, linear, side, sum, row)) in
      let m = positive_term (λ a. cond (has_arc d a) (slice_index counts a) 0) (2 * length town.streets) more in
      let both = picked (has_arc d m.0) (slice_index counts m.0) m.1 in
      (m.0, member_from_has_arc d m.0 both.0, lt-ltb 0 (slice_index counts m.0) both.1)

  -- no required street has one end marked
  uncrossed : IsUncrossed town set
  uncrossed arc below of_required =
      let d = demand_of town (arc / 2) of_required in
      let used = served d.0 d.1 in
      let q : ℕ → Bool = λ a. differ (set (tail_of town a)) (set (head_of town a)) in
      let both : (s : ℕ) → q (2 * s) ≡ q (2 * s + 1) = both_ways_same town (λ u v. differ (set u) (set v)) (λ u v. over_turned (set u) (set v)) in
      same_differ (set (tail_of town arc)) (set (head_of town arc))
      (sym (alike_on_street q both used.0 arc (d.2 used.0 used.1)) ∙ differ_same (set (tail_of town used.0)) (set (head_of town used.0)) (same_side used.0 used.2))

  abbrev marked : List ℕ
  marked = filter set (junctions town)

  listed : (j : ℕ) → j < length town.junctions → is_in marked j ≡ set j
  listed j below = listed_is set (length town.junctions) j below

  none_uncrossed : is_uncrossed town marked ≡ true
  none_uncrossed =
      all_from_members (λ s. not (is_required town s && crosses town marked (2 * s))) (range_with_len 0 (length town.streets))
      (λ s inside.
      let below : s < length town.streets = below_of_inside (length town.streets) s (subst (λ (xs : List ℕ). Contains xs s) (range_numbers (length town.streets)) inside) in
      let half : (2 * s) / 2 ≡ s = omega arith in
      not_both (is_required town s) (is_in marked (tail_of town (2 * s))) (is_in marked (head_of town (2 * s)))
      (λ needs. listed (tail_of town (2 * s)) (tail_of-below town (2 * s) (omega arith)) ∙ uncrossed (2 * s) (omega arith) (ap (is_required town) half ∙ needs) ∙ sym (listed (head_of town (2 * s)) (head_of-below town (2 * s) (omega arith)))))

  none_leaves_listed : out_of_set town (slice_index counts) (is_in marked) ≡ 0
  none_leaves_listed =
      same_sum (λ a. cond (is_in marked (tail_of town a) && not (is_in marked (head_of town a))) (slice_index counts a) 0) (λ a. cond (set (tail_of town a) && not (set (head_of town a))) (slice_index counts a) 0) (2 * length town.streets)
      (λ a below. ap (λ (b : Bool). cond (b && not (is_in marked (head_of town a))) (slice_index counts a) 0) (listed (tail_of town a) (tail_of-below town a below))
      ∙ ap (λ (b : Bool). cond (set (tail_of town a) && not b) (slice_index counts a) 0) (listed (head_of town a) (head_of-below town a below)))
      ∙ none_leaves

  -- each required street is in the piece
  in_piece : (r : ℕ) → is_required town r ≡ true → set (tail_of town (2 * r)) ≡ true
  in_piece r needs = true_from_ne_false (set (tail_of town (2 * r))) no
    where
      no : set (tail_of town (2 * r)) ≡ false → ⊥
      no outside =
          let parted = found_parts town set street r uncrossed required.there (required_there town r needs) required.required needs reach.begun outside in
          omega (arith, none_leaves_listed, (conn_row_met town (slice_index counts) 1 on marked).0 (is.connected street r marked parted none_uncrossed))

  arc_in_piece : (arc : ℕ) → is_required town (arc / 2) ≡ true → set (tail_of town arc) ≡ true
  arc_in_piece arc needs =
      let half : (2 * (arc / 2)) / 2 ≡ arc / 2 = omega arith in
      let below = required_there town (arc / 2) needs in
      let tail = in_piece (arc / 2) needs in
      tail_on_street (λ j. set j ≡ true) town arc tail (sym (uncrossed (2 * (arc / 2)) (omega arith) (ap (is_required town) half ∙ needs)) ∙ tail)

  -- ---- what is kept

  kept_is : (arc : ℕ) → set (tail_of town arc) ≡ true → slice_index kept arc ≡ slice_index counts arc
  kept_is arc begins = keeps arc ∙ ap (λ (b : Bool). cond b (slice_index counts arc) 0) begins

  kept_used : (arc : ℕ) → is_used counts arc ≡ true → set (tail_of town arc) ≡ true → is_used kept arc ≡ true
  kept_used arc used begins = lt-ltb 0 (slice_index kept arc) (omega (arith, kept_is arc begins, used_more arc used))

  used_kept : (arc : ℕ) → is_used kept arc ≡ true → (set (tail_of town arc) ≡ true) × (is_used counts arc ≡ true)
  used_kept arc used =
      let both = picked (set (tail_of town arc)) (slice_index counts arc) (omega (arith, keeps arc, ltb-true 0 (slice_index kept arc) used)) in
      (both.0, lt-ltb 0 (slice_index counts arc) both.1)

  pub kept_served : AreServed town kept
  kept_served d inside =
      let s = served d inside in
      (s.0, s.1, kept_used s.0 s.2 (arc_in_piece s.0 (required_of town d s.0 inside s.1)))

  -- one junction's balance row
  kept_term : (j arc : ℕ) → (balance_row town j).coef arc *ℤ pos (slice_index kept arc) ≡ pos (cond (set j) 1 0) *ℤ ((balance_row town j).coef arc *ℤ pos (slice_index counts arc))
  kept_term j arc = by (cases_Bool (is_used counts arc))
    where
      by : (is_used counts arc ≡ true) ⊎ (is_used counts arc ≡ false) → (balance_row town j).coef arc *ℤ pos (slice_index kept arc) ≡ pos (cond (set j) 1 0) *ℤ ((balance_row town j).coef arc *ℤ pos (slice_index counts arc))
      by (inl used) =
          ap (λ (n : ℕ). (balance_row town j).coef arc *ℤ pos n) (keeps arc)
          ∙ one_kept (tail_of town arc == j) (head_of town arc == j) (set (tail_of town arc)) (set j) (slice_index counts arc)
          (λ begins. ap set (eqb-true (tail_of town arc) j begins)) (λ ends. same_side arc used ∙ ap set (eqb-true (head_of town arc) j ends))
      by (inr unused) =
          let none : slice_index counts arc ≡ 0 = omega (arith, ltb-false 0 (slice_index counts arc) unused) in
          let kept_none : slice_index kept arc ≡ 0 = keeps arc ∙ ap (λ (n : ℕ). cond (set (tail_of town arc)) n 0) none ∙ cond_none (set (tail_of town arc)) in
          ap (λ (n : ℕ). (balance_row town j).coef arc *ℤ pos n) kept_none ∙ times_zero ((balance_row town j).coef arc)
          ∙ sym (ap (λ (n : ℕ). pos (cond (set j) 1 0) *ℤ ((balance_row town j).coef arc *ℤ pos n)) none ∙ ap (λ (z : ℤ). pos (cond (set j) 1 0) *ℤ z) (times_zero ((balance_row town j).coef arc)) ∙ times_zero (pos (cond (set j) 1 0)))

  pub kept_balanced : AreBalanced town kept
  kept_balanced j below =
      (balanced_where_met town kept j).1
      (sum_over-ext (λ arc. (balance_row town j).coef arc *ℤ pos (slice_index kept arc)) (λ arc. pos (cond (set j) 1 0) *ℤ ((balance_row town j).coef arc *ℤ pos (slice_index counts arc))) (kept_term j) (legal_arcs town)
      ∙ sum_over-*ℤ (pos (cond (set j) 1 0)) (λ arc. (balance_row town j).coef arc *ℤ pos (slice_index counts arc)) (legal_arcs town)
      ∙ ap (λ (z : ℤ). pos (cond (set j) 1 0) *ℤ z) (is.balanced j below)
      ∙ times_zero (pos (cond (set j) 1 0)))

  -- what is joined with the base is so by arcs that are kept
  kept_joined : (j : ℕ) → Joined town (is_used counts) (tail_of town (2 * street)) j → (set j ≡ true) × Joined town (is_used kept) (tail_of town (2 * street)) j
  kept_joined j joined =
      joined_keeps (λ k. (set k ≡ true) × Joined town (is_used kept) base k) town (is_used counts)
      (λ arc below used so_far. (
        sym (same_side arc used) ∙ so_far.0,
        joined_trans town (is_used kept) (head_of town arc) base (tail_of town arc) so_far.1 (along arc (head_of town arc) below (kept_used arc used so_far.0) (here (head_of town arc))),
      ))
      (λ arc below used so_far.
      let begins : set (tail_of town arc) ≡ true = same_side arc used ∙ so_far.0 in
      (begins, joined_trans town (is_used kept) (tail_of town arc) base (head_of town arc) so_far.1 (against arc (tail_of town arc) below (kept_used arc used begins) (here (tail_of town arc)))))
      base j joined (reach.begun, here base)
    where
      base : ℕ
      base = tail_of town (2 * street)

  pub kept_one_piece : AreOnePiece town kept
  kept_one_piece first second first_used second_used =
      let one = kept_joined (tail_of town first) (reach.reached (tail_of town first) (used_kept first first_used).0) in
      let two = kept_joined (tail_of town second) (reach.reached (tail_of town second) (used_kept second second_used).0) in
      joined_trans town (is_used kept) (tail_of town second) (tail_of town first) (tail_of town (2 * street)) (joined_turned town (is_used kept) (tail_of town (2 * street)) (tail_of town first) one.1) two.1
