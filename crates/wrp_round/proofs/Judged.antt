-- A rounding judged by its sums.
use Rattle.std.proofs.Common.{◌≡◌, ℕ, ◌<◌, ◌≤◌, Bool, true, false, cond, ◌&&◌, not, max, ◌+◌, ◌*◌, ◌^◌, filter, below_more, ℤ, pos, ◌+ℤ◌, ◌*ℤ◌, ◌≤ℤ◌, ◌<ℤ◌, unsigned_abs, List, [], ◌∷◌, length, Contains, Option, None, Some, ap, refl, sym, ◌∙◌, subst, arith}
use Rattle.std.specs.Prelude.{nat_le, nat_lt, if◌then◌else◌}
use Rattle.std.specs.List.{list_all}
use Rattle.std.proofs.lemmas.Bool.{and_from, and_parts, le-leb, leb-true, true≢false}
use Rattle.std.proofs.lemmas.Int.{ints}
use lib.Signed.{lt_z}
use Rattle.wrp_sums.specs.Sums.{sum_over, numbers_below}
use Rattle.wrp_sums.proofs.Integers.{linear, sized, tests, size_of_sum}
use Rattle.wrp_sums.proofs.SumsOver.{sum_over-same, inside_head, for_tail, passes_inside}
use Rattle.wrp_sums.proofs.FirstNumbers.{inside_filter, passes_of_inside, sum_passing_more}
use Rattle.wrp_town.specs.declared.town.Town.{Town}
use Rattle.wrp_town.specs.Arcs.{arcs, is_legal, legal_arcs}
use Rattle.wrp_town.proofs.TownLaws.{legal_below}
use Rattle.wrp_rules.specs.declared.record.Record.{Record}
use Rattle.wrp_rules.specs.declared.record.Record.TheVariants.{Round}
use Rattle.wrp_rules.specs.declared.rule.Rule.{Rule}
use Rattle.wrp_rules.specs.declared.rule.Rule.TheVariants as rules
use Rattle.wrp_rules.specs.Rows.{Row, round_row, is_wide, most_coefficient}
use Rattle.wrp_rules.specs.Nodes.{Standing}
use Rattle.wrp_rules.specs.Rules.{rows_are_there}
use Rattle.wrp_laws.specs.Points.{MeetsOver}
use Rattle.wrp_writer.specs.Limits.{is_writable}
use Rattle.wrp_rows.specs.declared.point.Point.{Point}
use Rattle.wrp_rows.specs.Pools.{SparseRow, RowPool, HasRowsOf}
use Rattle.wrp_rows.specs.Tables.{name_rows, number_at}
use Rattle.wrp_rows.specs.Making.{AreRounded}
use Rattle.wrp_rows.proofs.Kept.{in_range}
use Rattle.wrp_rows.proofs.RowLaws.{as_many}
use Rattle.wrp_rows.proofs.Rounded.{rounded_coef, rounded_side}
use Rattle.wrp_webs.proofs.LegalSums.{range_numbers}
use Rattle.wrp_odd.specs.Points.{denominator_of, numbers_of, Breaks}
use Rattle.wrp_round.specs.Judging.{row_with, IsWithin, IsSizeOf, KeepsAndBreaks}
use Rattle.wrp_round.specs.Broken.{IsBrokenRounding}

-- ---- rows that agree at the legal arcs

pub record Agree (town : Town) (a b : Row) : Type 0 where
  pub coefs : (arc : ℕ) → is_legal town arc ≡ true → a.coef arc ≡ b.coef arc
  pub side : a.right_side ≡ b.right_side

turned : (town : Town) (a b : Row) → Agree town a b → Agree town b a
turned town a b same = record { coefs = λ arc legal. sym (same.coefs arc legal); side = sym same.side }

within_same : (town : Town) (a b : Row) (most : ℕ) → Agree town a b → IsWithin town a most → IsWithin town b most
within_same town a b most same within = record {
  coefs = λ arc legal. subst (λ (z : ℤ). unsigned_abs z ≤ most) (same.coefs arc legal) (within.coefs arc legal);
  side = subst (λ (z : ℤ). unsigned_abs z ≤ most) same.side within.side;
}

meets_same : (town : Town) (e : ℕ) (x : ℕ → ℕ) (a b : Row) → Agree town a b → MeetsOver town e x a → MeetsOver town e x b
meets_same town e x a b same meets =
    let sums = sum_over-same (λ arc. a.coef arc *ℤ pos (x arc)) (λ arc. b.coef arc *ℤ pos (x arc)) (legal_arcs town)
    (λ arc inside. ap (λ (z : ℤ). z *ℤ pos (x arc)) (same.coefs arc (passes_of_inside (is_legal town) (arcs town) arc inside))) in
    omega (arith, linear, sums, ap (λ (z : ℤ). pos e *ℤ z) same.side)

breaks_same : (town : Town) (point : Point) (a b : Row) → Agree town a b → Breaks town point a → Breaks town point b
breaks_same town point a b same breaks = λ meets. breaks (meets_same town (denominator_of point) (numbers_of point) b a (turned town a b same) meets)

-- ---- narrow rows

all_inside : (p : ℕ → Bool) (xs : List ℕ) → ((x : ℕ) → Contains xs x → p x ≡ true) → list_all p xs ≡ true
all_inside p [] each = refl
all_inside p (x ∷ xs) each =
    and_from (p x) (list_all p xs) (each x (inside_head x xs)) (all_inside p xs (for_tail (λ (y : ℕ). p y ≡ true) x xs each))

turned_false : (t : Bool) → not t ≡ false → t ≡ true
turned_false true e = refl
turned_false false e = absurd (true≢false e)

module _ (town : Town) (row : Row) where
  pub narrow_of_within : IsWithin town row most_coefficient → is_wide town row ≡ false
  narrow_of_within within =
      ap not (and_from (nat_le (unsigned_abs row.right_side) most_coefficient) (list_all (λ arc. nat_le (unsigned_abs (row.coef arc)) most_coefficient) (legal_arcs town))
      (le-leb (unsigned_abs row.right_side) most_coefficient within.side)
      (all_inside (λ arc. nat_le (unsigned_abs (row.coef arc)) most_coefficient) (legal_arcs town)
      (λ arc inside. le-leb (unsigned_abs (row.coef arc)) most_coefficient (within.coefs arc (passes_of_inside (is_legal town) (arcs town) arc inside)))))

  within_of_narrow : is_wide town row ≡ false → IsWithin town row most_coefficient
  within_of_narrow narrow =
      let both = turned_false (nat_le (unsigned_abs row.right_side) most_coefficient && list_all (λ arc. nat_le (unsigned_abs (row.coef arc)) most_coefficient) (legal_arcs town)) narrow in
      let parts = and_parts (nat_le (unsigned_abs row.right_side) most_coefficient) (list_all (λ arc. nat_le (unsigned_abs (row.coef arc)) most_coefficient) (legal_arcs town)) both in
      record {
        coefs = λ arc legal. leb-true (unsigned_abs (row.coef arc)) most_coefficient
            (passes_inside (λ a. nat_le (unsigned_abs (row.coef a)) most_coefficient) (legal_arcs town) parts.1 arc
            (inside_filter (is_legal town) (arcs town) arc (in_range (2 * length town.streets) arc (legal_below town arc legal)) legal));
        side = leb-true (unsigned_abs row.right_side) most_coefficient parts.0;
      }

-- ---- the sums of a rounding

module _ (pool : RowPool) (s : Standing) (has : HasRowsOf s pool) (divisor : ℕ) (mult : List (ℕ × ℕ)) where
  names_are_there : rows_are_there s mult ≡ name_rows pool.rows mult
  names_are_there = ap (λ (n : ℕ). list_all (λ (q : ℕ × ℕ). nat_lt q.0 n) mult) (sym (as_many s pool has))

  pub not_named : (point : Point) → name_rows pool.rows mult ≡ false → KeepsAndBreaks pool.town s point divisor mult → ⊥
  not_named point none keeps = true≢false (sym keeps.there ∙ names_are_there ∙ none)

  module _ (sums : List ℤ) (side : ℤ) (named : name_rows pool.rows mult ≡ true) (are : AreRounded pool.rows divisor mult sums side) where
    agree : Agree pool.town (row_with sums side) (round_row s.rows divisor mult)
    agree =
        let named_kept = subst (λ (rows : List SparseRow). name_rows rows mult ≡ true) has.rows named in
        let are_kept = subst (λ (rows : List SparseRow). AreRounded rows divisor mult sums side) has.rows are in
        record {
          coefs = rounded_coef pool.town s.rows divisor mult sums side named_kept are_kept;
          side = rounded_side pool.town s.rows divisor mult sums side named_kept are_kept;
        }

    module _ (size : ℕ) (is : IsSizeOf pool.town (row_with sums side) size) (point : Point) where
      pub keeps_and_breaks : size ≤ most_coefficient → Breaks pool.town point (row_with sums side) → KeepsAndBreaks pool.town s point divisor mult
      keeps_and_breaks low breaks =
          let within : IsWithin pool.town (row_with sums side) most_coefficient = within_more pool.town (row_with sums side) size low is.within in
          record {
            there = names_are_there ∙ named;
            narrow = narrow_of_within pool.town (round_row s.rows divisor mult) (within_same pool.town (row_with sums side) (round_row s.rows divisor mult) most_coefficient agree within);
            broken = breaks_same pool.town point (row_with sums side) (round_row s.rows divisor mult) agree breaks;
          }
        where
          within_more : (town : Town) (row : Row) (n : ℕ) → n ≤ most_coefficient → IsWithin town row n → IsWithin town row most_coefficient
          within_more town row n h within = record { coefs = λ arc legal. (let c = within.coefs arc legal in omega arith); side = (let c = within.side in omega arith) }

      pub keeps_low : KeepsAndBreaks pool.town s point divisor mult → size ≤ most_coefficient
      keeps_low keeps =
          is.least most_coefficient (within_same pool.town (round_row s.rows divisor mult) (row_with sums side) most_coefficient (turned pool.town (row_with sums side) (round_row s.rows divisor mult) agree)
          (within_of_narrow pool.town (round_row s.rows divisor mult) keeps.narrow))

      pub keeps_breaks : KeepsAndBreaks pool.town s point divisor mult → Breaks pool.town point (row_with sums side)
      keeps_breaks keeps = breaks_same pool.town point (round_row s.rows divisor mult) (row_with sums side) (turned pool.town (row_with sums side) (round_row s.rows divisor mult) agree) keeps.broken

-- ---- the record

pub both_kept : (a b : Bool) → a ≡ true → b ≡ false → ◌≡◌ {A = Option Rule} (if a then (if not b then None else Some rules.Wide) else Some rules.Range) None
both_kept true false p q = refl
both_kept true true p q = absurd (true≢false q)
both_kept false b p q = absurd (true≢false (sym p))

kept_both : (a b : Bool) → ◌≡◌ {A = Option Rule} (if a then (if not b then None else Some rules.Wide) else Some rules.Range) None → (a ≡ true) × (b ≡ false)
kept_both true false e = (refl, refl)
kept_both true true e = (refl, cc)
kept_both false b e = (cc, cc)

pub rounding_broken : (town : Town) (s : Standing) (point : Point) (divisor : ℕ) (mult : List (ℕ × ℕ)) → is_writable (Round divisor mult) ≡ true → KeepsAndBreaks town s point divisor mult → IsBrokenRounding town s point (Round divisor mult)
rounding_broken town s point divisor mult writable keeps = record {
  divisor = divisor;
  mult = mult;
  round = refl;
  valid = record { writable = writable; kept = both_kept (rows_are_there s mult) (is_wide town (round_row s.rows divisor mult)) keeps.there keeps.narrow };
  broken = keeps.broken;
}

round_divisor : (d e : ℕ) (m n : List (ℕ × ℕ)) → Round d m ≡ Round e n → e ≡ d
round_divisor d e m n same = cc

round_mult : (d e : ℕ) (m n : List (ℕ × ℕ)) → Round d m ≡ Round e n → n ≡ m
round_mult d e m n same = cc

pub broken_keeps : (town : Town) (s : Standing) (point : Point) (divisor : ℕ) (mult : List (ℕ × ℕ)) → IsBrokenRounding town s point (Round divisor mult) → KeepsAndBreaks town s point divisor mult
broken_keeps town s point divisor mult b =
    let kept = kept_both (rows_are_there s mult) (is_wide town (round_row s.rows divisor mult)) b.valid.kept in
    let first : b.divisor ≡ divisor = round_divisor divisor b.divisor mult b.mult b.round in
    let second : b.mult ≡ mult = round_mult divisor b.divisor mult b.mult b.round in
    record {
      there = kept.0;
      narrow = kept.1;
      broken = subst (λ (m : List (ℕ × ℕ)). Breaks town point (round_row s.rows divisor m)) second (subst (λ (d : ℕ). Breaks town point (round_row s.rows d b.mult)) first b.broken);
    }

pub broken_writable : (town : Town) (s : Standing) (point : Point) (item : Record) → IsBrokenRounding town s point item → is_writable item ≡ true
broken_writable town s point item b = b.valid.writable

-- ---- the comparison

above_one : (z : ℤ) → pos 1 ≤ℤ z → pos (unsigned_abs z) ≡ z
above_one z some = omega (arith, sized)

module _ (town : Town) (point : Point) (sums : List ℤ) (side left bound : ℤ) (den : pos 1 ≤ℤ point.den)
    (left_is : left ≡ sum_over (λ arc. (row_with sums side).coef arc *ℤ pos (numbers_of point arc)) (legal_arcs town))
    (bound_is : bound ≡ side *ℤ point.den) where
  bound_turned : pos (denominator_of point) *ℤ side ≡ bound
  bound_turned = let e = above_one point.den den in ap (λ (z : ℤ). z *ℤ side) e ∙ omega (arith, ints, bound_is)

  pub below_breaks : left <ℤ bound → Breaks town point (row_with sums side)
  below_breaks below = λ meets. absurd (omega (arith, linear, bound_turned, left_is, meets))

  pub breaks_below : Breaks town point (row_with sums side) → bound ≤ℤ left → ⊥
  breaks_below breaks above = breaks (omega (arith, linear, bound_turned, left_is))

-- ---- the greatest size, arc after arc

module _ (town : Town) (sums : List ℤ) (side : ℤ) (arc size other : ℕ) (is : other ≡ cond (is_legal town arc) (unsigned_abs (number_at sums arc)) 0) where
  pub sizes_more : ((a : ℕ) → a < arc → is_legal town a ≡ true → unsigned_abs (number_at sums a) ≤ size)
      → (a : ℕ) → a < arc + 1 → is_legal town a ≡ true → unsigned_abs (number_at sums a) ≤ max size other
  sizes_more so_far = below_more (λ a. is_legal town a ≡ true → unsigned_abs (number_at sums a) ≤ max size other) arc
      (λ a below legal. (let old = so_far a below legal in omega arith))
      (λ legal. (let own : other ≡ unsigned_abs (number_at sums arc) = is ∙ ap (λ (t : Bool). cond t (unsigned_abs (number_at sums arc)) 0) legal in omega arith))

  pub least_more : ((most : ℕ) → IsWithin town (row_with sums side) most → size ≤ most) → (most : ℕ) → IsWithin town (row_with sums side) most → max size other ≤ most
  least_more so_far most within = by (is_legal town arc) refl
    where
      by : (t : Bool) → is_legal town arc ≡ t → max size other ≤ most
      by true legal =
          let own : other ≡ unsigned_abs (number_at sums arc) = is ∙ ap (λ (t : Bool). cond t (unsigned_abs (number_at sums arc)) 0) legal in
          omega (arith, so_far most within, within.coefs arc legal)
      by false illegal =
          let own : other ≡ 0 = is ∙ ap (λ (t : Bool). cond t (unsigned_abs (number_at sums arc)) 0) illegal in
          omega (arith, so_far most within)

pub size_is : (town : Town) (sums : List ℤ) (side : ℤ) (n size : ℕ) → 2 * length town.streets ≤ n → unsigned_abs side ≤ size
    → ((a : ℕ) → a < n → is_legal town a ≡ true → unsigned_abs (number_at sums a) ≤ size)
    → ((most : ℕ) → IsWithin town (row_with sums side) most → size ≤ most) → IsSizeOf town (row_with sums side) size
size_is town sums side n size all side_low coefs least = record {
  within = record { coefs = λ a legal. coefs a (omega (arith, legal_below town a legal)) legal; side = side_low };
  least = least;
}

-- ---- the left side, arc after arc

pub left_more : (town : Town) (f : ℕ → ℤ) (left term : ℤ) (arc : ℕ) → left ≡ sum_over f (filter (is_legal town) (numbers_below arc)) → term ≡ cond (is_legal town arc) (f arc) (pos 0)
    → left +ℤ term ≡ sum_over f (filter (is_legal town) (numbers_below (arc + 1)))
left_more town f left term arc so_far is = omega (arith, linear, sum_passing_more f (is_legal town) arc)

pub left_small : (left term : ℤ) (arc : ℕ) → unsigned_abs left ≤ arc * 2 ^ 92 → unsigned_abs term ≤ 2 ^ 92 → unsigned_abs (left +ℤ term) ≤ (arc + 1) * 2 ^ 92
left_small left term arc so_far small = omega (arith, size_of_sum left term (arc * 2 ^ 92) (2 ^ 92) so_far small)

pub left_all : (town : Town) (f : ℕ → ℤ) (left : ℤ) (n : ℕ) → n ≡ 2 * length town.streets → left ≡ sum_over f (filter (is_legal town) (numbers_below n)) → left ≡ sum_over f (legal_arcs town)
left_all town f left n all so_far =
    so_far
    ∙ ap (λ (k : ℕ). sum_over f (filter (is_legal town) (numbers_below k))) all
    ∙ ap (λ (xs : List ℕ). sum_over f (filter (is_legal town) xs)) (sym (range_numbers (2 * length town.streets)))

-- ---- tests

pub lt_below : (a b : ℤ) → lt_z a b ≡ true → a <ℤ b
lt_below a b test = omega (arith, tests)

pub lt_above : (a b : ℤ) → lt_z a b ≡ false → b ≤ℤ a
lt_above a b test = omega (arith, tests)
