-- Every tour meets every row of a valid list.
use Rattle.std.proofs.Common.{◌≡◌, ℕ, ◌^◌, ◌<◌, true, ◌&&◌, ◌==◌, nat_le, List, [], ◌∷◌, ◌++◌, length, fold, is_none, ℤ, pos, ◌*ℤ◌, ◌≤ℤ◌, ap, refl, sym, ◌∙◌, subst, arith}
use Rattle.std.specs.List.{list_all, All}
use Rattle.std.proofs.lemmas.Bool.{and_parts, leb-true}
use Rattle.std.proofs.lemmas.List.Elements.{All-push}
use Rattle.std.proofs.Math.IntN.{*ℤ_comm}
use Rattle.wrp_sums.specs.Sums.{sum_over}
use Rattle.wrp_sums.specs.Rounding.{ceil_div}
use Rattle.wrp_sums.proofs.Integers.{linear, *ℤ_assoc, scale_le}
use Rattle.wrp_sums.proofs.SumsOver.{sum_over-*ℤ, sum_over-*ℤ_right, sum_over-ext, sum_over-≤ℤ, sum_over_exchange}
use Rattle.wrp_sums.proofs.RoundedUp.{IsCeilDiv-ceil_div}
use Rattle.wrp_town.specs.declared.street.Step.{Step}
use Rattle.wrp_town.specs.declared.town.Town.{Town}
use Rattle.wrp_town.specs.Arcs.{legal_arcs}
use Rattle.wrp_town.specs.Walks.{is_tour, count_of}
use Rattle.wrp_rules.specs.declared.record.Record.{Record}
use Rattle.wrp_rules.specs.declared.record.Record.TheVariants.{Tour, Conn, Odd, Round, Kc, Bound, Empty, Apart, Point, Blind, Split, Labels}
use Rattle.wrp_rules.specs.Rows.{Row, row_at, round_row}
use Rattle.wrp_rules.specs.Nodes.{Standing, start, after, standing}
use Rattle.wrp_rules.specs.Ranges.{is_from_one, are_multipliers}
use Rattle.wrp_rules.specs.Rules.{broken_rule}
use Rattle.wrp_rules.specs.Lists.{goes_on, is_valid}
use Rattle.wrp_laws.specs.Meets.{sum_of_uses, MeetsRow}
use Rattle.wrp_laws.proofs.BaseRows.{meets_all, meets_at}
use Rattle.wrp_laws.proofs.Rules.{rules_kept, all_rules}
use Rattle.wrp_laws.proofs.Crossings.{meets_conn, meets_odd}
use Rattle.wrp_laws.proofs.Chains.{meets_chain}

-- ---- rounded rows

scale_right : (a b : ℤ) (n : ℕ) → a ≤ℤ b → (a *ℤ pos n) ≤ℤ (b *ℤ pos n)
scale_right a b n h = omega (arith, linear, *ℤ_comm a (pos n), *ℤ_comm b (pos n), scale_le n a b h)

module _ (town : Town) (rows : List Row) (divisor : ℕ) (mult : List (ℕ × ℕ)) (steps : List Step) where
  side_sum : ℤ
  side_sum = sum_over (λ q. pos q.1 *ℤ (row_at rows q.0).right_side) mult

  abbrev coef_sum : ℕ → ℤ
  coef_sum arc = sum_over (λ q. pos q.1 *ℤ (row_at rows q.0).coef arc) mult

  weighted_rows : ℤ
  weighted_rows = sum_over (λ q. pos q.1 *ℤ sum_of_uses town steps (row_at rows q.0).coef) mult

  shares : ℤ
  shares = sum_of_uses town steps coef_sum

  rounded : ℤ
  rounded = sum_of_uses town steps (λ arc. ceil_div (coef_sum arc) divisor)

  sides-≤-rows : ((i : ℕ) → MeetsRow town steps (row_at rows i)) → side_sum ≤ℤ weighted_rows
  unfolding side_sum weighted_rows
  sides-≤-rows met =
      sum_over-≤ℤ (λ q. pos q.1 *ℤ (row_at rows q.0).right_side) (λ q. pos q.1 *ℤ sum_of_uses town steps (row_at rows q.0).coef) mult
      (λ q inside. scale_le q.1 (row_at rows q.0).right_side (sum_of_uses town steps (row_at rows q.0).coef) (met q.0))

  rows-are-shares : weighted_rows ≡ shares
  unfolding weighted_rows shares
  rows-are-shares =
      sum_over-ext (λ q. pos q.1 *ℤ sum_of_uses town steps (row_at rows q.0).coef) (λ q. sum_over (λ a. (pos q.1 *ℤ (row_at rows q.0).coef a) *ℤ pos (count_of steps a)) (legal_arcs town))
      (λ q. sym (sum_over-*ℤ (pos q.1) (λ a. (row_at rows q.0).coef a *ℤ pos (count_of steps a)) (legal_arcs town))
      ∙ sum_over-ext (λ a. pos q.1 *ℤ ((row_at rows q.0).coef a *ℤ pos (count_of steps a))) (λ a. (pos q.1 *ℤ (row_at rows q.0).coef a) *ℤ pos (count_of steps a))
      (λ a. sym (*ℤ_assoc (pos q.1) ((row_at rows q.0).coef a) (pos (count_of steps a)))) (legal_arcs town)) mult
      ∙ sum_over_exchange (λ q a. (pos q.1 *ℤ (row_at rows q.0).coef a) *ℤ pos (count_of steps a)) mult (legal_arcs town)
      ∙ sum_over-ext (λ a. sum_over (λ q. (pos q.1 *ℤ (row_at rows q.0).coef a) *ℤ pos (count_of steps a)) mult)
      (λ a. coef_sum a *ℤ pos (count_of steps a))
      (λ a. sum_over-*ℤ_right (λ q. pos q.1 *ℤ (row_at rows q.0).coef a) (pos (count_of steps a)) mult) (legal_arcs town)

  shares-≤-rounded : 0 < divisor → shares ≤ℤ (pos divisor *ℤ rounded)
  unfolding shares rounded
  shares-≤-rounded positive =
      omega (
        arith,
        linear,
        sum_over-*ℤ (pos divisor) (λ a. ceil_div (coef_sum a) divisor *ℤ pos (count_of steps a)) (legal_arcs town),
        sum_over-≤ℤ (λ a. coef_sum a *ℤ pos (count_of steps a)) (λ a. pos divisor *ℤ (ceil_div (coef_sum a) divisor *ℤ pos (count_of steps a))) (legal_arcs town)
            (λ a inside. omega (
              arith,
              linear,
              *ℤ_assoc (pos divisor) (ceil_div (coef_sum a) divisor) (pos (count_of steps a)),
              scale_right (coef_sum a) (pos divisor *ℤ ceil_div (coef_sum a) divisor) (count_of steps a) (IsCeilDiv-ceil_div (coef_sum a) divisor positive).covers,
            )),
      )

  -- rows that whole numbers meet give, rounded, a row that they meet
  pub meets_round : 0 < divisor → ((i : ℕ) → MeetsRow town steps (row_at rows i)) → MeetsRow town steps (round_row rows divisor mult)
  unfolding side_sum rounded
  meets_round positive met =
      let reach : side_sum ≤ℤ (pos divisor *ℤ rounded) = omega (arith, linear, sides-≤-rows met, rows-are-shares, shares-≤-rounded positive) in
      (IsCeilDiv-ceil_div side_sum divisor positive).least rounded reach

-- ---- lists

-- what each record keeps holds of what a valid list stands for
pub goes_on_keeps : (town : Town) (P : Standing → Type 0) → ((s : Standing) (item : Record) → is_none (broken_rule town s item) ≡ true → P s → P (after town s item)) → (s : Standing) (items : List Record) → goes_on town s items ≡ true → P s → P (fold (after town) s items)
goes_on_keeps town P keeps s [] valid p = p
goes_on_keeps town P keeps s (item ∷ items) valid p =
    let both = and_parts (is_none (broken_rule town s item)) (goes_on town (after town s item) items) valid in
    goes_on_keeps town P keeps (after town s item) items both.1 (keeps s item both.0 p)

-- every tour meets the rows
abbrev pub AreMet : Town → List Row → Type 0
AreMet town rows = (steps : List Step) → is_tour town steps ≡ true → All (MeetsRow town steps) rows

pub nothing_more : {X : Type 0} (xs : List X) → xs ++ [] ≡ xs
nothing_more [] = refl
nothing_more (x ∷ xs) = ap (λ ys. x ∷ ys) (nothing_more xs)

same_rows : (town : Town) (rows : List Row) → AreMet town rows → AreMet town (rows ++ [])
same_rows town rows met = subst (AreMet town) (sym (nothing_more rows)) met

one_row_more : (town : Town) (rows : List Row) (row : Row) → ((steps : List Step) → is_tour town steps ≡ true → MeetsRow town steps row) → AreMet town rows → AreMet town (rows ++ row ∷ [])
one_row_more town rows row new met = λ steps tour. All-push (MeetsRow town steps) rows row (met steps tour) (new steps tour)

pub from_one : (most n : ℕ) → is_from_one most n ≡ true → 0 < n
from_one most n is = let least = leb-true 1 n (and_parts (nat_le 1 n) (nat_le n most) is).0 in omega arith

pub rows_after : (town : Town) (s : Standing) (item : Record) → is_none (broken_rule town s item) ≡ true → AreMet town s.rows → AreMet town (after town s item).rows
rows_after town s (Tour cost steps) sound met = same_rows town s.rows met
rows_after town s (Conn r1 r2 set) sound met =
    one_row_more town s.rows _ (λ steps tour. meets_conn town r1 r2 set steps (rules_kept (all_rules town s (Conn r1 r2 set)) sound 4) tour) met
rows_after town s (Odd set) sound met =
    one_row_more town s.rows _ (λ steps tour. meets_odd town set steps (rules_kept (all_rules town s (Odd set)) sound 4) tour) met
rows_after town s (Round divisor mult) sound met =
    let numbers = and_parts (is_from_one (2 ^ 20) divisor && true) (are_multipliers (2 ^ 40) mult) (rules_kept (all_rules town s (Round divisor mult)) sound 0) in
    let number = and_parts (is_from_one (2 ^ 20) divisor) true numbers.0 in
    one_row_more town s.rows _ (λ steps tour. meets_round town s.rows divisor mult steps (from_one (2 ^ 20) divisor number.0) (λ i. meets_at town steps s.rows i (met steps tour))) met
rows_after town s (Kc k of) sound met =
    let range = and_parts ((length of == length town.junctions) && nat_le 3 k) (list_all (λ i. nat_le i k) of) (rules_kept (all_rules town s (Kc k of)) sound 2) in
    let first = and_parts (length of == length town.junctions) (nat_le 3 k) range.0 in
    one_row_more town s.rows _ (λ steps tour. meets_chain town k of steps (leb-true 3 k first.1) range.1 (rules_kept (all_rules town s (Kc k of)) sound 4) tour) met
rows_after town s (Bound node den mult) sound met = same_rows town s.rows met
rows_after town s (Empty node mult) sound met = same_rows town s.rows met
rows_after town s (Apart node r1 r2 set) sound met = same_rows town s.rows met
rows_after town s (Point node den numbers) sound met = same_rows town s.rows met
rows_after town s (Blind node) sound met = same_rows town s.rows met
rows_after town s (Split node arc k) sound met = same_rows town s.rows met
rows_after town s (Labels labels streets) sound met = same_rows town s.rows met

-- the counts of a tour meet every row of a valid list
pub tours_meet_rows : (town : Town) (records : List Record) → is_valid town records ≡ true → AreMet town (standing town records).rows
tours_meet_rows town records valid =
    goes_on_keeps town (λ s. AreMet town s.rows) (rows_after town) (start town) records valid (meets_all town)
