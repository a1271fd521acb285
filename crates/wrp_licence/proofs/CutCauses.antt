-- A cut that a point breaks is broken still behind further records.
use Rattle.std.proofs.Common.{◌≡◌, ℕ, ◌<◌, ◌≤◌, true, nat_lt, ℤ, pos, ◌*ℤ◌, ◌≤ℤ◌, List, [], ◌∷◌, ◌++◌, length, fold, is_none, Contains, ap, refl, sym, ◌∙◌, subst, append_assoc}
use Rattle.std.specs.Prelude.{IfSome}
use Rattle.std.specs.Option.{option_to_list}
use Rattle.std.proofs.lemmas.Bool.{ltb-true, false≢true}
use Rattle.std.proofs.lemmas.List.{append-nil, get_or_append_left}
use Rattle.wrp_sums.specs.Sums.{sum_over}
use Rattle.wrp_sums.specs.Rounding.{ceil_div}
use Rattle.wrp_sums.proofs.SumsOver.{sum_over-same, sum_over-ext}
use Rattle.wrp_town.specs.declared.town.Town.{Town}
use Rattle.wrp_town.specs.Arcs.{legal_arcs}
use Rattle.wrp_town.proofs.Members.{member_passes}
use Rattle.wrp_rules.specs.declared.record.Record.{Record}
use Rattle.wrp_rules.specs.declared.record.Record.TheVariants.{Tour, Conn, Odd, Round, Kc, Bound, Empty, Apart, Point, Blind, Split, Labels}
use Rattle.wrp_rules.specs.Rows.{Row, row_at, row_of, round_row}
use Rattle.wrp_rules.specs.Nodes.{Standing, standing, after}
use Rattle.wrp_rules.specs.Rules.{is_cut, rows_are_there}
use Rattle.wrp_laws.specs.Points.{MeetsOver}
use Rattle.wrp_laws.proofs.Rules.{rules_kept}
use Rattle.wrp_rows.specs.declared.point.Point as points
use Rattle.wrp_odd.specs.Points.{denominator_of, numbers_of, Breaks}
use Rattle.wrp_odd.specs.Cuts.{conditions_of}
use Rattle.wrp_round.specs.OddForms.{IsBrokenCut}
use Rattle.wrp_progress.proofs.Growing.{standing_both}
use Rattle.wrp_licence.specs.Causes.{most_round_cuts, IsPointAt, HasCutCause, IsCaused}

-- ---- rows are only added

rows_added : (town : Town) (s : Standing) (items : List Record) → (more : List Row) × ((fold (after town) s items).rows ≡ s.rows ++ more)
rows_added town s [] = ([], sym (append-nil s.rows))
rows_added town s (item ∷ items) =
    let rest = rows_added town (after town s item) items in
    (option_to_list (row_of town s.rows item) ++ rest.0, rest.1 ∙ append_assoc s.rows (option_to_list (row_of town s.rows item)) rest.0)

module _ (rows more : List Row) (divisor : ℕ) (mult : List (ℕ × ℕ)) (there : (q : ℕ × ℕ) → Contains mult q → q.0 < length rows) where
  same_row : (q : ℕ × ℕ) → Contains mult q → row_at rows q.0 ≡ row_at (rows ++ more) q.0
  same_row q inside = sym (get_or_append_left rows more (record { coef = λ arc. pos 0; right_side = pos 0 }) q.0 (there q inside))

  same_side : (round_row rows divisor mult).right_side ≡ (round_row (rows ++ more) divisor mult).right_side
  same_side =
      ap (λ (z : ℤ). ceil_div z divisor)
      (sum_over-same (λ q. pos q.1 *ℤ (row_at rows q.0).right_side) (λ q. pos q.1 *ℤ (row_at (rows ++ more) q.0).right_side) mult
      (λ q inside. ap (λ (r : Row). pos q.1 *ℤ r.right_side) (same_row q inside)))

  same_coef : (arc : ℕ) → (round_row rows divisor mult).coef arc ≡ (round_row (rows ++ more) divisor mult).coef arc
  same_coef arc =
      ap (λ (z : ℤ). ceil_div z divisor)
      (sum_over-same (λ q. pos q.1 *ℤ (row_at rows q.0).coef arc) (λ q. pos q.1 *ℤ (row_at (rows ++ more) q.0).coef arc) mult
      (λ q inside. ap (λ (r : Row). pos q.1 *ℤ r.coef arc) (same_row q inside)))

  met_before : (town : Town) (e : ℕ) (x : ℕ → ℕ) → MeetsOver town e x (round_row (rows ++ more) divisor mult) → MeetsOver town e x (round_row rows divisor mult)
  met_before town e x met =
      subst (λ (side : ℤ). (pos e *ℤ side) ≤ℤ sum_over (λ arc. (round_row rows divisor mult).coef arc *ℤ pos (x arc)) (legal_arcs town)) (sym same_side)
      (subst (λ (z : ℤ). (pos e *ℤ (round_row (rows ++ more) divisor mult).right_side) ≤ℤ z)
      (sum_over-ext (λ arc. (round_row (rows ++ more) divisor mult).coef arc *ℤ pos (x arc)) (λ arc. (round_row rows divisor mult).coef arc *ℤ pos (x arc))
      (λ arc. ap (λ (z : ℤ). z *ℤ pos (x arc)) (sym (same_coef arc))) (legal_arcs town))
      met)

-- ---- a broken cut behind further rows

module _ (town : Town) (s : Standing) (point : points.Point) (more : List Row) where
  breaks_behind : (item : Record) → is_cut item ≡ true → IsBrokenCut town s point item → IfSome (row_of town (s.rows ++ more) item) (Breaks town point)
  breaks_behind (Conn r1 r2 set) cut b = b.broken
  breaks_behind (Odd set) cut b = b.broken
  breaks_behind (Kc k of) cut b = b.broken
  breaks_behind (Round divisor mult) cut b = λ met.
      let named : rows_are_there s mult ≡ true = rules_kept (conditions_of town s (Round divisor mult)) (ap is_none b.valid.kept) 0 in
      b.broken
      (met_before s.rows more divisor mult (λ q inside. ltb-true q.0 (length s.rows) (member_passes (λ (p : ℕ × ℕ). nat_lt p.0 (length s.rows)) mult q named inside))
      town (denominator_of point) (numbers_of point) met)
  breaks_behind (Tour cost steps) cut b = absurd (false≢true cut)
  breaks_behind (Bound node den mult) cut b = absurd (false≢true cut)
  breaks_behind (Empty node mult) cut b = absurd (false≢true cut)
  breaks_behind (Apart node r1 r2 set) cut b = absurd (false≢true cut)
  breaks_behind (Point node den numbers) cut b = absurd (false≢true cut)
  breaks_behind (Blind node) cut b = absurd (false≢true cut)
  breaks_behind (Split node arc k) cut b = absurd (false≢true cut)
  breaks_behind (Labels labels streets) cut b = absurd (false≢true cut)

caused_by_cut : (town : Town) (entry added : List Record) (item : Record) → is_cut item ≡ true → HasCutCause town entry added item → IsCaused town entry added item
caused_by_cut town entry added (Conn r1 r2 set) cut cause = cause
caused_by_cut town entry added (Odd set) cut cause = cause
caused_by_cut town entry added (Round divisor mult) cut cause = cause
caused_by_cut town entry added (Kc k of) cut cause = cause
caused_by_cut town entry added (Tour cost steps) cut cause = absurd (false≢true cut)
caused_by_cut town entry added (Bound node den mult) cut cause = absurd (false≢true cut)
caused_by_cut town entry added (Empty node mult) cut cause = absurd (false≢true cut)
caused_by_cut town entry added (Apart node r1 r2 set) cut cause = absurd (false≢true cut)
caused_by_cut town entry added (Point node den numbers) cut cause = absurd (false≢true cut)
caused_by_cut town entry added (Blind node) cut cause = absurd (false≢true cut)
caused_by_cut town entry added (Split node arc k) cut cause = absurd (false≢true cut)
caused_by_cut town entry added (Labels labels streets) cut cause = absurd (false≢true cut)

pub cut_is_caused : (town : Town) (entry earlier between : List Record) (item : Record) (point : points.Point) → is_cut item ≡ true → length between ≤ most_round_cuts → IsPointAt town (entry ++ earlier) (denominator_of point) (numbers_of point) → IsBrokenCut town (standing town (entry ++ earlier)) point item → IsCaused town entry (earlier ++ between) item
cut_is_caused town entry earlier between item point cut near at broken =
    let s = standing town (entry ++ earlier) in
    let added = rows_added town s between in
    let rows_are : (standing town (entry ++ (earlier ++ between))).rows ≡ s.rows ++ added.0 =
    ap (λ (items : List Record). (standing town items).rows) (sym (append_assoc entry earlier between))
    ∙ ap (λ (t : Standing). t.rows) (standing_both town (entry ++ earlier) between) ∙ added.1 in
    caused_by_cut town entry (earlier ++ between) item cut (record {
      earlier = earlier;
      between = between;
      is = refl;
      near = near;
      e = denominator_of point;
      x = numbers_of point;
      point = at;
      breaks = subst (λ (rows : List Row). IfSome (row_of town rows item) (Breaks town point)) (sym rows_are) (breaks_behind town s point added.0 item cut broken);
    })
