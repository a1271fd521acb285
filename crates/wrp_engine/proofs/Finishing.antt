-- What the last round of a turn leaves of an open node, and leave to split it.
use Rattle.std.proofs.Common.{◌≡◌, ◌≢◌, ℕ, ◌*◌, ◌≤◌, ◌%◌, ◌/◌, Bool, true, false, ℤ, pos, ◌*ℤ◌, ◌≤ℤ◌, List, Option, Some, None, ap, refl, sym, ◌∙◌, subst, inl, inr, arith}
use Rattle.std.specs.Prelude.{IfSome}
use Rattle.std.specs.Option.{option_map}
use Rattle.wrp_sums.proofs.SumsOver.{sum_over-ext}
use Rattle.wrp_town.specs.declared.town.Town.{Town}
use Rattle.wrp_town.specs.Arcs.{is_legal, legal_arcs}
use Rattle.wrp_town.proofs.TownLaws.{legal_below}
use Rattle.wrp_rules.specs.declared.record.Record.{Record}
use Rattle.wrp_rules.specs.declared.record.Record.TheVariants as records
use Rattle.wrp_rules.specs.Rows.{Row, conn_row, odd_row, row_of}
use Rattle.wrp_rules.specs.Rules.{number_at}
use Rattle.wrp_rules.specs.Lists.{is_valid}
use Rattle.wrp_laws.specs.Points.{MeetsOver}
use Rattle.wrp_rows.specs.declared.point.Bounds.{Bounds}
use Rattle.wrp_rows.specs.declared.point.Point.{Point}
use Rattle.wrp_rows.specs.Points.{AreBoundsOf}
use Rattle.wrp_odd.specs.Points.{denominator_of, numbers_of}
use Rattle.wrp_progress.specs.Progress.{HasNoLabels}
use Rattle.wrp_box.specs.declared.branch.Branch.{Branch}
use Rattle.wrp_box.specs.Branching.{IsWithin, IsPart, PartsPoint}
use Rattle.wrp_box.specs.Points.{pairs_of, IsPointRecord}
use Rattle.wrp_box.specs.Relaxing.{IsPointIn}
use Rattle.wrp_licence.specs.Licences.{IsLicensed}
use Rattle.wrp_licence.specs.Roundings.{MeetsRoundings}
use Rattle.wrp_licence.specs.Causes.{HasBlindCause}
use Rattle.wrp_licence.proofs.PointNumbers.{number_of_pairs}
use Rattle.wrp_licence.proofs.PointRules.{record_stands}
use Rattle.wrp_keep.specs.Keeps.{KeepState, broken_by}
use Rattle.wrp_engine.specs.declared.left.Left.{Left}
use Rattle.wrp_engine.specs.Searches.{now, at_node, IsOpenAt}
use Rattle.wrp_engine.specs.Turns.{IsIdle, IsLeft, IsRoundedLeft}
use Rattle.wrp_engine.specs.Splits.{IsLicence, MaySplit, MeetsAt, IsRoundedLeave, IsSplitPoint, IsWholeAt, HasLeave}
use Rattle.wrp_engine.proofs.WholePoints.{not_whole}
use Rattle.wrp_engine.proofs.Working.{some_map}

-- ---- the numbers of a record are those of its point

meets_same : (town : Town) (e : ℕ) (x y : ℕ → ℕ) (row : Row) → ((arc : ℕ) → y arc ≡ x arc) → MeetsOver town e x row → MeetsOver town e y row
meets_same town e x y row same met =
    subst (λ (z : ℤ). (pos e *ℤ row.right_side) ≤ℤ z)
    (sum_over-ext (λ arc. row.coef arc *ℤ pos (x arc)) (λ arc. row.coef arc *ℤ pos (y arc)) (λ arc. ap (λ (n : ℕ). row.coef arc *ℤ pos n) (sym (same arc))) (legal_arcs town))
    met

pairs_meet : (town : Town) (point : Point) (row : Row) → MeetsOver town (denominator_of point) (numbers_of point) row → MeetsOver town (denominator_of point) (number_at (pairs_of point)) row
pairs_meet town point row met = meets_same town (denominator_of point) (numbers_of point) (number_at (pairs_of point)) row (number_of_pairs point) met

-- ---- within the box

pub within_bounds : (keep : KeepState) (node : ℕ) (bounds : Bounds) (point : Point) → AreBoundsOf keep.town (at_node keep node) bounds → IsPointIn keep.town (now keep) (at_node keep node) point → IsWithin keep.town bounds point
within_bounds keep node bounds point are within = record {
  at_least = λ arc legal. subst (λ (n : ℕ). n * denominator_of point ≤ numbers_of point arc) (sym (are.lo arc legal)) (within.of_node.at_least arc legal);
  at_most = λ arc legal. subst (λ (n : ℕ). numbers_of point arc ≤ n * denominator_of point) (sym (are.hi arc legal)) (within.of_node.at_most arc legal);
}

-- ---- a point that no cut cuts off

module _ (keep : KeepState) (node : ℕ) (branch : Branch) (opened : IsOpenAt keep node) (valid : is_valid keep.town keep.records ≡ true) (unlabelled : HasNoLabels keep.records) (legal : is_legal keep.town branch.arc ≡ true) where
  module _ (point : Point) (within : IsPointIn keep.town (now keep) (at_node keep node) point) (parts : PartsPoint keep.town (Some branch) point) where
    floor_is : IsPart keep.town (denominator_of point) (numbers_of point) branch.arc → branch.k ≡ numbers_of point branch.arc / denominator_of point
    floor_is part =
        let (b, is, at) = parts branch.arc part in
        let same : b ≡ branch = some_same b branch is in
        subst (λ (c : Branch). c.k ≡ numbers_of point c.arc / denominator_of point) same at.floor
      where
        some_same : (b c : Branch) → Some c ≡ Some b → b ≡ c
        some_same b c is = cc

    -- where the branch doesn't part the point, nothing does
    all_whole : numbers_of point branch.arc % denominator_of point ≡ 0 → (arc : ℕ) → IsPart keep.town (denominator_of point) (numbers_of point) arc → ⊥
    all_whole none arc part =
        let (b, is, at) = parts arc part in
        at.part.part (subst (λ (o : Option Branch). IfSome o (λ c. numbers_of point c.arc % denominator_of point ≡ 0)) is none)

    module _ (idle : IsIdle keep node point) where
      pub whole_blind : numbers_of point branch.arc % denominator_of point ≡ 0 → HasBlindCause keep.town keep.records node
      whole_blind none = elim idle.costs [
        | inl priced ↦ absurd (not_whole keep node point valid within opened idle.near idle.conns priced (all_whole none))
        | inr hard ↦ inr hard
      ]

      module _ (item : Record) (is : IsPointRecord node point item) (part : numbers_of point branch.arc % denominator_of point ≢ 0) where
        abbrev pairs : List (ℕ × ℕ)
        pairs = pairs_of point

        stands : broken_by item keep ≡ None → broken_by (records.Point node (denominator_of point) pairs) keep ≡ None
        stands none = ap (λ (r : Record). broken_by r keep) (sym is.is) ∙ none

        parted : IsPart keep.town (denominator_of point) (number_at pairs) branch.arc
        parted = record { legal = legal; part = λ none. part (ap (λ (n : ℕ). n % denominator_of point) (sym (number_of_pairs point branch.arc)) ∙ none) }

        licensed_here : broken_by item keep ≡ None → IsLicensed keep.town (now keep) node (denominator_of point) pairs
        licensed_here none = record {
          valid = stands none;
          arc = branch.arc;
          part = parted;
          conns = λ r1 r2 set apart uncrossed. pairs_meet keep.town point (conn_row keep.town set) (idle.conns r1 r2 set apart uncrossed);
          odds = λ set odd. pairs_meet keep.town point (odd_row keep.town set) (idle.odds set odd);
        }

        refused_blind : (broken_by item keep ≡ None → ⊥) → HasBlindCause keep.town keep.records node
        refused_blind refused = elim idle.costs [
          | inl priced ↦ absurd (refused (record_stands keep.town keep.records node point unlabelled opened (record { is = within; costs = priced; conns = idle.conns; odds = idle.odds }) item is))
          | inr hard ↦ inr hard
        ]

        pub licence : IsLicence keep node branch item
        licence = record {
          den = denominator_of point;
          numbers = pairs;
          is = is.is;
          writable = is.writable;
          part = parted;
          floor = floor_is (record { legal = legal; part = part }) ∙ ap (λ (n : ℕ). n / denominator_of point) (sym (number_of_pairs point branch.arc));
          licensed = licensed_here;
          refused = refused_blind;
        }

  -- ---- what is left gives leave

  module _ (left : Left) (is_left : IsLeft keep node left) (parts : IfSome left.point (PartsPoint keep.town (Some branch))) where
    at_point : (P : Point → Type 0) (point : Point) → left.point ≡ Some point → IfSome left.point P → P point
    at_point P point is told = subst (λ (o : Option Point). IfSome o P) is told

    abbrev within_node : Point → Type 0
    within_node = IsPointIn keep.town (now keep) (at_node keep node)

    abbrev meets_roundings : Point → Type 0
    meets_roundings p = MeetsRoundings keep.town (now keep) node (denominator_of p) (numbers_of p)

    by_point : (o : Option Point) (full : Bool) → left.point ≡ o → left.full ≡ full → IsWholeAt branch left → HasBlindCause keep.town keep.records node
    by_point o true at filled whole = inl (is_left.filled filled)
    by_point None false at room whole = inr (is_left.none at)
    by_point (Some point) false at room whole =
        whole_blind point (at_point within_node point at is_left.within) (at_point (PartsPoint keep.town (Some branch)) point at parts) (at_point (IsIdle keep node) point at (is_left.idle room))
        (at_point (λ p. numbers_of p branch.arc % denominator_of p ≡ 0) point at whole)

    pub may_split : (leave : Option Record) → HasLeave node branch left leave → MaySplit keep node branch leave
    may_split None (inl full) = inl (is_left.filled full)
    may_split None (inr whole) = by_point left.point left.full refl refl whole
    may_split (Some item) of =
        licence of.point (at_point within_node of.point of.is is_left.within) (at_point (PartsPoint keep.town (Some branch)) of.point of.is parts) (at_point (IsIdle keep node) of.point of.is (is_left.idle of.room))
        item of.record_of of.part

    meets_pairs : (point : Point) → MeetsRoundings keep.town (now keep) node (denominator_of point) (numbers_of point) → MeetsRoundings keep.town (now keep) node (denominator_of point) (number_at (pairs_of point))
    meets_pairs point meets item rounding =
        some_map (MeetsOver keep.town (denominator_of point) (numbers_of point)) (MeetsOver keep.town (denominator_of point) (number_at (pairs_of point)))
        (row_of keep.town (now keep).rows item) (pairs_meet keep.town point) (meets item rounding)

    pub rounded_leave : (leave : Option Record) → HasLeave node branch left leave → (added : List Record) → IsRoundedLeft keep node left added → IsRoundedLeave keep node leave added
    rounded_leave None of added rounded few = record {}
    rounded_leave (Some item) of added rounded few =
        subst (λ (r : Record). MeetsAt keep node r) (sym of.record_of.is)
        (meets_pairs of.point (at_point meets_roundings of.point of.is (rounded opened few of.room)))

-- what holds of a lent point holds of the point
pub seen_through : {B : Type 0} (now_of : B → Point) (P : Point → Type 0) (lent : Option B) (o : Option Point) → option_map now_of lent ≡ o → IfSome lent (λ p. P (now_of p)) → IfSome o P
seen_through now_of P None o is told = subst (λ (q : Option Point). IfSome q P) is tt
seen_through now_of P (Some p) o is told = subst (λ (q : Option Point). IfSome q P) is told

pub split_point : (keep : KeepState) (node : ℕ) (branch : Branch) (left : Left) → IsLeft keep node left → is_legal keep.town branch.arc ≡ true → IfSome left.point (λ p. (town : Town) × IsSplitPoint town branch p)
split_point keep node branch left is_left legal =
    some_map (IsPointIn keep.town (now keep) (at_node keep node)) (λ p. (town : Town) × IsSplitPoint town branch p) left.point
    (λ p is. (keep.town, record { is = is.is; numbers = is.numbers; arc = omega (arith, is.is.long, legal_below keep.town branch.arc legal) }))
    is_left.within
