-- A connectivity cut that the only point of a node breaks shows that no arc leaves its set there.
use Rattle.std.proofs.Common.{◌≡◌, ℕ, ◌*◌, ◌^◌, ◌<◌, ◌≤◌, Bool, true, false, cond, ◌&&◌, ◌||◌, not, ◌==◌, List, [], ◌∷◌, ◌++◌, length, None, is_none, ap, refl, sym, ◌∙◌, subst, inl, inr, arith}
use Rattle.std.specs.Prelude.{unsigned_abs}
use Rattle.std.proofs.lemmas.Bool.{and_parts, cases_lt, eq-eqb}
use Rattle.wrp_sums.proofs.FirstNumbers.{passes_of_inside}
use Rattle.wrp_town.specs.declared.town.Town.{Town}
use Rattle.wrp_town.specs.Arcs.{is_legal, arcs, legal_arcs, tail_of, head_of}
use Rattle.wrp_town.proofs.Members.{all_from_members}
use Rattle.wrp_town.proofs.TownLaws.{legal_below}
use Rattle.wrp_rules.specs.declared.record.Record.{Record}
use Rattle.wrp_rules.specs.declared.record.Record.TheVariants.{Conn, Apart}
use Rattle.wrp_rules.specs.Nodes.{Node, start}
use Rattle.wrp_rules.specs.Contents.{has_number_rules}
use Rattle.wrp_rules.specs.Ranges.{is_set}
use Rattle.wrp_rules.specs.Rules.{streets_are_there, junctions_are_there}
use Rattle.wrp_rules.specs.Sets.{is_in, leaves, is_parted}
use Rattle.wrp_writer.specs.Limits.{is_writable}
use Rattle.wrp_laws.proofs.Rules.{rules_kept}
use Rattle.wrp_webs.specs.TownWebs.{out_of_set}
use Rattle.wrp_webs.proofs.ConnRows.{conn_row_met}
use Rattle.wrp_webs.proofs.SumsBelow.{term_sum}
use Rattle.wrp_rows.specs.declared.point.Point.{Point}
use Rattle.wrp_odd.specs.Points.{denominator_of, numbers_of}
use Rattle.wrp_odd.specs.Cuts.{IsValidCut, conditions_of}
use Rattle.wrp_odd.proofs.ClassCuts.{on_legal}
use Rattle.wrp_progress.specs.Progress.{HasNoLabels, IsDoneIn, IsOnePoint, is_shut}
use Rattle.wrp_progress.proofs.Branching.{apart_follows, shut_off}
use Rattle.wrp_conn.specs.Conns.{IsBrokenConn}
use Rattle.wrp_keep.specs.Keeps.{KeepState, broken_by}
use Rattle.wrp_engine.specs.Searches.{IsOpenAt, at_node}
use Rattle.wrp_engine.specs.Closing.{IsOnlyPoint, apart_of}
use Rattle.wrp_engine.proofs.Shutting.{apart_writable}

-- an arc that leaves a set that nothing leaves has no uses
silent : (out : Bool) (uses most : ℕ) → cond out uses 0 ≤ 0 → most ≡ uses → (not out || (most == 0)) ≡ true
silent false uses most none same = refl
silent true uses most none same = eq-eqb most 0 (omega (arith, none, same))

module _ (town : Town) (node : Node) (x : ℕ → ℕ) (one : IsOnePoint town node x) (set : List ℕ) (none : out_of_set town x (is_in set) ≡ 0) where
  none_leaves : is_shut town node set ≡ true
  none_leaves =
      all_from_members (λ arc. not (leaves town set arc) || (node.hi arc == 0)) (legal_arcs town)
      (λ arc inside.
      let legal = passes_of_inside (is_legal town) (arcs town) arc inside in
      silent (leaves town set arc) (x arc) (node.hi arc)
      (omega (arith, none, term_sum (λ a. cond (is_in set (tail_of town a) && not (is_in set (head_of town a))) (x a) 0) arc (2 * length town.streets) (legal_below town arc legal)))
      (one.hi arc legal))

-- ---- the cut

module _ (keep : KeepState) (node : ℕ) (point : Point) (only : IsOnlyPoint keep node point) (item : Record) (cut : IsBrokenConn keep.town point item) where
  abbrev town : Town
  town = keep.town

  abbrev conn : Record
  conn = Conn cut.r1 cut.r2 cut.set

  valid : IsValidCut town (start town) conn
  valid = subst (IsValidCut town (start town)) cut.is (cut.valid (start town))

  there : (streets_are_there town (cut.r1 ∷ cut.r2 ∷ []) ≡ true) × (junctions_are_there town cut.set ≡ true)
  there =
      and_parts (streets_are_there town (cut.r1 ∷ cut.r2 ∷ [])) (junctions_are_there town cut.set)
      (rules_kept (conditions_of town (start town) conn) (ap is_none valid.kept) 0)

  parted : is_parted town cut.r1 cut.r2 cut.set ≡ true
  parted = rules_kept (conditions_of town (start town) conn) (ap is_none valid.kept) 1

  ascends : is_set cut.set ≡ true
  ascends = (and_parts _ (is_set cut.set) (and_parts (has_number_rules conn) _ valid.writable).0).1

  none_out : out_of_set town (numbers_of point) (is_in cut.set) ≡ 0
  none_out = elim (cases_lt (out_of_set town (numbers_of point) (is_in cut.set)) (denominator_of point)) [
    | inl less ↦ omega (arith, less, ap unsigned_abs only.den)
    | inr most ↦ absurd (cut.broken ((conn_row_met town (numbers_of point) (denominator_of point) (on_legal town point only.is.is) cut.set).1 most))
  ]

  -- ---- what it says of the node

  apart_is : apart_of node item ≡ Apart node cut.r1 cut.r2 cut.set
  apart_is = ap (apart_of node) cut.is

  module _ (small : node < 2 ^ 63) where
    pub apart_written : is_writable (apart_of node item) ≡ true
    apart_written = ap is_writable apart_is ∙ apart_writable town node cut.r1 cut.r2 cut.set small there.0 there.1 ascends

    pub apart_next : HasNoLabels keep.records → IsOpenAt keep node → broken_by (apart_of node item) keep ≡ None
    apart_next unlabelled opened =
        ap (λ (r : Record). broken_by r keep) apart_is
        ∙ apart_follows town keep.records unlabelled node cut.r1 cut.r2 cut.set
        (apart_writable town node cut.r1 cut.r2 cut.set small there.0 there.1 ascends) opened there.0 there.1 parted
        (none_leaves town (at_node keep node) (numbers_of point) only.one cut.set none_out)

  pub apart_done : IsOpenAt keep node → IsDoneIn town (keep.records ++ apart_of node item ∷ []) node
  apart_done opened =
      subst (λ (r : Record). IsDoneIn town (keep.records ++ r ∷ []) node) (sym apart_is)
      (shut_off town keep.records node opened cut.r1 cut.r2 cut.set)
