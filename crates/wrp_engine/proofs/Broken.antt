-- Cuts that a point breaks are useful.
use Rattle.std.proofs.Common.{◌≡◌, ℕ, suc, ◌+◌, ◌≤◌, true, false, Bool, List, [], ◌∷◌, ◌++◌, take, length, Result, Ok, Err, refl, sym, ap, subst, ◌∙◌, arith}
use Rattle.std.specs.Prelude.{IfSome, OnOk, is_ok, if◌then◌else◌, nat_le}
use Rattle.std.specs.List.{All}
use Rattle.std.proofs.lemmas.List.Elements.{All-head, All-tail, All-weaker, All-append, All-take, All-push, All-same, All-nil}
use Rattle.wrp_town.specs.declared.town.Town.{Town}
use Rattle.wrp_rules.specs.declared.record.Record.{Record}
use Rattle.wrp_rules.specs.declared.record.Record.TheVariants.{Odd}
use Rattle.wrp_rules.specs.Nodes.{Standing}
use Rattle.wrp_rules.specs.Rows.{row_of}
use Rattle.wrp_rules.specs.Ranges.{most_multipliers}
use Rattle.wrp_rules.specs.Rules.{is_cut}
use Rattle.wrp_rows.specs.declared.point.Point.{Point}
use Rattle.wrp_rows.specs.Pools.{RowPool, HasRowsOf}
use Rattle.wrp_odd.specs.Points.{Breaks}
use Rattle.wrp_odd.specs.Found.{IsBrokenOddCut, set_of}
use Rattle.wrp_minodd.specs.Answers.{MeetsOdd}
use Rattle.wrp_conn.specs.Conns.{IsBrokenConn, IsConnected}
use Rattle.wrp_kc.specs.Candidates.{IsBrokenKc}
use Rattle.wrp_lp.specs.declared.lp.Lp.{Lp}
use Rattle.wrp_round.specs.Optima.{point_of, system_of}
use Rattle.wrp_round.specs.Broken.{IsBrokenRounding, AreFound}
use Rattle.wrp_round.specs.OddForms.{HasBaseRows, IsOddCut, form_rows, round_form, odd_form}
use Rattle.wrp_round.proofs.Cuts.{rounding_cut, odd_cut_broken, odd_cut_of}
use Rattle.wrp_licence.specs.Causes.{most_round_cuts}
use Rattle.wrp_engine.specs.Cuts.{IsUseful, AreUseful, AreOddCuts, AreBrokenOdds, MeetsNamed, IsUnbroken}

-- ---- one cut

module _ (town : Town) (s : Standing) (point : Point) (item : Record) where
  conn_useful : IsBrokenConn town point item → IsUseful town s point item
  conn_useful b = record {
    cut = ap is_cut b.is;
    broken = record { valid = b.valid s; broken = subst (λ (r : Record). IfSome (row_of town s.rows r) (Breaks town point)) (sym b.is) b.broken };
  }

  kc_useful : IsBrokenKc town point item → IsUseful town s point item
  kc_useful b = record {
    cut = ap is_cut b.is;
    broken = record { valid = b.valid s; broken = subst (λ (r : Record). IfSome (row_of town s.rows r) (Breaks town point)) (sym b.is) b.broken };
  }

  odd_useful : IsBrokenOddCut town point item → IsUseful town s point item
  odd_useful b = record { cut = ap is_cut b.odd; broken = odd_cut_broken town s point item b }

  rounding_useful : IsBrokenRounding town s point item → IsUseful town s point item
  rounding_useful b = record { cut = ap is_cut b.round; broken = rounding_cut town s point item b }

-- an odd cut's Round form is a cut
either_form : (town : Town) (set : List ℕ) (few : Bool) → is_cut (if few then round_form town set else Odd set) ≡ true
either_form town set true = refl
either_form town set false = refl

pub form_is_cut : (town : Town) (item form : Record) → form ≡ odd_form town (set_of item) → is_cut form ≡ true
form_is_cut town item form is = ap is_cut is ∙ either_form town (set_of item) (nat_le (length (form_rows town (set_of item))) most_multipliers)

-- ---- all of them

module _ (pool : RowPool) (point : Point) where
  pub none_useful : AreUseful pool point []
  none_useful = λ s rows base. All-nil (IsUseful pool.town s point)

  pub conns_useful : (items : List Record) → All (IsBrokenConn pool.town point) items → AreUseful pool point items
  conns_useful items broken = λ s rows base. All-weaker (IsBrokenConn pool.town point) (IsUseful pool.town s point) (conn_useful pool.town s point) items broken

  pub kcs_useful : (items : List Record) → All (IsBrokenKc pool.town point) items → AreUseful pool point items
  kcs_useful items broken = λ s rows base. All-weaker (IsBrokenKc pool.town point) (IsUseful pool.town s point) (kc_useful pool.town s point) items broken

  pub odds_useful : (items : List Record) → All (IsBrokenOddCut pool.town point) items → AreUseful pool point items
  odds_useful items broken = λ s rows base. All-weaker (IsBrokenOddCut pool.town point) (IsUseful pool.town s point) (odd_useful pool.town s point) items broken

  pub roundings_useful : (items : List Record) → ((s : Standing) → HasRowsOf s pool → All (IsBrokenRounding pool.town s point) items) → AreUseful pool point items
  roundings_useful items broken = λ s rows base. All-weaker (IsBrokenRounding pool.town s point) (IsUseful pool.town s point) (rounding_useful pool.town s point) items (broken s rows)

  pub taken_useful : (new items : List Record) (n : ℕ) → new ≡ take n items → AreUseful pool point items → AreUseful pool point new
  taken_useful new items n is useful = λ s rows base. All-same (IsUseful pool.town s point) new (take n items) is (All-take (IsUseful pool.town s point) n items (useful s rows base))

  pub pushed_useful : (new items : List Record) (item : Record) → new ≡ items ++ item ∷ [] → AreUseful pool point items → ((s : Standing) → HasRowsOf s pool → HasBaseRows pool.town s → IsUseful pool.town s point item) → AreUseful pool point new
  pushed_useful new items item is useful one = λ s rows base. All-same (IsUseful pool.town s point) new (items ++ item ∷ []) is (All-push (IsUseful pool.town s point) items item (useful s rows base) (one s rows base))

  -- with others behind them, where there was memory
  pub appended_useful : {X E : Type 0} (result : Result X E) (old more new : List Record) → new ≡ (if is_ok result then old ++ more else old) → AreUseful pool point old → AreUseful pool point more → OnOk result (AreUseful pool point new)
  appended_useful (Ok x) old more new is first others = λ s rows base. All-same (IsUseful pool.town s point) new (old ++ more) is (All-append (IsUseful pool.town s point) old more (first s rows base) (others s rows base))
  appended_useful (Err fault) old more new is first others = record {}

-- ---- the first of some odd cuts, and the others

module _ (town : Town) (item : Record) (items : List Record) where
  pub first_odd : AreOddCuts town (item ∷ items) → IsOddCut town item
  first_odd are = All-head (IsOddCut town) item items are

  pub other_odds : AreOddCuts town (item ∷ items) → AreOddCuts town items
  other_odds are = All-tail (IsOddCut town) item items are

  pub other_broken : (point : Point) → AreBrokenOdds town point (item ∷ items) → AreBrokenOdds town point items
  other_broken point are = record { serving = are.serving; broken = All-tail (IsBrokenOddCut town point) item items are.broken }

pub odd_cuts_of : (town : Town) (point : Point) (items : List Record) → All (IsBrokenOddCut town point) items → AreOddCuts town items
odd_cuts_of town point items broken = All-weaker (IsBrokenOddCut town point) (IsOddCut town) (odd_cut_of town point) items broken

-- ---- what emptiness says

pub empty_of : {X : Type 0} (xs : List X) → length xs ≡ 0 → xs ≡ []
empty_of [] none = refl
empty_of (x ∷ xs) none = cc

pub nothing_taken : {X : Type 0} (xs : List X) (n : ℕ) → take (suc n) xs ≡ [] → xs ≡ []
nothing_taken [] n none = refl
nothing_taken (x ∷ xs) n none = cc

nothing_first : {X : Type 0} (xs ys : List X) → xs ++ ys ≡ [] → xs ≡ []
nothing_first [] ys none = refl
nothing_first (x ∷ xs) ys none = cc

nothing_behind : {X : Type 0} (xs ys : List X) → xs ++ ys ≡ [] → ys ≡ []
nothing_behind [] ys none = none
nothing_behind (x ∷ xs) ys none = cc

module _ {X E : Type 0} where
  pub appended_first : (result : Result X E) (old more new : List Record) → new ≡ (if is_ok result then old ++ more else old) → OnOk result (new ≡ [] → old ≡ [])
  appended_first (Ok x) old more new is = λ none. nothing_first old more (sym is ∙ none)
  appended_first (Err fault) old more new is = record {}

  pub appended_behind : (result : Result X E) (old more new : List Record) → new ≡ (if is_ok result then old ++ more else old) → OnOk result (new ≡ [] → more ≡ [])
  appended_behind (Ok x) old more new is = λ none. nothing_behind old more (sym is ∙ none)
  appended_behind (Err fault) old more new is = record {}

-- so many more, where there was memory
pub grown_behind : {X E : Type 0} {P : Type 0} (result : Result X E) (old more new : List Record) → OnOk result (length new ≡ length old + length more) → (more ≡ [] → P) → OnOk result (new ≡ [] → P)
grown_behind (Ok x) old more new long then_is = λ none. let empty = ap length none in then_is (empty_of more (omega (arith, long, empty)))
grown_behind (Err fault) old more new long then_is = record {}

-- where all that are found are none, none is named
pub none_named : (pool : RowPool) (chosen : List ℕ) (lp : Lp) (found : List Record) → ((s : Standing) → HasRowsOf s pool → AreFound pool.town s (point_of lp) (system_of lp) chosen found) → found ≡ [] → MeetsNamed pool chosen lp
none_named pool chosen lp found named none = λ s rows. subst (AreFound pool.town s (point_of lp) (system_of lp) chosen) none (named s rows)

-- the point of an optimum, as its answer is given
module _ (pool : RowPool) (lp : Lp) (point : Point) (is : point_of lp ≡ point) where
  pub useful_at : (items : List Record) → AreUseful pool point items → AreUseful pool (point_of lp) items
  useful_at items useful = subst (λ (p : Point). AreUseful pool p items) (sym is) useful

  pub unbroken : (chosen : List ℕ) (round : ℕ) → IsConnected pool.town point → MeetsOdd pool.town point → (round ≤ most_round_cuts → MeetsNamed pool chosen lp) → IsUnbroken pool chosen round lp
  unbroken chosen round conns odds named =
      record { conns = subst (IsConnected pool.town) (sym is) conns; odds = subst (MeetsOdd pool.town) (sym is) odds; roundings = named }
