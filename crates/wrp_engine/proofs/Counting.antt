-- What a round adds, sees and ends with.
use Rattle.std.proofs.Common.{◌≡◌, ℕ, suc, ◌+◌, ◌≤◌, Bool, true, false, cond, List, [], ◌∷◌, ◌++◌, length, Option, Some, None, Result, Ok, Err, ap, refl, sym, ◌∙◌, subst, arith, Bor}
use Rattle.std.specs.Prelude.{IfOk, IfSome}
use Rattle.std.specs.List.{All, fold}
use Rattle.std.specs.Option.{option_map}
use Rattle.std.proofs.lemmas.Bool.{false≢true}
use Rattle.std.proofs.lemmas.List.{length-append}
use Rattle.std.proofs.lemmas.List.Elements.{All-head, All-tail}
use Rattle.std.proofs.lemmas.List.Sums.{sum_by-cons}
use Rattle.wrp_town.specs.declared.town.Town.{Town}
use Rattle.wrp_rules.specs.declared.record.Record.{Record}
use Rattle.wrp_rules.specs.declared.record.Record.TheVariants.{Conn, Odd, Round, Kc}
use Rattle.wrp_rules.specs.Lists.{is_valid}
use Rattle.wrp_rules.specs.Nodes.{standing}
use Rattle.wrp_rules.specs.Rules.{is_cut}
use Rattle.wrp_rows.specs.declared.point.Point.{Point}
use Rattle.wrp_box.specs.Relaxing.{IsPointIn}
use Rattle.wrp_licence.specs.Causes.{is_split, cuts_of, count_since}
use Rattle.wrp_licence.proofs.Pools.{few_cuts}
use Rattle.wrp_keep.specs.Keeps.{KeepState}
use Rattle.wrp_engine.specs.declared.left.Left.{Left}
use Rattle.wrp_engine.specs.declared.left.RoundEnd.{RoundEnd}
use Rattle.wrp_engine.specs.declared.left.RoundEnd.TheVariants.{Cut, Last}
use Rattle.wrp_engine.specs.declared.sight.Sight.{Sight}
use Rattle.wrp_engine.specs.Searches.{now, at_node}
use Rattle.wrp_engine.specs.Additions.{is_tour, tours_of, AddsCuts, AddsOnlyCuts}
use Rattle.wrp_engine.specs.Turns.{EndsRounds}
use Rattle.wrp_engine.specs.Sights.{IsSight, IsSeen, KeepsBox, EndsCutting, EndsRound}
use Rattle.wrp_engine.proofs.Adding.{cuts_both, tours_both, cuts_then, cuts_weaker, only_count, only_cuts}

-- ---- counts of cuts

no_tour : (item : Record) → is_cut item ≡ true → is_tour item ≡ false
no_tour (Conn r1 r2 set) cut = refl
no_tour (Odd set) cut = refl
no_tour (Round divisor mult) cut = refl
no_tour (Kc k of) cut = refl
no_tour item cut = absurd (false≢true cut)

no_tours : (items : List Record) → All (λ item. is_cut item ≡ true) items → tours_of items ≡ 0
no_tours [] all = refl
no_tours (item ∷ items) all =
    omega (
      arith,
      sum_by-cons (λ r. cond (is_tour r) 1 0) item items,
      ap {B = ℕ} (λ (t : Bool). cond t 1 0) (no_tour item (All-head (λ r. is_cut r ≡ true) item items all)),
      no_tours items (All-tail (λ r. is_cut r ≡ true) item items all),
    )

-- behind what was told, cuts
pub told_then_cuts : (least : ℕ) (a b c : KeepState) → b.town ≡ a.town → AddsCuts 0 2 1 a b → AddsOnlyCuts least b c → AddsCuts 0 2 1 a c
told_then_cuts least a b c town told cuts =
    cuts_weaker (0 + least) 0 (2 + 0) 2 (1 + 0) 1 a c (omega arith) (omega arith) (omega arith)
    (cuts_then 0 least 2 0 1 0 a b c town told (only_cuts least b c cuts))

-- one cut pays for what was told
pub told_and_cut : (a b c : KeepState) → b.town ≡ a.town → AddsCuts 0 2 1 a b → AddsOnlyCuts 1 b c → AddsCuts 1 0 0 a c
told_and_cut a b c town told cuts =
    let both = cuts_then 0 1 2 0 1 0 a b c town told (only_cuts 1 b c cuts) in
    let first = told.adds.more in
    let all = only_count cuts.more cuts.cuts in
    let is : both.adds.more ≡ first ++ cuts.more = refl in
    record {
      adds = record {
        more = both.adds.more;
        is = both.adds.is;
        few = record {
          records = omega (arith, ap length is, ap cuts_of is, told.adds.few.records, cuts.some, all, length-append first cuts.more, cuts_both first cuts.more);
          tours = omega (arith, ap tours_of is, ap cuts_of is, told.adds.few.tours, cuts.some, all, no_tours cuts.more cuts.cuts, tours_both first cuts.more, cuts_both first cuts.more);
        };
        caused = both.adds.caused;
      };
      cuts = both.cuts;
    }

pub round_ends : (a b c : KeepState) (node round : ℕ) (end : RoundEnd) → b.town ≡ a.town → AddsCuts 0 2 1 a b → EndsCutting b c node round end → EndsRound a c node round end
round_ends a b c node round Cut town told ends = (told_and_cut a b c town told ends.0, ends.1)
round_ends a b c node round (Last left) town told ends = (ends.1, ends.2)

pub ends_round : {E : Type 0} (a b c : KeepState) (node round : ℕ) (result : Result RoundEnd E) → b.town ≡ a.town → AddsCuts 0 2 1 a b → IfOk result (EndsCutting b c node round) → IfOk result (EndsRound a c node round)
ends_round a b c node round (Ok end) town told ends = round_ends a b c node round end town told ends
ends_round a b c node round (Err fault) town told ends = record {}

-- ---- what a round sees

-- the keep's sight, where its tree gave it
pub sight_at : (keep : KeepState) (town : Town) (records : List Record) (node round : ℕ) (sight : Sight) → town ≡ keep.town → records ≡ keep.records → IsSight town records node round sight → IsSight keep.town keep.records node round sight
sight_at keep town records node round sight same are is =
    subst (λ (t : Town). IsSight t keep.records node round sight) same
    (subst (λ (rs : List Record). IsSight town rs node round sight) are is)

pub seen_at_first : (keep : KeepState) (node round : ℕ) (sight : Sight) → IsSight keep.town keep.records node round sight → IsSeen keep.town (now keep) node round sight.point sight.cuts.items
seen_at_first keep node round sight is = is.seen keep.records (record { rows = refl; cuts = refl; lo = refl; hi = refl })

pub seen_behind : (a b : KeepState) (node round : ℕ) (sight : Sight) → b.town ≡ a.town → IsSight a.town a.records node round sight → KeepsBox a.town node (now a) (now b) → IsSeen b.town (now b) node round sight.point sight.cuts.items
seen_behind a b node round sight town is stays =
    subst (λ (t : Town). IsSeen t (standing t b.records) node round sight.point sight.cuts.items) (sym town)
    (is.seen b.records (subst (λ (t : Town). KeepsBox a.town node (now a) (standing t b.records)) town stays))

abbrev pub pointed : Bor Point → Point
pointed p = p.now

-- the point that is shown lies in the node
pub within_seen : (keep : KeepState) (node round : ℕ) (point : Option Point) (cuts : List Record) (given : Option (Bor Point)) → option_map pointed given ≡ point → IsSeen keep.town (now keep) node round point cuts
    → IfSome given (λ p. IsPointIn keep.town (now keep) (at_node keep node) p.now)
within_seen keep node round point cuts None is seen = record {}
within_seen keep node round point cuts (Some p) is seen =
    (subst (λ (o : Option Point). IsSeen keep.town (now keep) node round o cuts) (sym is) seen).within

-- ---- rounds

since_most : (n : ℕ) (items : List Record) → fold count_since n items ≤ n + cuts_of items
since_most n [] = omega arith
since_most n (item ∷ items) =
    omega (
      arith,
      since_most (count_since n item) items,
      sum_by-cons (λ r. cond (is_cut r) 1 0) item items,
      one n (is_split item) (is_cut item),
    )
  where
    one : (n : ℕ) (s c : Bool) → cond s 0 (cond c (suc n) n) ≤ n + cond c 1 0
    one n true c = omega arith
    one n false true = omega arith
    one n false false = omega arith

-- no list has room for so many cuts
pub no_more_rounds : (least most most_tours : ℕ) (a b : KeepState) → is_valid b.town b.records ≡ true → 20001 ≤ least → AddsCuts least most most_tours a b → ⊥
no_more_rounds least most most_tours a b valid many adds =
    let few : cuts_of b.records ≤ 20000 = few_cuts b.town b.records valid in
    let both : cuts_of b.records ≡ cuts_of a.records + cuts_of adds.adds.more = ap cuts_of adds.adds.is ∙ cuts_both a.records adds.adds.more in
    omega (arith, few, both, many, adds.cuts [], since_most 0 adds.adds.more)

-- a round behind rounds that added cuts
pub round_more : (a b c : KeepState) (before : ℕ) → b.town ≡ a.town → AddsCuts before 0 0 a b → AddsCuts 1 0 0 b c → AddsCuts (before + 1) 0 0 a c
round_more a b c before town earlier adds = cuts_then before 1 0 0 0 0 a b c town earlier adds

pub round_behind : (a b c : KeepState) (before : ℕ) → b.town ≡ a.town → AddsCuts before 0 0 a b → AddsCuts 0 2 1 b c → AddsCuts before 2 1 a c
round_behind a b c before town earlier adds =
    cuts_weaker (before + 0) before (0 + 2) 2 (0 + 1) 1 a c (omega arith) (omega arith) (omega arith) (cuts_then before 0 0 2 0 1 a b c town earlier adds)

pub last_round : (a b c : KeepState) (node before round : ℕ) (left : Left) → b.town ≡ a.town → round ≤ before + 1 → AddsCuts before 0 0 a b → AddsCuts 0 2 1 b c → EndsRound b c node round (Last left) → EndsRounds a c node left
last_round a b c node before round left town next earlier adds ends = record {
  before = before;
  adds = round_behind a b c before town earlier adds;
  leaves = ends.0;
  rounded = λ opened few. ends.1 opened (omega (arith, next, few));
}
