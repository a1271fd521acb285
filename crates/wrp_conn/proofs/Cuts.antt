-- Light sets as connectivity cuts that a point breaks, and lists of these.
use Rattle.std.proofs.Common.{◌≡◌, ◌≢◌, ℕ, zero, suc, ◌+◌, ◌-◌, ◌*◌, ◌/◌, ◌^◌, ◌<◌, ◌≤◌, Bool, true, false, cond, ◌&&◌, ◌||◌, not, nat_lt, List, [], ◌∷◌, ◌++◌, length, filter, map, get_or, Option, Some, None, ap, refl, sym, ◌∙◌, subst, inl, inr, arith}
use Rattle.std.specs.Prelude.{AllPairs, IfSome, if◌then◌else◌}
use Rattle.std.specs.Option.{option_to_list}
use Rattle.std.specs.List.{All, list_all, range_with_len}
use Rattle.std.proofs.lemmas.Bool.{and_from, lt-ltb, false≢true}
use Rattle.std.proofs.lemmas.List.{get_or_default, get_or-map, length-map}
use Rattle.std.proofs.lemmas.List.Elements.{All-map, All-head}
use Rattle.std.proofs.lemmas.List.Edits.{length-insert}
use Rattle.wrp_town.specs.declared.town.Town.{Town}
use Rattle.wrp_town.specs.Arcs.{tail_of, head_of, junctions, is_required}
use Rattle.wrp_town.proofs.TownLaws.{tail_of-below, head_of-below, few_junctions, few_streets}
use Rattle.wrp_rules.specs.declared.record.Record.{Record}
use Rattle.wrp_rules.specs.declared.record.Record.TheVariants.{Conn}
use Rattle.wrp_rules.specs.declared.rule.Rule.{Rule}
use Rattle.wrp_rules.specs.declared.rule.Rule.TheVariants as rules
use Rattle.wrp_rules.specs.Nodes.{Standing, start}
use Rattle.wrp_rules.specs.Rows.{conn_row}
use Rattle.wrp_rules.specs.Rules.{all_below, streets_are_there, junctions_are_there}
use Rattle.wrp_rules.specs.Sets.{is_in, crosses, is_parted}
use Rattle.wrp_rules.specs.Ranges.{is_set}
use Rattle.wrp_webs.specs.TownWebs.{IsOnLegal, IsUncrossed, out_of_set}
use Rattle.wrp_webs.proofs.SumsBelow.{same_sum}
use Rattle.wrp_webs.proofs.ConnRows.{leaving_outside, conn_row_met}
use Rattle.wrp_webs.proofs.ConnFound.{found_parts}
use Rattle.wrp_webs.proofs.Found.{listed_is}
use Rattle.wrp_webs.proofs.MinOdd.{passing_ascends, passing_below}
use Rattle.wrp_rows.specs.declared.point.Point.{Point}
use Rattle.wrp_rows.specs.Marks.{is_marked}
use Rattle.wrp_odd.specs.Points.{denominator_of, numbers_of, Breaks}
use Rattle.wrp_odd.specs.Cuts.{IsValidCut}
use Rattle.wrp_odd.proofs.ClassCuts.{on_legal}
use Rattle.wrp_odd.proofs.Records.{set_short}
use Rattle.wrp_conn.specs.declared.found.Broken.{Broken}
use Rattle.wrp_conn.specs.Conns.{IsBalancedPoint, is_uncrossed, IsConnected, IsBrokenConn, set_of, leaving_at, AreBrokenConns}
use Rattle.wrp_conn.specs.Founds.{IsLight, IsCutOf, IsCutOfSide, item_of, IsWeighed, AreFound, HasSet, IsPlace, IsAddedOnce}
use Rattle.wrp_conn.proofs.Places.{all_insert, all_pairs_insert}
use Rattle.wrp_conn.proofs.Records.{conn_writable}

-- ---- the rules of a Conn record

both_kept : (a b : Bool) → a ≡ true → b ≡ true → ◌≡◌ {A = Option Rule} (if a then (if b then None else Some rules.Cross) else Some rules.Range) None
both_kept true true p q = refl
both_kept true false p q = absurd (false≢true q)
both_kept false b p q = absurd (false≢true p)

second_kept : (a b : Bool) → ◌≡◌ {A = Option Rule} (if a then (if b then None else Some rules.Cross) else Some rules.Range) None → b ≡ true
second_kept true true kept = refl
second_kept true false kept = cc
second_kept false b kept = cc

-- a valid Conn record parts two required streets
pub parted_of : (town : Town) (point : Point) (item : Record) → (broken : IsBrokenConn town point item) → is_parted town broken.r1 broken.r2 broken.set ≡ true
parted_of town point item broken =
    let valid = subst (IsValidCut town (start town)) broken.is (broken.valid (start town)) in
    second_kept (streets_are_there town (broken.r1 ∷ broken.r2 ∷ []) && junctions_are_there town broken.set) (is_parted town broken.r1 broken.r2 broken.set) valid.kept

-- ---- a set that no required street crosses, as a list

not_crossed : (r a b : Bool) → (r ≡ true → a ≡ b) → not (r && ((a && not b) || (not a && b))) ≡ true
not_crossed false a b same = refl
not_crossed true true true same = refl
not_crossed true false false same = refl
not_crossed true true false same = absurd (false≢true (sym (same refl)))
not_crossed true false true same = absurd (false≢true (same refl))

all_pass : (p : ℕ → Bool) (n a : ℕ) → ((k : ℕ) → k < a + n → p k ≡ true) → list_all p (range_with_len a n) ≡ true
all_pass p zero a passes = refl
all_pass p (suc n) a passes = and_from (p a) (list_all p (range_with_len (a + 1) n)) (passes a (omega arith)) (all_pass p n (a + 1) (λ k below. passes k (omega arith)))

module _ (town : Town) (set : ℕ → Bool) where
  abbrev listed : List ℕ
  listed = filter set (junctions town)

  is_listed : (j : ℕ) → j < length town.junctions → is_in listed j ≡ set j
  is_listed j below = listed_is set (length town.junctions) j below

  pub same_out : (x : ℕ → ℕ) → out_of_set town x (is_in listed) ≡ out_of_set town x set
  same_out x =
      same_sum (λ a. cond (is_in listed (tail_of town a) && not (is_in listed (head_of town a))) (x a) 0) (λ a. cond (set (tail_of town a) && not (set (head_of town a))) (x a) 0) (2 * length town.streets)
      (λ a below. ap (λ (b : Bool). cond (b && not (is_in listed (head_of town a))) (x a) 0) (is_listed (tail_of town a) (tail_of-below town a below))
      ∙ ap (λ (b : Bool). cond (set (tail_of town a) && not b) (x a) 0) (is_listed (head_of town a) (head_of-below town a below)))

  pub passes_uncrossed : IsUncrossed town set → is_uncrossed town listed ≡ true
  passes_uncrossed uncrossed = all_pass (λ s. not (is_required town s && crosses town listed (2 * s))) (length town.streets) 0
      (λ s below. not_crossed (is_required town s) (is_in listed (tail_of town (2 * s))) (is_in listed (head_of town (2 * s)))
      (λ required. is_listed (tail_of town (2 * s)) (tail_of-below town (2 * s) (omega arith))
      ∙ uncrossed (2 * s) (omega arith) (ap (is_required town) (half s) ∙ required)
      ∙ sym (is_listed (head_of town (2 * s)) (head_of-below town (2 * s) (omega arith)))))
    where
      half : (s : ℕ) → (2 * s) / 2 ≡ s
      half s = omega arith

-- ---- light sets

module _ (town : Town) (point : Point) (is : IsBalancedPoint town point) where
  pub on : IsOnLegal town (numbers_of point)
  on = on_legal town point is.is

  -- what is outside a light set
  pub light_outside : (r1 r2 value : ℕ) (set : ℕ → Bool) → IsLight town point r1 r2 value set → IsLight town point r2 r1 value (λ j. not (set j))
  light_outside r1 r2 value set light = record {
    first = light.second;
    second = light.first;
    uncrossed = λ arc below required. ap not (light.uncrossed arc below required);
    holds = ap not light.leaves_out;
    leaves_out = ap not light.holds;
    weighs = leaving_outside town (numbers_of point) on is.balanced set ∙ light.weighs;
    light = light.light;
  }

  module _ (r1 r2 value : ℕ) (set : ℕ → Bool) (light : IsLight town point r1 r2 value set) where
    valid : (s : Standing) → IsValidCut town s (Conn r1 r2 (listed town set))
    valid s = record {
      writable = conn_writable r1 r2 (listed town set) (omega (arith, light.first.below, few_streets town)) (omega (arith, light.second.below, few_streets town)) ascends
          (passing_below set 0 (length town.junctions) (2 ^ 32) (omega (arith, few_junctions town))) (omega (arith, set_short (length town.junctions) (listed town set) ascends inside, few_junctions town));
      kept = both_kept (streets_are_there town (r1 ∷ r2 ∷ []) && junctions_are_there town (listed town set)) (is_parted town r1 r2 (listed town set))
          (and_from (streets_are_there town (r1 ∷ r2 ∷ [])) (junctions_are_there town (listed town set))
          (and_from (nat_lt r1 (length town.streets)) (nat_lt r2 (length town.streets) && true) (lt-ltb r1 (length town.streets) light.first.below) (and_from (nat_lt r2 (length town.streets)) true (lt-ltb r2 (length town.streets) light.second.below) refl))
          inside)
          (found_parts town set r1 r2 light.uncrossed light.first.below light.second.below light.first.required light.second.required light.holds light.leaves_out);
    }
      where
        ascends : is_set (listed town set) ≡ true
        ascends = passing_ascends set 0 (length town.junctions) (2 ^ 32 - 1) (omega (arith, few_junctions town))

        inside : all_below (length town.junctions) (listed town set) ≡ true
        inside = passing_below set 0 (length town.junctions) (length town.junctions) (omega arith)

    weighs : out_of_set town (numbers_of point) (is_in (listed town set)) ≡ value
    weighs = same_out town set (numbers_of point) ∙ light.weighs

    broken : Breaks town point (conn_row town (listed town set))
    broken met = absurd (omega (arith, (conn_row_met town (numbers_of point) (denominator_of point) on (listed town set)).0 met, weighs, light.light))

    broken_conn : IsBrokenConn town point (Conn r1 r2 (listed town set))
    broken_conn = record { r1 = r1; r2 = r2; set = listed town set; is = refl; valid = valid; uncrossed = passes_uncrossed town set light.uncrossed; broken = broken }

    pub light_weighed : (cut : Broken) → cut.value ≡ value → IsCutOf (length town.junctions) set r1 r2 cut → IsWeighed town point cut
    light_weighed cut worth of = record {
      broken = subst (λ (a : ℕ). IsBrokenConn town point (Conn a cut.r2 cut.set)) (sym of.first)
          (subst (λ (b : ℕ). IsBrokenConn town point (Conn r1 b cut.set)) (sym of.second) (subst (λ (xs : List ℕ). IsBrokenConn town point (Conn r1 r2 xs)) (sym of.set) broken_conn));
      weighs = ap (λ (xs : List ℕ). out_of_set town (numbers_of point) (is_in xs)) of.set ∙ weighs ∙ sym worth;
    }

  -- the cut of a side or of what is outside
  pub side_weighed : (side : List Bool) (r1 r2 value : ℕ) (cut : Broken) → length side ≡ length town.junctions → IsLight town point r1 r2 value (is_marked side) → IsCutOfSide side r1 r2 cut → cut.value ≡ value → IsWeighed town point cut
  side_weighed side r1 r2 value cut long light (inl of) worth = light_weighed r1 r2 value (is_marked side) light cut worth (subst (λ (n : ℕ). IsCutOf n (is_marked side) r1 r2 cut) long of)
  side_weighed side r1 r2 value cut long light (inr of) worth =
      light_weighed r2 r1 value (λ j. not (is_marked side j)) (light_outside r1 r2 value (is_marked side) light) cut worth (subst (λ (n : ℕ). IsCutOf n (λ j. not (is_marked side j)) r2 r1 cut) long of)

-- ---- one cut more

differs : (cuts : List Broken) (set : List ℕ) → (HasSet cuts set → ⊥) → (k : ℕ) (d : Broken) → k < length cuts → (get_or cuts k d).set ≢ set
differs cuts set none k d below same = none (k, get_or cuts k d, below, get_or_default cuts k (get_or cuts k d) d below, same)

pub found_more : (town : Town) (point : Point) (cut : Broken) (old new : List Broken) → IsWeighed town point cut → IsAddedOnce cut old new → AreFound town point old → AreFound town point new
found_more town point cut old new weighed (inl there) are = subst (AreFound town point) (sym there.1) are
found_more town point cut old new weighed (inr more) are =
    let place = more.1.0 in
    let at : IsPlace old cut.value place = more.1.1 in
    subst (AreFound town point) (sym more.1.2) (record {
      broken = all_insert old place cut at.within (IsWeighed town point) are.broken weighed;
      apart = all_pairs_insert old place cut at.within (λ (a b : Broken). a.set ≢ b.set) are.apart
          (λ k d less. differs old cut.set more.0 k d (omega (arith, at.within))) (λ k d from below same. differs old cut.set more.0 k d below (sym same));
      ordered = all_pairs_insert old place cut at.within (λ (a b : Broken). a.value ≤ b.value) are.ordered at.before at.after;
    })

pub longer_by_one : (cut : Broken) (old new : List Broken) → IsAddedOnce cut old new → (length old ≤ length new) × (0 < length new)
longer_by_one cut old new (inl there) =
    let same : length new ≡ length old = ap (λ (xs : List Broken). length xs) there.1 in
    let below : there.0.0 < length old = there.0.2 in
    (omega arith, omega arith)
longer_by_one cut old new (inr more) =
    let count : length new ≡ length old + 1 = ap (λ (xs : List Broken). length xs) more.1.2 ∙ length-insert old more.1.0 cut more.1.1.within in
    (omega arith, omega arith)

pub none_found : (town : Town) (point : Point) (cuts : List Broken) → cuts ≡ [] → AreFound town point cuts
none_found town point cuts none = subst (AreFound town point) (sym none) (record { broken = λ k d below. absurd (omega arith); apart = λ i j d less below. absurd (omega arith); ordered = λ i j d less below. absurd (omega arith) })

-- ---- the records of the cuts

nothing : Broken
nothing = record { value = 0; r1 = 0; r2 = 0; set = [] }

pairs_of_items : (R : Record → Record → Type 0) (cuts : List Broken) → AllPairs (λ a b. R (item_of a) (item_of b)) cuts → AllPairs R (map item_of cuts)
pairs_of_items R cuts pairs = λ i j d less below.
    let count : length (map item_of cuts) ≡ length cuts = length-map cuts item_of in
    let inside : j < length cuts = omega arith in
    subst (λ (a : Record). R a (get_or (map item_of cuts) j d)) (sym (get_or-map item_of cuts i nothing d (omega arith)))
    (subst (R (item_of (get_or cuts i nothing))) (sym (get_or-map item_of cuts j nothing d inside)) (pairs i j nothing less inside))

pub broken_items : (town : Town) (point : Point) (cuts : List Broken) → AreFound town point cuts → AreBrokenConns town point (map item_of cuts)
broken_items town point cuts are = record {
  broken = All-map (IsBrokenConn town point) item_of cuts (λ k d below. (are.broken k d below).broken);
  apart = pairs_of_items (λ a b. set_of a ≢ set_of b) cuts are.apart;
  ordered = pairs_of_items (λ a b. leaving_at town point a ≤ leaving_at town point b) cuts
      (λ i j d less below. omega (arith, (are.broken i d (omega arith)).weighs, (are.broken j d below).weighs, are.ordered i j d less below));
}

-- a point that meets the rows breaks no cut
pub none_when_met : (town : Town) (point : Point) (cuts : List Broken) → AreFound town point cuts → IsConnected town point → cuts ≡ []
none_when_met town point [] are met = refl
none_when_met town point (cut ∷ cuts) are met =
    let broken = (are.broken 0 cut (omega arith)).broken in
    absurd (broken.broken (met broken.r1 broken.r2 broken.set (parted_of town point (item_of cut) broken) broken.uncrossed))

pub no_cuts : (cuts : List Broken) → map item_of cuts ≡ [] → cuts ≡ []
no_cuts [] none = refl
no_cuts (cut ∷ cuts) none = cc

pub first_broken : (town : Town) (point : Point) (items rest : List Record) (first : Option Record) → items ≡ option_to_list first ++ rest → All (IsBrokenConn town point) items → IfSome first (IsBrokenConn town point)
first_broken town point items rest None is all = tt
first_broken town point items rest (Some item) is all = All-head (IsBrokenConn town point) item rest (subst (All (IsBrokenConn town point)) is all)
