-- A candidate is valid and broken exactly where its chain shows it.
use Rattle.std.proofs.Common.{◌≡◌, ℕ, ◌+◌, ◌-◌, ◌*◌, ◌^◌, ◌%◌, ◌<◌, ◌≤◌, true, ◌&&◌, ◌==◌, nat_lt, nat_le, List, [], ◌∷◌, length, Option, Some, Contains, ap, refl, sym, ◌∙◌, subst, inl, inr, ◌⊎◌, arith, eq-eqb}
use Rattle.std.specs.List.{All}
use Rattle.std.proofs.lemmas.Bool.{and_from, and_parts, leb-true, ltb-true, eqb-true, le-leb, lt-ltb, cases_lt, cases_eq}
use Rattle.std.proofs.lemmas.Option.{same_Some}
use Rattle.std.proofs.lemmas.List.Elements.{All-push, Contains-append_left, Contains-push}
use Rattle.wrp_town.specs.declared.town.Town.{Town}
use Rattle.wrp_rules.specs.declared.record.Record.{Record}
use Rattle.wrp_rules.specs.declared.record.Record.TheVariants.{Kc}
use Rattle.wrp_rules.specs.Nodes.{start}
use Rattle.wrp_rules.specs.Rows.{kc_row, joining_demands}
use Rattle.wrp_parts.specs.RequiredParts.{AreParts, part_at}
use Rattle.wrp_rows.specs.declared.point.Point.{Point}
use Rattle.wrp_rows.specs.Points.{IsPoint}
use Rattle.wrp_odd.specs.Points.{denominator_of, numbers_of, Breaks}
use Rattle.wrp_odd.proofs.ClassCuts.{on_legal}
use Rattle.wrp_kc.specs.declared.chain.Chain.{Chain}
use Rattle.wrp_kc.specs.Candidates.{IsBrokenKc, sets_for, candidate, HasCandidates, IsAdded}
use Rattle.wrp_kc.specs.Chains.{joining_count, IsChain, is_broken}
use Rattle.wrp_kc.proofs.Records.{IsJoined, joined_of, candidate_valid}
use Rattle.wrp_kc.proofs.Sums.{joining_is, row_met}

same_first : (k l : ℕ) (xs ys : List ℕ) → Kc k xs ≡ Kc l ys → k ≡ l
same_first k l xs ys same = cc

same_second : (k l : ℕ) (xs ys : List ℕ) → Kc k xs ≡ Kc l ys → xs ≡ ys
same_second k l xs ys same = cc

-- a broken Kc record has valid sets
joined_if_broken : (town : Town) (point : Point) (k : ℕ) (of : List ℕ) → IsBrokenKc town point (Kc k of) → IsJoined town k of
joined_if_broken town point k of broken = joined_of town k of (broken.valid (start town))

pub long : (town : Town) (point : Point) (k : ℕ) (of : List ℕ) → IsBrokenKc town point (Kc k of) → 3 ≤ k
long town point k of broken = (joined_if_broken town point k of broken).three

module _ (town : Town) (count : ℕ) (of : List (Option ℕ)) (parts : AreParts town count of) (own u : ℕ) (has : part_at of u ≡ Some own) (few : count < 2 ^ 32) (point : Point) (is : IsPoint town point) where
  abbrev sets : List ℕ
  sets = sets_for town count of own u

  module _ (chain : Chain) (is_chain : IsChain town (numbers_of point) count sets (length town.streets) chain) where
    abbrev side : ℕ
    side = denominator_of point * (2 * (count - 1) + (count - 2) * chain.joining)

    joining_same : joining_demands town count sets ≡ chain.joining
    joining_same = joining_is town (numbers_of point) count sets ∙ sym is_chain.joining

    side_same : side ≡ denominator_of point * (2 * (count - 1) + (count - 2) * joining_count town count sets (length town.streets))
    side_same = ap (λ (n : ℕ). denominator_of point * (2 * (count - 1) + (count - 2) * n)) is_chain.joining

    pub shown : 3 ≤ count → is_broken count (denominator_of point) chain ≡ true → IsBrokenKc town point (candidate town count of own u)
    shown three broken =
        let last = and_parts ((chain.joining % 2 == 0) && nat_le 2 chain.joining) (nat_lt chain.sum side) broken in
        let two = and_parts (chain.joining % 2 == 0) (nat_le 2 chain.joining) last.0 in
        let joined : IsJoined town count sets = record {
          three = three;
          even = ap (λ (n : ℕ). n % 2) joining_same ∙ eqb-true (chain.joining % 2) 0 two.0;
          two = omega (arith, leb-true 2 chain.joining two.1, joining_same);
        } in
        record {
          k = count;
          of = sets;
          is = refl;
          valid = candidate_valid town count of parts own u has few joined;
          broken = λ met. absurd (omega (arith, (row_met town (numbers_of point) count sets (on_legal town point is) (denominator_of point)).0 met, ltb-true chain.sum side last.1, side_same, is_chain.sum));
        }

    pub not_shown : IsBrokenKc town point (candidate town count of own u) → is_broken count (denominator_of point) chain ≡ true
    not_shown broken =
        let same_k : count ≡ broken.k = same_first count broken.k sets broken.of broken.is in
        let same_of : sets ≡ broken.of = same_second count broken.k sets broken.of broken.is in
        let joined = joined_if_broken town point count sets broken in
        let breaks = subst (λ (k : ℕ). Breaks town point (kc_row town k sets)) (sym same_k) (subst (λ (xs : List ℕ). Breaks town point (kc_row town broken.k xs)) (sym same_of) broken.broken) in
        let less : chain.sum < side = below breaks (cases_lt chain.sum side) in
        and_from ((chain.joining % 2 == 0) && nat_le 2 chain.joining) (nat_lt chain.sum side)
        (and_from (chain.joining % 2 == 0) (nat_le 2 chain.joining) (eq-eqb (chain.joining % 2) 0 (ap (λ (n : ℕ). n % 2) (sym joining_same) ∙ joined.even)) (le-leb 2 chain.joining (omega (arith, joined.two, joining_same))))
        (lt-ltb chain.sum side less)
      where
        below : Breaks town point (kc_row town count sets) → (chain.sum < side) ⊎ (side ≤ chain.sum) → chain.sum < side
        below breaks (inl less) = less
        below breaks (inr enough) = absurd (breaks ((row_met town (numbers_of point) count sets (on_legal town point is) (denominator_of point)).1 (omega (arith, side_same, is_chain.sum))))

-- ---- the candidates so far

pub all_more : (town : Town) (point : Point) (item : Record) (old new : List Record) → IsAdded town point item old new → All (IsBrokenKc town point) old → All (IsBrokenKc town point) new
all_more town point item old new (inl more) all = subst (All (IsBrokenKc town point)) (sym more.1) (All-push (IsBrokenKc town point) old item all more.0)
all_more town point item old new (inr same) all = subst (All (IsBrokenKc town point)) (sym same.1) all

kept_more : (town : Town) (point : Point) (item : Record) (old new : List Record) → IsAdded town point item old new → (other : Record) → Contains old other → Contains new other
kept_more town point item old new (inl more) other inside = subst (λ (xs : List Record). Contains xs other) (sym more.1) (Contains-append_left old (item ∷ []) other inside)
kept_more town point item old new (inr same) other inside = subst (λ (xs : List Record). Contains xs other) (sym same.1) inside

there_more : (town : Town) (point : Point) (item : Record) (old new : List Record) → IsAdded town point item old new → IsBrokenKc town point item → Contains new item
there_more town point item old new (inl more) broken = subst (λ (xs : List Record). Contains xs item) (sym more.1) (Contains-push old item)
there_more town point item old new (inr same) broken = absurd (same.0 broken)

pub has_more : (town : Town) (point : Point) (count : ℕ) (of : List (Option ℕ)) (u own : ℕ) (old new : List Record) → part_at of u ≡ Some own → IsAdded town point (candidate town count of own u) old new
    → HasCandidates town point count of u old → HasCandidates town point count of (u + 1) new
has_more town point count of u own old new has added before = λ v other below part broken. by v other below part broken (cases_eq v u)
  where
    by : (v other : ℕ) → v < u + 1 → part_at of v ≡ Some other → IsBrokenKc town point (candidate town count of other v) → (v ≡ u) ⊎ (v ≡ u → ⊥) → Contains new (candidate town count of other v)
    by v other below part broken (inl here) =
        let same : other ≡ own = same_Some other own (sym part ∙ ap (part_at of) here ∙ has) in
        let item : candidate town count of other v ≡ candidate town count of own u = ap (λ (k : ℕ). candidate town count of k v) same ∙ ap (candidate town count of own) here in
        subst (Contains new) (sym item) (there_more town point (candidate town count of own u) old new added (subst (IsBrokenKc town point) item broken))
    by v other below part broken (inr apart) = kept_more town point (candidate town count of own u) old new added (candidate town count of other v) (before v other (omega arith) part broken)

pub has_passed : (town : Town) (point : Point) (count : ℕ) (of : List (Option ℕ)) (u : ℕ) (items : List Record) → ((own : ℕ) → part_at of u ≡ Some own → ⊥) → HasCandidates town point count of u items → HasCandidates town point count of (u + 1) items
has_passed town point count of u items none before = λ v other below part broken. elim (cases_eq v u) [
  | inl here ↦ absurd (none other (sym (ap (part_at of) here) ∙ part))
  | inr apart ↦ before v other (omega arith) part broken
]
