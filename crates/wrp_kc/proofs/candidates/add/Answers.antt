use Rattle.std.proofs.Common.{◌≡◌, ◌<◌, ◌≤◌, ◌^◌, ◌∷◌, ◌++◌, [], List, Option, Some, ℕ, true, false, nat_le, length, ap, sym, subst, ◌∙◌, inl, inr, refl, arith}
use Rattle.std.specs.List.{list_all}
use Rattle.std.proofs.lemmas.Bool.{false≢true}
use Rattle.wrp_town.specs.declared.town.Town.{Town}
use Rattle.wrp_rules.specs.declared.record.Record.TheVariants.{Kc}
use Rattle.wrp_parts.specs.RequiredParts.{AreParts, part_at}
use Rattle.wrp_rows.specs.declared.point.Point.{Point}
use Rattle.wrp_rows.specs.Points.{IsPoint}
use Rattle.wrp_odd.specs.Points.{denominator_of, numbers_of}
use Rattle.wrp_kc.specs.declared.chain.Chain.{Chain}
use Rattle.wrp_kc.specs.Candidates.{sets_for, candidate, IsBrokenKc}
use Rattle.wrp_kc.specs.Chains.{IsChain, is_broken}
use Rattle.wrp_kc.proofs.ChainSets.{sets_long, sets_low}
use Rattle.wrp_kc.proofs.Broken.{shown, not_shown, long}
use Rattle.wrp_kc.proofs.candidates.add.Goals as goal
use Rattle.wrp_kc.proofs.candidates.add.Goals.{else-k-ge3-via-then-k-ge3+else-is_broken, else-k-ge3-via-else-k-ge3}

pub chain_of-requires-clause-of : goal.chain_of-requires-clause-of
chain_of-requires-clause-of c = ap length (c.as_slice.ensures ∙ c.in_ok-of.ensures) ∙ sets_long c.args.town.now c.args.parts.now.count c.args.parts.now.of c.requires.parts c.args.own c.args.u c.requires.own

pub chain_of-requires-clause-low : goal.chain_of-requires-clause-low
chain_of-requires-clause-low c =
    ap (list_all (λ set. nat_le set c.args.parts.now.count)) (c.as_slice.ensures ∙ c.in_ok-of.ensures) ∙ sets_low c.args.town.now c.args.parts.now.count c.args.parts.now.of c.requires.parts c.args.own c.args.u c.requires.own

module _ (town : Town) (count : ℕ) (of : List (Option ℕ)) (parts : AreParts town count of) (own u : ℕ) (has : part_at of u ≡ Some own) (few : count < 2 ^ 32) (point : Point) (is : IsPoint town point)
    (sets : List ℕ) (are_sets : sets ≡ sets_for town count of own u) (chain : Chain) (is_chain : IsChain town (numbers_of point) count sets (length town.streets) chain) (den : ℕ) (den_is : den ≡ denominator_of point) where
  of_sets : IsChain town (numbers_of point) count (sets_for town count of own u) (length town.streets) chain
  of_sets = subst (λ (xs : List ℕ). IsChain town (numbers_of point) count xs (length town.streets) chain) are_sets is_chain

  broken : 3 ≤ count → true ≡ is_broken count den chain → IsBrokenKc town point (candidate town count of own u)
  broken three test = shown town count of parts own u has few point is chain of_sets three (ap (λ (e : ℕ). is_broken count e chain) (sym den_is) ∙ sym test)

  not_broken : false ≡ is_broken count den chain → IsBrokenKc town point (candidate town count of own u) → ⊥
  not_broken test broken = false≢true (test ∙ ap (λ (e : ℕ). is_broken count e chain) den_is ∙ not_shown town count of parts own u has few point is chain of_sets broken)

pub returns-in_ok-push : goal.returns-in_ok-push
returns-in_ok-push c =
    let count = c.args.parts.now.count in
    let sets = c.as_slice.ensures ∙ c.in_ok-of.ensures in
    inl (
      broken c.args.town.now count c.args.parts.now.of c.requires.parts c.args.own c.args.u c.requires.own (omega arith) c.args.point.now c.requires.point c.as_slice.result.now sets c.chain_of.result c.chain_of.ensures c.denominator.result c.denominator.ensures.value c.if-k-ge3.true c.if-is_broken.ensures,
      c.in_ok-push.ensures.items ∙ ap (λ (xs : List ℕ). c.args.found.now.items ++ Kc count xs ∷ []) c.in_ok-of.ensures,
    )

pub returns-else-k-ge3 : goal.returns-else-k-ge3
returns-else-k-ge3 c =
    let town = c.args.town.now in
    let count = c.args.parts.now.count in
    let of = c.args.parts.now.of in
    let point = c.args.point.now in
    elim c.else-k-ge3.branch [
      | else-k-ge3-via-then-k-ge3+else-is_broken w ↦ inr (
        not_broken town count of c.requires.parts c.args.own c.args.u c.requires.own (omega arith) point c.requires.point w.as_slice.result.now (w.as_slice.ensures ∙ c.in_ok-of.ensures) w.chain_of.result w.chain_of.ensures w.denominator.result w.denominator.ensures.value w.if-is_broken.ensures,
        refl,
      )
      | else-k-ge3-via-else-k-ge3 w ↦ inr ((λ broken. absurd (omega (arith, w.if-k-ge3.false, long town point count (sets_for town count of c.args.own c.args.u) broken))), refl)
    ]
