use Rattle.std.proofs.Common.{◌≡◌, ◌*◌, ℕ, ℤ, pos, Vec, Global, List, set, take, replicate, get_or, to_z, of_z, ap, sym, ◌∙◌, arith, rules}
use Rattle.std.specs.Option.{is_some}
use Rattle.std.specs.Int.{w64, w128}
use Rattle.std.proofs.lemmas.Int.{to_z-of_z}
use Rattle.std.proofs.lemmas.List.{take_all}
use Rattle.wrp_sums.proofs.Integers.{casts}
use Rattle.wrp_town.specs.Arcs.{is_legal}
use Rattle.wrp_tableau.proofs.Factoring.{cast}
use Rattle.wrp_lp.specs.Building.{coefs_of}
use Rattle.wrp_lp.proofs.Making.{coefs_start, coefs_set, coefs_skip}
use Rattle.wrp_lp.proofs.lines.coefs_of.Goals as goal
use Rattle.wrp_lp.proofs.lines.coefs_of.Goals.{then-is_some, else-is_some}

pub loop-arc-init : goal.loop-arc-init
loop-arc-init c =
    c.in_ok-coefs.ensures.items_if_clones_equal (λ y h. search rules)
    ∙ ap (λ (n : ℕ). replicate (2 * n) (pos 0)) c.len.ensures
    ∙ coefs_start c.args.town.now

pub loop-arc-preserved : goal.loop-arc-preserved
loop-arc-preserved c =
    let town = c.args.town.now in
    let terms = c.args.terms.now in
    let k = c.loop-arc.arc-index in
    let term = get_or terms k (0, pos 0) in
    let old = coefs_of town (take k terms) in
    let legal : c.is_some.result ≡ is_legal town term.0 = c.is_some.ensures ∙ ap is_some c.cost.ensures.value in
    elim c.if-is_some.branch [
      | then-is_some w ↦
          let small = c.requires.small k (0, pos 0) c.loop-arc-test.true in
          let value : ℤ = to_z w128 (of_z w128 w.from.result) in
          let plain : w.from.result ≡ term.1 = w.from.ensures ∙ to_z-of_z w64 term.1 (omega (arith, casts)) in
          let value_is : value ≡ term.1 = ap (λ (z : ℤ). to_z w128 (of_z w128 z)) plain ∙ cast term.1 (omega arith) in
          ap (λ (v : Vec ℤ Global). v.items) w.coefs-is
          ∙ ap (λ (xs : List ℤ). set xs term.0 value) c.loop-arc.invariant
          ∙ ap (λ (z : ℤ). set old term.0 z) value_is
          ∙ coefs_set town terms k c.requires c.loop-arc-test.true (sym legal ∙ w.if-is_some.true)
      | else-is_some w ↦
          ap (λ (v : Vec ℤ Global). v.items) w.coefs-is
          ∙ c.loop-arc.invariant
          ∙ coefs_skip town terms k c.requires c.loop-arc-test.true (sym legal ∙ w.if-is_some.false)
    ]

pub returns : goal.returns
returns c =
    c.from_vec.ensures ∙ c.loop-arc.invariant
    ∙ ap (coefs_of c.args.town.now) (take_all c.loop-arc.arc-index c.args.terms.now c.loop-arc-test.false)
