use Rattle.std.proofs.Common.{ℕ, List, [], ◌∷◌, get_or, subst, arith}
use Rattle.std.specs.List.{Contains}
use Rattle.std.proofs.lemmas.List.{nil_from_length}
use Rattle.std.proofs.lemmas.List.Elements.{Contains-get_or}
use Rattle.wrp_parts.specs.Traversal.{IsVisit}
use Rattle.wrp_parts.proofs.Spreading.{IsSpreading, spreading_first, spreading_more, spread_at_end, next_inside}
use Rattle.wrp_parts.proofs.traversal.spread.Goals as goal

pub loop-j-init : goal.loop-j-init
loop-j-init c =
    spreading_first c.args.rows.now c.args.root c.args.part c.args.of.now c.meet.new.of c.meet.new.stack.items c.requires.parts c.requires.fresh.fresh
    (subst (λ (s : List ℕ). IsVisit (c.args.root ∷ []) c.args.part c.args.of.now s c.meet.new.of c.meet.new.stack.items) c.new-stack.ensures.items c.in_ok-meet.ensures)

pub bucket-requires : goal.bucket-requires
bucket-requires c =
    next_inside c.args.rows.now c.args.root c.args.part c.in-Some.j c.args.of.now c.loop-j.of c.pop.new.self.items c.requires.parts
    (subst (λ (s : List ℕ). IsSpreading c.args.rows.now c.args.root c.args.part c.args.of.now c.loop-j.of s) c.in-Some.ensures.items c.loop-j.invariant)

pub visit-requires : goal.visit-requires
visit-requires c = λ k d small.
    let near = subst (λ (xs : List ℕ). Contains xs (get_or c.bucket.result.now k d)) c.bucket.ensures (Contains-get_or c.bucket.result.now k d small) in
    omega (arith, c.requires.network.below c.in-Some.j (get_or c.bucket.result.now k d) near, c.loop-j.invariant.long, c.requires.parts.long)

pub loop-j-preserved : goal.loop-j-preserved
loop-j-preserved c =
    spreading_more c.args.rows.now c.args.root c.args.part c.in-Some.j c.args.of.now c.loop-j.of c.visit.new.of c.pop.new.self.items c.visit.new.stack.items c.requires.network c.requires.parts
    (subst (λ (s : List ℕ). IsSpreading c.args.rows.now c.args.root c.args.part c.args.of.now c.loop-j.of s) c.in-Some.ensures.items c.loop-j.invariant)
    (subst (λ (xs : List ℕ). IsVisit xs c.args.part c.loop-j.of c.pop.new.self.items c.visit.new.of c.visit.new.stack.items) c.bucket.ensures c.in_ok-visit.ensures)

pub returns : goal.returns
returns c =
    let empty = nil_from_length c.loop-j.stack.items (omega (arith, c.in_default.ensures.cases.0)) in
    spread_at_end c.args.rows.now c.args.root c.args.part c.args.of.now c.loop-j.of c.requires.network c.requires.fresh c.requires.parts
    (subst (λ (s : List ℕ). IsSpreading c.args.rows.now c.args.root c.args.part c.args.of.now c.loop-j.of s) empty c.loop-j.invariant)
