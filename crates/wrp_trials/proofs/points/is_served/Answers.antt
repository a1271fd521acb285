use Rattle.std.proofs.Common.{◌≡◌, ◌+◌, ◌*◌, ℕ, List, length, get_or, ap, subst, arith}
use Rattle.wrp_town.specs.declared.street.Need.{Need}
use Rattle.wrp_town.specs.declared.street.Street.{Street}
use Rattle.wrp_odd.proofs.ClassCuts.{on_legal}
use Rattle.wrp_odd.specs.Points.{denominator_of, numbers_of}
use Rattle.wrp_trials.specs.Served.{IsEnough}
use Rattle.wrp_trials.proofs.Served.{each_more, all_served}
use Rattle.wrp_trials.proofs.points.is_served.Goals as goal

with_numbers : (need : Need) (e f b den forward backward : ℕ) → e ≡ den → f ≡ forward → b ≡ backward → IsEnough need e f b → IsEnough need den forward backward
with_numbers need e f b den forward backward first second third enough =
    subst (λ (n : ℕ). IsEnough need den forward n) third (subst (λ (n : ℕ). IsEnough need den n b) second (subst (λ (n : ℕ). IsEnough need n f b) first enough))

pub loop-s-preserved : goal.loop-s-preserved
loop-s-preserved c =
    let point = c.args.point.now in
    let P = λ (s : ℕ) (street : Street). IsEnough street.need (denominator_of point) (numbers_of point (2 * s)) (numbers_of point (2 * s + 1)) in
    each_more P c.args.town.now.streets c.loop-s.s c.street-item.result
    (subst (λ (xs : List Street). c.street-item.result ≡ get_or xs c.loop-s.s c.street-item.result) c.as_slice-street-items.ensures c.street-item.is)
    (with_numbers c.street-item.result.need c.denominator.result c.number_at-forward.result c.number_at-backward.result _ _ _
    c.denominator.ensures.value c.number_at-forward.ensures.value c.number_at-backward.ensures.value (c.is_enough.ensures c.if-not-is_enough.false))
    c.loop-s.invariant

pub returns : goal.returns
returns c = λ told. all_served c.args.town.now c.args.point.now (on_legal c.args.town.now c.args.point.now c.requires.point)
    (λ s below. c.loop-s.invariant s (omega (arith, ap (λ (xs : List Street). length xs) c.as_slice-street-items.ensures)))
