use Rattle.std.proofs.Common.{List, subst, sym, ap, ◌∙◌, ◌-◌, take, drop}
use Rattle.wrp_town.specs.declared.street.Step.{Step}
use Rattle.wrp_tour.specs.Thinning.{IsKept, adds_service}
use Rattle.wrp_tour.proofs.Pieces.{kept_none, kept_with, kept_without}
use Rattle.wrp_tour.proofs.thinning.kept_pieces.Goals as goal

pub loop-start-init : goal.loop-start-init
loop-start-init c =
    subst (λ (xs : List Step). IsKept c.args.town.now c.args.arc c.args.steps.now 0 xs) (sym c.new-kept.ensures.items) (kept_none c.args.town.now c.args.arc c.args.steps.now c.requires)

pub loop-start-preserved-in_ok-extend_from_slice : goal.loop-start-preserved-in_ok-extend_from_slice
loop-start-preserved-in_ok-extend_from_slice c =
    let town = c.args.town.now in
    let steps = c.args.steps.now in
    let end = c.piece_end-end.result in
    let start = c.loop-start.start in
    let kept = c.loop-start.kept.items in
    let adds = ap (adds_service town (take (end - start) (drop start steps))) (sym c.deref.ensures.value) ∙ sym c.adds_service.ensures ∙ c.if-adds_service.true in
    subst (λ (xs : List Step). IsKept town c.args.arc steps end xs) (sym c.in_ok-extend_from_slice.ensures.items)
    (kept_with town c.args.arc steps kept start end c.loop-start.invariant c.piece_end-end.ensures adds)

pub loop-start-preserved : goal.loop-start-preserved
loop-start-preserved c =
    let town = c.args.town.now in
    let steps = c.args.steps.now in
    let end = c.piece_end-end.result in
    let start = c.loop-start.start in
    let adds = ap (adds_service town (take (end - start) (drop start steps))) (sym c.deref.ensures.value) ∙ sym c.adds_service.ensures ∙ c.if-adds_service.false in
    kept_without town c.args.arc steps c.loop-start.kept.items start end c.loop-start.invariant c.piece_end-end.ensures adds
