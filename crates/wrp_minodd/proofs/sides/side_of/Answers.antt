use Rattle.std.proofs.Common.{◌≡◌, ◌<◌, length, ℕ, Bool, List, false, cond, get_or, ap, sym, ◌∙◌, arith}
use Rattle.std.proofs.lemmas.List.{with_items_is, get_or_default}
use Rattle.wrp_rules.specs.Sets.{is_in}
use Rattle.wrp_webs.specs.Searching.{reading}
use Rattle.wrp_minodd.proofs.Pushed.{values_more}
use Rattle.wrp_minodd.proofs.sides.side_of.Goals as goal
use Rattle.wrp_minodd.proofs.sides.side_of.Goals.{then-index, else-index}

inside : (map : List ℕ) (marks : List Bool) (n j : ℕ) → get_or map j 0 < length map → length marks ≡ n → n ≡ length map → get_or map j 0 < length marks
inside map marks n j below long same = omega arith

pub loop-node-preserved : goal.loop-node-preserved
loop-node-preserved c =
    let nodes = c.args.nodes.now in
    let map = c.args.map.now in
    let j = c.loop-node.node-index in
    let marked : c.index.result.now ≡ is_in nodes (reading map j) =
    c.index.ensures
    ∙ ap (λ (xs : List Bool). get_or xs (get_or map j 0) c.index.result.now) (with_items_is c.in_ok-marks.marks c.mark.new.marks (omega arith))
    ∙ get_or_default c.mark.new.marks (get_or map j 0) c.index.result.now false (inside c.args.map.now c.mark.new.marks c.in_ok-marks.marks.len j (c.requires.map j 0 (omega arith)) (omega arith) (omega (arith, c.in_ok-marks.ensures.len)))
    ∙ c.mark.ensures (get_or map j 0) in
    values_more (λ k. cond (is_in nodes (reading map k)) c.args.inside c.args.outside) j c.if-index.push c.loop-node.labels.items c.push.new.self.items c.loop-node.invariant c.in_ok-push.ensures.items
    (elim c.if-index.branch [
      | then-index w ↦ w.push-is ∙ ap (λ (b : Bool). cond b c.args.inside c.args.outside) (sym w.if-index.true ∙ marked)
      | else-index w ↦ w.push-is ∙ ap (λ (b : Bool). cond b c.args.inside c.args.outside) (sym w.if-index.false ∙ marked)
    ])
