use Rattle.std.proofs.Common.{◌≡◌, ◌%◌, ◌==◌, ℕ, Bool, Vec, Global, ap, ◌∙◌, sym, eq-eqb, arith}
use Rattle.std.proofs.lemmas.Bool.{ne_eqb}
use Rattle.wrp_webs.specs.Webs.{degrees, class}
use Rattle.wrp_webs.specs.Searching.{reading}
use Rattle.wrp_minodd.specs.Looks.{web_of}
use Rattle.wrp_minodd.proofs.Pushed.{passing_more, passing_less}
use Rattle.wrp_minodd.proofs.Nodes.{node_by_tally}
use Rattle.wrp_minodd.proofs.sides.odd_nodes.Goals as goal
use Rattle.wrp_minodd.proofs.sides.odd_nodes.Goals.{then-index-eq1+in_ok-push, else-index-eq1}

pub loop-node-preserved : goal.loop-node-preserved
loop-node-preserved c =
    let town = c.args.town.now in
    let point = c.args.point.now in
    let map = c.args.map.now in
    let node = c.loop-node.node in
    let test : ℕ → Bool = λ k. degrees (web_of town point) (class (reading map) k) % 2 == 1 in
    let parity : degrees (web_of town point) (class (reading map) node) % 2 ≡ c.index.result.now.demands % 2 =
    node_by_tally town point map c.in_ok-tallies.tallies.items c.in_ok-tallies.ensures.tallies node (omega arith) c.index.result.now c.index.ensures in
    elim c.if-index-eq1.branch [
      | then-index-eq1+in_ok-push w ↦ passing_more test node c.loop-node.nodes.items c.if-index-eq1.nodes.items c.loop-node.invariant (ap (λ (v : Vec ℕ Global). v.items) w.nodes-is ∙ w.in_ok-push.ensures.items) (eq-eqb _ 1 (parity ∙ w.if-index-eq1.true))
      | else-index-eq1 w ↦ passing_less test node c.loop-node.nodes.items c.if-index-eq1.nodes.items c.loop-node.invariant (ap (λ (v : Vec ℕ Global). v.items) w.nodes-is) (ne_eqb _ 1 (λ e. w.if-index-eq1.false (sym parity ∙ e)))
    ]
