use Rattle.std.proofs.Common.{◌≡◌, ℕ, true, not, ap, sym, ◌∙◌, Option}
use Rattle.std.specs.Option.{is_some}
use Rattle.std.proofs.lemmas.Result.{on_ok_weaker}
use Rattle.wrp_town.specs.Arcs.{is_legal}
use Rattle.wrp_pool.proofs.Balances.{balances_step}
use Rattle.wrp_pool.proofs.base.push_arc.Goals as goal

pub returns : goal.returns
returns c =
    let legal : is_legal c.args.town.now c.args.arc ≡ true = ap (λ (o : Option ℕ). is_some o) (sym c.cost.ensures.value) ∙ c.is_none.ensures ∙ ap not c.if-is_none.false in
    on_ok_weaker c.push_term-2.result
    (λ second.
    balances_step c.args.town.now c.args.arc c.tail-tail.result c.head-head.result c.args.rows.now c.push_term.new.rows c.push_term-2.new.rows
    c.requires.before legal c.tail-tail.ensures.value c.head-head.ensures.value c.if-tail-head.false c.tail-tail.ensures.junction c.head-head.ensures.junction
    c.in_ok-push_term.ensures second c.push_term.auto.rows c.push_term-2.auto.rows)
    c.push_term-2.ensures
