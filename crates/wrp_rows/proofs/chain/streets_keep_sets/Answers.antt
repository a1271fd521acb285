use Rattle.std.proofs.Common.{◌<◌, ℕ, ◌||◌, not, length, sym, ◌∙◌, arith}
use Rattle.wrp_town.specs.Streets.{forward_arc}
use Rattle.wrp_town.specs.Arcs.{is_required}
use Rattle.wrp_rules.specs.Rows.{joins_ends, keeps_set}
use Rattle.wrp_rows.proofs.Ranges.{all_more, all_broken}
use Rattle.wrp_rows.proofs.chain.streets_keep_sets.Goals as goal

pub loop-street-preserved : goal.loop-street-preserved
loop-street-preserved c =
    let town = c.args.town.now in
    let of = c.args.of.now in
    all_more (λ (street : ℕ). not (is_required town street) || joins_ends town c.args.k of (forward_arc street) || keeps_set of town street) c.loop-street.street c.loop-street.invariant
    (sym c.may_join.ensures ∙ c.if-not-may_join.false)

pub returns-then-not-may_join : goal.returns-then-not-may_join
returns-then-not-may_join c =
    let town = c.args.town.now in
    let of = c.args.of.now in
    let below : c.loop-street.street < length town.streets = omega arith in
    sym (all_broken (λ (street : ℕ). not (is_required town street) || joins_ends town c.args.k of (forward_arc street) || keeps_set of town street) (length town.streets) c.loop-street.street below
    (sym c.may_join.ensures ∙ c.if-not-may_join.true))
