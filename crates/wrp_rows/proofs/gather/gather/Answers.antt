use Rattle.std.proofs.Common.{◌≡◌, ◌*◌, length, ap, ◌∙◌, arith}
use Rattle.std.specs.List.{filter, range_with_len}
use Rattle.std.proofs.Common.{map, ℕ}
use Rattle.wrp_graph.proofs.Keyed.{collected_more}
use Rattle.wrp_rows.specs.Pools.{is_term}
use Rattle.wrp_rows.specs.Patterns.{coef_by}
use Rattle.wrp_rows.proofs.Terms.{pattern_terms_small}
use Rattle.wrp_rows.proofs.gather.gather.Goals as goal

pub loop-arc-preserved : goal.loop-arc-preserved
loop-arc-preserved c =
    let town = c.args.town.now in
    let coef = coef_by town c.args.pattern in
    collected_more (λ a. (a, coef a)) (is_term town coef) c.loop-arc.arc c.loop-arc.terms.items c.add_term.new.terms.items c.loop-arc.invariant c.in_ok-add_term.ensures

pub returns-clause-small : goal.returns-clause-small
returns-clause-small c =
    let town = c.args.town.now in
    let coef = coef_by town c.args.pattern in
    let all : c.loop-arc.arc ≡ 2 * length town.streets = omega arith in
    pattern_terms_small town c.args.pattern c.loop-arc.terms.items c.requires
    (c.loop-arc.invariant ∙ ap (λ (n : ℕ). map (λ a. (a, coef a)) (filter (is_term town coef) (range_with_len 0 n))) all)
