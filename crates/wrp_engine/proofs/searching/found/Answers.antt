use Rattle.std.proofs.Common.{◌≡◌, FitsSigned, unsigned_abs, ap, refl, ◌∙◌, rules, arith}
use Rattle.std.specs.Int.{w128}
use Rattle.std.proofs.lemmas.Int.{to_z-of_z}
use Rattle.wrp_sums.proofs.Integers.{linear, sized}
use Rattle.wrp_rules.specs.Nodes.{standing}
use Rattle.wrp_progress.proofs.Ends.{optimal_agrees}
use Rattle.wrp_engine.proofs.Lowest.{low_is, high_is, lowest_is_below, lowest_is_not_negative, unfinished}
use Rattle.wrp_engine.proofs.searching.found.Goals as goal

pub overflow_cast-result : goal.overflow_cast-result
overflow_cast-result c =
    let town = c.args.tree.now.town in
    let records = c.args.tree.now.records in
    let node = c.in-Some.field-0 in
    let upper = high_is (standing town records).upper c.upper.result c.unwrap_or-high.result c.requires.upper c.upper.ensures c.unwrap_or-high.ensures in
    let low = low_is town records node c.in-Some.ensures c.lower.result c.unwrap_or.result c.lower.ensures.value c.unwrap_or.ensures in
    let fits : FitsSigned w128 c.unwrap_or.result = search rules in
    let abs : c.unsigned_abs.result ≡ unsigned_abs c.unwrap_or.result = c.unsigned_abs.ensures.value ∙ ap unsigned_abs (to_z-of_z w128 c.unwrap_or.result fits) in
    omega (
      arith,
      linear,
      sized,
      low,
      abs,
      lowest_is_below town records node c.in-Some.ensures c.unwrap_or-high.result upper,
      lowest_is_not_negative town records node c.in-Some.ensures c.requires.valid,
    )

pub returns-in-None : goal.returns-in-None
returns-in-None c =
    let town = c.args.tree.now.town in
    let records = c.args.tree.now.records in
    record {
      agreeing = optimal_agrees town records c.unwrap_or-high.result (λ i below. c.in-None.ensures i below)
          (high_is (standing town records).upper c.upper.result c.unwrap_or-high.result c.requires.upper c.upper.ensures c.unwrap_or-high.ensures);
      counts = tt;
    }

pub returns-in-Some : goal.returns-in-Some
returns-in-Some c =
    let town = c.args.tree.now.town in
    let records = c.args.tree.now.records in
    let node = c.in-Some.field-0 in
    let upper = high_is (standing town records).upper c.upper.result c.unwrap_or-high.result c.requires.upper c.upper.ensures c.unwrap_or-high.ensures in
    let low = low_is town records node c.in-Some.ensures c.lower.result c.unwrap_or.result c.lower.ensures.value c.unwrap_or.ensures in
    let fits : FitsSigned w128 c.unwrap_or.result = search rules in
    let abs : c.unsigned_abs.result ≡ unsigned_abs c.unwrap_or.result = c.unsigned_abs.ensures.value ∙ ap unsigned_abs (to_z-of_z w128 c.unwrap_or.result fits) in
    rw abs (record {
      agreeing = unfinished town records node c.in-Some.ensures c.unwrap_or.result c.unwrap_or-high.result low
          (omega (arith, linear, low, lowest_is_not_negative town records node c.in-Some.ensures c.requires.valid)) upper;
      counts = (refl, c.done.ensures, (node, record { there = c.in-Some.ensures.there; told = c.in-Some.ensures.told }));
    })
