use Rattle.std.proofs.Common.{◌≡◌, ◌+◌, ◌<◌, ℤ, Option, Some, FitsSigned, rules, length, get_or, ap, sym, ◌∙◌, arith}
use Rattle.std.specs.Int.{w128, int_min}
use Rattle.std.specs.Option.{option_map_or}
use Rattle.std.proofs.lemmas.Int.{to_z-of_z}
use Rattle.wrp_nodes.specs.Kept.{kept_root}
use Rattle.wrp_nodes.proofs.Keeping.{zip_at, zip_length, same_open}
use Rattle.wrp_nodes.proofs.Least.{least_of, least_from, with_bound_of, no_node, least_taken, least_passed, least_of_all}
use Rattle.wrp_nodes.proofs.nodes.least_open.Goals as goal
use Rattle.wrp_nodes.proofs.nodes.least_open.Goals.{then-is_open, else-is_open}

pub loop-kept-preserved : goal.loop-kept-preserved
loop-kept-preserved c = λ stand zip.
    let i = c.loop-kept.kept-index in
    let upper = c.args.upper in
    let kept = get_or c.args.nodes.now i kept_root in
    let node = get_or stand i no_node in
    let rest = least_from upper stand (i + 1) in
    let both = zip_at c.args.nodes.now stand i kept_root no_node zip c.loop-kept-test.true in
    let below : i < length stand = omega (arith, zip_length c.args.nodes.now stand zip) in
    let same = same_open upper kept node both in
    elim c.if-is_open.branch [
      | then-is_open w ↦ (
          let fits : FitsSigned w128 w.lesser.result = search rules in
          let fits_own : FitsSigned w128 kept.bound = search rules in
          let own : c.if-is_open.least ≡ with_bound_of node.bound c.loop-kept.least =
          w.least-is ∙ ap (λ (z : ℤ). Some z) (to_z-of_z w128 w.lesser.result fits ∙ w.lesser.ensures ∙ ap (λ (z : ℤ). option_map_or (int_min z) c.loop-kept.least z) (to_z-of_z w128 kept.bound fits_own ∙ both.bound)) in
          ap (λ (z : Option ℤ). least_of z rest) own
          ∙ least_taken upper stand i no_node c.loop-kept.least below (sym same ∙ sym c.is_open.ensures ∙ w.if-is_open.true)
          ∙ c.loop-kept.invariant stand zip
          )
      | else-is_open w ↦ (
          ap (λ (z : Option ℤ). least_of z rest) w.least-is
          ∙ least_passed upper stand i no_node c.loop-kept.least below (sym same ∙ sym c.is_open.ensures ∙ w.if-is_open.false)
          ∙ c.loop-kept.invariant stand zip
          )
    ]

pub returns : goal.returns
returns c = λ stand zip.
    sym (least_of_all c.args.upper stand c.loop-kept.kept-index c.loop-kept.least (omega (arith, zip_length c.args.nodes.now stand zip)))
    ∙ c.loop-kept.invariant stand zip
