use Rattle.std.proofs.Common.{FitsSigned, rules, unsigned_abs, ap, ◌∙◌}
use Rattle.std.specs.Int.{w128}
use Rattle.std.proofs.lemmas.Int.{to_z-of_z}
use Rattle.wrp_round.proofs.Named.{whole_test}
use Rattle.wrp_round.proofs.naming.is_whole.Goals as goal

pub returns : goal.returns
returns c =
    let first : FitsSigned w128 c.args.numerator = search rules in
    let second : FitsSigned w128 c.args.denominator = search rules in
    whole_test c.args.numerator c.args.denominator c.unsigned_abs.result c.unsigned_abs-2.result
    (c.unsigned_abs.ensures.value ∙ ap unsigned_abs (to_z-of_z w128 c.args.numerator first))
    (c.unsigned_abs-2.ensures.value ∙ ap unsigned_abs (to_z-of_z w128 c.args.denominator second))
