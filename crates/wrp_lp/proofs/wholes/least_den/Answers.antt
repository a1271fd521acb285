use Rattle.std.proofs.Common.{length, sym, subst, arith}
use Rattle.std.proofs.lemmas.List.{length-map}
use Rattle.wrp_tableau.specs.Rows.{equation}
use Rattle.wrp_tableau.specs.Kept.{system}
use Rattle.wrp_tableau.proofs.Factoring.{cast}
use Rattle.wrp_lp.specs.Wholes.{IsDenOf, AreValuesWhole}
use Rattle.wrp_lp.proofs.Denominators.{small_den, some_least, whole_large}
use Rattle.wrp_lp.proofs.wholes.least_den.Goals as goal

pub returns-clause-least : goal.returns-clause-least
returns-clause-least c =
    let s = system c.args.tableau.now in
    let values = c.in_ok-den.den in
    let rows = length-map c.args.tableau.now.rows equation in
    let is : IsDenOf (AreValuesWhole s (length s.rows)) values = subst (λ n. IsDenOf (AreValuesWhole s n) values) (sym rows) c.in_ok-den.ensures.some in
    let small = small_den values is.is_den in
    some_least s c.args.n values c.multipliers_den.result is (rw (cast values (omega arith)) at c.multipliers_den.ensures.some)

pub returns-clause-none : goal.returns-clause-none
returns-clause-none c = λ none.
    let s = system c.args.tableau.now in
    let values = c.in_ok-den.den in
    let rows = length-map c.args.tableau.now.rows equation in
    let is : IsDenOf (AreValuesWhole s (length s.rows)) values = subst (λ n. IsDenOf (AreValuesWhole s n) values) (sym rows) c.in_ok-den.ensures.some in
    let small = small_den values is.is_den in
    whole_large s c.args.n values is (rw (cast values (omega arith)) at (c.multipliers_den.ensures.none none))
