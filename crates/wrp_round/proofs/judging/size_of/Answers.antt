use Rattle.std.proofs.Common.{◌≡◌, ◌≤◌, ℕ, ℤ, max, unsigned_abs, to_z, of_z, FitsSigned, rules, sym, subst, arith}
use Rattle.std.specs.Int.{w128}
use Rattle.std.proofs.lemmas.Int.{to_z-of_z}
use Rattle.wrp_rows.specs.Tables.{number_at}
use Rattle.wrp_round.specs.Judging.{row_with, IsSizeOf}
use Rattle.wrp_round.proofs.Judged.{sizes_more, least_more, size_is}
use Rattle.wrp_round.proofs.judging.size_of.Goals as goal

pub loop-arc-preserved : goal.loop-arc-preserved
loop-arc-preserved c =
    let town = c.args.town.now in
    let sums = c.args.sums.now in
    let arc = c.loop-arc.arc in
    let most : c.max-size.result ≡ max c.loop-arc.size c.size_at.result = c.max-size.ensures in
    record {
      side = (let so_far = c.loop-arc.invariant.side in omega arith);
      coefs = λ a below legal. subst (λ (n : ℕ). unsigned_abs (number_at sums a) ≤ n) (sym most) (sizes_more town sums c.args.side arc c.loop-arc.size c.size_at.result c.size_at.ensures c.loop-arc.invariant.coefs a below legal);
      least = λ m within. subst (λ (n : ℕ). n ≤ m) (sym most) (least_more town sums (to_z w128 (of_z w128 c.args.side)) arc c.loop-arc.size c.size_at.result c.size_at.ensures c.loop-arc.invariant.least m within);
    }

pub returns : goal.returns
returns c =
    let fits : FitsSigned w128 c.args.side = search rules in
    subst (λ (z : ℤ). IsSizeOf c.args.town.now (row_with c.args.sums.now z) c.loop-arc.size) (to_z-of_z w128 c.args.side fits)
    (size_is c.args.town.now c.args.sums.now (to_z w128 (of_z w128 c.args.side)) c.loop-arc.arc c.loop-arc.size (omega arith) c.loop-arc.invariant.side c.loop-arc.invariant.coefs c.loop-arc.invariant.least)
