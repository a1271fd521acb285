use Rattle.std.proofs.Common.{◌≤◌, ◌∙◌, Some, length, drop, ap, sym, arith}
use Rattle.std.proofs.lemmas.List.{take_rest, drop-drop}
use Rattle.wrp_out.proofs.CountFacts.{never_falls_same}
use Rattle.wrp_out.proofs.ReadFacts.{front_and_rest}
use Rattle.wrp_out.proofs.steady.SteadySourceSource.read.Goals as goal

pub returns-clause-took : goal.returns-clause-took
returns-clause-took c =
    let left = drop c.self.inside.at c.deref.result.now in
    let count = rw take_rest at c.copy_front-count.ensures.count in
    let copied = rw take_rest at c.copy_front-count.ensures.copied in
    let fits : c.copy_front-count.result ≤ length left = omega arith in
    let whole = front_and_rest left c.args.into.now _ c.copy_front-count.result fits copied in
    record {
      front = ap Some (sym c.self.view_is ∙ (rw (c.deref.ensures.value, drop-drop) at whole));
      faults = never_falls_same 0;
    }
