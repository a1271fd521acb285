use Rattle.std.proofs.Common.{◌≡◌, ◌<◌, ◌≤◌, ◌∙◌, ◌+◌, ◌++◌, [], ◌∷◌, ℕ, List, length, get_or, drop, nat_eq, sym, ap, subst, rules, tests, arith}
use Rattle.std.specs.Prelude.{Err, Ok}
use Rattle.std.proofs.lemmas.List.{length_push}
use Rattle.std.proofs.lemmas.Iterator.Splits.{YieldsList-from_slice_split}
use Rattle.std.proofs.lemmas.Iterator.Consumers.{YieldsList-turn, YieldsList-end}
use Rattle.wrp_town.specs.declared.town.Town.{Town}
use Rattle.wrp_rules.specs.declared.record.Record.{Record}
use Rattle.wrp_keep.specs.Reopens.{lines_in, read_after, AddsLine, AddsLines}
use Rattle.wrp_keep.proofs.LogLines.{line_added, lines_refused, lines_ended}
use Rattle.wrp_keep.proofs.reading.add_lines.Goals as goal

pub loop-line-preserved : goal.loop-line-preserved
loop-line-preserved c =
    let pieces = YieldsList-from_slice_split _ (λ byte. nat_eq byte 10) c.args.payload.now (cc) (cc) (cc) (λ x b q k. search (rules, tests)) in
    let turn = YieldsList-turn pieces c.loop-line.yielded _ c.loop-line.yielded_by _ _ c.in-Some.line c.in-Some.is c.next.ensures.steps in
    let adds = rw c.loop-line.invariant.town at c.in_ok-add_line.ensures.adds in
    let lines = lines_in c.args.payload.now in
    record {
      town = c.in_ok-add_line.ensures.town ∙ c.loop-line.invariant.town;
      read =
          c.loop-line.invariant.read
          ∙ line_added c.args.tree.now.town lines c.loop-line.tree.records (length c.loop-line.yielded) c.in-Some.line.now turn adds.0 c.add_line.new.tree.records adds.1 adds.2
          ∙ ap (λ (n : ℕ). read_after c.args.tree.now.town c.add_line.new.tree.records (drop n lines)) (sym (length_push c.loop-line.yielded c.in-Some.line));
      writable = λ all. c.in_ok-add_line.ensures.writable (c.loop-line.invariant.writable all);
    }

pub returns-in_err-add_line-clause-adds : goal.returns-in_err-add_line-clause-adds
returns-in_err-add_line-clause-adds c =
    let pieces = YieldsList-from_slice_split _ (λ byte. nat_eq byte 10) c.args.payload.now (cc) (cc) (cc) (λ x b q k. search (rules, tests)) in
    let turn = YieldsList-turn pieces c.loop-line.yielded _ c.loop-line.yielded_by _ _ c.in-Some.line c.in-Some.is c.next.ensures.steps in
    let fault = c.in_err-add_line.field-0.0 in
    let is : c.from_residual.result ≡ Err fault = search rules in
    let adds = subst (λ (t : Town). AddsLine t c.in-Some.line.now c.loop-line.tree.records c.add_line.new.tree.records (Err fault)) c.loop-line.invariant.town c.in_err-add_line.ensures.adds in
    rw is (lines_refused c.args.tree.now.town (lines_in c.args.payload.now) c.args.tree.now.records c.loop-line.tree.records (length c.loop-line.yielded) c.in-Some.line.now turn c.loop-line.invariant.read
    fault c.add_line.new.tree.records adds)

pub returns-clause-adds : goal.returns-clause-adds
returns-clause-adds c =
    let pieces = YieldsList-from_slice_split _ (λ byte. nat_eq byte 10) c.args.payload.now (cc) (cc) (cc) (λ x b q k. search (rules, tests)) in
    let end = YieldsList-end pieces c.loop-line.yielded _ c.loop-line.yielded_by _ _ c.in-None.is c.next.ensures.steps in
    c.loop-line.invariant.read ∙ lines_ended c.args.tree.now.town (lines_in c.args.payload.now) c.loop-line.tree.records (length c.loop-line.yielded) (omega (arith, end.1))
