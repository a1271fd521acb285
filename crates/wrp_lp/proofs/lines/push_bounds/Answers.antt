use Rattle.std.proofs.Common.{◌≡◌, ◌*◌, ◌++◌, ℕ, List, length, ap, sym, ◌∙◌, arith}
use Rattle.std.specs.Prelude.{slice_index}
use Rattle.std.specs.List.{range_with_len, flat_map}
use Rattle.std.proofs.lemmas.List.{flat_map_more}
use Rattle.wrp_town.proofs.Lists.{range_with_len-more}
use Rattle.wrp_tableau.specs.declared.line.Line.{Line}
use Rattle.wrp_lp.specs.Building.{lines_at}
use Rattle.wrp_lp.proofs.Making.{bound_lines_are}
use Rattle.wrp_lp.proofs.lines.push_bounds.Goals as goal

pub loop-arc-preserved : goal.loop-arc-preserved
loop-arc-preserved c =
    let town = c.args.town.now in
    let lo = c.args.bounds.now.lo in
    let hi = c.args.bounds.now.hi in
    let arc = c.loop-arc.arc in
    let old = c.args.lines.now.items in
    let at = λ (a : ℕ). lines_at town (slice_index lo a) (slice_index hi a) a in
    let added : c.push_arc.new.lines.items ≡ c.loop-arc.lines.items ++ at arc =
    c.in_ok-push_arc.ensures.lines
    ∙ ap (λ (xs : List ℕ). c.loop-arc.lines.items ++ lines_at town (slice_index xs arc) (slice_index c.as_slice-hi.result.now arc) arc) c.as_slice-lo.ensures
    ∙ ap (λ (xs : List ℕ). c.loop-arc.lines.items ++ lines_at town (slice_index lo arc) (slice_index xs arc) arc) c.as_slice-hi.ensures in
    record {
      lines = added
          ∙ ap (λ (xs : List Line). xs ++ at arc) c.loop-arc.invariant.lines
          ∙ flat_map_more at old (range_with_len 0 arc) arc
          ∙ ap (λ (xs : List ℕ). old ++ flat_map at xs) (sym (range_with_len-more 0 arc arc (omega arith)));
      fit = c.in_ok-push_arc.ensures.fit;
    }

pub returns-clause-lines : goal.returns-clause-lines
returns-clause-lines c =
    let town = c.args.town.now in
    let lo = slice_index c.args.bounds.now.lo in
    let hi = slice_index c.args.bounds.now.hi in
    let old = c.args.lines.now.items in
    let at = λ (arc : ℕ). lines_at town (lo arc) (hi arc) arc in
    let all : c.loop-arc.arc ≡ 2 * length town.streets = let e = c.len.ensures in let f = c.loop-arc-test.false in let g = c.loop-arc.auto.arc-end in omega arith in
    c.loop-arc.invariant.lines
    ∙ ap (λ (n : ℕ). old ++ flat_map at (range_with_len 0 n)) all
    ∙ ap (λ (xs : List Line). old ++ xs) (bound_lines_are town lo hi)
