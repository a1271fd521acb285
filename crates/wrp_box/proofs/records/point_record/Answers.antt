use Rattle.std.proofs.Common.{◌≡◌, ℕ, Bool, ◌==◌, not, List, map, length, ap, sym, ◌∙◌, arith}
use Rattle.std.specs.List.{filter, range_with_len}
use Rattle.std.proofs.lemmas.List.FromFn.{filter_of_map_range_with_len_more}
use Rattle.wrp_rules.specs.declared.record.Record.TheVariants as records
use Rattle.wrp_writer.specs.Limits.{is_writable}
use Rattle.wrp_odd.specs.Points.{denominator_of, numbers_of}
use Rattle.wrp_box.specs.Points.{with_number, pairs_of}
use Rattle.wrp_box.proofs.Writable.{point_written}
use Rattle.wrp_box.proofs.records.point_record.Goals as goal

pub loop-arc-preserved : goal.loop-arc-preserved
loop-arc-preserved c =
    let arc = c.loop-arc.arc in
    let x = numbers_of c.args.point.now in
    let kept : ℕ × ℕ → Bool = λ q. not (q.1 == 0) in
    let pair : ℕ → ℕ × ℕ = λ a. (a, x a) in
    c.in_ok-add_number.ensures
    ∙ ap (λ (n : ℕ). with_number c.loop-arc.numbers (arc, n)) c.number_of.ensures
    ∙ ap (λ (pairs : List (ℕ × ℕ)). with_number pairs (arc, x arc)) c.loop-arc.invariant
    ∙ sym (filter_of_map_range_with_len_more kept pair 0 arc arc (omega arith))

pub returns : goal.returns
returns c =
    let node = c.args.node in
    let point = c.args.point.now in
    let end : c.loop-arc.arc ≡ length point.at = omega (arith, c.len-arc-end.ensures, c.loop-arc-test.false, c.loop-arc.auto.arc-end) in
    let are : c.loop-arc.numbers ≡ pairs_of point =
    c.loop-arc.invariant ∙ ap (λ (n : ℕ). filter (λ (q : ℕ × ℕ). not (q.1 == 0)) (map (λ (a : ℕ). (a, numbers_of point a)) (range_with_len 0 n))) end in
    let same : records.Point node c.den_of.result c.loop-arc.numbers ≡ records.Point node (denominator_of point) (pairs_of point) =
    ap (λ (d : ℕ). records.Point node d c.loop-arc.numbers) c.den_of.ensures ∙ ap (records.Point node (denominator_of point)) are in
    record {
      is = same;
      writable = ap is_writable same ∙ point_written c.requires.point.0 point c.requires.point.1 c.requires.numbers node c.requires.small;
    }
