use Rattle.std.proofs.Common.{◌≡◌, ◌*◌, ℕ, List, ◌++◌, length, ap, sym, ◌∙◌, arith}
use Rattle.std.specs.List.{flat_map, range_with_len}
use Rattle.wrp_rows.specs.Base.{ends_at}
use Rattle.wrp_rows.proofs.BaseRows.{ends_more, few_ends, ends_keys}
use Rattle.wrp_rows.proofs.base.stars.Goals as goal

pub loop-arc-preserved : goal.loop-arc-preserved
loop-arc-preserved c =
    c.in_ok-push_ends.ensures
    ∙ ap (λ (es : List (ℕ × ℕ)). es ++ ends_at c.args.town.now c.loop-arc.arc) c.loop-arc.invariant
    ∙ sym (ends_more c.args.town.now c.loop-arc.arc)

pub new-requires-clause-few_entries : goal.new-requires-clause-few_entries
new-requires-clause-few_entries c =
    let town = c.args.town.now in
    let all : c.loop-arc.arc ≡ 2 * length town.streets = omega arith in
    few_ends town c.as_slice.result.now (c.as_slice.ensures.value ∙ c.loop-arc.invariant ∙ ap (λ (n : ℕ). flat_map (ends_at town) (range_with_len 0 n)) all)

pub new-requires-clause-keys : goal.new-requires-clause-keys
new-requires-clause-keys c = λ k d below.
    let town = c.args.town.now in
    let all : c.loop-arc.arc ≡ 2 * length town.streets = omega arith in
    omega (arith, ends_keys town c.as_slice.result.now (c.as_slice.ensures.value ∙ c.loop-arc.invariant ∙ ap (λ (n : ℕ). flat_map (ends_at town) (range_with_len 0 n)) all) k d below)
