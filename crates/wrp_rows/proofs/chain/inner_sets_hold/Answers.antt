use Rattle.std.proofs.Common.{◌≡◌, ◌+◌, ◌-◌, ◌<◌, ℕ, length, false, get_or, ap, ◌∙◌, arith}
use Rattle.wrp_rows.specs.Chains.{holds_within}
use Rattle.wrp_rows.proofs.Ranges.{marks_are_test}
use Rattle.wrp_rows.proofs.chain.inner_sets_hold.Goals as goal

pub returns : goal.returns
returns c =
    let town = c.args.town.now in
    let of = c.args.of.now in
    let held = λ (i : ℕ). holds_within town of i (length town.streets) in
    let marked : (i : ℕ) → i < c.args.k - 1 → get_or c.mark_held.new.held i false ≡ held (1 + i) = λ i below.
    c.mark_held.ensures i (omega arith) ∙ ap held (omega arith) in
    c.are_marked.ensures
    ∙ marks_are_test held c.mark_held.new.held 1 (c.args.k - 1) (omega arith) marked
