use Rattle.std.proofs.Common.{◌≡◌, ◌+◌, ◌-◌, ℕ, true, subst, sym, ◌∙◌, ap, arith}
use Rattle.std.specs.List.{list_all, range_with_len}
use Rattle.wrp_pool.specs.Chains.{mark_of}
use Rattle.wrp_pool.proofs.Ranges.{all_more_from, not_all_from}
use Rattle.wrp_pool.proofs.chain.are_inner_marked.Goals as goal

pub returns-then-not-held-i : goal.returns-then-not-held-i
returns-then-not-held-i c =
    let held = c.args.held.now in
    sym (not_all_from (mark_of held) 1 (c.args.last - 1) (c.loop-i.i - 1) (omega (arith, c.loop-i-test.true, c.loop-i.auto.i))
    (ap (mark_of held) (omega (arith, c.loop-i.auto.i)) ∙ c.if-not-held-i.true))

pub loop-i-preserved : goal.loop-i-preserved
loop-i-preserved c =
    let held = c.args.held.now in
    let i = c.loop-i.i in
    let more : list_all (mark_of held) (range_with_len 1 ((i - 1) + 1)) ≡ true = all_more_from (mark_of held) 1 (i - 1) i (omega (arith, c.loop-i.auto.i)) c.loop-i.invariant c.if-not-held-i.false in
    subst (λ (n : ℕ). list_all (mark_of held) (range_with_len 1 n) ≡ true) (omega (arith, c.loop-i.auto.i)) more
