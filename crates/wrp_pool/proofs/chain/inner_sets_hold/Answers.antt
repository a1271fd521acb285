use Rattle.std.proofs.Common.{◌-◌, Bool, List, ap, ◌∙◌}
use Rattle.std.specs.List.{list_all, range_with_len}
use Rattle.wrp_pool.specs.Chains.{mark_of}
use Rattle.wrp_pool.proofs.Holders.{too_many_sets, inner_marked}
use Rattle.wrp_pool.proofs.chain.inner_sets_hold.Goals as goal

pub returns-then-last-of : goal.returns-then-last-of
returns-then-last-of c = too_many_sets c.args.town.now c.args.last c.args.of.now c.requires c.if-last-of.true

pub returns : goal.returns
returns c =
    c.are_inner_marked.ensures
    ∙ ap (λ (marks : List Bool). list_all (mark_of marks) (range_with_len 1 (c.args.last - 1))) c.as_slice.ensures.value
    ∙ inner_marked c.args.town.now c.args.last c.args.of.now c.in_ok-held.held.items c.in_ok-held.ensures.marks c.in_ok-held.ensures.long
