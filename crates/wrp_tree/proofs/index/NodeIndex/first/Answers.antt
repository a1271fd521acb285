use Rattle.std.proofs.Common.{◌<◌, pos, length, get_or, List, ap, sym, ◌∙◌, subst, arith}
use Rattle.std.proofs.lemmas.List.{get_or_default}
use Rattle.wrp_tree.specs.declared.entries.Entry.{Entry}
use Rattle.wrp_tree.proofs.Indexing.{none_first, some_first}
use Rattle.wrp_tree.proofs.index.NodeIndex.first.Goals as goal

pub returns-in-empty : goal.returns-in-empty
returns-in-empty c = λ town nodes upper is.
    none_first town upper nodes c.args.self.now.entries.items is.entries (ap length (sym c.as_slice.ensures.value) ∙ omega (arith, c.in-empty.len_below))

pub returns-in-len1-up : goal.returns-in-len1-up
returns-in-len1-up c = λ town nodes upper is.
    let e = get_or c.as_slice.result.now 0 (record { bound = pos 0; node = 0 }) in
    let some : 0 < length c.as_slice.result.now = omega (arith, c.in-len1-up.len_at_least) in
    let items = c.as_slice.ensures.value in
    some_first town upper nodes c.args.self.now.entries.items e is.entries (subst (λ (xs : List Entry). 0 < length xs) items some)
    (ap (λ (xs : List Entry). get_or xs 0 e) (sym items) ∙ get_or_default c.as_slice.result.now 0 e (record { bound = pos 0; node = 0 }) some)
