use Rattle.std.proofs.Common.{◌≡◌, ◌<◌, ◌≤◌, ◌^◌, ℤ, pos, ◌+ℤ◌, List, get_or, length, to_z, of_z, unsigned_abs, refl, ap, sym, subst, ◌∙◌, arith}
use Rattle.std.specs.Int.{w128}
use Rattle.std.proofs.lemmas.List.{get_or_read}
use Rattle.wrp_sums.proofs.Integers.{casts}
use Rattle.wrp_town.proofs.TownLaws.{legal_below}
use Rattle.wrp_pool.proofs.Tallying.{adds_to_listed}
use Rattle.wrp_pool.specs.Tallies.{number_of}
use Rattle.wrp_pool.proofs.tally.Tally.add.Goals as goal

pub overflow_add-index_mut : goal.overflow_add-index_mut
overflow_add-index_mut c =
    let listed = c.in_ok-list.ensures in
    let inside : c.args.arc < length c.list.new.self.numbers.items = omega (arith, listed.is_tally.numbers, legal_below c.args.town.now c.args.arc c.requires.legal) in
    let read : c.index_mut.result.now ≡ number_of c.args.self.now c.args.arc = get_or_read c.list.new.self.numbers.items c.args.arc c.index_mut.result.now inside c.index_mut.ensures.value (pos 0) ∙ ap (λ (xs : List ℤ). get_or xs c.args.arc (pos 0)) listed.same in
    let small : unsigned_abs c.index_mut.result.now ≤ 2 ^ 125 = subst (λ z. unsigned_abs z ≤ 2 ^ 125) (sym read) (c.requires.room c.args.arc) in
    omega (arith, casts, small, c.requires.small)

pub returns : goal.returns
returns c =
    let listed = c.in_ok-list.ensures in
    let inside : c.args.arc < length c.list.new.self.numbers.items = omega (arith, listed.is_tally.numbers, legal_below c.args.town.now c.args.arc c.requires.legal) in
    let here : c.index_mut.result.now ≡ number_of c.list.new.self c.args.arc = get_or_read c.list.new.self.numbers.items c.args.arc c.index_mut.result.now inside c.index_mut.ensures.value (pos 0) in
    let read : c.index_mut.result.now ≡ number_of c.args.self.now c.args.arc = here ∙ ap (λ (xs : List ℤ). get_or xs c.args.arc (pos 0)) listed.same in
    let small : unsigned_abs c.index_mut.result.now ≤ 2 ^ 125 = subst (λ z. unsigned_abs z ≤ 2 ^ 125) (sym read) (c.requires.room c.args.arc) in
    let sum : to_z w128 (of_z w128 (to_z w128 (of_z w128 c.index_mut.result.now) +ℤ to_z w128 (of_z w128 c.args.number))) ≡ c.index_mut.result.now +ℤ c.args.number = omega (arith, casts, small, c.requires.small) in
    adds_to_listed c.args.town.now c.args.self.now c.list.new.self _ c.args.arc c.args.number _ listed inside
    (sum ∙ ap (λ (z : ℤ). z +ℤ c.args.number) here) refl refl refl
