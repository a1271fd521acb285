use Rattle.std.proofs.Common.{ℕ, ◌+◌, ◌*◌, length, FitsSigned, to_z, of_z, rules, ap, sym, ◌∙◌, arith}
use Rattle.std.specs.Prelude.{nat_lt}
use Rattle.std.specs.Int.{w64}
use Rattle.std.proofs.lemmas.Int.{to_z-of_z}
use Rattle.wrp_rows.proofs.Stored.{few_base_rows, store_cleared, store_pushed, small_same}
use Rattle.wrp_rows.proofs.rows.Rows.prepare_cut.Goals as goal

pub overflow_add-room : goal.overflow_add-room
overflow_add-room c = omega (arith, few_base_rows c.self.inside.town.now)

pub invariant_of-self-in_err-push : goal.invariant_of-self-in_err-push
invariant_of-self-in_err-push c =
    store_cleared c.self.inside.town.now c.self.inside.table c.push.new.self c.self.inside.count c.self.inside.base c.self.inside.bench _ c.self.invariant (c.in_err-push.ensures.err ∙ c.truncate.ensures) c.make.ensures.bench

pub invariant_of-self-2 : goal.invariant_of-self-2
invariant_of-self-2 c =
    let side = c.in_ok-right_side.right_side in
    let fits : FitsSigned w64 side = search rules in
    let free = ap (λ (n : ℕ). nat_lt n (c.self.inside.base + 20000)) (sym c.len.ensures) ∙ c.in_ok-right_side.ensures.room in
    let small = small_same (2 * length c.self.inside.town.now.streets) c.make.new.self.terms.items c.as_slice.result.now side (to_z w64 (of_z w64 side)) c.in_ok-right_side.ensures.small c.as_slice.ensures.value (to_z-of_z w64 side fits) in
    store_pushed c.self.inside.town.now c.self.inside.table c.truncate.new.self c.push.new.self _ c.self.inside.count c.self.inside.base c.self.inside.bench _ c.self.invariant c.truncate.ensures c.in_ok-push.ensures.ok free small c.make.ensures.bench
