use Rattle.std.proofs.Common.{◌≡◌, ◌+◌, ℕ, List, Option, rules, length, sym, subst, arith}
use Rattle.std.proofs.lemmas.List.{with_items_is}
use Rattle.wrp_conn.specs.Shrunk.{ArePartStreets}
use Rattle.wrp_conn.proofs.Streets.{no_streets}
use Rattle.wrp_conn.proofs.shrunk.part_streets.Goals as goal

pub loop-street-init : goal.loop-street-init
loop-street-init c = no_streets c.args.town.now c.args.parts.now.count c.args.parts.now.of c.in_ok-streets.streets.items (c.in_ok-streets.ensures.items_if_clones_equal (λ y h. search rules))

pub choose-requires-clause-before : goal.choose-requires-clause-before
choose-requires-clause-before c =
    subst (λ (xs : List (Option ℕ)). ArePartStreets c.args.town.now c.args.parts.now.count c.args.parts.now.of c.loop-street.street xs) (sym c.as_mut_slice.ensures.value) c.loop-street.invariant

pub loop-street-preserved : goal.loop-street-preserved
loop-street-preserved c =
    let long : length c.choose.new.streets ≡ c.loop-street.streets.len = omega (arith, c.choose.ensures.long, c.loop-street.invariant.long, c.loop-street.streets.ok.0) in
    subst (λ (xs : List (Option ℕ)). ArePartStreets c.args.town.now c.args.parts.now.count c.args.parts.now.of (c.loop-street.street + 1) xs) (sym (with_items_is c.loop-street.streets c.choose.new.streets long)) c.choose.ensures
