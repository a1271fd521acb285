use Rattle.std.proofs.Common.{ℕ, List, Option, None, is_some, get_or, sym, ap, ◌∙◌, arith}
use Rattle.std.proofs.lemmas.Bool.{true≢false}
use Rattle.wrp_conn.proofs.Streets.{part_below, part_has_street}
use Rattle.wrp_conn.proofs.shrunk.node_of.Goals as goal

pub bounds-in-Some : goal.bounds-in-Some
bounds-in-Some c =
    let of = c.args.parts.now.of in
    let has = ap (λ (os : List (Option ℕ)). get_or os c.args.j None) (sym c.as_slice.ensures) ∙ c.in-Some.is in
    omega (arith, part_below c.args.town.now c.args.parts.now.count of c.requires.parts c.args.j c.in-Some.part has, c.requires.streets.long)

pub unreachable-requires : goal.unreachable-requires
unreachable-requires c =
    let of = c.args.parts.now.of in
    let has = ap (λ (os : List (Option ℕ)). get_or os c.args.j None) (sym c.as_slice.ensures) ∙ c.in-Some.is in
    let some = part_has_street c.args.town.now c.args.parts.now.count of c.requires.parts c.args.streets.now c.requires.streets c.args.j c.in-Some.part c.requires.there has in
    true≢false (sym some ∙ ap is_some c.in-None-streets.is)
