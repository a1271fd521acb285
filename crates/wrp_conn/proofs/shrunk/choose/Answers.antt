use Rattle.std.proofs.Common.{ℕ, List, Option, None, get_or, sym, ap, ◌∙◌, arith}
use Rattle.wrp_parts.specs.RequiredParts.{part_at}
use Rattle.wrp_conn.proofs.Streets.{part_below, street_chosen, none_of}
use Rattle.wrp_conn.proofs.shrunk.choose.Goals as goal

pub bounds-streets-part-2 : goal.bounds-streets-part-2
bounds-streets-part-2 c =
    let of = c.args.parts.now.of in
    let has = ap (λ (os : List (Option ℕ)). get_or os c.tail.result None) (sym c.as_slice.ensures) ∙ c.in-Some.is in
    omega (arith, part_below c.args.town.now c.args.parts.now.count of c.requires.parts c.tail.result c.in-Some.part has, c.requires.before.long)

pub bounds-streets-part : goal.bounds-streets-part
bounds-streets-part c =
    let of = c.args.parts.now.of in
    let has = ap (λ (os : List (Option ℕ)). get_or os c.tail.result None) (sym c.as_slice.ensures) ∙ c.in-Some.is in
    omega (arith, part_below c.args.town.now c.args.parts.now.count of c.requires.parts c.tail.result c.in-Some.part has, c.requires.before.long)

pub returns-then-is_none : goal.returns-then-is_none
returns-then-is_none c =
    let of = c.args.parts.now.of in
    let has = ap (part_at of) (sym c.tail.ensures.value) ∙ ap (λ (os : List (Option ℕ)). get_or os c.tail.result None) (sym c.as_slice.ensures) ∙ c.in-Some.is in
    street_chosen c.args.town.now c.args.parts.now.count of c.args.street c.in-Some.part c.args.streets.now c.requires.parts c.requires.there (sym c.if-not-is_required.ensures) has (none_of (get_or c.args.streets.now c.in-Some.part None) c.if-is_none.ensures) c.requires.before
