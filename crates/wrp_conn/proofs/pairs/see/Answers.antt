use Rattle.std.proofs.Common.{◌<◌, ℕ, List, length, get_or, sym, subst}
use Rattle.wrp_conn.proofs.Sides.{nodes_small, near_shows, far_shows}
use Rattle.wrp_conn.proofs.pairs.see.Goals as goal

pub side_of-requires-2-clause-nodes : goal.side_of-requires-2-clause-nodes
side_of-requires-2-clause-nodes c =
    subst (λ (xs : List ℕ). (k : ℕ) → (d : ℕ) → k < length xs → get_or xs k d < length xs) (sym c.as_slice-nodes.ensures.value)
    (nodes_small c.args.town.now c.args.point.now c.args.shrunk.now c.requires.point c.requires.shrunk)

pub note-requires-2-clause-ordered : goal.note-requires-2-clause-ordered
note-requires-2-clause-ordered c =
    let near = near_shows c.args.town.now c.args.point.now c.args.shrunk.now c.requires.point c.requires.shrunk c.args.r1 c.args.r2 c.requires.first c.requires.second c.tail-s.result c.tail-t.result
    c.tail-s.ensures.value c.tail-t.ensures.value c.in_ok-both.field-0 c.in-Some.both c.in-Some.is c.in_ok-both.ensures.sets c.in_ok-both.ensures.worth c.in_ok-both.ensures.below c.as_slice-nodes.result.now c.as_slice.result.now
    c.in_ok-near.near.items c.as_slice-3.result.now c.unsigned_abs-value.result c.as_slice-nodes.ensures.value c.unsigned_abs-value.ensures.value c.as_slice-3.ensures.value c.as_slice.ensures c.in_ok-near.ensures in
    (c.in_ok-note.ensures.found c.args.town.now c.args.point.now c.requires.point near.0 near.1 c.requires.cuts).ordered

pub returns-clause-found : goal.returns-clause-found
returns-clause-found c =
    let town = c.args.town.now in
    let point = c.args.point.now in
    let near = near_shows town point c.args.shrunk.now c.requires.point c.requires.shrunk c.args.r1 c.args.r2 c.requires.first c.requires.second c.tail-s.result c.tail-t.result
    c.tail-s.ensures.value c.tail-t.ensures.value c.in_ok-both.field-0 c.in-Some.both c.in-Some.is c.in_ok-both.ensures.sets c.in_ok-both.ensures.worth c.in_ok-both.ensures.below c.as_slice-nodes.result.now c.as_slice.result.now
    c.in_ok-near.near.items c.as_slice-3.result.now c.unsigned_abs-value.result c.as_slice-nodes.ensures.value c.unsigned_abs-value.ensures.value c.as_slice-3.ensures.value c.as_slice.ensures c.in_ok-near.ensures in
    let far = far_shows town point c.args.shrunk.now c.requires.point c.requires.shrunk c.args.r1 c.args.r2 c.requires.first c.requires.second c.tail-s.result c.tail-t.result
    c.tail-s.ensures.value c.tail-t.ensures.value c.in_ok-both.field-0 c.in-Some.both c.in-Some.is c.in_ok-both.ensures.sets c.in_ok-both.ensures.worth c.in_ok-both.ensures.below c.as_slice-nodes.result.now c.as_slice-2.result.now
    c.in_ok-far.far.items c.as_slice-4.result.now c.unsigned_abs-value.result c.as_slice-nodes.ensures.value c.unsigned_abs-value.ensures.value c.as_slice-4.ensures.value c.as_slice-2.ensures c.in_ok-far.ensures in
    c.in_ok-note-2.ensures.found town point c.requires.point far.0 far.1 (c.in_ok-note.ensures.found town point c.requires.point near.0 near.1 c.requires.cuts)
