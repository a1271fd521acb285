use Rattle.std.proofs.Common.{◌≡◌, ◌<◌, ◌-◌, ℕ, List, length, take, drop, ap, sym, subst, ◌∙◌, arith}
use Rattle.std.specs.List.{All}
use Rattle.std.proofs.lemmas.List.{get_or_default, length-drop}
use Rattle.std.proofs.Math.Seq.{take-length}
use Rattle.wrp_webs.specs.Webs.{IsOddNode}
use Rattle.wrp_webs.specs.Searching.{reading}
use Rattle.wrp_minodd.specs.Looks.{web_of, odd_nodes_of, IsOtherNode, HasSeen, HasSeenAll}
use Rattle.wrp_minodd.proofs.Looking.{IsHeaded, headed, some_listed}
use Rattle.wrp_minodd.proofs.look.look_at.Goals as goal

long : (nodes xs : List ℕ) → nodes ≡ xs → 0 < length xs → 0 < length nodes
long nodes xs is some = omega (arith, ap (λ (zs : List ℕ). length zs) is)

rest_of : (lent nodes : List ℕ) → lent ≡ nodes → take (length lent - 1) (drop 1 lent) ≡ drop 1 nodes
rest_of lent nodes same =
    ap (λ (n : ℕ). take n (drop 1 lent)) (sym (length-drop 1 lent)) ∙ take-length (drop 1 lent) ∙ ap (λ (xs : List ℕ). drop 1 xs) same

pub index-s-requires : goal.index-s-requires
index-s-requires c = omega (arith, c.in_ok-nodes.nodes.ok, long c.in_ok-nodes.nodes.items (odd_nodes_of c.args.town.now c.args.point.now c.args.map.now) c.in_ok-nodes.ensures (some_listed c.args.town.now c.args.point.now c.args.map.now c.requires.map.some))

pub slice_bounds-see_all-count : goal.slice_bounds-see_all-count
slice_bounds-see_all-count c = omega (arith, ap (λ (zs : List ℕ). length zs) c.deref.ensures.value, long c.in_ok-nodes.nodes.items (odd_nodes_of c.args.town.now c.args.point.now c.args.map.now) c.in_ok-nodes.ensures (some_listed c.args.town.now c.args.point.now c.args.map.now c.requires.map.some))

pub slice_bounds-see_all-start : goal.slice_bounds-see_all-start
slice_bounds-see_all-start c = omega (arith, ap (λ (zs : List ℕ). length zs) c.deref.ensures.value, long c.in_ok-nodes.nodes.items (odd_nodes_of c.args.town.now c.args.point.now c.args.map.now) c.in_ok-nodes.ensures (some_listed c.args.town.now c.args.point.now c.args.map.now c.requires.map.some))

pub see_all-requires-clause-s : goal.see_all-requires-clause-s
see_all-requires-clause-s c =
    let some = long c.in_ok-nodes.nodes.items (odd_nodes_of c.args.town.now c.args.point.now c.args.map.now) c.in_ok-nodes.ensures (some_listed c.args.town.now c.args.point.now c.args.map.now c.requires.map.some) in
    subst (IsOddNode (web_of c.args.town.now c.args.point.now) (reading c.args.map.now)) (sym (c.index-s.ensures ∙ get_or_default c.in_ok-nodes.nodes.items 0 c.index-s.result.now 0 some))
    (headed c.args.town.now c.args.point.now c.args.map.now c.in_ok-nodes.nodes.items c.in_ok-nodes.ensures some).first

pub see_all-requires-clause-others : goal.see_all-requires-clause-others
see_all-requires-clause-others c =
    let some = long c.in_ok-nodes.nodes.items (odd_nodes_of c.args.town.now c.args.point.now c.args.map.now) c.in_ok-nodes.ensures (some_listed c.args.town.now c.args.point.now c.args.map.now c.requires.map.some) in
    let same = c.index-s.ensures ∙ get_or_default c.in_ok-nodes.nodes.items 0 c.index-s.result.now 0 some in
    subst (λ (xs : List ℕ). All (IsOtherNode (web_of c.args.town.now c.args.point.now) (reading c.args.map.now) c.index-s.result.now) xs) (sym (rest_of c.deref.result.now c.in_ok-nodes.nodes.items c.deref.ensures.value))
    (subst (λ (s : ℕ). All (IsOtherNode (web_of c.args.town.now c.args.point.now) (reading c.args.map.now) s) (drop 1 c.in_ok-nodes.nodes.items)) (sym same)
    (headed c.args.town.now c.args.point.now c.args.map.now c.in_ok-nodes.nodes.items c.in_ok-nodes.ensures some).others)

pub returns : goal.returns
returns c =
    let town = c.args.town.now in
    let point = c.args.point.now in
    let map = c.args.map.now in
    let some = long c.in_ok-nodes.nodes.items (odd_nodes_of town point map) c.in_ok-nodes.ensures (some_listed town point map c.requires.map.some) in
    let same = c.index-s.ensures ∙ get_or_default c.in_ok-nodes.nodes.items 0 c.index-s.result.now 0 some in
    let heads = subst (λ (s : ℕ). IsHeaded town point map s (drop 1 c.in_ok-nodes.nodes.items)) (sym same) (headed town point map c.in_ok-nodes.nodes.items c.in_ok-nodes.ensures some) in
    let all : HasSeenAll town point map c.index-s.result.now c.in_ok-seen.seen = record {
      nodes = drop 1 c.in_ok-nodes.nodes.items;
      has = subst (λ (xs : List ℕ). HasSeen town point map c.index-s.result.now xs c.in_ok-seen.seen) (rest_of c.deref.result.now c.in_ok-nodes.nodes.items c.deref.ensures.value) c.in_ok-seen.ensures;
      all = heads.all;
    } in
    c.look_of.ensures town point map c.requires.map c.requires.point heads.first all
