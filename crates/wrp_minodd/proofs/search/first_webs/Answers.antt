use Rattle.std.proofs.Common.{◌≡◌, ◌<◌, ℕ, List, [], ◌∷◌, ◌++◌, length, slice_index, get_or, ap, sym, subst, ◌∙◌, arith}
use Rattle.std.proofs.lemmas.List.{get_or_default}
use Rattle.std.proofs.lemmas.Bool.{eqb-true, eqb-false}
use Rattle.wrp_webs.specs.Searching.{IsSearch}
use Rattle.wrp_odd.specs.Points.{denominator_of}
use Rattle.wrp_minodd.specs.Looks.{web_of, odd_nodes_of}
use Rattle.wrp_minodd.proofs.Steps.{first_some, first_none}
use Rattle.wrp_minodd.proofs.search.first_webs.Goals as goal
use Rattle.wrp_minodd.proofs.search.first_webs.Goals.{then-not-is_empty+in_ok-push, else-not-is_empty}

own_small : (own : List ℕ) (n : ℕ) → length own ≡ n → ((j : ℕ) → j < n → slice_index own j ≡ j) → (k : ℕ) → (d : ℕ) → k < length own → get_or own k d < n
own_small own n long is k d below = omega (arith, get_or_default own k d 0 below, is k (omega arith))

positive : (nodes listed : List ℕ) (n : ℕ) → nodes ≡ listed → n ≡ length nodes → (n ≡ 0 → ⊥) → 0 < length listed
positive nodes listed n is long differs = omega (arith, ap (λ (xs : List ℕ). length xs) is)

none_of : (nodes listed : List ℕ) (n : ℕ) → nodes ≡ listed → n ≡ length nodes → n ≡ 0 → length listed ≡ 0
none_of nodes listed n is long zero = omega (arith, ap (λ (xs : List ℕ). length xs) is)

pub odd_nodes-requires-clause-long : goal.odd_nodes-requires-clause-long
odd_nodes-requires-clause-long c = ap (λ (xs : List ℕ). length xs) c.as_slice.ensures.value ∙ c.in_ok-own.ensures.long ∙ c.len.ensures

pub odd_nodes-requires-clause-map : goal.odd_nodes-requires-clause-map
odd_nodes-requires-clause-map c =
    subst (λ (xs : List ℕ). (k : ℕ) → (d : ℕ) → k < length xs → get_or xs k d < length c.args.town.now.junctions) (sym c.as_slice.ensures.value)
    (own_small c.in_ok-own.own.items (length c.args.town.now.junctions) (omega (arith, c.in_ok-own.ensures.long)) (λ j below. c.in_ok-own.ensures.own j (omega arith)))

pub returns : goal.returns
returns c =
    let town = c.args.town.now in
    let point = c.args.point.now in
    let own : List ℕ = c.in_ok-own.own.items in
    let nodes : List ℕ = c.in_ok-nodes.nodes.items in
    let long : length own ≡ length town.junctions = omega (arith, c.in_ok-own.ensures.long) in
    let owns : (j : ℕ) → j < length town.junctions → slice_index own j ≡ j = λ j below. c.in_ok-own.ensures.own j (omega arith) in
    let listed : nodes ≡ odd_nodes_of town point own = subst (λ (xs : List ℕ). nodes ≡ odd_nodes_of town point xs) c.as_slice.ensures.value c.in_ok-nodes.ensures in
    elim c.if-not-is_empty.branch [
      | then-not-is_empty+in_ok-push w ↦ subst (λ v. IsSearch (web_of town point) (denominator_of point) v.items) (sym w.pending-is)
          (subst (IsSearch (web_of town point) (denominator_of point)) (sym (w.in_ok-push.ensures.items ∙ ap (λ xs. xs ++ w.from_vec.result ∷ []) c.new-pending.ensures.items ∙ ap (λ (x : List ℕ). x ∷ []) w.from_vec.ensures))
          (first_some town point own long owns (positive nodes (odd_nodes_of town point own) c.in_ok-nodes.nodes.len listed (omega (arith, c.in_ok-nodes.nodes.ok)) (eqb-false c.in_ok-nodes.nodes.len 0 (sym c.is_empty.ensures ∙ w.if-not-is_empty.true)))))
      | else-not-is_empty w ↦ subst (λ v. IsSearch (web_of town point) (denominator_of point) v.items) (sym w.pending-is)
          (subst (IsSearch (web_of town point) (denominator_of point)) (sym c.new-pending.ensures.items)
          (first_none town point own owns (none_of nodes (odd_nodes_of town point own) c.in_ok-nodes.nodes.len listed (omega (arith, c.in_ok-nodes.nodes.ok)) (eqb-true c.in_ok-nodes.nodes.len 0 (sym c.is_empty.ensures ∙ w.if-not-is_empty.false)))))
    ]
