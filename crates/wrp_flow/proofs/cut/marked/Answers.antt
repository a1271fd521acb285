use Rattle.std.proofs.Common.{◌≡◌, ◌+◌, ◌-◌, ◌^◌, ◌<◌, ◌++◌, ◌∷◌, [], ℕ, Bool, true, false, cond, List, sym, ap, ◌∙◌, subst, arith}
use Rattle.std.specs.List.{filter, range_with_len}
use Rattle.std.proofs.lemmas.List.{append-nil}
use Rattle.std.proofs.lemmas.List.Elements.{filter-append}
use Rattle.wrp_town.proofs.Lists.{range_with_len-more}
use Rattle.wrp_rules.specs.Ranges.{is_set}
use Rattle.wrp_webs.proofs.MinOdd.{passing_ascends}
use Rattle.wrp_flow.specs.Searches.{is_marked}
use Rattle.wrp_flow.proofs.cut.marked.Goals as goal
use Rattle.wrp_flow.proofs.cut.marked.Goals.{then-is_some+in_ok-push, else-is_some}

-- the nodes so far and one more
listed_more : (p : ℕ → Bool) (n : ℕ) (b : Bool) → p n ≡ b → filter p (range_with_len 0 (n + 1)) ≡ filter p (range_with_len 0 n) ++ cond b (n ∷ []) []
listed_more p n b is = ap (filter p) (range_with_len-more 0 n n (omega arith)) ∙ filter-append p (range_with_len 0 n) (n ∷ []) ∙ ap (λ (t : Bool). filter p (range_with_len 0 n) ++ cond t (n ∷ []) []) is

pub loop-node-preserved : goal.loop-node-preserved
loop-node-preserved c =
    let p : ℕ → Bool = is_marked c.args.marks.now in
    let n = c.loop-node.node in
    elim c.if-is_some.branch [
      | then-is_some+in_ok-push w ↦ ap (λ v. v.items) w.set-is ∙ w.in_ok-push.ensures.items ∙ ap (λ (xs : List ℕ). xs ++ n ∷ []) c.loop-node.invariant ∙ sym (listed_more p n true (sym c.is_some.ensures ∙ w.if-is_some.true))
      | else-is_some w ↦ ap (λ v. v.items) w.set-is ∙ c.loop-node.invariant ∙ sym (listed_more p n false (sym c.is_some.ensures ∙ w.if-is_some.false) ∙ append-nil (filter p (range_with_len 0 n)))
    ]

pub returns-clause-ascends : goal.returns-clause-ascends
returns-clause-ascends c =
    let few : c.args.net.now.nodes < 2 ^ 32 = omega arith in
    let all : c.loop-node.node ≡ c.args.net.now.nodes = omega (arith, c.loop-node-test.false, c.loop-node.auto.node-end) in
    subst (λ (xs : List ℕ). is_set xs ≡ true) (sym (c.from_vec.ensures ∙ c.loop-node.invariant))
    (passing_ascends (is_marked c.args.marks.now) 0 c.loop-node.node (2 ^ 32 - 1) (omega (arith, few, all)))
