use Rattle.std.proofs.Common.{◌≡◌, ◌==◌, ◌++◌, ◌+◌, ◌∷◌, [], ℕ, List, cond, true, false, Bool, slice_index, ap, ◌∙◌, sym, arith, eq-eqb}
use Rattle.std.proofs.lemmas.Bool.{ne_eqb}
use Rattle.std.proofs.lemmas.List.{append-nil}
use Rattle.std.specs.List.{filter, range_with_len}
use Rattle.std.proofs.lemmas.List.Elements.{filter-append}
use Rattle.wrp_town.proofs.Lists.{range_with_len-more}
use Rattle.wrp_reach.proofs.reach.junctions_at.Goals as goal
use Rattle.wrp_reach.proofs.reach.junctions_at.Goals.{then-found-label+in_ok-push, else-found-label}

-- the junctions so far and one more
part_more : (p : ℕ → Bool) (n : ℕ) (b : Bool) → p n ≡ b → filter p (range_with_len 0 (n + 1)) ≡ filter p (range_with_len 0 n) ++ cond b (n ∷ []) []
part_more p n b is = ap (filter p) (range_with_len-more 0 n n (omega arith)) ∙ filter-append p (range_with_len 0 n) (n ∷ []) ∙ ap (λ (t : Bool). filter p (range_with_len 0 n) ++ cond t (n ∷ []) []) is

pub loop-j-preserved : goal.loop-j-preserved
loop-j-preserved c =
    let p : ℕ → Bool = λ j. slice_index c.args.labels.now j == c.args.label in
    let n = c.loop-j.j in
    elim c.if-found-label.branch [
      | then-found-label+in_ok-push w ↦ w.part-is ∙ w.in_ok-push.ensures.ok ∙ ap (λ (xs : List ℕ). xs ++ n ∷ []) c.loop-j.invariant ∙ sym (part_more p n true (eq-eqb (slice_index c.args.labels.now n) c.args.label w.if-found-label.true))
      | else-found-label w ↦ w.part-is ∙ c.loop-j.invariant ∙ sym (part_more p n false (ne_eqb (slice_index c.args.labels.now n) c.args.label w.if-found-label.false) ∙ append-nil (filter p (range_with_len 0 n)))
    ]
