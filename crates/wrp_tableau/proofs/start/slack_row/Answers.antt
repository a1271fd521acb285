use Rattle.std.proofs.Common.{◌≡◌, ◌+◌, ◌≤◌, ◌^◌, ℕ, ℤ, pos, negsuc, [], ◌∷◌, ◌++◌, List, ap, sym, ◌∙◌, subst, arith, unsigned_abs, ◌≢◌, get_or, refl}
use Rattle.std.proofs.lemmas.Int.{to_z_pos}
use Rattle.std.specs.Int.{w128}
use mir.Val.{to_z, of_z}
use Rattle.wrp_tableau.specs.Sparse.{IsSparse, dense}
use Rattle.wrp_tableau.proofs.Factoring.{cast}
use Rattle.wrp_tableau.proofs.Listing.{Listing, listing_push, listing_none, listed, listed_sparse}
use Rattle.wrp_tableau.proofs.start.slack_row.Goals.{then-coefs-number-ne0+in_ok-push, else-coefs-number-ne0}
use Rattle.wrp_tableau.proofs.start.slack_row.Goals as goal

-- a coefficient as the code reads it
read_none : (z : ℤ) → unsigned_abs z ≤ 2 ^ 60 → of_z w128 z ≡ 0 → z ≡ pos 0
read_none z small none = sym (cast z (omega arith)) ∙ ap (to_z w128) none ∙ to_z_pos w128 0 (omega arith)

read_some : (z : ℤ) → (of_z w128 z ≡ 0 → ⊥) → z ≢ pos 0
read_some z some none = some (ap (of_z w128) none ∙ refl)

pub loop-number-preserved : goal.loop-number-preserved
loop-number-preserved c =
    let z = get_or c.args.coefs.now c.loop-number.number (pos 0) in
    let small : unsigned_abs z ≤ 2 ^ 60 = c.requires.coefs_small c.loop-number.number (pos 0) c.loop-number-test.true in
    elim c.if-coefs-number-ne0.branch [
      | then-coefs-number-ne0+in_ok-push w ↦
          subst (λ v. Listing c.args.coefs.now (c.loop-number.number + 1) v.items) (sym w.terms-is)
          (subst (Listing c.args.coefs.now (c.loop-number.number + 1)) (sym (w.in_ok-push.ensures.items ∙ ap (λ (y : ℤ). c.loop-number.terms.items ++ (c.loop-number.number, y) ∷ []) (cast z (omega arith))))
          (listing_push c.args.coefs.now c.loop-number.number c.loop-number.terms.items c.loop-number-test.true c.loop-number.invariant (read_some z w.if-coefs-number-ne0.true) small))
      | else-coefs-number-ne0 w ↦
          subst (λ v. Listing c.args.coefs.now (c.loop-number.number + 1) v.items) (sym w.terms-is)
          (listing_none c.args.coefs.now c.loop-number.number c.loop-number.terms.items c.loop-number-test.true c.loop-number.invariant (read_none z small w.if-coefs-number-ne0.false))
    ]

pub returns-clause-is : goal.returns-clause-is
returns-clause-is c =
    let items = c.in_ok-push-2.ensures.items in
    ap (λ (xs : List (ℕ × ℤ)). dense xs (to_z w128 (of_z w128 c.args.right))) (c.from_vec.ensures ∙ items)
    ∙ ap (dense (c.loop-number.terms.items ++ (c.args.slack, negsuc 0) ∷ [])) (let small = c.requires.right_small in cast c.args.right (omega arith))
    ∙ listed c.args.coefs.now c.loop-number.number c.args.slack c.loop-number.terms.items c.args.right c.loop-number-test.false c.loop-number.auto.number-end c.requires.before c.loop-number.invariant

pub returns-clause-stored : goal.returns-clause-stored
returns-clause-stored c =
    let items = c.in_ok-push-2.ensures.items in
    let small = c.requires.right_small in
    record {
      sparse = subst (IsSparse (2 ^ 60)) (sym (c.from_vec.ensures ∙ items)) (listed_sparse c.args.coefs.now c.loop-number.number c.args.slack c.loop-number.terms.items c.args.right c.loop-number-test.false c.loop-number.auto.number-end c.requires.before c.loop-number.invariant);
      right_small = rw (cast c.args.right (omega arith)) small;
    }
