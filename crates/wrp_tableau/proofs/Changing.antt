-- The changes of a pivot, one by one.
use Rattle.std.proofs.Common.{◌≡◌, ◌≢◌, ℕ, ◌+◌, ◌<◌, ◌≤◌, pos, List, [], ◌∷◌, ◌++◌, length, get_or, All, ap, refl, sym, ◌∙◌, arith, subst, eq-eqb, eq-or-lt_of_le, inl, inr, length-append}
use Rattle.std.proofs.lemmas.Bool.{ne_eqb}
use Rattle.std.proofs.lemmas.List.{get_or_default}
use Rattle.std.proofs.Math.Seq.{get_or-append_seam}
use Rattle.std.proofs.Math.ListN.{get_or-append}
use Rattle.wrp_tableau.specs.declared.row.Row.{Row}
use Rattle.wrp_tableau.specs.declared.change.Change.{Change}
use Rattle.wrp_tableau.specs.declared.change.Change.TheVariants as change
use Rattle.wrp_tableau.specs.Equations.{reduced}
use Rattle.wrp_tableau.specs.Systems.{IsWideRow}
use Rattle.wrp_tableau.specs.Rows.{empty, equation, IsStored, IsPrimitive, row_without, HasEntry}
use Rattle.wrp_tableau.specs.Changes.{changed, row_at, change_at, new_equation, TakesOut, IsWideWithout, CanPivot, AreChanges, IsChangeAt, IsWideAt}
use Rattle.wrp_tableau.proofs.Primitive.{reduced_primitive}

-- row k, as it is read
pub read_at : (rows : List Row) (k : ℕ) (x : Row) → x ≡ get_or rows k x → k < length rows → row_at rows k ≡ x
read_at rows k x e h = get_or_default rows k empty x h ∙ sym e

pub new_same : (n c r : ℕ) (rows : List Row) (k : ℕ) → k ≡ r → new_equation n c r rows k ≡ reduced n (equation (row_at rows r))
new_same n c r rows k e = rw (eq-eqb k r e) refl

pub new_other : (n c r : ℕ) (rows : List Row) (k : ℕ) → k ≢ r → new_equation n c r rows k ≡ reduced n (row_without c (row_at rows r) (row_at rows k))
new_other n c r rows k e = rw (ne_eqb k r e) refl

module _ (c r : ℕ) (rows : List Row) (k : ℕ) (can : CanPivot c r rows) (there : k < length rows) where
  stored_at : IsStored (row_at rows k)
  stored_at = can.stored k empty there

  -- the row of the pivot stays
  pub own_stays : k ≡ r → IsChangeAt c r rows k change.Stays
  own_stays same = record {
    stored = stored_at;
    equation = λ n primitive.
        let p = primitive k empty there in
        sym (new_same n c r rows k same ∙ ap (λ (i : ℕ). reduced n (equation (row_at rows i))) (sym same) ∙ reduced_primitive n (equation (row_at rows k)) p.factor);
  }

  -- another row
  pub other_changes : (x y : Row) (next : Change) → x ≡ get_or rows k x → y ≡ get_or rows r y → k ≢ r
      → TakesOut c y x next → IsStored (changed x next) → IsChangeAt c r rows k next
  other_changes x y next x_is y_is other takes_out stored =
      let at_k : row_at rows k ≡ x = read_at rows k x x_is there in
      let at_r : row_at rows r ≡ y = read_at rows r y y_is can.there in
      record {
        stored = subst (λ z. IsStored (changed z next)) (sym at_k) stored;
        equation = λ n primitive.
            sym (new_other n c r rows k other
            ∙ sym (subst (λ z. IsPrimitive n z → IsPrimitive n (row_at rows r) → equation (changed z next) ≡ reduced n (row_without c (row_at rows r) z)) (sym at_k)
            (subst (λ z. IsPrimitive n x → IsPrimitive n z → equation (changed x next) ≡ reduced n (row_without c z x)) (sym at_r) (takes_out n))
            (primitive k empty there) (primitive r empty can.there)));
      }

  pub other_wide : (x y : Row) → x ≡ get_or rows k x → y ≡ get_or rows r y → k ≢ r → IsWideWithout c y x → IsWideAt c r rows k
  other_wide x y x_is y_is other wide n primitive =
      let at_k : row_at rows k ≡ x = read_at rows k x x_is there in
      let at_r : row_at rows r ≡ y = read_at rows r y y_is can.there in
      subst IsWideRow (sym (new_other n c r rows k other))
      (subst (λ z. IsPrimitive n z → IsPrimitive n (row_at rows r) → IsWideRow (reduced n (row_without c (row_at rows r) z))) (sym at_k)
      (subst (λ z. IsPrimitive n x → IsPrimitive n z → IsWideRow (reduced n (row_without c z x))) (sym at_r) (wide n))
      (primitive k empty there) (primitive r empty can.there))

  pub other_entry : (x y : Row) → x ≡ get_or rows k x → y ≡ get_or rows r y → k ≢ r → HasEntry (row_without c y x)
  other_entry x y x_is y_is other =
      subst (λ z. HasEntry (row_without c y z)) (read_at rows k x x_is there)
      (subst (λ z. HasEntry (row_without c z (row_at rows k))) (read_at rows r y y_is can.there) (can.some k there other))

pub own_entry : (c r : ℕ) (rows : List Row) (y : Row) → CanPivot c r rows → y ≡ get_or rows r y → (equation y).entry c ≢ pos 0
own_entry c r rows y can y_is = subst (λ z. (equation z).entry c ≢ pos 0) (read_at rows r y y_is can.there) can.own

pub stored_read : (rows : List Row) (k : ℕ) (x : Row) → All IsStored rows → x ≡ get_or rows k x → k < length rows → IsStored x
stored_read rows k x all e h = subst IsStored (sym e) (all k x h)

pub changes_more : (c r : ℕ) (rows : List Row) (i : ℕ) (changes : List Change) (next : Change) → AreChanges c r rows i changes → IsChangeAt c r rows i next → AreChanges c r rows (i + 1) (changes ++ next ∷ [])
changes_more c r rows i changes next so_far is = record {
  count = let l = length-append changes (next ∷ []) in let k = so_far.count in omega arith;
  each = λ k h. elim (eq-or-lt_of_le (at_most k h)) [
    | inl same ↦ subst (λ k. IsChangeAt c r rows k (change_at (changes ++ next ∷ []) k)) (sym same)
        (subst (IsChangeAt c r rows i) (sym (ap (change_at (changes ++ next ∷ [])) (sym so_far.count) ∙ get_or-append_seam changes next [] change.Stays)) is)
    | inr below ↦
        (let inside : k < length changes = subst (λ m. k < m) (sym so_far.count) below in
        subst (IsChangeAt c r rows k) (sym (get_or-append changes (next ∷ []) change.Stays k inside)) (so_far.each k below))
  ];
}
  where
    at_most : (k : ℕ) → k < i + 1 → k ≤ i
    at_most k h = omega arith
