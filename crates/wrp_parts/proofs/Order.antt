-- Parts in order: one junction more is numbered.
use Rattle.std.proofs.Common.{◌≡◌, ℕ, ◌+◌, ◌<◌, ◌≤◌, true, ◌==◌, nat_le, max, List, [], ◌∷◌, ◌++◌, length, take, replicate, refl, sym, ap, ◌∙◌, subst, inl, inr, arith, Option, Some, None, is_some}
use Rattle.std.specs.Prelude.{◌⊎◌}
use Rattle.std.specs.Option.{option_to_list}
use Rattle.std.specs.List.{flat_map}
use Rattle.std.proofs.lemmas.Bool.{and_parts, and_from, cases_lt, cases_eq, false≢true, eqb-true}
use Rattle.std.proofs.lemmas.Bool.Decides.{nat_tests}
use Rattle.std.proofs.lemmas.Option.{none-some}
use Rattle.std.proofs.lemmas.List.{take_more, ext_get_or, length-take-le, get_or-take, append-nil, get_or-replicate, length-replicate, get_or_past}
use Rattle.std.proofs.lemmas.Grind.{flat_map-append}
use Rattle.wrp_town.specs.Streets.{come_in_order}
use Rattle.wrp_parts.specs.RequiredParts.{part_at}
use Rattle.wrp_parts.specs.Traversal.{next_to, Kept, HaveParts, AreNumbered, IsSpread}
use Rattle.wrp_parts.proofs.Visits.{some_kept}

-- ---- numbers in order

le_test : (a b : ℕ) → a ≤ b → nat_le a b ≡ true
le_test a b le = grind (arith, nat_tests)

same_test : (a b : ℕ) → a ≡ b → (a == b) ≡ true
same_test a b same = grind (arith, nat_tests)

-- a number that was there before
pub order-old : (count seen q : ℕ) (xs : List ℕ) → q < count → come_in_order count seen xs ≡ true → come_in_order count seen (xs ++ q ∷ []) ≡ true
order-old count seen q [] small order =
    let same = eqb-true seen count order in
    and_from (nat_le q seen) _ (le_test q seen (omega arith)) (same_test (max seen (q + 1)) count (omega arith))
order-old count seen q (x ∷ xs) small order =
    let parts = and_parts _ _ order in and_from _ _ parts.0 (order-old count (max seen (x + 1)) q xs small parts.1)

-- the next number
pub order-new : (count seen : ℕ) (xs : List ℕ) → come_in_order count seen xs ≡ true → come_in_order (count + 1) seen (xs ++ count ∷ []) ≡ true
order-new count seen [] order =
    let same = eqb-true seen count order in
    and_from (nat_le count seen) _ (le_test count seen (omega arith)) (same_test (max seen (count + 1)) (count + 1) (omega arith))
order-new count seen (x ∷ xs) order =
    let parts = and_parts _ _ order in and_from _ _ parts.0 (order-new count (max seen (x + 1)) xs parts.1)

-- ---- one junction more

order-at : (count : ℕ) (xs : List ℕ) (o : Option ℕ) → ((q : ℕ) → o ≡ Some q → q < count) → come_in_order count 0 xs ≡ true → come_in_order count 0 (xs ++ option_to_list o) ≡ true
order-at count xs None small order = subst (λ (ys : List ℕ). come_in_order count 0 ys ≡ true) (sym (append-nil xs)) order
order-at count xs (Some q) small order = order-old count 0 q xs (small q refl) order

first_more : (of : List (Option ℕ)) (r : ℕ) → r < length of → flat_map option_to_list (take (r + 1) of) ≡ flat_map option_to_list (take r of) ++ option_to_list (part_at of r)
first_more of r inside =
    ap (flat_map option_to_list) (take_more of r None inside)
    ∙ flat_map-append option_to_list (take r of) (part_at of r ∷ [])
    ∙ ap (λ (t : List ℕ). flat_map option_to_list (take r of) ++ t) (append-nil (option_to_list (part_at of r)))

-- where it has a part already, or no neighbours
pub numbered_known : (rows : List (List ℕ)) (count r : ℕ) (of : List (Option ℕ)) → AreNumbered rows count r of → r < length rows → (is_some (part_at of r) ≡ true) ⊎ (length (next_to rows r) ≡ 0) → AreNumbered rows count (r + 1) of
numbered_known rows count r of a inside known = record {
  parts = a.parts;
  done = λ j small some. elim (cases_eq j r) [
    | inl same ↦ subst (λ z. is_some (part_at of z) ≡ true) (sym same)
        (elim known [ inl has ↦ has | inr empty ↦ absurd (omega (arith, subst (λ z. 0 < length (next_to rows z)) same some)) ])
    | inr differs ↦ a.done j (omega arith) some
  ];
  in_order = subst (λ (ys : List ℕ). come_in_order count 0 ys ≡ true) (sym (first_more of r (omega (arith, a.parts.long))))
      (order-at count (flat_map option_to_list (take r of)) (part_at of r) (λ q is. a.parts.fewer r q is) a.in_order);
  few = omega (arith, a.few);
}

agree : (o p : Option ℕ) → ((q : ℕ) → o ≡ Some q → p ≡ Some q) → ((q : ℕ) → p ≡ Some q → is_some o ≡ true) → p ≡ o
agree None None kept had = refl
agree None (Some q) kept had = absurd (false≢true (had q refl))
agree (Some q) p kept had = kept q refl

-- a new part reaches no junction that is numbered already
first_same : (rows : List (List ℕ)) (count r : ℕ) (before of : List (Option ℕ)) → AreNumbered rows count r before → r < length rows → HaveParts rows (count + 1) of → Kept before of → take r of ≡ take r before
first_same rows count r before of a inside parts kept =
    let long = length-take-le r of (omega (arith, parts.long)) in
    let long_before = length-take-le r before (omega (arith, a.parts.long)) in
    ext_get_or None (take r of) (take r before) (omega arith)
    (λ j small.
    let below : j < r = omega arith in
    get_or-take r of j None below
    ∙ agree (part_at before j) (part_at of j) (λ q is. kept j q is) (λ q is. a.done j below (parts.ended j q is))
    ∙ sym (get_or-take r before j None below))

-- where it is the root of a new part
pub numbered_new : (rows : List (List ℕ)) (count r : ℕ) (before of : List (Option ℕ)) → AreNumbered rows count r before → r < length rows → IsSpread rows r count before of → AreNumbered rows (count + 1) (r + 1) of
numbered_new rows count r before of a inside new = record {
  parts = new.parts;
  done = λ j small some. elim (cases_eq j r) [
    | inl same ↦ subst (λ z. is_some (part_at of z) ≡ true) (sym same) (ap is_some new.begun)
    | inr differs ↦ some_kept before of j new.kept (a.done j (omega arith) some)
  ];
  in_order = subst (λ (ys : List ℕ). come_in_order (count + 1) 0 ys ≡ true)
      (sym (first_more of r (omega (arith, new.parts.long)) ∙ ap (λ (o : Option ℕ). flat_map option_to_list (take r of) ++ option_to_list o) new.begun))
      (subst (λ (os : List (Option ℕ)). come_in_order (count + 1) 0 (flat_map option_to_list os ++ count ∷ []) ≡ true) (sym (first_same rows count r before of a inside new.parts new.kept))
      (order-new count 0 (flat_map option_to_list (take r before)) a.in_order));
  few = omega (arith, a.few);
}

-- no junction has a part at first
none_at : (n j : ℕ) → part_at (replicate n None) j ≡ None
none_at n j = elim (cases_lt j n) [
  | inl inside ↦ get_or-replicate n j None None inside
  | inr past ↦ get_or_past (replicate n None) j None (omega (arith, length-replicate {A = Option ℕ} n None))
]

pub numbered_none : (rows : List (List ℕ)) (n : ℕ) (of : List (Option ℕ)) → of ≡ replicate n None → n ≡ length rows → AreNumbered rows 0 0 of
numbered_none rows n of is long =
    let no_part : (j q : ℕ) → part_at of j ≡ Some q → ⊥ = λ j q some. none-some q (sym (ap (λ (os : List (Option ℕ)). part_at os j) is ∙ none_at n j) ∙ some) in
    record {
      parts = record {
        long = ap length is ∙ length-replicate n None ∙ long;
        fewer = λ j q some. absurd (no_part j q some);
        closed = λ j k q near some. absurd (no_part j q some);
        reached = λ i j q at_i at_j. absurd (no_part i q at_i);
        ended = λ j q some. absurd (no_part j q some);
      };
      done = λ j small some. absurd (omega arith);
      in_order = refl;
      few = omega arith;
    }
