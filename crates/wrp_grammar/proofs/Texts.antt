-- Values and their texts: each value in its range has one text that is written right, and back.
use Rattle.std.proofs.Common.{◌≡◌, ℕ, Bool, true, ◌&&◌, List, [], ◌∷◌, map, refl, ap, ◌∙◌}
use Rattle.std.proofs.lemmas.Bool.{and_parts, and_from}
use Rattle.std.specs.List.{list_all}
use Rattle.wrp_grammar.proofs.Spacing.{is_solid}

-- the text of a value, and the value of a part
pub record AreTexts (A : Type 0) (text : A → List ℕ) (value : List ℕ → A) (is_right : List ℕ → Bool) (is_ranged : A → Bool) : Type 0 where
  pub written : (part : List ℕ) → is_right part ≡ true → text (value part) ≡ part
  pub ranged : (part : List ℕ) → is_right part ≡ true → is_ranged (value part) ≡ true
  pub solid : (a : A) → is_ranged a ≡ true → is_solid (text a) ≡ true
  pub right : (a : A) → is_ranged a ≡ true → is_right (text a) ≡ true
  pub same : (a : A) → is_ranged a ≡ true → value (text a) ≡ a

-- the parts of a value, and the value of parts
pub record AreParts (A : Type 0) (texts : A → List (List ℕ)) (value : List (List ℕ) → A) (are_right : List (List ℕ) → Bool) (is_ranged : A → Bool) : Type 0 where
  pub written : (parts : List (List ℕ)) → are_right parts ≡ true → texts (value parts) ≡ parts
  pub ranged : (parts : List (List ℕ)) → are_right parts ≡ true → is_ranged (value parts) ≡ true
  pub solid : (a : A) → is_ranged a ≡ true → list_all is_solid (texts a) ≡ true
  pub right : (a : A) → is_ranged a ≡ true → are_right (texts a) ≡ true
  pub same : (a : A) → is_ranged a ≡ true → value (texts a) ≡ a

-- a list of values
module _ (A : Type 0) (text : A → List ℕ) (value : List ℕ → A) (is_right : List ℕ → Bool) (is_ranged : A → Bool) (h : AreTexts A text value is_right is_ranged) where
  list-written : (parts : List (List ℕ)) → list_all is_right parts ≡ true → map text (map value parts) ≡ parts
  list-written [] all = refl
  list-written (part ∷ parts) all =
      let both = and_parts (is_right part) (list_all is_right parts) all in
      ap (λ first. first ∷ map text (map value parts)) (h.written part both.0) ∙ ap (λ others. part ∷ others) (list-written parts both.1)

  list-ranged : (parts : List (List ℕ)) → list_all is_right parts ≡ true → list_all is_ranged (map value parts) ≡ true
  list-ranged [] all = refl
  list-ranged (part ∷ parts) all =
      let both = and_parts (is_right part) (list_all is_right parts) all in
      and_from (is_ranged (value part)) (list_all is_ranged (map value parts)) (h.ranged part both.0) (list-ranged parts both.1)

  list-solid : (xs : List A) → list_all is_ranged xs ≡ true → list_all is_solid (map text xs) ≡ true
  list-solid [] all = refl
  list-solid (x ∷ xs) all =
      let both = and_parts (is_ranged x) (list_all is_ranged xs) all in
      and_from (is_solid (text x)) (list_all is_solid (map text xs)) (h.solid x both.0) (list-solid xs both.1)

  list-right : (xs : List A) → list_all is_ranged xs ≡ true → list_all is_right (map text xs) ≡ true
  list-right [] all = refl
  list-right (x ∷ xs) all =
      let both = and_parts (is_ranged x) (list_all is_ranged xs) all in
      and_from (is_right (text x)) (list_all is_right (map text xs)) (h.right x both.0) (list-right xs both.1)

  list-same : (xs : List A) → list_all is_ranged xs ≡ true → map value (map text xs) ≡ xs
  list-same [] all = refl
  list-same (x ∷ xs) all =
      let both = and_parts (is_ranged x) (list_all is_ranged xs) all in
      ap (λ first. first ∷ map value (map text xs)) (h.same x both.0) ∙ ap (λ others. x ∷ others) (list-same xs both.1)

  pub each : AreParts (List A) (map text) (map value) (list_all is_right) (list_all is_ranged)
  each = record { written = list-written; ranged = list-ranged; solid = list-solid; right = list-right; same = list-same }

-- values that keep one more rule, which is the stronger
module _ (A : Type 0) (texts : A → List (List ℕ)) (value : List (List ℕ) → A) (are_right : List (List ℕ) → Bool) (is_ranged : A → Bool) (h : AreParts A texts value are_right is_ranged) where
  pub ordered : (keeps : A → Bool) → ((a : A) → keeps a ≡ true → is_ranged a ≡ true) → AreParts A texts value (λ parts. are_right parts && keeps (value parts)) keeps
  ordered keeps stronger = record {
    written = λ parts all. h.written parts (and_parts (are_right parts) (keeps (value parts)) all).0;
    ranged = λ parts all. (and_parts (are_right parts) (keeps (value parts)) all).1;
    solid = λ a all. h.solid a (stronger a all);
    right = λ a all. and_from (are_right (texts a)) (keeps (value (texts a))) (h.right a (stronger a all)) (ap keeps (h.same a (stronger a all)) ∙ all);
    same = λ a all. h.same a (stronger a all);
  }
