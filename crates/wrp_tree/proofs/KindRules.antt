-- The rules of the kinds of records, where the first of them are kept.
use Rattle.std.proofs.Common.{◌≡◌, Bool, true, false, List, [], ◌∷◌, Option, None, Some, ap, refl, ◌∙◌}
use Rattle.wrp_rules.specs.declared.rule.Rule.{Rule}
use Rattle.wrp_rules.specs.Rules.{first_broken}

-- one rule is kept and the rest decide
pub one_kept : (a : Rule) (t : Bool) (others : List (Rule × Bool)) (broken : Option Rule) → t ≡ true → first_broken others ≡ broken → first_broken ((a, t) ∷ others) ≡ broken
one_kept a t others broken e rest = ap (λ (x : Bool). first_broken ((a, x) ∷ others)) e ∙ rest

-- three are kept
pub three_kept : (a b c : Rule) (t u v : Bool) → t ≡ true → u ≡ true → v ≡ true → first_broken ((a, t) ∷ (b, u) ∷ (c, v) ∷ []) ≡ None
three_kept a b c t u v e f g = one_kept a t ((b, u) ∷ (c, v) ∷ []) None e (one_kept b u ((c, v) ∷ []) None f (one_kept c v [] None g refl))

-- the first is broken, or the second, or the third
pub first_fails : (a : Rule) (t : Bool) (others : List (Rule × Bool)) → t ≡ false → first_broken ((a, t) ∷ others) ≡ Some a
first_fails a t others e = ap (λ (x : Bool). first_broken ((a, x) ∷ others)) e

pub second_fails : (a b : Rule) (t u : Bool) (others : List (Rule × Bool)) → t ≡ true → u ≡ false → first_broken ((a, t) ∷ (b, u) ∷ others) ≡ Some b
second_fails a b t u others e f = one_kept a t ((b, u) ∷ others) (Some b) e (first_fails b u others f)

pub third_fails : (a b c : Rule) (t u v : Bool) (others : List (Rule × Bool)) → t ≡ true → u ≡ true → v ≡ false → first_broken ((a, t) ∷ (b, u) ∷ (c, v) ∷ others) ≡ Some c
third_fails a b c t u v others e f g = one_kept a t ((b, u) ∷ (c, v) ∷ others) (Some c) e (second_fails b c u v others f g)
