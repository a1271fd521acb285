-- What an optional value says of the test that guards it.
use Rattle.std.proofs.Common.{Option, Some, None, is_some, not, ◌≡◌, Bool, true, false, cond, refl, sym, ap, ◌∙◌}

pub guard-some : {A : Type 0} (b : Bool) (x y : A) → Some y ≡ cond b (Some x) None → (b ≡ true) × (y ≡ x)
guard-some true x y h = (refl, cc)
guard-some false x y h = cc

pub guard-none : {A : Type 0} (b : Bool) (x : A) → None ≡ cond b (Some x) None → b ≡ false
guard-none true x h = cc
guard-none false x h = refl

pub guard-test : {A : Type 0} (b : Bool) (x : A) → is_some (cond b (Some x) None) ≡ b
guard-test true x = refl
guard-test false x = refl

-- what a reader says of its part
pub read-none : {A : Type 0} (b : Bool) (x : A) (r : Option A) (none : Bool) → r ≡ cond b (Some x) None → is_some r ≡ not none → none ≡ true → b ≡ false
read-none b x r none e f g = sym (guard-test b x) ∙ sym (ap is_some e) ∙ f ∙ ap not g

pub read-some : {A : Type 0} (b : Bool) (x : A) (r : Option A) (none : Bool) → r ≡ cond b (Some x) None → is_some r ≡ not none → none ≡ false → b ≡ true
read-some b x r none e f g = sym (guard-test b x) ∙ sym (ap is_some e) ∙ f ∙ ap not g
