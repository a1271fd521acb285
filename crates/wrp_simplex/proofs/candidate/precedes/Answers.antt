-- Products of candidates' numbers fit, so they compare the fractions.
use Rattle.std.proofs.Common.{◌≡◌, ℕ, refl, inl, inr, ◌≤◌, ◌^◌, Bool, true, false, nat_lt, int_lt, ℤ, ◌*ℤ◌, ◌≤ℤ◌, ◌<ℤ◌, arith, sym, ap, ◌∙◌}
use Rattle.std.specs.Int.{w128}
use mir.Val.{to_z, of_z}
use Rattle.std.proofs.lemmas.Bool.{ltb-true, lt-ltb, cases_lt}
use Rattle.wrp_sums.proofs.Integers.{linear, lt-true, lt-false, size_of_product}
use Rattle.wrp_tableau.proofs.Factoring.{cast}
use Rattle.wrp_simplex.specs.declared.candidate.Candidate.{Candidate}
use Rattle.wrp_simplex.specs.Candidates.{IsSized}
use Rattle.wrp_simplex.proofs.candidate.precedes.Goals.{then-by_fraction+else-left-right, else-by_fraction}
use Rattle.wrp_simplex.proofs.candidate.precedes.Goals as goal

-- the numerator of the first times the denominator of the second, as the code has it
abbrev crossed : Candidate → Candidate → ℤ
crossed a b = to_z w128 (of_z w128 (to_z w128 (of_z w128 a.numerator) *ℤ to_z w128 (of_z w128 b.denominator)))

code_product : (a b : Candidate) → IsSized a → IsSized b → to_z w128 (of_z w128 a.numerator) *ℤ to_z w128 (of_z w128 b.denominator) ≡ a.numerator *ℤ b.denominator
code_product a b one other =
    let h = one.numerator_small in
    let i = other.denominator_small in
    rw (cast a.numerator (omega arith), cast b.denominator (omega arith)) refl

crossed_is : (a b : Candidate) → IsSized a → IsSized b → crossed a b ≡ a.numerator *ℤ b.denominator
crossed_is a b one other =
    let h = one.numerator_small in
    let i = other.denominator_small in
    let size = size_of_product a.numerator b.denominator (2 ^ 60) (2 ^ 60) h i in
    rw (code_product a b one other) (cast (a.numerator *ℤ b.denominator) (omega arith))

less : (a b : Candidate) → IsSized a → IsSized b → int_lt (crossed a b) (crossed b a) ≡ true → (a.numerator *ℤ b.denominator) <ℤ (b.numerator *ℤ a.denominator)
less a b one other e =
    let f : int_lt (a.numerator *ℤ b.denominator) (b.numerator *ℤ a.denominator) ≡ true = rw (crossed_is a b one other, crossed_is b a other one) at e in
    omega (arith, linear, lt-true)

not_less : (a b : Candidate) → IsSized a → IsSized b → int_lt (crossed a b) (crossed b a) ≡ false → (b.numerator *ℤ a.denominator) ≤ℤ (a.numerator *ℤ b.denominator)
not_less a b one other e =
    let f : int_lt (a.numerator *ℤ b.denominator) (b.numerator *ℤ a.denominator) ≡ false = rw (crossed_is a b one other, crossed_is b a other one) at e in
    omega (arith, linear, lt-false)

same : (a b : Candidate) → IsSized a → IsSized b → of_z w128 (to_z w128 (of_z w128 a.numerator) *ℤ to_z w128 (of_z w128 b.denominator)) ≡ of_z w128 (to_z w128 (of_z w128 b.numerator) *ℤ to_z w128 (of_z w128 a.denominator))
    → a.numerator *ℤ b.denominator ≡ b.numerator *ℤ a.denominator
same a b one other e = sym (crossed_is a b one other) ∙ ap (to_z w128) e ∙ crossed_is b a other one

same_code : (a b : Candidate) → IsSized a → IsSized b → a.numerator *ℤ b.denominator ≡ b.numerator *ℤ a.denominator
    → of_z w128 (to_z w128 (of_z w128 a.numerator) *ℤ to_z w128 (of_z w128 b.denominator)) ≡ of_z w128 (to_z w128 (of_z w128 b.numerator) *ℤ to_z w128 (of_z w128 a.denominator))
same_code a b one other f = ap (of_z w128) (code_product a b one other ∙ f ∙ sym (code_product b a other one))

not_below : (m n : ℕ) → nat_lt m n ≡ false → n ≤ m
not_below m n e = elim (cases_lt m n) [ inl below ↦ (let t : nat_lt m n ≡ true = lt-ltb m n below in absurd (cc)) | inr past ↦ past ]

uncounted : (t : Bool) → t ≡ false → t ≡ true → ⊥
uncounted t e f = cc

pub returns-then-left-right-clause-yes : goal.returns-then-left-right-clause-yes
returns-then-left-right-clause-yes c e =
    let h = less c.args.one c.args.other c.requires.one c.requires.other e in
    record { least = λ counts. omega (arith, linear, h); first = λ back. let b = back c.if-by_fraction.true in absurd (omega (arith, linear, h, b)) }

pub returns-then-left-right-clause-no : goal.returns-then-left-right-clause-no
returns-then-left-right-clause-no c e =
    let h = not_less c.args.one c.args.other c.requires.one c.requires.other e in
    record {
      least = λ counts. h;
      first = λ back. let b = back c.if-by_fraction.true in
          let f : c.args.one.numerator *ℤ c.args.other.denominator ≡ c.args.other.numerator *ℤ c.args.one.denominator = omega (arith, linear, h, b) in
          absurd (c.if-left-right.true (same_code c.args.one c.args.other c.requires.one c.requires.other f));
    }

pub returns-clause-yes : goal.returns-clause-yes
returns-clause-yes c e = record {
  least = λ counts. elim c.if-by_fraction.branch [
    | then-by_fraction+else-left-right w ↦ (let h = same c.args.one c.args.other c.requires.one c.requires.other w.if-left-right.false in omega (arith, linear, h))
    | else-by_fraction w ↦ absurd (uncounted c.args.by_fraction w.if-by_fraction.false counts)
  ];
  first = λ back. let b = ltb-true c.args.one.variable c.args.other.variable e in omega arith;
}

pub returns-clause-no : goal.returns-clause-no
returns-clause-no c e = record {
  least = λ counts. elim c.if-by_fraction.branch [
    | then-by_fraction+else-left-right w ↦ (let h = same c.args.one c.args.other c.requires.one c.requires.other w.if-left-right.false in omega (arith, linear, h))
    | else-by_fraction w ↦ absurd (uncounted c.args.by_fraction w.if-by_fraction.false counts)
  ];
  first = λ back. not_below c.args.one.variable c.args.other.variable e;
}
