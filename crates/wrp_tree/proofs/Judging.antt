-- What is judged of a record whose first rules are those of a node.
use Rattle.std.proofs.Common.{◌≡◌, Bool, true, false, ℤ, int_lt, int_le, List, [], ◌∷◌, Option, None, Some, ap, refl, sym, arith}
use Rattle.wrp_sums.proofs.Integers.{tests}
use Rattle.wrp_town.specs.declared.town.Town.{Town}
use Rattle.wrp_rules.specs.declared.record.Record.{Record}
use Rattle.wrp_rules.specs.declared.rule.Rule.{Rule}
use Rattle.wrp_rules.specs.Nodes.{Standing}
use Rattle.wrp_rules.specs.Rules.{first_broken, rules_of}
use Rattle.wrp_tree.specs.declared.plan.Plan.TheVariants as plans
use Rattle.wrp_tree.specs.Plans.{plan_of, Judged, plain_unless}
use Rattle.wrp_tree.proofs.KindRules.{one_kept}

-- the first two are kept and the rest decide
pub two_kept : (a b : Rule) (t u : Bool) (others : List (Rule × Bool)) (broken : Option Rule) → t ≡ true → u ≡ true → first_broken others ≡ broken → first_broken ((a, t) ∷ (b, u) ∷ others) ≡ broken
two_kept a b t u others broken e f rest = one_kept a t ((b, u) ∷ others) broken e (one_kept b u others broken f rest)

pub fourth_fails : (a b c d : Rule) (t u v w : Bool) → t ≡ true → u ≡ true → v ≡ true → w ≡ false → first_broken ((a, t) ∷ (b, u) ∷ (c, v) ∷ (d, w) ∷ []) ≡ Some d
fourth_fails a b c d t u v w e f g h = two_kept a b t u ((c, v) ∷ (d, w) ∷ []) (Some d) e f (one_kept c v ((d, w) ∷ []) (Some d) g (ap (λ (x : Bool). first_broken ((d, x) ∷ [])) h))

pub four_kept : (a b c d : Rule) (t u v w : Bool) → t ≡ true → u ≡ true → v ≡ true → w ≡ true → first_broken ((a, t) ∷ (b, u) ∷ (c, v) ∷ (d, w) ∷ []) ≡ None
four_kept a b c d t u v w e f g h = two_kept a b t u ((c, v) ∷ (d, w) ∷ []) None e f (one_kept c v ((d, w) ∷ []) None g (one_kept d w [] None h refl))

-- a number isn't above another, or it is
pub not_above : (low x : ℤ) → int_le x low ≡ true → int_lt low x ≡ false
not_above low x most = by (int_lt low x) refl
  where
    by : (t : Bool) → int_lt low x ≡ t → t ≡ false
    by true e = absurd (omega (arith, tests, e, most))
    by false e = refl

pub above : (low x : ℤ) → int_le x low ≡ false → int_lt low x ≡ true
above low x more = by (int_lt low x) refl
  where
    by : (t : Bool) → int_lt low x ≡ t → t ≡ true
    by true e = refl
    by false e = absurd (omega (arith, tests, e, more))

-- a plain record is judged by its rules
pub plain_judged : (town : Town) (s : Standing) (item : Record) (broken : Option Rule) → broken ≡ first_broken (rules_of town s item) → plans.Plain ≡ plan_of town s item → Judged town s item (plain_unless broken)
plain_judged town s item None is plain = (sym is, plain)
plain_judged town s item (Some rule) is plain = sym is
