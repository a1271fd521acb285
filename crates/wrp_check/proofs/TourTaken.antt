-- A tour that keeps its rules is the cheapest; and labels stand alone.
use Rattle.std.proofs.Common.{◌≡◌, ℕ, ◌<◌, min, Bool, true, false, ◌&&◌, ◌||◌, ◌==◌, nat_lt, pos, List, [], ◌∷◌, length, Option, None, Some, ap, refl, sym, ◌∙◌, subst, arith}
use Rattle.std.specs.Option.{option_map_or}
use Rattle.std.specs.List.{list_all}
use Rattle.std.proofs.lemmas.Bool.{ne_eqb}
use Rattle.std.proofs.lemmas.List.{append-nil}
use Rattle.wrp_sums.proofs.Integers.{tests}
use Rattle.wrp_town.specs.declared.street.Step.{Step}
use Rattle.wrp_town.specs.declared.town.Town.{Town}
use Rattle.wrp_rules.specs.declared.record.Record.{Record}
use Rattle.wrp_rules.specs.declared.record.Record.TheVariants.{Tour}
use Rattle.wrp_rules.specs.declared.rule.Rule.{Rule}
use Rattle.wrp_rules.specs.Rows.{Row}
use Rattle.wrp_rules.specs.Nodes.{Standing, is_below, after}
use Rattle.wrp_rules.specs.Rules.{is_labels, is_alone, first_broken, rules_of}
use Rattle.wrp_rules.specs.declared.rule.Rule.TheVariants as rules
use Rattle.wrp_town.specs.Walks.{is_closed_walk, serves_all, walk_cost}
use Rattle.wrp_pool.specs.declared.row.Pool.{Pool}
use Rattle.wrp_pool.specs.Pools.{Holds}
use Rattle.wrp_nodes.specs.declared.kept.KeptNode.{KeptNode}
use Rattle.wrp_nodes.specs.Kept.{HasNodes}
use Rattle.wrp_check.specs.declared.kept.Kept.{Kept}
use Rattle.wrp_check.specs.declared.kept.Past.{Past}
use Rattle.wrp_check.specs.Judging.{plain_past, IsPast, IsKept}
use Rattle.wrp_check.proofs.Keeping.{kept_after}

-- where no rule is broken, the first is kept and no other is broken
kept_first : (rule : Rule) (is : Bool) (others : List (Rule × Bool)) → first_broken ((rule, is) ∷ others) ≡ None → (is ≡ true) × (first_broken others ≡ None)
kept_first rule true others e = (refl, e)
kept_first rule false others e = absurd (clash e)
  where
    clash : Some rule ≡ None → ⊥
    clash e = cc

-- a cheaper tour is the cheapest
cheapest : (upper : Option ℕ) (cost : ℕ) → is_below (pos cost) upper ≡ true → Some (option_map_or (min cost) upper cost) ≡ Some cost
cheapest None cost below = refl
cheapest (Some least) cost below = let less : cost < least = omega (arith, tests, below) in ap Some (omega (arith, less))

pub tour_taken : (town : Town) (s : Standing) (cost : ℕ) (steps : List Step) (old new : Kept) → IsKept town s old → is_alone s (Tour cost steps) ≡ true → first_broken (rules_of town s (Tour cost steps)) ≡ None
    → new.pool ≡ old.pool → new.nodes ≡ old.nodes → new.upper ≡ Some cost → new.cuts ≡ old.cuts → new.past ≡ plain_past → IsKept town (after town s (Tour cost steps)) new
tour_taken town s cost steps old new is alone none pool nodes upper cuts past =
    kept_after town s (Tour cost steps) old new is alone
    (subst (λ (rows : List Row). Holds town new.pool rows) (sym (append-nil s.rows)) (subst (λ (p : Pool). Holds town p s.rows) (sym pool) is.pool))
    (subst (λ (kept : List KeptNode). HasNodes town kept s.nodes) (sym nodes) is.nodes)
    (cheapest s.upper cost (below rules.Range rules.Walk rules.Serve rules.Cost rules.Dear (list_all (λ step. nat_lt step.street (length town.streets)) steps) (is_closed_walk town steps) (serves_all town steps) (walk_cost town steps == cost) (is_below (pos cost) s.upper) none) ∙ sym upper)
    (omega (arith, cuts))
    past
  where
    below : (a b c d e : Rule) (t u v w x : Bool) → first_broken ((a, t) ∷ (b, u) ∷ (c, v) ∷ (d, w) ∷ (e, x) ∷ []) ≡ None → x ≡ true
    below a b c d e t u v w x none =
        let one = kept_first a t ((b, u) ∷ (c, v) ∷ (d, w) ∷ (e, x) ∷ []) none in
        let two = kept_first b u ((c, v) ∷ (d, w) ∷ (e, x) ∷ []) one.1 in
        let three = kept_first c v ((d, w) ∷ (e, x) ∷ []) two.1 in
        let four = kept_first d w ((e, x) ∷ []) three.1 in
        (kept_first e x [] four.1).0

-- labels stand alone, or there are none
pub labelled_only : (records : List Record) (past : Past) → IsPast records past → past.is_labelled ≡ ((length records == 1) && list_all is_labels records)
labelled_only [] past is = sym is.labelled
labelled_only (r ∷ []) past is = sym is.labelled ∙ by (is_labels r)
  where
    by : (t : Bool) → (t || false) ≡ (t && true)
    by true = refl
    by false = refl
labelled_only (r ∷ q ∷ records) past is = by past.is_labelled refl
  where
    by : (t : Bool) → past.is_labelled ≡ t → t ≡ ((length (r ∷ q ∷ records) == 1) && list_all is_labels (r ∷ q ∷ records))
    by true e = absurd (omega (arith, is.alone e))
    by false e = sym (ap (λ (t : Bool). t && list_all is_labels (r ∷ q ∷ records)) (ne_eqb (length (r ∷ q ∷ records)) 1 (λ same. absurd (omega (arith, same)))))
