-- The net of a web grows street by street.
use Rattle.std.proofs.Common.{◌≡◌, ℕ, ◌+◌, ◌^◌, ◌<◌, ◌≤◌, Bool, true, false, cond, ◌&&◌, not, ℤ, pos, ◌≤ℤ◌, List, [], ◌∷◌, ◌++◌, length, get_or, ap, refl, sym, ◌∙◌, subst, inl, inr, ◌⊎◌, arith, length-append}
use Rattle.std.specs.Prelude.{unsigned_abs}
use Rattle.std.proofs.lemmas.Bool.{cases_eq}
use Rattle.std.proofs.lemmas.List.{get_or_append_left}
use Rattle.std.proofs.Math.Seq.{get_or-append_seam}
use Rattle.wrp_sums.proofs.Integers.{pos-≤ℤ}
use Rattle.wrp_webs.specs.Webs.{Web, sum_below, differ}
use Rattle.wrp_webs.proofs.SumsBelow.{same_sum, sum_more}
use Rattle.wrp_minodd.specs.Growing.{IsPair, cut_to, net_with, IsGrowing}
use Rattle.wrp_minodd.specs.Looks.{IsNetOf}

Arc : Type 0
Arc = ℕ × ℕ × ℤ

abbrev no_arc : ℕ × ℕ × ℤ
no_arc = (0, 0, pos 0)

-- a sum over arcs, as they are read
abbrev sum_of_arcs : (ℕ × ℕ × ℤ → ℕ) → List (ℕ × ℕ × ℤ) → ℕ
sum_of_arcs g arcs = sum_below (λ a. g (get_or arcs a no_arc)) (length arcs)

sum_one : (g : ℕ × ℕ × ℤ → ℕ) (arcs : List (ℕ × ℕ × ℤ)) (arc : ℕ × ℕ × ℤ) → sum_of_arcs g (arcs ++ arc ∷ []) ≡ sum_of_arcs g arcs + g arc
sum_one g arcs arc =
    let long : length (arcs ++ arc ∷ []) ≡ length arcs + 1 = omega (arith, length-append arcs (arc ∷ [])) in
    ap (sum_below (λ a. g (get_or (arcs ++ arc ∷ []) a no_arc))) long
    ∙ sum_more (λ a. g (get_or (arcs ++ arc ∷ []) a no_arc)) (length arcs)
    ∙ ap (λ (n : ℕ). n + g (get_or (arcs ++ arc ∷ []) (length arcs) no_arc))
    (same_sum (λ a. g (get_or (arcs ++ arc ∷ []) a no_arc)) (λ a. g (get_or arcs a no_arc)) (length arcs) (λ a below. ap g (get_or_append_left arcs (arc ∷ []) no_arc a below)))
    ∙ ap (λ (x : ℕ × ℕ × ℤ). sum_of_arcs g arcs + g x) (get_or-append_seam arcs arc [] no_arc)

each_one : (P : ℕ × ℕ × ℤ → Type 0) (arcs : List (ℕ × ℕ × ℤ)) (arc : ℕ × ℕ × ℤ) → ((a : ℕ) → a < length arcs → P (get_or arcs a no_arc)) → P arc → (a : ℕ) → a < length (arcs ++ arc ∷ []) → P (get_or (arcs ++ arc ∷ []) a no_arc)
each_one P arcs arc each holds a below = by (cases_eq a (length arcs))
  where
    by : (a ≡ length arcs) ⊎ (a ≡ length arcs → ⊥) → P (get_or (arcs ++ arc ∷ []) a no_arc)
    by (inl last) = subst P (sym (ap (λ (k : ℕ). get_or (arcs ++ arc ∷ []) k no_arc) last ∙ get_or-append_seam arcs arc [] no_arc)) holds
    by (inr inside) =
        let under : a < length arcs = omega (arith, length-append arcs (arc ∷ [])) in
        subst P (sym (get_or_append_left arcs (arc ∷ []) no_arc a under)) (each a under)

both_ways : (a b : Bool) (w : ℕ) → cond (a && not b) w 0 + cond (b && not a) w 0 ≡ cond (differ a b) w 0
both_ways true true w = refl
both_ways true false w = omega arith
both_ways false true w = omega arith
both_ways false false w = refl

no_difference : (a b : Bool) (w : ℕ) → a ≡ b → cond (differ a b) w 0 ≡ 0
no_difference true true w e = refl
no_difference false false w e = refl
no_difference true false w e = absurd (cc)
no_difference false true w e = absurd (cc)

no_weight : (b : Bool) (w : ℕ) → w ≡ 0 → cond b w 0 ≡ 0
no_weight true w e = e
no_weight false w e = refl

module _ (web : Web) (at : ℕ → ℕ) (n from to weight : ℕ) (old new : List (ℕ × ℕ × ℤ)) (growing : IsGrowing web at n old) (pair : IsPair from to weight old new)
    (from_is : from ≡ at (web.one n)) (to_is : to ≡ at (web.two n)) (from_below : from < web.junctions) (to_below : to < web.junctions) (weight_is : weight ≡ web.weight n) (small : weight ≤ 2 ^ 73) where
  abbrev term : (ℕ → Bool) → ℕ
  term set = cond (differ (set (at (web.one n))) (set (at (web.two n)))) (web.weight n) 0

  term_is : (set : ℕ → Bool) → term set ≡ cond (differ (set from) (set to)) weight 0
  term_is set =
      ap (λ (k : ℕ). cond (differ (set k) (set (at (web.two n)))) (web.weight n) 0) (sym from_is) ∙ ap (λ (k : ℕ). cond (differ (set from) (set k)) (web.weight n) 0) (sym to_is)
      ∙ ap (λ (w : ℕ). cond (differ (set from) (set to)) w 0) (sym weight_is)

  unchanged : ((set : ℕ → Bool) → term set ≡ 0) → new ≡ old → IsGrowing web at (n + 1) new
  unchanged nothing same = subst (IsGrowing web at (n + 1)) (sym same) (record {
    tails = growing.tails;
    heads = growing.heads;
    low = growing.low;
    small = omega (arith, growing.small);
    leaves = λ set. omega (arith, growing.leaves set, nothing set, sum_more (λ l. cond (differ (set (at (web.one l))) (set (at (web.two l)))) (web.weight l) 0) n);
  })

  abbrev one_more : List (ℕ × ℕ × ℤ)
  one_more = old ++ (from, to, pos weight) ∷ []

  abbrev two_more : List (ℕ × ℕ × ℤ)
  two_more = (old ++ (from, to, pos weight) ∷ []) ++ (to, from, pos weight) ∷ []

  added : IsGrowing web at (n + 1) two_more
  added = record {
    tails = each_one (λ arc. arc.0 < web.junctions) one_more (to, from, pos weight) (each_one (λ arc. arc.0 < web.junctions) old (from, to, pos weight) growing.tails from_below) to_below;
    heads = each_one (λ arc. arc.1 < web.junctions) one_more (to, from, pos weight) (each_one (λ arc. arc.1 < web.junctions) old (from, to, pos weight) growing.heads to_below) from_below;
    low = each_one (λ arc. pos 0 ≤ℤ arc.2) one_more (to, from, pos weight) (each_one (λ arc. pos 0 ≤ℤ arc.2) old (from, to, pos weight) growing.low (pos-≤ℤ 0 weight (omega arith))) (pos-≤ℤ 0 weight (omega arith));
    small = omega (
      arith,
      growing.small,
      sum_one (λ arc. unsigned_abs arc.2) old (from, to, pos weight),
      sum_one (λ arc. unsigned_abs arc.2) one_more (to, from, pos weight),
    );
    leaves = λ set. omega (
      arith,
      growing.leaves set,
      sum_one (λ arc. cond (set arc.0 && not (set arc.1)) (unsigned_abs arc.2) 0) old (from, to, pos weight),
      sum_one (λ arc. cond (set arc.0 && not (set arc.1)) (unsigned_abs arc.2) 0) one_more (to, from, pos weight),
      both_ways (set from) (set to) weight,
      term_is set,
      sum_more (λ l. cond (differ (set (at (web.one l))) (set (at (web.two l)))) (web.weight l) 0) n,
    );
  }

  pub grown : IsGrowing web at (n + 1) new
  grown =
      elim (cases_eq from to) [
        | inl loop ↦ unchanged (λ set. term_is set ∙ no_difference (set from) (set to) weight (ap set loop)) (pair.none_at_loop loop)
        | inr apart ↦ (
            elim (cases_eq weight 0) [
              | inl none ↦ unchanged (λ set. term_is set ∙ no_weight (differ (set from) (set to)) weight none) (pair.none_without none)
              | inr some ↦ subst (IsGrowing web at (n + 1)) (sym (pair.both apart (omega arith))) added
            ]
            )
      ]

pub grown_none : (web : Web) (at : ℕ → ℕ) → IsGrowing web at 0 []
grown_none web at = record {
  tails = λ a below. absurd (omega arith);
  heads = λ a below. absurd (omega arith);
  low = λ a below. absurd (omega arith);
  small = omega arith;
  leaves = λ set. refl;
}

pub grown_all : (web : Web) (at : ℕ → ℕ) (nodes n : ℕ) (arcs : List (ℕ × ℕ × ℤ)) → IsGrowing web at n arcs → n ≡ web.links → n ≤ 4000 → nodes ≡ web.junctions → IsNetOf web at (net_with nodes arcs)
grown_all web at nodes n arcs growing all few same = subst (λ (k : ℕ). IsNetOf web at (net_with k arcs)) (sym same) (record {
  is = record { tails = growing.tails; heads = growing.heads; low = growing.low; small = omega (arith, growing.small) };
  nodes = refl;
  leaves = λ set. growing.leaves set ∙ ap (cut_to web at set) all;
})
