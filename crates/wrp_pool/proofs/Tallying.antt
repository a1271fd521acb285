-- A tally to which an arc is listed or a number is added.
use Rattle.std.proofs.Common.{◌≡◌, ℕ, ◌+◌, ◌<◌, ◌≢◌, Bool, true, false, cond, ◌==◌, ℤ, pos, ◌+ℤ◌, List, [], ◌∷◌, ◌++◌, length, get_or, set, count_by, ap, refl, sym, ◌∙◌, subst, arith, get_or-set_other, get_or-set_same, length-set}
use Rattle.std.specs.List.{All}
use Rattle.std.proofs.lemmas.Bool.{eqb-true, eqb-false, ne_eqb, eq-eqb, true≢false}
use Rattle.std.proofs.lemmas.List.Elements.{All-push}
use Rattle.std.proofs.lemmas.List.Sums.{sum_by_push}
use Rattle.wrp_sums.proofs.Integers.{linear}
use Rattle.wrp_town.specs.declared.town.Town.{Town}
use Rattle.wrp_town.specs.Arcs.{is_legal}
use Rattle.wrp_town.proofs.TownLaws.{legal_below}
use Rattle.wrp_pool.specs.declared.tally.Tally.{Tally}
use Rattle.wrp_pool.specs.Tallies.{number_of, is_listed, IsTally, Lists, Adds}

-- what holds of each entry after a write: of the new one at its place, of the old ones elsewhere
pub at_set : {X : Type 0} (P : ℕ → X → Type 0) (xs : List X) (i : ℕ) (z d : X) → i < length xs → P i z → ((j : ℕ) → j ≢ i → P j (get_or xs j d)) → (j : ℕ) → P j (get_or (set xs i z) j d)
at_set P xs i z d inside here there j = by (j == i) refl
  where
    by : (t : Bool) → (j == i) ≡ t → P j (get_or (set xs i z) j d)
    by true e =
        let same : j ≡ i = eqb-true j i e in
        subst (λ k. P k (get_or (set xs i z) k d)) (sym same) (subst (P i) (sym (get_or-set_same xs i z d inside)) here)
    by false e =
        let differs : j ≢ i = eqb-false j i e in
        subst (P j) (sym (get_or-set_other xs i j z d differs)) (there j differs)

module _ (town : Town) (old new : Tally) (arc : ℕ) (tally : IsTally town old) (legal : is_legal town arc ≡ true) where
  inside : arc < length old.marks.items
  inside = omega (arith, tally.marks, legal_below town arc legal)

  -- an arc that isn't listed yet is listed
  pub lists_more : is_listed old arc ≡ false → new.numbers.items ≡ old.numbers.items → new.marks.items ≡ set old.marks.items arc true → new.listed.items ≡ old.listed.items ++ arc ∷ [] → Lists town arc old new
  lists_more unlisted numbers marks listed = record {
    is_tally = record {
      numbers = ap length numbers ∙ tally.numbers;
      marks = ap length marks ∙ length-set old.marks.items arc true ∙ tally.marks;
      once = λ k. ap (λ (xs : List ℕ). count_by (λ a. a == k) xs) listed ∙ sum_by_push (λ a. cond (a == k) 1 0) old.listed.items arc ∙ once k ∙ ap (λ (xs : List Bool). cond (get_or xs k false) 1 0) (sym marks);
      blank = λ k e. ap (λ (xs : List ℤ). get_or xs k (pos 0)) numbers ∙ tally.blank k (unlisted_before k (ap (λ (xs : List Bool). get_or xs k false) (sym marks) ∙ e));
      legal = subst (All (λ a. is_legal town a ≡ true)) (sym listed) (All-push (λ a. is_legal town a ≡ true) old.listed.items arc tally.legal legal);
    };
    same = numbers;
    listed = ap (λ (xs : List Bool). get_or xs arc false) marks ∙ get_or-set_same old.marks.items arc true false inside;
    kept = λ k e. ap (λ (xs : List Bool). get_or xs k false) marks ∙ at_set (λ j t. get_or old.marks.items j false ≡ true → t ≡ true) old.marks.items arc true false inside (λ e. refl) (λ j differs e. e) k e;
  }
    where
      once : (k : ℕ) → count_by (λ a. a == k) old.listed.items + cond (arc == k) 1 0 ≡ cond (get_or (set old.marks.items arc true) k false) 1 0
      once k = at_set (λ j t. count_by (λ a. a == j) old.listed.items + cond (arc == j) 1 0 ≡ cond t 1 0) old.marks.items arc true false inside
          (omega (arith, tally.once arc, ap (λ (t : Bool). cond {A = ℕ} t 1 0) unlisted, ap (λ (t : Bool). cond {A = ℕ} t 1 0) (eq-eqb arc arc refl)))
          (λ j differs. omega (arith, tally.once j, ap (λ (t : Bool). cond {A = ℕ} t 1 0) (ne_eqb arc j (λ e. differs (sym e)))))
          k

      unlisted_before : (k : ℕ) → get_or (set old.marks.items arc true) k false ≡ false → get_or old.marks.items k false ≡ false
      unlisted_before k = at_set (λ j t. t ≡ false → get_or old.marks.items j false ≡ false) old.marks.items arc true false inside (λ e. absurd (true≢false e)) (λ j differs e. e) k

  -- an arc that is listed stays so
  pub lists_again : is_listed old arc ≡ true → new.numbers.items ≡ old.numbers.items → new.marks.items ≡ old.marks.items → new.listed.items ≡ old.listed.items → Lists town arc old new
  lists_again is numbers marks listed = record {
    is_tally = record {
      numbers = ap length numbers ∙ tally.numbers;
      marks = ap length marks ∙ tally.marks;
      once = λ k. ap (λ (xs : List ℕ). count_by (λ a. a == k) xs) listed ∙ tally.once k ∙ ap (λ (xs : List Bool). cond (get_or xs k false) 1 0) (sym marks);
      blank = λ k e. ap (λ (xs : List ℤ). get_or xs k (pos 0)) numbers ∙ tally.blank k (ap (λ (xs : List Bool). get_or xs k false) (sym marks) ∙ e);
      legal = subst (All (λ a. is_legal town a ≡ true)) (sym listed) tally.legal;
    };
    same = numbers;
    listed = ap (λ (xs : List Bool). get_or xs arc false) marks ∙ is;
    kept = λ k e. ap (λ (xs : List Bool). get_or xs k false) marks ∙ e;
  }

-- the number of an arc that is listed grows
pub adds_to_listed : (town : Town) (old listed new : Tally) (arc : ℕ) (number sum : ℤ) → Lists town arc old listed → arc < length listed.numbers.items → sum ≡ number_of listed arc +ℤ number
    → new.numbers.items ≡ set listed.numbers.items arc sum → new.marks.items ≡ listed.marks.items → new.listed.items ≡ listed.listed.items → Adds town arc number old new
adds_to_listed town old listed new arc number sum lists inside is numbers marks same = record {
  is_tally = record {
    numbers = ap length numbers ∙ length-set listed.numbers.items arc sum ∙ lists.is_tally.numbers;
    marks = ap length marks ∙ lists.is_tally.marks;
    once = λ k. ap (λ (xs : List ℕ). count_by (λ a. a == k) xs) same ∙ lists.is_tally.once k ∙ ap (λ (xs : List Bool). cond (get_or xs k false) 1 0) (sym marks);
    blank = λ k e. ap (λ (xs : List ℤ). get_or xs k (pos 0)) numbers ∙ blank k (ap (λ (xs : List Bool). get_or xs k false) (sym marks) ∙ e);
    legal = subst (All (λ a. is_legal town a ≡ true)) (sym same) lists.is_tally.legal;
  };
  exact = λ k. ap (λ (xs : List ℤ). get_or xs k (pos 0)) numbers ∙ exact k;
}
  where
    blank : (k : ℕ) → is_listed listed k ≡ false → get_or (set listed.numbers.items arc sum) k (pos 0) ≡ pos 0
    blank k = at_set (λ j z. is_listed listed j ≡ false → z ≡ pos 0) listed.numbers.items arc sum (pos 0) inside (λ e. absurd (true≢false (sym lists.listed ∙ e))) (λ j differs e. lists.is_tally.blank j e) k

    exact : (k : ℕ) → get_or (set listed.numbers.items arc sum) k (pos 0) ≡ number_of old k +ℤ cond (arc == k) number (pos 0)
    exact k = at_set (λ j z. z ≡ number_of old j +ℤ cond (arc == j) number (pos 0)) listed.numbers.items arc sum (pos 0) inside
        (is ∙ ap (λ (z : ℤ). z +ℤ number) (ap (λ (xs : List ℤ). get_or xs arc (pos 0)) lists.same) ∙ ap (λ (t : Bool). number_of old arc +ℤ cond t number (pos 0)) (sym (eq-eqb arc arc refl)))
        (λ j differs. ap (λ (xs : List ℤ). get_or xs j (pos 0)) lists.same ∙ omega (arith, linear) ∙ ap (λ (t : Bool). number_of old j +ℤ cond t number (pos 0)) (sym (ne_eqb arc j (λ e. differs (sym e)))))
        k
