-- What the search for a light odd set says of the odd rows of a town.
use Rattle.std.proofs.Common.{◌≡◌, ℕ, zero, suc, ◌+◌, ◌-◌, ◌%◌, ◌^◌, ◌<◌, ◌≤◌, Bool, true, false, cond, not, ◌==◌, nat_lt, List, [], ◌∷◌, length, filter, ap, refl, sym, ◌∙◌, subst, inl, inr, arith}
use Rattle.std.specs.List.{list_all, range_with_len}
use Rattle.std.proofs.lemmas.Bool.{cases_eq, and_from, eqb-false, not-true, ne_eqb, lt-ltb, le-leb}
use Rattle.wrp_town.specs.declared.town.Town.{Town}
use Rattle.wrp_town.specs.Arcs.{junctions}
use Rattle.wrp_town.proofs.TownLaws.{few_junctions}
use Rattle.wrp_rules.specs.Rows.{odd_row}
use Rattle.wrp_rules.specs.Rules.{all_below}
use Rattle.wrp_rules.specs.Ranges.{is_ascending}
use Rattle.wrp_rules.specs.Sets.{is_in, crossing_demands}
use Rattle.wrp_laws.specs.Points.{MeetsOver}
use Rattle.wrp_webs.specs.Webs.{cut, IsOdd}
use Rattle.wrp_webs.specs.Searching.{Awaits}
use Rattle.wrp_webs.specs.TownWebs.{IsBrokenOdd, IsOnLegal, MeetsServices, town_web}
use Rattle.wrp_webs.proofs.Uncrossing.{same_degrees}
use Rattle.wrp_webs.proofs.Pending.{none_awaits}
use Rattle.wrp_webs.proofs.OddRows.{town_is_web, odd_row_met, crossing_is_odd}
use Rattle.wrp_webs.proofs.Found.{listed_is, same_cut}

-- ---- a list of the junctions that pass is a set of a record

filtered : {X : Type 0} (u : X → Bool) (P : List X → Type 0) (x : X) (xs : List X) → P (x ∷ filter u xs) → P (filter u xs) → P (filter u (x ∷ xs))
filtered u P x xs kept dropped = by (u x) refl
  where
    by : (b : Bool) → u x ≡ b → P (filter u (x ∷ xs))
    by true e = subst P (sym (ap (λ (b : Bool). cond b (x ∷ filter u xs) (filter u xs)) e)) kept
    by false e = subst P (sym (ap (λ (b : Bool). cond b (x ∷ filter u xs) (filter u xs)) e)) dropped

above : (u : ℕ → Bool) (b a n : ℕ) → b < a → list_all (nat_lt b) (filter u (range_with_len a n)) ≡ true
above u b a zero less = refl
above u b a (suc n) less =
    let rest = above u b (a + 1) n (omega arith) in
    filtered u (λ (xs : List ℕ). list_all (nat_lt b) xs ≡ true) a (range_with_len (a + 1) n) (and_from _ _ (lt-ltb b a less) rest) rest

pub passing_below : (u : ℕ → Bool) (a n m : ℕ) → a + n ≤ m → all_below m (filter u (range_with_len a n)) ≡ true
passing_below u a zero m most = refl
passing_below u a (suc n) m most =
    let rest = passing_below u (a + 1) n m (omega arith) in
    filtered u (λ (xs : List ℕ). all_below m xs ≡ true) a (range_with_len (a + 1) n) (and_from _ _ (lt-ltb a m (omega arith)) rest) rest

pub passing_ascends : (u : ℕ → Bool) (a n m : ℕ) → a + n ≤ m + 1 → is_ascending m (filter u (range_with_len a n)) ≡ true
passing_ascends u a zero m most = refl
passing_ascends u a (suc n) m most =
    let rest = passing_ascends u (a + 1) n m (omega arith) in
    filtered u (λ (xs : List ℕ). is_ascending m xs ≡ true) a (range_with_len (a + 1) n)
    (and_from _ _ (and_from _ _ (le-leb a m (omega arith)) (above u a (a + 1) n (omega arith))) rest) rest

-- ---- both answers

odd_rest : (k : ℕ) → not (k % 2 == 0) ≡ true → k % 2 ≡ 1
odd_rest k odd = let differs = eqb-false (k % 2) 0 (not-true (k % 2 == 0) odd) in elim (cases_eq (k % 2) 0) [ inl e ↦ absurd (differs e) | inr e ↦ omega arith ]

module _ (town : Town) (e : ℕ) (x : ℕ → ℕ) (on : IsOnLegal town x) (met : MeetsServices town e x) where
  -- where nothing awaits the search any more, the odd row of every odd set is met
  pub none_is_exact : Awaits (town_web town e x) e [] → (set : List ℕ) → not (crossing_demands town set % 2 == 0) ≡ true → MeetsOver town e x (odd_row town set)
  none_is_exact awaits set odd =
      (odd_row_met town e x on met set).1 (none_awaits (town_web town e x) e awaits (is_in set) (crossing_is_odd town e x set ∙ odd_rest (crossing_demands town set) odd))

  -- a light odd set gives a record that keeps its rules, and that the point breaks
  pub some_is_broken : (u : ℕ → Bool) → IsOdd (town_web town e x) u → cut (town_web town e x) u < e → IsBrokenOdd town e x (filter u (junctions town))
  some_is_broken u odd light = record {
    is_set = passing_ascends u 0 (length town.junctions) (2 ^ 32 - 1) (omega (arith, few_junctions town));
    below = passing_below u 0 (length town.junctions) (length town.junctions) (omega arith);
    odd = ap not (ne_eqb (crossing_demands town (filter u (junctions town)) % 2) 0 (λ even. absurd (omega (
      arith,
      crossing_is_odd town e x (filter u (junctions town)),
      same_degrees (town_web town e x) (is_in (filter u (junctions town))) u (λ j less. listed_is u (length town.junctions) j less),
    ))));
    broken = λ row. absurd (omega (
      arith,
      (odd_row_met town e x on met (filter u (junctions town))).0 row,
      same_cut (town_web town e x) (is_in (filter u (junctions town))) u (town_is_web town e x) (λ j less. listed_is u (length town.junctions) j less),
    ));
  }
