-- Roundings of combined rows, arc after arc.
use Rattle.std.proofs.Common.{◌≡◌, ℕ, zero, suc, ◌+◌, ◌<◌, ◌≤◌, Bool, true, false, cond, ◌&&◌, not, ℤ, pos, unsigned_abs, List, [], ◌∷◌, ◌++◌, length, get_or, take, Some, None, ap, refl, sym, ◌∙◌, subst, arith}
use Rattle.std.specs.Prelude.{if◌then◌else◌, nat_le}
use Rattle.std.specs.List.{list_all}
use Rattle.std.proofs.lemmas.Bool.{and_from, and_parts, leb-true, true≢false}
use Rattle.std.proofs.lemmas.List.Elements.{All-weaker, All-contains}
use Rattle.std.proofs.lemmas.List.Folds.{list_all_at, list_all_more}
use Rattle.std.proofs.lemmas.List.Sums.{AllPass-from_list_all}
use Rattle.wrp_town.specs.declared.town.Town.{Town}
use Rattle.wrp_town.specs.Arcs.{is_legal, legal_arcs}
use Rattle.wrp_town.proofs.Lists.{same_tests}
use Rattle.wrp_town.proofs.Members.{member_passes, all_from_members}
use Rattle.std.proofs.Math.Nat.{div-eq_of_lt}
use Rattle.wrp_rules.specs.Ranges.{is_from_one}
use Rattle.wrp_rules.specs.Rows.{most_coefficient}
use Rattle.wrp_rules.proofs.LegalArcs.{inside_legal}
use Rattle.wrp_pool.specs.declared.row.Pool.{Pool}
use Rattle.wrp_pool.specs.declared.tally.Tally.{Tally}
use Rattle.wrp_pool.specs.Pools.{sparse_row, IsRow}
use Rattle.wrp_pool.specs.Tallies.{is_listed, IsTally}
use Rattle.wrp_pool.specs.Rounds.{quotient, is_small, rounded_at, fits_at, rounded_terms, rounding, Rounds}
use Rattle.wrp_pool.proofs.Listed.{times, nonzero_row, member_from_times}

-- where one of the listed arcs doesn't fit, not all do
pub unfit_listed : (p : ℕ → Bool) (items listed : List ℕ) (i d : ℕ) → items ≡ listed → i < length items → p (get_or items i d) ≡ false → false ≡ list_all p listed
unfit_listed p items listed i d same below unfit = sym (list_all_at p items i d below unfit) ∙ ap (list_all p) same

-- one more that fits
pub fit_more : (p : ℕ → Bool) (items : List ℕ) (i d : ℕ) → i < length items → list_all p (take i items) ≡ true → p (get_or items i d) ≡ true → list_all p (take (i + 1) items) ≡ true
fit_more p items i d below so_far fits = list_all_more p items i d below ∙ and_from _ _ so_far fits

-- 0 is rounded to 0
zero_quotient : (divisor : ℕ) → 1 ≤ divisor → quotient divisor (pos 0) ≡ pos 0
zero_quotient divisor some = ap pos (div-eq_of_lt (omega arith))

module _ (town : Town) (tally : Tally) (divisor : ℕ) (is : IsTally town tally) (some : 1 ≤ divisor) where
  -- an arc that isn't listed is rounded to 0
  unlisted_zero : (arc : ℕ) → times tally.listed.items arc ≡ 0 → rounded_at tally divisor arc ≡ pos 0
  unlisted_zero arc none = by (is_listed tally arc) refl
    where
      by : (t : Bool) → is_listed tally arc ≡ t → rounded_at tally divisor arc ≡ pos 0
      by true e = absurd (omega (arith, is.once arc, none, ap (λ (t : Bool). cond {A = ℕ} t 1 0) e))
      by false e = ap (quotient divisor) (is.blank arc e) ∙ zero_quotient divisor some

  listed_once : (arc : ℕ) → times tally.listed.items arc ≤ 1
  listed_once arc = by (is_listed tally arc) (is.once arc)
    where
      by : (t : Bool) → times tally.listed.items arc ≡ cond t 1 0 → times tally.listed.items arc ≤ 1
      by true e = omega (arith, e)
      by false e = omega (arith, e)

  -- the listed arcs fit where all legal arcs do
  legal_fit : list_all (fits_at tally divisor) tally.listed.items ≡ list_all (fits_at tally divisor) (legal_arcs town)
  legal_fit = same_tests _ _
      (λ all. all_from_members (fits_at tally divisor) (legal_arcs town) (λ arc inside. each arc all (times tally.listed.items arc) refl))
      (λ all. all_from_members (fits_at tally divisor) tally.listed.items (λ arc inside.
      member_passes (fits_at tally divisor) (legal_arcs town) arc all (inside_legal town arc (All-contains (λ a. is_legal town a ≡ true) tally.listed.items arc is.legal inside))))
    where
      each : (arc : ℕ) → list_all (fits_at tally divisor) tally.listed.items ≡ true → (n : ℕ) → times tally.listed.items arc ≡ n → fits_at tally divisor arc ≡ true
      each arc all zero e = ap is_small (unlisted_zero arc e)
      each arc all (suc n) e =
          let m = member_from_times tally.listed.items arc (omega (arith, e)) in
          member_passes (fits_at tally divisor) tally.listed.items arc all m

  -- the terms are the row
  rounded_is_row : (side : ℤ) → list_all (fits_at tally divisor) tally.listed.items ≡ true → is_small (quotient divisor side) ≡ true
      → IsRow town (sparse_row (rounded_terms tally divisor tally.listed.items) (quotient divisor side)) (rounding tally divisor side)
  rounded_is_row side fit small =
      nonzero_row town (rounded_at tally divisor) tally.listed.items (rounding tally divisor side) listed_once is.legal
      (All-weaker (λ a. fits_at tally divisor a ≡ true) (λ a. unsigned_abs (rounded_at tally divisor a) ≤ most_coefficient) (λ a fits. leb-true _ most_coefficient fits) tally.listed.items (AllPass-from_list_all (fits_at tally divisor) tally.listed.items fit))
      (λ arc legal one. refl)
      (λ arc legal none. sym (unlisted_zero arc none))
      (omega (arith, leb-true _ most_coefficient small))

  -- ---- what comes of it

  -- a coefficient is too large
  pub too_wide : (side : ℤ) (pool : Pool) → false ≡ list_all (fits_at tally divisor) tally.listed.items → Rounds town (rounding tally divisor side) false pool pool
  too_wide side pool unfit = record {
    width = sym (ap (λ (t : Bool). not (not (is_small (quotient divisor side) && t))) (sym legal_fit ∙ sym unfit) ∙ by (is_small (quotient divisor side)));
    gains = λ e. absurd (true≢false (sym e));
    same = λ e. refl;
  }
    where
      by : (t : Bool) → not (not (t && false)) ≡ false
      by true = refl
      by false = refl

  -- the right side is
  pub side_too_wide : (side : ℤ) (pool : Pool) → is_small (quotient divisor side) ≡ false → Rounds town (rounding tally divisor side) false pool pool
  side_too_wide side pool large = record {
    width = sym (ap (λ (t : Bool). not (not (t && list_all (fits_at tally divisor) (legal_arcs town)))) large);
    gains = λ e. absurd (true≢false (sym e));
    same = λ e. refl;
  }

  -- none is
  pub row_taken : (side : ℤ) (old new : Pool) (bare terms : List (ℕ × ℤ)) → true ≡ list_all (fits_at tally divisor) tally.listed.items → is_small (quotient divisor side) ≡ true
      → terms ≡ bare ++ rounded_terms tally divisor tally.listed.items → bare ≡ [] → new.rows ≡ old.rows ++ sparse_row terms (quotient divisor side) ∷ [] → Rounds town (rounding tally divisor side) true old new
  row_taken side old new bare terms fit small are empty added = record {
    width = sym (ap (λ (t : Bool). not (not (is_small (quotient divisor side) && t))) (sym legal_fit ∙ sym fit) ∙ ap (λ (t : Bool). not (not (t && true))) small);
    gains = λ e. record {
      sparse = sparse_row terms (quotient divisor side);
      added = added;
      is_row = subst (λ ts. IsRow town (sparse_row ts (quotient divisor side)) (rounding tally divisor side)) (sym (are ∙ ap (λ (ts : List (ℕ × ℤ)). ts ++ rounded_terms tally divisor tally.listed.items) empty)) (rounded_is_row side (sym fit) small);
    };
    same = λ e. absurd (true≢false e);
  }

-- a quotient that was found is small
pub quotient_found : (divisor : ℕ) (number coef : ℤ) → Some coef ≡ (if is_small (quotient divisor number) then Some (quotient divisor number) else None) → (is_small (quotient divisor number) ≡ true) × (coef ≡ quotient divisor number)
quotient_found divisor number coef = by (is_small (quotient divisor number)) (quotient divisor number)
  where
    by : (t : Bool) (q : ℤ) → Some coef ≡ (if t then Some q else None) → (t ≡ true) × (coef ≡ q)
    by true q e = (refl, cc)
    by false q e = absurd (clash e)
      where
        clash : Some coef ≡ None → ⊥
        clash e = cc

-- a divisor is at least 1
pub least_divisor : (most divisor : ℕ) → is_from_one most divisor ≡ true → 1 ≤ divisor
least_divisor most divisor is = leb-true 1 divisor (and_parts (nat_le 1 divisor) (nat_le divisor most) is).0
