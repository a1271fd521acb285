-- Service at points, street by street.
use Rattle.std.proofs.Common.{◌≡◌, ℕ, zero, suc, ◌+◌, ◌*◌, ◌<◌, ◌≤◌, Bool, true, false, cond, ◌||◌, ◌==◌, List, [], ◌∷◌, length, get_or, Contains, Some, ap, refl, sym, ◌∙◌, subst, inl, inr, ◌⊎◌, arith, eq-eqb, slice_get}
use Rattle.std.proofs.lemmas.Bool.{cases_eq}
use Rattle.wrp_town.specs.declared.street.Need.{Need}
use Rattle.wrp_town.specs.declared.street.Need.TheVariants.{No, Either, Forward, Backward, Both}
use Rattle.wrp_town.specs.declared.street.Street.{Street}
use Rattle.wrp_town.specs.declared.town.Town.{Town}
use Rattle.wrp_town.specs.Streets.{demands_at}
use Rattle.wrp_town.specs.Arcs.{has_arc}
use Rattle.wrp_town.proofs.Members.{inside_none, inside_cases}
use Rattle.wrp_rows.specs.declared.point.Point.{Point}
use Rattle.wrp_webs.specs.TownWebs.{IsOnLegal, MeetsServices}
use Rattle.wrp_webs.proofs.OddRows.{services_met}
use Rattle.wrp_odd.specs.Points.{denominator_of, numbers_of}
use Rattle.wrp_trials.specs.Served.{IsEnough}

-- the numbers of the street's two ways are enough for its need
abbrev pub IsServed : Town → Point → ℕ → Type 0
IsServed town point s = (street : Street) → slice_get town.streets s ≡ Some street
    → IsEnough street.need (denominator_of point) (numbers_of point (2 * s)) (numbers_of point (2 * s + 1))

read_at : (xs : List Street) (i : ℕ) (x d : Street) → slice_get xs i ≡ Some x → get_or xs i d ≡ x
read_at [] i x d is = absurd (cc)
read_at (y ∷ xs) zero x d is = cc
read_at (y ∷ xs) (suc i) x d is = read_at xs i x d is

-- one more item has what those before it have
pub each_more : (P : ℕ → Street → Type 0) (items : List Street) (n : ℕ) (street : Street) → street ≡ get_or items n street → P n street
    → ((s : ℕ) → s < n → (other : Street) → slice_get items s ≡ Some other → P s other) → (s : ℕ) → s < n + 1 → (other : Street) → slice_get items s ≡ Some other → P s other
each_more P items n street read here before s below other is = by (cases_eq s n)
  where
    by : (s ≡ n) ⊎ (s ≡ n → ⊥) → P s other
    by (inl last) =
        let found : street ≡ other = read ∙ read_at items n other street (ap (slice_get items) (sym last) ∙ is) in
        subst (λ (k : ℕ). P k other) (sym last) (subst (P n) found here)
    by (inr inside) = before s (omega arith) other is

there : (xs : List Street) (i : ℕ) (x : Street) → slice_get xs i ≡ Some x → i < length xs
there [] i x is = absurd (cc)
there (y ∷ xs) zero x is = omega arith
there (y ∷ xs) (suc i) x is = let rest = there xs i x is in omega arith

or_true : (t : Bool) → (t || true) ≡ true
or_true true = refl
or_true false = refl

has_first : (a : ℕ) (rest : List ℕ) → has_arc (a ∷ rest) a ≡ true
has_first a rest = ap (λ (t : Bool). t || has_arc rest a) (eq-eqb a a refl)

has_second : (a b : ℕ) → has_arc (a ∷ b ∷ []) b ≡ true
has_second a b = ap (λ (t : Bool). (b == a) || t) (has_first b []) ∙ or_true (b == a)

module _ (x : ℕ → ℕ) where
  -- the numbers of a street's arcs that a demand holds
  abbrev held : List ℕ → ℕ → ℕ
  held d s = cond (has_arc d (2 * s)) (x (2 * s)) 0 + cond (has_arc d (2 * s + 1)) (x (2 * s + 1)) 0

  counted : (d : List ℕ) (a : ℕ) → has_arc d a ≡ true → cond (has_arc d a) (x a) 0 ≡ x a
  counted d a has = ap (λ (t : Bool). cond t (x a) 0) has

  -- the only demand
  only : (e s : ℕ) (one d : List ℕ) → e ≤ held one s → Contains (one ∷ []) d → e ≤ held d s
  only e s one d most inside = inside_cases (e ≤ held d s) one [] d inside (λ same. subst (λ (c : List ℕ). e ≤ held c s) same most) (λ other. absurd (inside_none d other))

  enough : (e s : ℕ) (need : Need) (d : List ℕ) → IsEnough need e (x (2 * s)) (x (2 * s + 1)) → Contains (demands_at s need) d → e ≤ held d s
  enough e s No d most inside = absurd (inside_none d inside)
  enough e s Either d most inside =
      only e s (2 * s ∷ (2 * s + 1) ∷ []) d (omega (arith, counted (2 * s ∷ (2 * s + 1) ∷ []) (2 * s) (has_first (2 * s) ((2 * s + 1) ∷ [])), counted (2 * s ∷ (2 * s + 1) ∷ []) (2 * s + 1) (has_second (2 * s) (2 * s + 1)))) inside
  enough e s Forward d most inside = only e s (2 * s ∷ []) d (omega (arith, counted (2 * s ∷ []) (2 * s) (has_first (2 * s) []))) inside
  enough e s Backward d most inside = only e s ((2 * s + 1) ∷ []) d (omega (arith, counted ((2 * s + 1) ∷ []) (2 * s + 1) (has_first (2 * s + 1) []))) inside
  enough e s Both d most inside =
      inside_cases (e ≤ held d s) (2 * s ∷ []) (((2 * s + 1) ∷ []) ∷ []) d inside
      (λ same. subst (λ (c : List ℕ). e ≤ held c s) same (omega (arith, most.0, counted (2 * s ∷ []) (2 * s) (has_first (2 * s) []))))
      (λ other. only e s ((2 * s + 1) ∷ []) d (omega (arith, most.1, counted ((2 * s + 1) ∷ []) (2 * s + 1) (has_first (2 * s + 1) []))) other)

-- where each street is served, the point meets the service rows
pub all_served : (town : Town) (point : Point) → IsOnLegal town (numbers_of point) → ((s : ℕ) → s < length town.streets → IsServed town point s) → MeetsServices town (denominator_of point) (numbers_of point)
all_served town point on each =
    services_met town (denominator_of point) (numbers_of point) on (λ s street d is inside. enough (numbers_of point) (denominator_of point) s street.need d (each s (there town.streets s street is) street is) inside)
