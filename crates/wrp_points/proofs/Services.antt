-- The demands of a town by the table of numbers.
use Rattle.std.proofs.Common.{◌≡◌, ℕ, ◌+◌, ◌*◌, ◌<◌, ◌≤◌, Bool, true, false, cond, nat_le, List, [], ◌∷◌, length, get_or, filter, sum_by, ap, refl, ◌∙◌, arith}
use Rattle.std.specs.List.{list_all}
use Rattle.std.proofs.lemmas.Bool.{and_from, lt-ltb}
use Rattle.std.proofs.lemmas.List.Folds.{list_all-append}
use Rattle.std.proofs.lemmas.List.Sums.{sum_by-cons}
use Rattle.wrp_sums.proofs.SumsOver.{list_all-same}
use Rattle.wrp_town.specs.declared.street.Need.{Need}
use Rattle.wrp_town.specs.declared.street.Need.TheVariants.{No, Either, Forward, Backward, Both}
use Rattle.wrp_town.specs.declared.street.Street.{Street}
use Rattle.wrp_town.specs.declared.town.Town.{Town}
use Rattle.wrp_town.specs.Streets.{demands_at, demands_from}
use Rattle.wrp_town.specs.Arcs.{is_legal, demands}
use Rattle.wrp_rules.specs.Rules.{number_at, is_served}
use Rattle.wrp_points.specs.Points.{AreLegal, HasNumbers}
use Rattle.wrp_points.specs.Demands.{is_inside, is_met}
use Rattle.wrp_points.proofs.NumberSums.{illegal_none}

-- ---- the arcs of demands are those of the town

arcs_inside : (s n : ℕ) (need : Need) → 2 * s + 1 < n → list_all (is_inside n) (demands_at s need) ≡ true
arcs_inside s n No below = refl
arcs_inside s n Either below = rw (lt-ltb (2 * s) n (omega arith), lt-ltb (2 * s + 1) n below) refl
arcs_inside s n Forward below = rw (lt-ltb (2 * s) n (omega arith)) refl
arcs_inside s n Backward below = rw (lt-ltb (2 * s + 1) n below) refl
arcs_inside s n Both below = rw (lt-ltb (2 * s) n (omega arith), lt-ltb (2 * s + 1) n below) refl

inside_from : (s n : ℕ) (streets : List Street) → 2 * (s + length streets) ≤ n → list_all (is_inside n) (demands_from s streets) ≡ true
inside_from s n [] few = refl
inside_from s n (street ∷ streets) few =
    list_all-append (is_inside n) (demands_at s street.need) (demands_from (s + 1) streets)
    ∙ and_from _ _ (arcs_inside s n street.need (omega arith)) (inside_from (s + 1) n streets (omega arith))

pub demands_inside : (town : Town) → list_all (is_inside (2 * length town.streets)) (demands town) ≡ true
demands_inside town = inside_from 0 (2 * length town.streets) town.streets (omega arith)

-- ---- illegal arcs have number 0

sum_legal : (town : Town) (numbers : List (ℕ × ℕ)) (table : List ℕ) (arcs : List ℕ) → AreLegal town numbers → HasNumbers numbers table → sum_by (λ arc. get_or table arc 0) arcs ≡ sum_by (number_at numbers) (filter (is_legal town) arcs)
sum_legal town numbers table [] legal full = refl
sum_legal town numbers table (arc ∷ arcs) legal full =
    sum_by-cons (λ a. get_or table a 0) arc arcs ∙ by (is_legal town arc) refl (sum_legal town numbers table arcs legal full)
  where
    by : (t : Bool) → is_legal town arc ≡ t → sum_by (λ a. get_or table a 0) arcs ≡ sum_by (number_at numbers) (filter (is_legal town) arcs) → get_or table arc 0 + sum_by (λ a. get_or table a 0) arcs ≡ sum_by (number_at numbers) (cond t (arc ∷ filter (is_legal town) arcs) (filter (is_legal town) arcs))
    by true is rest = omega (arith, full arc, sum_by-cons (number_at numbers) arc (filter (is_legal town) arcs))
    by false is rest = omega (arith, full arc, illegal_none town numbers arc legal is)

pub served_by_table : (town : Town) (den : ℕ) (numbers : List (ℕ × ℕ)) (table : List ℕ) → AreLegal town numbers → HasNumbers numbers table → list_all (is_met table den) (demands town) ≡ is_served town den numbers
served_by_table town den numbers table legal full =
    list_all-same (is_met table den) (λ demand. nat_le den (sum_by (number_at numbers) (filter (is_legal town) demand))) (demands town)
    (λ demand inside. ap (λ (n : ℕ). nat_le den n) (sum_legal town numbers table demand legal full))
