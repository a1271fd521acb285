-- What steps cost that use no arc more often than a whole point.
use Rattle.std.proofs.Common.{◌≡◌, ℕ, ◌*◌, ◌≤◌, true, List, [], ◌∷◌, Option, None, Some, IsSome, Result, Ok, Err, unsigned_abs, ap, sym, ◌∙◌, arith, mul-le-mul_left, mul-le-mul}
use Rattle.std.specs.Prelude.{slice_index, IfSome, IsSomeAnd, IfOk}
use Rattle.std.specs.List.{sum_by}
use Rattle.std.proofs.lemmas.Bool.{false≢true}
use Rattle.std.proofs.lemmas.List.Sums.{sum_by-cons, sum_by-le-sum_by}
use Rattle.std.proofs.Math.Nat.{mul_assoc}
use Rattle.wrp_sums.proofs.SumsOver.{sum_over-pos}
use Rattle.wrp_town.specs.declared.street.Step.{Step}
use Rattle.wrp_town.specs.declared.town.Town.{Town}
use Rattle.wrp_town.specs.Arcs.{cost_or_zero, legal_arcs}
use Rattle.wrp_town.specs.Walks.{is_closed_walk, walk_cost, count_of}
use Rattle.wrp_town.proofs.WalkLaws.{tour_closed}
use Rattle.wrp_laws.proofs.BaseRows.{cost_of_uses}
use Rattle.wrp_euler.specs.Circuits.{IsCircuit}
use Rattle.wrp_tour.specs.Tours.{IsLeanTour}
use Rattle.wrp_rows.specs.declared.point.Point.{Point}
use Rattle.wrp_odd.specs.Points.{numbers_of}
use Rattle.wrp_point_tour.specs.PointTours.{CostsAtMost}
use Rattle.wrp_point_tour.specs.Counts.{UsesAtMost}

sum_by_times : (f : ℕ → ℕ) (e : ℕ) (xs : List ℕ) → sum_by (λ x. f x * e) xs ≡ sum_by f xs * e
sum_by_times f e [] = omega arith
sum_by_times f e (x ∷ xs) = omega (arith, sum_by-cons (λ x. f x * e) x xs, sum_by-cons f x xs, sum_by_times f e xs, ap (λ (n : ℕ). n * e) (sum_by-cons f x xs))

-- a closed walk costs what its arcs cost, each as often as it is used
cost_by_arcs : (town : Town) (steps : List Step) → is_closed_walk town steps ≡ true → walk_cost town steps ≡ sum_by (λ arc. cost_or_zero town arc * count_of steps arc) (legal_arcs town)
cost_by_arcs town steps closed =
    ap unsigned_abs (sym (cost_of_uses town steps closed) ∙ sum_over-pos (λ arc. cost_or_zero town arc * count_of steps arc) (legal_arcs town))

one_arc : (cost used count e number : ℕ) → used ≤ count → number ≡ count * e → cost * used * e ≤ cost * number
one_arc cost used count e number few is =
    let more : used * e ≤ count * e = mul-le-mul few (omega arith) in
    omega (arith, mul-le-mul_left cost more, mul_assoc cost used e, ap (λ (n : ℕ). cost * n) is)

pub costs_at_most : (town : Town) (point : Point) (counts : List ℕ) (steps : List Step) → ((arc : ℕ) → numbers_of point arc ≡ slice_index counts arc * unsigned_abs point.den) → is_closed_walk town steps ≡ true → UsesAtMost counts steps → CostsAtMost town point steps
costs_at_most town point counts steps times closed few =
    let e = unsigned_abs point.den in
    omega (
      arith,
      ap (λ (n : ℕ). n * e) (cost_by_arcs town steps closed),
      sum_by_times (λ arc. cost_or_zero town arc * count_of steps arc) e (legal_arcs town),
      sum_by-le-sum_by (λ arc. cost_or_zero town arc * count_of steps arc * e) (λ arc. cost_or_zero town arc * numbers_of point arc) (legal_arcs town)
          (λ arc. one_arc (cost_or_zero town arc) (count_of steps arc) (slice_index counts arc) e (numbers_of point arc) (few arc) (times arc)),
    )

-- what is found where it is a tour that uses few
pub found_costs : (town : Town) (point : Point) (counts : List ℕ) (found : Option (List Step)) → ((arc : ℕ) → numbers_of point arc ≡ slice_index counts arc * unsigned_abs point.den) → IfSome found (IsLeanTour town) → IsSomeAnd found (UsesAtMost counts) → IsSomeAnd found (CostsAtMost town point)
found_costs town point counts None times lean few = few
found_costs town point counts (Some steps) times lean few = costs_at_most town point counts steps times (tour_closed town steps lean.tour) few

-- what is found where it is a circuit of no greater counts
pub found_uses : (town : Town) (counts kept : List ℕ) (found : Option (List Step)) → ((arc : ℕ) → slice_index kept arc ≤ slice_index counts arc) → IfSome found (IsCircuit town kept) → IsSome found → IsSomeAnd found (UsesAtMost counts)
found_uses town counts kept None few circuit some = false≢true some
found_uses town counts kept (Some steps) few circuit some = λ arc. omega (arith, circuit.counted arc, few arc)

-- two facts of a value together
pub IfOk-both : {X E : Type 0} (r : Result X E) (P Q R : X → Type 0) → IfOk r P → IfOk r Q → ((x : X) → P x → Q x → R x) → IfOk r R
IfOk-both (Ok x) P Q R first second both = both x first second
IfOk-both (Err e) P Q R first second both = tt
