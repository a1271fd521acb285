-- The counts of the arcs of a star: of all the legal arcs that pass a test.
use Rattle.std.proofs.Common.{◌≡◌, ℕ, ◌*◌, ◌<◌, ◌≤◌, Bool, List, length, sum, ap, arith}
use Rattle.std.specs.Prelude.{slice_index}
use Rattle.std.specs.List.{sum_by, range_with_len}
use Rattle.wrp_town.specs.declared.town.Town.{Town}
use Rattle.wrp_town.specs.Arcs.{is_legal}
use Rattle.wrp_town.proofs.TownLaws.{legal_below}
use Rattle.wrp_euler.proofs.StarSums.{star, star_first, star_at_most, range_all}

module _ (town : Town) (q : ℕ → Bool) (arcs counts : List ℕ) (is : arcs ≡ star (is_legal town) q (2 * length town.streets)) (sized : length counts ≡ 2 * length town.streets) where
  -- each has a count
  pub star_inside : (k : ℕ) → k < length arcs → slice_index arcs k < length counts
  star_inside k below =
      let legal = star_first (is_legal town) q (2 * length town.streets) k (omega (arith, ap length is)) in
      omega (arith, ap (λ xs. slice_index xs k) is, legal_below town (slice_index (star (is_legal town) q (2 * length town.streets)) k) legal)

  -- and together at most the sum of all
  pub star_sum_at_most : sum_by (slice_index counts) arcs ≤ sum counts
  star_sum_at_most =
      omega (
        arith,
        ap (sum_by (slice_index counts)) is,
        star_at_most (is_legal town) q (2 * length town.streets) (slice_index counts),
        ap (λ n. sum_by (slice_index counts) (range_with_len 0 n)) sized,
        range_all counts,
      )
