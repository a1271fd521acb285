-- The numbers and the denominator of a balanced point.
use Rattle.std.proofs.Common.{◌≡◌, ℕ, ◌*◌, ◌^◌, ◌<◌, ◌≤◌, pos, length, get_or, arith}
use Rattle.std.specs.Prelude.{◌≤ℤ◌}
use Rattle.wrp_sums.proofs.Integers.{sized}
use Rattle.wrp_town.specs.declared.town.Town.{Town}
use Rattle.wrp_rows.specs.declared.point.Point.{Point}
use Rattle.wrp_odd.specs.Points.{denominator_of, numbers_of}
use Rattle.wrp_conn.specs.Conns.{IsBalancedPoint}

pub number_ranges : (town : Town) (point : Point) → IsBalancedPoint town point → (arc : ℕ) → arc < 2 * length town.streets → (pos 0 ≤ℤ get_or point.at arc (pos 0)) × (numbers_of point arc ≤ 2 ^ 72)
number_ranges town point is arc below =
    let both = is.numbers arc (pos 0) (omega (arith, is.is.long)) in
    let low : pos 0 ≤ℤ get_or point.at arc (pos 0) = both.0 in
    let high : get_or point.at arc (pos 0) ≤ℤ pos (2 ^ 72) = both.1 in
    (low, omega (arith, sized))

pub denominator_is : (town : Town) (point : Point) → IsBalancedPoint town point → pos (denominator_of point) ≡ point.den
denominator_is town point is = let positive : pos 1 ≤ℤ point.den = is.is.positive in omega (arith, sized)
