-- Weights of sets: a set and what it leaves out weigh the same, and two sets weigh at least what they share and what either holds, and at least the two differences.
use Rattle.std.proofs.Common.{◌≡◌, ℕ, ◌+◌, ◌%◌, ◌<◌, ◌≤◌, Bool, true, false, cond, ◌&&◌, ◌||◌, not, ap, refl, arith}
use Rattle.wrp_webs.specs.Webs.{Web, differ, both, either, outside, without, cut, degrees, IsWeb, IsOdd}
use Rattle.wrp_webs.proofs.SumsBelow.{same_sum, least_sum, sum_of_sums}

-- ---- one link

differ_outside : (a b : Bool) → differ (not a) (not b) ≡ differ a b
differ_outside true true = refl
differ_outside true false = refl
differ_outside false true = refl
differ_outside false false = refl

link_shared : (a b c d : Bool) (w : ℕ) → cond (differ (a && c) (b && d)) w 0 + cond (differ (a || c) (b || d)) w 0 ≤ cond (differ a b) w 0 + cond (differ c d) w 0
link_shared true true true true w = omega arith
link_shared true true true false w = omega arith
link_shared true true false true w = omega arith
link_shared true true false false w = omega arith
link_shared true false true true w = omega arith
link_shared true false true false w = omega arith
link_shared true false false true w = omega arith
link_shared true false false false w = omega arith
link_shared false true true true w = omega arith
link_shared false true true false w = omega arith
link_shared false true false true w = omega arith
link_shared false true false false w = omega arith
link_shared false false true true w = omega arith
link_shared false false true false w = omega arith
link_shared false false false true w = omega arith
link_shared false false false false w = omega arith

link_apart : (a b c d : Bool) (w : ℕ) → cond (differ (a && not c) (b && not d)) w 0 + cond (differ (c && not a) (d && not b)) w 0 ≤ cond (differ a b) w 0 + cond (differ c d) w 0
link_apart true true true true w = omega arith
link_apart true true true false w = omega arith
link_apart true true false true w = omega arith
link_apart true true false false w = omega arith
link_apart true false true true w = omega arith
link_apart true false true false w = omega arith
link_apart true false false true w = omega arith
link_apart true false false false w = omega arith
link_apart false true true true w = omega arith
link_apart false true true false w = omega arith
link_apart false true false true w = omega arith
link_apart false true false false w = omega arith
link_apart false false true true w = omega arith
link_apart false false true false w = omega arith
link_apart false false false true w = omega arith
link_apart false false false false w = omega arith

-- ---- weights

-- the term of a link
abbrev crossing : Web → (ℕ → Bool) → ℕ → ℕ
crossing web set l = cond (differ (set (web.one l)) (set (web.two l))) (web.weight l) 0

pub cut_outside : (web : Web) (t : ℕ → Bool) → cut web (outside t) ≡ cut web t
cut_outside web t = same_sum (crossing web (outside t)) (crossing web t) web.links (λ l below. ap (λ (b : Bool). cond b (web.weight l) 0) (differ_outside (t (web.one l)) (t (web.two l))))

-- submodular
pub cut_shared : (web : Web) (t u : ℕ → Bool) → cut web (both t u) + cut web (either t u) ≤ cut web t + cut web u
cut_shared web t u =
    omega (
      arith,
      sum_of_sums (crossing web (both t u)) (crossing web (either t u)) web.links,
      sum_of_sums (crossing web t) (crossing web u) web.links,
      least_sum (λ l. crossing web (both t u) l + crossing web (either t u) l) (λ l. crossing web t l + crossing web u l) web.links
          (λ l below. link_shared (t (web.one l)) (t (web.two l)) (u (web.one l)) (u (web.two l)) (web.weight l)),
    )

-- posimodular
pub cut_apart : (web : Web) (t u : ℕ → Bool) → cut web (without t u) + cut web (without u t) ≤ cut web t + cut web u
cut_apart web t u =
    omega (
      arith,
      sum_of_sums (crossing web (without t u)) (crossing web (without u t)) web.links,
      sum_of_sums (crossing web t) (crossing web u) web.links,
      least_sum (λ l. crossing web (without t u) l + crossing web (without u t) l) (λ l. crossing web t l + crossing web u l) web.links
          (λ l below. link_apart (t (web.one l)) (t (web.two l)) (u (web.one l)) (u (web.two l)) (web.weight l)),
    )

-- ---- degrees

one_outside : (a : Bool) (d : ℕ) → cond a d 0 + cond (not a) d 0 ≡ cond true d 0
one_outside true d = omega arith
one_outside false d = omega arith

one_parted : (a b : Bool) (d : ℕ) → cond (a && b) d 0 + cond (a && not b) d 0 ≡ cond a d 0
one_parted true true d = omega arith
one_parted true false d = omega arith
one_parted false true d = omega arith
one_parted false false d = omega arith

abbrev share : Web → (ℕ → Bool) → ℕ → ℕ
share web set j = cond (set j) (web.degree j) 0

pub degrees_outside : (web : Web) (t : ℕ → Bool) → degrees web t + degrees web (outside t) ≡ degrees web (λ j. true)
degrees_outside web t =
    omega (
      arith,
      sum_of_sums (share web t) (share web (outside t)) web.junctions,
      same_sum (λ j. share web t j + share web (outside t) j) (share web (λ j. true)) web.junctions (λ j below. one_outside (t j) (web.degree j)),
    )

pub degrees_parted : (web : Web) (t u : ℕ → Bool) → degrees web (both t u) + degrees web (without t u) ≡ degrees web t
degrees_parted web t u =
    omega (
      arith,
      sum_of_sums (share web (both t u)) (share web (without t u)) web.junctions,
      same_sum (λ j. share web (both t u) j + share web (without t u) j) (share web t) web.junctions (λ j below. one_parted (t j) (u j) (web.degree j)),
    )

pub same_degrees : (web : Web) (t u : ℕ → Bool) → ((j : ℕ) → j < web.junctions → t j ≡ u j) → degrees web t ≡ degrees web u
same_degrees web t u same = same_sum (share web t) (share web u) web.junctions (λ j below. ap (λ (b : Bool). cond b (web.degree j) 0) (same j below))

-- what an odd set leaves out is odd
pub outside_odd : (web : Web) (t : ℕ → Bool) → IsWeb web → IsOdd web t → IsOdd web (outside t)
outside_odd web t is odd = omega (arith, degrees_outside web t, is.even)

pub outside_even : (web : Web) (t : ℕ → Bool) → IsWeb web → degrees web t % 2 ≡ 0 → degrees web (outside t) % 2 ≡ 0
outside_even web t is even = omega (arith, degrees_outside web t, is.even)
