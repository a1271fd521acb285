-- Webs: junctions with degrees, and weighted links between them; sets of junctions, and what crosses
-- them.
use Rattle.std.specs.Prelude.{◌≡◌, ℕ, zero, suc, ◌+◌, ◌%◌, ◌<◌, ◌≤◌, Bool, true, false, cond, ◌&&◌, ◌||◌, not, ◌==◌}

-- f 0 + .. + f (n - 1)
abbrev pub sum_below : (ℕ → ℕ) → ℕ → ℕ
sum_below f zero = 0
sum_below f (suc n) = sum_below f n + f n

-- junctions below a number, each with a degree, and links below a number, each with its two ends and
-- a weight
pub record Web : Type 0 where
  pub junctions : ℕ
  pub degree : ℕ → ℕ
  pub links : ℕ
  pub one : ℕ → ℕ
  pub two : ℕ → ℕ
  pub weight : ℕ → ℕ

-- exactly one of the two holds
abbrev pub differ : Bool → Bool → Bool
differ a b = (a && not b) || (not a && b)

-- a set is a test of junctions; these are what two sets share, what either holds, what a set leaves
-- out, and what one holds beyond another
abbrev pub both : (ℕ → Bool) → (ℕ → Bool) → ℕ → Bool
both t u j = t j && u j

abbrev pub either : (ℕ → Bool) → (ℕ → Bool) → ℕ → Bool
either t u j = t j || u j

abbrev pub outside : (ℕ → Bool) → ℕ → Bool
outside t j = not (t j)

abbrev pub without : (ℕ → Bool) → (ℕ → Bool) → ℕ → Bool
without t u j = t j && not (u j)

-- the weight of a set: that of the links that cross it
abbrev pub cut : Web → (ℕ → Bool) → ℕ
cut web set =
    sum_below (λ l. cond (differ (set (web.one l)) (set (web.two l))) (web.weight l) 0) web.links

-- the sum of the degrees of its junctions
abbrev pub degrees : Web → (ℕ → Bool) → ℕ
degrees web set = sum_below (λ j. cond (set j) (web.degree j) 0) web.junctions

-- an odd set
abbrev pub IsOdd : Web → (ℕ → Bool) → Type 0
IsOdd web set = degrees web set % 2 ≡ 1

-- the ends of links are junctions, and all degrees together are even
pub record IsWeb (web : Web) : Type 0 where
  pub one_below : (l : ℕ) → l < web.links → web.one l < web.junctions
  pub two_below : (l : ℕ) → l < web.links → web.two l < web.junctions
  pub even : degrees web (λ j. true) % 2 ≡ 0

-- ---- smaller webs: junctions stand for others

-- each junction has one that stands for it, and that stands for itself
pub record IsMerge (web : Web) (at : ℕ → ℕ) : Type 0 where
  pub below : (j : ℕ) → j < web.junctions → at j < web.junctions
  pub still : (j : ℕ) → j < web.junctions → at (at j) ≡ at j

-- the junctions for which this one stands
abbrev pub class : (ℕ → ℕ) → ℕ → ℕ → Bool
class at node j = at j == node

-- the set holds all junctions of a class or none
abbrev pub Keeps : Web → (ℕ → ℕ) → (ℕ → Bool) → Type 0
Keeps web at set = (j : ℕ) → j < web.junctions → set (at j) ≡ set j

-- an odd node: one whose class is odd
pub record IsOddNode (web : Web) (at : ℕ → ℕ) (node : ℕ) : Type 0 where
  pub below : node < web.junctions
  pub odd : IsOdd web (class at node)

-- how many nodes are odd
abbrev pub odd_nodes : Web → (ℕ → ℕ) → ℕ
odd_nodes web at =
    sum_below (λ node. cond (degrees web (class at node) % 2 == 1) 1 0) web.junctions

-- the set has an odd node inside and one outside
pub record IsSplit (web : Web) (at : ℕ → ℕ) (set : ℕ → Bool) (s t : ℕ) : Type 0 where
  pub keeps : Keeps web at set
  pub first : IsOddNode web at s
  pub second : IsOddNode web at t
  pub holds : set s ≡ true
  pub leaves_out : set t ≡ false

-- and none of these weighs less
pub record IsLeastSplit (web : Web) (at : ℕ → ℕ) (set : ℕ → Bool) (s t : ℕ) : Type 0 where
  pub split : IsSplit web at set s t
  pub least : (other : ℕ → Bool) (u v : ℕ) → IsSplit web at other u v → cut web set ≤ cut web other

-- the least cut between two nodes
pub record IsLeastBetween (web : Web) (at : ℕ → ℕ) (s t : ℕ) (set : ℕ → Bool) : Type 0 where
  pub keeps : Keeps web at set
  pub holds : set s ≡ true
  pub leaves_out : set t ≡ false
  pub least : (other : ℕ → Bool) → Keeps web at other → other s ≡ true → other t ≡ false
      → cut web set ≤ cut web other

-- the junctions outside the set are merged into t, which is one of them
abbrev pub shrunk : (ℕ → ℕ) → (ℕ → Bool) → ℕ → ℕ → ℕ
shrunk at set t j = cond (set j) (at j) t

-- an odd set that keeps classes, lies within u and isn't heavier than the set
pub record IsWithin (web : Web) (at : ℕ → ℕ) (u set : ℕ → Bool) : Type 0 where
  pub inner : ℕ → Bool
  pub keeps : Keeps web at inner
  pub odd : IsOdd web inner
  pub lighter : cut web inner ≤ cut web set
  pub within : (j : ℕ) → inner j ≡ true → u j ≡ true

-- the odd nodes of the two smaller webs are those of the web, and neither has none
pub record AreShrunk (web : Web) (at : ℕ → ℕ) (u : ℕ → Bool) (s t : ℕ) : Type 0 where
  pub first : IsMerge web (shrunk at u t)
  pub second : IsMerge web (shrunk at (outside u) s)
  pub count : odd_nodes web (shrunk at u t) + odd_nodes web (shrunk at (outside u) s)
      ≡ odd_nodes web at
  pub first_some : 0 < odd_nodes web (shrunk at u t)
  pub second_some : 0 < odd_nodes web (shrunk at (outside u) s)

-- an odd set, and no odd set that keeps classes weighs less
pub record IsLeastOdd (web : Web) (at : ℕ → ℕ) (set : ℕ → Bool) : Type 0 where
  pub odd : IsOdd web set
  pub least : (other : ℕ → Bool) → Keeps web at other → IsOdd web other
      → cut web set ≤ cut web other
