-- Nets: arcs below a number, each from its tail to its head with a capacity; the net of a web.
use Rattle.std.specs.Prelude.{ℕ, ◌/◌, ◌%◌, Bool, cond, ◌&&◌, not, ◌==◌}
use Rattle.wrp_webs.specs.Webs.{Web, sum_below}

-- what leaves a set, and what enters it
abbrev pub leaving : ℕ → (ℕ → ℕ) → (ℕ → ℕ) → (ℕ → ℕ) → (ℕ → Bool) → ℕ
leaving n tail head capacity set =
    sum_below (λ a. cond (set (tail a) && not (set (head a))) (capacity a) 0) n

abbrev pub entering : ℕ → (ℕ → ℕ) → (ℕ → ℕ) → (ℕ → ℕ) → (ℕ → Bool) → ℕ
entering n tail head capacity set =
    sum_below (λ a. cond (not (set (tail a)) && set (head a)) (capacity a) 0) n

-- the sum of numbers over the arcs that have their end at a node
abbrev pub sum_at_end : ℕ → (ℕ → ℕ) → (ℕ → ℕ) → ℕ → ℕ
sum_at_end n end x j = sum_below (λ a. cond (end a == j) (x a) 0) n

-- each link is two arcs, one each way, between the junctions that stand for its ends
abbrev pub tail_between : Web → (ℕ → ℕ) → ℕ → ℕ
tail_between web at a = at (cond (a % 2 == 0) (web.one (a / 2)) (web.two (a / 2)))

abbrev pub head_between : Web → (ℕ → ℕ) → ℕ → ℕ
head_between web at a = at (cond (a % 2 == 0) (web.two (a / 2)) (web.one (a / 2)))
