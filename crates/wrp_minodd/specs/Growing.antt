-- The arcs of a net, as streets are added.
use Rattle.std.specs.Prelude.{◌≡◌, ◌≢◌, ℕ, ◌*◌, ◌^◌, ◌<◌, ◌≤◌, Bool, cond, ℤ, pos, ◌≤ℤ◌, List, [], ◌∷◌, ◌++◌, length, slice_index_or}
use Rattle.wrp_flow.specs.declared.net.Net.{Net}
use Rattle.wrp_flow.specs.Flows.{tail_in, head_in, capacity_in, leaving_in}
use Rattle.wrp_webs.specs.Webs.{Web, sum_below, differ}

-- the two arcs of a street, where it has weight and joins two nodes; else none
pub record IsPair (from to weight : ℕ) (old new : List (ℕ × ℕ × ℤ)) : Type 0 where
  pub both : from ≢ to → 0 < weight
      → new ≡ (old ++ (from, to, pos weight) ∷ []) ++ (to, from, pos weight) ∷ []
  pub none_at_loop : from ≡ to → new ≡ old
  pub none_without : weight ≡ 0 → new ≡ old

-- the weight of a set over the first n links of a web whose junctions stand for others
abbrev pub cut_to : Web → (ℕ → ℕ) → (ℕ → Bool) → ℕ → ℕ
cut_to web at set n =
    sum_below (λ l. cond (differ (set (at (web.one l))) (set (at (web.two l)))) (web.weight l) 0) n

abbrev pub net_with : ℕ → List (ℕ × ℕ × ℤ) → Net
net_with nodes arcs = record { nodes = nodes; arcs = arcs }

-- the arcs of the first n links
pub record IsGrowing (web : Web) (at : ℕ → ℕ) (n : ℕ) (arcs : List (ℕ × ℕ × ℤ)) : Type 0 where
  pub tails : (a : ℕ) → a < length arcs → tail_in (net_with web.junctions arcs) a < web.junctions
  pub heads : (a : ℕ) → a < length arcs → head_in (net_with web.junctions arcs) a < web.junctions
  pub low : (a : ℕ) → a < length arcs → pos 0 ≤ℤ (slice_index_or arcs a (0, 0, pos 0)).2
  pub small : sum_below (capacity_in (net_with web.junctions arcs)) (length arcs) ≤ 2 * n * 2 ^ 73
  pub leaves : (set : ℕ → Bool) → leaving_in (net_with web.junctions arcs) set ≡ cut_to web at set n
