-- A bound of a node holds for each closed walk that meets its rows within its box, and where no reduced cost is
-- negative, for each tour, whatever the upper ends of the box.
use Rattle.std.proofs.Common.{◌≡◌, ℕ, ◌<◌, ◌≤◌, true, ℤ, pos, ◌≤ℤ◌, List, Contains, sym, subst, arith}
use Rattle.wrp_sums.specs.Duality.{IsSolution}
use Rattle.wrp_sums.proofs.Integers.{one-*ℤ}
use Rattle.wrp_sums.proofs.WeakDuality.{whole_weak_duality}
use Rattle.wrp_town.specs.declared.street.Step.{Step}
use Rattle.wrp_town.specs.declared.town.Town.{Town}
use Rattle.wrp_town.specs.Arcs.{legal_arcs}
use Rattle.wrp_town.specs.Walks.{is_closed_walk, walk_cost, count_of}
use Rattle.wrp_rules.specs.Rows.{Row, row_at}
use Rattle.wrp_rules.specs.Nodes.{Node, program, bound_value}
use Rattle.wrp_laws.specs.Meets.{sum_of_uses, MeetsRow}
use Rattle.wrp_laws.proofs.BaseRows.{cost_of_uses}

-- ---- a closed walk in the box

-- the counts of a walk lie in the box of the node
pub record IsWithin (town : Town) (node : Node) (steps : List Step) : Type 0 where
  pub at_least : (arc : ℕ) → Contains (legal_arcs town) arc → node.lo arc ≤ count_of steps arc
  pub at_most : (arc : ℕ) → Contains (legal_arcs town) arc → count_of steps arc ≤ node.hi arc

-- such a walk solves the node's problem
pub solves : (town : Town) (rows : List Row) (node : Node) (mult : List (ℕ × ℕ)) (steps : List Step) → ((i : ℕ) → MeetsRow town steps (row_at rows i)) → IsWithin town node steps → IsSolution (program town rows node) 1 mult (count_of steps)
solves town rows node mult steps meets within = record {
  at_least = λ arc inside. let low = within.at_least arc inside in omega arith;
  at_most = λ arc inside. let high = within.at_most arc inside in omega arith;
  meets = λ q inside. subst (λ (z : ℤ). z ≤ℤ sum_of_uses town steps (row_at rows q.0).coef) (sym (one-*ℤ (row_at rows q.0).right_side)) (meets q.0);
}

-- so it costs at least the node's bound
pub bound_within : (town : Town) (rows : List Row) (node : Node) (den : ℕ) (mult : List (ℕ × ℕ)) (steps : List Step) → 0 < den → is_closed_walk town steps ≡ true → ((i : ℕ) → MeetsRow town steps (row_at rows i)) → IsWithin town node steps → bound_value town rows node den mult ≤ℤ pos (walk_cost town steps)
bound_within town rows node den mult steps positive walk meets within =
    subst (λ (z : ℤ). bound_value town rows node den mult ≤ℤ z) (cost_of_uses town steps walk)
    (whole_weak_duality (program town rows node) den mult (count_of steps) positive (solves town rows node mult steps meets within))
