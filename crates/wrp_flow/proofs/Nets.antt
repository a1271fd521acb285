-- A net whose arcs pass tests.
use Rattle.std.proofs.Common.{◌≡◌, ℕ, ◌<◌, ◌^◌, Bool, true, false, ◌&&◌, nat_lt, ℤ, pos, negsuc, length, get_or, arith}
use Rattle.std.specs.Prelude.{◌≤ℤ◌}
use Rattle.std.specs.List.{list_all}
use Rattle.std.proofs.lemmas.Bool.{ltb-true, and_parts, false≢true}
use Rattle.wrp_sums.proofs.Integers.{pos-≤ℤ}
use Rattle.wrp_town.proofs.Lists.{list_all-at}
use Rattle.wrp_webs.specs.Webs.{sum_below}
use Rattle.wrp_flow.specs.declared.net.Net.{Net}
use Rattle.wrp_flow.specs.Flows.{capacity_in, IsNet}

abbrev pub is_low : ℤ → Bool
is_low (pos n) = true
is_low (negsuc n) = false

low : (z : ℤ) → is_low z ≡ true → pos 0 ≤ℤ z
low (pos n) e = pos-≤ℤ 0 n (omega arith)
low (negsuc n) e = absurd (false≢true e)

abbrev pub is_arc : ℕ → ℕ × ℕ × ℤ → Bool
is_arc nodes arc = (nat_lt arc.0 nodes && nat_lt arc.1 nodes) && is_low arc.2

pub net_from_tests : (net : Net) → list_all (is_arc net.nodes) net.arcs ≡ true → sum_below (capacity_in net) (length net.arcs) < 2 ^ 100 → IsNet net
net_from_tests net pass small = record {
  tails = λ a below. ltb-true _ _ (and_parts _ _ (and_parts _ _ (at a below)).0).0;
  heads = λ a below. ltb-true _ _ (and_parts _ _ (and_parts _ _ (at a below)).0).1;
  low = λ a below. low (get_or net.arcs a (0, 0, pos 0)).2 (and_parts _ _ (at a below)).1;
  small = small;
}
  where
    at : (a : ℕ) → a < length net.arcs → is_arc net.nodes (get_or net.arcs a (0, 0, pos 0)) ≡ true
    at a below = list_all-at (is_arc net.nodes) net.arcs a (0, 0, pos 0) pass below
