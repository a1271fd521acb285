-- A cut that keeps its rules is taken.
use Rattle.std.proofs.Common.{◌≡◌, ℕ, ◌+◌, ◌<◌, ◌≤◌, Bool, true, false, List, ◌++◌, Option, Some, ap, sym, ◌∙◌, subst, cond}
use Rattle.std.specs.Prelude.{nat_lt}
use Rattle.std.specs.Option.{option_to_list}
use Rattle.std.proofs.lemmas.Bool.{lt-ltb, le-ltb}
use Rattle.wrp_town.specs.declared.town.Town.{Town}
use Rattle.wrp_rules.specs.declared.record.Record.{Record}
use Rattle.wrp_rules.specs.Rows.{Row, row_of}
use Rattle.wrp_rules.specs.Nodes.{Standing, nodes_after, upper_after, after}
use Rattle.wrp_rules.specs.Rules.{is_cut, is_alone, has_room}
use Rattle.wrp_pool.specs.Pools.{Holds}
use Rattle.wrp_pool.specs.Cuts.{Gains}
use Rattle.wrp_pool.proofs.Weights.{gained}
use Rattle.wrp_nodes.specs.Kept.{HasNodes}
use Rattle.wrp_nodes.specs.declared.kept.KeptNode.{KeptNode}
use Rattle.wrp_check.specs.declared.kept.Kept.{Kept}
use Rattle.wrp_check.specs.Judging.{plain_past, past_behind, IsKept}
use Rattle.wrp_check.proofs.Keeping.{kept_after}

-- there is room for one more
pub room_for_one : (town : Town) (s : Standing) (kept : Kept) → IsKept town s kept → kept.cuts < 20000 → has_room s ≡ true
room_for_one town s kept is few = ap (λ (n : ℕ). nat_lt n 20000) is.cuts ∙ lt-ltb kept.cuts 20000 few

-- or there is none
pub no_room : (town : Town) (s : Standing) (kept : Kept) → IsKept town s kept → 20000 ≤ kept.cuts → has_room s ≡ false
no_room town s kept is many = ap (λ (n : ℕ). nat_lt n 20000) is.cuts ∙ le-ltb kept.cuts 20000 many

-- behind a cut with this row
pub cut_taken : (town : Town) (s : Standing) (item : Record) (row : Row) (old new : Kept) → IsKept town s old → is_alone s item ≡ true
    → row_of town s.rows item ≡ Some row → nodes_after town s item ≡ s.nodes → upper_after s.upper item ≡ s.upper → is_cut item ≡ true → past_behind item ≡ plain_past
    → Gains town row old.pool new.pool → new.nodes ≡ old.nodes → new.upper ≡ old.upper → new.cuts ≡ old.cuts + 1 → new.past ≡ plain_past → IsKept town (after town s item) new
cut_taken town s item row old new is alone of nodes_same upper_same cut plain gains nodes upper cuts past =
    kept_after town s item old new is alone
    (subst (λ (o : Option Row). Holds town new.pool (s.rows ++ option_to_list o)) (sym of) (gained town row old.pool new.pool s.rows is.pool gains))
    (subst (HasNodes town new.nodes) (sym nodes_same) (subst (λ (kept : List KeptNode). HasNodes town kept s.nodes) (sym nodes) is.nodes))
    (upper_same ∙ is.upper ∙ sym upper)
    (ap (λ (t : Bool). old.cuts + cond t 1 0) cut ∙ sym cuts)
    (past ∙ sym plain)
