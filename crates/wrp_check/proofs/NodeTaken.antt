-- Records of nodes: what the kept nodes say of them, and what is kept behind them.
use Rattle.std.proofs.Common.{◌≡◌, ℕ, ◌+◌, ◌<◌, ◌≤◌, Bool, true, false, cond, nat_lt, List, [], ◌∷◌, ◌++◌, length, Option, None, Some, ap, sym, ◌∙◌, subst, arith}
use Rattle.std.specs.Option.{option_to_list}
use Rattle.std.proofs.lemmas.Bool.{lt-ltb, le-ltb}
use Rattle.std.proofs.lemmas.List.{append-nil}
use Rattle.std.proofs.lemmas.Slice.Zip.{AllZip-long}
use Rattle.wrp_town.specs.declared.town.Town.{Town}
use Rattle.wrp_rules.specs.declared.record.Record.{Record}
use Rattle.wrp_rules.specs.declared.rule.Rule.{Rule}
use Rattle.wrp_rules.specs.Rows.{Row, row_of}
use Rattle.wrp_rules.specs.Nodes.{Standing, node_at, is_open, nodes_after, upper_after, after}
use Rattle.wrp_rules.specs.Rules.{is_cut, is_alone, node_is_there, node_is_open, first_broken}
use Rattle.wrp_pool.specs.declared.row.Pool.{Pool}
use Rattle.wrp_pool.specs.Pools.{Holds}
use Rattle.wrp_nodes.specs.Kept.{Keeps, HasNodes}
use Rattle.wrp_check.specs.declared.kept.Kept.{Kept}
use Rattle.wrp_check.specs.declared.kept.Past.{Past}
use Rattle.wrp_check.specs.Judging.{past_behind, IsKept}
use Rattle.wrp_check.proofs.Keeping.{kept_after}

module _ (town : Town) (s : Standing) (kept : Kept) (is : IsKept town s kept) (node : ℕ) where
  -- as many nodes as are kept
  nodes_long : length s.nodes ≡ length kept.nodes
  nodes_long = AllZip-long Keeps kept.nodes s.nodes is.nodes.keeps

  pub node_there : node < length kept.nodes → node_is_there s node ≡ true
  node_there below = ap (nat_lt node) nodes_long ∙ lt-ltb node (length kept.nodes) below

  pub node_gone : length kept.nodes ≤ node → node_is_there s node ≡ false
  node_gone past = ap (nat_lt node) nodes_long ∙ le-ltb node (length kept.nodes) past

  -- the node is open where it is by the kept cost
  pub open_is : (told : Bool) → told ≡ is_open kept.upper (node_at town s node) → node_is_open town s node ≡ told
  open_is told same = ap (λ (u : Option ℕ). is_open u (node_at town s node)) is.upper ∙ sym same

-- behind a record that adds no row and is no tour
pub node_taken : (town : Town) (s : Standing) (item : Record) (past : Past) (old new : Kept) → IsKept town s old → is_alone s item ≡ true
    → row_of town s.rows item ≡ None → upper_after s.upper item ≡ s.upper → is_cut item ≡ false → past_behind item ≡ past
    → HasNodes town new.nodes (nodes_after town s item) → new.pool ≡ old.pool → new.upper ≡ old.upper → new.cuts ≡ old.cuts → new.past ≡ past → IsKept town (after town s item) new
node_taken town s item past old new is alone none upper_same cut behind nodes pool upper cuts same =
    kept_after town s item old new is alone
    (subst (λ (rows : List Row). Holds town new.pool rows) (sym (ap (λ (o : Option Row). s.rows ++ option_to_list o) none ∙ append-nil s.rows)) (subst (λ (p : Pool). Holds town p s.rows) (sym pool) is.pool))
    nodes
    (upper_same ∙ is.upper ∙ sym upper)
    (ap (λ (t : Bool). old.cuts + cond t 1 0) cut ∙ omega arith ∙ sym cuts)
    (same ∙ sym behind)

-- ---- two rules, and others behind them

pub start_broken : (a b : Rule) (t u : Bool) (others : List (Rule × Bool)) (rule : Rule) → first_broken ((a, t) ∷ (b, u) ∷ []) ≡ Some rule → first_broken ((a, t) ∷ (b, u) ∷ others) ≡ Some rule
start_broken a b true true others rule e = absurd (clash e)
  where
    clash : None ≡ Some rule → ⊥
    clash e = cc
start_broken a b true false others rule e = e
start_broken a b false u others rule e = e

pub start_kept : (a b : Rule) (t u : Bool) (others : List (Rule × Bool)) (broken : Option Rule) → first_broken ((a, t) ∷ (b, u) ∷ []) ≡ None → first_broken others ≡ broken → first_broken ((a, t) ∷ (b, u) ∷ others) ≡ broken
start_kept a b true true others broken e rest = rest
start_kept a b true false others broken e rest = absurd (clash e)
  where
    clash : Some b ≡ None → ⊥
    clash e = cc
start_kept a b false u others broken e rest = absurd (clash e)
  where
    clash : Some a ≡ None → ⊥
    clash e = cc
