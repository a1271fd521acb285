-- Records about one node: what their first rules say, and what stands behind them.
use Rattle.std.proofs.Common.{inl, inr, ◌⊎◌, ◌≡◌, ℕ, ◌+◌, ◌*◌, ◌<◌, ◌≤◌, Bool, true, false, cond, ◌&&◌, ◌==◌, nat_eq, List, [], ◌∷◌, ◌++◌, length, Option, None, Some, ap, refl, sym, ◌∙◌, subst, arith}
use Rattle.std.specs.Prelude.{nat_lt, nat_le, is_some}
use Rattle.std.specs.Option.{option_map_or, option_eq, option_to_list}
use Rattle.std.specs.List.{list_all, last_or}
use Rattle.std.proofs.lemmas.Bool.{lt-ltb, le-ltb, le-leb, lt-leb, and_from, and_left, and_right, and_cases, leb-false, ltb-false, ne_eqb}
use Rattle.std.proofs.lemmas.List.{append-nil}
use Rattle.wrp_town.specs.declared.town.Town.{Town}
use Rattle.wrp_town.specs.Arcs.{is_legal}
use Rattle.wrp_town.proofs.TownLaws.{legal_below, few_streets}
use Rattle.wrp_rules.specs.declared.record.Record.{Record}
use Rattle.wrp_rules.specs.declared.rule.Rule.{Rule}
use Rattle.wrp_rules.specs.Rows.{Row, row_of}
use Rattle.wrp_rules.specs.Nodes.{Node, Standing, node_at, nodes_after, upper_after, after, is_open}
use Rattle.wrp_rules.specs.Rules.{is_cut, is_alone, leads_to_split, node_is_there, node_is_open, all_below, streets_are_there, parts_range, first_broken, rules_of}
use Rattle.wrp_pool.specs.Pools.{Holds}
use Rattle.wrp_pool.specs.declared.row.Pool.{Pool}
use Rattle.wrp_nodes.specs.Kept.{HasNodes}
use Rattle.wrp_nodes.proofs.Keeping.{zip_length}
use Rattle.wrp_check.specs.declared.kept.Kept.{Kept}
use Rattle.wrp_check.specs.Judging.{past_behind, IsKept}
use Rattle.wrp_check.proofs.Keeping.{kept_after}
use Rattle.wrp_check.proofs.KindRules.{one_kept}

-- ---- the first rules

-- the node is there, or it isn't
pub is_there : (town : Town) (s : Standing) (kept : Kept) (node count : ℕ) → IsKept town s kept → count ≡ length kept.nodes → node < count → node_is_there s node ≡ true
is_there town s kept node count is counted below = lt-ltb node (length s.nodes) (omega (arith, zip_length kept.nodes s.nodes is.nodes.keeps, counted, below))

pub is_missing : (town : Town) (s : Standing) (kept : Kept) (node count : ℕ) → IsKept town s kept → count ≡ length kept.nodes → count ≤ node → node_is_there s node ≡ false
is_missing town s kept node count is counted above = le-ltb node (length s.nodes) (omega (arith, zip_length kept.nodes s.nodes is.nodes.keeps, counted, above))

-- it is open where the kept one is
pub opens : (town : Town) (s : Standing) (kept : Kept) (node : ℕ) (told : Bool) → IsKept town s kept → told ≡ is_open kept.upper (node_at town s node) → node_is_open town s node ≡ told
opens town s kept node told is same = ap (λ (u : Option ℕ). is_open u (node_at town s node)) is.upper ∙ sym same

-- the last record leads to the split of this node, or it doesn't
leads_eq : (leads : Option ℕ) (node : ℕ) → option_map_or (λ led. led == node) leads false ≡ option_eq nat_eq leads (Some node)
leads_eq None node = refl
leads_eq (Some led) node = refl

pub is_led : (town : Town) (s : Standing) (kept : Kept) (node : ℕ) → IsKept town s kept → option_map_or (leads_to_split node) (last_or None s.records) false ≡ option_eq nat_eq kept.past.leads (Some node)
is_led town s kept node is = is.past.leads node ∙ leads_eq kept.past.leads node

-- the number of uses parts the range of the arc, or it is below or above
module _ (node : Node) (arc k lo hi : ℕ) (low : lo ≡ node.lo arc) (high : hi ≡ node.hi arc) where
  pub parts : lo ≤ k → k < hi → parts_range node arc k ≡ true
  parts above below = and_from (nat_le (node.lo arc) k) (nat_lt k (node.hi arc)) (le-leb (node.lo arc) k (omega (arith, low, above))) (lt-ltb k (node.hi arc) (omega (arith, high, below)))

  pub parts_below : k < lo → parts_range node arc k ≡ false
  parts_below below = and_left (nat_le (node.lo arc) k) (nat_lt k (node.hi arc)) (lt-leb (node.lo arc) k (omega (arith, low, below)))

  pub parts_above : hi ≤ k → parts_range node arc k ≡ false
  parts_above above = and_right (nat_le (node.lo arc) k) (nat_lt k (node.hi arc)) (le-ltb k (node.hi arc) (omega (arith, high, above)))

-- the number of a legal arc is small
pub small_arc : (town : Town) (arc : ℕ) → is_legal town arc ≡ true → arc < 65536
small_arc town arc legal = omega (arith, legal_below town arc legal, few_streets town)

-- ---- what is said of the record

-- it isn't taken
pub refused : (town : Town) (s : Standing) (item : Record) (rule : Rule) (new : Kept) → first_broken (rules_of town s item) ≡ Some rule
    → (first_broken (rules_of town s item) ≡ Some rule) × (Some rule ≡ None → IsKept town (after town s item) new)
refused town s item rule new broken = (broken, λ e. cc)

-- a record without a row is taken
pub rowless : (town : Town) (s : Standing) (item : Record) (old new : Kept) → IsKept town s old → is_alone s item ≡ true
    → row_of town s.rows item ≡ None → is_cut item ≡ false → upper_after s.upper item ≡ s.upper
    → new.pool ≡ old.pool → HasNodes town new.nodes (nodes_after town s item) → new.upper ≡ old.upper → new.cuts ≡ old.cuts → new.past ≡ past_behind item → IsKept town (after town s item) new
rowless town s item old new is alone none cut upper_same pool nodes upper cuts past =
    kept_after town s item old new is alone
    (subst (λ (o : Option Row). Holds town new.pool (s.rows ++ option_to_list o)) (sym none) (subst (Holds town new.pool) (sym (append-nil s.rows)) (subst (λ (p : Pool). Holds town p s.rows) (sym pool) is.pool)))
    nodes (upper_same ∙ is.upper ∙ sym upper) (ap (λ (t : Bool). old.cuts + cond t 1 0) cut ∙ omega (arith, cuts)) past

-- ---- four rules

pub four_kept : (a b c d : Rule) (t u v w : Bool) → t ≡ true → u ≡ true → v ≡ true → w ≡ true → first_broken ((a, t) ∷ (b, u) ∷ (c, v) ∷ (d, w) ∷ []) ≡ None
four_kept a b c d t u v w e f g h =
    one_kept a t ((b, u) ∷ (c, v) ∷ (d, w) ∷ []) None e (one_kept b u ((c, v) ∷ (d, w) ∷ []) None f (one_kept c v ((d, w) ∷ []) None g (one_kept d w [] None h refl)))

pub fourth_fails : (a b c d : Rule) (t u v w : Bool) → t ≡ true → u ≡ true → v ≡ true → w ≡ false → first_broken ((a, t) ∷ (b, u) ∷ (c, v) ∷ (d, w) ∷ []) ≡ Some d
fourth_fails a b c d t u v w e f g h =
    one_kept a t ((b, u) ∷ (c, v) ∷ (d, w) ∷ []) (Some d) e (one_kept b u ((c, v) ∷ (d, w) ∷ []) (Some d) f (one_kept c v ((d, w) ∷ []) (Some d) g (ap (λ (x : Bool). first_broken ((d, x) ∷ [])) h)))

-- the first two are kept and the rest decide
pub two_kept : (a b : Rule) (t u : Bool) (others : List (Rule × Bool)) (broken : Option Rule) → t ≡ true → u ≡ true → first_broken others ≡ broken → first_broken ((a, t) ∷ (b, u) ∷ others) ≡ broken
two_kept a b t u others broken e f rest = one_kept a t ((b, u) ∷ others) broken e (one_kept b u others broken f rest)

-- a result isn't none and some
pub none_or_some : {X : Type 0} {P : Type 0} (o : Option X) → o ≡ None → is_some o ≡ true → P
none_or_some None none some = cc
none_or_some (Some x) none some = cc

-- ---- arcs and labels

-- an arc that isn't there isn't legal
far_arc : (town : Town) (arc limit : ℕ) → limit ≡ length town.streets → nat_lt arc (2 * limit) ≡ false → is_legal town arc ≡ false
far_arc town arc limit same above = by (is_legal town arc) refl
  where
    by : (t : Bool) → is_legal town arc ≡ t → t ≡ false
    by true legal = absurd (omega (arith, legal_below town arc legal, same, ltb-false arc (2 * limit) above))
    by false legal = refl

-- where one isn't there, not all are legal
pub not_legal : (town : Town) (pairs : List (ℕ × ℕ)) (limit : ℕ) → limit ≡ length town.streets → list_all (λ q. nat_lt q.0 (2 * limit)) pairs ≡ false → list_all (λ q. is_legal town q.0) pairs ≡ false
not_legal town [] limit same none = none
not_legal town (q ∷ pairs) limit same some = split (and_cases (nat_lt q.0 (2 * limit)) (list_all (λ q. nat_lt q.0 (2 * limit)) pairs) some) (not_legal town pairs limit same)
  where
    split : (nat_lt q.0 (2 * limit) ≡ false) ⊎ (list_all (λ q. nat_lt q.0 (2 * limit)) pairs ≡ false)
        → (list_all (λ q. nat_lt q.0 (2 * limit)) pairs ≡ false → list_all (λ q. is_legal town q.0) pairs ≡ false)
        → list_all (λ q. is_legal town q.0) (q ∷ pairs) ≡ false
    split (inl first) rest = and_left (is_legal town q.0) (list_all (λ q. is_legal town q.0) pairs) (far_arc town q.0 limit same first)
    split (inr others) rest = and_right (is_legal town q.0) (list_all (λ q. is_legal town q.0) pairs) (rest others)

-- more labels than junctions
pub many_labels : (town : Town) (labels streets : List ℕ) (count : ℕ) → count ≡ length town.junctions → nat_le (length labels) count ≡ false
    → ((length labels == length town.junctions) && nat_lt 0 (length streets) && all_below (length streets) labels && streets_are_there town streets) ≡ false
many_labels town labels streets count counted many =
    and_left _ _ (and_left _ _ (and_left _ _ (ne_eqb (length labels) (length town.junctions) (λ e. absurd (omega (arith, e, counted, leb-false (length labels) count many))))))
