-- What is kept of the records, and what that says of rows and nodes.
use Rattle.std.proofs.Common.{◌≡◌, ℕ, ◌+◌, ◌-◌, ◌*◌, ◌<◌, true, nat_lt, List, [], ◌∷◌, ◌++◌, length, map, None, Some, ap, refl, sym, ◌∙◌, subst, arith}
use Rattle.std.specs.Prelude.{slice_get}
use Rattle.std.specs.List.{list_all, count_by, last_or}
use Rattle.std.proofs.lemmas.List.{length-map}
use Rattle.std.proofs.lemmas.Bool.{ltb-true}
use Rattle.wrp_town.specs.declared.town.Town.{Town}
use Rattle.wrp_rules.specs.Rows.{base_rows}
use Rattle.wrp_rules.specs.Nodes.{Standing, node_at}
use Rattle.wrp_rules.specs.declared.record.Record.{Record}
use Rattle.wrp_rules.specs.declared.record.Record.TheVariants.{Tour, Conn, Odd, Round, Kc, Bound, Empty, Apart, Point, Blind, Split, Labels}
use Rattle.wrp_rules.specs.declared.rule.Rule.{Rule}
use Rattle.wrp_rules.specs.Rules.{is_cut, node_is_there, rows_are_there, first_broken, rules_of}
use Rattle.wrp_nodes.specs.Kept.{AreLinked, node_in}
use Rattle.wrp_rows.specs.Pools.{RowPool, SparseRow, sparse_of, unprepared}
use Rattle.wrp_rows.specs.Making.{cut_rule}
use Rattle.wrp_rows.specs.Tables.{name_rows}
use Rattle.wrp_tree.specs.declared.kept.Kept.{Kept}
use Rattle.wrp_tree.specs.declared.plan.Plan.TheVariants as plans
use Rattle.wrp_tree.specs.Plans.{plan_of}
use Rattle.wrp_tree.specs.Indexes.{IsSound, IsIndexed}
use Rattle.wrp_tree.specs.Keeping.{IsKept}
use Rattle.wrp_tree.proofs.Wholes.{below_kept, same_node}

pub base_long : (town : Town) → length (map (sparse_of town) (base_rows town)) ≡ length (base_rows town)
base_long town = length-map (base_rows town) (sparse_of town)

last_after : {X : Type 0} (xs : List X) (x : X) → last_or (Some x) xs ≡ slice_get (x ∷ xs) (length xs)
last_after [] x = refl
last_after (y ∷ xs) x = last_after xs y

-- the last of a list is at its last place
pub last_get : {X : Type 0} (xs : List X) → last_or None xs ≡ slice_get xs (length xs - 1)
last_get [] = refl
last_get (x ∷ xs) = last_after xs x ∙ ap (slice_get (x ∷ xs)) before
  where
    before : length xs ≡ length (x ∷ xs) - 1
    before = omega arith

module _ (town : Town) (s : Standing) (kept : Kept) (is : IsKept town s kept) where
  -- as many rows as those of what stands
  pub rows_long : length kept.rows.rows ≡ length s.rows
  rows_long = ap (λ (rows : List SparseRow). length rows) is.rows.rows ∙ length-map s.rows (sparse_of kept.rows.town)

  pub kept_sound : IsSound kept.index
  kept_sound = (town, s.nodes, s.upper, is.index)

  -- a node that is there
  pub below_count : (node : ℕ) → node_is_there s node ≡ true → node < kept.index.count
  below_count node there = omega (arith, is.index.count, ltb-true node (length s.nodes) there)

  pub named : (mult : List (ℕ × ℕ)) → rows_are_there s mult ≡ true → name_rows kept.rows.rows mult ≡ true
  named mult there = subst (λ (n : ℕ). list_all (λ q. nat_lt q.0 n) mult ≡ true) (sym rows_long) there

  pub linked : AreLinked (2 * length town.streets) kept.index.nodes
  linked = is.index.whole.linked

  -- it is kept among all nodes
  pub in_all : (node : ℕ) → node < kept.index.count → node < length kept.index.nodes
  in_all node below = below_kept town s.nodes s.upper kept.index is.index node below

  pub same_in_all : (node : ℕ) → node < kept.index.count → node_in town (s.nodes ++ is.index.spare) node ≡ node_at town s node
  same_in_all node below = same_node town s.nodes s.upper kept.index is.index node (omega (arith, is.index.count))

-- the same rows, perhaps with another one prepared
pub kept_rows : (town : Town) (s : Standing) (old new : Kept) → IsKept town s old → new ≡ record old { rows = new.rows } → unprepared new.rows ≡ unprepared old.rows → IsKept town s new
kept_rows town s old new is others same = record {
  records = is.records ∙ sym (ap (λ (k : Kept). k.records.items) others);
  rows_town = ap (λ (p : RowPool). p.town) same ∙ is.rows_town;
  rows = record {
    rows = ap (λ (p : RowPool). p.rows) same ∙ is.rows.rows ∙ ap (λ (p : RowPool). map (sparse_of p.town) s.rows) (sym same);
    cuts = is.rows.cuts ∙ ap (λ (p : RowPool). length (base_rows p.town) + count_by is_cut s.records) (sym same);
  };
  index = subst (λ (k : Kept). IsIndexed town s.nodes s.upper k.index) (sym others) is.index;
  base = ap (λ (k : Kept). k.base) others ∙ is.base;
  blind = is.blind ∙ sym (ap (λ (k : Kept). k.blind) others);
  labelled = is.labelled ∙ sym (ap (λ (k : Kept). k.labelled) others);
}

-- what prepare_cut and the judgement say of a cut
pub cut_kept : (town other : Town) (s : Standing) (item : Record) → other ≡ town → cut_rule other s item ≡ None → first_broken (rules_of town s item) ≡ None
cut_kept town other s item same none = ap (λ (t : Town). first_broken (rules_of t s item)) (sym same) ∙ none

pub cut_broken : (town other : Town) (s : Standing) (item : Record) (rule : Rule) → other ≡ town → cut_rule other s item ≡ Some rule → first_broken (rules_of town s item) ≡ Some rule
cut_broken town other s item rule same broken = ap (λ (t : Town). first_broken (rules_of t s item)) (sym same) ∙ broken

-- the plan of a cut is its row
pub cut_plan : (town : Town) (s : Standing) (item : Record) → is_cut item ≡ true → plans.Row ≡ plan_of town s item
cut_plan town s (Conn r1 r2 set) cut = refl
cut_plan town s (Odd set) cut = refl
cut_plan town s (Round divisor mult) cut = refl
cut_plan town s (Kc k of) cut = refl
cut_plan town s (Tour cost steps) cut = cc
cut_plan town s (Bound node den mult) cut = cc
cut_plan town s (Empty node mult) cut = cc
cut_plan town s (Apart node r1 r2 set) cut = cc
cut_plan town s (Point node den numbers) cut = cc
cut_plan town s (Blind node) cut = cc
cut_plan town s (Split node arc k) cut = cc
cut_plan town s (Labels labels streets) cut = cc
