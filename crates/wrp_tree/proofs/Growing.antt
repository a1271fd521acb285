-- A valid list with one more record.
use Rattle.std.proofs.Common.{◌≡◌, ℕ, ◌+◌, ◌<◌, ◌≤◌, Bool, true, false, cond, ◌||◌, ℤ, pos, ◌≤ℤ◌, List, [], ◌∷◌, ◌++◌, length, Option, None, Some, ap, refl, sym, ◌∙◌, subst, arith, append_assoc}
use Rattle.std.proofs.lemmas.List.{append-nil}
use Rattle.std.specs.Prelude.{is_none, IfSome}
use Rattle.std.specs.List.{fold}
use Rattle.std.proofs.Math.Bool.{or-false}
use Rattle.std.proofs.lemmas.Bool.{and_parts, and_from}
use Rattle.std.proofs.lemmas.List.Folds.{list_any-append}
use Rattle.std.proofs.lemmas.List.Sums.{fold_push, sum_by_push, count_by-le-length}
use Rattle.wrp_town.specs.declared.town.Town.{Town}
use Rattle.wrp_rules.specs.declared.record.Record.{Record}
use Rattle.wrp_rules.specs.Nodes.{Standing, start, after, standing, lower}
use Rattle.wrp_town.specs.declared.street.Step.{Step}
use Rattle.wrp_town.specs.Walks.{is_tour, walk_cost}
use Rattle.wrp_laws.proofs.Lower.{lower_bounds_every_tour}
use Rattle.wrp_rules.specs.Lists.{goes_on, is_valid}
use Rattle.wrp_rules.specs.Rules.{broken_rule, is_labels}
use Rattle.std.specs.Option.{option_map, unwrap_or}
use Rattle.wrp_rules.specs.Rows.{row_of}
use Rattle.wrp_rows.specs.Pools.{HasRowsOf, sparse_of}
use Rattle.wrp_tree.specs.declared.kept.Kept.{Kept}
use Rattle.wrp_tree.specs.Indexes.{IsIndexed}
use Rattle.wrp_tree.specs.Keeping.{IsKept, IsDeskOf, is_blind}
use Rattle.std.specs.Vec.{vec_len, vec_capacity}
use Rattle.wrp_tree.specs.declared.plan.Plan.{Plan}
use Rattle.wrp_tree.specs.declared.plan.Plan.TheVariants as plans
use Rattle.wrp_tree.specs.declared.desk.Desk.{Desk}
use Rattle.wrp_tree.specs.Plans.{plan_of, IsMade, HasRoomFor, IsReadyFor}
use Rattle.wrp_tree.specs.Trees.{IsTree, IsPrepared}

-- what stands keeps the records
records_of : (town : Town) (s : Standing) (items : List Record) → (fold (after town) s items).records ≡ s.records ++ items
records_of town s [] = sym (append-nil s.records)
records_of town s (item ∷ items) = records_of town (after town s item) items ∙ append_assoc s.records (item ∷ []) items

pub standing_records : (town : Town) (items : List Record) → (standing town items).records ≡ items
standing_records town items = records_of town (start town) items

-- one more record
pub standing_more : (town : Town) (items : List Record) (item : Record) → standing town (items ++ item ∷ []) ≡ after town (standing town items) item
standing_more town items item = fold_push (after town) (start town) items item

goes_on_more : (town : Town) (s : Standing) (items : List Record) (item : Record) → goes_on town s items ≡ true → broken_rule town (fold (after town) s items) item ≡ None → goes_on town s (items ++ item ∷ []) ≡ true
goes_on_more town s [] item valid none = and_from (is_none (broken_rule town s item)) true (ap is_none none) refl
goes_on_more town s (first ∷ items) item valid none =
    let parts = and_parts (is_none (broken_rule town s first)) (goes_on town (after town s first) items) valid in
    and_from (is_none (broken_rule town s first)) (goes_on town (after town s first) (items ++ item ∷ [])) parts.0 (goes_on_more town (after town s first) items item parts.1 none)

pub valid_more : (town : Town) (items : List Record) (item : Record) → is_valid town items ≡ true → broken_rule town (standing town items) item ≡ None → is_valid town (items ++ item ∷ []) ≡ true
valid_more town items item valid none = goes_on_more town (start town) items item valid none

-- the record joins the list
pub kept_pushed : (town : Town) (s : Standing) (item : Record) (old mid new : Kept) → IsKept town s old → IsMade town s item old mid
    → new ≡ record mid { records = new.records; blind = new.blind; labelled = new.labelled }
    → new.records.items ≡ mid.records.items ++ item ∷ [] → new.blind ≡ mid.blind + cond (is_blind item) 1 0 → new.labelled ≡ (mid.labelled || is_labels item) → IsKept town (after town s item) new
kept_pushed town s item old mid new is made others records blind labelled = record {
  records = ap (λ (xs : List Record). xs ++ item ∷ []) (is.records ∙ sym (ap (λ (k : Kept). k.records.items) made.others)) ∙ sym records;
  rows_town = ap (λ (k : Kept). k.rows.town) others ∙ made.rows_town;
  rows = subst (λ (k : Kept). HasRowsOf (after town s item) k.rows) (sym others) made.rows;
  index = subst (λ (k : Kept). IsIndexed town (after town s item).nodes (after town s item).upper k.index) (sym others) made.index;
  base = ap (λ (k : Kept). k.base) others ∙ ap (λ (k : Kept). k.base) made.others ∙ is.base;
  blind = sum_by_push (λ r. cond (is_blind r) 1 0) s.records item ∙ ap (λ (n : ℕ). n + cond (is_blind item) 1 0) (is.blind ∙ sym (ap (λ (k : Kept). k.blind) made.others)) ∙ sym blind;
  labelled = list_any-append is_labels s.records (item ∷ [])
      ∙ ap (λ (t : Bool). t || (is_labels item || false)) (is.labelled ∙ sym (ap (λ (k : Kept). k.labelled) made.others))
      ∙ ap (λ (t : Bool). mid.labelled || t) (or-false (is_labels item)) ∙ sym labelled;
}

-- ---- the whole tree

-- the list is still the same
pub same_items : (town : Town) (items : List Record) (new : Kept) → IsKept town (standing town items) new → new.records.items ≡ items
same_items town items new is = sym is.records ∙ standing_records town items

pub tree_again : (town : Town) (old new : Kept) (desk made : Desk) (was ready : Option Plan) → IsTree town old desk was → IsKept town (standing town old.records.items) new → IsDeskOf town made
    → ((plan : Plan) → ready ≡ Some plan → (vec_len new.records < vec_capacity new.records) × HasRoomFor town (standing town old.records.items) plan new) → IsTree town new made ready
tree_again town old new desk made was ready tree is desk_is room =
    let same = same_items town old.records.items new is in
    record {
      valid = subst (λ (xs : List Record). is_valid town xs ≡ true) (sym same) tree.valid;
      kept_is = subst (λ (xs : List Record). IsKept town (standing town xs) new) (sym same) is;
      desk_is = desk_is;
      room = λ plan told. (room plan told).0;
      rest = λ plan told. subst (λ (xs : List Record). HasRoomFor town (standing town xs) plan new) (sym same) (room plan told).1;
    }

pub tree_more : (town : Town) (old new : Kept) (desk : Desk) (was : Option Plan) (item : Record) → IsTree town old desk was → broken_rule town (standing town old.records.items) item ≡ None
    → IsKept town (after town (standing town old.records.items) item) new → IsTree town new desk None
tree_more town old new desk was item tree none is =
    let more = standing_more town old.records.items item in
    let kept = subst (λ (s : Standing). IsKept town s new) (sym more) is in
    let same = same_items town (old.records.items ++ item ∷ []) new kept in
    record {
      valid = subst (λ (xs : List Record). is_valid town xs ≡ true) (sym same) (valid_more town old.records.items item tree.valid none);
      kept_is = subst (λ (xs : List Record). IsKept town (standing town xs) new) (sym same) kept;
      desk_is = tree.desk_is;
      room = λ plan told. absurd (nothing plan told);
      rest = λ plan told. absurd (nothing plan told);
    }
  where
    nothing : (plan : Plan) → None ≡ Some plan → ⊥
    nothing plan e = cc

-- blind marks are no more than records
pub few_blind : (town : Town) (s : Standing) (kept : Kept) → IsKept town s kept → kept.blind ≤ length kept.records.items
few_blind town s kept is = omega (arith, is.blind, count_by-le-length is_blind s.records, ap (λ (xs : List Record). length xs) is.records)

-- a tree before any record
pub tree_start : (town : Town) (kept : Kept) (desk : Desk) → IsKept town (start town) kept → IsDeskOf town desk → IsTree town kept desk None
tree_start town kept desk is desk_is =
    let same : kept.records.items ≡ [] = sym is.records in
    record {
      valid = subst (λ (xs : List Record). is_valid town xs ≡ true) (sym same) refl;
      kept_is = subst (λ (xs : List Record). IsKept town (standing town xs) kept) (sym same) is;
      desk_is = desk_is;
      room = λ plan told. absurd (nothing plan told);
      rest = λ plan told. absurd (nothing plan told);
    }
  where
    nothing : (plan : Plan) → None ≡ Some plan → ⊥
    nothing plan e = cc

-- what the tree has ready is what the record needs
pub ready_for : (town : Town) (kept : Kept) (desk : Desk) (ready : Option Plan) (item : Record) (plan : Plan) → IsTree town kept desk ready
    → IsPrepared item (record { town = town; records = kept.records.items; ready = ready; row = kept.rows.prepared }) → plan ≡ unwrap_or ready plans.Plain → IsReadyFor town (standing town kept.records.items) item plan kept
ready_for town kept desk ready item plan tree prepared is =
    let plan_is : plan ≡ plan_of town (standing town kept.records.items) item = is ∙ ap (λ (o : Option Plan). unwrap_or o plans.Plain) prepared.plan in
    record {
      kept_is = tree.kept_is;
      valid = prepared.valid;
      plan_is = plan_is;
      room = tree.rest plan (prepared.plan ∙ ap Some (sym plan_is));
      row = λ cut. subst (λ (t : Town). kept.rows.prepared ≡ option_map (sparse_of t) (row_of t (standing town kept.records.items).rows item)) (sym tree.kept_is.rows_town) (prepared.row cut);
    }

-- blind marks are still no more than records
pub few_made : (town : Town) (s : Standing) (item : Record) (old new : Kept) → IsKept town s old → IsMade town s item old new → new.blind ≤ length new.records.items
few_made town s item old new is made =
    subst (λ (k : Kept). k.blind ≤ length k.records.items) (sym made.others) (few_blind town s old is)

-- every tour costs at least lower
pub lower_bounds : (town : Town) (items : List Record) (low : Option ℤ) → is_valid town items ≡ true → low ≡ lower (standing town items) → IfSome low (λ z. (steps : List Step) → is_tour town steps ≡ true → z ≤ℤ pos (walk_cost town steps))
lower_bounds town items None valid is = tt
lower_bounds town items (Some z) valid is = λ steps tour. lower_bounds_every_tour town items z steps valid (sym is) tour
