-- What is kept behind one more record.
use Rattle.std.proofs.Common.{◌≡◌, ℕ, ◌+◌, Bool, true, false, cond, not, ◌||◌, ◌==◌, List, [], ◌∷◌, ◌++◌, length, Option, None, Some, ap, refl, sym, ◌∙◌, subst, arith, length-append}
use Rattle.std.specs.Option.{option_map_or, option_to_list}
use Rattle.std.specs.List.{list_any, last_or}
use Rattle.std.proofs.lemmas.Bool.{eqb-true, ne_eqb, not-true}
use Rattle.std.proofs.lemmas.List.Folds.{list_any-append}
use Rattle.std.proofs.lemmas.List.Sums.{sum_by_push}
use Rattle.wrp_town.specs.declared.town.Town.{Town}
use Rattle.wrp_rules.specs.declared.record.Record.{Record}
use Rattle.wrp_rules.specs.declared.record.Record.TheVariants.{Point, Blind}
use Rattle.wrp_rules.specs.Rows.{row_of}
use Rattle.wrp_rules.specs.Nodes.{Standing, nodes_after, upper_after, after}
use Rattle.wrp_rules.specs.Rules.{is_labels, is_cut, is_alone, leads_to_split}
use Rattle.wrp_pool.specs.Pools.{Holds}
use Rattle.wrp_nodes.specs.Kept.{HasNodes}
use Rattle.wrp_check.specs.declared.kept.Kept.{Kept}
use Rattle.wrp_check.specs.Judging.{led_to, past_behind, IsPast, IsKept}

-- ---- the past

no_records : (records : List Record) → (length records == 0) ≡ true → records ≡ []
no_records [] e = refl
no_records (r ∷ records) e = absurd (omega (arith, eqb-true (length (r ∷ records)) 0 e))

led : (item : Record) (node : ℕ) → leads_to_split node item ≡ option_map_or (λ led. led == node) (led_to item) false
led (Point at den numbers) node = refl
led (Blind at) node = refl
led item node = refl

last_is : (records : List Record) (item : Record) (o : Option Record) → last_or o (records ++ item ∷ []) ≡ Some item
last_is [] item o = refl
last_is (r ∷ records) item o = last_is records item (Some r)

-- behind a record that may stand next
past_more : (s : Standing) (item : Record) → is_alone s item ≡ true → IsPast (s.records ++ item ∷ []) (past_behind item)
past_more s item alone = record {
  some = ne_eqb _ 0 (λ e. absurd (omega (arith, length-append s.records (item ∷ []), e)));
  labelled = list_any-append is_labels s.records (item ∷ []) ∙ by (is_labels item) refl alone;
  alone = λ labelled. one (is_labels item) labelled alone;
  leads = λ node. ap (λ (o : Option Record). option_map_or (leads_to_split node) o false) (last_is s.records item None) ∙ led item node;
}
  where
    by : (t : Bool) → is_labels item ≡ t → cond t (length s.records == 0) (not (list_any is_labels s.records)) ≡ true → (list_any is_labels s.records || (is_labels item || false)) ≡ is_labels item
    by true e first = ap (λ (rs : List Record). list_any is_labels rs || (is_labels item || false)) (no_records s.records first) ∙ ap (λ (t : Bool). t || false) e ∙ sym e
    by false e first = ap (λ (t : Bool). t || (is_labels item || false)) (not-true _ first) ∙ ap (λ (t : Bool). t || false) e ∙ sym e

    one : (t : Bool) → t ≡ true → cond t (length s.records == 0) (not (list_any is_labels s.records)) ≡ true → length (s.records ++ item ∷ []) ≡ 1
    one true e first = omega (arith, length-append s.records (item ∷ []), eqb-true (length s.records) 0 first)
    one false e first = cc

-- ---- all that is kept

pub kept_after : (town : Town) (s : Standing) (item : Record) (old new : Kept) → IsKept town s old → is_alone s item ≡ true
    → Holds town new.pool (s.rows ++ option_to_list (row_of town s.rows item)) → HasNodes town new.nodes (nodes_after town s item) → upper_after s.upper item ≡ new.upper
    → old.cuts + cond (is_cut item) 1 0 ≡ new.cuts → new.past ≡ past_behind item → IsKept town (after town s item) new
kept_after town s item old new is alone pool nodes upper cuts past = record {
  pool = pool;
  nodes = nodes;
  upper = upper;
  cuts = sum_by_push (λ r. cond (is_cut r) 1 0) s.records item ∙ ap (λ (n : ℕ). n + cond (is_cut item) 1 0) is.cuts ∙ cuts;
  past = subst (IsPast (s.records ++ item ∷ [])) (sym past) (past_more s item alone);
}
