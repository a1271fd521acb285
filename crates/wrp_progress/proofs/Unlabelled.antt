-- Where a tour exists, no valid list says that there is none.
use Rattle.std.proofs.Common.{◌≡◌, true, false, ◌||◌, List, [], ◌∷◌, is_none, ap, refl, sym, ◌∙◌}
use Rattle.std.specs.List.{list_any}
use Rattle.std.proofs.lemmas.Bool.{or_from}
use Rattle.std.proofs.lemmas.List.Folds.{list_any-append}
use Rattle.wrp_town.specs.declared.town.Town.{Town}
use Rattle.wrp_town.specs.Walks.{HasNoTour}
use Rattle.wrp_rules.specs.declared.record.Record.{Record}
use Rattle.wrp_rules.specs.declared.record.Record.TheVariants.{Tour, Conn, Odd, Round, Kc, Bound, Empty, Apart, Point, Blind, Split, Labels}
use Rattle.wrp_rules.specs.Nodes.{Standing, start, after}
use Rattle.wrp_rules.specs.Rules.{broken_rule, is_labels}
use Rattle.wrp_rules.specs.Lists.{is_valid}
use Rattle.wrp_laws.proofs.CutRows.{goes_on_keeps}
use Rattle.wrp_laws.proofs.Labels.{labels_exclude}
use Rattle.wrp_progress.specs.Progress.{HasNoLabels}
use Rattle.wrp_progress.proofs.Growing.{standing_records}

module _ (town : Town) (some : HasNoTour town → ⊥) where
  unlabelled_kind : (s : Standing) (item : Record) → is_none (broken_rule town s item) ≡ true → is_labels item ≡ false
  unlabelled_kind s (Tour cost steps) sound = refl
  unlabelled_kind s (Conn r1 r2 set) sound = refl
  unlabelled_kind s (Odd set) sound = refl
  unlabelled_kind s (Round divisor mult) sound = refl
  unlabelled_kind s (Kc k of) sound = refl
  unlabelled_kind s (Bound node den mult) sound = refl
  unlabelled_kind s (Empty node mult) sound = refl
  unlabelled_kind s (Apart node r1 r2 set) sound = refl
  unlabelled_kind s (Point node den numbers) sound = refl
  unlabelled_kind s (Blind node) sound = refl
  unlabelled_kind s (Split node arc k) sound = refl
  unlabelled_kind s (Labels labels streets) sound = absurd (some (labels_exclude town s labels streets sound))

  still_unlabelled : (s : Standing) (item : Record) → is_none (broken_rule town s item) ≡ true → list_any is_labels s.records ≡ false → list_any is_labels (after town s item).records ≡ false
  still_unlabelled s item sound before =
      list_any-append is_labels s.records (item ∷ [])
      ∙ or_from (list_any is_labels s.records) (is_labels item || false) before (or_from (is_labels item) false (unlabelled_kind s item sound) refl)

  pub unlabelled : (records : List Record) → is_valid town records ≡ true → HasNoLabels records
  unlabelled records valid =
      ap (list_any is_labels) (sym (standing_records town records))
      ∙ goes_on_keeps town (λ s. list_any is_labels s.records ≡ false) still_unlabelled (start town) records valid refl
