-- How many cuts a list has, and how many since its last Split.
use Rattle.std.proofs.Common.{◌≡◌, ℕ, ◌+◌, ◌<◌, ◌≤◌, Bool, true, false, cond, not, nat_le, List, [], ◌∷◌, ◌++◌, length, None, Some, is_none, inl, inr, ap, refl, sym, ◌∙◌, subst, arith}
use Rattle.std.specs.List.{list_any}
use Rattle.std.proofs.lemmas.Bool.{and_parts, ltb-true, lt-ltb, false≢true, cases_lt}
use Rattle.std.proofs.lemmas.List.Sums.{fold-append, sum_by_push}
use Rattle.wrp_town.specs.declared.town.Town.{Town}
use Rattle.wrp_rules.specs.declared.record.Record.{Record}
use Rattle.wrp_rules.specs.declared.record.Record.TheVariants.{Tour, Conn, Odd, Round, Kc, Bound, Empty, Apart, Point, Blind, Split, Labels}
use Rattle.wrp_rules.specs.Nodes.{Standing, start, standing}
use Rattle.wrp_rules.specs.declared.rule.Rule.{Rule}
use Rattle.wrp_rules.specs.declared.rule.Rule.TheVariants as rules
use Rattle.wrp_rules.specs.Contents.{has_number_rules}
use Rattle.wrp_rules.specs.Lines.{line_of}
use Rattle.wrp_rules.specs.Proofs.{version_2}
use Rattle.wrp_rules.specs.Rules.{is_cut, is_labels, is_alone, first_broken, rules_of, broken_rule, has_room}
use Rattle.wrp_odd.specs.Cuts.{IsValidCut, conditions_of}
use Rattle.wrp_progress.specs.Progress.{HasNoLabels}
use Rattle.wrp_rules.specs.Lists.{is_valid}
use Rattle.wrp_laws.proofs.CutRows.{goes_on_keeps}
use Rattle.wrp_laws.proofs.Rules.{rules_kept, all_rules}
use Rattle.wrp_progress.proofs.Growing.{standing_records}
use Rattle.wrp_licence.specs.Causes.{most_cuts, cuts_of, count_since, cuts_since_split}

pub since_more : (added : List Record) (item : Record) → cuts_since_split (added ++ item ∷ []) ≡ count_since (cuts_since_split added) item
since_more added item = fold-append count_since 0 added (item ∷ [])

pub cuts_more : (records : List Record) (item : Record) → cuts_of (records ++ item ∷ []) ≡ cuts_of records + cond (is_cut item) 1 0
cuts_more records item = sum_by_push (λ r. cond (is_cut r) 1 0) records item

module _ (town : Town) (s : Standing) where
  room_for : (item : Record) → is_cut item ≡ true → is_none (broken_rule town s item) ≡ true → has_room s ≡ true
  room_for (Conn r1 r2 set) cut sound = rules_kept (all_rules town s (Conn r1 r2 set)) sound 3
  room_for (Odd set) cut sound = rules_kept (all_rules town s (Odd set)) sound 3
  room_for (Round divisor mult) cut sound = rules_kept (all_rules town s (Round divisor mult)) sound 3
  room_for (Kc k of) cut sound = rules_kept (all_rules town s (Kc k of)) sound 3
  room_for (Tour cost steps) cut sound = absurd (false≢true cut)
  room_for (Bound node den mult) cut sound = absurd (false≢true cut)
  room_for (Empty node mult) cut sound = absurd (false≢true cut)
  room_for (Apart node r1 r2 set) cut sound = absurd (false≢true cut)
  room_for (Point node den numbers) cut sound = absurd (false≢true cut)
  room_for (Blind node) cut sound = absurd (false≢true cut)
  room_for (Split node arc k) cut sound = absurd (false≢true cut)
  room_for (Labels labels streets) cut sound = absurd (false≢true cut)

  few_by : (item : Record) (t : Bool) → is_cut item ≡ t → is_none (broken_rule town s item) ≡ true → cuts_of s.records ≤ most_cuts → cuts_of (s.records ++ item ∷ []) ≤ most_cuts
  few_by item true cut sound few =
      omega (arith, cuts_more s.records item, ap {B = ℕ} (λ (t : Bool). cond t 1 0) cut, ltb-true (cuts_of s.records) 20000 (room_for item cut sound))
  few_by item false other sound few = omega (arith, cuts_more s.records item, ap {B = ℕ} (λ (t : Bool). cond t 1 0) other, few)

pub few_cuts : (town : Town) (records : List Record) → is_valid town records ≡ true → cuts_of records ≤ most_cuts
few_cuts town records valid =
    subst (λ (items : List Record). cuts_of items ≤ most_cuts) (standing_records town records)
    (goes_on_keeps town (λ s. cuts_of s.records ≤ most_cuts) (λ s item sound few. few_by town s item (is_cut item) refl sound few) (start town) records valid (omega arith))

-- ---- where a valid cut is refused, the list has as many as may be

broken_off : (rule : Rule) → Some rule ≡ None → ⊥
broken_off rule e = cc

three_kept : (r room t : Rule) (a h b : Bool) → first_broken ((r, a) ∷ (t, b) ∷ []) ≡ None → h ≡ true → first_broken ((r, a) ∷ (room, h) ∷ (t, b) ∷ []) ≡ None
three_kept r room t true true true none has = refl
three_kept r room t true true false none has = absurd (broken_off t none)
three_kept r room t true false b none has = absurd (false≢true has)
three_kept r room t false h b none has = absurd (broken_off r none)

two_before : (one other : Rule) (a b : Bool) (tried : List (Rule × Bool)) → a ≡ true → b ≡ true → first_broken tried ≡ None → first_broken ((one, a) ∷ (other, b) ∷ tried) ≡ None
two_before one other true true tried first second none = none
two_before one other true false tried first second none = absurd (false≢true second)
two_before one other false b tried first second none = absurd (false≢true first)

module _ (town : Town) (s : Standing) (alone : not (list_any is_labels s.records) ≡ true) (room : has_room s ≡ true) where
  rules_none : (item : Record) → is_cut item ≡ true → first_broken (conditions_of town s item) ≡ None → first_broken (rules_of town s item) ≡ None
  rules_none (Conn r1 r2 set) cut none = three_kept rules.Range rules.Cuts rules.Cross _ (has_room s) _ none room
  rules_none (Odd set) cut none = three_kept rules.Range rules.Cuts rules.Even _ (has_room s) _ none room
  rules_none (Round divisor mult) cut none = three_kept rules.Range rules.Cuts rules.Wide _ (has_room s) _ none room
  rules_none (Kc k of) cut none = three_kept rules.Range rules.Cuts rules.Chain _ (has_room s) _ none room
  rules_none (Tour cost steps) cut none = absurd (false≢true cut)
  rules_none (Bound node den mult) cut none = absurd (false≢true cut)
  rules_none (Empty node mult) cut none = absurd (false≢true cut)
  rules_none (Apart node r1 r2 set) cut none = absurd (false≢true cut)
  rules_none (Point node den numbers) cut none = absurd (false≢true cut)
  rules_none (Blind node) cut none = absurd (false≢true cut)
  rules_none (Split node arc k) cut none = absurd (false≢true cut)
  rules_none (Labels labels streets) cut none = absurd (false≢true cut)

  lone : (item : Record) → is_cut item ≡ true → is_alone s item ≡ true
  lone (Conn r1 r2 set) cut = alone
  lone (Odd set) cut = alone
  lone (Round divisor mult) cut = alone
  lone (Kc k of) cut = alone
  lone (Tour cost steps) cut = absurd (false≢true cut)
  lone (Bound node den mult) cut = absurd (false≢true cut)
  lone (Empty node mult) cut = absurd (false≢true cut)
  lone (Apart node r1 r2 set) cut = absurd (false≢true cut)
  lone (Point node den numbers) cut = absurd (false≢true cut)
  lone (Blind node) cut = absurd (false≢true cut)
  lone (Split node arc k) cut = absurd (false≢true cut)
  lone (Labels labels streets) cut = absurd (false≢true cut)

  cut_follows : (item : Record) → is_cut item ≡ true → IsValidCut town s item → broken_rule town s item ≡ None
  cut_follows item cut valid =
      two_before rules.Number rules.Lonely (has_number_rules item) (is_alone s item) (rules_of town s item)
      (and_parts (has_number_rules item) (nat_le (length (line_of item)) version_2.limit) valid.writable).0
      (lone item cut) (rules_none item cut valid.kept)

pub full_pool : (town : Town) (records : List Record) (item : Record) → is_valid town records ≡ true → HasNoLabels records → is_cut item ≡ true → IsValidCut town (standing town records) item → (broken_rule town (standing town records) item ≡ None → ⊥) → cuts_of records ≡ most_cuts
full_pool town records item valid unlabelled cut kept refused =
    let s = standing town records in
    let same = standing_records town records in
    elim (cases_lt (cuts_of records) most_cuts) [
      | inl room ↦ absurd (refused (cut_follows town s
          (ap (λ (rs : List Record). not (list_any is_labels rs)) same ∙ ap not unlabelled)
          (lt-ltb (cuts_of s.records) 20000 (subst (λ (rs : List Record). cuts_of rs < 20000) (sym same) room))
          item cut kept))
      | inr many ↦ omega (arith, few_cuts town records valid, many)
    ]
