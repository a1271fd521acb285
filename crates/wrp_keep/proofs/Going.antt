-- A keep with more records, and with more of them acknowledged.
use Rattle.std.proofs.Common.{◌≡◌, ℕ, ◌+◌, ◌≤◌, List, [], ◌∷◌, ◌++◌, length, take, drop, Option, None, sym, ◌<◌, ◌∙◌, ap, subst, arith, length-append}
use Rattle.std.specs.Prelude.{true}
use Rattle.std.proofs.lemmas.List.{append-nil, drop-append-le, take-append-drop, take_all}
use Rattle.wrp_log.specs.Logs.{Place}
use Rattle.wrp_log.specs.Payloads.{payload_limit}
use Rattle.wrp_rules.specs.declared.record.Record.{Record}
use Rattle.wrp_rules.specs.Lists.{is_valid}
use Rattle.wrp_rules.specs.Lines.{line_of}
use Rattle.wrp_tree.specs.Trees.{TreeState, unprepared, with_record}
use Rattle.wrp_tree.proofs.Growing.{valid_more}
use Rattle.wrp_keep.specs.Keeps.{KeepState, keep_of, staged, fed, joined, broken_by, version, IsKeep}
use Rattle.wrp_keep.specs.Joins.{with_line}
use Rattle.wrp_keep.specs.Calls.{Extends, with_staged}
use Rattle.wrp_keep.proofs.Joining.{fed_push, length_push, fed_some}

-- ---- what contracts see of the tree

pub keep_same : (old new : TreeState) (acknowledged : ℕ) (log : Option Place) → unprepared new ≡ unprepared old → keep_of new acknowledged log ≡ keep_of old acknowledged log
keep_same old new acknowledged log same = ap (λ (t : TreeState). keep_of t acknowledged log) same

pub keep_more : (old new : TreeState) (item : Record) (acknowledged : ℕ) (log : Option Place) → unprepared new ≡ with_record old item
    → keep_of new acknowledged log ≡ with_staged item (keep_of old acknowledged log)
keep_more old new item acknowledged log more = ap (λ (t : TreeState). keep_of t acknowledged log) more

-- ---- staging

pub staged_push : (keep : KeepState) (item : Record) → keep.acknowledged ≤ length keep.records → staged (with_staged item keep) ≡ staged keep ++ item ∷ []
staged_push keep item within = drop-append-le keep.acknowledged keep.records (item ∷ []) within

pub is_keep_more : (keep : KeepState) (item : Record) (lines new : List ℕ) → IsKeep keep lines → broken_by item keep ≡ None → new ≡ with_line (line_of item) lines
    → length lines + length (line_of item) ≤ payload_limit (version keep) → IsKeep (with_staged item keep) new
is_keep_more keep item lines new kept none is short =
    let push = staged_push keep item kept.within in
    record {
      valid = valid_more keep.town keep.records item kept.valid none;
      within = omega (arith, kept.within, length-append keep.records (item ∷ []));
      lines_are = is ∙ ap (with_line (line_of item)) kept.lines_are ∙ sym (fed_push (staged keep) item) ∙ ap fed (sym push);
      short = omega (arith, short, ap length kept.lines_are, length_push (staged keep) item, ap (λ (items : List Record). length (joined items)) push);
      begun = kept.begun;
    }

-- ---- acknowledging

pub taken_all : (records : List Record) (acknowledged : ℕ) → take (length records) records ≡ take acknowledged records ++ drop acknowledged records
taken_all records acknowledged = take_all (length records) records (omega arith) ∙ sym (take-append-drop acknowledged records)

-- ---- valid lists that go on

pub extends_more : (old new : KeepState) (item : Record) → new.town ≡ old.town → new.records ≡ old.records ++ item ∷ [] → is_valid old.town (old.records ++ item ∷ []) ≡ true → Extends old new
extends_more old new item town records valid = record {
  town = town;
  more = item ∷ [];
  records = records;
  valid = subst (λ (rs : List Record). is_valid new.town rs ≡ true) (sym records) (subst (λ t. is_valid t (old.records ++ item ∷ []) ≡ true) (sym town) valid);
}

-- some records have some lines
pub lines_some : (keep : KeepState) (lines : List ℕ) → IsKeep keep lines → 0 < length (staged keep) → 1 ≤ length lines
lines_some keep lines kept some = omega (arith, ap length kept.lines_are, fed_some (staged keep) some)

-- ---- one more record, which was prepared

pub keep_pushed : (old mid new : TreeState) (item : Record) (acknowledged : ℕ) (log : Option Place) → unprepared mid ≡ unprepared old → unprepared new ≡ with_record mid item
    → keep_of new acknowledged log ≡ with_staged item (keep_of old acknowledged log)
keep_pushed old mid new item acknowledged log same more =
    keep_more mid new item acknowledged log more ∙ ap (with_staged item) (keep_same old mid acknowledged log same)

pub taken_more : (records new shown : List Record) (acknowledged : ℕ) (item : Record) → shown ≡ new → new ≡ records ++ item ∷ [] → drop acknowledged records ≡ []
    → take (length shown) new ≡ take acknowledged records ++ item ∷ []
taken_more records new shown acknowledged item same is none =
    let all = ap (λ (l : List Record). take acknowledged records ++ l) (sym none) ∙ take-append-drop acknowledged records in
    take_all (length shown) new (omega (arith, ap length same)) ∙ is ∙ ap (λ (l : List Record). l ++ item ∷ []) (sym (sym (append-nil (take acknowledged records)) ∙ all))
