-- The records that are read of a log are those whose lines its payloads are.
use Rattle.std.proofs.Common.{◌≡◌, ◌⊎◌, inl, inr, ℕ, zero, suc, ◌+◌, ◌<◌, ◌≤◌, Bool, true, false, List, [], ◌∷◌, ◌++◌, length, take, drop, Option, Some, None, Result, Ok, Err, refl, sym, ◌∙◌, ap, subst, arith, append_assoc, length-append}
use Rattle.std.specs.Prelude.{map, IfSome, nat_eq}
use Rattle.std.specs.List.{flat_map, slice_get, slice_split, join_with_byte, All}
use Rattle.std.proofs.lemmas.List.{append-nil, length-map, take_all}
use Rattle.std.proofs.lemmas.List.Splits.{join_with_byte-slice_split, length-slice_split}
use Rattle.std.specs.Option.{option_map}
use Rattle.wrp_disk.specs.Disks.{Meaning}
use Rattle.wrp_log.specs.Payloads.{list_of, ok_or_none}
use Rattle.wrp_log.specs.Logs.{Place, list_told}
use Rattle.wrp_log.proofs.Adding.{if_some_map}
use Rattle.wrp_rules.specs.Lists.{is_valid}
use Rattle.wrp_town.specs.declared.town.Town.{Town}
use Rattle.wrp_street.specs.Canonical.{canonical_of}
use Rattle.wrp_rules.specs.declared.record.Record.{Record}
use Rattle.wrp_rules.specs.declared.rule.Rule.{Rule}
use Rattle.wrp_rules.specs.Nodes.{standing}
use Rattle.wrp_rules.specs.Rules.{broken_rule}
use Rattle.wrp_rules.specs.Lines.{line_of}
use Rattle.wrp_grammar.specs.Spelling.{spelled}
use Rattle.wrp_proof.specs.JudgedLines.{judged_line, judged_record, unless}
use Rattle.wrp_proof.proofs.LineLaws.{spelled-line}
use Rattle.wrp_keep.specs.declared.fault.ReopenFault.{ReopenFault}
use Rattle.wrp_keep.specs.declared.fault.ReopenFault.TheVariants as reopens
use Rattle.wrp_keep.specs.Keeps.{fed, joined, IsLogged}
use Rattle.wrp_keep.specs.Reopens.{AreWritable, lines_in, read_on, read_after, lines_from, ReopenIs, IsReady, IsReopened}
use Rattle.wrp_keep.proofs.PayloadLines.{Read, then_read, read_both}

-- ---- one line

unless_ok : (broken : Option Rule) (one item : Record) → unless broken one ≡ Ok item → one ≡ item
unless_ok None one item is = grind arith
unless_ok (Some rule) one item is = absurd (grind arith)

judged_spelled : (town : Town) (records : List Record) (fault : Rule) (read : Option Record) (item : Record) → judged_record town (standing town records) fault read ≡ Ok item → read ≡ Some item
judged_spelled town records fault None item is = absurd (grind arith)
judged_spelled town records fault (Some one) item is = ap Some (unless_ok (broken_rule town (standing town records) one) one item is)

judged_text : (town : Town) (records : List Record) (line : List ℕ) (item : Record) → judged_line town (standing town records) line ≡ Ok item → line_of item ≡ line
judged_text town records line item is = (spelled-line line item (judged_spelled town records _ (spelled line) item is)).text

-- ---- the lines of a payload

abbrev Group : List Record → List Record → List (List ℕ) → Type 0
Group before after lines = (group : List Record) × (after ≡ before ++ group) × (map line_of group ≡ lines)

ok_same : (one other : List Record) (read : Read) → read ≡ Ok one → read ≡ Ok other → one ≡ other
ok_same one other read is also = grind arith

by_judged : (town : Town) (before after : List Record) (line : List ℕ) (lines : List (List ℕ)) (judged : Result Record Rule) → judged_line town (standing town before) line ≡ judged
    → read_on judged (length before + 1) (λ item. read_after town (before ++ item ∷ []) lines) ≡ Ok after
    → ((item : Record) → read_after town (before ++ item ∷ []) lines ≡ Ok after → Group (before ++ item ∷ []) after lines) → Group before after (line ∷ lines)
by_judged town before after line lines (Err rule) is read step = absurd (grind arith)
by_judged town before after line lines (Ok item) is read step =
    let rest = step item read in (
      item ∷ rest.0,
      rest.1 ∙ append_assoc before (item ∷ []) rest.0,
      ap (λ (l : List ℕ). l ∷ map line_of rest.0) (judged_text town before line item is) ∙ ap (λ (ls : List (List ℕ)). line ∷ ls) rest.2,
    )

group_of : (town : Town) (lines : List (List ℕ)) (before after : List Record) → read_after town before lines ≡ Ok after → Group before after lines
group_of town [] before after read = ([], sym (ok_same before after (Ok before) refl read) ∙ sym (append-nil before), refl)
group_of town (line ∷ lines) before after read =
    by_judged town before after line lines (judged_line town (standing town before) line) refl read (λ item more. group_of town lines (before ++ item ∷ []) after more)

-- ---- the payload of some lines

fed_lines : (items : List Record) → fed items ≡ flat_map (λ (line : List ℕ). 10 ∷ line) (map line_of items)
fed_lines [] = refl
fed_lines (item ∷ items) = ap (λ (l : List ℕ). (10 ∷ line_of item) ++ l) (fed_lines items)

join_lines : (lines : List (List ℕ)) → drop 1 (flat_map (λ (line : List ℕ). 10 ∷ line) lines) ≡ join_with_byte 10 lines
join_lines [] = refl
join_lines (line ∷ []) = append-nil line
join_lines (line ∷ next ∷ lines) = ap (λ (l : List ℕ). line ++ (10 ∷ l)) (join_lines (next ∷ lines))

joined_payload : (group : List Record) (payload : List ℕ) → map line_of group ≡ lines_in payload → joined group ≡ payload
joined_payload group payload is =
    ap (λ (l : List ℕ). drop 1 l) (fed_lines group)
    ∙ ap (λ (ls : List (List ℕ)). drop 1 (flat_map (λ (line : List ℕ). 10 ∷ line) ls)) is
    ∙ join_lines (lines_in payload) ∙ join_with_byte-slice_split 10 payload

some_records : (group : List Record) (payload : List ℕ) → map line_of group ≡ lines_in payload → 0 < length group
some_records group payload is = omega (arith, ap length is, length-map group line_of, length-slice_split (λ (byte : ℕ). nat_eq byte 10) payload)

-- ---- all payloads

record Groups (town : Town) (before after : List Record) (payloads : List (List ℕ)) : Type 0 where
  pub groups : List (List Record)
  pub after_is : after ≡ before ++ flat_map (λ group. group) groups
  pub payloads_are : map joined groups ≡ payloads
  pub some : All (λ group. 0 < length group) groups

all_more : (group : List Record) (groups : List (List Record)) → 0 < length group → All (λ group. 0 < length group) groups → All (λ group. 0 < length group) (group ∷ groups)
all_more group groups some all zero d lt = some
all_more group groups some all (suc k) d lt = all k d (omega (arith, lt))

none : All (λ (group : List Record). 0 < length group) []
none k d lt = absurd (omega (arith, lt))

by_read : (town : Town) (before after : List Record) (payload : List ℕ) (payloads : List (List ℕ)) (read : Read) → read_after town before (lines_in payload) ≡ read → then_read town (flat_map lines_in payloads) read ≡ Ok after
    → ((mid : List Record) → read_after town mid (flat_map lines_in payloads) ≡ Ok after → Groups town mid after payloads) → Groups town before after (payload ∷ payloads)
by_read town before after payload payloads (Err fault) is read step = absurd (grind arith)
by_read town before after payload payloads (Ok mid) is read step =
    let group = group_of town (lines_in payload) before mid is in
    let rest = step mid read in
    record {
      groups = group.0 ∷ rest.groups;
      after_is = rest.after_is ∙ ap (λ (rs : List Record). rs ++ flat_map (λ g. g) rest.groups) group.1 ∙ append_assoc before group.0 (flat_map (λ g. g) rest.groups);
      payloads_are = ap (λ (p : List ℕ). p ∷ map joined rest.groups) (joined_payload group.0 payload group.2) ∙ ap (λ (ps : List (List ℕ)). payload ∷ ps) rest.payloads_are;
      some = all_more group.0 rest.groups (some_records group.0 payload group.2) rest.some;
    }

groups_of : (town : Town) (payloads : List (List ℕ)) (before after : List Record) → read_after town before (flat_map lines_in payloads) ≡ Ok after → Groups town before after payloads
groups_of town [] before after read = record {
  groups = [];
  after_is = sym (ok_same before after (Ok before) refl read) ∙ sym (append-nil before);
  payloads_are = refl;
  some = none;
}
groups_of town (payload ∷ payloads) before after read =
    by_read town before after payload payloads (read_after town before (lines_in payload)) refl (sym (read_both town before (lines_in payload) (flat_map lines_in payloads)) ∙ read)
    (λ mid more. groups_of town payloads mid after more)

-- a list whose first payload is the table, and whose others were read
pub logged_read : (town : Town) (records : List Record) (payloads : List (List ℕ)) → slice_get payloads 0 ≡ Some (canonical_of town) → read_after town [] (lines_from 1 payloads) ≡ Ok records → IsLogged town records payloads
logged_read town records [] first read = absurd (grind arith)
logged_read town records (payload ∷ payloads) first read =
    let all = groups_of town payloads [] records read in
    let table : payload ≡ canonical_of town = grind arith in
    record {
      groups = all.groups;
      not_empty = all.some;
      records_are = all.after_is;
      payloads_are = ap (λ (p : List ℕ). p ∷ payloads) table ∙ ap (λ (ps : List (List ℕ)). canonical_of town ∷ ps) (sym all.payloads_are);
    }

-- ---- a keep that was opened again

held_case : (town : Town) (table bytes : List ℕ) (records : List Record) → table ≡ canonical_of town → ReopenIs town table bytes records None → IsLogged town records (list_of bytes)
held_case town table bytes records is (payloads, stands, first, read) =
    subst (IsLogged town records) (sym (ap ok_or_none stands)) (logged_read town records payloads (first ∙ ap Some is) read)

told_list : (told : Option (List ℕ)) (P : List (List ℕ) → Type 0) → IfSome told (λ bytes. P (list_of bytes)) → IfSome (option_map list_of told) P
told_list None P has = has
told_list (Some bytes) P has = has

pub reopened : (town : Town) (table : List ℕ) (before after : Meaning) (records : List Record) (acknowledged : ℕ) (log : Place) → table ≡ canonical_of town → acknowledged ≡ length records → is_valid town records ≡ true → AreWritable records → after.told ≡ before.told
    → IfSome before.told (λ bytes. ReopenIs town table bytes records None) → IsReady log after
    → IsReopened town after (record { town = town; records = records; acknowledged = acknowledged; log = Some log })
reopened town table before after records acknowledged log is all valid writable told exact ready = record {
  town_is = refl;
  acknowledged = all;
  valid = valid;
  writable = writable;
  logged = refl;
  going = ready.going;
  held = record {
    on = ready.on;
    holds = subst (λ (rs : List Record). IfSome (list_told after) (IsLogged town rs)) (sym (ap (λ (n : ℕ). take n records) all ∙ take_all (length records) records (omega arith)))
        (told_list after.told (IsLogged town records)
        (subst (λ (t : Option (List ℕ)). IfSome t (λ bytes. IsLogged town records (list_of bytes))) (sym told) (if_some_map before.told (λ bytes e. held_case town table bytes records is e) exact)));
  };
}

-- what is refused doesn't depend on the records
pub reopen_refused : (town other : Town) (before : Meaning) (table : List ℕ) (records : List Record) (fault : ReopenFault) → table ≡ canonical_of town → other ≡ town → IfSome before.told (λ bytes. ReopenIs other table bytes records (Some fault))
    → IfSome before.told (λ bytes. ReopenIs town (canonical_of town) bytes [] (Some fault))
reopen_refused town other before table records fault is same exact =
    if_some_map before.told (λ bytes e. by_fault town bytes records fault (subst (λ (t : Town). ReopenIs t (canonical_of town) bytes records (Some fault)) same (subst (λ (p : List ℕ). ReopenIs other p bytes records (Some fault)) is e))) exact
  where
    by_fault : (town : Town) (bytes : List ℕ) (records : List Record) (fault : ReopenFault) → ReopenIs town (canonical_of town) bytes records (Some fault) → ReopenIs town (canonical_of town) bytes [] (Some fault)
    by_fault town bytes records (reopens.BadRecord index rule) e = e
    by_fault town bytes records (reopens.OtherTable at) e = e
    by_fault town bytes records reopens.NoRecords e = e
    by_fault town bytes records (reopens.NotALog size) e = e
    by_fault town bytes records (reopens.Broken at) e = e
    by_fault town bytes records reopens.Disk e = e
    by_fault town bytes records reopens.Memory e = e

pub reopened_at : (town first last : Town) (table : List ℕ) (before after : Meaning) (records : List Record) (acknowledged : ℕ) (log : Place) → first ≡ town → last ≡ town → table ≡ canonical_of town → acknowledged ≡ length records → is_valid last records ≡ true → AreWritable records
    → after.told ≡ before.told → IfSome before.told (λ bytes. ReopenIs first table bytes records None) → IsReady log after
    → IsReopened town after (record { town = last; records = records; acknowledged = acknowledged; log = Some log })
reopened_at town first last table before after records acknowledged log one two is all valid writable told exact ready =
    subst (λ (t : Town). IsReopened town after (record { town = t; records = records; acknowledged = acknowledged; log = Some log })) (sym two)
    (reopened town table before after records acknowledged log is all (subst (λ (t : Town). is_valid t records ≡ true) two valid) writable told
    (subst (λ (t : Town). IfSome before.told (λ bytes. ReopenIs t table bytes records None)) one exact) ready)

pub still_writable : (before after : List Record) → before ≡ [] → (AreWritable before → AreWritable after) → AreWritable after
still_writable before after none keeps = keeps (subst AreWritable (sym none) (λ k d lt. absurd (omega (arith, lt))))
