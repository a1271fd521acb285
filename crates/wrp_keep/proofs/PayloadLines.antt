-- Records that are read payload by payload.
use Rattle.std.proofs.Common.{◌≡◌, ◌⊎◌, inl, inr, ℕ, ◌+◌, ◌<◌, ◌≤◌, Bool, true, false, List, [], ◌∷◌, ◌++◌, length, get_or, take, drop, Option, Some, None, Result, Ok, Err, refl, sym, ◌∙◌, ap, subst, arith}
use Rattle.std.specs.List.{flat_map, slice_get}
use Rattle.std.proofs.lemmas.List.{drop_more, drop_all, at_drop_all}
use Rattle.std.proofs.lemmas.Option.{slice_get_within, get_or_from_slice_get, slice_get_cases}
use Rattle.std.specs.Prelude.{IfSome}
use Rattle.wrp_disk.specs.Disks.{Meaning, Looks}
use Rattle.wrp_log.specs.Payloads.{list_of}
use Rattle.wrp_log.specs.Logs.{Place}
use Rattle.wrp_log.proofs.Adding.{if_some_map}
use Rattle.wrp_log.proofs.Appended.{told_both}
use Rattle.wrp_town.specs.declared.town.Town.{Town}
use Rattle.wrp_rules.specs.declared.record.Record.{Record}
use Rattle.wrp_rules.specs.declared.rule.Rule.{Rule}
use Rattle.wrp_rules.specs.Nodes.{standing}
use Rattle.wrp_proof.specs.JudgedLines.{judged_line}
use Rattle.wrp_keep.specs.declared.fault.ReopenFault.{ReopenFault}
use Rattle.wrp_keep.specs.declared.fault.ReopenFault.TheVariants as reopens
use Rattle.wrp_keep.specs.Reopens.{lines_in, read_on, read_after, lines_from, ReadsNext, ReadsFrom}

abbrev pub Read : Type 0
Read = Result (List Record) (ℕ × Rule)

-- what is read of some lines, and then of more
abbrev pub then_read : Town → List (List ℕ) → Read → Read
then_read town more (Ok records) = read_after town records more
then_read town more (Err fault) = Err fault

by_judged : (town : Town) (before : List Record) (lines more : List (List ℕ)) (judged : Result Record Rule)
    → ((item : Record) → read_after town (before ++ item ∷ []) (lines ++ more) ≡ then_read town more (read_after town (before ++ item ∷ []) lines))
    → read_on judged (length before + 1) (λ item. read_after town (before ++ item ∷ []) (lines ++ more)) ≡ then_read town more (read_on judged (length before + 1) (λ item. read_after town (before ++ item ∷ []) lines))
by_judged town before lines more (Ok item) step = step item
by_judged town before lines more (Err rule) step = refl

pub read_both : (town : Town) (before : List Record) (lines more : List (List ℕ)) → read_after town before (lines ++ more) ≡ then_read town more (read_after town before lines)
read_both town before [] more = refl
read_both town before (line ∷ lines) more = by_judged town before lines more (judged_line town (standing town before) line) (λ item. read_both town (before ++ item ∷ []) lines more)

lines_at : (payloads : List (List ℕ)) (k : ℕ) (payload : List ℕ) → slice_get payloads k ≡ Some payload → lines_from k payloads ≡ lines_in payload ++ lines_from (k + 1) payloads
lines_at payloads k payload is =
    ap (λ (l : List (List ℕ)). flat_map lines_in l) (drop_more payloads k [] (slice_get_within payloads k payload is) ∙ ap (λ (p : List ℕ). p ∷ drop (k + 1) payloads) (get_or_from_slice_get payloads k payload [] is))

pub lines_past : (payloads : List (List ℕ)) (k : ℕ) → length payloads ≤ k → lines_from k payloads ≡ []
lines_past payloads k past = ap (λ (l : List (List ℕ)). flat_map lines_in l) (drop_all k payloads past)

none_past : (payloads : List (List ℕ)) (k : ℕ) → slice_get payloads k ≡ None → length payloads ≤ k
none_past payloads k none = elim ((slice_get_cases payloads k).1) [
  | inl (x, lt, some, same) ↦ absurd (let clash : Some x ≡ None = sym some ∙ none in cc)
  | inr (past, is) ↦ past
]

module _ (town : Town) (payloads : List (List ℕ)) (k : ℕ) (old new : List Record) where
  pub read_one : ReadsNext town (slice_get payloads k) old new (Ok true) → read_after town old (lines_from k payloads) ≡ read_after town new (lines_from (k + 1) payloads)
  read_one (payload, is, read) =
      ap (read_after town old) (lines_at payloads k payload is)
      ∙ read_both town old (lines_in payload) (lines_from (k + 1) payloads)
      ∙ ap (then_read town (lines_from (k + 1) payloads)) read

  pub read_none : ReadsNext town (slice_get payloads k) old new (Ok false) → read_after town old (lines_from k payloads) ≡ Ok new
  read_none (none, same) =
      ap (read_after town old) (lines_past payloads k (none_past payloads k none)) ∙ ap Ok (sym same)

  -- what comes of a payload that isn't read
  pub read_refused : (start : List Record) (from : ℕ) → read_after town start (lines_from from payloads) ≡ read_after town old (lines_from k payloads) → (fault : ReopenFault) → ReadsNext town (slice_get payloads k) old new (Err fault)
      → ReadsFrom from town payloads start new (Some fault)
  read_refused start from so_far (reopens.BadRecord index rule) (payload, is, read) =
      so_far
      ∙ ap (read_after town old) (lines_at payloads k payload is)
      ∙ read_both town old (lines_in payload) (lines_from (k + 1) payloads)
      ∙ ap (then_read town (lines_from (k + 1) payloads)) read
  read_refused start from so_far reopens.Disk reads = record {}
  read_refused start from so_far reopens.Memory reads = record {}
  read_refused start from so_far reopens.NoRecords reads = absurd reads
  read_refused start from so_far (reopens.NotALog size) reads = absurd reads
  read_refused start from so_far (reopens.Broken at) reads = absurd reads
  read_refused start from so_far (reopens.OtherTable at) reads = absurd reads

pub read_all : (town : Town) (payloads : List (List ℕ)) (k : ℕ) (start old : List Record) (from : ℕ) → length payloads ≤ k → read_after town start (lines_from from payloads) ≡ read_after town old (lines_from k payloads)
    → read_after town start (lines_from from payloads) ≡ Ok old
read_all town payloads k start old from past so_far = so_far ∙ ap (read_after town old) (lines_past payloads k past)

-- ---- over a disk that looks alone

module _ (town : Town) (start old new : List Record) (from counter : ℕ) (before mid : Meaning) (looks : Looks before mid) (log : Place) (replayed : IfSome mid.told (λ bytes. log.replayed ≡ counter))
    (so_far : IfSome before.told (λ bytes. read_after town start (lines_from from (list_of bytes)) ≡ read_after town old (lines_from counter (list_of bytes))))
    (result : Result Bool ReopenFault) (reads : IfSome mid.told (λ bytes. ReadsNext town (slice_get (list_of bytes) log.replayed) old new result)) where
  at_counter : IfSome before.told (λ bytes. ReadsNext town (slice_get (list_of bytes) counter) old new result)
  at_counter =
      subst (λ (t : Option (List ℕ)). IfSome t (λ bytes. ReadsNext town (slice_get (list_of bytes) counter) old new result)) looks.told
      (if_some_map mid.told (λ bytes both. subst (λ (k : ℕ). ReadsNext town (slice_get (list_of bytes) k) old new result) both.0 both.1) (told_both _ _ mid.told replayed reads))

  both : IfSome before.told (λ bytes. (read_after town start (lines_from from (list_of bytes)) ≡ read_after town old (lines_from counter (list_of bytes))) × ReadsNext town (slice_get (list_of bytes) counter) old new result)
  both = told_both _ _ before.told so_far at_counter

  pub on_more : result ≡ Ok true → IfSome before.told (λ bytes. read_after town start (lines_from from (list_of bytes)) ≡ read_after town new (lines_from (counter + 1) (list_of bytes)))
  on_more is = if_some_map before.told (λ bytes h. h.0 ∙ read_one town (list_of bytes) counter old new (subst (λ (r : Result Bool ReopenFault). ReadsNext town (slice_get (list_of bytes) counter) old new r) is h.1)) both

  pub on_none : result ≡ Ok false → IfSome before.told (λ bytes. ReadsFrom from town (list_of bytes) start new None)
  on_none is = if_some_map before.told (λ bytes h. h.0 ∙ read_none town (list_of bytes) counter old new (subst (λ (r : Result Bool ReopenFault). ReadsNext town (slice_get (list_of bytes) counter) old new r) is h.1)) both

  pub on_refused : (fault : ReopenFault) → result ≡ Err fault → IfSome before.told (λ bytes. ReadsFrom from town (list_of bytes) start new (Some fault))
  on_refused fault is =
      if_some_map before.told (λ bytes h. read_refused town (list_of bytes) counter old new start from h.0 fault (subst (λ (r : Result Bool ReopenFault). ReadsNext town (slice_get (list_of bytes) counter) old new r) is h.1)) both
