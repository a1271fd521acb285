-- The lines of a log's payloads, and the records that they spell.
use Rattle.std.proofs.Common.{◌≡◌, ◌⊎◌, inl, inr, ℕ, ◌+◌, ◌<◌, ◌≤◌, zero, suc, Bool, true, false, List, [], ◌∷◌, ◌++◌, length, get_or, take, drop, Option, Some, None, Result, Ok, Err, refl, sym, ◌∙◌, ap, subst, arith, length-append, append_assoc}
use Rattle.std.specs.Prelude.{nat_le, nat_eq, cond, map}
use Rattle.std.specs.List.{All, AllByRecursion, slice_split, onto_first, flat_map}
use Rattle.std.proofs.lemmas.Bool.{and_from, le-leb}
use Rattle.std.proofs.lemmas.List.{append-nil, at_drop_more, at_drop_all}
use Rattle.std.proofs.lemmas.Grind.{common_steps}
use Rattle.wrp_town.specs.declared.town.Town.{Town}
use Rattle.wrp_rules.specs.declared.record.Record.{Record}
use Rattle.wrp_rules.specs.declared.rule.Rule.{Rule}
use Rattle.wrp_rules.specs.Contents.{has_number_rules}
use Rattle.wrp_rules.specs.Nodes.{standing}
use Rattle.wrp_rules.specs.Lines.{line_of}
use Rattle.wrp_rules.specs.Proofs.{line_feed, longest_line}
use Rattle.wrp_grammar.specs.Spelling.{spelled}
use Rattle.wrp_writer.specs.Limits.{is_writable}
use Rattle.wrp_proof.specs.JudgedLines.{judged_line}
use Rattle.wrp_proof.proofs.LineLaws.{spelled-line}
use Rattle.wrp_keep.specs.Keeps.{fed, joined}
use Rattle.wrp_keep.specs.declared.reading.RecordFault.{RecordFault}
use Rattle.wrp_keep.specs.declared.reading.RecordFault.TheVariants.{Broken, Memory}
use Rattle.std.proofs.lemmas.List.Elements.{All-append}
use Rattle.wrp_keep.specs.Reopens.{AreWritable, lines_in, read_on, read_after, AddsLine, AddsLines}

-- what a line spells may be written
pub spelled_writable : (line : List ℕ) (item : Record) → spelled line ≡ Some item → length line ≤ longest_line → is_writable item ≡ true
spelled_writable line item is short =
    let of = spelled-line line item is in
    and_from (has_number_rules item) (nat_le (length (line_of item)) longest_line) of.numbers (le-leb (length (line_of item)) longest_line (omega (arith, short, ap length of.text)))

-- ---- one line more

module _ (town : Town) (lines : List (List ℕ)) (before : List Record) (k : ℕ) (line : List ℕ) (at : (k < length lines) × (line ≡ get_or lines k line)) where
  next_line : read_after town before (drop k lines) ≡ read_on (judged_line town (standing town before) line) (length before + 1) (λ item. read_after town (before ++ item ∷ []) (drop (k + 1) lines))
  next_line =
      at_drop_more (read_after town before) lines k line at.0
      ∙ ap (λ (l : List ℕ). read_on (judged_line town (standing town before) l) (length before + 1) (λ item. read_after town (before ++ item ∷ []) (drop (k + 1) lines))) (sym at.1)

  pub line_added : (item : Record) (new : List Record) → judged_line town (standing town before) line ≡ Ok item → new ≡ before ++ item ∷ [] → read_after town before (drop k lines) ≡ read_after town new (drop (k + 1) lines)
  line_added item new is more =
      next_line
      ∙ ap (λ (r : Result Record Rule). read_on r (length before + 1) (λ item. read_after town (before ++ item ∷ []) (drop (k + 1) lines))) is
      ∙ ap (λ (rs : List Record). read_after town rs (drop (k + 1) lines)) (sym more)

  pub line_refused : (rule : Rule) → judged_line town (standing town before) line ≡ Err rule → read_after town before (drop k lines) ≡ Err (length before + 1, rule)
  line_refused rule is =
      next_line
      ∙ ap (λ (r : Result Record Rule). read_on r (length before + 1) (λ item. read_after town (before ++ item ∷ []) (drop (k + 1) lines))) is

pub lines_ended : (town : Town) (lines : List (List ℕ)) (before : List Record) (k : ℕ) → length lines ≤ k → read_after town before (drop k lines) ≡ Ok before
lines_ended town lines before k all = at_drop_all (read_after town before) lines k all

-- the line behind those that were read is refused
pub lines_refused : (town : Town) (lines : List (List ℕ)) (start before : List Record) (k : ℕ) (line : List ℕ) → (k < length lines) × (line ≡ get_or lines k line) → read_after town start lines ≡ read_after town before (drop k lines) → (fault : RecordFault)
    → (new : List Record) → AddsLine town line before new (Err fault) → AddsLines town lines start new (Err fault)
lines_refused town lines start before k line at so_far (Broken rule) new adds =
    so_far ∙ line_refused town lines before k line at rule adds.0 ∙ ap (λ (rs : List Record). Err (length rs + 1, rule)) (sym adds.1)
lines_refused town lines start before k line at so_far Memory new adds = record {}

one_writable : (item : Record) → is_writable item ≡ true → AreWritable (item ∷ [])
one_writable item writable zero d below = writable
one_writable item writable (suc k) d below = absurd (omega (arith, below))

-- one more record that may be written
pub writable_push : (old new : List Record) (item : Record) → is_writable item ≡ true → new ≡ old ++ item ∷ [] → AreWritable old → AreWritable new
writable_push old new item writable is all =
    subst AreWritable (sym is) (All-append (λ item. is_writable item ≡ true) old (item ∷ []) all (one_writable item writable))
