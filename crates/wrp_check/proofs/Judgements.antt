-- The judgement of a line whose record is read.
use Rattle.std.proofs.Common.{◌≡◌, ℕ, Bool, true, false, not, ◌==◌, List, ◌∷◌, length, Option, None, Some, Result, Ok, Err, IfOk, ap, refl, ◌∙◌}
use Rattle.std.specs.Prelude.{if◌then◌else◌}
use Rattle.std.specs.List.{list_any}
use Rattle.std.specs.declared.alloc.AllocError.{AllocError}
use Rattle.wrp_town.specs.declared.town.Town.{Town}
use Rattle.wrp_rules.specs.declared.record.Record.{Record}
use Rattle.wrp_rules.specs.declared.rule.Rule.{Rule}
use Rattle.wrp_rules.specs.declared.rule.Rule.TheVariants as rules
use Rattle.wrp_rules.specs.Contents.{has_number_rules}
use Rattle.wrp_rules.specs.Nodes.{Standing}
use Rattle.wrp_rules.specs.Rules.{is_labels, is_alone, first_broken, rules_of, broken_rule}
use Rattle.wrp_grammar.specs.Shapes.{has_shape}
use Rattle.wrp_grammar.specs.Spelling.{spelled}
use Rattle.wrp_proof.specs.JudgedLines.{unless, judged_record, judged_line}
use Rattle.wrp_check.specs.declared.kept.Kept.{Kept}
use Rattle.wrp_check.specs.declared.kept.Past.{Past}
use Rattle.wrp_check.specs.declared.judge.Judge.{Judge}
use Rattle.wrp_check.specs.Judging.{admits, IsPast, IsKept, IsIdle, Stands, Tries, Judges}

-- a record may stand next where the past admits it
pub alone_is : (s : Standing) (item : Record) (past : Past) → IsPast s.records past → is_alone s item ≡ admits past (is_labels item)
alone_is s item past is = by (is_labels item)
  where
    by : (t : Bool) → (if t then length s.records == 0 else not (list_any is_labels s.records)) ≡ (if t then not past.has_records else not past.is_labelled)
    by true = is.some
    by false = ap not is.labelled

-- the rules of a record whose numbers are in their ranges and that may stand next are those of its kind
broken_is : (town : Town) (s : Standing) (item : Record) → has_number_rules item ≡ true → is_alone s item ≡ true → broken_rule town s item ≡ first_broken (rules_of town s item)
broken_is town s item numbers alone =
    ap (λ (t : Bool). first_broken ((rules.Number, t) ∷ (rules.Lonely, is_alone s item) ∷ rules_of town s item)) numbers
    ∙ ap (λ (t : Bool). first_broken ((rules.Lonely, t) ∷ rules_of town s item)) alone

-- what is judged of a line that spells a record
said : (town : Town) (s : Standing) (line : List ℕ) (item : Record) → spelled line ≡ Some item → judged_line town s line ≡ unless (broken_rule town s item) item
said town s line item is = ap (judged_record town s (if has_shape line then rules.Number else rules.Form)) is

-- a record that may not stand next
pub lonely : (town : Town) (s : Standing) (line : List ℕ) (item : Record) (kept : Kept) → spelled line ≡ Some item → has_number_rules item ≡ true → IsKept town s kept → admits kept.past (is_labels item) ≡ false
    → judged_line town s line ≡ Err rules.Lonely
lonely town s line item kept is numbers stands refused =
    said town s line item is
    ∙ ap (λ (o : Option Rule). unless o item)
    (ap (λ (t : Bool). first_broken ((rules.Number, t) ∷ (rules.Lonely, is_alone s item) ∷ rules_of town s item)) numbers
    ∙ ap (λ (t : Bool). first_broken ((rules.Lonely, t) ∷ rules_of town s item)) (alone_is s item kept.past stands.past ∙ refused))

-- one that may
pub judged : (town : Town) (s : Standing) (line : List ℕ) (item : Record) (broken : Option Rule) (old new : Judge) → spelled line ≡ Some item → has_number_rules item ≡ true → Stands town s old → admits old.kept.past (is_labels item) ≡ true
    → Tries town item broken old.kept new.kept → new.graph ≡ old.graph → (broken ≡ None → IsIdle town new.work) → Judges town s (judged_line town s line) broken new
judged town s line item None old new is numbers stands admitted tries graph idle =
    let alone = alone_is s item old.kept.past stands.kept.past ∙ admitted in
    let tried = tries s stands.kept alone in (
      item,
      said town s line item is ∙ ap (λ (o : Option Rule). unless o item) (broken_is town s item numbers alone ∙ tried.0),
      record { graph = graph ∙ stands.graph; idle = idle refl; kept = tried.1 refl },
    )
judged town s line item (Some rule) old new is numbers stands admitted tries graph idle =
    let alone = alone_is s item old.kept.past stands.kept.past ∙ admitted in
    said town s line item is ∙ ap (λ (o : Option Rule). unless o item) (broken_is town s item numbers alone ∙ (tries s stands.kept alone).0)

-- the same of an answer that want of memory may stand in for
pub judged_answer : (town : Town) (line : List ℕ) (item : Record) (old new : Judge) (answer : Result (Option Rule) AllocError) → spelled line ≡ Some item → has_number_rules item ≡ true → admits old.kept.past (is_labels item) ≡ true
    → IfOk answer (λ broken. Tries town item broken old.kept new.kept) → new.graph ≡ old.graph → (answer ≡ Ok None → IsIdle town new.work) → IfOk answer (λ broken. (s : Standing) → Stands town s old → Judges town s (judged_line town s line) broken new)
judged_answer town line item old new (Ok broken) is numbers admitted tries graph idle =
    λ s stands. judged town s line item broken old new is numbers stands admitted tries graph (λ none. idle (ap Ok none))
judged_answer town line item old new (Err _) is numbers admitted tries graph idle = tt
