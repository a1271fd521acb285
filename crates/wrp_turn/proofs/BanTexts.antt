-- A line that is a ban is the text of a turn, and the text of each turn is such a line.
use Rattle.std.proofs.Common.{◌≡◌, ℕ, ◌/◌, ◌<◌, ◌^◌, true, ◌==◌, ◌&&◌, List, [], ◌∷◌, ◌++◌, length, refl, sym, ap, ◌∙◌, arith}
use Rattle.std.specs.List.{list_all, slice_split, join_with_byte}
use Rattle.std.proofs.lemmas.Bool.{and_parts, and_from, eqb-true, lt-ltb}
use Rattle.std.proofs.lemmas.List.{append-nil}
use Rattle.std.proofs.lemmas.List.Splits.{join_with_byte-slice_split}
use Rattle.wrp_town.specs.Arcs.{arc_of, step_along}
use Rattle.wrp_town.proofs.TownLaws.{arc_of-step_along}
use Rattle.wrp_rules.specs.Ranges.{is_index}
use Rattle.wrp_rules.specs.Lines.{step_text}
use Rattle.wrp_grammar.specs.Parts.{is_space, is_step, step_of}
use Rattle.wrp_grammar.proofs.Spacing.{solid_cut}
use Rattle.wrp_grammar.proofs.ItemTexts.{step-texts}
use Rattle.wrp_turn.specs.TurnTowns.{arc_text, turn_text}
use Rattle.wrp_turn.specs.BanFiles.{words_of, are_two_steps, step_at, is_ban_text, ban_in}
use Rattle.wrp_turn.proofs.Places.{step_along-arc_of}

-- a word that is a step is the text of its arc
word_text : (word : List ℕ) → is_step word ≡ true → arc_text (arc_of (step_of word)) ≡ word
word_text word is = ap step_text (step_along-arc_of (step_of word)) ∙ step-texts.written word is

-- two words that are steps, joined
joined : (words : List (List ℕ)) → are_two_steps words ≡ true → join_with_byte 32 words ≡ turn_text (arc_of (step_at words 0), arc_of (step_at words 1))
joined [] are = absurd (cc)
joined (x ∷ []) are = absurd (cc)
joined (x ∷ y ∷ []) are =
    let steps = and_parts (is_step x) (is_step y && true) are in
    let second = and_parts (is_step y) true steps.1 in
    λ i. sym (word_text x steps.0) i ++ 32 ∷ sym (word_text y second.0) i
joined (x ∷ y ∷ z ∷ more) are = absurd (omega (arith, eqb-true (length (x ∷ y ∷ z ∷ more)) 2 (and_parts (length (x ∷ y ∷ z ∷ more) == 2) (list_all is_step (x ∷ y ∷ z ∷ more)) are).0))

pub ban_spelled : (line : List ℕ) → is_ban_text line ≡ true → line ≡ turn_text (ban_in line)
ban_spelled line is = sym (join_with_byte-slice_split 32 line) ∙ joined (words_of line) is

-- the step along an arc has a street that a proof may name
named : (arc : ℕ) → arc < 2 ^ 33 → is_index (step_along arc).street ≡ true
named arc small = lt-ltb (arc / 2) (2 ^ 32) (omega arith)

-- the words of a turn
turn_words : (first second : ℕ) → first < 2 ^ 33 → second < 2 ^ 33 → words_of (turn_text (first, second)) ≡ arc_text first ∷ arc_text second ∷ []
turn_words first second small small' =
    solid_cut (arc_text first) (32 ∷ arc_text second) (step-texts.solid (step_along first) (named first small)) refl
    ∙ ap (λ others. arc_text first ∷ others) (ap (slice_split is_space) (sym (append-nil (arc_text second))) ∙ solid_cut (arc_text second) [] (step-texts.solid (step_along second) (named second small')) refl)

arc_read : (arc : ℕ) → arc < 2 ^ 33 → (is_step (arc_text arc) ≡ true) × (arc_of (step_of (arc_text arc)) ≡ arc)
arc_read arc small = (step-texts.right (step_along arc) (named arc small), ap arc_of (step-texts.same (step_along arc) (named arc small)) ∙ arc_of-step_along arc)

pub turn_read : (first second : ℕ) → first < 2 ^ 33 → second < 2 ^ 33 → (is_ban_text (turn_text (first, second)) ≡ true) × (ban_in (turn_text (first, second)) ≡ (first, second))
turn_read first second small small' =
    let words = turn_words first second small small' in
    let one = arc_read first small in
    let two = arc_read second small' in (
      ap are_two_steps words ∙ and_from (is_step (arc_text first)) (is_step (arc_text second) && true) one.0 (and_from (is_step (arc_text second)) true two.0 refl),
      ap (λ (ws : List (List ℕ)). (arc_of (step_at ws 0), arc_of (step_at ws 1))) words ∙ (λ i. (one.1 i, two.1 i)),
    )
