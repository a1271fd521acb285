-- The file of bans: a line for each, two steps with one space between them.
use Rattle.std.specs.Prelude.{ℕ, ◌+◌, Bool, not, ◌==◌, ◌&&◌, if◌then◌else◌, List, [], ◌∷◌, map, length, Option, None, Some}
use Rattle.std.specs.List.{list_all, slice_split, slice_index_or}
use Rattle.std.specs.Option.{option_or}
use Rattle.std.specs.Str.Lines.{lines}
use Rattle.wrp_town.specs.declared.street.Step.{Step}
use Rattle.wrp_town.specs.declared.town.Town.{Town}
use Rattle.wrp_town.specs.Arcs.{arc_of}
use Rattle.wrp_grammar.specs.Parts.{is_space, is_step, step_of}
use Rattle.wrp_turn.specs.declared.fault.TurnFault.{TurnFault}
use Rattle.wrp_turn.specs.declared.fault.TurnFault.TheVariants as faults
use Rattle.wrp_turn.specs.Turns.{follows}

-- the words of a line between its spaces
abbrev pub words_of : List ℕ → List (List ℕ)
words_of line = slice_split is_space line

-- two words, each a step as a proof writes it
abbrev pub are_two_steps : List (List ℕ) → Bool
are_two_steps words = (length words == 2) && list_all is_step words

-- the step of a word, counted from 0
abbrev pub step_at : List (List ℕ) → ℕ → Step
step_at words i = step_of (slice_index_or words i [])

-- the steps of two words
abbrev pub steps_in : List (List ℕ) → Option (Step × Step)
steps_in words = if are_two_steps words then Some (step_at words 0, step_at words 1) else None

-- a line that is a ban, and its pair of arcs
abbrev pub is_ban_text : List ℕ → Bool
is_ban_text line = are_two_steps (words_of line)

abbrev pub ban_in : List ℕ → ℕ × ℕ
ban_in line = (arc_of (step_at (words_of line) 0), arc_of (step_at (words_of line) 1))

-- what is wrong with the line of a number: it is no ban, or its steps don't follow each other
abbrev pub wrong_line : Town → ℕ → List ℕ → Option TurnFault
wrong_line town number line =
    if not (is_ban_text line) then Some (faults.Form number)
    else if not (follows town (ban_in line).0 (ban_in line).1) then Some (faults.Turn number)
    else None

-- what is wrong with the first bad line, numbered from here on
abbrev pub first_wrong : Town → ℕ → List (List ℕ) → Option TurnFault
first_wrong town number [] = None
first_wrong town number (line ∷ more) =
    option_or (wrong_line town number line) (first_wrong town (number + 1) more)

-- what is wrong with a file of bans, and the bans of one with which nothing is
abbrev pub wrong_file : Town → List ℕ → Option TurnFault
wrong_file town bytes = first_wrong town 1 (lines bytes)

abbrev pub bans_in : List ℕ → List (ℕ × ℕ)
bans_in bytes = map ban_in (lines bytes)
