-- The words of the command line, without the program's name.
use Rattle.std.specs.Prelude.{ℕ, ◌^◌, ◌-◌, ◌≤◌, ◌&&◌, if◌then◌else◌, nat_le, codes, List, [], ◌∷◌, length, Option, None, Some}
use Rattle.std.specs.Option.{option_and_then, option_map}
use Rattle.std.specs.Str.{bytes_eq}
use Rattle.wrp_town.specs.Streets.{are_different}
use Rattle.wrp_grammar.specs.Parts.{is_number, number_of}
use Rattle.wrp_postman.specs.declared.command.Names.{Names}
use Rattle.wrp_postman.specs.declared.command.Names.TheVariants as names

-- a command, with the names of its files and its numbers
pub data Command : Type 0 where
  Solve : (streets proof : List ℕ) → (log : Option (List ℕ)) → (budget : ℕ) → Command
  Check : (streets proof : List ℕ) → Command
  Info : (streets : List ℕ) → Command
  Draw : (seed width height : ℕ) → Command
  Demo : (seed width height budget : ℕ) → Command

-- the most digits of a number
abbrev pub most_digits : ℕ
most_digits = 18

-- the number that a word is: a few digits without a leading zero, in this range
abbrev pub number_in : ℕ → ℕ → List ℕ → Option ℕ
number_in least most word =
    if nat_le (length word) most_digits && is_number word
    && nat_le least (number_of word) && nat_le (number_of word) most
    then Some (number_of word) else None

-- the greatest seed of a town that is drawn, and the greatest width and height
abbrev pub most_seed : ℕ
most_seed = 2 ^ 31 - 1

abbrev pub most_side : ℕ
most_side = 20

-- the greatest budget: 18 digits
abbrev pub most_budget : ℕ
most_budget = 10 ^ 18 - 1

-- `info STREETS`
abbrev pub info_of : List ℕ → List ℕ → Option Command
info_of command streets =
    if bytes_eq command (codes "info") then Some (Info streets) else None

-- `check STREETS PROOF`
abbrev pub check_of : List ℕ → List ℕ → List ℕ → Option Command
check_of command streets proof =
    if bytes_eq command (codes "check") then Some (Check streets proof) else None

-- SEED W H, each in its range
abbrev pub drawn_by : (ℕ → ℕ → ℕ → Command) → List ℕ → List ℕ → List ℕ → Option Command
drawn_by command seed width height =
    option_and_then (λ s. option_and_then (λ w. option_map (λ h. command s w h)
    (number_in 1 most_side height)) (number_in 1 most_side width)) (number_in 0 most_seed seed)

-- `town SEED W H`
abbrev pub town_of : List ℕ → List ℕ → List ℕ → List ℕ → Option Command
town_of command seed width height =
    if bytes_eq command (codes "town") then drawn_by Draw seed width height else None

-- `demo SEED W H BUDGET`, the budget being read
abbrev pub demo_of : List ℕ → List ℕ → List ℕ → ℕ → Option Command
demo_of seed width height budget = drawn_by (λ s w h. Demo s w h budget) seed width height

-- `solve STREETS PROOF - BUDGET`, over two different files, the budget being read
abbrev pub solve_of : List ℕ → List ℕ → List ℕ → ℕ → Option Command
solve_of streets proof log budget =
    if bytes_eq log (codes "-") && are_different (streets ∷ proof ∷ log ∷ [])
    then Some (Solve streets proof None budget) else None

-- a command with a budget
abbrev pub search_of : List ℕ → List ℕ → List ℕ → List ℕ → List ℕ → Option Command
search_of command first second third budget = option_and_then
    (λ b. if bytes_eq command (codes "solve") then solve_of first second third b
    else if bytes_eq command (codes "demo") then demo_of first second third b else None)
    (number_in 0 most_budget budget)

-- the command that the words are
abbrev pub command_of : List (List ℕ) → Option Command
command_of (command ∷ streets ∷ []) = info_of command streets
command_of (command ∷ streets ∷ proof ∷ []) = check_of command streets proof
command_of (command ∷ seed ∷ width ∷ height ∷ []) = town_of command seed width height
command_of (command ∷ first ∷ second ∷ third ∷ budget ∷ []) =
    search_of command first second third budget
command_of words = None

-- the command that the program has read
abbrev pub command_in : Names → Command
command_in (names.Solve streets proof log budget) =
    Solve streets.now proof.now (option_map (λ name. name.now) log) budget
command_in (names.Check streets proof) = Check streets.now proof.now
command_in (names.Info streets) = Info streets.now
command_in (names.Town seed width height) = Draw seed width height
command_in (names.Demo seed width height budget) = Demo seed width height budget

-- the numbers of a town that is drawn are in their ranges
abbrev pub IsDrawn : ℕ → ℕ → ℕ → Type 0
IsDrawn seed width height = (seed ≤ most_seed) × (width ≤ most_side) × (height ≤ most_side)

-- the numbers of a command are in their ranges
abbrev pub AreInRanges : Names → Type 0
AreInRanges (names.Town seed width height) = IsDrawn seed width height
AreInRanges (names.Demo seed width height budget) = IsDrawn seed width height
AreInRanges command = Unit {0}
