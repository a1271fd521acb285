-- What the program prints of a town, and of what was found for it.
use Rattle.std.specs.Prelude.{ℕ, Bool, true, false, ◌&&◌, ◌||◌, if◌then◌else◌, codes, List, [], ◌∷◌, ◌++◌, map, length, slice_get}
use Rattle.std.specs.Fmt.{decimal}
use Rattle.std.specs.Option.{option_map_or, is_none, is_some}
use Rattle.std.specs.List.{flat_map, count_by}
use Rattle.wrp_town.specs.declared.class.Class.{Class}
use Rattle.wrp_town.specs.declared.class.Class.TheVariants as classes
use Rattle.wrp_town.specs.declared.street.Step.{Step}
use Rattle.wrp_town.specs.declared.street.Street.{Street}
use Rattle.wrp_town.specs.declared.town.Town.{Town}
use Rattle.wrp_town.specs.Arcs.{demands, arc_of, tail_of, head_of, cost_or_zero}
use Rattle.wrp_town.specs.Classes.{class_of}
use Rattle.wrp_rules.specs.declared.record.End.{End}
use Rattle.wrp_rules.specs.declared.record.End.TheVariants.{Infeasible}
use Rattle.wrp_rules.specs.Lines.{step_text, end_text}
use Rattle.wrp_rules.specs.Proofs.{ended}
use Rattle.wrp_street.specs.Canonical.{name_at}
use Rattle.wrp_report.specs.declared.answer.Answer.{Answer}

-- the byte between the fields of a line
abbrev pub tab : ℕ
tab = 9

-- a text of lines, each followed by a line feed
abbrev pub text_of : List (List ℕ) → List ℕ
text_of lines = flat_map ended lines

-- the word of a class
abbrev pub class_name : Class → List ℕ
class_name classes.Empty = codes "empty"
class_name classes.Directed = codes "directed"
class_name classes.Rural = codes "rural"
class_name classes.Mixed = codes "mixed"
class_name classes.Windy = codes "windy"

-- how large a town is, and its class
abbrev pub size_text : ℕ → ℕ → ℕ → List ℕ → List ℕ
size_text streets junctions required class =
    codes "streets " ++ decimal streets ++ codes " junctions " ++ decimal junctions
    ++ codes " required " ++ decimal required ++ codes " class " ++ class

abbrev pub town_line : Town → List ℕ
town_line town =
    size_text (length town.streets) (length town.junctions) (length (demands town))
    (class_name (class_of town))

-- how many nodes, nodes that aren't open, cuts and blind records the search has
abbrev pub counts_line : Answer → List ℕ
counts_line answer =
    codes "nodes " ++ decimal answer.nodes ++ codes " done " ++ decimal answer.done
    ++ codes " cuts " ++ decimal answer.cuts ++ codes " blind " ++ decimal answer.blind

-- a word and a number
abbrev pub number_line : List ℕ → ℕ → List ℕ
number_line word number = word ++ codes " " ++ decimal number

-- the name of the street of a step
abbrev pub street_name : Town → Step → List ℕ
street_name town step =
    option_map_or (λ (street : Street). street.name) (slice_get town.streets step.street) []

-- one step: itself, the names of its street and of its ends, and its cost, with tabs between
abbrev pub tabbed : List ℕ → List ℕ → List ℕ → List ℕ → ℕ → List ℕ
tabbed step street from to cost =
    step ++ tab ∷ street ++ tab ∷ from ++ tab ∷ to ++ tab ∷ decimal cost

abbrev pub step_line : Town → Step → List ℕ
step_line town step =
    tabbed (step_text step) (street_name town step)
    (name_at town.junctions (tail_of town (arc_of step)))
    (name_at town.junctions (head_of town (arc_of step))) (cost_or_zero town (arc_of step))

-- how many steps there are, and each of them
abbrev pub walk_lines : Town → List Step → List (List ℕ)
walk_lines town steps = number_line (codes "steps") (length steps) ∷ map (step_line town) steps

abbrev pub is_infeasible : End → Bool
is_infeasible Infeasible = true
is_infeasible end = false

-- what every report begins with: the end, and the town
abbrev pub head_lines : Town → Answer → List (List ℕ)
head_lines town answer = end_text answer.end ∷ town_line town ∷ []

-- what stands only where a tour is there
abbrev pub unless_infeasible : Answer → List (List ℕ) → List (List ℕ)
unless_infeasible answer lines = if is_infeasible answer.end then [] else lines

-- the summary of an answer
abbrev pub summary_lines : Town → Answer → List (List ℕ)
summary_lines town answer =
    head_lines town answer ++ unless_infeasible answer (counts_line answer ∷ [])

-- the base where a walk has no step left and there is a stop
abbrev pub base_lines : Town → List Step → List ℕ → List (List ℕ)
base_lines town [] (stop ∷ stops) = (codes "base " ++ name_at town.junctions stop) ∷ []
base_lines town steps stops = []

-- what stands where a tour is there: the numbers of the search, and the walk past the stops
abbrev pub found_lines : Town → Answer → List ℕ → List (List ℕ)
found_lines town answer stops =
    counts_line answer ∷ base_lines town answer.steps stops ++ walk_lines town answer.steps

-- the report of an answer, that of a visit of stops, and that under banned turns
abbrev pub report_lines : Town → Answer → List (List ℕ)
report_lines town answer =
    head_lines town answer ++ unless_infeasible answer (found_lines town answer [])

abbrev pub visit_lines : Town → Answer → List ℕ → List (List ℕ)
visit_lines town answer stops =
    head_lines town answer ++ number_line (codes "stops") (length stops) ∷ []
    ++ unless_infeasible answer (found_lines town answer stops)

abbrev pub turns_lines : Town → Answer → ℕ → List (List ℕ)
turns_lines town answer bans =
    head_lines town answer ++ number_line (codes "bans") bans ∷ []
    ++ unless_infeasible answer (found_lines town answer [])

-- how many streets have one legal direction, two, and none
abbrev pub is_one_way : Street → Bool
is_one_way street =
    (is_some street.forward && is_none street.backward)
    || (is_none street.forward && is_some street.backward)

abbrev pub is_two_way : Street → Bool
is_two_way street = is_some street.forward && is_some street.backward

abbrev pub is_closed : Street → Bool
is_closed street = is_none street.forward && is_none street.backward

abbrev pub ways_text : ℕ → ℕ → ℕ → List ℕ
ways_text one two none =
    codes "one-way " ++ decimal one ++ codes " two-way " ++ decimal two
    ++ codes " closed " ++ decimal none

abbrev pub ways_line : Town → List ℕ
ways_line town =
    ways_text (count_by is_one_way town.streets) (count_by is_two_way town.streets)
    (count_by is_closed town.streets)

-- what is told of a town without a search
abbrev pub info_lines : Town → ℕ → Bool → List (List ℕ)
info_lines town parts tour =
    town_line town ∷ ways_line town ∷ number_line (codes "parts") parts
    ∷ (if tour then codes "tour yes" else codes "tour no") ∷ []
