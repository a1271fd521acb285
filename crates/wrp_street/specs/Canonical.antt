-- How a town is written as a street table.
use Rattle.std.specs.Prelude.{ℕ, ◌^◌, List, [], ◌∷◌, Option, None, Some, map, codes}
use Rattle.std.specs.Fmt.{decimal}
use Rattle.std.specs.List.{slice_index_or}
use Rattle.wrp_street.specs.Headers.{columns}
use Rattle.wrp_records.specs.Lines.{lines_text}
use Rattle.wrp_town.specs.declared.street.Need.{Need}
use Rattle.wrp_town.specs.declared.street.Need.TheVariants.{No, Either, Forward, Backward, Both}
use Rattle.wrp_town.specs.declared.street.Street.{Street}
use Rattle.wrp_town.specs.declared.town.Town.{Town}

-- the cost of a direction in decimal digits, and a dash where it is illegal
abbrev pub text_of_cost : Option ℕ → List ℕ
text_of_cost None = codes "-"
text_of_cost (Some cost) = decimal cost

-- the word of a need
abbrev pub text_of_need : Need → List ℕ
text_of_need No = codes "no"
text_of_need Either = codes "yes"
text_of_need Forward = codes "forward"
text_of_need Backward = codes "backward"
text_of_need Both = codes "both"

-- the name of the junction of this number
abbrev pub name_at : List (List ℕ) → ℕ → List ℕ
name_at junctions number = slice_index_or junctions number []

-- the fields of a street: its name, those of its ends, its costs and its need
abbrev pub fields_of_street : List (List ℕ) → Street → List (List ℕ)
fields_of_street junctions street =
    street.name ∷ name_at junctions street.from ∷ name_at junctions street.to
    ∷ text_of_cost street.forward ∷ text_of_cost street.backward ∷ text_of_need street.need ∷ []

-- the records of a town's streets, in order
abbrev pub records_in : Town → List (List (List ℕ))
records_in town = map (fields_of_street town.junctions) town.streets

-- the most bytes of such a table
abbrev pub size_limit : ℕ
size_limit = 2 ^ 22

-- the table of a town: the header, and a line for each street
unfoldable pub canonical_of : Town → List ℕ
canonical_of town = lines_text (columns ∷ records_in town)
