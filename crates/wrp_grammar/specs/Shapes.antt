-- The shapes of lines: a number may be any run of one or more digits.
use Rattle.std.specs.Prelude.{codes, ℕ, Bool, true, false, ◌&&◌, ◌||◌, if◌then◌else◌, nat_eq, List, [], ◌∷◌, drop, length}
use Rattle.std.specs.List.{list_all, list_any, starts_with}
use Rattle.std.specs.Str.{bytes_eq}
use Rattle.wrp_rules.specs.declared.layout.Kind.{Kind}
use Rattle.wrp_rules.specs.declared.layout.Range.{Range}
use Rattle.wrp_rules.specs.declared.layout.Tail.{Tail}
use Rattle.wrp_rules.specs.declared.layout.Tail.TheVariants.{Nothing, Steps, Multipliers, Pairs, Labels}
use Rattle.wrp_rules.specs.Layouts.{Layout, layout_of, record_kinds, end_kinds}
use Rattle.wrp_grammar.specs.Parts.{parts_of, is_spaced, is_digits, is_step_shape, is_pair_shape}

-- the slash between labels and streets
abbrev pub is_slash : List ℕ → Bool
is_slash part = bytes_eq part (codes "/")

-- a number or a slash
abbrev pub is_label : List ℕ → Bool
is_label part = is_slash part || is_digits part

-- labels, a slash, and streets
abbrev pub has_labels_shape : List (List ℕ) → Bool
has_labels_shape [] = false
has_labels_shape (part ∷ parts) =
    if is_slash part then list_all is_digits parts else is_digits part && has_labels_shape parts

-- no part
abbrev pub is_nothing : List (List ℕ) → Bool
is_nothing [] = true
is_nothing (part ∷ parts) = false

-- one part of what follows the leading numbers
abbrev pub is_part_of : Tail → List ℕ → Bool
is_part_of Steps part = is_step_shape part
is_part_of (Multipliers most) part = is_pair_shape part
is_part_of (Pairs most) part = is_pair_shape part
is_part_of tail part = is_digits part

-- what follows the leading numbers
abbrev pub has_tail_shape : Tail → List (List ℕ) → Bool
has_tail_shape Nothing parts = is_nothing parts
has_tail_shape Labels parts = has_labels_shape parts
has_tail_shape tail parts = list_all (is_part_of tail) parts

-- a number for each range, and what follows them
abbrev pub has_parts_shape : List Range → Tail → List (List ℕ) → Bool
has_parts_shape [] tail parts = has_tail_shape tail parts
has_parts_shape (range ∷ ranges) tail [] = false
has_parts_shape (range ∷ ranges) tail (part ∷ parts) = is_digits part
    && has_parts_shape ranges tail parts

-- what is left of a line behind its word has the parts of the layout
abbrev pub goes_on_in : Layout → List ℕ → Bool
goes_on_in l left = is_spaced left && has_parts_shape l.numbers l.tail (parts_of left)

-- a line in the shape of a layout: its word, and its parts
abbrev pub is_in_layout : Layout → List ℕ → Bool
is_in_layout l line = starts_with nat_eq line l.word && goes_on_in l (drop (length l.word) line)

-- a line in the shape of one of these kinds
abbrev pub is_of_kinds : List Kind → List ℕ → Bool
is_of_kinds kinds line = list_any (λ kind. is_in_layout (layout_of kind) line) kinds

-- a line in the shape of a record, and one in the shape of an end
abbrev pub has_shape : List ℕ → Bool
has_shape line = is_of_kinds record_kinds line

abbrev pub has_end_shape : List ℕ → Bool
has_end_shape line = is_of_kinds end_kinds line
