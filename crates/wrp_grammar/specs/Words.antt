-- Kinds whose words tell their lines apart.
use Rattle.std.specs.Prelude.{ℕ, Bool, true, false, ◌&&◌, ◌||◌, not, ◌==◌, List, [], ◌∷◌}
use Rattle.std.specs.List.{list_all}
use Rattle.wrp_rules.specs.declared.layout.Kind.{Kind}
use Rattle.wrp_rules.specs.Layouts.{layout_of}

-- the words differ in a byte, so no line begins with both
abbrev pub are_apart : List ℕ → List ℕ → Bool
are_apart [] other = false
are_apart (b ∷ one) [] = false
are_apart (b ∷ one) (c ∷ other) = not (b == c) || are_apart one other

-- each word is apart from the words of the other kinds
abbrev pub words_are_apart : List Kind → Bool
words_are_apart [] = true
words_are_apart (kind ∷ kinds) =
    list_all (λ other. are_apart (layout_of kind).word (layout_of other).word) kinds
    && words_are_apart kinds
