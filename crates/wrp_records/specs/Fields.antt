-- What one field of a table says without the blanks at its ends.
use Rattle.std.specs.Prelude.{ℕ, List, [], ◌∷◌, Bool, if◌then◌else◌, ◌==◌, ◌||◌}
use Rattle.std.specs.List.{list_all}

-- the byte of a space, and that of a tab
abbrev pub space : ℕ
space = 32

abbrev pub tab : ℕ
tab = 9

-- whether a byte is a blank: a space or a tab
abbrev pub is_blank : ℕ → Bool
is_blank byte = (byte == space) || (byte == tab)

-- a field without the blanks at its start
unfoldable pub trim_start : List ℕ → List ℕ
trim_start [] = []
trim_start (byte ∷ bytes) = if is_blank byte then trim_start bytes else byte ∷ bytes

-- a field without the blanks at its end
unfoldable pub trim_end : List ℕ → List ℕ
trim_end [] = []
trim_end (byte ∷ bytes) = if list_all is_blank (byte ∷ bytes) then [] else byte ∷ trim_end bytes

-- a field without the blanks at both ends
abbrev pub trimmed : List ℕ → List ℕ
trimmed field = trim_end (trim_start field)
