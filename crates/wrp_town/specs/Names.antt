-- Names, as the lists of their bytes.
use Rattle.std.specs.Prelude.{ℕ, Bool, not, ◌&&◌, ◌==◌, nat_lt, nat_le, ◌-◌, List, length, slice_index}
use Rattle.std.specs.List.{list_all}
use Rattle.std.specs.Str.{is_utf8}

-- the most bytes of a name
abbrev pub name_limit : ℕ
name_limit = 64

-- the byte of a space, below which only control bytes are, and the control byte above the others
abbrev pub space : ℕ
space = 32

abbrev pub delete : ℕ
delete = 127

-- a byte that a name may hold: no control byte
abbrev pub is_plain : ℕ → Bool
is_plain byte = nat_le space byte && not (byte == delete)

-- at least one byte and not too many, each of which a name may hold
abbrev pub is_short_and_plain : List ℕ → Bool
is_short_and_plain bytes =
    nat_lt 0 (length bytes) && (nat_le (length bytes) name_limit && list_all is_plain bytes)

-- no space at either end
abbrev pub has_bare_ends : List ℕ → Bool
has_bare_ends bytes =
    not (slice_index bytes 0 == space) && not (slice_index bytes (length bytes - 1) == space)

-- a name: one to 64 bytes of UTF-8 without control bytes, and with no space at either end
abbrev pub is_name : List ℕ → Bool
is_name bytes = is_short_and_plain bytes && (has_bare_ends bytes && is_utf8 bytes)
