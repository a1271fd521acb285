-- The sets of a K-C cut, as the checker looks at them.
use Rattle.std.specs.Prelude.{◌≡◌, ℕ, ◌<◌, Bool, false, ◌||◌, not, ℤ, pos, List, length, slice_index_or}
use Rattle.std.specs.List.{list_any, range_with_len}
use Rattle.wrp_town.specs.declared.town.Town.{Town}
use Rattle.wrp_town.specs.Streets.{forward_arc}
use Rattle.wrp_town.specs.Arcs.{is_required}
use Rattle.wrp_rules.specs.Rows.{joins_ends, chain_distance, keeps_set, is_held}

-- the street isn't required, joins the first set and the last, or stays in one set
abbrev pub keeps_sets : Town → ℕ → List ℕ → ℕ → Bool
keeps_sets town last of street =
    not (is_required town street) || joins_ends town last of (forward_arc street)
    || keeps_set of town street

-- the mark of a set
abbrev pub mark_of : List Bool → ℕ → Bool
mark_of held i = slice_index_or held i false

-- no set is marked
abbrev pub AreBare : List Bool → Type 0
AreBare held = (i : ℕ) → mark_of held i ≡ false

-- the marked sets are those that wholly hold a required street among the first n
pub record MarkHolders (town : Town) (of : List ℕ) (n : ℕ) (held : List Bool) : Type 0 where
  pub marks : (i : ℕ) → i < length held
      → mark_of held i ≡ list_any (is_held town of i) (range_with_len 0 n)

-- the set that holds one more street is marked too
pub record MarksMore (town : Town) (of : List ℕ) (street : ℕ) (old new : List Bool) : Type 0 where
  pub long : length new ≡ length old
  pub marks : (i : ℕ) → i < length old
      → mark_of new i ≡ (mark_of old i || is_held town of i street)

-- the coefficient of an arc in the row of a K-C cut
abbrev pub distance_at : Town → ℕ → List ℕ → ℕ → ℤ
distance_at town last of arc = pos (chain_distance town last of arc)
