-- The star of a junction: the legal arcs that leave it, and those that enter it.
use Rattle.std.specs.Prelude.{ℕ, ◌==◌, List, map}
use Rattle.std.specs.List.{filter}
use Rattle.wrp_town.specs.declared.town.Town.{Town}
use Rattle.wrp_town.specs.Arcs.{tail_of, head_of, is_legal, legal_arcs}

-- the legal arcs that leave a junction, ascending
abbrev pub out_of : Town → ℕ → List ℕ
out_of town j = filter (λ arc. tail_of town arc == j) (legal_arcs town)

-- the legal arcs that enter a junction, ascending
abbrev pub into : Town → ℕ → List ℕ
into town j = filter (λ arc. head_of town arc == j) (legal_arcs town)

-- arcs, each behind a number that it has
abbrev pub keyed_by : (ℕ → ℕ) → List ℕ → List (ℕ × ℕ)
keyed_by key arcs = map (λ arc. (key arc, arc)) arcs

-- the arcs that are legal, each behind the junction that it leaves, or enters
abbrev pub tails_of : Town → List ℕ → List (ℕ × ℕ)
tails_of town arcs = keyed_by (tail_of town) (filter (is_legal town) arcs)

abbrev pub heads_of : Town → List ℕ → List (ℕ × ℕ)
heads_of town arcs = keyed_by (head_of town) (filter (is_legal town) arcs)
