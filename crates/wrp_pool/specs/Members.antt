-- A set of junctions among so many.
use Rattle.std.specs.Prelude.{ℕ, List, ◌∷◌, [], ◌++◌}

-- the junctions are those below `among`
pub record Members : Type 0 where
  pub among : ℕ
  pub set : List ℕ

-- no junction
abbrev pub none_of : ℕ → Members
none_of count = record { among = count; set = [] }

-- one junction more
abbrev pub with_member : Members → ℕ → Members
with_member members junction =
    record { among = members.among; set = members.set ++ junction ∷ [] }
