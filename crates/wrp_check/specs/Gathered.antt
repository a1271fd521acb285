-- The junctions of a line as a set.
use Rattle.std.specs.Prelude.{ℕ, List}
use Rattle.wrp_pool.specs.Members.{Members}

abbrev pub members_of : ℕ → List ℕ → Members
members_of among set = record { among = among; set = set }
