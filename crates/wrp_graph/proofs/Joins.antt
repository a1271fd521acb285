-- Laws of joined junctions: they are joined through others and both ways, and what arcs carry over holds of all of them.
use Rattle.std.proofs.Common.{◌≡◌, ℕ, ◌*◌, ◌<◌, Bool, true, length}
use Rattle.wrp_town.specs.declared.town.Town.{Town}
use Rattle.wrp_town.specs.Arcs.{tail_of, head_of}
use Rattle.wrp_graph.specs.Pieces.{Joined}
use Rattle.wrp_graph.specs.Pieces.Joined.{here, along, against}

pub joined_trans : (town : Town) (taken : ℕ → Bool) (c a b : ℕ) → Joined town taken a b → Joined town taken b c → Joined town taken a c
joined_trans town taken c a b (here j) second = second
joined_trans town taken c a b (along arc k below is rest) second = along arc c below is (joined_trans town taken c _ _ rest second)
joined_trans town taken c a b (against arc k below is rest) second = against arc c below is (joined_trans town taken c _ _ rest second)

pub joined_turned : (town : Town) (taken : ℕ → Bool) (a b : ℕ) → Joined town taken a b → Joined town taken b a
joined_turned town taken a b (here j) = here j
joined_turned town taken a b (along arc k below is rest) =
    joined_trans town taken _ _ _ (joined_turned town taken _ _ rest) (against arc _ below is (here _))
joined_turned town taken a b (against arc k below is rest) =
    joined_trans town taken _ _ _ (joined_turned town taken _ _ rest) (along arc _ below is (here _))

-- what each arc that is taken carries over in both directions holds of all that is joined
pub joined_keeps : (P : ℕ → Type 0) (town : Town) (taken : ℕ → Bool)
    → ((arc : ℕ) → arc < 2 * length town.streets → taken arc ≡ true → P (tail_of town arc) → P (head_of town arc))
    → ((arc : ℕ) → arc < 2 * length town.streets → taken arc ≡ true → P (head_of town arc) → P (tail_of town arc))
    → (a b : ℕ) → Joined town taken a b → P a → P b
joined_keeps P town taken on back a b (here j) first = first
joined_keeps P town taken on back a b (along arc k below is rest) first = joined_keeps P town taken on back _ _ rest (on arc below is first)
joined_keeps P town taken on back a b (against arc k below is rest) first = joined_keeps P town taken on back _ _ rest (back arc below is first)
