-- What the need of a street says of one of its two arcs.
use Rattle.std.specs.Prelude.{Bool, true, false, not, ◌&&◌, if◌then◌else◌}
use Rattle.wrp_town.specs.declared.street.Need.{Need}
use Rattle.wrp_town.specs.declared.street.Need.TheVariants.{No, Either, Forward, Backward, Both}

-- the forward arc, or else the backward one, is in a demand
abbrev pub is_needed : Need → Bool → Bool
is_needed No forward = false
is_needed Either forward = true
is_needed Forward forward = forward
is_needed Backward forward = not forward
is_needed Both forward = true

-- it is the first of a demand none of whose arcs is legal, where these directions are closed
abbrev pub is_lost : Need → Bool → Bool → Bool → Bool
is_lost No forward forward_closed backward_closed = false
is_lost Either forward forward_closed backward_closed =
    forward && (forward_closed && backward_closed)
is_lost Forward forward forward_closed backward_closed = forward && forward_closed
is_lost Backward forward forward_closed backward_closed = not forward && backward_closed
is_lost Both forward forward_closed backward_closed =
    if forward then forward_closed else backward_closed
