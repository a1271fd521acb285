use Rattle.std.proofs.Common.{◌≡◌, take}
use Rattle.std.specs.List.{flat_map}
use Rattle.std.specs.Option.{option_to_list}
use Rattle.wrp_conn.proofs.shrunk.streets_in.Given as goal

-- the streets so far
abbrev pub invariant-loop-street : goal.invariant-loop-street
invariant-loop-street l = l.all.items ≡ flat_map option_to_list (take l.street-index l.streets)
