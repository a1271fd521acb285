-- How many bytes were taken from a source, over several calls in a row.
use Rattle.std.proofs.Common.{◌≡◌, ◌+◌, ◌≤◌, [], ◌++◌, arith, length-append}
use Rattle.wrp_out.specs.Outside.{Input, TookAtMost}
use Rattle.wrp_out.proofs.OutsideFacts.{took_nothing, took_then}
use Rattle.wrp_rules.specs.Proofs.{most_bytes}
use Rattle.wrp_check.specs.Streams.{Buffered, Draws, HasDrawn, drawn}

-- the reader drew no byte
pub draws_nothing : (old new : Buffered) (source : Input) → drawn new ≡ drawn old → drawn new ≤ most_bytes + 1 → Draws old new source source
draws_nothing old new source kept most = record { piece = []; took = took_nothing source; counted = omega (arith, kept); most = most }

-- the reader drew bytes, and then some more
pub draws_then : {old now new : Buffered} {before mid after : Input} → Draws old now before mid → Draws now new mid after → Draws old new before after
draws_then {old} {now} {new} one two = record {
  piece = one.piece ++ two.piece;
  took = took_then one.took two.took;
  counted = omega (arith, one.counted, two.counted, length-append one.piece two.piece);
  most = two.most;
}

-- the reader drew bytes, and then none
pub draws_kept : {old now : Buffered} {before after : Input} (new : Buffered) → Draws old now before after → drawn new ≡ drawn now → Draws old new before after
draws_kept {old} {now} {before} {after} new one same =
    draws_then one (draws_nothing now new after same (omega (arith, same, one.most)))

-- a reader that had drawn nothing has drawn all since the first byte
pub drawn_first : {old new : Buffered} {first now : Input} → drawn old ≡ 0 → Draws old new first now → HasDrawn new first now
drawn_first {old} {new} none all = record { piece = all.piece; took = all.took; counted = omega (arith, none, all.counted); most = all.most }

pub drawn_then : {old new : Buffered} {first before after : Input} → HasDrawn old first before → Draws old new before after → HasDrawn new first after
drawn_then {old} {new} one two = record {
  piece = one.piece ++ two.piece;
  took = took_then one.took two.took;
  counted = omega (arith, one.counted, two.counted, length-append one.piece two.piece);
  most = two.most;
}

-- all that was drawn is at most one byte more than a proof may have
pub drawn_at_most : {lines : Buffered} {first now : Input} → HasDrawn lines first now → TookAtMost (most_bytes + 1) first now
drawn_at_most {lines} all = record { piece = all.piece; took = all.took; few = omega (arith, all.counted, all.most) }
