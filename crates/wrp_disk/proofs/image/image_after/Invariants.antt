use Rattle.std.proofs.Common.{◌≡◌, take}
use Rattle.wrp_disk.specs.Changes.{bytes_after, image_of}
use Rattle.wrp_disk.specs.Memory.{changes_of}
use Rattle.wrp_disk.proofs.image.image_after.Given as goal

abbrev pub invariant-loop-change : goal.invariant-loop-change
invariant-loop-change l = record {
  bytes : l.bytes.items ≡ bytes_after l.first (changes_of (take l.change-index l.changes));
  image : l.image.items ≡ image_of l.choice l.first (changes_of (take l.change-index l.changes));
}
