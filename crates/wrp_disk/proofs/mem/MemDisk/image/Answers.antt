use Rattle.std.proofs.Common.{◌≡◌, rules, sym, subst}
use Rattle.std.specs.Prelude.{IfOk}
use Rattle.std.proofs.lemmas.Result.{IfOk-weaker}
use Rattle.wrp_disk.specs.Changes.{IsImage, image_of}
use Rattle.wrp_disk.proofs.Kept.{image_is}
use Rattle.wrp_disk.proofs.mem.MemDisk.image.Goals as goal

pub returns-clause-image : goal.returns-clause-image
returns-clause-image c =
    let disk = c.args.self.now in
    let chosen : IfOk c.image_after.result (λ bytes. bytes.items ≡ image_of c.args.choice disk.first disk.changes) = search rules in
    IfOk-weaker c.image_after.result _ _ (λ bytes is. subst (IsImage disk.first disk.changes) (sym is) (image_is c.args.choice disk.first disk.changes)) chosen
