use Rattle.std.proofs.Common.{[], ◌∷◌, sym, ap, arith}
use Rattle.wrp_keep.specs.Keeps.{KeepState, keep_of}
use Rattle.wrp_keep.proofs.Joining.{joined_one}
use Rattle.wrp_keep.proofs.Holding.{held_more}
use Rattle.wrp_keep.proofs.Going.{keep_pushed, taken_more}
use Rattle.wrp_keep.proofs.keep.Keep.add.Goals as goal

pub returns-clause-held : goal.returns-clause-held
returns-clause-held g c = λ going.
    let tree = c.self.inside.tree in
    let keep = keep_of tree c.self.inside.acknowledged c.self.inside.log in
    let held = rw (← c.self.view_is) at c.requires.held in
    let none = rw (← c.self.view_is) at c.requires.none_staged in
    let is = keep_pushed tree c.prepare.new.self c.commit.new.self c.args.item c.self.inside.acknowledged c.self.inside.log c.prepare.ensures.kept c.commit.ensures in
    let records = ap (λ (k : KeepState). k.records) is in
    held_more keep _ (c.args.item ∷ []) _ (g.D.Disk.meaning c.args.disk.now) _ (ap (λ (k : KeepState). k.town) is)
    (taken_more tree.records c.commit.new.self.records c.records.result.now c.self.inside.acknowledged c.args.item c.records.ensures.value records none)
    (sym (joined_one c.args.item)) (omega arith) held c.in_ok-append_line.ensures.appends
