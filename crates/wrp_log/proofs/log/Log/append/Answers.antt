use Rattle.std.proofs.Common.{◌≡◌, ◌∙◌, ◌++◌, [], ◌∷◌, List, ℕ, Some, refl, ap}
use Rattle.wrp_disk.specs.Disks.{EachImage}
use Rattle.wrp_log.specs.Payloads.{list_of, IsWritten}
use Rattle.wrp_log.specs.Logs.{IsBlock, IsAt, added_to}
use Rattle.wrp_log.specs.contracts.log.Log.{the_view}
use Rattle.wrp_log.proofs.Appended.{no_gap, stands_at, any_moment, untouched, list_after, on_after, added_at}
use Rattle.wrp_log.proofs.log.Log.append.Goals as goal

-- src/log.rt:77:13
pub returns-then-length-limit-clause-any_moment : goal.returns-then-length-limit-clause-any_moment
returns-then-length-limit-clause-any_moment g c =
    untouched c.args.self.now (g.D.Disk.meaning c.args.disk.now) (g.met.D.Disk.lawful c.args.disk.now) c.requires.begun c.requires.on c.args.payload.now

-- src/log.rt:80:15
pub add_block-requires-clause-no_gap : goal.add_block-requires-clause-no_gap
add_block-requires-clause-no_gap g c =
    rw (← c.self.view_is) at (no_gap c.args.self.now (g.D.Disk.meaning c.args.disk.now) (g.met.D.Disk.lawful c.args.disk.now) c.requires.begun c.requires.on)

-- src/log.rt:49:5
pub returns-in-Ok-clause-any_moment : goal.returns-in-Ok-clause-any_moment
returns-in-Ok-clause-any_moment g c =
    let disk = g.D.Disk.meaning c.args.disk.now in
    let lawful = g.met.D.Disk.lawful c.args.disk.now in
    let begun = rw (← c.self.view_is) at c.requires.begun in
    let on = rw (← c.self.view_is) at c.requires.on in
    let block : IsBlock c.self.inside.version c.args.payload.now c.deref.result.now = record { is = c.deref.ensures.value ∙ c.fill_block.ensures.is; fits = rw (← c.self.view_is) at c.requires.fits } in
    any_moment _ disk lawful begun on c.args.payload.now (g.D.Disk.meaning c.add_block.new.disk) (λ bytes is at.
    c.add_block.ensures.any_moment c.self.inside.version (list_of bytes) c.args.payload.now (stands_at _ disk lawful begun on bytes is at) block)

-- src/log.rt:49:5
pub returns-in-Err-clause-any_moment : goal.returns-in-Err-clause-any_moment
returns-in-Err-clause-any_moment g c =
    let disk = g.D.Disk.meaning c.args.disk.now in
    let lawful = g.met.D.Disk.lawful c.args.disk.now in
    let begun = rw (← c.self.view_is) at c.requires.begun in
    let on = rw (← c.self.view_is) at c.requires.on in
    let block : IsBlock c.self.inside.version c.args.payload.now c.deref.result.now = record { is = c.deref.ensures.value ∙ c.fill_block.ensures.is; fits = rw (← c.self.view_is) at c.requires.fits } in
    any_moment _ disk lawful begun on c.args.payload.now (g.D.Disk.meaning c.add_block.new.disk) (λ bytes is at.
    c.add_block.ensures.any_moment c.self.inside.version (list_of bytes) c.args.payload.now (stands_at _ disk lawful begun on bytes is at) block)

pub returns-in-Ok-clause-added : goal.returns-in-Ok-clause-added
returns-in-Ok-clause-added g c =
    let log = the_view c.self.inside in
    let disk = g.D.Disk.meaning c.args.disk.now in
    let new = g.D.Disk.meaning c.add_block.new.disk in
    let lawful = g.met.D.Disk.lawful c.args.disk.now in
    let lawful_new = g.met.D.Disk.lawful c.add_block.new.disk in
    let begun = rw (← c.self.view_is) at c.requires.begun in
    let on = rw (← c.self.view_is) at c.requires.on in
    let payload = c.args.payload.now in
    let lasts = c.add_block.ensures.lasts in
    let block : IsBlock c.self.inside.version payload c.deref.result.now = record { is = c.deref.ensures.value ∙ c.fill_block.ensures.is; fits = rw (← c.self.view_is) at c.requires.fits } in
    let grown : List (List ℕ) → List (List ℕ) = λ payloads. payloads ++ payload ∷ [] in
    let written : (bytes : List ℕ) → disk.told ≡ Some bytes → IsAt log (list_of bytes) disk → EachImage (IsWritten log.version (grown (list_of bytes))) new =
    λ bytes is at. c.in-Ok.ensures.added c.self.inside.version (list_of bytes) payload (stands_at log disk lawful begun on bytes is at) block in
    record {
      log = ap (added_to payload) c.self.view_is;
      on = on_after log (added_to payload log) disk new lawful_new lasts on grown written refl (added_at log payload disk new begun);
      list = list_after log (added_to payload log) disk new lawful_new lasts on grown written;
    }
