use Rattle.std.proofs.Common.{◌∙◌, refl, ap}
use Rattle.wrp_log.specs.Logs.{Place}
use Rattle.wrp_log.specs.contracts.log.Log.{the_view}
use Rattle.wrp_log.proofs.Appended.{list_after, on_after, upgraded_at, same_list}
use Rattle.wrp_log.proofs.Upgrading.{upgrade_moments, second_written}
use Rattle.wrp_log.proofs.log.Log.upgrade.Goals as goal

pub returns-in-Ok-clause-upgraded : goal.returns-in-Ok-clause-upgraded
returns-in-Ok-clause-upgraded g c =
    let log = the_view c.self.inside in
    let disk = g.D.Disk.meaning c.args.disk.now in
    let new = g.D.Disk.meaning c.write_version.new.disk in
    let lawful = g.met.D.Disk.lawful c.args.disk.now in
    let lawful_new = g.met.D.Disk.lawful c.write_version.new.disk in
    let begun = rw (← c.self.view_is) at c.requires.begun in
    let first = rw (← c.self.view_is) at c.requires.first_version in
    let on = rw (← c.self.view_is) at c.requires.on in
    let lasts = c.write_version.ensures.lasts in
    let written = second_written log disk new lawful begun first on c.in-Ok.ensures.written in
    record {
      log = ap (λ (l : Place). record l { version = 2 }) c.self.view_is;
      on = on_after log (record log { version = 2 }) disk new lawful_new lasts on (λ payloads. payloads) written refl (upgraded_at log disk new begun);
      list = list_after log (record log { version = 2 }) disk new lawful_new lasts on (λ payloads. payloads) written ∙ same_list _;
    }

pub returns-in-Ok-clause-any_moment : goal.returns-in-Ok-clause-any_moment
returns-in-Ok-clause-any_moment g c =
    upgrade_moments c.args.self.now (g.D.Disk.meaning c.args.disk.now) (g.D.Disk.meaning c.write_version.new.disk) (g.met.D.Disk.lawful c.args.disk.now)
    c.requires.begun c.requires.first_version c.requires.on c.write_version.ensures.any_moment

pub returns-in-Err-clause-any_moment : goal.returns-in-Err-clause-any_moment
returns-in-Err-clause-any_moment g c =
    upgrade_moments c.args.self.now (g.D.Disk.meaning c.args.disk.now) (g.D.Disk.meaning c.write_version.new.disk) (g.met.D.Disk.lawful c.args.disk.now)
    c.requires.begun c.requires.first_version c.requires.on c.write_version.ensures.any_moment
