use Rattle.std.proofs.Common.{◌≡◌, Err, sym, subst}
use Rattle.wrp_keep.specs.Keeps.{KeepState}
use Rattle.wrp_engine.specs.Searches.{search_of, Advances}
use Rattle.wrp_engine.specs.declared.fault.SearchFault.TheVariants.{Memory}
use Rattle.wrp_engine.proofs.Advancing.{same, leaves_then}
use Rattle.wrp_engine.proofs.Staging.{staged_on}
use Rattle.wrp_engine.proofs.offer.stage_alone.Goals as goal
use Rattle.wrp_engine.proofs.offer.stage_alone.Goals.{in-Ok, in-Err-Memory}

pub returns-clause-leaves : goal.returns-clause-leaves
returns-clause-leaves g c =
    let disk = g.D.Disk.meaning c.settle.new.disk in
    let mid = search_of c.settle.new.keep disk in
    let first = c.in_ok-settle.ensures.leaves in
    leaves_then (search_of c.args.keep.now (g.D.Disk.meaning c.args.disk.now)) mid (search_of c.stage.new.self disk) c.match-stage.result first.0
    (elim c.match-stage.branch [
      | in-Ok w ↦ rw w.result-is (staged_on c.settle.new.keep disk c.args.item first.1 c.requires.writable w.in-Ok.ensures.judged.0 c.stage.new.self w.in-Ok.ensures.staged w.in-Ok.ensures.acknowledged)
      | in-Err-Memory w ↦
          let fails : c.match-stage.result ≡ Err Memory = w.result-is in
          rw fails (subst (λ (k : KeepState). Advances mid (search_of k disk)) (sym w.in-Err-Memory.ensures.kept) (same mid first.1.valid), record {})
    ])
