use Rattle.std.proofs.Common.{rules, ◌≡◌, ◌+◌, ◌*◌, ◌≤◌, refl, sym, subst}
use Rattle.std.specs.Prelude.{⊤}
use Rattle.wrp_town.specs.declared.town.Town.{Town}
use Rattle.wrp_rules.specs.Nodes.{done}
use Rattle.wrp_engine.specs.Searches.{search_of, now}
use Rattle.wrp_engine.specs.Found.{FindsSince}
use Rattle.wrp_engine.specs.Forced.{above_done}
use Rattle.wrp_engine.proofs.Adding.{adds_none}
use Rattle.wrp_engine.proofs.Advancing.{same}
use Rattle.wrp_engine.proofs.Forcing.{forced_by, ends_optimal}
use Rattle.wrp_engine.proofs.Working.{found_spent}
use Rattle.wrp_engine.proofs.searching.search.Goals as goal

pub returns-clause-found : goal.returns-clause-found
returns-clause-found g c =
    let before : c.done-before.result ≡ done (now c.args.keep.now) = search rules in
    let finds : FindsSince c.done-before.result c.work.new.keep.town c.work.new.keep.records c.found.result = search rules in
    found_spent c.args.budget c.args.keep.now c.work.new.keep c.done-before.result c.found.result before c.in_ok-work.ensures.worked finds

pub returns-clause-forced : goal.returns-clause-forced
returns-clause-forced g c =
    let m = g.D.Disk.meaning in
    forced_by c.args.budget (search_of c.args.keep.now (m c.args.disk.now)) (search_of c.work.new.keep (m c.work.new.disk)) c.in_ok-work.ensures.leaves.0 c.in_ok-work.ensures.adds

pub returns-in_err-work-clause-forced : goal.returns-in_err-work-clause-forced
returns-in_err-work-clause-forced g c =
    let m = g.D.Disk.meaning in
    forced_by c.args.budget (search_of c.args.keep.now (m c.args.disk.now)) (search_of c.work.new.keep (m c.work.new.disk)) c.in_err-work.ensures.leaves.0 c.in_err-work.ensures.adds

pub returns-in_err-parts-clause-forced : goal.returns-in_err-parts-clause-forced
returns-in_err-parts-clause-forced g c =
    let s = search_of c.args.keep.now (g.D.Disk.meaning c.args.disk.now) in
    forced_by c.args.budget s s (same s c.requires.going.valid) (adds_none (λ _. ⊤) (4 * c.args.budget + 1) (2 * c.args.budget + 1) c.args.keep.now c.args.keep.now refl)

pub returns-clause-ends : goal.returns-clause-ends
returns-clause-ends g c enough =
    let before : c.done-before.result ≡ done (now c.args.keep.now) = search rules in
    let finds : FindsSince c.done-before.result c.work.new.keep.town c.work.new.keep.records c.found.result = search rules in
    let town = c.in_ok-work.ensures.leaves.0.town in
    ends_optimal c.args.budget c.args.keep.now c.work.new.keep c.found.result c.in_ok-work.ensures.leaves.1.valid
    (found_spent c.args.budget c.args.keep.now c.work.new.keep c.done-before.result c.found.result before c.in_ok-work.ensures.worked finds)
    (subst (λ (t : Town). above_done t ≤ c.args.budget) (sym town) enough)
