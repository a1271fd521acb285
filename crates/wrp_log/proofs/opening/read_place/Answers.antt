use Rattle.std.proofs.Common.{rules, ◌≡◌, sym, ◌∙◌, Err}
use Rattle.wrp_log.proofs.Adding.{if_some_map}
use Rattle.wrp_log.proofs.Appended.{told_both}
use Rattle.wrp_log.proofs.Reading.{not_a_log, place_walked, fault_walked}
use Rattle.wrp_log.proofs.opening.read_place.Goals as goal

-- src/opening.rt:28:33
pub returns-in_err-count-in-Some-clause-place : goal.returns-in_err-count-in-Some-clause-place
returns-in_err-count-in-Some-clause-place g c =
    let told = (g.D.Disk.meaning c.args.disk.now).told in
    let walked = rw c.read.ensures.looks.told at c.in_err-count-in-Some.ensures.walked in
    let is : c.from_residual-in_err-count-in-Some.result ≡ Err c.in_err-count-in-Some.field-0.0 = search rules in
    rw is (if_some_map told (λ bytes h.
    fault_walked bytes c.args.total h.0.1 c.requires.long c.in-Some.version c.in_err-count-in-Some.field-0.0 (sym c.in-Some.is ∙ c.version_in.ensures.is bytes (sym h.0.0)) (rw c.limit_of.ensures at h.1))
    (told_both _ _ told (told_both _ _ told c.in_ok-got.ensures.bytes c.requires.all) walked))

-- src/opening.rt:14:1
pub returns-in_ok-count-in-Some-clause-place : goal.returns-in_ok-count-in-Some-clause-place
returns-in_ok-count-in-Some-clause-place g c =
    let told = (g.D.Disk.meaning c.args.disk.now).told in
    let walked = rw c.read.ensures.looks.told at c.in_ok-count-in-Some.ensures.walked in
    if_some_map told (λ bytes h.
    place_walked bytes c.args.total h.0.1 c.requires.long c.in-Some.version _ (sym c.in-Some.is ∙ c.version_in.ensures.is bytes (sym h.0.0))
    (rw c.limit_of.ensures at h.1))
    (told_both _ _ told (told_both _ _ told c.in_ok-got.ensures.bytes c.requires.all) walked)

-- src/opening.rt:14:1
pub returns-in-None-clause-place : goal.returns-in-None-clause-place
returns-in-None-clause-place g c =
    let told = (g.D.Disk.meaning c.args.disk.now).told in
    if_some_map told (λ bytes h. not_a_log bytes c.args.total h.1 c.requires.long (sym c.in-None.is ∙ c.version_in.ensures.is bytes (sym h.0)))
    (told_both _ _ told c.in_ok-got.ensures.bytes c.requires.all)
