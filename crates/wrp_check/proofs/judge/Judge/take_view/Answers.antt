use Rattle.std.proofs.Common.{IfOk, subst}
use Rattle.wrp_town.specs.declared.town.Town.{Town}
use Rattle.wrp_rules.specs.declared.record.Record.TheVariants.{Odd, Apart}
use Rattle.wrp_check.specs.Judging.{Tries}
use Rattle.wrp_check.proofs.judge.Judge.take_view.Goals as goal

pub returns-in-Odd-clause-tries : goal.returns-in-Odd-clause-tries
returns-in-Odd-clause-tries c =
    rw c.in-Odd.is
    (subst (λ (t : Town). IfOk c.take_odd.result (λ broken. Tries t (Odd c.in-Odd.set) broken c.args.self.now.kept c.take_odd.new.kept)) c.requires.ready.1.graph c.take_odd.ensures.tries)

pub returns-in-Kc-clause-tries : goal.returns-in-Kc-clause-tries
returns-in-Kc-clause-tries c = rw c.in-Kc.is c.take_kc.ensures.tries

pub returns-in-Apart-clause-tries : goal.returns-in-Apart-clause-tries
returns-in-Apart-clause-tries c =
    rw c.in-Apart.is
    (subst (λ (t : Town). IfOk c.take_apart.result (λ broken. Tries t (Apart c.in-Apart.node c.in-Apart.r1 c.in-Apart.r2 c.in-Apart.set) broken c.args.self.now.kept c.take_apart.new.kept)) c.requires.ready.1.graph c.take_apart.ensures.tries)

pub returns-in-Point-clause-tries : goal.returns-in-Point-clause-tries
returns-in-Point-clause-tries c = rw c.in-Point.is c.take_point.ensures.tries
