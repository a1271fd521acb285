use Rattle.std.proofs.Common.{◌<◌, ◌≤◌, Vec, Global, length, ap, sym, subst, arith}
use Rattle.wrp_rules.specs.declared.record.Record.{Record}
use Rattle.wrp_rules.specs.declared.record.Record.TheVariants.{Odd}
use Rattle.wrp_minodd.specs.Looks.{AreBrokenOnce}
use Rattle.wrp_minodd.proofs.Noting.{noted, not_noted, added_broken, added_some}
use Rattle.wrp_minodd.proofs.pairs.note.Goals as goal
use Rattle.wrp_minodd.proofs.pairs.note.Goals.{then-is_broken+in_ok-set+in_ok-add_once, else-is_broken}

pub returns-clause-broken : goal.returns-clause-broken
returns-clause-broken c =
    let town = c.args.town.now in
    let point = c.args.point.now in
    elim c.if-is_broken.branch [
      | then-is_broken+in_ok-set+in_ok-add_once w ↦ subst (λ (v : Vec Record Global). AreBrokenOnce town point v.items) (sym w.records-is)
          (added_broken town point (Odd w.in_ok-set.set) c.args.records.now.items w.add_once.new.records.items c.requires.broken
          (noted town point c.args.labels.now c.in_ok-tallies.tallies.items c.requires.point c.in_ok-tallies.ensures.tallies c.requires.two c.index.result.now c.index.ensures c.requires.long w.in_ok-set.set w.in_ok-set.ensures c.denominator.result c.denominator.ensures.value (w.if-is_broken.ensures))
          w.in_ok-add_once.ensures)
      | else-is_broken w ↦ subst (λ (v : Vec Record Global). AreBrokenOnce town point v.items) (sym w.records-is) c.requires.broken
    ]

pub returns-clause-grown : goal.returns-clause-grown
returns-clause-grown c =
    elim c.if-is_broken.branch [
      | then-is_broken+in_ok-set+in_ok-add_once w ↦ subst (λ (v : Vec Record Global). length c.args.records.now.items ≤ length v.items) (sym w.records-is) (added_some (Odd w.in_ok-set.set) c.args.records.now.items w.add_once.new.records.items w.in_ok-add_once.ensures).0
      | else-is_broken w ↦ omega (arith, ap (λ (v : Vec Record Global). length v.items) w.records-is)
    ]

pub returns-clause-found : goal.returns-clause-found
returns-clause-found c =
    λ met odd light. elim c.if-is_broken.branch [
      | then-is_broken+in_ok-set+in_ok-add_once w ↦ subst (λ (v : Vec Record Global). 0 < length v.items) (sym w.records-is) (added_some (Odd w.in_ok-set.set) c.args.records.now.items w.add_once.new.records.items w.in_ok-add_once.ensures).1
      | else-is_broken w ↦ absurd (not_noted c.args.town.now c.args.point.now c.args.labels.now c.in_ok-tallies.tallies.items c.requires.point c.in_ok-tallies.ensures.tallies c.requires.two c.index.result.now c.index.ensures c.denominator.result c.denominator.ensures.value (w.if-is_broken.ensures) met odd light)
    ]
