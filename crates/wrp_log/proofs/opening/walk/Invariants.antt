use Rattle.std.proofs.Common.{◌≡◌, ◌<◌, ◌≤◌, ◌+◌, ◌-◌, ℕ, List, length, drop, IfSome}
use Rattle.wrp_disk.specs.Disks.{Looks}
use Rattle.wrp_log.specs.Payloads.{gates, gate_after}
use Rattle.wrp_log.proofs.Gates.{before_others}
use Rattle.wrp_log.proofs.opening.walk.Given as goal

-- the payloads so far, before what is read from the gate on, are what is read from the first gate on
abbrev pub invariant-loop-got : goal.invariant-loop-got
invariant-loop-got g l = record {
  looks : Looks (g.D.Disk.meaning l.initial.disk) (g.D.Disk.meaning l.disk);
  gate : l.gate < l.total;
  count : l.count + 8 ≤ l.gate;
  walked : IfSome (g.D.Disk.meaning l.initial.disk).told (λ bytes. (payloads : List (List ℕ)) × (gates l.most 8 0 (drop 8 bytes) ≡ before_others payloads (gates l.most l.gate 0 (drop l.gate bytes)))
      × (l.count ≡ length payloads) × (l.gate ≡ gate_after payloads));
}

abbrev pub decreases-loop-got : goal.decreases-loop-got
decreases-loop-got g l = l.total - l.gate
