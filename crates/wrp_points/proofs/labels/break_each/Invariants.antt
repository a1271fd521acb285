use Rattle.std.proofs.Common.{◌≡◌, true, length, drop, get_or}
use Rattle.std.specs.List.{list_all}
use Rattle.wrp_rules.specs.Rules.{breaks_label, all_below}
use Rattle.wrp_points.proofs.labels.break_each.Given as goal

-- the labels that come are below, and decide
abbrev pub invariant-loop-label : goal.invariant-loop-label
invariant-loop-label l = record {
  below : all_below (length l.streets) (drop l.label-index l.labels) ≡ true;
  decide : list_all (λ label. breaks_label l.town l.labels label (get_or l.streets label 0)) (drop l.label-index l.labels)
      ≡ list_all (λ label. breaks_label l.town l.labels label (get_or l.streets label 0)) l.labels;
}
