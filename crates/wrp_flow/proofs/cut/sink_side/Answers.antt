use Rattle.std.proofs.Common.{List, Option, sym, ap, ◌∙◌}
use Rattle.std.specs.Prelude.{not}
use Rattle.wrp_rules.specs.Sets.{is_in}
use Rattle.wrp_webs.specs.Webs.{outside}
use Rattle.wrp_flow.specs.declared.reach.Mark.{Mark}
use Rattle.wrp_flow.specs.Searches.{is_marked}
use Rattle.wrp_flow.proofs.Cuts.{source_apart, listed_leaving, listed, is_side, is_turned_at, sink_cut}
use Rattle.wrp_flow.proofs.cut.sink_side.Goals as goal

pub returns-clause-set : goal.returns-clause-set
returns-clause-set c =
    let net = c.args.net.now in
    let marks = c.search.new.self.marks.items in
    let turned = is_turned_at net c.as_slice.result.now c.in_ok-room.room.items c.args.found.room.items c.as_slice-2.result.now (sym c.as_slice.ensures.value) c.as_slice-2.ensures.value c.in_ok-room.ensures in
    let apart = source_apart net c.args.s c.args.t c.args.found.room.items c.as_slice-2.result.now c.args.found.reach.marks.items marks turned c.requires.grown.reached c.requires.grown.closed c.requires.grown.leaves_out c.in_ok-search.ensures.reached in
    is_side net c.args.t c.args.s (is_marked c.as_slice-3.result.now) c.in_ok-set.set c.requires.poles.sink c.requires.poles.source c.in_ok-set.ensures.items c.in_ok-set.ensures.ascends
    (ap (λ (ms : List (Option Mark)). is_marked ms c.args.t) c.as_slice-3.ensures.value ∙ c.in_ok-search.ensures.reached.begun) (ap (λ (ms : List (Option Mark)). is_marked ms c.args.s) c.as_slice-3.ensures.value ∙ apart)

pub returns-clause-worth : goal.returns-clause-worth
returns-clause-worth c =
    let net = c.args.net.now in
    let marks = c.search.new.self.marks.items in
    let turned = is_turned_at net c.as_slice.result.now c.in_ok-room.room.items c.args.found.room.items c.as_slice-2.result.now (sym c.as_slice.ensures.value) c.as_slice-2.ensures.value c.in_ok-room.ensures in
    let apart = source_apart net c.args.s c.args.t c.args.found.room.items c.as_slice-2.result.now c.args.found.reach.marks.items marks turned c.requires.grown.reached c.requires.grown.closed c.requires.grown.leaves_out c.in_ok-search.ensures.reached in
    listed_leaving net c.requires.net (outside (is_marked marks)) (outside (is_in c.in_ok-set.set))
    (λ j below. ap not (listed (is_marked c.as_slice-3.result.now) net.nodes c.in_ok-set.set c.in_ok-set.ensures.items j below ∙ ap (λ (ms : List (Option Mark)). is_marked ms j) c.as_slice-3.ensures.value))
    ∙ sink_cut net c.requires.net c.args.s c.args.t c.requires.poles c.args.found.value c.args.found.room.items c.as_slice-2.result.now marks c.requires.grown.residual turned c.in_ok-search.ensures.reached apart (c.in_ok-search.ensures.closed apart)
