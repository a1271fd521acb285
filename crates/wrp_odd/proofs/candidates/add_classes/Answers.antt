use Rattle.std.proofs.Common.{Contains, filter, length, sym, subst, arith}
use Rattle.std.specs.List.{range_with_len}
use Rattle.wrp_graph.proofs.Rows.{row_there}
use Rattle.wrp_odd.specs.declared.found.Found.{Found}
use Rattle.wrp_odd.specs.Found.{IsFound}
use Rattle.wrp_webs.specs.Webs.{class}
use Rattle.wrp_webs.specs.Searching.{reading}
use Rattle.wrp_odd.proofs.ClassCuts.{ready_class}
use Rattle.wrp_odd.proofs.Finding.{found_on, kept_on}
use Rattle.wrp_odd.proofs.candidates.add_classes.Goals as goal
use Rattle.wrp_odd.proofs.candidates.add_classes.Goals.{then-is_broken+in_ok-add, else-is_broken}

pub bucket-requires : goal.bucket-requires
bucket-requires c =
    let labels = c.args.labels.now in
    row_there (length labels) (λ k. filter (class (reading labels) k) (range_with_len 0 (length labels))) c.in_ok-classes.classes c.loop-label.label c.in_ok-classes.ensures (omega arith)

pub add-requires-clause-some : goal.add-requires-clause-some
add-requires-clause-some c = (ready_class c.args.town.now c.args.point.now c.args.labels.now c.in_ok-tallies.tallies.items c.requires.point c.in_ok-tallies.ensures.tallies c.requires.long c.in_ok-classes.classes c.in_ok-classes.ensures c.loop-label.label (omega arith) c.bucket.result.now c.bucket.ensures c.index.result.now c.index.ensures c.denominator-den.result c.denominator-den.ensures.value (c.if-is_broken.ensures)).some

pub add-requires-clause-first : goal.add-requires-clause-first
add-requires-clause-first c =
    let ready = ready_class c.args.town.now c.args.point.now c.args.labels.now c.in_ok-tallies.tallies.items c.requires.point c.in_ok-tallies.ensures.tallies c.requires.long c.in_ok-classes.classes c.in_ok-classes.ensures c.loop-label.label (omega arith) c.bucket.result.now c.bucket.ensures c.index.result.now c.index.ensures c.denominator-den.result c.denominator-den.ensures.value (c.if-is_broken.ensures) in
    omega (arith, ready.first, c.loop-label.invariant.found.long)

pub add-requires-clause-few : goal.add-requires-clause-few
add-requires-clause-few c = (ready_class c.args.town.now c.args.point.now c.args.labels.now c.in_ok-tallies.tallies.items c.requires.point c.in_ok-tallies.ensures.tallies c.requires.long c.in_ok-classes.classes c.in_ok-classes.ensures c.loop-label.label (omega arith) c.bucket.result.now c.bucket.ensures c.index.result.now c.index.ensures c.denominator-den.result c.denominator-den.ensures.value (c.if-is_broken.ensures)).few

pub loop-label-preserved : goal.loop-label-preserved
loop-label-preserved c =
    elim c.if-is_broken.branch [
      | then-is_broken+in_ok-add w ↦ (
          let ready = ready_class c.args.town.now c.args.point.now c.args.labels.now c.in_ok-tallies.tallies.items c.requires.point c.in_ok-tallies.ensures.tallies c.requires.long c.in_ok-classes.classes c.in_ok-classes.ensures c.loop-label.label (omega arith) w.bucket.result.now w.bucket.ensures c.index.result.now c.index.ensures c.denominator-den.result c.denominator-den.ensures.value (w.if-is_broken.ensures) in
          record {
            found = subst (IsFound c.args.town.now c.args.point.now) (sym w.found-is) (found_on c.args.town.now c.args.point.now w.bucket.result.now c.loop-label.found w.add.new.self ready.cut ready.first c.loop-label.invariant.found w.in_ok-add.ensures);
            kept = λ item inside. subst (λ (found : Found). Contains found.records.items item) (sym w.found-is) (kept_on w.bucket.result.now c.loop-label.found w.add.new.self w.in_ok-add.ensures item (c.loop-label.invariant.kept item inside));
          })
      | else-is_broken w ↦ record {
        found = subst (IsFound c.args.town.now c.args.point.now) (sym w.found-is) c.loop-label.invariant.found;
        kept = λ item inside. subst (λ (found : Found). Contains found.records.items item) (sym w.found-is) (c.loop-label.invariant.kept item inside);
      }
    ]
