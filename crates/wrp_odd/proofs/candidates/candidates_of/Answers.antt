use Rattle.std.proofs.Common.{◌∷◌, []}
use Rattle.wrp_rules.specs.declared.record.Record.TheVariants.{Odd}
use Rattle.wrp_odd.proofs.candidates.candidates_of.Goals as goal

pub loop-eighth-preserved : goal.loop-eighth-preserved
loop-eighth-preserved c = record {
  parents = c.join_streets.ensures;
  found = c.in_ok-add_classes.ensures.found;
  single = λ j below odd breaks. c.in_ok-add_classes.ensures.kept (Odd (j ∷ [])) (c.loop-eighth.invariant.single j below odd breaks);
}
