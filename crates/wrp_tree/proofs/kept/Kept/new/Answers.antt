use Rattle.std.proofs.Common.{ap, refl, sym, ◌∙◌, length}
use Rattle.wrp_rows.specs.Pools.{RowPool}
use Rattle.wrp_tree.proofs.Keeping.{base_long}
use Rattle.wrp_tree.proofs.kept.Kept.new.Goals as goal

pub returns : goal.returns
returns c = record {
  records = sym c.new-2.ensures.items;
  rows_town = ap (λ (p : RowPool). p.town) c.in_ok-rows.ensures.value;
  rows = c.in_ok-rows.ensures.rows;
  index = c.in_ok-new.ensures c.args.town.now;
  base = c.len-base.ensures.value ∙ ap (λ (p : RowPool). length p.rows) c.in_ok-rows.ensures.value ∙ base_long c.args.town.now;
  blind = refl;
  labelled = refl;
}
