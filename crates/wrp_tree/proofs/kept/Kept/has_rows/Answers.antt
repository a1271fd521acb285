use Rattle.std.proofs.Common.{ℕ, ap, ◌∙◌}
use Rattle.std.specs.Prelude.{nat_lt}
use Rattle.std.specs.List.{list_all}
use Rattle.wrp_tree.proofs.Keeping.{rows_long}
use Rattle.wrp_tree.proofs.kept.Kept.has_rows.Goals as goal

pub returns : goal.returns
returns c = λ town s is.
    c.are_below.ensures ∙ ap (λ (n : ℕ). list_all (λ q. nat_lt q.0 n) c.args.mult.now) (c.len.ensures.value ∙ rows_long town s c.args.self.now is)
