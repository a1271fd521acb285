use Rattle.std.proofs.Common.{Bool, ◌||◌, ap, sym, ◌∙◌, arith}
use Rattle.wrp_rules.specs.Rows.{is_held}
use Rattle.wrp_pool.proofs.Ranges.{any_more}
use Rattle.wrp_pool.proofs.chain.mark_holders.Goals as goal

pub loop-street-preserved : goal.loop-street-preserved
loop-street-preserved c =
    let town = c.args.town.now in
    let of = c.args.of.now in
    let street = c.loop-street.street in
    let more = c.mark_holder.ensures in
    record {
      long = more.long ∙ c.loop-street.invariant.long;
      marks = record {
        marks = λ i below.
            more.marks i (omega (arith, below, more.long))
            ∙ ap (λ (t : Bool). t || is_held town of i street) (c.loop-street.invariant.marks.marks i (omega (arith, below, more.long)))
            ∙ sym (any_more (is_held town of i) street);
      };
    }
