use Rattle.std.proofs.Common.{refl, arith}
use Rattle.wrp_minodd.proofs.pairs.keep.Goals as goal

pub returns-then-value-least_of : goal.returns-then-value-least_of
returns-then-value-least_of c = record { records = refl; lighter = λ less. (_, refl, refl, refl, refl); heavier = λ most. absurd (omega (arith, c.least_of.ensures)) }
