-- The records that lines spell, worked out.
use Rattle.std.specs.Prelude.{codes}
use Rattle.std.proofs.Common.{◌≡◌, true, false, [], ◌∷◌, None, Some, refl}
use Rattle.wrp_rules.specs.declared.record.Record.TheVariants.{Bound}
use Rattle.wrp_grammar.specs.Shapes.{has_shape}
use Rattle.wrp_grammar.specs.Spelling.{spelled}

-- the record that a line spells
pub bound_is_spelled : spelled (codes "b 0 2 1:1 3:5") ≡ Some (Bound 0 2 ((1, 1) ∷ (3, 5) ∷ []))
unfolding spelled
bound_is_spelled = refl

-- a number with a leading 0 keeps the shape, and spells no record
pub leading_zero_spells_none : (has_shape (codes "b 0 1 3:03 4:4") ≡ true) × (spelled (codes "b 0 1 3:03 4:4") ≡ None)
unfolding spelled
leading_zero_spells_none = (refl, refl)

pub cost_with_zero_spells_none : (has_shape (codes "t 05 0+ 0-") ≡ true) × (spelled (codes "t 05 0+ 0-") ≡ None)
unfolding spelled
cost_with_zero_spells_none = (refl, refl)

-- two spaces aren't the shape of a line
pub two_spaces_have_no_shape : (has_shape (codes "t  5") ≡ false) × (spelled (codes "t  5") ≡ None)
unfolding spelled
two_spaces_have_no_shape = (refl, refl)
