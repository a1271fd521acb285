-- The kinds of records and of ends.
use Rattle.std.specs.Prelude.{Bool, true, false, not}
use Rattle.wrp_rules.specs.declared.layout.Kind.{Kind}
use Rattle.wrp_rules.specs.declared.layout.Kind.TheVariants.{Optimal, Infeasible, Unfinished}

abbrev pub is_end_kind : Kind → Bool
is_end_kind Optimal = true
is_end_kind Infeasible = true
is_end_kind Unfinished = true
is_end_kind kind = false

abbrev pub is_record_kind : Kind → Bool
is_record_kind kind = not (is_end_kind kind)
