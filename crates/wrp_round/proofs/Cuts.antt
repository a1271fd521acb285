-- Broken cuts of each kind.
use Rattle.std.proofs.Common.{List, [], ◌++◌, ap, sym, ◌∙◌, subst, append_assoc}
use Rattle.std.specs.Prelude.{IfSome}
use Rattle.std.specs.Option.{option_to_list}
use Rattle.std.proofs.lemmas.List.{append-nil}
use Rattle.wrp_town.specs.declared.town.Town.{Town}
use Rattle.wrp_rules.specs.declared.record.Record.{Record}
use Rattle.wrp_rules.specs.Rows.{Row, base_rows, row_of}
use Rattle.wrp_rules.specs.Nodes.{Standing, start, after}
use Rattle.wrp_rows.specs.declared.point.Point.{Point}
use Rattle.wrp_odd.specs.Points.{Breaks}
use Rattle.wrp_odd.specs.Found.{IsBrokenOddCut}
use Rattle.wrp_round.specs.Broken.{IsBrokenRounding}
use Rattle.wrp_round.specs.OddForms.{HasBaseRows, IsBrokenCut, IsOddCut}

pub rounding_cut : (town : Town) (s : Standing) (point : Point) (item : Record) → IsBrokenRounding town s point item → IsBrokenCut town s point item
rounding_cut town s point item b =
    record { valid = b.valid; broken = subst (λ (r : Record). IfSome (row_of town s.rows r) (Breaks town point)) (sym b.round) b.broken }

pub odd_cut_broken : (town : Town) (s : Standing) (point : Point) (item : Record) → IsBrokenOddCut town point item → IsBrokenCut town s point item
odd_cut_broken town s point item b =
    record { valid = b.valid s; broken = subst (λ (r : Record). IfSome (row_of town s.rows r) (Breaks town point)) (sym b.odd) b.broken }

pub odd_cut_of : (town : Town) (point : Point) (item : Record) → IsBrokenOddCut town point item → IsOddCut town item
odd_cut_of town point item b = record { set = b.set; odd = b.odd; valid = b.valid }

pub base_at_start : (town : Town) → HasBaseRows town (start town)
base_at_start town = record { others = []; rows = sym (append-nil (base_rows town)) }

pub base_after : (town : Town) (s : Standing) (item : Record) → HasBaseRows town s → HasBaseRows town (after town s item)
base_after town s item base = record {
  others = base.others ++ option_to_list (row_of town s.rows item);
  rows = ap (λ (rows : List Row). rows ++ option_to_list (row_of town s.rows item)) base.rows ∙ append_assoc (base_rows town) base.others (option_to_list (row_of town s.rows item));
}
