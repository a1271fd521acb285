-- Records of cuts that keep their rules, but for the room for one more cut.
use Rattle.std.specs.Prelude.{◌≡◌, Bool, true, false, not, List, None}
use Rattle.std.specs.List.{filter}
use Rattle.wrp_town.specs.declared.town.Town.{Town}
use Rattle.wrp_rules.specs.declared.record.Record.{Record}
use Rattle.wrp_rules.specs.declared.rule.Rule.{Rule}
use Rattle.wrp_rules.specs.declared.rule.Rule.TheVariants as rules
use Rattle.wrp_rules.specs.Nodes.{Standing}
use Rattle.wrp_rules.specs.Rules.{first_broken, rules_of}
use Rattle.wrp_writer.specs.Limits.{is_writable}

-- the rule that there is room for one more cut
abbrev pub is_room : Rule → Bool
is_room rules.Cuts = true
is_room rule = false

-- the other rules of a record's kind, and whether they are kept
abbrev pub conditions_of : Town → Standing → Record → List (Rule × Bool)
conditions_of town s item = filter (λ q. not (is_room q.0)) (rules_of town s item)

-- the record may be written, and keeps these rules after what stands
pub record IsValidCut (town : Town) (s : Standing) (item : Record) : Type 0 where
  pub writable : is_writable item ≡ true
  pub kept : first_broken (conditions_of town s item) ≡ None
