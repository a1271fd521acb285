use Rattle.std.proofs.Common.{◌≡◌, ◌-◌, false, List, Option, Some, None, length, ap, sym, ◌∙◌}
use Rattle.std.specs.Prelude.{slice_get}
use Rattle.std.specs.Option.{option_map_or}
use Rattle.std.specs.List.{last_or}
use Rattle.wrp_rules.specs.declared.record.Record.{Record}
use Rattle.wrp_rules.specs.Rules.{leads_to_split}
use Rattle.wrp_tree.proofs.Keeping.{last_get}
use Rattle.wrp_tree.proofs.kept.Kept.leads_to.Goals as goal

pub returns-in-Some : goal.returns-in-Some
returns-in-Some c = λ town s is.
    let last : last_or None s.records ≡ Some c.in-Some.item.now =
    ap (last_or None) is.records ∙ last_get c.args.self.now.records.items ∙ ap (λ (xs : List Record). slice_get xs (length xs - 1)) (sym c.deref.ensures.value) ∙ sym c.in-Some.ensures.value in
    c.leads_to.ensures ∙ sym (ap (λ (o : Option Record). option_map_or (leads_to_split c.args.split) o false) last)
