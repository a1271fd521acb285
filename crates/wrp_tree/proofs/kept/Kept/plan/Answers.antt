use Rattle.std.proofs.Common.{Option, Err, length, ap, sym, subst, ◌∙◌}
use Rattle.std.specs.Prelude.{nat_le}
use Rattle.std.proofs.lemmas.Bool.{and_parts}
use Rattle.wrp_rules.specs.Contents.{has_number_rules}
use Rattle.wrp_rules.specs.Lines.{line_of}
use Rattle.wrp_rules.specs.Proofs.{version_2}
use Rattle.wrp_rows.specs.Pools.{HasPrepared}
use Rattle.wrp_tree.specs.declared.kept.Kept.{Kept}
use Rattle.wrp_tree.specs.declared.plan.Plan.{Plan}
use Rattle.wrp_rules.specs.declared.rule.Rule.{Rule}
use Rattle.wrp_tree.specs.Plans.{Refuses, IsHalvable, IsFor}
use Rattle.wrp_tree.proofs.Keeping.{kept_sound}
use Rattle.wrp_tree.proofs.Made.{not_alone, of_kind, kept_index, planned_split, row_is_made}
use Rattle.wrp_tree.proofs.kept.Kept.plan.Goals as goal

pub returns-then-not-admits-clause-refused : goal.returns-then-not-admits-clause-refused
returns-then-not-admits-clause-refused c = λ s is.
    let town = c.args.town.now in
    let item = c.args.item.now in
    let numbers = (and_parts (has_number_rules item) (nat_le (length (line_of item)) version_2.limit) c.requires.writable).0 in
    let dropped = kept_index town s c.args.self.now c.drop_children.new.self is (c.drop_children.ensures.indexed town s.nodes s.upper is.index) in
    not_alone town s item numbers (sym (c.admits.ensures town s dropped) ∙ c.if-not-admits.true)

pub judge-requires-clause-alone : goal.judge-requires-clause-alone
judge-requires-clause-alone c = c.drop_children.ensures.alone (kept_sound c.args.town.now c.requires.kept.0 c.args.self.now c.requires.kept.1)

pub returns-in-Err-clause-refused : goal.returns-in-Err-clause-refused
returns-in-Err-clause-refused c = λ s is.
    let town = c.args.town.now in
    let item = c.args.item.now in
    let numbers = (and_parts (has_number_rules item) (nat_le (length (line_of item)) version_2.limit) c.requires.writable).0 in
    let dropped = kept_index town s c.args.self.now c.drop_children.new.self is (c.drop_children.ensures.indexed town s.nodes s.upper is.index) in
    let alone = sym (c.admits.ensures town s dropped) ∙ c.if-not-admits.false in
    subst (λ (broken : Option Rule). Refuses {X = Plan} broken (Err c.in-Err.fault)) (sym (of_kind town s item numbers alone)) (c.in-Err.ensures.refused s dropped)

pub make_room-requires-clause-sound : goal.make_room-requires-clause-sound
make_room-requires-clause-sound c =
    let s = c.requires.kept.0 in
    let is = c.requires.kept.1 in
    let town = c.args.town.now in
    let item = c.args.item.now in
    let numbers = (and_parts (has_number_rules item) (nat_le (length (line_of item)) version_2.limit) c.requires.writable).0 in
    let dropped = kept_index town s c.args.self.now c.drop_children.new.self is (c.drop_children.ensures.indexed town s.nodes s.upper is.index) in
    let alone = sym (c.admits.ensures town s dropped) ∙ c.if-not-admits.false in
    let judged = c.in-Ok.ensures.kept s dropped in
    let kind = c.in-Ok.ensures.refused s dropped in
    let planned = c.in-Ok.ensures.planned s dropped in
    let split = planned_split town s c.judge.new.self item judged kind in
    kept_sound town s c.judge.new.self judged

pub make_room-requires-clause-alone : goal.make_room-requires-clause-alone
make_room-requires-clause-alone c =
    ap (λ (k : Kept). length k.index.nodes) c.in-Ok.ensures.same ∙ c.drop_children.ensures.alone (kept_sound c.args.town.now c.requires.kept.0 c.args.self.now c.requires.kept.1) ∙ sym (ap (λ (k : Kept). k.index.count) c.in-Ok.ensures.same)

pub make_room-requires-clause-halves : goal.make_room-requires-clause-halves
make_room-requires-clause-halves c =
    let s = c.requires.kept.0 in
    let is = c.requires.kept.1 in
    let town = c.args.town.now in
    let item = c.args.item.now in
    let numbers = (and_parts (has_number_rules item) (nat_le (length (line_of item)) version_2.limit) c.requires.writable).0 in
    let dropped = kept_index town s c.args.self.now c.drop_children.new.self is (c.drop_children.ensures.indexed town s.nodes s.upper is.index) in
    let alone = sym (c.admits.ensures town s dropped) ∙ c.if-not-admits.false in
    let judged = c.in-Ok.ensures.kept s dropped in
    let kind = c.in-Ok.ensures.refused s dropped in
    let planned = c.in-Ok.ensures.planned s dropped in
    let split = planned_split town s c.judge.new.self item judged kind in
    subst (λ (p : Plan). IsHalvable p c.judge.new.self.index) (sym planned.plan_is) split.0

pub returns-in_err-make_room-in-Ok-clause-kept : goal.returns-in_err-make_room-in-Ok-clause-kept
returns-in_err-make_room-in-Ok-clause-kept c = λ s is.
    let town = c.args.town.now in
    let item = c.args.item.now in
    let numbers = (and_parts (has_number_rules item) (nat_le (length (line_of item)) version_2.limit) c.requires.writable).0 in
    let dropped = kept_index town s c.args.self.now c.drop_children.new.self is (c.drop_children.ensures.indexed town s.nodes s.upper is.index) in
    let alone = sym (c.admits.ensures town s dropped) ∙ c.if-not-admits.false in
    let judged = c.in-Ok.ensures.kept s dropped in
    let kind = c.in-Ok.ensures.refused s dropped in
    let planned = c.in-Ok.ensures.planned s dropped in
    let split = planned_split town s c.judge.new.self item judged kind in
    c.in_err-make_room-in-Ok.ensures.kept town s judged (subst (IsFor town s) (sym planned.plan_is) split.1)

pub returns-in_ok-make_room-in-Ok-clause-kept : goal.returns-in_ok-make_room-in-Ok-clause-kept
returns-in_ok-make_room-in-Ok-clause-kept c = λ s is.
    let town = c.args.town.now in
    let item = c.args.item.now in
    let numbers = (and_parts (has_number_rules item) (nat_le (length (line_of item)) version_2.limit) c.requires.writable).0 in
    let dropped = kept_index town s c.args.self.now c.drop_children.new.self is (c.drop_children.ensures.indexed town s.nodes s.upper is.index) in
    let alone = sym (c.admits.ensures town s dropped) ∙ c.if-not-admits.false in
    let judged = c.in-Ok.ensures.kept s dropped in
    let kind = c.in-Ok.ensures.refused s dropped in
    let planned = c.in-Ok.ensures.planned s dropped in
    let split = planned_split town s c.judge.new.self item judged kind in
    c.in_ok-make_room-in-Ok.ensures.kept town s judged (subst (IsFor town s) (sym planned.plan_is) split.1)

pub returns-in_ok-make_room-in-Ok-clause-refused : goal.returns-in_ok-make_room-in-Ok-clause-refused
returns-in_ok-make_room-in-Ok-clause-refused c = λ s is.
    let town = c.args.town.now in
    let item = c.args.item.now in
    let numbers = (and_parts (has_number_rules item) (nat_le (length (line_of item)) version_2.limit) c.requires.writable).0 in
    let dropped = kept_index town s c.args.self.now c.drop_children.new.self is (c.drop_children.ensures.indexed town s.nodes s.upper is.index) in
    let alone = sym (c.admits.ensures town s dropped) ∙ c.if-not-admits.false in
    let judged = c.in-Ok.ensures.kept s dropped in
    let kind = c.in-Ok.ensures.refused s dropped in
    let planned = c.in-Ok.ensures.planned s dropped in
    let split = planned_split town s c.judge.new.self item judged kind in
    of_kind town s item numbers alone ∙ kind

pub returns-in_ok-make_room-in-Ok-clause-ready : goal.returns-in_ok-make_room-in-Ok-clause-ready
returns-in_ok-make_room-in-Ok-clause-ready c = λ s is.
    let town = c.args.town.now in
    let item = c.args.item.now in
    let numbers = (and_parts (has_number_rules item) (nat_le (length (line_of item)) version_2.limit) c.requires.writable).0 in
    let dropped = kept_index town s c.args.self.now c.drop_children.new.self is (c.drop_children.ensures.indexed town s.nodes s.upper is.index) in
    let alone = sym (c.admits.ensures town s dropped) ∙ c.if-not-admits.false in
    let judged = c.in-Ok.ensures.kept s dropped in
    let kind = c.in-Ok.ensures.refused s dropped in
    let planned = c.in-Ok.ensures.planned s dropped in
    let split = planned_split town s c.judge.new.self item judged kind in
    let for = subst (IsFor town s) (sym planned.plan_is) split.1 in
    record {
      kept_is = c.in_ok-make_room-in-Ok.ensures.kept town s judged for;
      valid = of_kind town s item numbers alone ∙ kind;
      plan_is = planned.plan_is;
      room = c.in_ok-make_room-in-Ok.ensures.room town s judged for (row_is_made town s item c.in-Ok.plan c.judge.new.self planned);
      row = λ cut. subst (HasPrepared s item) (sym c.in_ok-make_room-in-Ok.ensures.same) (planned.row cut);
    }
