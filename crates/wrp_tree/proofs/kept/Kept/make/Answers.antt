use Rattle.std.proofs.Common.{FitsSigned, rules, refl, sym, subst, ◌∙◌}
use Rattle.std.specs.Int.{w128}
use Rattle.std.proofs.lemmas.Int.{to_z-of_z}
use Rattle.wrp_tree.proofs.Made.{closes, has_open_node, tour_is_low, made_tour, made_bound, made_empty, made_apart, made_split, made_cut}
use Rattle.wrp_tree.proofs.kept.Kept.make.Goals as goal

pub raise-requires-clause-open : goal.raise-requires-clause-open
raise-requires-clause-open c =
    let ready = c.requires.2 in
    has_open_node c.requires.0 c.requires.1 c.args.self.now c.args.item.now c.in-Bound.node ready.kept_is ready.valid (subst (closes c.in-Bound.node) (sym c.in-Bound.is) refl)

pub split-requires-clause-open : goal.split-requires-clause-open
split-requires-clause-open c =
    let ready = c.requires.2 in
    has_open_node c.requires.0 c.requires.1 c.args.self.now c.args.item.now c.in-Split.node ready.kept_is ready.valid (subst (closes c.in-Split.node) (sym c.in-Split.is) refl)

pub close-requires-clause-open : goal.close-requires-clause-open
close-requires-clause-open c =
    let ready = c.requires.2 in
    has_open_node c.requires.0 c.requires.1 c.args.self.now c.args.item.now c.in-Empty.node ready.kept_is ready.valid (subst (closes c.in-Empty.node) (sym c.in-Empty.is) refl)

pub close-requires-in-Apart-clause-open : goal.close-requires-in-Apart-clause-open
close-requires-in-Apart-clause-open c =
    let ready = c.requires.2 in
    has_open_node c.requires.0 c.requires.1 c.args.self.now c.args.item.now c.in-Apart.node ready.kept_is ready.valid (subst (closes c.in-Apart.node) (sym c.in-Apart.is) refl)

pub returns-then-is_cut : goal.returns-then-is_cut
returns-then-is_cut c = λ town s ready.
    let cut = sym c.is_cut.ensures ∙ c.if-is_cut.true in
    made_cut town s c.args.item.now c.args.plan c.args.self.now _ ready refl cut c.commit_cut.ensures.value refl (c.commit_cut.ensures.rows s c.args.item.now cut ready.kept_is.rows (ready.row cut))

pub returns-in-Tour : goal.returns-in-Tour
returns-in-Tour c = λ town s ready.
    made_tour town s c.args.item.now c.args.plan c.args.self.now _ ready refl refl c.in-Tour.cost _ c.in-Tour.is
    (c.lower_upper.ensures town s.nodes s.upper ready.kept_is.index (tour_is_low town s c.args.item.now c.in-Tour.cost _ c.in-Tour.is ready.valid))

pub returns-in-Bound : goal.returns-in-Bound
returns-in-Bound c = λ town s ready.
    let fits : FitsSigned w128 c.bound.result = search rules in
    made_bound town s c.args.item.now c.args.plan c.args.self.now _ ready refl refl c.in-Bound.node _ _ c.in-Bound.is
    (rw (to_z-of_z w128 c.bound.result fits, c.bound.ensures) at (c.raise.ensures town s.nodes s.upper ready.kept_is.index))

pub returns-in-Empty : goal.returns-in-Empty
returns-in-Empty c = λ town s ready.
    made_empty town s c.args.item.now c.args.plan c.args.self.now _ ready refl refl c.in-Empty.node _ c.in-Empty.is (c.close.ensures town s.nodes s.upper ready.kept_is.index)

pub returns-in-Apart : goal.returns-in-Apart
returns-in-Apart c = λ town s ready.
    made_apart town s c.args.item.now c.args.plan c.args.self.now _ ready refl refl c.in-Apart.node _ _ _ c.in-Apart.is (c.close-in-Apart.ensures town s.nodes s.upper ready.kept_is.index)

pub returns-in-Split : goal.returns-in-Split
returns-in-Split c = λ town s ready.
    made_split town s c.args.item.now c.args.plan c.args.self.now _ ready refl refl c.in-Split.node _ _ c.in-Split.is (λ both. c.split.ensures town s.nodes s.upper _ _ ready.kept_is.index both)
