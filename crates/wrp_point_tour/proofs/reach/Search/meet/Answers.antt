use Rattle.std.proofs.Common.{◌≡◌, ℕ, List, [], ◌∷◌, false, true, set, sym, ◌∙◌, subst}
use Rattle.std.proofs.lemmas.List.{get_or_read}
use Rattle.wrp_point_tour.specs.Counts.{is_marked}
use Rattle.wrp_point_tour.specs.Search.{IsVisit}
use Rattle.wrp_point_tour.proofs.Visits.{visit_new}
use Rattle.wrp_point_tour.proofs.reach.Search.meet.Goals as goal

pub returns : goal.returns
returns c =
    let marks = c.args.self.now.marks.items in
    let stack = c.args.self.now.stack.items in
    let none : is_marked marks c.args.j ≡ false = sym (get_or_read marks c.args.j c.index.result.now c.requires c.index.ensures false) ∙ c.if-index.false in
    subst (λ (s : List ℕ). IsVisit (c.args.j ∷ []) marks stack (set marks c.args.j true) s) (sym c.in_ok-push.ensures.items) (visit_new c.args.j marks stack c.requires none)
