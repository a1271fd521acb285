use Rattle.std.proofs.Common.{ℕ, ◌+◌, ◌*◌, ◌&&◌, [], ◌∷◌, ◌∙◌, sym, ap, subst}
use Rattle.wrp_town.specs.Arcs.{is_legal}
use Rattle.wrp_town.proofs.Members.{inside_head, inside_tail}
use Rattle.wrp_reach.specs.Reaching.{lies_within}
use Rattle.wrp_tour.specs.Plain.{AreHeld, IsNear}
use Rattle.wrp_tour.proofs.Rounds.{near_by, near_one, near_other}
use Rattle.wrp_tour.proofs.plain.Round.serve_street.Goals as goal

pub drive-requires-clause-arc : goal.drive-requires-clause-arc
drive-requires-clause-arc c =
    let town = c.args.graph.now in
    let part = c.args.part.now in
    let forward : ℕ = 2 * c.args.street in
    near_by town part c.args.self.now.base forward c.requires.home (ap (λ t. is_legal t forward && lies_within t part forward) (sym c.town.ensures) ∙ sym c.is_within.ensures ∙ c.if-is_within.true)

pub drive-requires-else-is_within-clause-arc : goal.drive-requires-else-is_within-clause-arc
drive-requires-else-is_within-clause-arc c =
    let town = c.args.graph.now in
    let part = c.args.part.now in
    let forward : ℕ = 2 * c.args.street in
    let none = ap (λ t. is_legal t forward && lies_within t part forward) (sym c.town.ensures) ∙ sym c.is_within.ensures ∙ c.if-is_within.false in
    let held = subst (λ n. AreHeld town part c.args.street n) c.in-Either.is c.requires.held in
    near_other town part c.args.self.now.base forward (forward + 1) c.requires.home (held (forward ∷ (forward + 1) ∷ []) (inside_head (forward ∷ (forward + 1) ∷ []) [])) none

pub drive-requires-in-Forward-clause-arc : goal.drive-requires-in-Forward-clause-arc
drive-requires-in-Forward-clause-arc c =
    let held = subst (λ n. AreHeld c.args.graph.now c.args.part.now c.args.street n) c.in-Forward.is c.requires.held in
    let arc : ℕ = 2 * c.args.street in
    near_one c.args.graph.now c.args.part.now c.args.self.now.base arc c.requires.home (held (arc ∷ []) (inside_head (arc ∷ []) []))

pub drive-requires-in-Backward-clause-arc : goal.drive-requires-in-Backward-clause-arc
drive-requires-in-Backward-clause-arc c =
    let held = subst (λ n. AreHeld c.args.graph.now c.args.part.now c.args.street n) c.in-Backward.is c.requires.held in
    let arc : ℕ = 2 * c.args.street + 1 in
    near_one c.args.graph.now c.args.part.now c.args.self.now.base arc c.requires.home (held (arc ∷ []) (inside_head (arc ∷ []) []))

pub drive-requires-in-Both-clause-arc : goal.drive-requires-in-Both-clause-arc
drive-requires-in-Both-clause-arc c =
    let held = subst (λ n. AreHeld c.args.graph.now c.args.part.now c.args.street n) c.in-Both.is c.requires.held in
    let arc : ℕ = 2 * c.args.street in
    near_one c.args.graph.now c.args.part.now c.args.self.now.base arc c.requires.home (held (arc ∷ []) (inside_head (arc ∷ []) (((arc + 1) ∷ []) ∷ [])))

pub drive-requires-in-Both-2-clause-arc : goal.drive-requires-in-Both-2-clause-arc
drive-requires-in-Both-2-clause-arc c =
    let held = subst (λ n. AreHeld c.args.graph.now c.args.part.now c.args.street n) c.in-Both.is c.requires.held in
    let arc : ℕ = 2 * c.args.street + 1 in
    subst (λ b. IsNear c.args.graph.now b arc) (sym c.in_ok-drive-in-Both.ensures.on.base)
    (near_one c.args.graph.now c.args.part.now c.args.self.now.base arc c.requires.home (held (arc ∷ []) (inside_tail ((2 * c.args.street) ∷ []) ((arc ∷ []) ∷ []) (arc ∷ []) (inside_head (arc ∷ []) []))))
