-- Laws of what the marks of arcs say of the demands of a street.
use Rattle.std.proofs.Common.{◌≡◌, ℕ, ◌+◌, ◌*◌, ◌<◌, Bool, true, false, ◌&&◌, ◌||◌, ◌==◌, List, [], ◌∷◌, length, get_or, ap, refl, sym, ◌∙◌, subst, arith}
use Rattle.std.proofs.Math.Bool.{and-true, or-false}
use Rattle.std.proofs.lemmas.Bool.{false≢true}
use Rattle.std.specs.List.{list_all}
use Rattle.wrp_town.specs.declared.street.Step.{Step}
use Rattle.wrp_town.specs.declared.street.Need.{Need}
use Rattle.wrp_town.specs.declared.street.Need.TheVariants.{No, Either, Forward, Backward, Both}
use Rattle.wrp_town.specs.Streets.{demands_at}
use Rattle.wrp_town.specs.Arcs.{arc_of}
use Rattle.wrp_town.specs.Walks.{serves}
use Rattle.wrp_check.specs.Marks.{drives, MarkArcs}

or_swap : (a b c d : Bool) → ((a || b) || (c || d)) ≡ ((a || c) || (b || d))
or_swap true b c d = refl
or_swap false true true d = refl
or_swap false true false d = refl
or_swap false false true d = refl
or_swap false false false d = refl

pub serves-one : (steps : List Step) (arc : ℕ) → serves steps (arc ∷ []) ≡ drives steps arc
serves-one [] arc = refl
serves-one (step ∷ steps) arc = ap (λ b. b || serves steps (arc ∷ [])) (or-false (arc_of step == arc)) ∙ ap (λ b. (arc_of step == arc) || b) (serves-one steps arc)

pub serves-two : (steps : List Step) (a b : ℕ) → serves steps (a ∷ b ∷ []) ≡ (drives steps a || drives steps b)
serves-two [] a b = refl
serves-two (step ∷ steps) a b =
    ap (λ x. ((arc_of step == a) || x) || serves steps (a ∷ b ∷ [])) (or-false (arc_of step == b))
    ∙ ap (λ x. ((arc_of step == a) || (arc_of step == b)) || x) (serves-two steps a b)
    ∙ or_swap (arc_of step == a) (arc_of step == b) (drives steps a) (drives steps b)

-- what the marks of the two arcs of a street say of its demands
abbrev pub meets : Need → Bool → Bool → Bool
meets No forward backward = true
meets Either forward backward = forward || backward
meets Forward forward backward = forward
meets Backward forward backward = backward
meets Both forward backward = forward && backward

driven_meets : (steps : List Step) (street : ℕ) (need : Need) → list_all (serves steps) (demands_at street need) ≡ meets need (drives steps (2 * street)) (drives steps (2 * street + 1))
driven_meets steps street No = refl
driven_meets steps street Either = and-true _ ∙ serves-two steps (2 * street) (2 * street + 1)
driven_meets steps street Forward = and-true _ ∙ serves-one steps (2 * street)
driven_meets steps street Backward = and-true _ ∙ serves-one steps (2 * street + 1)
driven_meets steps street Both =
    ap (λ b. serves steps (2 * street ∷ []) && b) (and-true _)
    ∙ ap (λ b. b && serves steps ((2 * street + 1) ∷ [])) (serves-one steps (2 * street))
    ∙ ap (λ b. drives steps (2 * street) && b) (serves-one steps (2 * street + 1))

pub marked_meets : (used : List Bool) (steps : List Step) (street : ℕ) (need : Need) → MarkArcs used steps → 2 * street + 1 < length used → meets need (get_or used (2 * street) false) (get_or used (2 * street + 1) false) ≡ list_all (serves steps) (demands_at street need)
marked_meets used steps street need marks room =
    ap (λ b. meets need b (get_or used (2 * street + 1) false)) (marks (2 * street) (omega arith))
    ∙ ap (λ b. meets need (drives steps (2 * street)) b) (marks (2 * street + 1) room)
    ∙ sym (driven_meets steps street need)

first_of : (a b x : Bool) → a ≡ true → (a || b) ≡ x → a ≡ x
first_of true b x is same = same
first_of false b x is same = absurd (false≢true is)

second_of : (a b x : Bool) → a ≡ false → (a || b) ≡ x → b ≡ x
second_of false b x is same = same
second_of true b x is same = absurd (false≢true (sym is))

-- a demand of either direction, where the first is marked and where it isn't
pub either-first : (used : List Bool) (steps : List Step) (street : ℕ) (need : Need) → need ≡ Either → MarkArcs used steps → 2 * street + 1 < length used → get_or used (2 * street) false ≡ true → get_or used (2 * street) false ≡ list_all (serves steps) (demands_at street need)
either-first used steps street need is marks room marked =
    subst (λ n. get_or used (2 * street) false ≡ list_all (serves steps) (demands_at street n)) (sym is)
    (first_of (get_or used (2 * street) false) (get_or used (2 * street + 1) false) _ marked (marked_meets used steps street Either marks room))

pub either-second : (used : List Bool) (steps : List Step) (street : ℕ) (need : Need) → need ≡ Either → MarkArcs used steps → 2 * street + 1 < length used → get_or used (2 * street) false ≡ false → get_or used (2 * street + 1) false ≡ list_all (serves steps) (demands_at street need)
either-second used steps street need is marks room unmarked =
    subst (λ n. get_or used (2 * street + 1) false ≡ list_all (serves steps) (demands_at street n)) (sym is)
    (second_of (get_or used (2 * street) false) (get_or used (2 * street + 1) false) _ unmarked (marked_meets used steps street Either marks room))
