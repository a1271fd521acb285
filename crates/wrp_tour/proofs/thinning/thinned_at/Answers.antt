use Rattle.std.proofs.Common.{List, ◌≡◌, ◌≤◌, ◌++◌, ◌∙◌, length, subst, sym, ap, take, drop}
use Rattle.wrp_town.specs.declared.street.Step.{Step}
use Rattle.wrp_town.specs.Arcs.{demands}
use Rattle.wrp_town.specs.Walks.{count_of}
use Rattle.wrp_tour.specs.Thinning.{IsTurned, IsKept, IsThinner, IsFirstUse}
use Rattle.wrp_tour.proofs.Pieces.{turned_begins, thinner_by, few_by}
use Rattle.wrp_tour.proofs.thinning.thinned_at.Goals as goal

pub kept_pieces-requires : goal.kept_pieces-requires
kept_pieces-requires c =
    let town = c.args.town.now in
    let turned = c.in_ok-turned-in-Some.turned.items in
    let first = subst (λ (xs : List Step). IsFirstUse xs c.args.arc c.in-Some.at) c.as_slice.ensures c.in-Some.ensures in
    let is : turned ≡ drop c.in-Some.at c.args.steps ++ take c.in-Some.at c.args.steps = c.in_ok-turned-in-Some.ensures ∙ ap (λ (xs : List Step). drop c.in-Some.at xs ++ take c.in-Some.at xs) c.as_slice-in-Some.ensures in
    subst (λ (xs : List Step). IsTurned town c.args.arc xs) (sym c.deref.ensures.value) (turned_begins town c.args.arc c.in-Some.at c.args.steps turned c.requires first is)

pub returns-in_ok-kept_pieces-in-Some : goal.returns-in_ok-kept_pieces-in-Some
returns-in_ok-kept_pieces-in-Some c =
    let town = c.args.town.now in
    let arc = c.args.arc in
    let turned = c.in_ok-turned-in-Some.turned.items in
    let kept = c.in_ok-kept_pieces-in-Some.field-0.items in
    let is : turned ≡ drop c.in-Some.at c.args.steps ++ take c.in-Some.at c.args.steps = c.in_ok-turned-in-Some.ensures ∙ ap (λ (xs : List Step). drop c.in-Some.at xs ++ take c.in-Some.at xs) c.as_slice-in-Some.ensures in
    let k : IsKept town arc turned (length turned) kept = subst (λ (xs : List Step). IsKept town arc xs (length xs) kept) c.deref.ensures.value c.in_ok-kept_pieces-in-Some.ensures in
    record {
      thinner = subst (λ (xs : List Step). IsThinner town c.args.steps xs) (sym c.from_vec.ensures) (thinner_by town arc c.in-Some.at c.args.steps turned kept c.requires is k);
      few = subst (λ (xs : List Step). count_of xs arc ≤ length (demands town)) (sym c.from_vec.ensures) (few_by town arc turned kept k);
    }
