-- The answers: a tour is there exactly where the town isn't split.
use Rattle.std.proofs.Common.{◌≡◌, ℕ, ◌*◌, ◌<◌, ◌==◌, true, List, [], length, get_or, replicate, refl, sym, ap, ◌∙◌, subst, arith}
use Rattle.std.specs.Prelude.{slice_index, slice_set, ◌↔◌}
use Rattle.std.specs.List.{filter, range_with_len, list_all}
use Rattle.std.proofs.lemmas.Bool.{false≢true, and_from}
use Rattle.std.proofs.lemmas.List.{get_or_default, nil_from_length}
use Rattle.wrp_town.specs.declared.town.Town.{Town}
use Rattle.wrp_town.specs.Arcs.{is_required, tail_of, junctions, demands}
use Rattle.wrp_town.specs.Walks.{HasNoTour, serves, serves_all}
use Rattle.wrp_town.proofs.TownLaws.{tail_of-below}
use Rattle.wrp_rules.specs.declared.record.Record.{Record}
use Rattle.wrp_rules.specs.declared.record.Record.TheVariants.{Labels}
use Rattle.wrp_reach.specs.declared.reach.Reach.{Reach}
use Rattle.wrp_reach.specs.declared.reach.Reach.TheVariants.{Joined, Split}
use Rattle.wrp_reach.specs.Answers.{IsJoined, IsSplit, IsReach, is_split}
use Rattle.wrp_reach.specs.Reaching.{is_held}
use Rattle.wrp_reach.specs.Components.{AreComponents}
use Rattle.wrp_reach.specs.Outside.{HasOutside, HasNoneOutside}
use Rattle.wrp_reach.proofs.Demands.{some_demand, required_there}
use Rattle.wrp_reach.proofs.Joint.{joined_by}
use Rattle.wrp_reach.proofs.Parted.{split_by}

pub exactly : (town : Town) (reach : Reach) → IsReach town reach → (is_split reach ≡ true) ↔ HasNoTour town
exactly town (Joined part) is = (λ split. absurd (false≢true split), λ none. absurd (none is.tour is.serves))
exactly town (Split item) is = (λ split. is.no_tour, λ none. refl)

-- the base, its arc and its first end
module _ (town lent : Town) (same : lent ≡ town) (base : ℕ) (required : is_required lent base ≡ true) where
  required_here : is_required town base ≡ true
  required_here = subst (λ t. is_required t base ≡ true) same required

  pub base_below : base < length town.streets
  base_below = required_there town base required_here

  pub base_there : 2 * base < 2 * length lent.streets
  base_there = omega (arith, base_below, ap (λ t. length t.streets) same)

  module _ (count : ℕ) (labels : List ℕ) (are : AreComponents town count labels) (at home : ℕ) (at_is : at ≡ tail_of lent (2 * base)) (read : home ≡ get_or labels at home) where
    at_here : at ≡ tail_of town (2 * base)
    at_here = at_is ∙ ap (λ t. tail_of t (2 * base)) same

    pub at_below : at < length labels
    at_below = omega (arith, are.each, at_here, tail_of-below town (2 * base) (omega (arith, base_below)))

    home_is : home ≡ slice_index labels (tail_of town (2 * base))
    home_is = read ∙ sym (get_or_default labels at 0 home at_below) ∙ ap (slice_index labels) at_here

    pub home_below : home < count
    home_below = omega (arith, home_is, are.below (tail_of town (2 * base)) (tail_of-below town (2 * base) (omega (arith, base_below))))

    pub joined_here : (lent_labels : List ℕ) (part : List ℕ) → lent_labels ≡ labels → HasNoneOutside lent lent_labels home → part ≡ filter (λ j. slice_index lent_labels j == home) (range_with_len 0 (length lent_labels)) → IsJoined town part
    joined_here lent_labels part lent_is none is =
        let tail = tail_of town (2 * base) in
        joined_by town count labels are tail (tail_of-below town (2 * base) (omega (arith, base_below))) part
        (is ∙ ap (λ (ls : List ℕ). filter (λ j. slice_index ls j == home) (range_with_len 0 (length ls))) lent_is ∙ ap (λ (n : ℕ). filter (λ j. slice_index labels j == home) (range_with_len 0 n)) are.each ∙ ap (λ (h : ℕ). filter (λ j. slice_index labels j == h) (junctions town)) home_is)
        (some_demand town base required_here)
        (subst (λ (h : ℕ). HasNoneOutside town labels h) home_is (subst (λ t. HasNoneOutside t labels home) same (subst (λ (ls : List ℕ). HasNoneOutside lent ls home) lent_is none)))

    pub split_here : (lent_labels : List ℕ) (street : ℕ) (item : Record) → lent_labels ≡ labels → HasOutside lent lent_labels home street → item ≡ Labels labels (slice_set (replicate count base) home street) → IsSplit town item
    split_here lent_labels street item lent_is outside is =
        split_by town count labels are base street required_here home home_is home_below (subst (λ t. HasOutside t labels home street) same (subst (λ (ls : List ℕ). HasOutside lent ls home street) lent_is outside)) item is

-- where there is no demand, no step has to be made
pub joined_without : (town lent : Town) (part : List ℕ) → lent ≡ town → length (demands lent) ≡ 0 → part ≡ [] → IsJoined town part
joined_without town lent part same none empty =
    let nothing : demands town ≡ [] = nil_from_length (demands town) (ap (λ t. length (demands t)) (sym same) ∙ none) in
    record {
      tour = [];
      serves = and_from true (serves_all town []) refl (ap (list_all (serves [])) nothing);
      held = ap (list_all (is_held town part)) nothing;
      component = λ some. absurd (omega (arith, ap length nothing));
      none = λ _. empty;
    }
