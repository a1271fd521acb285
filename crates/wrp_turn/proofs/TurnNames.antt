-- The names in the turn town are names, and its arcs are few.
use Rattle.std.proofs.Common.{◌≡◌, ℕ, ◌*◌, ◌<◌, ◌≤◌, true, ◌++◌, ◌||◌, ◌==◌, not, List, length, get_or, refl, ap, subst, Contains, arith}
use Rattle.std.proofs.lemmas.Option.{slice_get-get_or}
use Rattle.std.proofs.lemmas.List.FromFn.{length-range_with_len}
use Rattle.std.proofs.lemmas.List.Sums.{length-filter, count_by-le-length, prefix_len-le-length}
use Rattle.wrp_town.specs.declared.town.Town.{Town}
use Rattle.wrp_town.specs.Arcs.{arcs, is_legal}
use Rattle.wrp_town.proofs.TownLaws.{few_streets}
use Rattle.wrp_town_laws.proofs.Lists.{inside_from_get}
use Rattle.std.specs.Prelude.{codes}
use Rattle.wrp_town.specs.Names.{is_name}
use Rattle.wrp_turn.specs.TurnTowns.{is_unservable, arcs_of, place_of, arc_text, turn_text, arc_limit}
use Rattle.wrp_turn.proofs.TurnTowns.{arc_is_text, end_name, two_texts_name, own_below}

pub before_named : (arc : ℕ) → arc < arc_limit → is_name (arc_text arc ++ codes "i") ≡ true
before_named arc small = end_name arc 105 small refl

pub behind_named : (arc : ℕ) → arc < arc_limit → is_name (arc_text arc ++ codes "o") ≡ true
behind_named arc small = end_name arc 111 small refl

pub turn_named : (first second : ℕ) → first < arc_limit → second < arc_limit → is_name (turn_text (first, second)) ≡ true
turn_named first second small small' = two_texts_name (arc_text first) (arc_text second) (arc_is_text first small) (arc_is_text second small')

-- the arcs with a street are few, and so is each place
pub few_own : (town : Town) (own : List ℕ) → own ≡ arcs_of town → length own ≤ arc_limit
few_own town own is =
    let p = λ (arc : ℕ). is_legal town arc || is_unservable town arc in
    omega (arith, ap length is, few_streets town, length-filter p (arcs town), count_by-le-length p (arcs town), length-range_with_len 0 (2 * length town.streets))

pub place_few : (town : Town) (arc : ℕ) → place_of town arc ≤ arc_limit
place_few town arc = omega (arith, few_own town (arcs_of town) refl, prefix_len-le-length (λ other. not (other == arc)) (arcs_of town))

-- each of them is an arc of the town
pub own_at : (town : Town) (own : List ℕ) (i d : ℕ) → own ≡ arcs_of town → i < length own → get_or own i d < 2 * length town.streets
own_at town own i d is inside = own_below town (get_or own i d) (subst (λ (xs : List ℕ). Contains xs (get_or own i d)) is (inside_from_get own i (get_or own i d) (slice_get-get_or own i d inside)))
