-- The streets of turns, added arc by arc.
use Rattle.std.proofs.Common.{◌≡◌, ℕ, ◌+◌, ◌<◌, true, false, List, ◌++◌, map, length, get_or, Contains, ap, sym, ◌∙◌, subst, arith}
use Rattle.std.proofs.lemmas.List.{append_assoc, map-append}
use Rattle.std.proofs.lemmas.Simd.{map-map}
use Rattle.std.proofs.lemmas.Option.{slice_get-get_or}
use Rattle.wrp_town.specs.declared.street.Street.{Street}
use Rattle.wrp_town.specs.declared.town.Town.{Town}
use Rattle.wrp_town.specs.Arcs.{is_legal, arcs, legal_arcs}
use Rattle.wrp_town.proofs.TownLaws.{few_streets, legal_below}
use Rattle.wrp_town_laws.proofs.Lists.{inside_from_get, from_filter}
use Rattle.wrp_turn.specs.Turns.{is_turn}
use Rattle.wrp_turn.specs.TurnTowns.{seconds_of, turns_from, turn_street, arc_limit}
use Rattle.wrp_turn.proofs.BanRows.{turns_below, turns_with, turns_without}

-- the arcs to which turns go are arcs
pub seconds_at : (town : Town) (bans : List (ℕ × ℕ)) (first : ℕ) (seconds : List ℕ) → seconds ≡ seconds_of town bans first → (k d : ℕ) → k < length seconds → get_or seconds k d < arc_limit
seconds_at town bans first seconds are k d inside =
    let arc = get_or seconds k d in
    let there = subst (λ (xs : List ℕ). Contains xs arc) are (inside_from_get seconds k arc (slice_get-get_or seconds k d inside)) in
    let legal = (from_filter (is_legal town) (arcs town) arc (from_filter (is_turn town bans first) (legal_arcs town) arc there).0).1 in
    omega (arith, legal_below town arc legal, few_streets town)

pub streets_with : (town same : Town) (bans : List (ℕ × ℕ)) (n : ℕ) (start old new : List Street) (seconds : List ℕ) → is_legal town n ≡ true → same ≡ town → seconds ≡ seconds_of same bans n
    → old ≡ start ++ map (turn_street town) (turns_below town bans n) → new ≡ old ++ map (λ second. turn_street town (n, second)) seconds
    → new ≡ start ++ map (turn_street town) (turns_below town bans (n + 1))
streets_with town same bans n start old new seconds legal is are before added =
    added
    ∙ (λ i. before i ++ map (λ second. turn_street town (n, second)) ((are ∙ ap (λ t. seconds_of t bans n) is) i))
    ∙ append_assoc start (map (turn_street town) (turns_below town bans n)) (map (λ second. turn_street town (n, second)) (seconds_of town bans n))
    ∙ ap (λ more. start ++ (map (turn_street town) (turns_below town bans n) ++ more)) (sym (map-map (turn_street town) (λ second. (n, second)) (seconds_of town bans n)))
    ∙ ap (λ all. start ++ all) (sym (map-append (turn_street town) (turns_below town bans n) (turns_from town bans n)))
    ∙ ap (λ turns. start ++ map (turn_street town) turns) (sym (turns_with town bans n legal))

pub streets_without : (town : Town) (bans : List (ℕ × ℕ)) (n : ℕ) (start old new : List Street) → is_legal town n ≡ false → old ≡ start ++ map (turn_street town) (turns_below town bans n) → new ≡ old
    → new ≡ start ++ map (turn_street town) (turns_below town bans (n + 1))
streets_without town bans n start old new illegal before stays =
    stays ∙ before ∙ ap (λ turns. start ++ map (turn_street town) turns) (sym (turns_without town bans n illegal))
