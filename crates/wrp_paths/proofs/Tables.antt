-- Laws of tables of walks: of an entry that is added, and of the walk that is read back.
use Rattle.std.proofs.Common.{◌≡◌, ℕ, zero, suc, ◌+◌, ◌<◌, ◌≤◌, true, false, not, cond, leb, List, [], ◌∷◌, ◌++◌, reverse, append_assoc, length, set, Option, Some, None, is_some, refl, sym, ap, ◌∙◌, ◌⊎◌, inl, inr, arith, get_or-set_same, get_or-set_other}
use Rattle.std.specs.Option.{option_map, option_map_or}
use Rattle.std.proofs.lemmas.Bool.{false≢true, leb-true, le-leb, cases_eq}
use Rattle.std.proofs.lemmas.List.{reverse-append}
use Rattle.std.proofs.lemmas.List.FromFn.{get_or-map-range_with_len, length-map-range_with_len}
use Rattle.std.proofs.lemmas.List.Sums.{sum_by-set}
use Rattle.std.proofs.lemmas.Option.{none-some, same_Some}
use Rattle.wrp_town.specs.declared.street.Step.{Step}
use Rattle.wrp_town.specs.declared.town.Town.{Town}
use Rattle.wrp_town.specs.Arcs.{step_along}
use Rattle.wrp_paths.specs.declared.arrival.Arrival.{Arrival}
use Rattle.wrp_paths.specs.Arrivals.{entry_at, steps_to, way_at, ways_of}
use Rattle.wrp_paths.specs.Distances.{way_to}
use Rattle.wrp_paths.specs.Search.{IsWalk, begins, goes_on, is_settled, unsettled}

-- ---- an entry that is added

pub none_there : (entry : Option Arrival) → is_some entry ≡ false → entry ≡ None
none_there None is = refl
none_there (Some walk) is = absurd (false≢true (sym is))

pub entry_at-added : (table : List (Option Arrival)) (j : ℕ) (new : Arrival) → j < length table → entry_at (set table j (Some new)) j ≡ Some new
entry_at-added table j new below = get_or-set_same table j (Some new) None below

-- other entries are kept
pub entry_at-kept : (table : List (Option Arrival)) (j k : ℕ) (new walk : Arrival) → entry_at table j ≡ None → entry_at table k ≡ Some walk → entry_at (set table j (Some new)) k ≡ Some walk
entry_at-kept table j k new walk fresh is =
    elim (cases_eq k j) [ inl same ↦ absurd (none-some walk (sym fresh ∙ ap (entry_at table) (sym same) ∙ is)) | inr differs ↦ get_or-set_other table j k (Some new) None differs ∙ is ]

-- and there are no more of them
pub entry_at-cases : (table : List (Option Arrival)) (j k : ℕ) (new walk : Arrival) → j < length table → entry_at (set table j (Some new)) k ≡ Some walk → ((k ≡ j) × (new ≡ walk)) ⊎ (entry_at table k ≡ Some walk)
entry_at-cases table j k new walk below is =
    elim (cases_eq k j) [
      | inl same ↦ inl (same, same_Some new walk (sym (entry_at-added table j new below) ∙ ap (entry_at (set table j (Some new))) (sym same) ∙ is))
      | inr differs ↦ inr (sym (get_or-set_other table j k (Some new) None differs) ∙ is)
    ]

-- one junction less isn't settled
pub unsettled-added : (table : List (Option Arrival)) (j : ℕ) (new : Arrival) → j < length table → entry_at table j ≡ None → unsettled (set table j (Some new)) + 1 ≡ unsettled table
unsettled-added table j new below fresh =
    let open_count : Option Arrival → ℕ = λ entry. cond (not (is_some entry)) 1 0 in
    omega (arith, sum_by-set open_count table j (Some new) None below, ap open_count fresh)

pub IsWalk-kept : (town : Town) (from : ℕ) (table : List (Option Arrival)) (j : ℕ) (new walk : Arrival) → entry_at table j ≡ None → IsWalk town from table walk → IsWalk town from (set table j (Some new)) walk
IsWalk-kept town from table j new walk fresh (begins at cost hops) = begins at cost hops
IsWalk-kept town from table j new walk fresh (goes_on earlier is legal tail along) = goes_on earlier (entry_at-kept table j walk.before new earlier fresh is) legal tail along

-- ---- what is settled at a cost

within-true : (entry : Option Arrival) (cost : ℕ) → option_map_or (λ walk. leb walk.cost cost) entry false ≡ true → (walk : Arrival) × (entry ≡ Some walk) × (walk.cost ≤ cost)
within-true None cost is = absurd (false≢true is)
within-true (Some walk) cost is = (walk, refl, leb-true _ _ is)

pub settled_walk : (table : List (Option Arrival)) (j cost : ℕ) → is_settled table j cost ≡ true → (walk : Arrival) × (entry_at table j ≡ Some walk) × (walk.cost ≤ cost)
settled_walk table j cost is = within-true (entry_at table j) cost is

pub is_settled-from : (table : List (Option Arrival)) (j cost : ℕ) (walk : Arrival) → entry_at table j ≡ Some walk → walk.cost ≤ cost → is_settled table j cost ≡ true
is_settled-from table j cost walk is at_most = rw is (le-leb walk.cost cost at_most)

pub is_settled-more : (table : List (Option Arrival)) (j low high : ℕ) → low ≤ high → is_settled table j low ≡ true → is_settled table j high ≡ true
is_settled-more table j low high le is = let w = settled_walk table j low is in is_settled-from table j high w.0 w.1 (omega (arith, w.2))

pub is_settled-kept : (table : List (Option Arrival)) (j k : ℕ) (new : Arrival) (cost : ℕ) → entry_at table j ≡ None → is_settled table k cost ≡ true → is_settled (set table j (Some new)) k cost ≡ true
is_settled-kept table j k new cost fresh is =
    let w = settled_walk table k cost is in is_settled-from (set table j (Some new)) k cost w.0 (entry_at-kept table j k new w.0 fresh w.1) w.2

-- ---- what a table says of a junction

pub length-ways_of : (table : List (Option Arrival)) → length (ways_of table) ≡ length table
length-ways_of table = length-map-range_with_len (way_at table) 0 (length table)

pub way_to-ways_of : (table : List (Option Arrival)) (j : ℕ) → j < length table → way_to (ways_of table) j ≡ way_at table j
way_to-ways_of table j below = get_or-map-range_with_len (way_at table) 0 (length table) j j None below (omega arith)

-- ---- a walk is read back from its last step

pub steps_to-more : (table : List (Option Arrival)) (hops j : ℕ) (walk : Arrival) → entry_at table j ≡ Some walk → steps_to table (suc hops) j ≡ steps_to table hops walk.before ++ step_along walk.arc ∷ []
steps_to-more table hops j walk is = ap (λ entry. option_map_or (λ w. steps_to table hops w.before ++ step_along w.arc ∷ []) entry []) is

steps_to-none : (table : List (Option Arrival)) (hops j : ℕ) → entry_at table j ≡ None → steps_to table hops j ≡ []
steps_to-none table zero j is = refl
steps_to-none table (suc hops) j is = ap (λ entry. option_map_or (λ w. steps_to table hops w.before ++ step_along w.arc ∷ []) entry []) is

-- the step that is read goes behind those that were read before it, which stand in reverse
pub read_step : (table : List (Option Arrival)) (left more at : ℕ) (walk : Arrival) (steps : List Step) → more ≡ suc left → entry_at table at ≡ Some walk → steps_to table left walk.before ++ reverse (steps ++ step_along walk.arc ∷ []) ≡ steps_to table more at ++ reverse steps
read_step table left more at walk steps is there =
    let first = steps_to table left walk.before in
    ap (λ l. first ++ l) (reverse-append steps (step_along walk.arc ∷ []))
    ∙ sym (append_assoc first (step_along walk.arc ∷ []) (reverse steps))
    ∙ ap (λ l. l ++ reverse steps) (sym (ap (λ n. steps_to table n at) is ∙ steps_to-more table left at walk there))

pub read_none : (table : List (Option Arrival)) (left more at : ℕ) → entry_at table at ≡ None → steps_to table left at ≡ steps_to table more at
read_none table left more at is = steps_to-none table left at is ∙ sym (steps_to-none table more at is)

-- ---- the answers on a junction

costs_alike : (table : List (Option Arrival)) (j : ℕ) (entry : Option Arrival) → option_map (λ walk. walk.cost) entry ≡ option_map {T = ℕ × List Step} (λ way. way.0) (option_map (λ walk. (walk.cost, steps_to table walk.hops j)) entry)
costs_alike table j None = refl
costs_alike table j (Some walk) = refl

-- the cost, of the ways as contracts see them
pub cost_there : (table : List (Option Arrival)) (ways : List (Option (ℕ × List Step))) (j : ℕ) → ways_of table ≡ ways → j < length ways → option_map (λ walk. walk.cost) (entry_at table j) ≡ option_map {T = ℕ × List Step} (λ way. way.0) (way_to ways j)
cost_there table ways j same below =
    let inside : j < length table = omega (arith, length-ways_of table, ap length same) in
    costs_alike table j (entry_at table j) ∙ ap (option_map {T = ℕ × List Step} (λ way. way.0)) (sym (way_to-ways_of table j inside) ∙ ap (λ w. way_to w j) same)

-- and the steps
pub way_there : (table : List (Option Arrival)) (ways : List (Option (ℕ × List Step))) (j : ℕ) (entry : Option Arrival) → ways_of table ≡ ways → j < length ways → entry_at table j ≡ entry → way_to ways j ≡ option_map (λ walk. (walk.cost, steps_to table walk.hops j)) entry
way_there table ways j entry same below is =
    let inside : j < length table = omega (arith, length-ways_of table, ap length same) in
    ap (λ w. way_to w j) (sym same) ∙ way_to-ways_of table j inside ∙ ap (option_map (λ walk. (walk.cost, steps_to table walk.hops j))) is
