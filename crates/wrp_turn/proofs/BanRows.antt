-- Bans gathered by their first arcs, and the turns that are counted arc by arc.
use Rattle.std.proofs.Common.{◌≡◌, ℕ, ◌+◌, ◌*◌, ◌<◌, ◌≤◌, Bool, true, false, cond, ◌==◌, ◌&&◌, ◌||◌, List, [], ◌∷◌, ◌++◌, map, length, get_or, ap, refl, sym, ◌∙◌, arith}
use Rattle.std.specs.Prelude.{nat_le}
use Rattle.std.specs.List.{list_all, list_any, filter, flat_map, range_with_len}
use Rattle.std.proofs.lemmas.Bool.{and_parts}
use Rattle.std.proofs.lemmas.Grind.{flat_map-append}
use Rattle.std.proofs.lemmas.List.{append-nil, length-append, length-map}
use Rattle.std.proofs.lemmas.List.FromFn.{length-range_with_len}
use Rattle.std.proofs.lemmas.List.Sums.{length-filter, count_by-le-length}
use Rattle.std.proofs.lemmas.Option.{slice_get-get_or}
use Rattle.wrp_town.specs.declared.town.Town.{Town}
use Rattle.wrp_town.specs.Arcs.{is_legal, tail_of, head_of, arcs, legal_arcs}
use Rattle.wrp_town.proofs.TownLaws.{few_streets, legal_below, list_all-slice_get}
use Rattle.wrp_graph.specs.Sorted.{items_of}
use Rattle.wrp_turn.specs.Turns.{file_limit, follows, are_bans, is_banned, is_turn}
use Rattle.wrp_turn.specs.TurnTowns.{seconds_of, turns_from}
use Rattle.wrp_turn.proofs.Collected.{collected}

-- an arc is in the row of another where the two are banned
pub banned_row : (bans : List (ℕ × ℕ)) (first second : ℕ) → list_any (λ arc. arc == second) (items_of bans first) ≡ is_banned bans first second
banned_row [] first second = refl
banned_row (ban ∷ bans) first second = by (ban.0 == first) (banned_row bans first second)
  where
    by : (b : Bool) → list_any (λ arc. arc == second) (items_of bans first) ≡ is_banned bans first second
        → list_any (λ arc. arc == second) (map (λ e. e.1) (cond b (ban ∷ filter (λ e. e.0 == first) bans) (filter (λ e. e.0 == first) bans))) ≡ ((b && (ban.1 == second)) || is_banned bans first second)
    by true others = ap (λ r. (ban.1 == second) || r) others
    by false others = others

-- the first arcs of bans are arcs
pub firsts_below : (town : Town) (bans : List (ℕ × ℕ)) → are_bans town bans ≡ true → (k : ℕ) (d : ℕ × ℕ) → k < length bans → (get_or bans k d).0 < 2 * length town.streets
firsts_below town bans are k d inside =
    let ban = get_or bans k d in
    let all = (and_parts (list_all (λ ban. follows town ban.0 ban.1) bans) (nat_le (length bans) file_limit) are).0 in
    let one = list_all-slice_get (λ ban. follows town ban.0 ban.1) bans k ban all (slice_get-get_or bans k d inside) in
    legal_below town ban.0 (and_parts (is_legal town ban.0) (is_legal town ban.1 && (head_of town ban.0 == tail_of town ban.1)) one).0

-- an arc has few turns
pub few_seconds : (town : Town) (bans : List (ℕ × ℕ)) (first : ℕ) → length (seconds_of town bans first) ≤ 8000
few_seconds town bans first =
    omega (arith, few_streets town, length-filter (is_turn town bans first) (legal_arcs town), count_by-le-length (is_turn town bans first) (legal_arcs town), length-filter (is_legal town) (arcs town), count_by-le-length (is_legal town) (arcs town), length-range_with_len 0 (2 * length town.streets))

-- the turns from the legal arcs below n
abbrev pub turns_below : Town → List (ℕ × ℕ) → ℕ → List (ℕ × ℕ)
turns_below town bans n = flat_map (turns_from town bans) (filter (is_legal town) (range_with_len 0 n))

pub turns_with : (town : Town) (bans : List (ℕ × ℕ)) (n : ℕ) → is_legal town n ≡ true → turns_below town bans (n + 1) ≡ turns_below town bans n ++ turns_from town bans n
turns_with town bans n legal =
    ap (flat_map (turns_from town bans)) (collected (is_legal town) n ∙ ap (λ b. filter (is_legal town) (range_with_len 0 n) ++ cond b (n ∷ []) []) legal)
    ∙ flat_map-append (turns_from town bans) (filter (is_legal town) (range_with_len 0 n)) (n ∷ [])
    ∙ ap (λ ts. turns_below town bans n ++ ts) (append-nil (turns_from town bans n))

pub turns_without : (town : Town) (bans : List (ℕ × ℕ)) (n : ℕ) → is_legal town n ≡ false → turns_below town bans (n + 1) ≡ turns_below town bans n
turns_without town bans n illegal =
    ap (flat_map (turns_from town bans)) (collected (is_legal town) n ∙ ap (λ b. filter (is_legal town) (range_with_len 0 n) ++ cond b (n ∷ []) []) illegal ∙ append-nil (filter (is_legal town) (range_with_len 0 n)))

-- an arc more is counted
pub record IsCounted (town : Town) (bans : List (ℕ × ℕ)) (n count : ℕ) : Type 0 where
  pub counted : count ≡ length (turns_below town bans n)
  pub small : count ≤ n * 8000

pub counted_with : (town same : Town) (bans : List (ℕ × ℕ)) (n old new : ℕ) (seconds : List ℕ) → same ≡ town → is_legal same n ≡ true → seconds ≡ seconds_of town bans n
    → IsCounted town bans n old → new ≡ old + length seconds → IsCounted town bans (n + 1) new
counted_with town same bans n old new seconds is legal are before added =
    let more = ap length (turns_with town bans n (sym (ap (λ t. is_legal t n) is) ∙ legal)) in
    let size = ap length are in
    record {
      counted = omega (arith, more, size, before.counted, added, length-append (turns_below town bans n) (turns_from town bans n), length-map {B = ℕ × ℕ} (seconds_of town bans n) (λ second. (n, second)));
      small = omega (arith, size, before.small, added, few_seconds town bans n);
    }

pub counted_without : (town same : Town) (bans : List (ℕ × ℕ)) (n old new : ℕ) → same ≡ town → is_legal same n ≡ false → IsCounted town bans n old → new ≡ old → IsCounted town bans (n + 1) new
counted_without town same bans n old new is illegal before stays =
    let less = ap length (turns_without town bans n (sym (ap (λ t. is_legal t n) is) ∙ illegal)) in
    record { counted = omega (arith, less, before.counted, stays); small = omega (arith, before.small, stays) }
