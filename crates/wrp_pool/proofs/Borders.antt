-- The arcs between a set of junctions and the others, each found once.
use Rattle.std.proofs.Common.{◌≡◌, ℕ, ◌+◌, ◌*◌, ◌<◌, ◌≤◌, Bool, true, false, cond, not, ◌&&◌, ◌||◌, ◌==◌, nat_eq, ℤ, pos, unsigned_abs, List, [], ◌∷◌, ◌++◌, length, get_or, filter, ap, refl, sym, ◌∙◌, subst, arith}
use Rattle.std.specs.Prelude.{nat_lt, nat_le}
use Rattle.std.specs.List.{All, list_all, flat_map}
use Rattle.std.proofs.lemmas.Bool.{and_parts, eqb-true, ltb-true, true≢false}
use Rattle.std.proofs.lemmas.List.{map-append}
use Rattle.std.proofs.lemmas.List.Concat.{flat_map-cons}
use Rattle.std.proofs.lemmas.List.Elements.{All-filter, filter_passes}
use Rattle.std.proofs.lemmas.List.Sums.{sum_by-append, count_by-le-length}
use Rattle.wrp_sums.proofs.SumsOver.{count_by-filter}
use Rattle.wrp_town.specs.declared.town.Town.{Town}
use Rattle.wrp_town.specs.Arcs.{is_legal, tail_of, head_of, legal_arcs, arcs, demands}
use Rattle.wrp_town.proofs.TownLaws.{legal_below, few_demands}
use Rattle.wrp_town.proofs.Members.{member_passes, member_from_any}
use Rattle.wrp_graph.specs.Stars.{out_of, into}
use Rattle.wrp_rules.specs.Ranges.{is_ascending}
use Rattle.wrp_rules.specs.Sets.{is_in, leaves, crosses, crossing_demands, arc_at}
use Rattle.wrp_rules.proofs.LegalArcs.{legal_once}
use Rattle.wrp_rules.specs.Rows.{one_if, conn_row, odd_row}
use Rattle.wrp_pool.specs.declared.row.Pool.{Pool}
use Rattle.wrp_pool.specs.Members.{Members}
use Rattle.wrp_pool.specs.Pools.{sparse_row, most_right_side, IsRow}
use Rattle.wrp_pool.specs.Cuts.{IsSetOf, leaving_star, entering_star, ones_on, Gains}
use Rattle.wrp_pool.proofs.Listed.{times, ones_row}

-- the arcs that are kept of the legal arcs are legal
pub kept_legal : (town : Town) (p : ℕ → Bool) → All (λ a. is_legal town a ≡ true) (filter p (legal_arcs town))
kept_legal town p = All-filter p (λ a. is_legal town a ≡ true) (legal_arcs town) (filter_passes (is_legal town) (arcs town))

-- so those of a star are below the number of arcs
pub out_below : (town : Town) (j : ℕ) (star : List ℕ) (i d : ℕ) → star ≡ out_of town j → i < length star → get_or star i d < 2 * length town.streets
out_below town j star i d is below =
    legal_below town (get_or star i d) (subst (All (λ a. is_legal town a ≡ true)) (sym is) (kept_legal town (λ arc. tail_of town arc == j)) i d below)

pub into_below : (town : Town) (j : ℕ) (star : List ℕ) (i d : ℕ) → star ≡ into town j → i < length star → get_or star i d < 2 * length town.streets
into_below town j star i d is below =
    legal_below town (get_or star i d) (subst (All (λ a. is_legal town a ≡ true)) (sym is) (kept_legal town (λ arc. head_of town arc == j)) i d below)

-- ---- how often an arc is found

-- no member stands twice in an ascending set
not_again : (most x k : ℕ) (xs : List ℕ) → list_all (nat_lt x) xs ≡ true → k ≡ x → is_in xs k ≡ false
not_again most x k xs above same = by (is_in xs k) refl
  where
    by : (t : Bool) → is_in xs k ≡ t → t ≡ false
    by true e =
        let m = member_from_any (nat_eq k) xs e in
        let less : x < m.0 = ltb-true x m.0 (member_passes (nat_lt x) xs m.0 above m.1) in
        absurd (omega (arith, less, same, eqb-true k m.0 m.2))
    by false e = refl

-- the arcs of the stars of a set are those that have an end in it, each as often as it is among all
pub times_of_stars : (p : ℕ → Bool) (end_of : ℕ → ℕ) (all : List ℕ) (most : ℕ) (set : List ℕ) (arc : ℕ) → is_ascending most set ≡ true
    → times (flat_map (λ j. filter p (filter (λ a. end_of a == j) all)) set) arc ≡ cond (is_in set (end_of arc) && p arc) (times all arc) 0
times_of_stars p end_of all most [] arc ascending = refl
times_of_stars p end_of all most (j ∷ set) arc ascending =
    let first = and_parts (nat_le j most && list_all (nat_lt j) set) (is_ascending most set) ascending in
    let above = and_parts (nat_le j most) (list_all (nat_lt j) set) first.0 in
    let star = filter p (filter (λ a. end_of a == j) all) in
    let others = flat_map (λ j. filter p (filter (λ a. end_of a == j) all)) set in
    ap (λ (xs : List ℕ). times xs arc) (flat_map-cons (λ j. filter p (filter (λ a. end_of a == j) all)) j set)
    ∙ sum_by-append (λ a. cond (a == arc) 1 0) star others
    ∙ by (p arc) (end_of arc == j) (is_in set (end_of arc)) (count_by-filter arc p (filter (λ a. end_of a == j) all)) (count_by-filter arc (λ a. end_of a == j) all)
    (times_of_stars p end_of all most set arc first.1) (λ e. not_again most j (end_of arc) set above.1 (eqb-true (end_of arc) j e))
  where
    by : (u t s : Bool) → times (filter p (filter (λ a. end_of a == j) all)) arc ≡ cond u (times (filter (λ a. end_of a == j) all) arc) 0
        → times (filter (λ a. end_of a == j) all) arc ≡ cond t (times all arc) 0
        → times (flat_map (λ j. filter p (filter (λ a. end_of a == j) all)) set) arc ≡ cond (s && u) (times all arc) 0
        → (t ≡ true → s ≡ false)
        → times (filter p (filter (λ a. end_of a == j) all)) arc + times (flat_map (λ j. filter p (filter (λ a. end_of a == j) all)) set) arc ≡ cond ((t || s) && u) (times all arc) 0
    by true true true kept star rest apart = absurd (true≢false (apart refl))
    by true true false kept star rest apart = omega (arith, kept, star, rest)
    by true false true kept star rest apart = omega (arith, kept, star, rest)
    by true false false kept star rest apart = omega (arith, kept, star, rest)
    by false true true kept star rest apart = absurd (true≢false (apart refl))
    by false true false kept star rest apart = omega (arith, kept, star, rest)
    by false false true kept star rest apart = omega (arith, kept, star, rest)
    by false false false kept star rest apart = omega (arith, kept, star, rest)

-- a legal arc is among all legal arcs once, and no other is
pub times_legal : (town : Town) (arc : ℕ) → times (legal_arcs town) arc ≡ cond (is_legal town arc) 1 0
times_legal town arc = by (is_legal town arc) refl
  where
    by : (t : Bool) → is_legal town arc ≡ t → times (legal_arcs town) arc ≡ cond t 1 0
    by true e = legal_once town arc e
    by false e = count_by-filter arc (is_legal town) (arcs town) ∙ ap (λ (t : Bool). cond t (times (arcs town) arc) 0) e

-- ---- the rows

-- few demands cross a set
pub few_crossing : (town : Town) (set : List ℕ) → crossing_demands town set ≤ 4000
few_crossing town set = omega (arith, count_by-le-length (λ demand. crosses town set (arc_at demand)) (demands town), few_demands town)

-- the arcs that leave a set, and those that enter it
abbrev leaving : Town → List ℕ → List ℕ
leaving town set = flat_map (leaving_star town set) set

abbrev entering : Town → List ℕ → List ℕ
entering town set = flat_map (entering_star town set) set

module _ (town : Town) (members : Members) (is : IsSetOf town members) where
  abbrev set : List ℕ
  set = members.set

  times_leaving : (arc : ℕ) → times (leaving town set) arc ≡ cond (is_in set (tail_of town arc) && not (is_in set (head_of town arc))) (times (legal_arcs town) arc) 0
  times_leaving arc = times_of_stars (λ a. not (is_in set (head_of town a))) (tail_of town) (legal_arcs town) _ set arc is.ascending

  times_entering : (arc : ℕ) → times (entering town set) arc ≡ cond (is_in set (head_of town arc) && not (is_in set (tail_of town arc))) (times (legal_arcs town) arc) 0
  times_entering arc = times_of_stars (λ a. not (is_in set (tail_of town a))) (head_of town) (legal_arcs town) _ set arc is.ascending

  pub conn_is_row : (terms : List (ℕ × ℤ)) → terms ≡ ones_on (leaving town set) → IsRow town (sparse_row terms (pos 1)) (conn_row town set)
  conn_is_row terms are = subst (λ ts. IsRow town (sparse_row ts (pos 1)) (conn_row town set)) (sym are) (ones_row town (leaves town set) (leaving town set) (pos 1) listed (omega arith))
    where
      listed : (arc : ℕ) → times (leaving town set) arc ≡ cond (is_legal town arc && leaves town set arc) 1 0
      listed arc = by (is_legal town arc) (leaves town set arc) (times_leaving arc) (times_legal town arc)
        where
          by : (t u : Bool) → times (leaving town set) arc ≡ cond u (times (legal_arcs town) arc) 0 → times (legal_arcs town) arc ≡ cond t 1 0 → times (leaving town set) arc ≡ cond (t && u) 1 0
          by true true found once = found ∙ once
          by true false found once = found
          by false true found once = found ∙ once
          by false false found once = found

  pub odd_is_row : (terms : List (ℕ × ℤ)) (side : ℤ) → terms ≡ ones_on (leaving town set) ++ ones_on (entering town set) → side ≡ pos (crossing_demands town set + 1) → unsigned_abs side ≤ most_right_side → IsRow town (sparse_row terms side) (odd_row town set)
  odd_is_row terms side are same small =
      subst (λ z. IsRow town (sparse_row terms side) (record { coef = λ arc. one_if (crosses town set arc); right_side = z })) same
      (subst (λ ts. IsRow town (sparse_row ts side) (record { coef = λ arc. one_if (crosses town set arc); right_side = side })) (sym (are ∙ sym (map-append (λ a. (a, pos 1)) (leaving town set) (entering town set))))
      (ones_row town (crosses town set) (leaving town set ++ entering town set) side listed small))
    where
      listed : (arc : ℕ) → times (leaving town set ++ entering town set) arc ≡ cond (is_legal town arc && crosses town set arc) 1 0
      listed arc =
          sum_by-append (λ a. cond (a == arc) 1 0) (leaving town set) (entering town set)
          ∙ by (is_legal town arc) (is_in set (tail_of town arc)) (is_in set (head_of town arc)) (times_leaving arc) (times_entering arc) (times_legal town arc)
        where
          by : (t u v : Bool) → times (leaving town set) arc ≡ cond (u && not v) (times (legal_arcs town) arc) 0 → times (entering town set) arc ≡ cond (v && not u) (times (legal_arcs town) arc) 0 → times (legal_arcs town) arc ≡ cond t 1 0
              → times (leaving town set) arc + times (entering town set) arc ≡ cond (t && ((u && not v) || (not u && v))) 1 0
          by true true true out back once = omega (arith, out, back, once)
          by true true false out back once = omega (arith, out, back, once)
          by true false true out back once = omega (arith, out, back, once)
          by true false false out back once = omega (arith, out, back, once)
          by false true true out back once = omega (arith, out, back, once)
          by false true false out back once = omega (arith, out, back, once)
          by false false true out back once = omega (arith, out, back, once)
          by false false false out back once = omega (arith, out, back, once)

  -- a pool that gains these rows
  pub conn_gained : (old new : Pool) (bare terms : List (ℕ × ℤ)) → new.rows ≡ old.rows ++ sparse_row terms (pos 1) ∷ [] → terms ≡ bare ++ ones_on (leaving town set) → bare ≡ [] → Gains town (conn_row town set) old new
  conn_gained old new bare terms added are empty = record {
    sparse = sparse_row terms (pos 1);
    added = added;
    is_row = conn_is_row terms (are ∙ ap (λ (ts : List (ℕ × ℤ)). ts ++ ones_on (leaving town set)) empty);
  }

  pub odd_gained : (old new : Pool) (bare first terms : List (ℕ × ℤ)) (side : ℤ) → new.rows ≡ old.rows ++ sparse_row terms side ∷ [] → terms ≡ first ++ ones_on (entering town set) → first ≡ bare ++ ones_on (leaving town set) → bare ≡ []
      → side ≡ pos (crossing_demands town set + 1) → Gains town (odd_row town set) old new
  odd_gained old new bare first terms side added are begins empty same = record {
    sparse = sparse_row terms side;
    added = added;
    is_row = odd_is_row terms side (are ∙ ap (λ (ts : List (ℕ × ℤ)). ts ++ ones_on (entering town set)) (begins ∙ ap (λ (ts : List (ℕ × ℤ)). ts ++ ones_on (leaving town set)) empty)) same
        (subst (λ z. unsigned_abs z ≤ most_right_side) (sym same) (omega (arith, few_crossing town set)));
  }
