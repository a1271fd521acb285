-- The rows that are made of the ends of the arcs and of the demands are the base rows.
use Rattle.std.proofs.Common.{◌≡◌, ℕ, zero, suc, ◌+◌, ◌-◌, ◌*◌, ◌/◌, ◌^◌, ◌<◌, ◌≤◌, Bool, true, false, cond, ◌&&◌, ◌||◌, ◌==◌, not, nat_eq, ℤ, pos, negsuc, ◌-ℤ◌, List, [], ◌∷◌, ◌++◌, map, length, get_or, filter, Contains, unsigned_abs, ap, refl, sym, ◌∙◌, subst, arith, eq-eqb, length-append, append_assoc}
use Rattle.std.specs.Prelude.{if◌then◌else◌, slice_index_or}
use Rattle.std.specs.List.{All, flat_map, range_with_len}
use Rattle.std.proofs.lemmas.Bool.{eqb-true, eqb-false, ne_eqb, true≢false}
use Rattle.std.proofs.lemmas.List.{map-append, append-nil}
use Rattle.std.proofs.lemmas.List.Elements.{All-append, All-cons, All-nil, All-map, All-filter, filter-append}
use Rattle.std.proofs.lemmas.List.FromFn.{length-range_with_len, get_or-map-range_with_len, length-map-range_with_len}
use Rattle.wrp_town.specs.declared.street.Need.{Need}
use Rattle.wrp_town.specs.declared.street.Need.TheVariants.{No, Either, Forward, Backward, Both}
use Rattle.wrp_town.specs.declared.street.Street.{Street}
use Rattle.wrp_town.specs.declared.town.Town.{Town}
use Rattle.wrp_town.specs.Streets.{demands_at, demands_from}
use Rattle.wrp_town.specs.Arcs.{arcs, demands, junctions, is_legal, tail_of, head_of, has_arc}
use Rattle.wrp_town.proofs.Lists.{range_with_len-more}
use Rattle.wrp_town.proofs.Members.{inside_head, inside_tail}
use Rattle.wrp_town.proofs.ServiceLaws.{member_from_has_arc, demand_arc_street}
use Rattle.wrp_town.proofs.TownLaws.{few_streets, tail_of-below, head_of-below}
use Rattle.wrp_graph.specs.Sorted.{items_of, buckets_of}
use Rattle.wrp_rules.specs.Rows.{Row, one_if, balance_row, service_row, base_rows, most_coefficient}
use Rattle.wrp_rows.specs.Pools.{SparseRow, is_term, terms_of, sparse_of}
use Rattle.wrp_rows.specs.Sizes.{IsSmallRow}
use Rattle.wrp_rows.specs.Base.{ends_at, sign_at, star_row, demand_row}
use Rattle.wrp_rows.proofs.Terms.{are_small_terms}
use Rattle.wrp_rows.proofs.Made.{with_term, terms_over, terms_of_cons}

-- ---- the ends of arcs

flat_map_append : {X Y : Type 0} (f : X → List Y) (xs : List X) (y : X) → flat_map f (xs ++ y ∷ []) ≡ flat_map f xs ++ f y
flat_map_append f [] y = append-nil (f y)
flat_map_append f (x ∷ xs) y = ap (λ ys. f x ++ ys) (flat_map_append f xs y) ∙ sym (append_assoc (f x) (flat_map f xs) (f y))

pub ends_more : (town : Town) (n : ℕ) → flat_map (ends_at town) (range_with_len 0 (n + 1)) ≡ flat_map (ends_at town) (range_with_len 0 n) ++ ends_at town n
ends_more town n = ap (flat_map (ends_at town)) (range_with_len-more 0 n n (omega arith)) ∙ flat_map_append (ends_at town) (range_with_len 0 n) n

two_at_most : (t : Bool) (p q : ℕ × ℕ) → length (if t then p ∷ q ∷ [] else []) ≤ 2
two_at_most true p q = omega arith
two_at_most false p q = omega arith

ends_length : (town : Town) (xs : List ℕ) → length (flat_map (ends_at town) xs) ≤ 2 * length xs
ends_length town [] = omega arith
ends_length town (x ∷ xs) =
    omega (
      arith,
      length-append (ends_at town x) (flat_map (ends_at town) xs),
      two_at_most (is_legal town x && not (tail_of town x == head_of town x)) (tail_of town x, x) (head_of town x, x),
      ends_length town xs,
    )

pub few_ends : (town : Town) (ends : List (ℕ × ℕ)) → ends ≡ flat_map (ends_at town) (arcs town) → length ends < 2 ^ 32
few_ends town ends is = omega (arith, few_streets town, ap length is, ends_length town (arcs town), length-range_with_len 0 (2 * length town.streets))

both_pass : {X : Type 0} (P : X → Type 0) (t : Bool) (p q : X) → P p → P q → All P (if t then p ∷ q ∷ [] else [])
both_pass P true p q first second = All-cons P p (q ∷ []) first (All-cons P q [] second (All-nil P))
both_pass P false p q first second = All-nil P

ends_pass : (town : Town) (P : ℕ × ℕ → Type 0) (n a : ℕ) → a + n ≤ 2 * length town.streets → ((arc : ℕ) → arc < 2 * length town.streets → P (tail_of town arc, arc) × P (head_of town arc, arc)) → All P (flat_map (ends_at town) (range_with_len a n))
ends_pass town P zero a within each = All-nil P
ends_pass town P (suc n) a within each =
    let own = each a (omega arith) in
    All-append P (ends_at town a) (flat_map (ends_at town) (range_with_len (a + 1) n))
    (both_pass P (is_legal town a && not (tail_of town a == head_of town a)) (tail_of town a, a) (head_of town a, a) own.0 own.1)
    (ends_pass town P n (a + 1) (omega arith) each)

pub ends_keys : (town : Town) (ends : List (ℕ × ℕ)) → ends ≡ flat_map (ends_at town) (arcs town) → All (λ e. e.0 < length town.junctions) ends
ends_keys town ends is =
    subst (λ (es : List (ℕ × ℕ)). All (λ (e : ℕ × ℕ). e.0 < length town.junctions) es) (sym is)
    (ends_pass town (λ (e : ℕ × ℕ). e.0 < length town.junctions) (2 * length town.streets) 0 (omega arith) (λ arc below. (tail_of-below town arc below, head_of-below town arc below)))

-- ---- the star of a junction

-- the arc, once for each of its ends at the junction
star_one : ℕ → Bool → Bool → Bool → List ℕ
star_one x both at_tail at_head = cond both (cond at_tail (x ∷ cond at_head (x ∷ []) []) (cond at_head (x ∷ []) [])) []

items_of_append : (xs ys : List (ℕ × ℕ)) (j : ℕ) → items_of (xs ++ ys) j ≡ items_of xs j ++ items_of ys j
items_of_append xs ys j =
    ap (map (λ (e : ℕ × ℕ). e.1)) (filter-append (λ (e : ℕ × ℕ). e.0 == j) xs ys)
    ∙ map-append (λ (e : ℕ × ℕ). e.1) (filter (λ (e : ℕ × ℕ). e.0 == j) xs) (filter (λ (e : ℕ × ℕ). e.0 == j) ys)

items_one : (x j tail head : ℕ) (both : Bool) → items_of (if both then (tail, x) ∷ (head, x) ∷ [] else []) j ≡ star_one x both (tail == j) (head == j)
unfolding star_one
items_one x j tail head false = refl
items_one x j tail head true = by (tail == j) (head == j)
  where
    by : (s t : Bool) → map (λ (e : ℕ × ℕ). e.1) (cond s ((tail, x) ∷ cond t ((head, x) ∷ []) []) (cond t ((head, x) ∷ []) [])) ≡ cond s (x ∷ cond t (x ∷ []) []) (cond t (x ∷ []) [])
    by true true = refl
    by true false = refl
    by false true = refl
    by false false = refl

star_term : (x : ℕ) (sign : ℕ → ℕ × ℤ) (legal same at_tail at_head : Bool) (others : List (ℕ × ℤ)) → sign x ≡ (x, cond at_tail (pos 1) (negsuc 0)) → (same ≡ true → at_tail ≡ at_head) → (same ≡ false → at_tail ≡ true → at_head ≡ true → ⊥)
    → map sign (star_one x (legal && not same) at_tail at_head) ++ others ≡ with_term x legal (one_if at_tail -ℤ one_if at_head) others
unfolding star_one with_term
star_term x sign true true true true others is alike apart = refl
star_term x sign true true true false others is alike apart = absurd (true≢false (alike refl))
star_term x sign true true false true others is alike apart = absurd (true≢false (sym (alike refl)))
star_term x sign true true false false others is alike apart = refl
star_term x sign true false true true others is alike apart = absurd (apart refl refl refl)
star_term x sign true false true false others is alike apart = ap (λ (t : ℕ × ℤ). t ∷ others) is
star_term x sign true false false true others is alike apart = ap (λ (t : ℕ × ℤ). t ∷ others) is
star_term x sign true false false false others is alike apart = refl
star_term x sign false same at_tail at_head others is alike apart = refl

-- the term of an arc at a junction
abbrev signed : Town → ℕ → ℕ → ℕ × ℤ
signed town j arc = (arc, sign_at town j arc)

pub star_terms : (town : Town) (j : ℕ) (xs : List ℕ) → map (signed town j) (items_of (flat_map (ends_at town) xs) j) ≡ terms_over town (balance_row town j).coef xs
star_terms town j [] = refl
star_terms town j (x ∷ xs) =
    let tail = tail_of town x in
    let head = head_of town x in
    let both = is_legal town x && not (tail == head) in
    let rest = map (signed town j) (items_of (flat_map (ends_at town) xs) j) in
    ap (map (signed town j)) (items_of_append (ends_at town x) (flat_map (ends_at town) xs) j ∙ ap (λ (ys : List ℕ). ys ++ items_of (flat_map (ends_at town) xs) j) (items_one x j tail head both))
    ∙ map-append (signed town j) (star_one x both (tail == j) (head == j)) (items_of (flat_map (ends_at town) xs) j)
    ∙ star_term x (signed town j) (is_legal town x) (tail == head) (tail == j) (head == j) rest refl
    (λ same. ap (λ (k : ℕ). k == j) (eqb-true tail head same))
    (λ apart at_tail at_head. eqb-false tail head apart (eqb-true tail j at_tail ∙ sym (eqb-true head j at_head)))
    ∙ ap (λ (others : List (ℕ × ℤ)). with_term x (is_legal town x) ((balance_row town j).coef x) others) (star_terms town j xs)
    ∙ sym (terms_of_cons town (balance_row town j).coef x xs)

-- ---- the demands of a street

range_append : (a m k : ℕ) → range_with_len a (m + k) ≡ range_with_len a m ++ range_with_len (a + m) k
range_append a zero k =
    let none : 0 + k ≡ k = omega arith in
    let same : a + 0 ≡ a = omega arith in
    rw (none, same) refl
range_append a (suc m) k =
    let more : suc m + k ≡ suc (m + k) = omega arith in
    let next : a + suc m ≡ a + 1 + m = omega arith in
    rw (more, next) (ap (λ (xs : List ℕ). a ∷ xs) (range_append (a + 1) m k))

terms_append : (town : Town) (f : ℕ → ℤ) (xs ys : List ℕ) → terms_over town f (xs ++ ys) ≡ terms_over town f xs ++ terms_over town f ys
terms_append town f xs ys =
    let term : ℕ → ℕ × ℤ = λ a. (a, f a) in
    ap (map term) (filter-append (is_term town f) xs ys) ∙ map-append term (filter (is_term town f) xs) (filter (is_term town f) ys)

no_term : (x : ℕ) (legal : Bool) (z : ℤ) (others : List (ℕ × ℤ)) → z ≡ pos 0 → with_term x legal z others ≡ others
unfolding with_term
no_term x true z others none = ap (λ (u : ℤ). cond (not (unsigned_abs u == 0)) ((x, u) ∷ others) others) none
no_term x false z others none = refl

terms_none : (town : Town) (f : ℕ → ℤ) (a n : ℕ) → ((x : ℕ) → a ≤ x → x < a + n → f x ≡ pos 0) → terms_over town f (range_with_len a n) ≡ []
terms_none town f a zero none = refl
terms_none town f a (suc n) none =
    terms_of_cons town f a (range_with_len (a + 1) n)
    ∙ no_term a (is_legal town a) (f a) (terms_over town f (range_with_len (a + 1) n)) (none a (omega arith) (omega arith))
    ∙ terms_none town f (a + 1) n (λ x low high. none x (omega arith) (omega arith))

-- a row that is 0 off a street has the terms of the street's two arcs alone
terms_of_street : (town : Town) (f : ℕ → ℤ) (s : ℕ) → s < length town.streets → ((x : ℕ) → (x / 2 ≡ s → ⊥) → f x ≡ pos 0) → terms_of town f ≡ terms_over town f (2 * s ∷ (2 * s + 1) ∷ [])
terms_of_street town f s below none =
    let rest = 2 * length town.streets - (2 * s + 2) in
    let behind = 2 * s + 2 in
    let many : 2 * length town.streets ≡ 2 * s + (2 + rest) = omega arith in
    let start : 0 + 2 * s ≡ 2 * s = omega arith in
    let pair : List ℕ = 2 * s ∷ (2 * s + 1) ∷ [] in
    let split : range_with_len (2 * s) (2 + rest) ≡ pair ++ range_with_len behind rest = range_append (2 * s) 2 rest in
    let whole : arcs town ≡ range_with_len 0 (2 * s) ++ (pair ++ range_with_len behind rest) =
    ap (λ (n : ℕ). range_with_len 0 n) many
    ∙ range_append 0 (2 * s) (2 + rest)
    ∙ ap (λ (b : ℕ). range_with_len 0 (2 * s) ++ range_with_len b (2 + rest)) start
    ∙ ap (λ (xs : List ℕ). range_with_len 0 (2 * s) ++ xs) split in
    let first : terms_over town f (range_with_len 0 (2 * s)) ≡ [] = terms_none town f 0 (2 * s) (λ x low high. none x (λ e. absurd (omega arith))) in
    let last : terms_over town f (range_with_len behind rest) ≡ [] = terms_none town f behind rest (λ x low high. none x (λ e. absurd (omega arith))) in
    ap (terms_over town f) whole
    ∙ terms_append town f (range_with_len 0 (2 * s)) (pair ++ range_with_len behind rest)
    ∙ ap (λ (ts : List (ℕ × ℤ)). ts ++ terms_over town f (pair ++ range_with_len behind rest)) first
    ∙ terms_append town f pair (range_with_len behind rest)
    ∙ ap (λ (ts : List (ℕ × ℤ)). terms_over town f pair ++ ts) last
    ∙ append-nil (terms_over town f pair)

-- a demand of some of the street's arcs
two_terms : (a b : ℕ) (la lb ta tb : Bool) → with_term a la (one_if ta) (with_term b lb (one_if tb) []) ≡ cond (la && ta) ((a, pos 1) ∷ cond (lb && tb) ((b, pos 1) ∷ []) []) (cond (lb && tb) ((b, pos 1) ∷ []) [])
unfolding with_term
two_terms a b true true true true = refl
two_terms a b true true true false = refl
two_terms a b true true false true = refl
two_terms a b true true false false = refl
two_terms a b true false true tb = refl
two_terms a b true false false tb = refl
two_terms a b false true ta true = refl
two_terms a b false true ta false = refl
two_terms a b false false ta tb = refl

abbrev listed : List ℕ → ℕ → ℤ
listed demand arc = one_if (has_arc demand arc)

off_demand : (s : ℕ) (need : Need) (demand : List ℕ) (x : ℕ) → Contains (demands_at s need) demand → (x / 2 ≡ s → ⊥) → listed demand x ≡ pos 0
off_demand s need demand x inside off = by (has_arc demand x) refl
  where
    by : (t : Bool) → has_arc demand x ≡ t → one_if t ≡ pos 0
    by true e = absurd (off (demand_arc_street s need demand x inside (member_from_has_arc demand x e)))
    by false e = refl

-- the terms of a demand of street s, by whether it has the one arc and the other
demand_terms : (town : Town) (s : ℕ) (need : Need) (demand : List ℕ) (first second : Bool) → s < length town.streets → Contains (demands_at s need) demand → has_arc demand (2 * s) ≡ first → has_arc demand (2 * s + 1) ≡ second
    → terms_of town (listed demand) ≡ cond (is_legal town (2 * s) && first) ((2 * s, pos 1) ∷ cond (is_legal town (2 * s + 1) && second) ((2 * s + 1, pos 1) ∷ []) []) (cond (is_legal town (2 * s + 1) && second) ((2 * s + 1, pos 1) ∷ []) [])
demand_terms town s need demand first second below inside is_first is_second =
    let a = 2 * s in
    let b = 2 * s + 1 in
    terms_of_street town (listed demand) s below (λ x off. off_demand s need demand x inside off)
    ∙ terms_of_cons town (listed demand) a (b ∷ [])
    ∙ ap (λ (ts : List (ℕ × ℤ)). with_term a (is_legal town a) (listed demand a) ts) (terms_of_cons town (listed demand) b [])
    ∙ ap (λ (t : Bool). with_term a (is_legal town a) (one_if t) (with_term b (is_legal town b) (listed demand b) [])) is_first
    ∙ ap (λ (t : Bool). with_term a (is_legal town a) (one_if first) (with_term b (is_legal town b) (one_if t) [])) is_second
    ∙ two_terms a b (is_legal town a) (is_legal town b) first second

own : (n : ℕ) → nat_eq n n ≡ true
own n = eq-eqb n n refl

or_own : (n : ℕ) (t : Bool) → (nat_eq n n || t) ≡ true
or_own n t = ap (λ (b : Bool). b || t) (own n)

next_differs : (n : ℕ) → nat_eq (n + 1) n ≡ false
next_differs n = ne_eqb (n + 1) n (λ e. absurd (omega arith))

differs_next : (n : ℕ) → nat_eq n (n + 1) ≡ false
differs_next n = ne_eqb n (n + 1) (λ e. absurd (omega arith))

-- the legal ones of one arc or of two, each with 1
abbrev counted : ℕ → ℕ × ℤ
counted x = (x, pos 1)

first_alone : (a b : ℕ) (la lb : Bool) → cond (la && true) (counted a ∷ cond (lb && false) (counted b ∷ []) []) (cond (lb && false) (counted b ∷ []) []) ≡ map counted (cond la (a ∷ []) [])
first_alone a b true true = refl
first_alone a b true false = refl
first_alone a b false true = refl
first_alone a b false false = refl

second_alone : (a b : ℕ) (la lb : Bool) → cond (la && false) (counted a ∷ cond (lb && true) (counted b ∷ []) []) (cond (lb && true) (counted b ∷ []) []) ≡ map counted (cond lb (b ∷ []) [])
second_alone a b true true = refl
second_alone a b true false = refl
second_alone a b false true = refl
second_alone a b false false = refl

both_arcs : (a b : ℕ) (la lb : Bool) → cond (la && true) (counted a ∷ cond (lb && true) (counted b ∷ []) []) (cond (lb && true) (counted b ∷ []) []) ≡ map counted (cond la (a ∷ cond lb (b ∷ []) []) (cond lb (b ∷ []) []))
both_arcs a b true true = refl
both_arcs a b true false = refl
both_arcs a b false true = refl
both_arcs a b false false = refl

row_kept : (town : Town) (demand : List ℕ) → terms_of town (listed demand) ≡ map counted (filter (is_legal town) demand) → demand_row town demand ≡ sparse_of town (service_row demand)
row_kept town demand same = ap (λ (ts : List (ℕ × ℤ)). one_at_least ts) (sym same)
  where
    one_at_least : List (ℕ × ℤ) → SparseRow
    one_at_least ts = record { terms = ts; right_side = pos 1 }

forward_kept : (town : Town) (s : ℕ) (need : Need) → s < length town.streets → Contains (demands_at s need) (2 * s ∷ []) → demand_row town (2 * s ∷ []) ≡ sparse_of town (service_row (2 * s ∷ []))
forward_kept town s need below inside =
    row_kept town (2 * s ∷ [])
    (demand_terms town s need (2 * s ∷ []) true false below inside (or_own (2 * s) false) (ap (λ (t : Bool). t || false) (next_differs (2 * s)))
    ∙ first_alone (2 * s) (2 * s + 1) (is_legal town (2 * s)) (is_legal town (2 * s + 1)))

backward_kept : (town : Town) (s : ℕ) (need : Need) → s < length town.streets → Contains (demands_at s need) ((2 * s + 1) ∷ []) → demand_row town ((2 * s + 1) ∷ []) ≡ sparse_of town (service_row ((2 * s + 1) ∷ []))
backward_kept town s need below inside =
    row_kept town ((2 * s + 1) ∷ [])
    (demand_terms town s need ((2 * s + 1) ∷ []) false true below inside (ap (λ (t : Bool). t || false) (differs_next (2 * s))) (or_own (2 * s + 1) false)
    ∙ second_alone (2 * s) (2 * s + 1) (is_legal town (2 * s)) (is_legal town (2 * s + 1)))

either_kept : (town : Town) (s : ℕ) → s < length town.streets → demand_row town (2 * s ∷ (2 * s + 1) ∷ []) ≡ sparse_of town (service_row (2 * s ∷ (2 * s + 1) ∷ []))
either_kept town s below =
    row_kept town (2 * s ∷ (2 * s + 1) ∷ [])
    (demand_terms town s Either (2 * s ∷ (2 * s + 1) ∷ []) true true below (inside_head (2 * s ∷ (2 * s + 1) ∷ []) []) (or_own (2 * s) (nat_eq (2 * s) (2 * s + 1) || false)) (ap (λ (t : Bool). t || (nat_eq (2 * s + 1) (2 * s + 1) || false)) (next_differs (2 * s)) ∙ or_own (2 * s + 1) false)
    ∙ both_arcs (2 * s) (2 * s + 1) (is_legal town (2 * s)) (is_legal town (2 * s + 1)))

-- the rows of the demands of a street, and of all streets
abbrev kept : Town → List ℕ → SparseRow
kept town demand = sparse_of town (service_row demand)

demands_kept_at : (town : Town) (s : ℕ) (need : Need) → s < length town.streets → map (demand_row town) (demands_at s need) ≡ map (kept town) (demands_at s need)
demands_kept_at town s No below = refl
demands_kept_at town s Either below = ap (λ (r : SparseRow). r ∷ []) (either_kept town s below)
demands_kept_at town s Forward below = ap (λ (r : SparseRow). r ∷ []) (forward_kept town s Forward below (inside_head (2 * s ∷ []) []))
demands_kept_at town s Backward below = ap (λ (r : SparseRow). r ∷ []) (backward_kept town s Backward below (inside_head ((2 * s + 1) ∷ []) []))
demands_kept_at town s Both below =
    let first = forward_kept town s Both below (inside_head (2 * s ∷ []) (((2 * s + 1) ∷ []) ∷ [])) in
    let second = backward_kept town s Both below (inside_tail (2 * s ∷ []) (((2 * s + 1) ∷ []) ∷ []) ((2 * s + 1) ∷ []) (inside_head ((2 * s + 1) ∷ []) [])) in
    ap (λ (r : SparseRow). r ∷ demand_row town ((2 * s + 1) ∷ []) ∷ []) first
    ∙ ap (λ (r : SparseRow). kept town (2 * s ∷ []) ∷ r ∷ []) second

demands_kept_from : (town : Town) (s : ℕ) (streets : List Street) → s + length streets ≤ length town.streets → map (demand_row town) (demands_from s streets) ≡ map (kept town) (demands_from s streets)
demands_kept_from town s [] within = refl
demands_kept_from town s (street ∷ streets) within =
    map-append (demand_row town) (demands_at s street.need) (demands_from (s + 1) streets)
    ∙ ap (λ (rows : List SparseRow). rows ++ map (demand_row town) (demands_from (s + 1) streets)) (demands_kept_at town s street.need (omega arith))
    ∙ ap (λ (rows : List SparseRow). map (kept town) (demands_at s street.need) ++ rows) (demands_kept_from town (s + 1) streets (omega arith))
    ∙ sym (map-append (kept town) (demands_at s street.need) (demands_from (s + 1) streets))

pub demands_kept : (town : Town) → map (demand_row town) (demands town) ≡ map (kept town) (demands town)
demands_kept town = demands_kept_from town 0 town.streets (omega arith)

-- ---- all base rows

map_map : {X Y Z : Type 0} (f : Y → Z) (g : X → Y) (xs : List X) → map f (map g xs) ≡ map (λ x. f (g x)) xs
map_map f g [] = refl
map_map f g (x ∷ xs) = ap (λ ys. f (g x) ∷ ys) (map_map f g xs)

-- the balance rows and then the service rows
pub base_kept : (town : Town) (balances rows : List SparseRow) → balances ≡ map (λ (j : ℕ). sparse_of town (balance_row town j)) (junctions town) → rows ≡ balances ++ map (demand_row town) (demands town) → rows ≡ map (sparse_of town) (base_rows town)
base_kept town balances rows first whole =
    whole
    ∙ ap (λ (b : List SparseRow). b ++ map (demand_row town) (demands town)) first
    ∙ ap (λ (d : List SparseRow). map (λ (j : ℕ). sparse_of town (balance_row town j)) (junctions town) ++ d) (demands_kept town ∙ sym (map_map (sparse_of town) service_row (demands town)))
    ∙ ap (λ (b : List SparseRow). b ++ map (sparse_of town) (map service_row (demands town))) (sym (map_map (sparse_of town) (balance_row town) (junctions town)))
    ∙ sym (map-append (sparse_of town) (map (balance_row town) (junctions town)) (map service_row (demands town)))

-- one balance row more
pub balance_more : (town : Town) (j : ℕ) (old new : List SparseRow) (star : List ℕ) → old ≡ map (λ (i : ℕ). sparse_of town (balance_row town i)) (range_with_len 0 j) → star ≡ items_of (flat_map (ends_at town) (arcs town)) j → new ≡ old ++ star_row town j star ∷ [] → new ≡ map (λ (i : ℕ). sparse_of town (balance_row town i)) (range_with_len 0 (j + 1))
balance_more town j old new star before star_is added =
    let balance : ℕ → SparseRow = λ i. sparse_of town (balance_row town i) in
    let terms : map (signed town j) star ≡ terms_of town (balance_row town j).coef = ap (map (signed town j)) star_is ∙ star_terms town j (arcs town) in
    let row : star_row town j star ≡ balance j = cc in
    added
    ∙ ap (λ (rows : List SparseRow). rows ++ star_row town j star ∷ []) before
    ∙ ap (λ (r : SparseRow). map balance (range_with_len 0 j) ++ r ∷ []) row
    ∙ sym (map-append balance (range_with_len 0 j) (j ∷ []))
    ∙ ap (map balance) (sym (range_with_len-more 0 j j (omega arith)))

-- the star of a junction, and its arcs
pub star_at : (n j : ℕ) (entries : List (ℕ × ℕ)) (stars : List (List ℕ)) → stars ≡ buckets_of n entries → j < n → slice_index_or stars j [] ≡ items_of entries j
star_at n j entries stars is below = ap (λ (b : List (List ℕ)). slice_index_or b j []) is ∙ get_or-map-range_with_len (items_of entries) 0 n j j [] below (omega arith)

pub star_there : (n j : ℕ) (entries : List (ℕ × ℕ)) (stars : List (List ℕ)) → stars ≡ buckets_of n entries → j < n → j < length stars
star_there n j entries stars is below = omega (arith, ap length is, length-map-range_with_len (items_of entries) 0 n)

pub star_below : (town : Town) (j : ℕ) (star : List ℕ) → star ≡ items_of (flat_map (ends_at town) (arcs town)) j → All (λ arc. arc < 2 * length town.streets) star
star_below town j star is =
    subst (λ (xs : List ℕ). All (λ (arc : ℕ). arc < 2 * length town.streets) xs) (sym is)
    (All-map (λ (arc : ℕ). arc < 2 * length town.streets) (λ (e : ℕ × ℕ). e.1) (filter (λ (e : ℕ × ℕ). e.0 == j) (flat_map (ends_at town) (arcs town)))
    (All-filter (λ (e : ℕ × ℕ). e.0 == j) (λ (e : ℕ × ℕ). e.1 < 2 * length town.streets) (flat_map (ends_at town) (arcs town))
    (ends_pass town (λ (e : ℕ × ℕ). e.1 < 2 * length town.streets) (2 * length town.streets) 0 (omega arith) (λ arc below. (below, below)))))

-- ---- their sizes

balance_size : (s t : Bool) → unsigned_abs (one_if s -ℤ one_if t) ≤ most_coefficient
balance_size true true = omega arith
balance_size true false = omega arith
balance_size false true = omega arith
balance_size false false = omega arith

one_size : (t : Bool) → unsigned_abs (one_if t) ≤ most_coefficient
one_size true = omega arith
one_size false = omega arith

pub small_base : (town : Town) → All (IsSmallRow (2 * length town.streets)) (map (sparse_of town) (base_rows town))
small_base town =
    let balances = map (balance_row town) (junctions town) in
    let services = map service_row (demands town) in
    All-map (IsSmallRow (2 * length town.streets)) (sparse_of town) (base_rows town)
    (All-append (λ (row : Row). IsSmallRow (2 * length town.streets) (sparse_of town row)) balances services
    (All-map (λ (row : Row). IsSmallRow (2 * length town.streets) (sparse_of town row)) (balance_row town) (junctions town) (λ k d below. record {
      terms = are_small_terms town (balance_row town (get_or (junctions town) k d)).coef (λ arc legal. balance_size (tail_of town arc == get_or (junctions town) k d) (head_of town arc == get_or (junctions town) k d));
      right_side = omega arith;
    }))
    (All-map (λ (row : Row). IsSmallRow (2 * length town.streets) (sparse_of town row)) service_row (demands town) (λ k d below. record {
      terms = are_small_terms town (service_row (get_or (demands town) k d)).coef (λ arc legal. one_size (has_arc (get_or (demands town) k d) arc));
      right_side = omega arith;
    })))
