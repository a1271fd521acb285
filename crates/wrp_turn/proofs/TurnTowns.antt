-- The turn town of a town and its bans is a town: its names are names, and different, and its junctions come in order.
use Rattle.std.proofs.Common.{◌≡◌, ℕ, zero, suc, ◌+◌, ◌-◌, ◌*◌, ◌/◌, ◌%◌, ◌^◌, ◌<◌, ◌≤◌, max, Bool, true, false, cond, not, ◌==◌, ◌&&◌, ◌||◌, List, [], ◌∷◌, ◌++◌, map, length, get_or, Option, Some, None, Contains, ap, refl, sym, ◌∙◌, subst, inl, inr, arith, eq-eqb}
use Rattle.std.specs.Prelude.{slice_get, slice_index, nat_lt, nat_le}
use Rattle.std.specs.List.{list_all, list_any, filter, flat_map, range_with_len}
use Rattle.std.specs.Str.{bytes_eq, is_utf8, IsAscii}
use Rattle.std.specs.Fmt.{decimal}
use Rattle.std.proofs.lemmas.Bool.{and_parts, and_from, ne_eqb, cases_Bool, cases_lt, leb-true, lt-ltb, le-leb}
use Rattle.std.proofs.lemmas.List.{length-append, length-map, same_from_push, get_or_append_left, get_or-append_right, get_or_past}
use Rattle.std.proofs.lemmas.List.Folds.{list_all-append}
use Rattle.std.proofs.lemmas.Option.{slice_get-get_or, slice_get_within, get_or_from_slice_get}
use Rattle.std.proofs.lemmas.Str.{IsUtf8-from_ascii, is_utf8-from_IsUtf8}
use Rattle.std.proofs.lemmas.Slice.Eq.{bytes_eq-Decides}
use Rattle.std.proofs.lemmas.Fmt.{decimal_injective, decimal_by_steps, length-decimal-le}
use Rattle.wrp_town.specs.declared.street.Need.TheVariants.{No, Either}
use Rattle.wrp_town.specs.declared.town.Town.{Town}
use Rattle.wrp_town.specs.Names.{is_name, is_plain, is_short_and_plain, has_bare_ends}
use Rattle.wrp_town.specs.Streets.{IsTown, are_different, demands_at, demands_from, ends_of, come_in_order, is_cost, is_street}
use Rattle.wrp_town.specs.Arcs.{arcs, is_legal, cost_of}
use Rattle.wrp_town.proofs.TownLaws.{few_streets, list_all-slice_get, street_of_below, sound_street, arc_of-step_along}
use Rattle.wrp_town.proofs.Members.{inside_cases, inside_none, member_from_any, all_from_members}
use Rattle.wrp_turn.specs.TurnTowns.{is_unservable, is_demanded, arcs_of, place_of, arc_text, turn_text, arc_name, arc_street, turns_of, turn_street, turn_streets, arc_ends, turn_junctions, FitsTurns}
use Rattle.wrp_town_laws.proofs.Lists.{from_filter, slice_get_map, from_map, from_flat}
use Rattle.wrp_town_laws.proofs.OneWay.{cost_of-at}
use Rattle.wrp_town_laws.proofs.Demands.{demands_from-append}
use Rattle.wrp_turn.proofs.Places.{turn_parts, legal_own, place_is, at_place, from_turns}
use Rattle.wrp_turn.proofs.OwnDemands.{no_turn_demands}
use Rattle.wrp_town_laws.proofs.MoreStreets.{more_streets}

-- ---- names of plain bytes

-- a byte that may stand anywhere in a name, and one that isn't a space
abbrev is_ascii_plain : ℕ → Bool
is_ascii_plain b = nat_le 32 b && nat_le b 126

abbrev is_solid : ℕ → Bool
is_solid b = nat_le 33 b && nat_le b 126

plain_byte : (b : ℕ) → is_ascii_plain b ≡ true → is_plain b ≡ true
plain_byte b is =
    let p = and_parts (nat_le 32 b) (nat_le b 126) is in
    let most = leb-true b 126 p.1 in
    and_from (nat_le 32 b) (not (b == 127)) p.0 (ap not (ne_eqb b 127 (λ same. omega arith)))

solid_plain : (b : ℕ) → is_solid b ≡ true → is_ascii_plain b ≡ true
solid_plain b is =
    let p = and_parts (nat_le 33 b) (nat_le b 126) is in
    and_from (nat_le 32 b) (nat_le b 126) (le-leb 32 b (omega (arith, leb-true 33 b p.0))) p.1

solid_bare : (b : ℕ) → is_solid b ≡ true → not (b == 32) ≡ true
solid_bare b is =
    let least = leb-true 33 b (and_parts (nat_le 33 b) (nat_le b 126) is).0 in ap not (ne_eqb b 32 (λ same. omega arith))

all_weaker : (p q : ℕ → Bool) (xs : List ℕ) → ((x : ℕ) → p x ≡ true → q x ≡ true) → list_all p xs ≡ true → list_all q xs ≡ true
all_weaker p q [] weaker all = refl
all_weaker p q (x ∷ xs) weaker all = let parts = and_parts (p x) (list_all p xs) all in and_from (q x) (list_all q xs) (weaker x parts.0) (all_weaker p q xs weaker parts.1)

at_index : (p : ℕ → Bool) (xs : List ℕ) (i : ℕ) → list_all p xs ≡ true → i < length xs → p (get_or xs i 0) ≡ true
at_index p xs i all below = list_all-slice_get p xs i (get_or xs i 0) all (slice_get-get_or xs i 0 below)

plain_ascii : (xs : List ℕ) → list_all is_ascii_plain xs ≡ true → IsAscii xs
plain_ascii xs all i =
    elim (cases_lt i (length xs)) [
      | inl below ↦ (let most = leb-true (get_or xs i 0) 126 (and_parts (nat_le 32 (get_or xs i 0)) (nat_le (get_or xs i 0) 126) (at_index is_ascii_plain xs i all below)).1 in omega arith)
      | inr past ↦ (let none : get_or xs i 0 ≡ 0 = get_or_past xs i 0 past in omega arith)
    ]

name_from : (text : List ℕ) → list_all is_ascii_plain text ≡ true → 0 < length text → length text ≤ 64 → is_solid (get_or text 0 0) ≡ true → is_solid (get_or text (length text - 1) 0) ≡ true → is_name text ≡ true
name_from text all some few first last =
    and_from (is_short_and_plain text) (has_bare_ends text && is_utf8 text)
    (and_from (nat_lt 0 (length text)) (nat_le (length text) 64 && list_all is_plain text) (lt-ltb 0 (length text) some) (and_from (nat_le (length text) 64) (list_all is_plain text) (le-leb (length text) 64 few) (all_weaker is_ascii_plain is_plain text plain_byte all)))
    (and_from (has_bare_ends text) (is_utf8 text)
    (and_from (not (slice_index text 0 == 32)) (not (slice_index text (length text - 1) == 32)) (solid_bare (get_or text 0 0) first) (solid_bare (get_or text (length text - 1) 0) last))
    (is_utf8-from_IsUtf8 text (IsUtf8-from_ascii text (plain_ascii text all))))

name_of_solid : (text : List ℕ) → list_all is_solid text ≡ true → 0 < length text → length text ≤ 64 → is_name text ≡ true
name_of_solid text all some few =
    name_from text (all_weaker is_solid is_ascii_plain text solid_plain all) some few (at_index is_solid text 0 all some) (at_index is_solid text (length text - 1) all (omega arith))

-- ---- the texts of arcs

digit_solid : (n : ℕ) → n < 10 → is_solid (48 + n) ≡ true
digit_solid n small = and_from (nat_le 33 (48 + n)) (nat_le (48 + n) 126) (le-leb 33 (48 + n) (omega arith)) (le-leb (48 + n) 126 (omega arith))

one_solid : (b : ℕ) → is_solid b ≡ true → list_all is_solid (b ∷ []) ≡ true
one_solid b is = and_from (is_solid b) true is refl

decimal_solid : (n : ℕ) → n < 2 ^ 64 → list_all is_solid (decimal n) ≡ true
decimal_solid = decimal_by_steps (λ n ds. list_all is_solid ds ≡ true) (λ n small. one_solid (48 + n) (digit_solid n small))
    (λ n ds big all. list_all-append is_solid ds ((48 + n % 10) ∷ []) ∙ and_from _ _ all (one_solid (48 + n % 10) (digit_solid (n % 10) (omega arith))))

-- the sign of a step
abbrev sign_of : ℕ → List ℕ
sign_of arc = cond {A = List ℕ} (arc % 2 == 1) (45 ∷ []) (43 ∷ [])

one_sign : (b : Bool) → cond {A = List ℕ} b (45 ∷ []) (43 ∷ []) ≡ cond {A = ℕ} b 45 43 ∷ []
one_sign true = refl
one_sign false = refl

sign_solid : (b : Bool) → list_all is_solid (cond {A = List ℕ} b (45 ∷ []) (43 ∷ [])) ≡ true
sign_solid true = refl
sign_solid false = refl

sign_same : (x y : Bool) → cond {A = ℕ} x 45 43 ≡ cond y 45 43 → x ≡ y
sign_same true true same = refl
sign_same true false same = absurd (omega arith)
sign_same false true same = absurd (omega arith)
sign_same false false same = refl

pub record IsText (text : List ℕ) : Type 0 where
  pub solid : list_all is_solid text ≡ true
  pub some : 0 < length text
  pub few : length text ≤ 12

pub arc_is_text : (arc : ℕ) → arc < 8000 → IsText (arc_text arc)
arc_is_text arc small =
    let sign = sign_of arc in
    let long = length-append (decimal (arc / 2)) sign in
    let one : length sign ≡ 1 = ap length (one_sign (arc % 2 == 1)) in
    let few = length-decimal-le 10 (arc / 2) (omega arith) (omega arith) (omega arith) in
    record {
      solid = list_all-append is_solid (decimal (arc / 2)) sign ∙ and_from _ _ (decimal_solid (arc / 2) (omega arith)) (sign_solid (arc % 2 == 1));
      some = omega arith;
      few = omega arith;
    }

pub same_arc_text : (a b : ℕ) → a < 8000 → b < 8000 → arc_text a ≡ arc_text b → a ≡ b
same_arc_text a b a_small b_small same =
    let p = same_from_push (decimal (a / 2)) (decimal (b / 2)) (cond (a % 2 == 1) 45 43) (cond (b % 2 == 1) 45 43)
    (sym (ap (λ sign. decimal (a / 2) ++ sign) (one_sign (a % 2 == 1))) ∙ same ∙ ap (λ sign. decimal (b / 2) ++ sign) (one_sign (b % 2 == 1))) in
    let half : a / 2 ≡ b / 2 = decimal_injective (a / 2) (b / 2) (omega arith) (omega arith) p.0 in
    let odd = sign_same (a % 2 == 1) (b % 2 == 1) p.1 in
    sym (arc_of-step_along a) ∙ ap (λ (s : ℕ). 2 * s + cond (a % 2 == 1) 1 0) half ∙ ap (λ (w : Bool). 2 * (b / 2) + cond w 1 0) odd ∙ arc_of-step_along b

pub end_name : (arc c : ℕ) → arc < 8000 → is_solid c ≡ true → is_name (arc_text arc ++ c ∷ []) ≡ true
end_name arc c small solid =
    let t = arc_is_text arc small in
    let some = t.some in
    let few = t.few in
    let long = length-append (arc_text arc) (c ∷ []) in
    name_of_solid (arc_text arc ++ c ∷ []) (list_all-append is_solid (arc_text arc) (c ∷ []) ∙ and_from _ _ t.solid (one_solid c solid)) (omega arith) (omega arith)

pub two_texts_name : (xs ys : List ℕ) → IsText xs → IsText ys → is_name (xs ++ 32 ∷ ys) ≡ true
two_texts_name xs ys one two =
    let one_some = one.some in
    let one_few = one.few in
    let two_some = two.some in
    let two_few = two.few in
    let long : length (xs ++ 32 ∷ ys) ≡ length xs + length (32 ∷ ys) = length-append xs (32 ∷ ys) in
    let last : get_or (xs ++ 32 ∷ ys) (length (xs ++ 32 ∷ ys) - 1) 0 ≡ get_or (32 ∷ ys) (length (xs ++ 32 ∷ ys) - 1 - length xs) 0 = get_or-append_right xs (32 ∷ ys) (length xs) (length (xs ++ 32 ∷ ys) - 1) 0 refl (omega arith) in
    let place : length (xs ++ 32 ∷ ys) - 1 - length xs ≡ suc (length ys - 1) = omega arith in
    name_from (xs ++ 32 ∷ ys)
    (list_all-append is_ascii_plain xs (32 ∷ ys) ∙ and_from _ _ (all_weaker is_solid is_ascii_plain xs solid_plain one.solid) (all_weaker is_solid is_ascii_plain ys solid_plain two.solid))
    (omega arith) (omega arith)
    (subst (λ b. is_solid b ≡ true) (sym (get_or_append_left xs (32 ∷ ys) 0 0 one.some)) (at_index is_solid xs 0 one.solid one.some))
    (subst (λ b. is_solid b ≡ true) (sym (last ∙ ap (λ i. get_or (32 ∷ ys) i 0) place)) (at_index is_solid ys (length ys - 1) two.solid (omega arith)))

-- ---- the names of junctions differ

range_bounds : (s n x : ℕ) → Contains (range_with_len s n) x → (s ≤ x) × (x < s + n)
range_bounds s zero x inside = absurd (inside_none x inside)
range_bounds s (suc n) x inside =
    inside_cases ((s ≤ x) × (x < s + suc n)) s (range_with_len (s + 1) n) x inside (λ same. (omega arith, omega arith))
    (λ other. let r = range_bounds (s + 1) n x other in (omega (arith, r.0), omega (arith, r.1)))

none_equal : (name : List ℕ) (names : List (List ℕ)) → ((x : List ℕ) → Contains names x → name ≡ x → ⊥) → list_any (bytes_eq name) names ≡ false
none_equal name names each = elim (cases_Bool (list_any (bytes_eq name) names)) [
  | inl some ↦ (let m = member_from_any (bytes_eq name) names some in absurd (each m.0 m.1 ((bytes_eq-Decides name m.0).0 m.2)))
  | inr none ↦ none
]

end_of_arc : (a b : ℕ) (c : ℕ) (x : List ℕ) → a < 8000 → b < 8000 → Contains (arc_ends b) x → (arc_text a ++ c ∷ []) ≡ x → a ≡ b
end_of_arc a b c x a_small b_small inside same =
    inside_cases (a ≡ b) (arc_text b ++ 105 ∷ []) ((arc_text b ++ 111 ∷ []) ∷ []) x inside
    (λ first. same_arc_text a b a_small b_small (same_from_push (arc_text a) (arc_text b) c 105 (same ∙ sym first)).0)
    (λ other. inside_cases (a ≡ b) (arc_text b ++ 111 ∷ []) [] x other
    (λ second. same_arc_text a b a_small b_small (same_from_push (arc_text a) (arc_text b) c 111 (same ∙ sym second)).0) (λ none. absurd (inside_none x none)))

different_if : (s : ℕ) (rest : List ℕ) (w : Bool) → s < 8000 → ((b : ℕ) → Contains rest b → (s < b) × (b < 8000)) → are_different (flat_map arc_ends rest) ≡ true → are_different (flat_map arc_ends (cond w (s ∷ rest) rest)) ≡ true
different_if s rest false small each before = before
different_if s rest true small each before =
    let later : ((c : ℕ) (x : List ℕ) → Contains (flat_map arc_ends rest) x → (arc_text s ++ c ∷ []) ≡ x → ⊥) =
    λ c x inside same. (let f = from_flat arc_ends rest x inside in let r = each f.0 f.1 in let at = end_of_arc s f.0 c x small r.1 f.2 same in omega (arith, r.0)) in
    and_from _ _
    (ap not (none_equal (arc_text s ++ 105 ∷ []) ((arc_text s ++ 111 ∷ []) ∷ flat_map arc_ends rest) (λ x inside same.
    inside_cases ⊥ (arc_text s ++ 111 ∷ []) (flat_map arc_ends rest) x inside
    (λ first. let c : 105 ≡ 111 = (same_from_push (arc_text s) (arc_text s) 105 111 (same ∙ sym first)).1 in omega arith)
    (λ other. later 105 x other same))))
    (and_from _ _ (ap not (none_equal (arc_text s ++ 111 ∷ []) (flat_map arc_ends rest) (later 111))) before)

different_ends : (p : ℕ → Bool) (s n : ℕ) → s + n ≤ 8000 → are_different (flat_map arc_ends (filter p (range_with_len s n))) ≡ true
different_ends p s zero small = refl
different_ends p s (suc n) small =
    different_if s (filter p (range_with_len (s + 1) n)) (p s) (omega arith)
    (λ b inside. let r = range_bounds (s + 1) n b (from_filter p (range_with_len (s + 1) n) b inside).0 in (omega (arith, r.0), omega (arith, r.1)))
    (different_ends p (s + 1) n (omega arith))

-- ---- the junctions and streets of a turn town

length-ends : (xs : List ℕ) → length (flat_map arc_ends xs) ≡ 2 * length xs
length-ends [] = refl
length-ends (x ∷ xs) = omega (arith, length-ends xs)

ends_in_order : (town : Town) (n s : ℕ) (xs : List ℕ) → n ≡ 2 * (s + length xs) → ((k x t : ℕ) → t ≡ s + k → slice_get xs k ≡ Some x → place_of town x ≡ t) → come_in_order n (2 * s) (ends_of (map (arc_street town) xs)) ≡ true
ends_in_order town n s [] long each = eq-eqb (2 * s) n (omega arith)
ends_in_order town n s (x ∷ xs) long each =
    let place = each 0 x s (omega arith) refl in
    let first : max (2 * s) (2 * place_of town x + 1) ≡ 2 * s + 1 = omega arith in
    let second : max (2 * s + 1) (2 * place_of town x + 1 + 1) ≡ 2 * (s + 1) = omega arith in
    and_from _ _ (le-leb (2 * place_of town x) (2 * s) (omega arith))
    (subst (λ m. (nat_le (2 * place_of town x + 1) m && come_in_order n (max m (2 * place_of town x + 1 + 1)) (ends_of (map (arc_street town) xs))) ≡ true) (sym first)
    (and_from _ _ (le-leb (2 * place_of town x + 1) (2 * s + 1) (omega arith))
    (subst (λ m. come_in_order n m (ends_of (map (arc_street town) xs)) ≡ true) (sym second)
    (ends_in_order town n (s + 1) xs (omega arith) (λ k y t at is. each (suc k) y t (omega arith) is)))))

few_if : (s : ℕ) (w : Bool) → length (demands_at s (cond w Either No)) ≤ 1
few_if s true = omega arith
few_if s false = omega arith

few_arc_demands : (town : Town) (s : ℕ) (xs : List ℕ) → length (demands_from s (map (arc_street town) xs)) ≤ length xs
few_arc_demands town s [] = omega arith
few_arc_demands town s (x ∷ xs) =
    omega (arith, length-append (demands_at s (cond (is_demanded town x) Either No)) (demands_from (s + 1) (map (arc_street town) xs)), few_if s (is_demanded town x), few_arc_demands town (s + 1) xs)

cond-cost : (w : Bool) (there back : Option ℕ) → is_cost there ≡ true → is_cost back ≡ true → is_cost (cond w there back) ≡ true
cond-cost true there back one two = one
cond-cost false there back one two = two

module _ (town : Town) where
  pub own_below : (arc : ℕ) → Contains (arcs_of town) arc → arc < 2 * length town.streets
  own_below arc own = omega (arith, (range_bounds 0 (2 * length town.streets) arc (from_filter (λ a. is_legal town a || is_unservable town a) (arcs town) arc own).0).1)

  pub own_small : (arc : ℕ) → Contains (arcs_of town) arc → arc < 8000
  own_small arc own = omega (arith, own_below arc own, few_streets town)

  many_ends : length (turn_junctions town) ≡ 2 * length (arcs_of town)
  many_ends = length-ends (arcs_of town)

  own_place : (arc : ℕ) → Contains (arcs_of town) arc → place_of town arc < length (arcs_of town)
  own_place arc own = slice_get_within (arcs_of town) (place_of town arc) arc (at_place town arc own)

  street_sound : (name : List ℕ) (forward : Option ℕ) (from to : ℕ) → is_name name ≡ true → is_cost forward ≡ true → from < length (turn_junctions town) → to < length (turn_junctions town)
      → ((((is_name name && is_cost forward) && is_cost None) && nat_lt from (length (turn_junctions town))) && nat_lt to (length (turn_junctions town))) ≡ true
  street_sound name forward from to named cost from_below to_below =
      and_from _ _ (and_from _ _ (and_from _ _ (and_from _ _ named cost) refl) (lt-ltb from (length (turn_junctions town)) from_below)) (lt-ltb to (length (turn_junctions town)) to_below)

  arc_sound : (arc : ℕ) → Contains (arcs_of town) arc → is_street (length (turn_junctions town)) (arc_street town arc) ≡ true
  arc_sound arc own =
      let s = street_of_below town arc (own_below arc own) in
      let sound = sound_street town (arc / 2) s.0 s.1 in
      let name : arc_name town arc ≡ s.0.name = get_or_from_slice_get (map (λ street. street.name) town.streets) (arc / 2) s.0.name [] (slice_get_map (λ street. street.name) town.streets (arc / 2) s.0 s.1) in
      let place = own_place arc own in
      street_sound (arc_name town arc) (cost_of town arc) (2 * place_of town arc) (2 * place_of town arc + 1)
      (subst (λ t. is_name t ≡ true) (sym name) sound.named)
      (subst (λ c. is_cost c ≡ true) (sym (cost_of-at town arc s.0 s.1)) (cond-cost (arc % 2 == 0) s.0.forward s.0.backward sound.forward sound.backward))
      (omega (arith, many_ends)) (omega (arith, many_ends))

  turn_sound : (bans : List (ℕ × ℕ)) (turn : ℕ × ℕ) → Contains (turns_of town bans) turn → is_street (length (turn_junctions town)) (turn_street town turn) ≡ true
  turn_sound bans turn inside =
      let parts = turn_parts town bans turn.0 turn.1 (from_turns town bans turn inside) in
      let first = legal_own town turn.0 parts.first in
      let second = legal_own town turn.1 parts.second in
      let from = own_place turn.0 first in
      let to = own_place turn.1 second in
      street_sound (turn_text turn) (Some 0) (2 * place_of town turn.0 + 1) (2 * place_of town turn.1)
      (two_texts_name (arc_text turn.0) (arc_text turn.1) (arc_is_text turn.0 (own_small turn.0 first)) (arc_is_text turn.1 (own_small turn.1 second)))
      refl (omega (arith, many_ends)) (omega (arith, many_ends))

  end_named : (name : List ℕ) → Contains (turn_junctions town) name → is_name name ≡ true
  end_named name inside =
      let f = from_flat arc_ends (arcs_of town) name inside in
      inside_cases (is_name name ≡ true) (arc_text f.0 ++ 105 ∷ []) ((arc_text f.0 ++ 111 ∷ []) ∷ []) name f.2
      (λ same. subst (λ t. is_name t ≡ true) same (end_name f.0 105 (own_small f.0 f.1) refl))
      (λ other. inside_cases (is_name name ≡ true) (arc_text f.0 ++ 111 ∷ []) [] name other (λ same. subst (λ t. is_name t ≡ true) same (end_name f.0 111 (own_small f.0 f.1) refl)) (λ none. absurd (inside_none name none)))

  arcs_town : 2 * length (arcs_of town) ≤ 2000 → IsTown (turn_junctions town) (map (arc_street town) (arcs_of town))
  arcs_town few = record {
    few_junctions = omega (arith, many_ends);
    few_streets = omega (arith, length-map (arcs_of town) (arc_street town));
    few_demands = omega (arith, few_arc_demands town 0 (arcs_of town));
    named = all_from_members is_name (turn_junctions town) end_named;
    different = different_ends (λ a. is_legal town a || is_unservable town a) 0 (2 * length town.streets) (omega (arith, few_streets town));
    sound = all_from_members (is_street (length (turn_junctions town))) (map (arc_street town) (arcs_of town))
        (λ street inside. let m = from_map (arc_street town) (arcs_of town) street inside in subst (λ s. is_street (length (turn_junctions town)) s ≡ true) m.2 (arc_sound m.0 m.1));
    in_order = ends_in_order town (length (turn_junctions town)) 0 (arcs_of town) (omega (arith, many_ends)) (λ k x t at is. place_is town k x is ∙ sym (omega (arith, at)));
  }

  pub turn_town : (bans : List (ℕ × ℕ)) → FitsTurns town bans → IsTown (turn_junctions town) (turn_streets town bans)
  turn_town bans fits =
      more_streets (turn_junctions town) (map (arc_street town) (arcs_of town)) (map (turn_street town) (turns_of town bans)) (arcs_town fits.few_junctions)
      (all_from_members (is_street (length (turn_junctions town))) (map (turn_street town) (turns_of town bans))
      (λ street inside. let m = from_map (turn_street town) (turns_of town bans) street inside in subst (λ s. is_street (length (turn_junctions town)) s ≡ true) m.2 (turn_sound bans m.0 m.1)))
      (omega (arith, length-append (map (arc_street town) (arcs_of town)) (map (turn_street town) (turns_of town bans)), length-map (arcs_of town) (arc_street town), length-map (turns_of town bans) (turn_street town), fits.few_streets))
      (omega (arith, ap length (demands_from-append 0 (map (arc_street town) (arcs_of town)) (map (turn_street town) (turns_of town bans))), length-append (demands_from 0 (map (arc_street town) (arcs_of town))) (demands_from (0 + length (map (arc_street town) (arcs_of town))) (map (turn_street town) (turns_of town bans))), ap length (no_turn_demands town (0 + length (map (arc_street town) (arcs_of town))) (turns_of town bans)), few_arc_demands town 0 (arcs_of town), fits.few_junctions))
