-- The demands of a town and their streets.
use Rattle.std.proofs.Common.{◌≡◌, ℕ, suc, ◌+◌, ◌*◌, ◌/◌, ◌%◌, ◌<◌, Bool, true, false, not, ◌&&◌, ◌==◌, List, [], ◌∷◌, length, get_or, drop, Contains, Option, Some, None, refl, sym, ap, ◌∙◌, subst, inl, inr, arith, eq-eqb, cond}
use Rattle.std.specs.Prelude.{slice_get, slice_index, ◌⊎◌}
use Rattle.std.specs.Option.{option_map_or}
use Rattle.std.specs.List.{list_all, list_any}
use Rattle.std.proofs.lemmas.Bool.{cases_Bool, cases_eq, and_parts, ne_eqb, false≢true, true≢false}
use Rattle.std.proofs.lemmas.List.Elements.{Contains-append_cases}
use Rattle.wrp_town.specs.declared.street.Street.{Street}
use Rattle.wrp_town.specs.declared.town.Town.{Town}
use Rattle.wrp_town.specs.Streets.{demands_at, demands_from}
use Rattle.wrp_town.specs.Arcs.{is_legal, tail_of, head_of, demands, is_required, street_of}
use Rattle.wrp_town.proofs.Members.{inside_head, inside_tail, inside_none, any_from_member, all_from_members}
use Rattle.wrp_town.proofs.ServiceLaws.{demand_arc_street}
use Rattle.wrp_town.proofs.DemandLaws.{length-demands_from-drop_read}
use Rattle.wrp_town.proofs.TownLaws.{tail_of-at, head_of-at}
use Rattle.std.proofs.lemmas.Option.{slice_get_within}
use Rattle.wrp_rules.specs.Rules.{keeps_label, leaves_label, breaks_label}
use Rattle.wrp_laws.proofs.Crossings.{demand_there}

-- a demand and its street
pub record IsOf (s : ℕ) (streets : List Street) (d : List ℕ) : Type 0 where
  pub number : ℕ
  pub street : Street
  pub is : slice_get streets number ≡ Some street
  pub there : Contains (demands_at (s + number) street.need) d

pub street_of_demand : (s : ℕ) (streets : List Street) (d : List ℕ) → Contains (demands_from s streets) d → IsOf s streets d
street_of_demand s [] d inside = absurd (inside_none d inside)
street_of_demand s (street ∷ streets) d inside =
    elim (Contains-append_cases (demands_at s street.need) (demands_from (s + 1) streets) d inside) [
      | inl here ↦ record { number = 0; street = street; is = refl; there = subst (λ k. Contains (demands_at k street.need) d) (omega arith) here }
      | inr later ↦ (
          let o = street_of_demand (s + 1) streets d later in
          record { number = suc o.number; street = o.street; is = o.is; there = subst (λ k. Contains (demands_at k o.street.need) d) (omega arith) o.there }
          )
    ]

-- where not all fail, one passes
pub one_passes : (p : ℕ → Bool) (xs : List ℕ) → list_all (λ x. not (p x)) xs ≡ false → (x : ℕ) × (Contains xs x) × (p x ≡ true)
one_passes p [] none = absurd (true≢false none)
one_passes p (x ∷ xs) none = elim (cases_Bool (p x)) [
  | inl here ↦ (x, inside_head x xs, here)
  | inr fails ↦ (let o = one_passes p xs (subst (λ (b : Bool). (not b && list_all (λ y. not (p y)) xs) ≡ false) fails none) in (o.0, inside_tail x xs o.0 o.1, o.2))
]

-- a legal arc of the demand within the label
pub record IsWithin (town : Town) (labels : List ℕ) (label : ℕ) (d : List ℕ) : Type 0 where
  pub arc : ℕ
  pub inside : Contains d arc
  pub legal : is_legal town arc ≡ true
  pub keeps : keeps_label town labels label arc ≡ true

fails : (p : List ℕ → Bool) (xs : List (List ℕ)) (x : List ℕ) → list_any p xs ≡ false → Contains xs x → p x ≡ false
fails p xs x none inside = elim (cases_Bool (p x)) [ inl passes ↦ absurd (true≢false (sym (any_from_member p xs x inside passes) ∙ none)) | inr bad ↦ bad ]

-- where no street breaks the label, each demand has such an arc
pub demand_within : (town : Town) (labels : List ℕ) (label : ℕ) (d : List ℕ) → ((s : ℕ) → s < length town.streets → breaks_label town labels label s ≡ false) → Contains (demands town) d → IsWithin town labels label d
demand_within town labels label d none inside =
    let o = street_of_demand 0 town.streets d inside in
    let there = subst (λ k. Contains (demands_at k o.street.need) d) (omega arith) o.there in
    let test = λ (x : Option Street). option_map_or (λ s. list_any (leaves_label town labels label) (demands_at o.number s.need)) x false in
    let unbroken : test (Some o.street) ≡ false = ap test (sym o.is) ∙ none o.number (slice_get_within town.streets o.number o.street o.is) in
    let w = one_passes (λ arc. is_legal town arc && keeps_label town labels label arc) d (fails (leaves_label town labels label) (demands_at o.number o.street.need) d unbroken there) in
    let both = and_parts (is_legal town w.0) (keeps_label town labels label w.0) w.2 in
    record { arc = w.0; inside = w.1; legal = both.0; keeps = both.1 }

-- ---- a required street breaks every label but that of its first end

-- the first demand of a required street
record IsFirst (town : Town) (s : ℕ) : Type 0 where
  street : Street
  is : slice_get town.streets s ≡ Some street
  demand : List ℕ
  there : Contains (demands_at s street.need) demand

first_of_some : (xs : List (List ℕ)) → not (length xs == 0) ≡ true → (x : List ℕ) × (Contains xs x)
first_of_some [] some = absurd (false≢true some)
first_of_some (x ∷ xs) some = (x, inside_head x xs)

first_demand : (town : Town) (s : ℕ) → is_required town s ≡ true → IsFirst town s
first_demand town s required = by (slice_get town.streets s) refl required
  where
    by : (o : Option Street) → slice_get town.streets s ≡ o → option_map_or (λ x. not (length (demands_at s x.need) == 0)) o false ≡ true → IsFirst town s
    by None e h = absurd (false≢true h)
    by (Some street) e h = let f = first_of_some (demands_at s street.need) h in record { street = street; is = e; demand = f.0; there = f.1 }

-- an arc of a street ends where the street begins
ends_there : (town : Town) (s arc : ℕ) (street : Street) → slice_get town.streets s ≡ Some street → arc / 2 ≡ s → (tail_of town arc ≡ tail_of town (2 * s)) ⊎ (head_of town arc ≡ tail_of town (2 * s))
ends_there town s arc street is half =
    let at : street_of town arc ≡ Some street = ap (slice_get town.streets) half ∙ is in
    let first : street_of town (2 * s) ≡ Some street = ap (slice_get town.streets) (omega arith) ∙ is in
    let begins : tail_of town (2 * s) ≡ street.from = tail_of-at town (2 * s) street first ∙ ap (λ (b : Bool). cond b street.from street.to) (eq-eqb ((2 * s) % 2) 0 (omega arith)) in
    elim (cases_eq (arc % 2) 0) [
      | inl even ↦ inl (tail_of-at town arc street at ∙ ap (λ (b : Bool). cond b street.from street.to) (eq-eqb (arc % 2) 0 even) ∙ sym begins)
      | inr odd ↦ inr (head_of-at town arc street at ∙ ap (λ (b : Bool). cond b street.to street.from) (ne_eqb (arc % 2) 0 odd) ∙ sym begins)
    ]

no_label : (legal first second : Bool) → (first ≡ false) ⊎ (second ≡ false) → not (legal && (first && second)) ≡ true
no_label false first second either = refl
no_label true false second either = refl
no_label true true false either = refl
no_label true true true either = elim either [ inl bad ↦ absurd (true≢false bad) | inr bad ↦ absurd (true≢false bad) ]

pub breaks_others : (town : Town) (labels : List ℕ) (s label : ℕ) → is_required town s ≡ true → (label ≡ slice_index labels (tail_of town (2 * s)) → ⊥) → breaks_label town labels label s ≡ true
breaks_others town labels s label required differs =
    let f = first_demand town s required in
    let differ : (j : ℕ) → j ≡ tail_of town (2 * s) → (slice_index labels j == label) ≡ false = λ j same. ne_eqb (slice_index labels j) label (λ is. differs (sym is ∙ ap (slice_index labels) same)) in
    let left : leaves_label town labels label f.demand ≡ true = all_from_members (λ arc. not (is_legal town arc && keeps_label town labels label arc)) f.demand (λ arc inside.
    no_label (is_legal town arc) (slice_index labels (tail_of town arc) == label) (slice_index labels (head_of town arc) == label)
    (elim (ends_there town s arc f.street f.is (demand_arc_street s f.street.need f.demand arc f.there inside)) [
      | inl tail ↦ inl (differ (tail_of town arc) tail)
      | inr head ↦ inr (differ (head_of town arc) head)
    ])) in
    let test = λ (x : Option Street). option_map_or (λ street. list_any (leaves_label town labels label) (demands_at s street.need)) x false in
    ap test f.is ∙ any_from_member (leaves_label town labels label) (demands_at s f.street.need) f.demand f.there left

-- some demand is there where a street has one
pub some_demand : (town : Town) (s : ℕ) → is_required town s ≡ true → 0 < length (demands town)
some_demand town s required =
    let f = first_demand town s required in
    let c = demand_there 0 s town.streets f.street f.demand f.is (subst (λ k. Contains (demands_at k f.street.need) f.demand) (omega arith) f.there) in
    omega (arith, c.1)

pub required_there : (town : Town) (s : ℕ) → is_required town s ≡ true → s < length town.streets
required_there town s required = let f = first_demand town s required in slice_get_within town.streets s f.street f.is

-- no street so far has a demand
pub fewer_demands : (streets items : List Street) (i : ℕ) (street : Street) → items ≡ streets → i < length items → street ≡ get_or items i street → length (demands_at i street.need) ≡ 0 → length (demands_from i (drop i streets)) ≡ length (demands_from (i + 1) (drop (i + 1) streets))
fewer_demands streets items i street same below is none = omega (arith, length-demands_from-drop_read streets items i street same below is)
