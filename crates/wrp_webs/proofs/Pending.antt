-- The search for a light odd set: what awaits it, what each step leaves, and that it ends.
use Rattle.std.proofs.Common.{◌≡◌, ℕ, ◌+◌, ◌-◌, ◌*◌, ◌%◌, ◌<◌, ◌≤◌, Bool, cond, not, ◌==◌, List, [], ◌∷◌, ◌++◌, Contains, ap, refl, sym, ◌∙◌, subst, inl, inr, ◌⊎◌, arith, eq-eqb}
use Rattle.std.proofs.lemmas.List.Elements.{Contains-append_cases, Contains-append_left, Contains-append_right}
use Rattle.std.proofs.lemmas.List.Sums.{sum_by-append, sum_by-cons}
use Rattle.std.proofs.lemmas.Bool.{cases_lt}
use Rattle.wrp_town.proofs.Members.{inside_head, inside_cases, inside_none}
use Rattle.wrp_webs.specs.Webs.{Web, outside, cut, degrees, IsWeb, IsOdd, IsMerge, class, Keeps, odd_nodes, IsLeastSplit, shrunk, IsWithin, IsLeastOdd}
use Rattle.wrp_webs.specs.Searching.{HasBelow, Awaits, work}
use Rattle.wrp_webs.proofs.SumsBelow.{same_sum, term_sum}
use Rattle.wrp_webs.proofs.Uncrossing.{same_degrees}
use Rattle.wrp_webs.proofs.Splitting.{odd_node_in, least_split_bounds, odd_on_a_side, keeps_outside}
use Rattle.wrp_webs.proofs.Shrinking.{shrunk_keeps}

-- ---- the same classes, told by two maps

pub keeps_same : (web : Web) (at other : ℕ → ℕ) (set : ℕ → Bool) → ((j : ℕ) → j < web.junctions → at j ≡ other j) → Keeps web at set → Keeps web other set
keeps_same web at other set same keeps = λ j below. ap set (sym (same j below)) ∙ keeps j below

pub merge_same : (web : Web) (at other : ℕ → ℕ) → ((j : ℕ) → j < web.junctions → at j ≡ other j) → IsMerge web at → IsMerge web other
merge_same web at other same is = record {
  below = λ j less. subst (λ (k : ℕ). k < web.junctions) (same j less) (is.below j less);
  still = λ j less. ap other (sym (same j less)) ∙ sym (same (at j) (is.below j less)) ∙ is.still j less ∙ same j less;
}

pub nodes_same : (web : Web) (at other : ℕ → ℕ) → ((j : ℕ) → j < web.junctions → at j ≡ other j) → odd_nodes web at ≡ odd_nodes web other
nodes_same web at other same =
    same_sum (λ r. cond (degrees web (class at r) % 2 == 1) 1 0) (λ r. cond (degrees web (class other r) % 2 == 1) 1 0) web.junctions
    (λ r below. ap (λ (n : ℕ). cond {A = ℕ} (n % 2 == 1) 1 0) (same_degrees web (class at r) (class other r) (λ j less. ap (λ (k : ℕ). k == r) (same j less))))

pub has_below_same : (web : Web) (bound : ℕ) (at other : ℕ → ℕ) → ((j : ℕ) → j < web.junctions → at j ≡ other j) → HasBelow web bound at → HasBelow web bound other
has_below_same web bound at other same has = record { set = has.set; keeps = keeps_same web at other has.set same has.keeps; odd = has.odd; lighter = has.lighter }

-- ---- one web

-- without an odd node there is no odd set
pub none_without_nodes : (web : Web) (bound : ℕ) (at : ℕ → ℕ) → IsMerge web at → odd_nodes web at ≡ 0 → HasBelow web bound at → ⊥
none_without_nodes web bound at merge none has =
    let node = odd_node_in web at merge has.set has.keeps has.odd in
    absurd
    (omega (
      arith,
      term_sum (λ r. cond (degrees web (class at r) % 2 == 1) 1 0) node.0 web.junctions node.2.below,
      ap (λ (b : Bool). cond {A = ℕ} b 1 0) (eq-eqb (degrees web (class at node.0) % 2) 1 node.2.odd),
    ))

-- nor a light one where the least split isn't light
pub none_when_heavy : (web : Web) (bound : ℕ) (at : ℕ → ℕ) (u : ℕ → Bool) (s t : ℕ) → IsWeb web → IsMerge web at → IsLeastSplit web at u s t → bound ≤ cut web u → HasBelow web bound at → ⊥
none_when_heavy web bound at u s t is merge least heavy has =
    absurd (omega (arith, has.lighter, least_split_bounds web at merge u s t has.set is least has.keeps has.odd))

-- where the least split is even, one of the two smaller webs has one
pub one_of_two : (web : Web) (bound : ℕ) (at : ℕ → ℕ) (u : ℕ → Bool) (s t : ℕ) → IsWeb web → IsMerge web at → IsLeastSplit web at u s t → degrees web u % 2 ≡ 0
    → HasBelow web bound at → HasBelow web bound (shrunk at u t) ⊎ HasBelow web bound (shrunk at (outside u) s)
one_of_two web bound at u s t is merge least even has = by (odd_on_a_side web at merge u s t has.set is least even has.keeps has.odd)
  where
    by : IsWithin web at u has.set ⊎ IsWithin web at (outside u) has.set → HasBelow web bound (shrunk at u t) ⊎ HasBelow web bound (shrunk at (outside u) s)
    by (inl w) = inl (record {
      set = w.inner;
      keeps = shrunk_keeps web at merge u t least.split.keeps least.split.second.below least.split.leaves_out w.inner w.keeps w.within;
      odd = w.odd;
      lighter = omega (arith, w.lighter, has.lighter);
    })
    by (inr w) = inr (record {
      set = w.inner;
      keeps = shrunk_keeps web at merge (outside u) s (keeps_outside web at merge u least.split.keeps) least.split.first.below (ap not least.split.holds) w.inner w.keeps w.within;
      odd = w.odd;
      lighter = omega (arith, w.lighter, has.lighter);
    })

-- ---- the search

pub awaits_first : (web : Web) (bound : ℕ) → Awaits web bound ((λ j. j) ∷ [])
awaits_first web bound = λ set odd lighter. ((λ j. j), inside_head (λ (j : ℕ). j) [], record { set = set; keeps = λ j below. refl; odd = odd; lighter = lighter })

-- where nothing awaits the search any more, no odd set is light
pub none_awaits : (web : Web) (bound : ℕ) → Awaits web bound [] → (set : ℕ → Bool) → IsOdd web set → bound ≤ cut web set
none_awaits web bound awaits set odd =
    elim (cases_lt (cut web set) bound) [ inl light ↦ (let m = awaits set odd light in absurd (inside_none m.0 m.1)) | inr heavy ↦ omega arith ]

pub awaits_dropped : (web : Web) (bound : ℕ) (rest : List (ℕ → ℕ)) (at : ℕ → ℕ) → (HasBelow web bound at → ⊥) → Awaits web bound (rest ++ at ∷ []) → Awaits web bound rest
awaits_dropped web bound rest at none awaits = λ set odd light. by (awaits set odd light)
  where
    by : (x : ℕ → ℕ) × (Contains (rest ++ at ∷ []) x) × (HasBelow web bound x) → (x : ℕ → ℕ) × (Contains rest x) × (HasBelow web bound x)
    by (x, inside, has) =
        elim (Contains-append_cases rest (at ∷ []) x inside) [
          | inl here ↦ (x, here, has)
          | inr last ↦ inside_cases ((y : ℕ → ℕ) × (Contains rest y) × (HasBelow web bound y)) at [] x last (λ same. absurd (none (subst (λ (y : ℕ → ℕ). HasBelow web bound y) (sym same) has))) (λ other. absurd (inside_none x other))
        ]

pub awaits_split : (web : Web) (bound : ℕ) (rest : List (ℕ → ℕ)) (at one two : ℕ → ℕ) → (HasBelow web bound at → HasBelow web bound one ⊎ HasBelow web bound two)
    → Awaits web bound (rest ++ at ∷ []) → Awaits web bound ((rest ++ one ∷ []) ++ two ∷ [])
awaits_split web bound rest at one two parted awaits = λ set odd light. by (awaits set odd light)
  where
    goal : Type 0
    goal = (x : ℕ → ℕ) × (Contains ((rest ++ one ∷ []) ++ two ∷ []) x) × (HasBelow web bound x)

    either_of : HasBelow web bound one ⊎ HasBelow web bound two → (x : ℕ → ℕ) × (Contains ((rest ++ one ∷ []) ++ two ∷ []) x) × (HasBelow web bound x)
    either_of (inl has) = (one, Contains-append_left (rest ++ one ∷ []) (two ∷ []) one (Contains-append_right rest (one ∷ []) one (inside_head one [])), has)
    either_of (inr has) = (two, Contains-append_right (rest ++ one ∷ []) (two ∷ []) two (inside_head two []), has)

    by : (x : ℕ → ℕ) × (Contains (rest ++ at ∷ []) x) × (HasBelow web bound x) → (x : ℕ → ℕ) × (Contains ((rest ++ one ∷ []) ++ two ∷ []) x) × (HasBelow web bound x)
    by (x, inside, has) =
        elim (Contains-append_cases rest (at ∷ []) x inside) [
          | inl here ↦ (x, Contains-append_left (rest ++ one ∷ []) (two ∷ []) x (Contains-append_left rest (one ∷ []) x here), has)
          | inr last ↦ inside_cases ((y : ℕ → ℕ) × (Contains ((rest ++ one ∷ []) ++ two ∷ []) y) × (HasBelow web bound y)) at [] x last (λ same. either_of (parted (subst (λ (y : ℕ → ℕ). HasBelow web bound y) (sym same) has))) (λ other. absurd (inside_none x other))
        ]

-- ---- it ends

work_last : (web : Web) (rest : List (ℕ → ℕ)) (at : ℕ → ℕ) → work web (rest ++ at ∷ []) ≡ work web rest + (2 * odd_nodes web at - 1)
work_last web rest at =
    omega (arith, sum_by-append (λ (a : ℕ → ℕ). 2 * odd_nodes web a - 1) rest (at ∷ []), sum_by-cons (λ (a : ℕ → ℕ). 2 * odd_nodes web a - 1) at [])

pub work_dropped : (web : Web) (rest : List (ℕ → ℕ)) (at : ℕ → ℕ) → 0 < odd_nodes web at → work web rest < work web (rest ++ at ∷ [])
work_dropped web rest at some = omega (arith, work_last web rest at)

pub work_split : (web : Web) (rest : List (ℕ → ℕ)) (at one two : ℕ → ℕ) → odd_nodes web one + odd_nodes web two ≡ odd_nodes web at → 0 < odd_nodes web one → 0 < odd_nodes web two
    → work web ((rest ++ one ∷ []) ++ two ∷ []) < work web (rest ++ at ∷ [])
work_split web rest at one two count first second = omega (arith, work_last web rest at, work_last web (rest ++ one ∷ []) two, work_last web rest one)

-- ---- the least of the answers

pub least_when_odd : (web : Web) (at : ℕ → ℕ) (u : ℕ → Bool) (s t : ℕ) → IsWeb web → IsMerge web at → IsLeastSplit web at u s t → IsOdd web u → IsLeastOdd web at u
least_when_odd web at u s t is merge least odd = record { odd = odd; least = λ other keeps is_odd. least_split_bounds web at merge u s t other is least keeps is_odd }

pub least_of_two : (web : Web) (at : ℕ → ℕ) (u : ℕ → Bool) (s t : ℕ) (a b : ℕ → Bool) → IsWeb web → IsMerge web at → IsLeastSplit web at u s t → degrees web u % 2 ≡ 0
    → IsLeastOdd web (shrunk at u t) a → IsLeastOdd web (shrunk at (outside u) s) b → (cut web a ≤ cut web b → IsLeastOdd web at a) × (cut web b ≤ cut web a → IsLeastOdd web at b)
least_of_two web at u s t a b is merge split even first second = (
  (λ h. record { odd = first.odd; least = λ other keeps odd. (by other (one_of_two web (cut web other + 1) at u s t is merge split even (here other keeps odd))).0 h }),
  (λ h. record { odd = second.odd; least = λ other keeps odd. (by other (one_of_two web (cut web other + 1) at u s t is merge split even (here other keeps odd))).1 h }),
)
  where
    here : (other : ℕ → Bool) → Keeps web at other → IsOdd web other → HasBelow web (cut web other + 1) at
    here other keeps odd = record { set = other; keeps = keeps; odd = odd; lighter = omega arith }

    by : (other : ℕ → Bool) → HasBelow web (cut web other + 1) (shrunk at u t) ⊎ HasBelow web (cut web other + 1) (shrunk at (outside u) s)
        → (cut web a ≤ cut web b → cut web a ≤ cut web other) × (cut web b ≤ cut web a → cut web b ≤ cut web other)
    by other (inl has) = let l = first.least has.set has.keeps has.odd in let r = has.lighter in ((λ h. omega arith), (λ h. omega arith))
    by other (inr has) = let l = second.least has.set has.keeps has.odd in let r = has.lighter in ((λ h. omega arith), (λ h. omega arith))
