-- The steps of the search over maps that are lists.
use Rattle.std.proofs.Common.{◌≡◌, ℕ, ◌+◌, ◌%◌, ◌<◌, ◌≤◌, Bool, List, [], ◌∷◌, ◌++◌, length, map, ap, refl, sym, ◌∙◌, subst, inl, inr, ◌⊎◌, arith}
use Rattle.std.proofs.lemmas.List.Elements.{Contains-append_cases, Contains-append_left, Contains-append_right}
use Rattle.std.proofs.lemmas.Bool.{cases_lt}
use Rattle.wrp_town.proofs.Members.{inside_head, inside_cases, inside_none}
use Rattle.wrp_webs.specs.Webs.{Web, outside, cut, degrees, IsWeb, IsOdd, odd_nodes, IsLeastSplit, shrunk, AreShrunk}
use Rattle.wrp_webs.specs.Searching.{HasBelow, Awaits, work, reading, IsPending, IsSearch, IsShrunkTo}
use Rattle.wrp_webs.proofs.Shrinking.{are_shrunk}
use Rattle.wrp_webs.proofs.Pending.{none_without_nodes, merge_same, nodes_same, has_below_same, none_when_heavy, one_of_two, none_awaits, awaits_dropped, awaits_split, work_dropped, work_split}

map_last : {X Y : Type 0} (f : X → Y) (xs : List X) (x : X) → map f (xs ++ x ∷ []) ≡ map f xs ++ f x ∷ []
map_last f [] x = refl
map_last f (y ∷ xs) x = ap (λ ys. f y ∷ ys) (map_last f xs x)

map_two : {X Y : Type 0} (f : X → Y) (xs : List X) (x y : X) → map f ((xs ++ x ∷ []) ++ y ∷ []) ≡ (map f xs ++ f x ∷ []) ++ f y ∷ []
map_two f xs x y = map_last f (xs ++ x ∷ []) y ∙ ap (λ ys. ys ++ f y ∷ []) (map_last f xs x)

-- the search begins with the whole web where that has an odd node
pub search_first : (web : Web) (bound : ℕ) (all : List ℕ) → length all ≡ web.junctions → ((j : ℕ) → j < web.junctions → reading all j ≡ j) → 0 < odd_nodes web (λ j. j) → IsSearch web bound (all ∷ [])
search_first web bound all count same some = record {
  awaits = λ set odd light. (reading all, inside_head (reading all) [], record { set = set; keeps = λ j below. ap set (same j below); odd = odd; lighter = light });
  each = λ item inside. inside_cases (IsPending web item) all [] item inside (λ is. subst (IsPending web) is first) (λ other. absurd (inside_none item other));
}
  where
    back : (j : ℕ) → j < web.junctions → j ≡ reading all j
    back j below = sym (same j below)

    first : IsPending web all
    first = record {
      count = count;
      merge = merge_same web (λ j. j) (reading all) back (record { below = λ j less. less; still = λ j less. refl });
      some = subst (λ (n : ℕ). 0 < n) (nodes_same web (λ j. j) (reading all) back) some;
    }

module _ (web : Web) (bound : ℕ) (rest : List (List ℕ)) (item : List ℕ) (search_is : IsSearch web bound (rest ++ item ∷ [])) where
  awaits_last : Awaits web bound (map reading rest ++ reading item ∷ [])
  awaits_last = subst (Awaits web bound) (map_last reading rest item) search_is.awaits

  -- the map that is taken
  pub taken : IsPending web item
  taken = search_is.each item (Contains-append_right rest (item ∷ []) item (inside_head item []))

  -- a web without a light odd set leaves the search
  pub search_dropped : (HasBelow web bound (reading item) → ⊥) → IsSearch web bound rest
  search_dropped none = record {
    awaits = awaits_dropped web bound (map reading rest) (reading item) none awaits_last;
    each = λ other inside. search_is.each other (Contains-append_left rest (item ∷ []) other inside);
  }

  pub dropped_less : work web (map reading rest) < work web (map reading (rest ++ item ∷ []))
  dropped_less = subst (λ (xs : List (ℕ → ℕ)). work web (map reading rest) < work web xs) (sym (map_last reading rest item)) (work_dropped web (map reading rest) (reading item) taken.some)

  module _ (u : ℕ → Bool) (s t : ℕ) (is : IsWeb web) (least : IsLeastSplit web (reading item) u s t) where
    -- where its least split isn't light
    pub search_heavy : bound ≤ cut web u → IsSearch web bound rest
    search_heavy heavy = search_dropped (none_when_heavy web bound (reading item) u s t is taken.merge least heavy)

    module _ (one two : List ℕ) (even : degrees web u % 2 ≡ 0) (first : IsShrunkTo web item u t one) (second : IsShrunkTo web item (outside u) s two) where
      both_are : AreShrunk web (reading item) u s t
      both_are = are_shrunk web (reading item) u s t is taken.merge least.split even

      first_back : (j : ℕ) → j < web.junctions → shrunk (reading item) u t j ≡ reading one j
      first_back j below = sym (first.is j below)

      second_back : (j : ℕ) → j < web.junctions → shrunk (reading item) (outside u) s j ≡ reading two j
      second_back j below = sym (second.is j below)

      one_pending : IsPending web one
      one_pending = record {
        count = first.count;
        merge = merge_same web (shrunk (reading item) u t) (reading one) first_back both_are.first;
        some = subst (λ (n : ℕ). 0 < n) (nodes_same web (shrunk (reading item) u t) (reading one) first_back) both_are.first_some;
      }

      two_pending : IsPending web two
      two_pending = record {
        count = second.count;
        merge = merge_same web (shrunk (reading item) (outside u) s) (reading two) second_back both_are.second;
        some = subst (λ (n : ℕ). 0 < n) (nodes_same web (shrunk (reading item) (outside u) s) (reading two) second_back) both_are.second_some;
      }

      parted : HasBelow web bound (reading item) → HasBelow web bound (reading one) ⊎ HasBelow web bound (reading two)
      parted has = by (one_of_two web bound (reading item) u s t is taken.merge least even has)
        where
          by : HasBelow web bound (shrunk (reading item) u t) ⊎ HasBelow web bound (shrunk (reading item) (outside u) s) → HasBelow web bound (reading one) ⊎ HasBelow web bound (reading two)
          by (inl here) = inl (has_below_same web bound (shrunk (reading item) u t) (reading one) first_back here)
          by (inr there) = inr (has_below_same web bound (shrunk (reading item) (outside u) s) (reading two) second_back there)

      -- where it is even, the two smaller webs take the web's place
      pub search_split : IsSearch web bound ((rest ++ one ∷ []) ++ two ∷ [])
      search_split = record {
        awaits = subst (Awaits web bound) (sym (map_two reading rest one two)) (awaits_split web bound (map reading rest) (reading item) (reading one) (reading two) parted awaits_last);
        each = λ other inside. elim (Contains-append_cases (rest ++ one ∷ []) (two ∷ []) other inside) [
          | inl front ↦ (elim (Contains-append_cases rest (one ∷ []) other front) [
            | inl old ↦ search_is.each other (Contains-append_left rest (item ∷ []) other old)
            | inr new ↦ inside_cases (IsPending web other) one [] other new (λ same. subst (IsPending web) same one_pending) (λ more. absurd (inside_none other more))
          ])
          | inr last ↦ inside_cases (IsPending web other) two [] other last (λ same. subst (IsPending web) same two_pending) (λ more. absurd (inside_none other more))
        ];
      }

      pub split_less : work web (map reading ((rest ++ one ∷ []) ++ two ∷ [])) < work web (map reading (rest ++ item ∷ []))
      split_less =
          let count : odd_nodes web (reading one) + odd_nodes web (reading two) ≡ odd_nodes web (reading item) =
          omega (
            arith,
            nodes_same web (shrunk (reading item) u t) (reading one) first_back,
            nodes_same web (shrunk (reading item) (outside u) s) (reading two) second_back,
            both_are.count,
          ) in
          omega (
            arith,
            ap (work web) (map_two reading rest one two),
            ap (work web) (map_last reading rest item),
            work_split web (map reading rest) (reading item) (reading one) (reading two) count one_pending.some two_pending.some,
          )

-- the search that ends without an answer
pub search_ends : (web : Web) (bound : ℕ) → IsSearch web bound [] → (set : ℕ → Bool) → IsOdd web set → bound ≤ cut web set
search_ends web bound search_is = none_awaits web bound search_is.awaits

-- without an odd node there is nothing to search
pub search_begins : (web : Web) (bound : ℕ) (all : List ℕ) → length all ≡ web.junctions → ((j : ℕ) → j < web.junctions → reading all j ≡ j) → IsSearch web bound (all ∷ []) ⊎ IsSearch web bound []
search_begins web bound all count same =
    elim (cases_lt 0 (odd_nodes web (λ j. j))) [
      | inl some ↦ inl (search_first web bound all count same some)
      | inr none ↦ inr (search_none web bound (omega arith))
    ]
  where
    search_none : (web : Web) (bound : ℕ) → odd_nodes web (λ j. j) ≡ 0 → IsSearch web bound []
    search_none web bound none = record {
      awaits = λ set odd light. absurd (none_without_nodes web bound (λ j. j) (record { below = λ j less. less; still = λ j less. refl }) none (record { set = set; keeps = λ j less. refl; odd = odd; lighter = light }));
      each = λ item inside. absurd (inside_none item inside);
    }
