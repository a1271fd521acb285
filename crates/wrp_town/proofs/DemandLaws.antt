-- The demands of streets, one street at a time.
use Rattle.std.proofs.Common.{◌≡◌, ℕ, ◌+◌, ◌<◌, ◌≤◌, List, [], ◌++◌, length, get_or, drop, ap, sym, ◌∙◌, subst, length-append}
use Rattle.std.proofs.lemmas.List.{at_drop_more, at_drop_all}
use Rattle.wrp_town.specs.declared.street.Street.{Street}
use Rattle.wrp_town.specs.Streets.{demands_at, demands_from}

-- the demands from street i on are those of street i and those after it
pub demands_from-drop_more : (streets : List Street) (i : ℕ) (d : Street) → i < length streets → demands_from i (drop i streets) ≡ demands_at i (get_or streets i d).need ++ demands_from (i + 1) (drop (i + 1) streets)
demands_from-drop_more streets i d below = at_drop_more (demands_from i) streets i d below

-- past the last street there are none
pub demands_from-drop_all : (streets : List Street) (i : ℕ) → length streets ≤ i → demands_from i (drop i streets) ≡ []
demands_from-drop_all streets i past = at_drop_all (demands_from i) streets i past

-- the same for street i as a loop over the items reads it
pub demands_from-drop_read : (streets items : List Street) (i : ℕ) (street : Street) → items ≡ streets → i < length items → street ≡ get_or items i street → demands_from i (drop i streets) ≡ demands_at i street.need ++ demands_from (i + 1) (drop (i + 1) streets)
demands_from-drop_read streets items i street same below is =
    subst (λ (x : Street). demands_from i (drop i streets) ≡ demands_at i x.need ++ demands_from (i + 1) (drop (i + 1) streets)) (sym (is ∙ ap (λ xs. get_or xs i street) same)) (demands_from-drop_more streets i street (subst (λ xs. i < length xs) same below))

pub demands_from-drop_end : (streets items : List Street) (i : ℕ) → items ≡ streets → length items ≤ i → demands_from i (drop i streets) ≡ []
demands_from-drop_end streets items i same past = demands_from-drop_all streets i (subst (λ xs. length xs ≤ i) same past)

-- and their numbers
pub length-demands_from-drop_read : (streets items : List Street) (i : ℕ) (street : Street) → items ≡ streets → i < length items → street ≡ get_or items i street → length (demands_from i (drop i streets)) ≡ length (demands_at i street.need) + length (demands_from (i + 1) (drop (i + 1) streets))
length-demands_from-drop_read streets items i street same below is =
    ap length (demands_from-drop_read streets items i street same below is) ∙ length-append (demands_at i street.need) (demands_from (i + 1) (drop (i + 1) streets))

pub length-demands_from-drop_end : (streets items : List Street) (i : ℕ) → items ≡ streets → length items ≤ i → length (demands_from i (drop i streets)) ≡ 0
length-demands_from-drop_end streets items i same past = ap length (demands_from-drop_end streets items i same past)
