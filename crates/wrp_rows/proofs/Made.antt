-- The rows that are made are those of the cuts, and a refusal names the rule.
use Rattle.std.proofs.Common.{◌≡◌, ℕ, ◌*◌, ◌≤◌, Bool, true, false, cond, ◌&&◌, ◌==◌, not, ℤ, List, [], ◌∷◌, map, length, filter, Option, Some, Result, Ok, Err, unsigned_abs, ap, refl, sym, ◌∙◌, subst}
use Rattle.std.specs.Result.{IsErrAnd}
use Rattle.std.specs.Prelude.{nat_le}
use Rattle.std.proofs.lemmas.Bool.{leb-true}
use Rattle.wrp_town.specs.declared.town.Town.{Town}
use Rattle.wrp_town.specs.Arcs.{arcs, is_legal, legal_arcs, tail_of, head_of}
use Rattle.wrp_sums.proofs.FirstNumbers.{inside_filter}
use Rattle.wrp_town.proofs.Members.{member_passes}
use Rattle.wrp_town.proofs.TownLaws.{legal_below}
use Rattle.wrp_rules.specs.declared.rule.Rule.{Rule}
use Rattle.wrp_rules.specs.Rows.{Row, one_if, odd_row, round_row, most_coefficient}
use Rattle.wrp_rows.specs.declared.fault.RowFault.{RowFault}
use Rattle.wrp_rows.specs.declared.fault.RowFault.TheVariants.{Broken, Memory}
use Rattle.wrp_rows.specs.Pools.{SparseRow, is_term, terms_of, sparse_of}
use Rattle.wrp_rows.specs.Marks.{AreMarks, differ}
use Rattle.wrp_rows.specs.Tables.{number_at, name_rows}
use Rattle.wrp_rows.specs.Making.{Refuses, AreRounded, are_narrow}
use Rattle.wrp_rows.proofs.Kept.{in_range}
use Rattle.wrp_rows.proofs.Rounded.{rounded_coef, rounded_side}

-- a rule that came as a fault
pub refused_by : {X : Type 0} (broken : Option Rule) (rule : Rule) (result : Result X RowFault) → broken ≡ Some rule → IsErrAnd result (λ fault. fault ≡ Broken rule) → Refuses broken result
refused_by broken rule (Ok x) is came = absurd came
refused_by broken rule (Err (Broken other)) is came = let same : other ≡ rule = cc in is ∙ ap (λ (r : Rule). Some r) (sym same)
refused_by broken rule (Err Memory) is came = tt

-- ---- coefficients that agree at legal arcs have the same terms

map_cond : {X Y : Type 0} (h : X → Y) (b : Bool) (x : X) (xs : List X) → map h (cond b (x ∷ xs) xs) ≡ cond b (h x ∷ map h xs) (map h xs)
map_cond h true x xs = refl
map_cond h false x xs = refl

-- a term, where it is one
unfoldable pub with_term : ℕ → Bool → ℤ → List (ℕ × ℤ) → List (ℕ × ℤ)
with_term x legal z others = cond (legal && not (unsigned_abs z == 0)) ((x, z) ∷ others) others

-- the terms of some arcs
abbrev pub terms_over : Town → (ℕ → ℤ) → List ℕ → List (ℕ × ℤ)
terms_over town f xs = map (λ a. (a, f a)) (filter (is_term town f) xs)

pub terms_of_cons : (town : Town) (f : ℕ → ℤ) (x : ℕ) (xs : List ℕ) → terms_over town f (x ∷ xs) ≡ with_term x (is_legal town x) (f x) (terms_over town f xs)
unfolding with_term
terms_of_cons town f x xs = let term : ℕ → ℕ × ℤ = λ a. (a, f a) in map_cond term (is_term town f x) x (filter (is_term town f) xs)

same_term : (x : ℕ) (legal : Bool) (y z : ℤ) (others : List (ℕ × ℤ)) → (legal ≡ true → y ≡ z) → with_term x legal y others ≡ with_term x legal z others
unfolding with_term
same_term x true y z others same = ap (λ (u : ℤ). cond (not (unsigned_abs u == 0)) ((x, u) ∷ others) others) (same refl)
same_term x false y z others same = refl

terms_same_over : (town : Town) (f g : ℕ → ℤ) → ((arc : ℕ) → is_legal town arc ≡ true → f arc ≡ g arc) → (xs : List ℕ) → terms_over town f xs ≡ terms_over town g xs
terms_same_over town f g same [] = refl
terms_same_over town f g same (x ∷ xs) =
    terms_of_cons town f x xs
    ∙ ap (λ (others : List (ℕ × ℤ)). with_term x (is_legal town x) (f x) others) (terms_same_over town f g same xs)
    ∙ same_term x (is_legal town x) (f x) (g x) (terms_over town g xs) (same x)
    ∙ sym (terms_of_cons town g x xs)

-- terms and a right side that are those of a row
pub row_made : (town : Town) (row : Row) (coef : ℕ → ℤ) (terms : List (ℕ × ℤ)) (side : ℤ) → terms ≡ terms_of town coef → ((arc : ℕ) → is_legal town arc ≡ true → coef arc ≡ row.coef arc) → side ≡ row.right_side → Some (sparse_of town row) ≡ Some (record { terms = terms; right_side = side })
row_made town row coef terms side are same is =
    let all : terms_of town row.coef ≡ terms = sym (are ∙ terms_same_over town coef row.coef same (arcs town)) in
    let row_is : sparse_of town row ≡ record { terms = terms; right_side = side } = cc in
    ap (λ (r : SparseRow). Some r) row_is

-- what crosses the marks crosses the set
pub marks_cross : (town : Town) (set : List ℕ) (marks : List Bool) (arc : ℕ) → AreMarks set marks → one_if (differ marks (tail_of town arc) (head_of town arc)) ≡ (odd_row town set).coef arc
marks_cross town set marks arc are = rw (are (tail_of town arc), are (head_of town arc)) refl

-- a narrow row has small coefficients at legal arcs
pub narrow_at : (town : Town) (sums : List ℤ) (arc : ℕ) → are_narrow town sums ≡ true → is_legal town arc ≡ true → unsigned_abs (number_at sums arc) ≤ most_coefficient
narrow_at town sums arc narrow legal =
    leb-true (unsigned_abs (number_at sums arc)) most_coefficient
    (member_passes (λ (a : ℕ). nat_le (unsigned_abs (number_at sums a)) most_coefficient) (legal_arcs town) arc narrow
    (inside_filter (is_legal town) (arcs town) arc (in_range (2 * length town.streets) arc (legal_below town arc legal)) legal))

-- the row of a rounding
pub rounding_made : (town : Town) (rows : List Row) (table : List SparseRow) (divisor : ℕ) (mult : List (ℕ × ℕ)) (sums : List ℤ) (terms : List (ℕ × ℤ)) (side : ℤ) → table ≡ map (sparse_of town) rows → name_rows table mult ≡ true → AreRounded table divisor mult sums side → terms ≡ terms_of town (number_at sums) → Some (sparse_of town (round_row rows divisor mult)) ≡ Some (record { terms = terms; right_side = side })
rounding_made town rows table divisor mult sums terms side kept named are terms_are =
    let named_kept = subst (λ (t : List SparseRow). name_rows t mult ≡ true) kept named in
    let are_kept = subst (λ (t : List SparseRow). AreRounded t divisor mult sums side) kept are in
    row_made town (round_row rows divisor mult) (number_at sums) terms side terms_are (λ arc legal. rounded_coef town rows divisor mult sums side named_kept are_kept arc legal) (rounded_side town rows divisor mult sums side named_kept are_kept)
