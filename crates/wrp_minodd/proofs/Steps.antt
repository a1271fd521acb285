-- The steps of the search, as its code takes them.
use Rattle.std.proofs.Common.{◌≡◌, ℕ, ◌+◌, ◌%◌, ◌<◌, ◌≤◌, Bool, true, false, cond, not, ◌==◌, List, [], ◌∷◌, ◌++◌, length, map, slice_index, get_or, Option, None, Some, ap, refl, sym, ◌∙◌, subst, inl, inr, ◌⊎◌, arith, eq-eqb, length-append}
use Rattle.std.specs.List.{All}
use Rattle.std.specs.Prelude.{if◌then◌else◌, IfSome, MatchOption}
use Rattle.std.specs.Option.{option_to_list}
use Rattle.std.proofs.Math.Seq.{get_or-append_seam}
use Rattle.std.proofs.lemmas.Bool.{cases_lt, ne_eqb}
use Rattle.wrp_town.specs.declared.town.Town.{Town}
use Rattle.wrp_rules.specs.declared.record.Record.{Record}
use Rattle.wrp_rules.specs.declared.record.Record.TheVariants.{Odd}
use Rattle.wrp_rules.specs.declared.rule.Rule.{Rule}
use Rattle.wrp_rules.specs.declared.rule.Rule.TheVariants as rules
use Rattle.wrp_rules.specs.Rules.{junctions_are_there}
use Rattle.wrp_rules.specs.Nodes.{Standing, start}
use Rattle.wrp_rules.specs.Sets.{crossing_demands}
use Rattle.wrp_rows.specs.declared.point.Point.{Point}
use Rattle.wrp_rows.specs.Points.{IsPoint}
use Rattle.wrp_webs.specs.Webs.{Web, outside, degrees, IsWeb, odd_nodes, IsLeastSplit}
use Rattle.wrp_webs.specs.Searching.{reading, IsSearch, IsShrunkTo, HasBelow, work}
use Rattle.wrp_webs.specs.TownWebs.{MeetsServices}
use Rattle.wrp_webs.proofs.Search.{search_first, taken, search_dropped, dropped_less, search_split, split_less}
use Rattle.wrp_webs.proofs.Pending.{none_without_nodes, nodes_same}
use Rattle.wrp_webs.proofs.MinOdd.{none_is_exact}
use Rattle.wrp_webs.proofs.OddRows.{town_is_web}
use Rattle.wrp_odd.specs.Points.{denominator_of, numbers_of}
use Rattle.wrp_odd.specs.Cuts.{IsValidCut}
use Rattle.wrp_odd.specs.Found.{IsBrokenOddCut, IsOddSet}
use Rattle.wrp_odd.proofs.ClassCuts.{on_legal}
use Rattle.wrp_minodd.specs.Looks.{web_of, odd_nodes_of, inner}
use Rattle.wrp_minodd.specs.Answers.{MeetsOdd}
use Rattle.wrp_minodd.proofs.Looking.{some_listed, some_counted}

-- ---- merging

one_is_not : (label : ℕ) → label < 2 → (label == 0) ≡ not (label == 1)
one_is_not label small = by (cases_lt label 1)
  where
    by : (label < 1) ⊎ (1 ≤ label) → (label == 0) ≡ not (label == 1)
    by (inl none) = eq-eqb label 0 (omega arith) ∙ sym (ap not (ne_eqb label 1 (λ e. absurd (omega arith))))
    by (inr one) = ne_eqb label 0 (λ e. absurd (omega arith)) ∙ sym (ap not (eq-eqb label 1 (omega arith)))

pub shrunk_inside : (web : Web) (old labels new : List ℕ) (t : ℕ) → length old ≡ web.junctions → length new ≡ length old
    → ((j : ℕ) → j < length old → slice_index new j ≡ cond (slice_index labels j == 1) (slice_index old j) t) → IsShrunkTo web old (inner labels) t new
shrunk_inside web old labels new t long same is = record { count = same ∙ long; is = λ j below. is j (omega arith) }

pub shrunk_outside : (web : Web) (old labels new : List ℕ) (s : ℕ) → length old ≡ web.junctions → length new ≡ length old → All (λ label. label < 2) labels → length labels ≡ length old
    → ((j : ℕ) → j < length old → slice_index new j ≡ cond (slice_index labels j == 0) (slice_index old j) s) → IsShrunkTo web old (outside (inner labels)) s new
shrunk_outside web old labels new s long same small labels_long is = record {
  count = same ∙ long;
  is = λ j below. is j (omega arith) ∙ ap (λ (b : Bool). cond b (slice_index old j) s) (one_is_not (slice_index labels j) (small j 0 (omega arith)));
}

-- ---- the whole web

pub first_some : (town : Town) (point : Point) (own : List ℕ) → length own ≡ length town.junctions → ((j : ℕ) → j < length town.junctions → slice_index own j ≡ j) → 0 < length (odd_nodes_of town point own)
    → IsSearch (web_of town point) (denominator_of point) (own ∷ [])
first_some town point own long is some =
    search_first (web_of town point) (denominator_of point) own long is
    (omega (arith, nodes_same (web_of town point) (reading own) (λ j. j) is, some_counted town point own some))

pub first_none : (town : Town) (point : Point) (own : List ℕ) → ((j : ℕ) → j < length town.junctions → slice_index own j ≡ j) → length (odd_nodes_of town point own) ≡ 0
    → IsSearch (web_of town point) (denominator_of point) []
first_none town point own is none = record {
  awaits = λ set odd light. absurd (none_without_nodes (web_of town point) (denominator_of point) (λ j. j) (record { below = λ j less. less; still = λ j less. refl }) zero_nodes (record { set = set; keeps = λ j less. refl; odd = odd; lighter = light }));
  each = λ item inside. absurd (let below = inside.1 in omega arith);
}
  where
    zero_nodes : odd_nodes (web_of town point) (λ j. j) ≡ 0
    zero_nodes =
        elim (cases_lt 0 (odd_nodes (web_of town point) (λ j. j))) [
          | inl some ↦ absurd (omega (arith, some_listed town point own (omega (arith, nodes_same (web_of town point) (reading own) (λ j. j) is))))
          | inr few ↦ omega arith
        ]

-- ---- answers

pub none_met : (town : Town) (point : Point) → IsPoint town point → MeetsServices town (denominator_of point) (numbers_of point) → IsSearch (web_of town point) (denominator_of point) [] → MeetsOdd town point
none_met town point is met search = λ set odd. none_is_exact town (denominator_of point) (numbers_of point) (on_legal town point is) met search.awaits set odd

-- a valid record's set has an odd k
second_kept : (a b : Bool) → ◌≡◌ {A = Option Rule} (if a then (if b then None else Some rules.Even) else Some rules.Range) None → b ≡ true
second_kept true true e = refl
second_kept true false e = absurd (cc)
second_kept false b e = absurd (cc)

odd_of : (town : Town) (s : Standing) (set : List ℕ) → IsValidCut town s (Odd set) → IsOddSet town set
odd_of town s set is = second_kept (junctions_are_there town set) (not (crossing_demands town set % 2 == 0)) is.kept

pub broken_not_met : (town : Town) (point : Point) (records : List Record) → All (IsBrokenOddCut town point) records → 0 < length records → MeetsOdd town point → ⊥
broken_not_met town point records broken some met =
    let cut = broken 0 (Odd []) some in cut.broken (met cut.set (odd_of town (start town) cut.set (subst (IsValidCut town (start town)) cut.odd (cut.valid (start town)))))

-- ---- vectors that are popped

pub nothing_of : {X : Type 0} (xs : List X) (n : ℕ) → n ≡ length xs → n ≡ 0 → xs ≡ []
nothing_of [] n long none = refl
nothing_of (x ∷ xs) n long none = absurd (omega arith)

pub none_last : (found rest : List Record) (last : Option Record) → found ≡ [] → found ≡ rest ++ option_to_list last → last ≡ None
none_last found rest None none is = refl
none_last found rest (Some x) none is = absurd (omega (arith, ap (λ (xs : List Record). length xs) (sym none ∙ is), length-append rest (x ∷ [])))

pub last_none : (found : List Record) (n m : ℕ) → n ≡ length found → (last : Option Record) → MatchOption last ((n ≡ 0) × (m ≡ 0)) (λ x. m + 1 ≡ n) → last ≡ None → found ≡ []
last_none found n m long None cases is = nothing_of found n long cases.0
last_none found n m long (Some x) cases is = absurd (cc)

pub last_broken : (town : Town) (point : Point) (found rest : List Record) (last : Option Record) → All (IsBrokenOddCut town point) found → found ≡ rest ++ option_to_list last → IfSome last (IsBrokenOddCut town point)
last_broken town point found rest None broken is = tt
last_broken town point found rest (Some x) broken is =
    subst (IsBrokenOddCut town point) (ap (λ (xs : List Record). get_or xs (length rest) x) is ∙ get_or-append_seam rest x [] x) (broken (length rest) x (omega (arith, ap (λ (xs : List Record). length xs) is, length-append rest (x ∷ []))))

-- ---- one turn of the search

pub goes_far : (web : Web) (bound : ℕ) (rest : List (List ℕ)) (item : List ℕ) → IsSearch web bound (rest ++ item ∷ []) → (HasBelow web bound (reading item) → ⊥)
    → (IsSearch web bound rest) × (work web (map reading rest) < work web (map reading (rest ++ item ∷ [])))
goes_far web bound rest item now none = (search_dropped web bound rest item now none, dropped_less web bound rest item now)

pub goes_split : (web : Web) (bound : ℕ) (rest : List (List ℕ)) (item one two : List ℕ) (u : ℕ → Bool) (s t : ℕ) → IsWeb web → IsSearch web bound (rest ++ item ∷ []) → IsLeastSplit web (reading item) u s t → degrees web u % 2 ≡ 0
    → IsShrunkTo web item u t one → IsShrunkTo web item (outside u) s two
    → (IsSearch web bound ((rest ++ one ∷ []) ++ two ∷ [])) × (work web (map reading ((rest ++ one ∷ []) ++ two ∷ [])) < work web (map reading (rest ++ item ∷ [])))
goes_split web bound rest item one two u s t is now least even first second =
    (search_split web bound rest item now u s t is least one two even first second, split_less web bound rest item now u s t is least one two even first second)

pub split_turn : (town : Town) (point : Point) (rest : List (List ℕ)) (item inside one two : List ℕ) (s t : ℕ) → IsSearch (web_of town point) (denominator_of point) (rest ++ item ∷ [])
    → IsLeastSplit (web_of town point) (reading item) (inner inside) s t → degrees (web_of town point) (inner inside) % 2 ≡ 0 → length inside ≡ length item → All (λ label. label < 2) inside
    → length one ≡ length item → ((j : ℕ) → j < length item → slice_index one j ≡ cond (slice_index inside j == 1) (slice_index item j) t)
    → length two ≡ length item → ((j : ℕ) → j < length item → slice_index two j ≡ cond (slice_index inside j == 0) (slice_index item j) s)
    → (IsSearch (web_of town point) (denominator_of point) ((rest ++ one ∷ []) ++ two ∷ [])) × (work (web_of town point) (map reading ((rest ++ one ∷ []) ++ two ∷ [])) < work (web_of town point) (map reading (rest ++ item ∷ [])))
split_turn town point rest item inside one two s t now least even long small one_long one_is two_long two_is =
    let count = (taken (web_of town point) (denominator_of point) rest item now).count in
    goes_split (web_of town point) (denominator_of point) rest item one two (inner inside) s t (town_is_web town (denominator_of point) (numbers_of point)) now least even
    (shrunk_inside (web_of town point) item inside one t count one_long one_is) (shrunk_outside (web_of town point) item inside two s count two_long small long two_is)

-- the slices that the code lends
pub lent_is : (slice labels item inside new : List ℕ) (label t : ℕ) → slice ≡ item → labels ≡ inside → (j : ℕ) → ((k : ℕ) → k < length slice → slice_index new k ≡ cond (slice_index labels k == label) (slice_index slice k) t) → j < length item
    → slice_index new j ≡ cond (slice_index inside j == label) (slice_index item j) t
lent_is slice labels item inside new label t same labels_same j is below =
    is j (omega (arith, ap (λ (xs : List ℕ). length xs) same)) ∙ ap (λ (xs : List ℕ). cond (slice_index xs j == label) (slice_index slice j) t) labels_same ∙ ap (λ (xs : List ℕ). cond (slice_index inside j == label) (slice_index xs j) t) same

pub as_pending : (web : Web) (bound : ℕ) (new new_is old old_is : List (List ℕ)) → new ≡ new_is → old ≡ old_is → (IsSearch web bound new_is) × (work web (map reading new_is) < work web (map reading old_is))
    → (IsSearch web bound new) × (work web (map reading new) < work web (map reading old))
as_pending web bound new new_is old old_is same was both =
    (subst (IsSearch web bound) (sym same) both.0, omega (arith, ap (λ (xs : List (List ℕ)). work web (map reading xs)) same, ap (λ (xs : List (List ℕ)). work web (map reading xs)) was, both.1))
