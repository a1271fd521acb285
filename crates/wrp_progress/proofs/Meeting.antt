-- Numbers that meet the rows of a list are balanced at every junction and serve every demand.
use Rattle.std.proofs.Common.{◌≡◌, ℕ, zero, suc, ◌+◌, ◌-◌, ◌<◌, ◌≤◌, ◌==◌, true, ℤ, pos, ◌+ℤ◌, ◌-ℤ◌, ◌*ℤ◌, ◌≤ℤ◌, List, [], ◌∷◌, ◌++◌, map, length, get_or, Contains, ap, refl, sym, ◌∙◌, subst, inl, inr, arith, append_assoc}
use Rattle.std.specs.Option.{option_to_list}
use Rattle.std.specs.List.{All, fold, range_with_len}
use Rattle.std.proofs.lemmas.Bool.{eq-eqb, ne_eqb, cases_eq}
use Rattle.std.proofs.Math.ListN.{get_or-map}
use Rattle.std.proofs.lemmas.List.{append-nil, length-append, length-map, get_or_append_left, get_or-append_right}
use Rattle.std.proofs.lemmas.List.Elements.{All-contains}
use Rattle.std.proofs.lemmas.List.FromFn.{length-range_with_len, get_or-range_with_len}
use Rattle.wrp_sums.specs.Sums.{sum_over}
use Rattle.wrp_sums.proofs.Integers.{linear, zero_times, times_zero}
use Rattle.wrp_sums.proofs.SumsOver.{sum_over-+ℤ, sum_over-*ℤ_right, sum_over-ext, sum_over-all_zero, sum_over-push, sum_over_exchange}
use Rattle.wrp_sums.proofs.FirstNumbers.{passes_of_inside}
use Rattle.wrp_town.specs.declared.town.Town.{Town}
use Rattle.wrp_town.specs.Arcs.{is_legal, arcs, legal_arcs, tail_of, head_of, junctions, demands}
use Rattle.wrp_town.proofs.TownLaws.{legal_below, tail_of-below, head_of-below}
use Rattle.wrp_town.proofs.Lists.{range_with_len-more}
use Rattle.wrp_rules.specs.declared.record.Record.{Record}
use Rattle.wrp_rules.specs.Rows.{Row, one_if, balance_row, service_row, base_rows, row_of}
use Rattle.wrp_rules.specs.Nodes.{Standing, start, after, standing}
use Rattle.wrp_laws.specs.Meets.{sum_of_counts}
use Rattle.wrp_laws.specs.Points.{MeetsOver}

-- ---- the first rows

rows_grow : (town : Town) (s : Standing) (items : List Record) → (more : List Row) × ((fold (after town) s items).rows ≡ s.rows ++ more)
rows_grow town s [] = ([], sym (append-nil s.rows))
rows_grow town s (item ∷ items) =
    let rest = rows_grow town (after town s item) items in
    (option_to_list (row_of town s.rows item) ++ rest.0, rest.1 ∙ append_assoc s.rows (option_to_list (row_of town s.rows item)) rest.0)

pub rows_begin : (town : Town) (records : List Record) → (more : List Row) × ((standing town records).rows ≡ base_rows town ++ more)
rows_begin town records = rows_grow town (start town) records

-- ---- sums over the junctions

module _ (v : ℕ) where
  others : (n : ℕ) → n ≤ v → sum_over (λ j. one_if (v == j)) (range_with_len 0 n) ≡ pos 0
  others zero past = refl
  others (suc n) past =
      let next : suc n ≡ n + 1 = omega arith in
      ap (λ (k : ℕ). sum_over (λ j. one_if (v == j)) (range_with_len 0 k)) next
      ∙ ap (sum_over (λ j. one_if (v == j))) (range_with_len-more 0 n n (omega arith))
      ∙ omega (
        arith,
        linear,
        sum_over-push (λ j. one_if (v == j)) (range_with_len 0 n) n,
        others n (omega arith),
        ap one_if (ne_eqb v n (omega arith)),
      )

  once : (n : ℕ) → v < n → sum_over (λ j. one_if (v == j)) (range_with_len 0 n) ≡ pos 1
  once zero below = absurd (omega arith)
  once (suc n) below =
      let next : suc n ≡ n + 1 = omega arith in
      ap (λ (k : ℕ). sum_over (λ j. one_if (v == j)) (range_with_len 0 k)) next
      ∙ ap (sum_over (λ j. one_if (v == j))) (range_with_len-more 0 n n (omega arith))
      ∙ sum_over-push (λ j. one_if (v == j)) (range_with_len 0 n) n
      ∙ elim (cases_eq v n) [
        | inl here ↦ omega (arith, linear, others n (omega arith), ap one_if (eq-eqb v n here))
        | inr there ↦ omega (arith, linear, once n (omega arith), ap one_if (ne_eqb v n there))
      ]

-- ---- balance

module _ (town : Town) (x : ℕ → ℕ) where
  abbrev balance : ℕ → ℤ
  balance j = sum_of_counts town x (balance_row town j).coef

  -- an arc leaves one junction and enters one
  coefs_cancel : (arc : ℕ) → is_legal town arc ≡ true → sum_over (λ j. (balance_row town j).coef arc) (junctions town) ≡ pos 0
  coefs_cancel arc legal =
      let below = legal_below town arc legal in
      omega (
        arith,
        linear,
        sum_over-+ℤ (λ j. one_if (tail_of town arc == j) -ℤ one_if (head_of town arc == j)) (λ j. one_if (head_of town arc == j)) (junctions town),
        sum_over-ext (λ j. (one_if (tail_of town arc == j) -ℤ one_if (head_of town arc == j)) +ℤ one_if (head_of town arc == j)) (λ j. one_if (tail_of town arc == j)) (λ j. omega (arith, linear)) (junctions town),
        once (tail_of town arc) (length town.junctions) (tail_of-below town arc below),
        once (head_of town arc) (length town.junctions) (head_of-below town arc below),
      )

  cancels : (arc : ℕ) → Contains (legal_arcs town) arc → sum_over (λ j. (balance_row town j).coef arc *ℤ pos (x arc)) (junctions town) ≡ pos 0
  cancels arc inside =
      sum_over-*ℤ_right (λ j. (balance_row town j).coef arc) (pos (x arc)) (junctions town)
      ∙ ap (λ (z : ℤ). z *ℤ pos (x arc)) (coefs_cancel arc (passes_of_inside (is_legal town) (arcs town) arc inside))
      ∙ zero_times (pos (x arc))

  balances_cancel : sum_over balance (junctions town) ≡ pos 0
  balances_cancel =
      sum_over_exchange (λ j arc. (balance_row town j).coef arc *ℤ pos (x arc)) (junctions town) (legal_arcs town)
      ∙ sum_over-all_zero (λ arc. sum_over (λ j. (balance_row town j).coef arc *ℤ pos (x arc)) (junctions town)) (legal_arcs town) cancels

-- numbers that aren't below 0 and cancel are 0
all_zero : (f : ℕ → ℤ) (a n : ℕ) → ((j : ℕ) → a ≤ j → j < a + n → pos 0 ≤ℤ f j) → sum_over f (range_with_len a n) ≤ℤ pos 0 → (j : ℕ) → a ≤ j → j < a + n → f j ≡ pos 0
all_zero f a zero low none j from below = absurd (omega arith)
all_zero f a (suc n) low none j from below =
    let rest : pos 0 ≤ℤ sum_over f (range_with_len (a + 1) n) = at_least_zero f (a + 1) n (λ k here under. low k (omega arith) (omega arith)) in
    let first : pos 0 ≤ℤ f a = low a (omega arith) (omega arith) in
    elim (cases_eq j a) [
      | inl same ↦ subst (λ (k : ℕ). f k ≡ pos 0) (sym same) (omega (arith, linear, rest, first, none))
      | inr differs ↦ all_zero f (a + 1) n (λ k here under. low k (omega arith) (omega arith)) (omega (arith, linear, first, none)) j (omega arith) (omega arith)
    ]
  where
    at_least_zero : (g : ℕ → ℤ) (b m : ℕ) → ((k : ℕ) → b ≤ k → k < b + m → pos 0 ≤ℤ g k) → pos 0 ≤ℤ sum_over g (range_with_len b m)
    at_least_zero g b zero low = omega (arith, linear)
    at_least_zero g b (suc m) low =
        omega (arith, linear, low b (omega arith) (omega arith), at_least_zero g (b + 1) m (λ k here under. low k (omega arith) (omega arith)))

-- ---- the rows of a list

all_left : {X : Type 0} (P : X → Type 0) (xs ys : List X) → All P (xs ++ ys) → All P xs
all_left P xs ys all k d inside = subst P (get_or_append_left xs ys d k inside) (all k d (omega (arith, length-append xs ys, inside)))

all_right : {X : Type 0} (P : X → Type 0) (xs ys : List X) → All P (xs ++ ys) → All P ys
all_right P xs ys all k d inside =
    let at : (length xs + k) - length xs ≡ k = omega arith in
    subst P (get_or-append_right xs ys (length xs) (length xs + k) d refl (omega arith) ∙ ap (λ (i : ℕ). get_or ys i d) at)
    (all (length xs + k) d (omega (arith, length-append xs ys, inside)))

all_unmapped : {X Y : Type 0} (P : X → Type 0) (f : Y → X) (ys : List Y) → All P (map f ys) → All (λ y. P (f y)) ys
all_unmapped P f ys all k d inside = subst P (get_or-map f ys k d) (all k (f d) (omega (arith, length-map ys f, inside)))

module _ (town : Town) (records : List Record) (e : ℕ) (x : ℕ → ℕ) (met : All (MeetsOver town e x) (standing town records).rows) where
  base_met : All (MeetsOver town e x) (base_rows town)
  base_met =
      let begin = rows_begin town records in
      all_left (MeetsOver town e x) (base_rows town) begin.0 (subst (λ (rows : List Row). All (MeetsOver town e x) rows) begin.1 met)

  pub balances : (j : ℕ) → j < length town.junctions → sum_of_counts town x (balance_row town j).coef ≡ pos 0
  balances j below =
      all_zero (balance town x) 0 (length town.junctions)
      (λ k from under. omega (arith, linear, times_zero (pos e), balance_met k (omega arith)))
      (omega (arith, linear, balances_cancel town x)) j (omega arith) (omega arith)
    where
      place : (k : ℕ) → k < length town.junctions → get_or (junctions town) k 0 ≡ k
      place k under = omega (arith, get_or-range_with_len 0 (length town.junctions) k 0 under)

      balance_met : (k : ℕ) → k < length town.junctions → MeetsOver town e x (balance_row town k)
      balance_met k under =
          subst (λ (j : ℕ). MeetsOver town e x (balance_row town j)) (place k under)
          (all_unmapped (MeetsOver town e x) (balance_row town) (junctions town)
          (all_left (MeetsOver town e x) (map (balance_row town) (junctions town)) (map service_row (demands town)) base_met)
          k 0 (omega (arith, length-range_with_len 0 (length town.junctions), under)))

  pub services : (demand : List ℕ) → Contains (demands town) demand → MeetsOver town e x (service_row demand)
  services demand inside =
      All-contains (λ d. MeetsOver town e x (service_row d)) (demands town) demand
      (all_unmapped (MeetsOver town e x) service_row (demands town)
      (all_right (MeetsOver town e x) (map (balance_row town) (junctions town)) (map service_row (demands town)) base_met))
      inside
