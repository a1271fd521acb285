-- Records whose lines are short enough to stand in a proof: a tour of a town, and labels.
use Rattle.std.proofs.Common.{◌≡◌, ℕ, ◌+◌, ◌*◌, ◌^◌, ◌<◌, ◌≤◌, Bool, true, false, cond, List, [], ◌∷◌, ◌++◌, map, length, arith, length-append, refl}
use Rattle.std.specs.Prelude.{codes}
use Rattle.std.specs.Fmt.{decimal}
use Rattle.std.specs.List.{All, flat_map, list_all}
use Rattle.std.proofs.lemmas.Bool.{and_from, le-leb, lt-ltb}
use Rattle.std.proofs.lemmas.Fmt.{length-decimal-le}
use Rattle.std.proofs.lemmas.List.{length-map}
use Rattle.std.proofs.lemmas.List.Concat.{length-flat_map}
use Rattle.std.proofs.lemmas.List.Elements.{All-weaker, All-map, All-head, All-tail}
use Rattle.std.proofs.lemmas.List.Sums.{sum_by-le, sum_by-append}
use Rattle.wrp_town.specs.declared.street.Step.{Step}
use Rattle.wrp_rules.specs.declared.record.Record.TheVariants.{Tour, Labels}
use Rattle.wrp_rules.specs.Ranges.{is_index}
use Rattle.wrp_rules.specs.Lines.{step_text}
use Rattle.wrp_writer.specs.Limits.{is_writable}

-- parts of at most so many bytes, with a space before each
spaced_within : (most : ℕ) (parts : List (List ℕ)) → All (λ part. length part ≤ most) parts → length (flat_map (◌++◌ (codes " ")) parts) ≤ length parts * (most + 1)
spaced_within most parts short =
    let longer : All (λ part. length (codes " " ++ part) ≤ most + 1) parts = All-weaker (λ part. length part ≤ most) (λ part. length (codes " " ++ part) ≤ most + 1) (λ part few. omega (arith, length-append (codes " ") part, few)) parts short in
    omega (arith, length-flat_map (◌++◌ (codes " ")) parts, sum_by-le (λ part. length (codes " " ++ part)) (most + 1) parts longer)

spaced_apart : (one two : List (List ℕ)) → length (flat_map (◌++◌ (codes " ")) (one ++ two)) ≡ length (flat_map (◌++◌ (codes " ")) one) + length (flat_map (◌++◌ (codes " ")) two)
spaced_apart one two =
    omega (
      arith,
      length-flat_map (◌++◌ (codes " ")) (one ++ two),
      length-flat_map (◌++◌ (codes " ")) one,
      length-flat_map (◌++◌ (codes " ")) two,
      sum_by-append (λ part. length (codes " " ++ part)) one two,
    )

-- ---- numbers and steps

number_short : (n : ℕ) → n < 10 ^ 4 → length (decimal n) ≤ 4
number_short n small = length-decimal-le 4 n (omega arith) small (omega (arith, small))

signed_short : (n : ℕ) (back : Bool) → n < 10 ^ 4 → length (decimal n ++ cond back (codes "-") (codes "+")) ≤ 5
signed_short n true small = omega (arith, length-append (decimal n) (codes "-"), number_short n small)
signed_short n false small = omega (arith, length-append (decimal n) (codes "+"), number_short n small)

step_short : (step : Step) → step.street < 10 ^ 4 → length (step_text step) ≤ 5
step_short step small = signed_short step.street step.back small

are_indexes : (numbers : List ℕ) → All (λ n. n < 10 ^ 4) numbers → list_all is_index numbers ≡ true
are_indexes [] small = refl
are_indexes (n ∷ numbers) small =
    let low : n < 10 ^ 4 = All-head (λ n. n < 10 ^ 4) n numbers small in
    and_from _ _ (lt-ltb n (2 ^ 32) (omega (arith, low))) (are_indexes numbers (All-tail (λ n. n < 10 ^ 4) n numbers small))

name_streets : (steps : List Step) → All (λ step. step.street < 10 ^ 4) steps → list_all (λ step. is_index step.street) steps ≡ true
name_streets [] small = refl
name_streets (step ∷ steps) small =
    let low : step.street < 10 ^ 4 = All-head (λ step. step.street < 10 ^ 4) step steps small in
    and_from _ _ (lt-ltb step.street (2 ^ 32) (omega (arith, low))) (name_streets steps (All-tail (λ step. step.street < 10 ^ 4) step steps small))

-- ---- records

steps_within : (steps : List Step) → All (λ step. step.street < 10 ^ 4) steps → length (flat_map (◌++◌ (codes " ")) (map step_text steps)) ≤ length steps * 6
steps_within steps small =
    omega (
      arith,
      spaced_within 5 (map step_text steps) (All-map (λ part. length part ≤ 5) step_text steps (All-weaker (λ step. step.street < 10 ^ 4) (λ step. length (step_text step) ≤ 5) step_short steps small)),
      length-map steps step_text,
    )

numbers_within : (numbers : List ℕ) → All (λ n. n < 10 ^ 4) numbers → length (flat_map (◌++◌ (codes " ")) (map decimal numbers)) ≤ length numbers * 5
numbers_within numbers small =
    omega (
      arith,
      spaced_within 4 (map decimal numbers) (All-map (λ part. length part ≤ 4) decimal numbers (All-weaker (λ n. n < 10 ^ 4) (λ n. length (decimal n) ≤ 4) number_short numbers small)),
      length-map numbers decimal,
    )

pub tour_writable : (cost : ℕ) (steps : List Step) → cost < 10 ^ 18 → All (λ step. step.street < 10 ^ 4) steps → length steps ≤ 32000000 → is_writable (Tour cost steps) ≡ true
tour_writable cost steps cheap small few =
    and_from _ _
    (and_from _ _ (and_from _ _ (lt-ltb cost (2 ^ 63) (omega (arith, cheap))) refl) (name_streets steps small))
    (le-leb _ (2 ^ 28) (omega (
      arith,
      few,
      steps_within steps small,
      length-append (decimal cost) (flat_map (◌++◌ (codes " ")) (map step_text steps)),
      length-decimal-le 18 cost (omega arith) cheap (omega (arith, cheap)),
    )))

pub labels_writable : (labels streets : List ℕ) → All (λ n. n < 10 ^ 4) labels → All (λ n. n < 10 ^ 4) streets → length labels ≤ 4000 → length streets ≤ 4000 → is_writable (Labels labels streets) ≡ true
labels_writable labels streets small low few less =
    and_from _ _
    (and_from _ _ (are_indexes labels small) (are_indexes streets low))
    (le-leb _ (2 ^ 28) (omega (
      arith,
      few,
      less,
      spaced_apart (map decimal labels) (codes "/" ∷ map decimal streets),
      numbers_within labels small,
      numbers_within streets low,
    )))
