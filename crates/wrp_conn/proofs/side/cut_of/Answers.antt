use Rattle.std.proofs.Common.{◌≡◌, ◌+◌, ◌/◌, ◌<◌, ◌≤◌, ℕ, Bool, not, List, length, filter, ap, refl, arith}
use Rattle.std.specs.List.{range_with_len}
use Rattle.std.proofs.lemmas.List.Filters.{length-filter_both}
use Rattle.std.proofs.lemmas.List.FromFn.{length-range_with_len}
use Rattle.wrp_rows.specs.Marks.{is_marked}
use Rattle.wrp_conn.proofs.side.cut_of.Goals as goal

-- what is outside more than a half is at most a half
at_most_half : (n : ℕ) (p : ℕ → Bool) (inner outer : List ℕ) → inner ≡ filter p (range_with_len 0 n) → outer ≡ filter (λ j. not (p j)) (range_with_len 0 n) → n / 2 < length inner → length outer ≤ n / 2
at_most_half n p inner outer inner_is outer_is more =
    let both : length (filter p (range_with_len 0 n)) + length (filter (λ j. not (p j)) (range_with_len 0 n)) ≡ n = omega (arith, length-filter_both p (λ j. not (p j)) (λ j. refl) (range_with_len 0 n), length-range_with_len 0 n) in
    omega (arith, both, ap (λ (xs : List ℕ). length xs) inner_is, ap (λ (xs : List ℕ). length xs) outer_is)

pub returns-clause-small : goal.returns-clause-small
returns-clause-small c = at_most_half (length c.args.side.now) (is_marked c.args.side.now) c.in_ok-set.set c.in_ok-set-2.set c.in_ok-set.ensures c.in_ok-set-2.ensures (omega (arith, c.len.ensures))
