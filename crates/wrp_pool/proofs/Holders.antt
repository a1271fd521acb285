-- The inner sets of a chain, each of which holds a required street.
use Rattle.std.proofs.Common.{◌≡◌, ℕ, ◌+◌, ◌-◌, ◌<◌, ◌≤◌, Bool, true, false, ◌&&◌, ◌==◌, List, length, slice_index, Contains, refl, sym, ◌∙◌, subst, inl, inr, arith}
use Rattle.std.specs.Prelude.{nat_le}
use Rattle.std.specs.List.{list_all, list_any, range_with_len}
use Rattle.std.proofs.lemmas.Bool.{and_parts, eqb-true, cases_lt, true≢false}
use Rattle.std.proofs.lemmas.List.{get_or_default}
use Rattle.std.proofs.lemmas.List.FromFn.{length-range_with_len, get_or-range_with_len}
use Rattle.wrp_sums.proofs.SumsOver.{list_all-same}
use Rattle.wrp_town.specs.declared.town.Town.{Town}
use Rattle.wrp_town.specs.Streets.{forward_arc}
use Rattle.wrp_town.specs.Arcs.{tail_of, head_of, is_required}
use Rattle.wrp_town.proofs.Members.{member_from_any, member_passes}
use Rattle.wrp_town.proofs.TownLaws.{tail_of-below}
use Rattle.wrp_rules.specs.Rules.{is_partition}
use Rattle.wrp_rules.specs.Rows.{is_held, inner_sets_hold, is_chain}
use Rattle.wrp_pool.specs.Chains.{mark_of, MarkHolders}
use Rattle.wrp_pool.proofs.Ranges.{as_long}

-- a number of a range is in it
from_range : (a n i : ℕ) → i < n → Contains (range_with_len a n) (a + i)
from_range a n i below = (i, omega (arith, length-range_with_len a n), get_or-range_with_len a n i _ below)

-- and what is in it is one of these
of_range : (a n x : ℕ) → Contains (range_with_len a n) x → (a ≤ x) × (x < a + n)
of_range a n x (i, below, is) =
    let small : i < n = omega (arith, below, length-range_with_len a n) in
    let same : x ≡ a + i = sym is ∙ get_or-range_with_len a n i _ small in
    (omega (arith, same), omega (arith, same))

-- all parts of a partition
pub partition_long : (town : Town) (last : ℕ) (of : List ℕ) → is_partition town last of ≡ true → length of ≡ length town.junctions
partition_long town last of is =
    eqb-true _ _ (and_parts (length of == length town.junctions) (nat_le 3 last) (and_parts ((length of == length town.junctions) && nat_le 3 last) (list_all (λ i. nat_le i last) of) is).0).0

module _ (town : Town) (last : ℕ) (of : List ℕ) where
  -- a set that holds a street has a junction
  holder_inside : (i : ℕ) → length of ≡ length town.junctions → list_any (is_held town of i) (range_with_len 0 (length town.streets)) ≡ true → Contains of i
  holder_inside i long held =
      let m = member_from_any (is_held town of i) (range_with_len 0 (length town.streets)) held in
      let below = of_range 0 (length town.streets) m.0 m.1 in
      let first = and_parts (is_required town m.0 && (slice_index of (tail_of town (forward_arc m.0)) == i)) (slice_index of (head_of town (forward_arc m.0)) == i) m.2 in
      let tail = eqb-true _ i (and_parts (is_required town m.0) (slice_index of (tail_of town (forward_arc m.0)) == i) first.0).1 in
      let inside : tail_of town (forward_arc m.0) < length of = omega (arith, long, tail_of-below town (forward_arc m.0) (omega (arith, below.1))) in
      (tail_of town (forward_arc m.0), inside, get_or_default of (tail_of town (forward_arc m.0)) i 0 inside ∙ tail)

  -- more sets than junctions can't each hold a street
  pub too_many_sets : is_partition town last of ≡ true → length of + 1 < last → false ≡ inner_sets_hold town last of
  too_many_sets is many = by (inner_sets_hold town last of) refl
    where
      by : (t : Bool) → inner_sets_hold town last of ≡ t → false ≡ t
      by true e =
          let long = partition_long town last of is in
          let few = as_long (last - 1) of (λ i from to. holder_inside i long
          (member_passes (λ i. list_any (is_held town of i) (range_with_len 0 (length town.streets))) (range_with_len 1 (last - 1)) i e (subst (Contains (range_with_len 1 (last - 1))) (omega (arith, from)) (from_range 1 (last - 1) (i - 1) (omega (arith, from, to)))))) in
          absurd (omega (arith, few, many))
      by false e = refl

  -- the marks of the inner sets tell
  pub inner_marked : (held : List Bool) → MarkHolders town of (length town.streets) held → last < length held → list_all (mark_of held) (range_with_len 1 (last - 1)) ≡ inner_sets_hold town last of
  inner_marked held marks room =
      list_all-same (mark_of held) (λ i. list_any (is_held town of i) (range_with_len 0 (length town.streets))) (range_with_len 1 (last - 1))
      (λ i inside. let range = of_range 1 (last - 1) i inside in marks.marks i (omega (arith, range.1, range.0, room)))

  -- so a chain has at most so many sets
  pub few_sets : is_partition town last of ≡ true → is_chain town last of ≡ true → last ≤ length of + 1
  few_sets is chain = elim (cases_lt (length of + 1) last) [
    | inl many ↦ absurd (true≢false (sym (and_parts _ _ (and_parts _ _ (and_parts _ _ chain).0).0).0 ∙ sym (too_many_sets is many)))
    | inr few ↦ omega arith
  ]
