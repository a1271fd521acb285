-- A set that a flow finds between two differ, as the set of a connectivity record.
use Rattle.std.proofs.Common.{◌≡◌, ℕ, ◌*◌, ◌/◌, ◌<◌, ◌≤◌, Bool, true, false, cond, ◌&&◌, not, length, filter, ap, sym, ◌∙◌, arith}
use Rattle.std.proofs.lemmas.Bool.{and_from}
use Rattle.wrp_town.specs.declared.town.Town.{Town}
use Rattle.wrp_town.specs.Arcs.{tail_of, head_of, junctions, is_required}
use Rattle.wrp_town.proofs.TownLaws.{tail_of-below, head_of-below}
use Rattle.wrp_rules.specs.Sets.{is_in, is_parted}
use Rattle.wrp_webs.specs.Nets.{leaving}
use Rattle.wrp_webs.specs.TownWebs.{out_of_set, IsLeastOut, IsUncrossed}
use Rattle.wrp_webs.proofs.SumsBelow.{same_sum}
use Rattle.wrp_webs.proofs.Found.{listed_is}

-- the net has an arc for each arc of the town, between the junctions that stand for its ends
module _ (town : Town) (x at : ℕ → ℕ) (below : (j : ℕ) → j < length town.junctions → at j < length town.junctions) (still : (j : ℕ) → j < length town.junctions → at (at j) ≡ at j) where
  abbrev net_leaving : (ℕ → Bool) → ℕ
  net_leaving set = leaving (2 * length town.streets) (λ a. at (tail_of town a)) (λ a. at (head_of town a)) x set

  keeps_out : (set : ℕ → Bool) → ((j : ℕ) → j < length town.junctions → set (at j) ≡ set j) → net_leaving set ≡ out_of_set town x set
  keeps_out set keeps =
      same_sum (λ a. cond (set (at (tail_of town a)) && not (set (at (head_of town a)))) (x a) 0) (λ a. cond (set (tail_of town a) && not (set (head_of town a))) (x a) 0) (2 * length town.streets)
      (λ a less. ap (λ (b : Bool). cond (b && not (set (at (head_of town a)))) (x a) 0) (keeps (tail_of town a) (tail_of-below town a less))
      ∙ ap (λ (b : Bool). cond (set (tail_of town a) && not b) (x a) 0) (keeps (head_of town a) (head_of-below town a less)))

  -- a set of nodes that a flow shows to be least is a least set between two nodes
  pub out_from_net : (s t : ℕ) (found : ℕ → Bool) → at s ≡ s → at t ≡ t → found s ≡ true → found t ≡ false
      → ((set : ℕ → Bool) → set s ≡ true → set t ≡ false → net_leaving found ≤ net_leaving set) → IsLeastOut town x at s t (λ j. found (at j))
  out_from_net s t found s_still t_still holds out least = record {
    keeps = λ j less. ap found (still j less);
    holds = ap found s_still ∙ holds;
    leaves_out = ap found t_still ∙ out;
    least = λ other keeps has none. omega (arith, least other has none, keeps_out other keeps);
  }

-- a set that no required street crosses, with one required street's end inside and another's outside, differ the two
pub found_parts : (town : Town) (set : ℕ → Bool) (r1 r2 : ℕ) → IsUncrossed town set → r1 < length town.streets → r2 < length town.streets → is_required town r1 ≡ true → is_required town r2 ≡ true
    → set (tail_of town (2 * r1)) ≡ true → set (tail_of town (2 * r2)) ≡ false → is_parted town r1 r2 (filter set (junctions town)) ≡ true
found_parts town set r1 r2 uncrossed first second one two has none =
    and_from _ _ (and_from _ _ (and_from _ _ one two) (and_from _ _ (listed (tail_of town (2 * r1)) (tail_of-below town (2 * r1) (omega arith)) ∙ has) (listed (head_of town (2 * r1)) (head_of-below town (2 * r1) (omega arith)) ∙ sym (over r1 first one) ∙ has)))
    (and_from _ _ (ap not (listed (tail_of town (2 * r2)) (tail_of-below town (2 * r2) (omega arith)) ∙ none)) (ap not (listed (head_of town (2 * r2)) (head_of-below town (2 * r2) (omega arith)) ∙ sym (over r2 second two) ∙ none)))
  where
    listed : (j : ℕ) → j < length town.junctions → is_in (filter set (junctions town)) j ≡ set j
    listed j below = listed_is set (length town.junctions) j below

    half : (r : ℕ) → r ≡ (2 * r) / 2
    half r = omega arith

    over : (r : ℕ) → r < length town.streets → is_required town r ≡ true → set (tail_of town (2 * r)) ≡ set (head_of town (2 * r))
    over r below required = uncrossed (2 * r) (omega arith) (ap (is_required town) (sym (half r)) ∙ required)
