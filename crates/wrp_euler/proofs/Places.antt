-- What a place among the arcs that leave a junction says of what is left there.
use Rattle.std.proofs.Common.{◌≡◌, ℕ, ◌*◌, ◌<◌, ◌≤◌, ◌==◌, true, List, length, ap, ◌∙◌, inl, inr, arith}
use Rattle.std.specs.Prelude.{slice_index}
use Rattle.std.proofs.lemmas.Bool.{cases_lt, eqb-true}
use Rattle.wrp_town.specs.declared.town.Town.{Town}
use Rattle.wrp_town.specs.Arcs.{is_legal, tail_of}
use Rattle.wrp_graph.specs.Stars.{out_of}
use Rattle.wrp_graph.specs.Balances.{leaving}
use Rattle.wrp_euler.specs.Trails.{IsOpen, ArePlaces}
use Rattle.wrp_euler.proofs.StarSums.{star_first, star_second, star_none}

-- an arc of a star is legal and begins there
pub star_legal : (town : Town) (j k : ℕ) → k < length (out_of town j) → is_legal town (slice_index (out_of town j) k) ≡ true
star_legal town j k below = star_first (is_legal town) (λ arc. tail_of town arc == j) (2 * length town.streets) k below

pub star_begins : (town : Town) (j k : ℕ) → k < length (out_of town j) → tail_of town (slice_index (out_of town j) k) ≡ j
star_begins town j k below = eqb-true _ j (star_second (is_legal town) (λ arc. tail_of town arc == j) (2 * length town.streets) k below)

pub open_at : (town : Town) (j : ℕ) (arcs left : List ℕ) → arcs ≡ out_of town j → (k : ℕ) → k < length arcs → 0 < slice_index left (slice_index arcs k) → IsOpen town left j (slice_index arcs k)
open_at town j arcs left is k below more =
    let at = ap (λ xs. slice_index xs k) is in
    let inside : k < length (out_of town j) = omega (arith, ap length is) in
    record {
      legal = ap (is_legal town) at ∙ star_legal town j k inside;
      begins = ap (tail_of town) at ∙ star_begins town j k inside;
      remains = more;
    }

pub none_left : (town : Town) (left next : List ℕ) (j : ℕ) (arcs : List ℕ) (from place : ℕ) → ArePlaces town left next → arcs ≡ out_of town j → from ≡ slice_index next j
    → ((k : ℕ) → from ≤ k → k < place → slice_index left (slice_index arcs k) ≡ 0) → length arcs ≤ place → leaving town left j ≡ 0
none_left town left next j arcs from place places is begins passed all =
    star_none (is_legal town) (λ arc. tail_of town arc == j) (2 * length town.streets) (slice_index left) (λ k below.
    elim (cases_lt k from) [
      | inl before ↦ places.passed j k (omega arith)
      | inr after ↦ omega (arith, passed k after (omega (arith, ap length is)), ap (λ xs. slice_index left (slice_index xs k)) is)
    ])
