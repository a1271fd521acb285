-- A node whose only point costs no less than a tour that stands is done once its bound was offered.
use Rattle.std.proofs.Common.{◌≡◌, ℕ, ◌*◌, ◌^◌, ◌<◌, ◌≤◌, Bool, true, false, not, List, [], ◌∷◌, ◌++◌, length, Option, Some, None, Result, Ok, Err, pos, ◌<ℤ◌, ap, refl, sym, ◌∙◌, subst, arith}
use Rattle.std.specs.Prelude.{unsigned_abs, OnOk}
use Rattle.std.proofs.lemmas.Bool.{and_parts}
use Rattle.wrp_sums.proofs.Integers.{linear}
use Rattle.wrp_town.specs.declared.town.Town.{Town}
use Rattle.wrp_town.specs.declared.street.Step.{Step}
use Rattle.wrp_town.specs.Walks.{walk_cost}
use Rattle.wrp_rules.specs.declared.record.Record.{Record}
use Rattle.wrp_rules.specs.declared.record.Record.TheVariants.{Bound}
use Rattle.wrp_rules.specs.Nodes.{standing, is_open, is_below, bound_at}
use Rattle.wrp_rules.specs.Rules.{broken_rule}
use Rattle.wrp_rules.specs.Lists.{is_valid}
use Rattle.wrp_tour.specs.Tours.{HasTour, IsLeanTour}
use Rattle.wrp_rows.specs.declared.point.Point.{Point}
use Rattle.wrp_odd.specs.Points.{numbers_of}
use Rattle.wrp_conn.specs.Conns.{IsConnected}
use Rattle.wrp_point_tour.specs.PointTours.{IsTourPoint, CostsAtMost}
use Rattle.wrp_progress.specs.Progress.{GoesOn, HasNoLabels, IsOpenIn, IsDoneIn, IsOnePoint, node_in, use_cost}
use Rattle.wrp_progress.proofs.Keeping.{goes_on_keeps_nodes, still_done, lt_told}
use Rattle.wrp_progress.proofs.Branching.{bound_follows, bounded}
use Rattle.wrp_progress.proofs.OnePoint.{bare_bound, bare_high}
use Rattle.wrp_progress.proofs.Unlabelled.{unlabelled}
use Rattle.wrp_keep.specs.Keeps.{KeepState}
use Rattle.wrp_engine.specs.declared.fault.SearchFault.{SearchFault}
use Rattle.wrp_engine.specs.Searches.{Search, Advances, Leaves, IsOpenAt, IsDoneAt, at_node}
use Rattle.wrp_engine.specs.Offers.{Offers, IsOffered, HasUpper, Joins}
use Rattle.wrp_engine.specs.Closing.{IsOnlyPoint, IsEnding}
use Rattle.wrp_engine.specs.Cuts.{IsServing}
use Rattle.wrp_engine.proofs.Relaxing.{serving}
use Rattle.wrp_engine.proofs.Shutting.{bound_writable}

-- where a tour exists, no list that stands says that there is none
pub no_labels : (town : Town) (records : List Record) → HasTour town → is_valid town records ≡ true → HasNoLabels records
no_labels town records tour valid = unlabelled town (λ none. none tour.0 tour.1) records valid

-- a record that joined, after which the node is done
pub joined_done : {X : Type 0} (old new : Search) (item : Record) (node : ℕ) (result : Result X SearchFault) → Leaves old new result → OnOk result (Joins item old.keep new.keep)
    → IsDoneIn old.keep.town (old.keep.records ++ item ∷ []) node → OnOk result (IsDoneAt new.keep node)
joined_done old new item node (Ok x) leaves joins done =
    subst (λ (t : Town). IsDoneIn t new.keep.records node) (sym leaves.0.town)
    (subst (λ (rs : List Record). IsDoneIn old.keep.town rs node) (sym joins) done)
joined_done old new item node (Err fault) leaves joins done = record {}

-- ---- the tour of the only point

module _ (keep : KeepState) (node : ℕ) (point : Point) (only : IsOnlyPoint keep node point) where
  pub only_serves : IsServing keep.town point
  only_serves = serving keep.town keep.records (at_node keep node) point only.is

  pub tour_point : IsConnected keep.town point → IsTourPoint keep.town point
  tour_point connected = record { whole = only.whole; balanced = only_serves.balanced; services = only_serves.services; connected = connected }

  pub tour_ends : (steps : List Step) → IsLeanTour keep.town steps → CostsAtMost keep.town point steps → IsEnding keep node steps
  tour_ends steps lean costs = record {
    lean = lean;
    x = numbers_of point;
    one = only.one;
    cheap = omega (arith, subst (λ (e : ℕ). walk_cost keep.town steps * e ≤ use_cost keep.town (numbers_of point)) (ap unsigned_abs only.den) costs);
  }

-- ---- the bound of no multipliers

module _ (town : Town) (old mid : List Record) (node : ℕ) (goes : GoesOn town old mid) (opened : IsOpenIn town old node) (x : ℕ → ℕ) (one : IsOnePoint town (node_in town old node) x) (upper : ℕ) (stands : (standing town mid).upper ≡ Some upper) (low : upper ≤ use_cost town x) where
  abbrev item : Record
  item = Bound node 1 []

  one_now : IsOnePoint town (node_in town mid node) x
  one_now =
      let keeps = goes_on_keeps_nodes town old mid goes in
      record {
        lo = λ arc legal. ap (λ (f : ℕ → ℕ). f arc) (keeps.lo node opened.there) ∙ one.lo arc legal;
        hi = λ arc legal. ap (λ (f : ℕ → ℕ). f arc) (keeps.hi node opened.there) ∙ one.hi arc legal;
      }

  there : node < length (standing town mid).nodes
  there = omega (arith, (goes_on_keeps_nodes town old mid goes).there, opened.there)

  high : is_below (bound_at town (standing town mid) node 1 []) (standing town mid).upper ≡ false
  high =
      ap (is_below (bound_at town (standing town mid) node 1 [])) stands
      ∙ bare_high town (standing town mid).rows (node_in town mid node) x one_now upper low

  -- while the node is open, the bound is above its own
  raised : is_open (standing town mid).upper (node_in town mid node) ≡ true → (node_in town mid node).bound <ℤ bound_at town (standing town mid) node 1 []
  raised told =
      let below : is_below (node_in town mid node).bound (Some upper) ≡ true =
      subst (λ (u : Option ℕ). is_below (node_in town mid node).bound u ≡ true) stands
      (and_parts (not (node_in town mid node).is_closed) (is_below (node_in town mid node).bound (standing town mid).upper) told).1 in
      omega (
        arith,
        linear,
        lt_told (node_in town mid node).bound (pos upper) below,
        bare_bound town (standing town mid).rows (node_in town mid node) x one_now,
        low,
      )

  module _ (none : HasNoLabels mid) (small : node < 2 ^ 63) (new : List Record) (further : GoesOn town mid new) where
    by_told : (told joined : Bool) → is_open (standing town mid).upper (node_in town mid node) ≡ told → (joined ≡ true → new ≡ mid ++ item ∷ []) → (joined ≡ false → broken_rule town (standing town mid) item ≡ None → ⊥) → IsDoneIn town new node
    by_told false joined is joins refused = still_done town mid new node further (record { there = there; told = is })
    by_told true true is joins refused =
        subst (λ (rs : List Record). IsDoneIn town rs node) (sym (joins refl)) (bounded town mid node (record { there = there; told = is }) 1 [] high)
    by_told true false is joins refused =
        absurd (refused refl (bound_follows town mid none node 1 [] (bound_writable node small) (record { there = there; told = is }) refl (raised is)))

    bound_done : (joined : Bool) → (joined ≡ true → new ≡ mid ++ item ∷ []) → (joined ≡ false → broken_rule town (standing town mid) item ≡ None → ⊥) → IsDoneIn town new node
    bound_done joined joins refused = by_told (is_open (standing town mid).upper (node_in town mid node)) joined refl joins refused

-- ---- a tour was offered, and then the bound

module _ (a b : Search) (node : ℕ) (steps : List Step) (tour : HasTour a.keep.town) (opened : IsOpenAt a.keep node) (small : node < 2 ^ 63) (ends : IsEnding a.keep node steps) (one : Advances a b) (stands : HasUpper (walk_cost a.keep.town steps) b.keep) where
  abbrev town : Town
  town = a.keep.town

  offered : (c : Search) → Advances b c → IsOffered (Bound node 1 []) b.keep c.keep → IsDoneAt c.keep node
  offered c two (joined, offers) =
      subst (λ (t : Town). IsDoneIn t c.keep.records node) (sym (two.town ∙ one.town))
      (bound_done town a.keep.records b.keep.records node one.list opened ends.x ends.one stands.0
      (subst (λ (t : Town). (standing t b.keep.records).upper ≡ Some stands.0) one.town stands.1)
      (omega (arith, stands.2, ends.cheap))
      (no_labels town b.keep.records tour one.list.valid) small c.keep.records
      (subst (λ (t : Town). GoesOn t b.keep.records c.keep.records) one.town two.list)
      joined (λ is. joins joined is offers)
      (λ is none. refused joined is offers (subst (λ (t : Town). broken_rule t (standing t b.keep.records) (Bound node 1 []) ≡ None) (sym one.town) none)))
    where
      joins : (t : Bool) → t ≡ true → Offers (Bound node 1 []) b.keep c.keep t → c.keep.records ≡ b.keep.records ++ Bound node 1 [] ∷ []
      joins true is offers = offers.1
      joins false is offers = absurd (cc)

      refused : (t : Bool) → t ≡ false → Offers (Bound node 1 []) b.keep c.keep t → broken_rule b.keep.town (standing b.keep.town b.keep.records) (Bound node 1 []) ≡ None → ⊥
      refused true is offers none = absurd (cc)
      refused false is offers none = offers.0 none

  pub ended : {X : Type 0} (c : Search) (result : Result X SearchFault) → Leaves b c result → OnOk result (IsOffered (Bound node 1 []) b.keep c.keep) → OnOk result (IsDoneAt c.keep node)
  ended c (Ok x) leaves offers = offered c leaves.0 offers
  ended c (Err fault) leaves offers = record {}
