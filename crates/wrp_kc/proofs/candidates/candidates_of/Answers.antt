use Rattle.std.proofs.Common.{◌≡◌, ℕ, ◌+◌, List, Option, Some, Vec, Global, ap, sym, subst, ◌∙◌, arith}
use Rattle.std.specs.List.{All}
use Rattle.wrp_rules.specs.declared.record.Record.{Record}
use Rattle.wrp_parts.specs.RequiredParts.{part_at}
use Rattle.wrp_kc.specs.Candidates.{IsBrokenKc, candidate, HasCandidates, IsAdded}
use Rattle.wrp_kc.proofs.Broken.{all_more, has_more, has_passed}
use Rattle.wrp_kc.proofs.candidates.candidates_of.Goals as goal
use Rattle.wrp_kc.proofs.candidates.candidates_of.Goals.{in-Some+in_ok-add, in_default}

pub loop-u-preserved : goal.loop-u-preserved
loop-u-preserved c =
    let town = c.args.town.now in
    let point = c.args.point.now in
    let count = c.args.parts.now.count in
    let of = c.args.parts.now.of in
    let u = c.loop-u.u in
    let old = c.loop-u.found.items in
    let new = c.match-as_slice-u.found.items in
    let before = c.loop-u.invariant in
    elim c.match-as_slice-u.branch [
      | in-Some+in_ok-add w ↦ (
          let own = w.in-Some.own in
          let has : part_at of u ≡ Some own = ap (λ (os : List (Option ℕ)). part_at os u) (sym c.as_slice.ensures) ∙ w.in-Some.is in
          let added : IsAdded town point (candidate town count of own u) old new = subst (IsAdded town point (candidate town count of own u) old) (ap (λ (v : Vec Record Global). v.items) (sym w.found-is)) w.in_ok-add.ensures in
          record { broken = all_more town point (candidate town count of own u) old new added before.broken; all = has_more town point count of u own old new has added before.all }
          )
      | in_default w ↦ (
          let none : (own : ℕ) → part_at of u ≡ Some own → ⊥ = λ own has. w.in_default.not-Some own (ap (λ (os : List (Option ℕ)). part_at os u) c.as_slice.ensures ∙ has) in
          let same : new ≡ old = ap (λ (v : Vec Record Global). v.items) w.found-is in
          record { broken = subst (All (IsBrokenKc town point)) (sym same) before.broken; all = subst (HasCandidates town point count of (u + 1)) (sym same) (has_passed town point count of u old none before.all) }
          )
    ]

pub returns-clause-all : goal.returns-clause-all
returns-clause-all c = λ u own below. c.loop-u.invariant.all u own (omega arith)
