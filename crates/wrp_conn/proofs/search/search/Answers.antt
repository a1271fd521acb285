use Rattle.std.proofs.Common.{◌≡◌, ◌≤◌, ℕ, List, [], ◌∷◌, Vec, Global, Option, length, ap, refl, sym, ◌∙◌, subst, arith}
use Rattle.std.specs.List.{All}
use Rattle.std.proofs.lemmas.List.Elements.{All-head, All-tail}
use Rattle.wrp_parts.specs.RequiredParts.{AreParts}
use Rattle.wrp_town.specs.declared.town.Town.{Town}
use Rattle.wrp_conn.specs.declared.found.Broken.{Broken}
use Rattle.wrp_conn.specs.Founds.{AreFound}
use Rattle.wrp_conn.specs.Shrunk.{ArePartStreets, AreNodes, IsAtNode, streets_in}
use Rattle.wrp_conn.proofs.Connected.{met_without, met_when_far}
use Rattle.wrp_conn.proofs.Cuts.{none_found}
use Rattle.wrp_conn.proofs.Nodes.{streets_at_nodes}
use Rattle.wrp_conn.proofs.search.search.Goals as goal
use Rattle.wrp_conn.proofs.search.search.Goals.{in-Some+in_ok-see_others+then-not-is_empty+in_ok-see_pairs, in-Some+in_ok-see_others+else-not-is_empty, in_default}

-- the streets as they are listed and lent
listed : (streets : List (Option ℕ)) (all lent rest : List ℕ) → all ≡ streets_in streets → lent ≡ all → lent ≡ rest → streets_in streets ≡ rest
listed streets all lent rest all_is lent_is split = sym all_is ∙ sym lent_is ∙ split

-- each begins at a node
each_at_node : (town : Town) (count : ℕ) (of streets lent_one lent_two : List (Option ℕ)) (nodes all lent : List ℕ) (first : ℕ) (others : List ℕ) → AreParts town count of
    → ArePartStreets town count of (length town.streets) streets → lent_one ≡ streets → lent_two ≡ streets → AreNodes town of lent_one nodes → all ≡ streets_in lent_two → lent ≡ all → lent ≡ first ∷ others
    → All (IsAtNode town nodes) (first ∷ others)
each_at_node town count of streets lent_one lent_two nodes all lent first others parts are one two at_nodes all_is lent_is split =
    subst (All (IsAtNode town nodes)) (listed streets all lent (first ∷ others) (all_is ∙ ap streets_in two) lent_is split)
    (streets_at_nodes town count of streets parts are nodes (subst (λ (os : List (Option ℕ)). AreNodes town of os nodes) one at_nodes))

pub see_others-requires-clause-street : goal.see_others-requires-clause-street
see_others-requires-clause-street c = All-head (IsAtNode c.args.town.now c.in_ok-shrunk.shrunk.nodes.items) c.in-Some.first.now c.in-Some.others.now
    (each_at_node c.args.town.now c.args.parts.now.count c.args.parts.now.of c.in_ok-streets.streets.items c.as_slice.result.now c.as_slice-2.result.now c.in_ok-shrunk.shrunk.nodes.items c.in_ok-streets-2.streets.items
    c.as_slice-3.result.now c.in-Some.first.now c.in-Some.others.now c.requires.parts c.in_ok-streets.ensures c.as_slice.ensures.value c.as_slice-2.ensures.value c.in_ok-shrunk.ensures.nodes c.in_ok-streets-2.ensures c.as_slice-3.ensures.value
    c.in-Some.ensures.cases.0)

pub see_others-requires-clause-others : goal.see_others-requires-clause-others
see_others-requires-clause-others c = All-tail (IsAtNode c.args.town.now c.in_ok-shrunk.shrunk.nodes.items) c.in-Some.first.now c.in-Some.others.now
    (each_at_node c.args.town.now c.args.parts.now.count c.args.parts.now.of c.in_ok-streets.streets.items c.as_slice.result.now c.as_slice-2.result.now c.in_ok-shrunk.shrunk.nodes.items c.in_ok-streets-2.streets.items
    c.as_slice-3.result.now c.in-Some.first.now c.in-Some.others.now c.requires.parts c.in_ok-streets.ensures c.as_slice.ensures.value c.as_slice-2.ensures.value c.in_ok-shrunk.ensures.nodes c.in_ok-streets-2.ensures c.as_slice-3.ensures.value
    c.in-Some.ensures.cases.0)

pub see_pairs-requires-clause-streets : goal.see_pairs-requires-clause-streets
see_pairs-requires-clause-streets c = All-tail (IsAtNode c.args.town.now c.in_ok-shrunk.shrunk.nodes.items) c.in-Some.first.now c.in-Some.others.now
    (each_at_node c.args.town.now c.args.parts.now.count c.args.parts.now.of c.in_ok-streets.streets.items c.as_slice.result.now c.as_slice-2.result.now c.in_ok-shrunk.shrunk.nodes.items c.in_ok-streets-2.streets.items
    c.as_slice-3.result.now c.in-Some.first.now c.in-Some.others.now c.requires.parts c.in_ok-streets.ensures c.as_slice.ensures.value c.as_slice-2.ensures.value c.in_ok-shrunk.ensures.nodes c.in_ok-streets-2.ensures c.as_slice-3.ensures.value
    c.in-Some.ensures.cases.0)

pub returns-clause-found : goal.returns-clause-found
returns-clause-found c = elim c.match-split_first.branch [
  | in-Some+in_ok-see_others+then-not-is_empty+in_ok-see_pairs w ↦ subst (λ (v : Vec Broken Global). AreFound c.args.town.now c.args.point.now v.items) (sym w.cuts-is) w.in_ok-see_pairs.ensures.found
  | in-Some+in_ok-see_others+else-not-is_empty w ↦ subst (λ (v : Vec Broken Global). AreFound c.args.town.now c.args.point.now v.items) (sym w.cuts-is) w.in_ok-see_others.ensures.found
  | in_default w ↦ subst (λ (v : Vec Broken Global). AreFound c.args.town.now c.args.point.now v.items) (sym w.cuts-is) (none_found c.args.town.now c.args.point.now c.new-cuts.result.items c.new-cuts.ensures.items)
]

-- nothing was lent
none_lent : (xs : List ℕ) → length xs ≡ 0 → xs ≡ []
none_lent [] none = refl
none_lent (x ∷ xs) none = absurd (omega arith)

-- cuts that grew from none are none
shorter : (old new : List Broken) → length old ≤ length new → new ≡ [] → old ≡ []
shorter [] new grown none = refl
shorter (cut ∷ cuts) new grown none = absurd (omega (arith, ap (λ (xs : List Broken). length xs) none))

pub returns-clause-none : goal.returns-clause-none
returns-clause-none c =
    let town = c.args.town.now in
    let point = c.args.point.now in
    let of = c.args.parts.now.of in
    let streets = c.in_ok-streets.streets.items in
    let shrunk = c.in_ok-shrunk.shrunk in
    let at_nodes = subst (λ (os : List (Option ℕ)). AreNodes town of os shrunk.nodes.items) c.as_slice.ensures.value c.in_ok-shrunk.ensures.nodes in
    let all_is : c.in_ok-streets-2.streets.items ≡ streets_in streets = c.in_ok-streets-2.ensures ∙ ap streets_in c.as_slice-2.ensures.value in
    λ none. elim c.match-split_first.branch [
      | in-Some+in_ok-see_others+then-not-is_empty+in_ok-see_pairs w ↦ met_when_far town c.args.parts.now.count of streets c.requires.parts c.in_ok-streets.ensures point c.requires.point shrunk.nodes.items at_nodes shrunk.net
          c.in_ok-shrunk.ensures.shrunk.leaves w.in-Some.first.now w.in-Some.others.now (listed streets c.in_ok-streets-2.streets.items c.as_slice-3.result.now (w.in-Some.first.now ∷ w.in-Some.others.now) all_is c.as_slice-3.ensures.value w.in-Some.ensures.cases.0)
          (w.in_ok-see_others.ensures.none (shorter w.see_others.new.cuts.items w.see_pairs.new.cuts.items w.in_ok-see_pairs.ensures.grown (sym (ap (λ (v : Vec Broken Global). v.items) w.cuts-is) ∙ none)))
      | in-Some+in_ok-see_others+else-not-is_empty w ↦ met_when_far town c.args.parts.now.count of streets c.requires.parts c.in_ok-streets.ensures point c.requires.point shrunk.nodes.items at_nodes shrunk.net
          c.in_ok-shrunk.ensures.shrunk.leaves w.in-Some.first.now w.in-Some.others.now (listed streets c.in_ok-streets-2.streets.items c.as_slice-3.result.now (w.in-Some.first.now ∷ w.in-Some.others.now) all_is c.as_slice-3.ensures.value w.in-Some.ensures.cases.0)
          (w.in_ok-see_others.ensures.none (sym (ap (λ (v : Vec Broken Global). v.items) w.cuts-is) ∙ none))
      | in_default w ↦ met_without town c.args.parts.now.count of streets c.requires.parts c.in_ok-streets.ensures point (listed streets c.in_ok-streets-2.streets.items c.as_slice-3.result.now [] all_is c.as_slice-3.ensures.value (none_lent c.as_slice-3.result.now w.in_default.ensures.cases))
    ]
