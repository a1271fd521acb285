-- The arcs that leave a set, star by star, are all legal arcs that leave it.
use Rattle.std.proofs.Common.{◌≡◌, ℕ, ◌<◌, Bool, true, false, not, ◌&&◌, ◌||◌, ◌==◌, nat_eq, List, length, get_or, filter, Contains, ap, refl, sym, ◌∙◌, subst}
use Rattle.std.specs.Prelude.{nat_lt}
use Rattle.std.specs.List.{list_all}
use Rattle.std.proofs.lemmas.Bool.{ltb-true, false≢true}
use Rattle.std.proofs.lemmas.List.Folds.{list_all_at}
use Rattle.std.proofs.lemmas.List.Elements.{filter_passes}
use Rattle.wrp_sums.proofs.FirstNumbers.{inside_filter}
use Rattle.wrp_town.specs.declared.town.Town.{Town}
use Rattle.wrp_town.specs.Arcs.{is_legal, tail_of, head_of, legal_arcs, arcs}
use Rattle.wrp_town.proofs.Members.{any_from_member, member_from_any, member_passes, all_from_members}
use Rattle.wrp_graph.specs.Stars.{out_of}
use Rattle.wrp_rules.specs.Nodes.{Node}
use Rattle.wrp_rules.specs.Ranges.{is_set}
use Rattle.wrp_rules.specs.Rules.{all_below}
use Rattle.wrp_rules.specs.Sets.{is_in, leaves}
use Rattle.wrp_rules.proofs.LegalArcs.{inside_legal}
use Rattle.wrp_pool.specs.Members.{Members}
use Rattle.wrp_pool.specs.Cuts.{IsSetOf}
use Rattle.wrp_pool.proofs.Borders.{kept_legal}
use Rattle.wrp_nodes.specs.declared.boxes.Boxes.{Boxes}
use Rattle.wrp_nodes.specs.Tables.{range_at, HasBox}
use Rattle.wrp_check.specs.Gathered.{members_of}
use Rattle.wrp_check.specs.Leaks.{stays_at, are_shut}

-- a member of those that pass passes
kept_passes : (p : ℕ → Bool) (xs : List ℕ) (x : ℕ) → Contains (filter p xs) x → p x ≡ true
kept_passes p xs x (k, below, is) = subst (λ y. p y ≡ true) is (filter_passes p xs k x below)

legal_member : (town : Town) (arc : ℕ) → Contains (legal_arcs town) arc → is_legal town arc ≡ true
legal_member town arc inside = kept_passes (is_legal town) (arcs town) arc inside

star_legal : (town : Town) (j arc : ℕ) → Contains (out_of town j) arc → is_legal town arc ≡ true
star_legal town j arc (k, below, is) = subst (λ a. is_legal town a ≡ true) is (kept_legal town (λ a. tail_of town a == j) k arc below)

same_truth : (x y : Bool) → (x ≡ true → y ≡ true) → (y ≡ true → x ≡ true) → x ≡ y
same_truth true y to from = sym (to refl)
same_truth false true to from = from refl
same_truth false false to from = refl

module _ (town : Town) (set : List ℕ) (boxes : Boxes) (node : Node) (box : HasBox town boxes node) where
  -- no arc leaves the set that can be used
  abbrev is_kept : ℕ → Bool
  is_kept arc = not (leaves town set arc) || (node.hi arc == 0)

  abbrev is_star_kept : ℕ → Bool
  is_star_kept j = list_all (stays_at town set boxes) (out_of town j)

  same_hi : (arc : ℕ) → is_legal town arc ≡ true → ((range_at boxes arc).hi == 0) ≡ (node.hi arc == 0)
  same_hi arc legal = ap (λ (n : ℕ). n == 0) (box.hi arc legal)

  to_all : are_shut town set boxes set ≡ true → (arc : ℕ) → Contains (legal_arcs town) arc → is_kept arc ≡ true
  to_all shut arc inside = by (is_in set (tail_of town arc)) (is_in set (head_of town arc)) (node.hi arc == 0) refl refl refl
    where
      stays : is_in set (tail_of town arc) ≡ true → (is_in set (head_of town arc) || (node.hi arc == 0)) ≡ true
      stays tail =
          let m = member_from_any (nat_eq (tail_of town arc)) set tail in
          let star = member_passes is_star_kept set m.0 shut m.1 in
          let kept = member_passes (stays_at town set boxes) (out_of town m.0) arc star (inside_filter (λ a. tail_of town a == m.0) (legal_arcs town) arc inside m.2) in
          ap (λ (t : Bool). is_in set (head_of town arc) || t) (sym (same_hi arc (legal_member town arc inside))) ∙ kept

      by : (t u v : Bool) → is_in set (tail_of town arc) ≡ t → is_in set (head_of town arc) ≡ u → (node.hi arc == 0) ≡ v → is_kept arc ≡ true
      by false u v tail head hi = ap (λ (x : Bool). not (x && not (is_in set (head_of town arc))) || (node.hi arc == 0)) tail
      by true true v tail head hi = ap (λ (x : Bool). not (x && not (is_in set (head_of town arc))) || (node.hi arc == 0)) tail ∙ ap (λ (x : Bool). not (not x) || (node.hi arc == 0)) head
      by true false v tail head hi =
          ap (λ (x : Bool). not (x && not (is_in set (head_of town arc))) || (node.hi arc == 0)) tail ∙ ap (λ (x : Bool). not (not x) || (node.hi arc == 0)) head
          ∙ ap (λ (x : Bool). x || (node.hi arc == 0)) (sym head) ∙ stays tail

  to_star : list_all is_kept (legal_arcs town) ≡ true → (j : ℕ) → Contains set j → (arc : ℕ) → Contains (out_of town j) arc → stays_at town set boxes arc ≡ true
  to_star all j member arc inside =
      let legal = star_legal town j arc inside in
      let tail = any_from_member (nat_eq (tail_of town arc)) set j member (kept_passes (λ a. tail_of town a == j) (legal_arcs town) arc inside) in
      let kept = member_passes is_kept (legal_arcs town) arc all (inside_legal town arc legal) in
      ap (λ (t : Bool). is_in set (head_of town arc) || t) (same_hi arc legal) ∙ by (is_in set (head_of town arc)) (node.hi arc == 0)
      (ap (λ (x : Bool). not (x && not (is_in set (head_of town arc))) || (node.hi arc == 0)) (sym tail) ∙ kept)
    where
      by : (u v : Bool) → (not (true && not u) || v) ≡ true → (u || v) ≡ true
      by true v kept = refl
      by false v kept = kept

  pub shut_is : are_shut town set boxes set ≡ list_all is_kept (legal_arcs town)
  shut_is =
      same_truth (are_shut town set boxes set) (list_all is_kept (legal_arcs town)) (λ shut. all_from_members is_kept (legal_arcs town) (to_all shut))
      (λ all. all_from_members is_star_kept set (λ j member. all_from_members (stays_at town set boxes) (out_of town j) (to_star all j member)))

-- the junctions of a line, gathered, are a set of the town
pub gathered_set : (town : Town) (members : Members) (among : ℕ) (junctions : List ℕ) → members ≡ members_of among junctions → among ≡ length town.junctions → all_below among junctions ≡ true → is_set junctions ≡ true → IsSetOf town members
gathered_set town members among junctions are same below ascending =
    subst (IsSetOf town) (sym are) (record {
      among = same;
      below = λ i d inside. subst (λ n. get_or junctions i d < n) same (ltb-true (get_or junctions i d) among (passes_at (λ x. nat_lt x among) junctions i d below inside));
      ascending = ascending;
    })
  where
    passes_at : (p : ℕ → Bool) (xs : List ℕ) (i d : ℕ) → list_all p xs ≡ true → i < length xs → p (get_or xs i d) ≡ true
    passes_at p xs i d all inside = cases (p (get_or xs i d)) refl
      where
        cases : (t : Bool) → p (get_or xs i d) ≡ t → t ≡ true
        cases true e = refl
        cases false e = absurd (false≢true (sym (list_all_at p xs i d inside e) ∙ all))
