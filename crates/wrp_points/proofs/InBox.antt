-- Numbers in a box: those listed and those cut on the way decide.
use Rattle.std.proofs.Common.{◌≡◌, ℕ, ◌*◌, ◌<◌, Bool, true, false, ◌&&◌, nat_le, List, length, Contains, ap, refl, sym, ◌∙◌, subst, inl, inr, ◌⊎◌, arith}
use Rattle.std.specs.List.{list_all}
use Rattle.std.proofs.lemmas.Bool.{and_from, true≢false, le-leb}
use Rattle.wrp_sums.proofs.SumsOver.{passes_inside}
use Rattle.wrp_town.specs.declared.town.Town.{Town}
use Rattle.wrp_town.specs.Arcs.{is_legal, legal_arcs}
use Rattle.wrp_town.proofs.Members.{all_from_members, member_passes}
use Rattle.wrp_rules.specs.Nodes.{Node}
use Rattle.wrp_rules.specs.Rules.{number_at, is_in_box}
use Rattle.wrp_nodes.specs.declared.kept.KeptNode.{KeptNode}
use Rattle.wrp_nodes.specs.declared.kept.UseRange.{UseRange}
use Rattle.wrp_nodes.specs.declared.boxes.Boxes.{Boxes}
use Rattle.wrp_nodes.specs.Kept.{kept_at, node_in, HasNodes}
use Rattle.wrp_nodes.specs.Tables.{whole_range, range_at, HasEntered, IsCutAbove}
use Rattle.wrp_nodes.proofs.Leaving.{legal_above}
use Rattle.wrp_points.specs.Points.{AreLegal, HasNumbers}
use Rattle.wrp_points.specs.Boxes.{allows, allows_at, PassAbove}
use Rattle.wrp_points.proofs.NumberSums.{listed_or_none}
use Rattle.wrp_points.proofs.LegalArcs.{legal_inside, inside_is_legal}

-- the test of an arc in the box of the node
abbrev in_range : Node → ℕ → List (ℕ × ℕ) → ℕ → Bool
in_range node den numbers arc =
    nat_le (node.lo arc * den) (number_at numbers arc) && nat_le (number_at numbers arc) (node.hi arc * den)

one_fails : (t : Bool) → (t ≡ true → ⊥) → t ≡ false
one_fails true never = absurd (never refl)
one_fails false never = refl

module _ (town : Town) (kept : List KeptNode) (at : ℕ) (boxes : Boxes) (den : ℕ) (numbers : List (ℕ × ℕ)) (table : List ℕ) (stand : List Node) (there : at < length kept) (has : HasNodes town kept stand) (entered : HasEntered town kept at boxes) (legal : AreLegal town numbers) (full : HasNumbers numbers table) where
  abbrev node : Node
  node = node_in town stand at

  same_test : (arc : ℕ) → is_legal town arc ≡ true → allows_at boxes den table arc ≡ in_range node den numbers arc
  same_test arc is =
      let box = entered.box stand has in
      ap (λ (n : ℕ). allows (range_at boxes arc) den n) (full arc)
      ∙ ap (λ (lo : ℕ). nat_le (lo * den) (number_at numbers arc) && nat_le (number_at numbers arc) ((range_at boxes arc).hi * den)) (box.lo arc is)
      ∙ ap (λ (hi : ℕ). nat_le (node.lo arc * den) (number_at numbers arc) && nat_le (number_at numbers arc) (hi * den)) (box.hi arc is)

  -- the number 0 is in a whole range
  none_allowed : (arc : ℕ) → number_at numbers arc ≡ 0 → range_at boxes arc ≡ whole_range boxes → allows_at boxes den table arc ≡ true
  none_allowed arc none whole =
      ap (λ (n : ℕ). allows (range_at boxes arc) den n) (full arc ∙ none)
      ∙ ap (λ (r : UseRange). allows r den 0) whole
      ∙ zero_allowed boxes.most den
    where
      zero_allowed : (most den : ℕ) → (nat_le (0 * den) 0 && nat_le 0 (most * den)) ≡ true
      zero_allowed most den = and_from _ _ (le-leb (0 * den) 0 (omega arith)) (le-leb 0 (most * den) (omega arith))

  each_allowed : list_all (λ q. allows_at boxes den table q.0) numbers ≡ true → ((arc : ℕ) → IsCutAbove kept arc at → allows_at boxes den table arc ≡ true) → (arc : ℕ) → allows_at boxes den table arc ≡ true
  each_allowed listed cut arc = by (listed_or_none numbers arc) (entered.others arc)
    where
      by : ((q : ℕ × ℕ) × Contains numbers q × (q.0 ≡ arc)) ⊎ (number_at numbers arc ≡ 0) → (range_at boxes arc ≡ whole_range boxes) ⊎ IsCutAbove kept arc at → allows_at boxes den table arc ≡ true
      by (inl (q, inside, same)) other = subst (λ a. allows_at boxes den table a ≡ true) same (passes_inside (λ (r : ℕ × ℕ). allows_at boxes den table r.0) numbers listed q inside)
      by (inr none) (inl whole) = none_allowed arc none whole
      by (inr none) (inr higher) = cut arc higher

  in_box : list_all (λ q. allows_at boxes den table q.0) numbers ≡ true → ((arc : ℕ) → IsCutAbove kept arc at → allows_at boxes den table arc ≡ true) → is_in_box town node den numbers ≡ true
  in_box listed cut =
      all_from_members (in_range node den numbers) (legal_arcs town) (λ arc inside. sym (same_test arc (inside_is_legal town arc inside)) ∙ each_allowed listed cut arc)

  allowed_in_box : (arc : ℕ) → is_in_box town node den numbers ≡ true → is_legal town arc ≡ true → allows_at boxes den table arc ≡ true
  allowed_in_box arc all is = same_test arc is ∙ member_passes (in_range node den numbers) (legal_arcs town) arc all (legal_inside town arc is)

  listed_in_box : is_in_box town node den numbers ≡ true → list_all (λ q. allows_at boxes den table q.0) numbers ≡ true
  listed_in_box all =
      all_from_members (λ (q : ℕ × ℕ). allows_at boxes den table q.0) numbers (λ q inside. allowed_in_box q.0 all (passes_inside (λ (r : ℕ × ℕ). is_legal town r.0) numbers legal q inside))

  -- a listed arc out of its range
  pub not_in_box : false ≡ list_all (λ q. allows_at boxes den table q.0) numbers → false ≡ is_in_box town node den numbers
  not_in_box fails = sym (one_fails (is_in_box town node den numbers) (λ all. true≢false (sym (listed_in_box all) ∙ sym fails)))

  -- where the listed arcs are in their ranges, those that are cut decide
  pub box_decided : (cut : Bool) → true ≡ list_all (λ q. allows_at boxes den table q.0) numbers → PassAbove kept at (allows_at boxes den table) cut → cut ≡ is_in_box town node den numbers
  box_decided true listed pass = sym (in_box (sym listed) pass)
  box_decided false listed (arc, higher, fails) =
      sym (one_fails (is_in_box town node den numbers) (λ all. true≢false (sym (allowed_in_box arc all (legal_above town kept stand arc at has there higher)) ∙ fails)))

-- the way from a node: its own cut, and those above its parent
pub pass_above : (kept : List KeptNode) (at : ℕ) (test : ℕ → Bool) → test (kept_at kept at).arc ≡ true → ((arc : ℕ) → IsCutAbove kept arc (kept_at kept at).parent → test arc ≡ true) → (arc : ℕ) → IsCutAbove kept arc at → test arc ≡ true
pass_above kept _ test own rest arc (IsCutAbove.here at some is) = ap test (sym is) ∙ own
pass_above kept _ test own rest arc (IsCutAbove.above at some cut) = rest arc cut

pub nothing_passes : (kept : List KeptNode) (arc at : ℕ) → at ≡ 0 → IsCutAbove kept arc at → ⊥
nothing_passes kept arc _ last (IsCutAbove.here at some is) = omega arith
nothing_passes kept arc _ last (IsCutAbove.above at some cut) = omega arith
