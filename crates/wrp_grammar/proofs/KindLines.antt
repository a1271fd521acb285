-- What stands behind the word of a line of each kind, and the line with this content.
use Rattle.std.proofs.Common.{Some, None, ◌≡◌, ℕ, true, cond, ◌&&◌, List, [], ◌∷◌, ◌++◌, refl, sym, ap, ◌∙◌, subst}
use Rattle.std.proofs.lemmas.Bool.{and_parts}
use Rattle.std.specs.List.{list_all}
use Rattle.wrp_rules.specs.declared.layout.Kind.{Kind}
use Rattle.wrp_rules.specs.declared.layout.Kind.TheVariants as kinds
use Rattle.wrp_rules.specs.Layouts.{layout_of}
use Rattle.wrp_rules.specs.Lines.{line_with}
use Rattle.wrp_rules.specs.Contents.{Items, Content, content, keeps_number_rules}
use Rattle.wrp_grammar.specs.Parts.{is_spaced, parts_of}
use Rattle.wrp_grammar.specs.Shapes.{has_parts_shape}
use Rattle.wrp_grammar.specs.Numbers.{keeps_rules, is_right_behind}
use Rattle.wrp_grammar.specs.Spelling.{content_of_parts, content_behind}
use Rattle.wrp_grammar.specs.Reading.{is_small_tail}
use Rattle.wrp_grammar.proofs.Guards.{guard-some}
use Rattle.wrp_grammar.proofs.Spacing.{spread, spread-parts_of, parts_of-spread}
use Rattle.wrp_grammar.proofs.ItemTexts.{is_short}
use Rattle.wrp_grammar.proofs.LayoutTexts.{LineParts, line_parts, is_read_line, layout-parts}
use Rattle.wrp_grammar.proofs.RightLines.{line-right}

-- the numbers of each kind are read
all-short : (kind : Kind) → list_all is_short (layout_of kind).numbers ≡ true
all-short kinds.Odd = refl
all-short _ = refl

small-tail : (kind : Kind) → is_small_tail (layout_of kind).tail ≡ true
small-tail kinds.Odd = refl
small-tail _ = refl

pub kind-parts : (kind : Kind) → LineParts (layout_of kind).numbers (layout_of kind).tail
kind-parts kind = layout-parts (layout_of kind).numbers (layout_of kind).tail (all-short kind) (small-tail kind)

-- what is read behind the word of a line of this kind
pub record IsRead (kind : Kind) (left : List ℕ) (c : Content) : Type 0 where
  pub kind_is : c.kind ≡ kind
  pub text : line_with c ≡ (layout_of kind).word ++ left
  pub rules : keeps_number_rules c ≡ true

is-read : (kind : Kind) (left : List ℕ) → is_right_behind kind left ≡ true → IsRead kind left (content_of_parts kind (parts_of left))
is-read kind left h =
    let ranges = (layout_of kind).numbers in
    let tail = (layout_of kind).tail in
    let parts = parts_of left in
    let both = and_parts (is_spaced left && has_parts_shape ranges tail parts) (keeps_rules ranges tail parts) h in
    let shape = and_parts (is_spaced left) (has_parts_shape ranges tail parts) both.0 in
    let right : is_read_line ranges tail parts ≡ true =
    sym (line-right ranges tail parts) ∙ ap (λ b. b && keeps_rules ranges tail parts) shape.1 ∙ both.1 in
    record {
      kind_is = refl;
      text = ap (λ ps. (layout_of kind).word ++ spread ps) ((kind-parts kind).written parts right) ∙ ap (λ bytes. (layout_of kind).word ++ bytes) (spread-parts_of left shape.0);
      rules = (kind-parts kind).ranged parts right;
    }

pub behind-read : (kind : Kind) (left : List ℕ) (c : Content) → content_behind kind left ≡ Some c → IsRead kind left c
behind-read kind left c h =
    let found = guard-some (is_right_behind kind left) (content_of_parts kind (parts_of left)) c (sym h) in
    subst (IsRead kind left) (sym found.1) (is-read kind left found.0)

spaced_spread : (parts : List (List ℕ)) → is_spaced (spread parts) ≡ true
spaced_spread [] = refl
spaced_spread (part ∷ parts) = refl

-- the parts of a content that keeps the rules are read as it
pub read-behind : (kind : Kind) (numbers : List ℕ) (items : Items) → keeps_number_rules (content kind numbers items) ≡ true
    → content_behind kind (spread (line_parts (numbers, items))) ≡ Some (content kind numbers items)
read-behind kind numbers items h =
    let ranges = (layout_of kind).numbers in
    let tail = (layout_of kind).tail in
    let parts = line_parts (numbers, items) in
    let is = kind-parts kind in
    let cut : parts_of (spread parts) ≡ parts = parts_of-spread parts (is.solid (numbers, items) h) in
    let right : (has_parts_shape ranges tail parts && keeps_rules ranges tail parts) ≡ true = line-right ranges tail parts ∙ is.right (numbers, items) h in
    ap (λ b. cond ((b && has_parts_shape ranges tail (parts_of (spread parts))) && keeps_rules ranges tail (parts_of (spread parts))) (Some (content_of_parts kind (parts_of (spread parts)))) None) (spaced_spread parts)
    ∙ ap (λ ps. cond (has_parts_shape ranges tail ps && keeps_rules ranges tail ps) (Some (content_of_parts kind ps)) None) cut
    ∙ ap (λ b. cond b (Some (content_of_parts kind parts)) None) right
    ∙ ap (λ line. Some (content kind line.0 line.1)) (is.same (numbers, items) h)
