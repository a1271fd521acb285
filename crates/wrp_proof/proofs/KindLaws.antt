-- What stands in a line of some kinds is what stands behind the word of its kind.
use Rattle.std.proofs.Common.{Some, None, is_some, ◌≡◌, ℕ, Bool, true, false, cond, nat_eq, List, [], ◌∷◌, ◌++◌, length, drop, refl, sym, ap, ◌∙◌}
use Rattle.std.proofs.lemmas.Bool.{false≢true}
use Rattle.std.proofs.lemmas.Bool.Decides.{Decides-eqb}
use Rattle.std.proofs.lemmas.Slice.Eq.{starts_is}
use Rattle.std.specs.List.{starts_with}
use Rattle.wrp_rules.specs.declared.layout.Kind.{Kind}
use Rattle.wrp_rules.specs.declared.layout.Kind.TheVariants as kinds
use Rattle.wrp_rules.specs.Layouts.{layout_of, record_kinds, end_kinds}
use Rattle.wrp_rules.specs.Contents.{Content}
use Rattle.wrp_grammar.specs.Numbers.{is_right_line}
use Rattle.wrp_grammar.specs.Spelling.{content_behind, content_in}
use Rattle.wrp_grammar.specs.Words.{words_are_apart}
use Rattle.wrp_grammar.proofs.PlaceLaws.{content-right}
use Rattle.wrp_proof.specs.Kinds.{is_record_kind, is_end_kind}

-- no word is the beginning of another one's line
pub record-behind : (kind : Kind) (left : List ℕ) → is_record_kind kind ≡ true → content_in record_kinds ((layout_of kind).word ++ left) ≡ content_behind kind left
record-behind kinds.Optimal left h = absurd (false≢true h)
record-behind kinds.Infeasible left h = absurd (false≢true h)
record-behind kinds.Unfinished left h = absurd (false≢true h)
record-behind _ left h = refl

pub end-behind : (kind : Kind) (left : List ℕ) → is_end_kind kind ≡ true → content_in end_kinds ((layout_of kind).word ++ left) ≡ content_behind kind left
end-behind kinds.Optimal left h = refl
end-behind kinds.Infeasible left h = refl
end-behind kinds.Unfinished left h = refl
end-behind _ left h = absurd (false≢true h)

pub word-cut : (kind : Kind) (line : List ℕ) → starts_with nat_eq line (layout_of kind).word ≡ true → line ≡ (layout_of kind).word ++ drop (length (layout_of kind).word) line
word-cut kind line h = (starts_is Decides-eqb line (layout_of kind).word true (sym h)).0 refl

-- the line of which this is what is left
pub record IsFound (kinds : List Kind) (line : List ℕ) (c : Content) : Type 0 where
  pub kind : Kind
  pub left : List ℕ
  pub text : line ≡ (layout_of kind).word ++ left
  pub read : content_behind kind left ≡ Some c

pub found : (kinds : List Kind) (line : List ℕ) (c : Content) → content_in kinds line ≡ Some c → IsFound kinds line c
found [] line c h = absurd (no h)
  where
    no : None ≡ Some c → ⊥
    no e = cc
found (kind ∷ kinds) line c h = by (starts_with nat_eq line (layout_of kind).word) refl h (found kinds line c)
  where
    by : (b : Bool) → starts_with nat_eq line (layout_of kind).word ≡ b → cond b (content_behind kind (drop (length (layout_of kind).word) line)) (content_in kinds line) ≡ Some c → (content_in kinds line ≡ Some c → IsFound kinds line c) → IsFound (kind ∷ kinds) line c
    by true e k rest = record { kind = kind; left = drop (length (layout_of kind).word) line; text = word-cut kind line e; read = k }
    by false e k rest = let is = rest k in record { kind = is.kind; left = is.left; text = is.text; read = is.read }

-- where nothing is found, the line isn't right
pub nothing-right : (kinds : List Kind) → words_are_apart kinds ≡ true → (line : List ℕ) → content_in kinds line ≡ None → is_right_line kinds line ≡ false
nothing-right kinds apart line none = sym (content-right kinds apart line) ∙ ap is_some none
