-- A line spells the record, or the end, of which it is the line, and no other.
use Rattle.std.proofs.Common.{Option, Some, None, IfSome, ◌≡◌, ℕ, Bool, true, List, [], ◌∷◌, ◌++◌, refl, sym, ap, ◌∙◌}
use Rattle.wrp_rules.specs.declared.layout.Kind.{Kind}
use Rattle.wrp_rules.specs.declared.layout.Kind.TheVariants as kinds
use Rattle.wrp_rules.specs.declared.record.Record.{Record}
use Rattle.wrp_rules.specs.declared.record.Record.TheVariants.{Tour}
use Rattle.wrp_rules.specs.declared.record.End.{End}
use Rattle.wrp_rules.specs.declared.record.End.TheVariants.{Infeasible}
use Rattle.wrp_rules.specs.Layouts.{layout_of, record_kinds, end_kinds}
use Rattle.wrp_rules.specs.Lines.{line_with}
use Rattle.wrp_rules.specs.Contents.{Items, NoItems, Steps, Numbers, Pairs, TwoLists, Content, content, content_of, content_of_end, keeps_number_rules}
use Rattle.wrp_grammar.specs.Spelling.{content_in, content_behind, record_with, end_with, record_of_content, end_of_content, spelled, spelled_end}
use Rattle.wrp_grammar.proofs.Spacing.{spread}
use Rattle.wrp_grammar.proofs.LayoutTexts.{line_parts}
use Rattle.wrp_grammar.proofs.KindLines.{behind-read, read-behind}
use Rattle.wrp_proof.specs.Kinds.{is_record_kind, is_end_kind}
use Rattle.wrp_proof.specs.declared.views.View.{View}
use Rattle.wrp_proof.specs.Views.{record_of, IsLineOf}
use Rattle.wrp_proof.specs.Ends.{IsEndLineOf}
use Rattle.wrp_proof.proofs.KindLaws.{record-behind, end-behind, found}

-- the record with the content of a record, and back
pub record-with : (item : Record) → record_of_content (Some (content_of item)) ≡ Some item
record-with (Tour cost steps) = refl
record-with _ = refl

record-kind : (item : Record) → is_record_kind (content_of item).kind ≡ true
record-kind (Tour cost steps) = refl
record-kind _ = refl

same : {A : Type 0} (x y : A) → Some x ≡ Some y → x ≡ y
same x y e = cc

clash : {A P : Type 0} (x : A) → None ≡ Some x → P
clash x e = absurd (no e)
  where
    no : None ≡ Some x → ⊥
    no e = cc

with-record : (kind : Kind) (numbers : List ℕ) (items : Items) (item : Record) → record_with kind numbers items ≡ Some item → content_of item ≡ content kind numbers items
with-record kinds.Tour (cost ∷ []) (Steps steps) item h = ap content_of (sym (same _ item h))
with-record kinds.Conn (r1 ∷ r2 ∷ []) (Numbers set) item h = ap content_of (sym (same _ item h))
with-record kinds.Odd [] (Numbers set) item h = ap content_of (sym (same _ item h))
with-record kinds.Round (divisor ∷ []) (Pairs mult) item h = ap content_of (sym (same _ item h))
with-record kinds.Kc (k ∷ []) (Numbers sets) item h = ap content_of (sym (same _ item h))
with-record kinds.Bound (node ∷ den ∷ []) (Pairs mult) item h = ap content_of (sym (same _ item h))
with-record kinds.Empty (node ∷ []) (Pairs mult) item h = ap content_of (sym (same _ item h))
with-record kinds.Apart (node ∷ r1 ∷ r2 ∷ []) (Numbers set) item h = ap content_of (sym (same _ item h))
with-record kinds.Point (node ∷ den ∷ []) (Pairs numbers) item h = ap content_of (sym (same _ item h))
with-record kinds.Blind (node ∷ []) NoItems item h = ap content_of (sym (same _ item h))
with-record kinds.Split (node ∷ arc ∷ k ∷ []) NoItems item h = ap content_of (sym (same _ item h))
with-record kinds.Labels [] (TwoLists labels streets) item h = ap content_of (sym (same _ item h))
with-record _ numbers items item h = clash item h

-- the same for ends
pub end-with : (end : End) → end_of_content (Some (content_of_end end)) ≡ Some end
end-with Infeasible = refl
end-with _ = refl

end-kind : (end : End) → is_end_kind (content_of_end end).kind ≡ true
end-kind Infeasible = refl
end-kind _ = refl

with-end : (kind : Kind) (numbers : List ℕ) (items : Items) (end : End) → end_with kind numbers items ≡ Some end → content_of_end end ≡ content kind numbers items
with-end kinds.Optimal (cost ∷ []) NoItems end h = ap content_of_end (sym (same _ end h))
with-end kinds.Infeasible [] NoItems end h = ap content_of_end (sym (same _ end h))
with-end kinds.Unfinished (low ∷ high ∷ []) NoItems end h = ap content_of_end (sym (same _ end h))
with-end _ numbers items end h = clash end h

-- ---- a line and its content

record IsLineWith (c : Content) (line : List ℕ) : Type 0 where
  text : line_with c ≡ line
  rules : keeps_number_rules c ≡ true

content-line : (kinds : List Kind) (line : List ℕ) (c : Content) → content_in kinds line ≡ Some c → IsLineWith c line
content-line kinds line c h =
    let is = found kinds line c h in
    let read = behind-read is.kind is.left c is.read in
    record { text = read.text ∙ sym is.text; rules = read.rules }

-- the content of a line of one of some kinds, by the law of these kinds
line-content : (kinds : List Kind) (member : Kind → Bool) → ((kind : Kind) (left : List ℕ) → member kind ≡ true → content_in kinds ((layout_of kind).word ++ left) ≡ content_behind kind left)
    → (c : Content) (line : List ℕ) → member c.kind ≡ true → keeps_number_rules c ≡ true → line_with c ≡ line → content_in kinds line ≡ Some c
line-content kinds member behind c line m rules text =
    ap (content_in kinds) (sym text) ∙ behind c.kind (spread (line_parts (c.numbers, c.items))) m ∙ read-behind c.kind c.numbers c.items rules

-- what a found content spells
spells : {A : Type 0} (with : Kind → List ℕ → Items → Option A) (value : Option Content → Option A) (o : Option Content) (item : A) → ((c : Content) → value (Some c) ≡ with c.kind c.numbers c.items) → value None ≡ None → value o ≡ Some item
    → (c : Content) × (o ≡ Some c) × (with c.kind c.numbers c.items ≡ Some item)
spells with value None item some none h = clash item (sym none ∙ h)
spells with value (Some c) item some none h = (c, refl, sym (some c) ∙ h)

pub spelled-line : (line : List ℕ) (item : Record) → spelled line ≡ Some item → IsLineOf item line
unfolding spelled
spelled-line line item h =
    let is = spells record_with record_of_content (content_in record_kinds line) item (λ c. refl) refl h in
    let same_content = with-record is.0.kind is.0.numbers is.0.items item is.2 in
    let read = content-line record_kinds line is.0 is.1 in
    record { text = ap line_with same_content ∙ read.text; numbers = ap keeps_number_rules same_content ∙ read.rules }

pub line-spelled : (line : List ℕ) (item : Record) → IsLineOf item line → spelled line ≡ Some item
unfolding spelled
line-spelled line item h =
    ap record_of_content (line-content record_kinds is_record_kind record-behind (content_of item) line (record-kind item) h.numbers h.text) ∙ record-with item

pub spelled-end_line : (line : List ℕ) (end : End) → spelled_end line ≡ Some end → IsEndLineOf end line
unfolding spelled_end
spelled-end_line line end h =
    let is = spells end_with end_of_content (content_in end_kinds line) end (λ c. refl) refl h in
    let same_content = with-end is.0.kind is.0.numbers is.0.items end is.2 in
    let read = content-line end_kinds line is.0 is.1 in
    record { text = ap line_with same_content ∙ read.text; numbers = ap keeps_number_rules same_content ∙ read.rules }

pub end_line-spelled : (line : List ℕ) (end : End) → IsEndLineOf end line → spelled_end line ≡ Some end
unfolding spelled_end
end_line-spelled line end h =
    ap end_of_content (line-content end_kinds is_end_kind end-behind (content_of_end end) line (end-kind end) h.numbers h.text) ∙ end-with end

-- ---- what a reader has

pub spelled-of : (line : List ℕ) (c : Content) (item : Record) → content_in record_kinds line ≡ Some c → content_of item ≡ c → spelled line ≡ Some item
unfolding spelled
spelled-of line c item h e = ap record_of_content (h ∙ ap (λ x. Some x) (sym e)) ∙ record-with item

pub spelled_end-of : (line : List ℕ) (c : Content) (end : End) → content_in end_kinds line ≡ Some c → content_of_end end ≡ c → spelled_end line ≡ Some end
unfolding spelled_end
spelled_end-of line c end h e = ap end_of_content (h ∙ ap (λ x. Some x) (sym e)) ∙ end-with end

-- where a reader gives something
pub views-spelled : (line : List ℕ) (c : Content) (r : Option View) → content_in record_kinds line ≡ Some c → IfSome r (λ v. content_of (record_of v) ≡ c) → IfSome r (λ v. spelled line ≡ Some (record_of v))
views-spelled line c None h e = e
views-spelled line c (Some v) h e = spelled-of line c (record_of v) h e

pub ends-spelled : (line : List ℕ) (c : Content) (r : Option End) → content_in end_kinds line ≡ Some c → IfSome r (λ end. content_of_end end ≡ c) → IfSome r (λ end. spelled_end line ≡ Some end)
ends-spelled line c None h e = e
ends-spelled line c (Some end) h e = spelled_end-of line c end h e

pub not-spelled : (line : List ℕ) → content_in record_kinds line ≡ None → spelled line ≡ None
unfolding spelled
not-spelled line h = ap record_of_content h

pub no-end_spelled : (line : List ℕ) → content_in end_kinds line ≡ None → spelled_end line ≡ None
unfolding spelled_end
no-end_spelled line h = ap end_of_content h
