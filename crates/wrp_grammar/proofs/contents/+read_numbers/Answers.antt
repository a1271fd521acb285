use Rattle.std.proofs.Common.{◌≡◌, ℕ, ◌≤◌, List, [], ◌∷◌, length, take, refl, sym, ap, ◌∙◌, arith}
use Rattle.wrp_rules.specs.declared.layout.Range.{Range}
use Rattle.wrp_grammar.specs.declared.contents.Leading.{Leading}
use Rattle.wrp_grammar.specs.Numbers.{is_range_part}
use Rattle.wrp_grammar.specs.Parts.{parts_of, number_of, numbers_of}
use Rattle.wrp_grammar.specs.Reading.{numbers_held}
use Rattle.wrp_grammar.proofs.Guards.{guard-some}
use Rattle.wrp_grammar.proofs.contents.+read_numbers.Goals as goal

-- one more number before at most two
one-held : (range : Range) (others : List Range) (first : ℕ) (next : Leading) → length (range ∷ others) ≤ 3
    → numbers_held (range ∷ others) (record { first = first; second = next.first; third = next.second }) ≡ first ∷ numbers_held others next
one-held range [] first next few = refl
one-held range (a ∷ []) first next few = refl
one-held range (a ∷ b ∷ []) first next few = refl
one-held range (a ∷ b ∷ c ∷ others) first next few = absurd (omega arith)

all-held : (range : Range) (ranges others : List Range) (part : List ℕ) (parts rest : List (List ℕ)) (first : ℕ) (next : Leading) → length ranges ≤ 3 → ranges ≡ range ∷ others → parts ≡ part ∷ rest
    → first ≡ number_of part → numbers_held others next ≡ numbers_of (take (length others) rest)
    → numbers_held ranges (record { first = first; second = next.first; third = next.second }) ≡ numbers_of (take (length ranges) parts)
all-held range ranges others part parts rest first next few e f g h =
    ap (λ rs. numbers_held rs (record { first = first; second = next.first; third = next.second })) e
    ∙ one-held range others first next (omega (arith, ap length e))
    ∙ ap (λ n. n ∷ numbers_held others next) g ∙ ap (λ ns. number_of part ∷ ns) h
    ∙ sym (ap (λ ps. numbers_of (take (length ranges) ps)) f ∙ ap (λ rs. numbers_of (take (length rs) (part ∷ rest))) e)

pub returns-clause-numbers : goal.returns-clause-numbers
returns-clause-numbers t c =
    all-held c.in-Some.range.now c.args.ranges.now c.in-Some.others.now c.in_ok-part.part.now (parts_of c.args.left.now) (parts_of c.in_ok-part.behind.now)
    c.in_ok-first.first c.in_ok-next.next c.requires.few c.in-Some.ensures.cases.0 c.in_ok-part.ensures.some
    (guard-some (is_range_part c.in-Some.range.now c.in_ok-part.part.now) (number_of c.in_ok-part.part.now) c.in_ok-first.first c.in_ok-first.ensures).1
    c.in_ok-next.ensures.numbers
