use Rattle.std.proofs.Common.{arith, ◌≡◌, ◌-◌, ◌<◌, not, List, length, take, drop, sym, ap, ◌∙◌, subst, ℕ}
use Rattle.std.proofs.lemmas.List.{take_all, length-drop}
use Rattle.wrp_rules.specs.Layouts.{layout_of}
use Rattle.wrp_grammar.specs.Shapes.{is_in_layout}
use Rattle.wrp_grammar.proofs.LineFronts.{Shares, Leaves, layout-short, layout-long, left-same, left-front}
use Rattle.wrp_grammar.proofs.faults.kind_form.Goals as goal
use Rattle.wrp_grammar.proofs.faults.kind_form.Goals.{Then-shared-layout, In-Some, In-None}

short : (c : Then-shared-layout) → Leaves (is_in_layout (layout_of c.args.kind)) c.args.line.now c.shared-shared.result
short c =
    let s = c.shared-shared.ensures in
    let word = c.layout_of-layout.ensures.word in
    let shares : Shares c.layout_of-layout.result.word.now c.args.line.now c.shared-shared.result = record { same = s.same; within = s.line; all = s.text; longest = s.longest } in
    layout-short (layout_of c.args.kind) c.args.line.now c.shared-shared.result (subst (λ w. Shares w c.args.line.now c.shared-shared.result) word shares)
    (subst (λ w. c.shared-shared.result < length w) word c.if-shared-layout.true)

-- what is left behind the word
behind : (line : List ℕ) (d : ℕ) → take (length line - d) (drop d line) ≡ drop d line
behind line d = take_all (length line - d) (drop d line) (omega (arith, length-drop d line))

pub returns-then-shared-layout-clause-broken : goal.returns-then-shared-layout-clause-broken
returns-then-shared-layout-clause-broken c = sym (ap not (short c).broken)

pub returns-then-shared-layout-clause-front : goal.returns-then-shared-layout-clause-front
returns-then-shared-layout-clause-front c = (short c).front

pub returns-in-Some-clause-broken : goal.returns-in-Some-clause-broken
returns-in-Some-clause-broken c =
    let l = layout_of c.args.kind in
    let line = c.args.line.now in
    let d = c.shared-shared.result in
    let s = c.shared-shared.ensures in
    let e = c.layout_of-layout.ensures in
    let shares : Shares c.layout_of-layout.result.word.now line d = record { same = s.same; within = s.line; all = s.text; longest = s.longest } in
    let long = layout-long l line d (subst (λ w. Shares w line d) e.word shares) (omega (arith, c.if-shared-layout.false, ap length e.word)) in
    c.in-Some.ensures.broken ∙ ap not (left-same l c.layout_of-layout.result.numbers.now c.layout_of-layout.result.tail _ (drop d line) e.numbers e.tail (behind line d) ∙ sym long.same)

pub returns-in-Some-clause-front : goal.returns-in-Some-clause-front
returns-in-Some-clause-front c =
    let l = layout_of c.args.kind in
    let line = c.args.line.now in
    let d = c.shared-shared.result in
    let s = c.shared-shared.ensures in
    let e = c.layout_of-layout.ensures in
    let shares : Shares c.layout_of-layout.result.word.now line d = record { same = s.same; within = s.line; all = s.text; longest = s.longest } in
    let long = layout-long l line d (subst (λ w. Shares w line d) e.word shares) (omega (arith, c.if-shared-layout.false, ap length e.word)) in
    long.front c.in-Some.at (left-front l c.layout_of-layout.result.numbers.now c.layout_of-layout.result.tail _ (drop d line) c.in-Some.at e.numbers e.tail (behind line d) c.in-Some.ensures.front)

pub returns-in-None-clause-broken : goal.returns-in-None-clause-broken
returns-in-None-clause-broken c =
    let l = layout_of c.args.kind in
    let line = c.args.line.now in
    let d = c.shared-shared.result in
    let s = c.shared-shared.ensures in
    let e = c.layout_of-layout.ensures in
    let shares : Shares c.layout_of-layout.result.word.now line d = record { same = s.same; within = s.line; all = s.text; longest = s.longest } in
    let long = layout-long l line d (subst (λ w. Shares w line d) e.word shares) (omega (arith, c.if-shared-layout.false, ap length e.word)) in
    c.in-None.ensures.broken ∙ ap not (left-same l c.layout_of-layout.result.numbers.now c.layout_of-layout.result.tail _ (drop d line) e.numbers e.tail (behind line d) ∙ sym long.same)
