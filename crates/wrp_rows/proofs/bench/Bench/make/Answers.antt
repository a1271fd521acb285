use Rattle.std.proofs.Common.{◌≡◌, ℕ, ℤ, List, IfOk, ap, sym, ◌∙◌, subst}
use Rattle.wrp_rules.specs.declared.record.Record.{Record}
use Rattle.wrp_rules.specs.declared.record.Record.TheVariants.{Conn, Odd, Round, Kc}
use Rattle.wrp_rows.specs.Making.{cut_rule, Refuses, IsRowOf, made}
use Rattle.wrp_rows.proofs.bench.Bench.make.Goals as goal

pub returns-in-Conn-clause-judged : goal.returns-in-Conn-clause-judged
returns-in-Conn-clause-judged c = λ s roomy kept.
    let is : c.args.item.now ≡ Conn c.in-Conn.r1 c.in-Conn.r2 c.as_slice.result.now = c.in-Conn.is ∙ ap (λ (xs : List ℕ). Conn c.in-Conn.r1 c.in-Conn.r2 xs) (sym c.as_slice.ensures) in
    subst (λ (item : Record). Refuses (cut_rule c.args.town.now s item) c.make_conn.result) (sym is) (c.make_conn.ensures.judged s roomy)

pub returns-in-Conn-clause-row : goal.returns-in-Conn-clause-row
returns-in-Conn-clause-row c = λ s kept.
    let is : c.args.item.now ≡ Conn c.in-Conn.r1 c.in-Conn.r2 c.as_slice.result.now = c.in-Conn.is ∙ ap (λ (xs : List ℕ). Conn c.in-Conn.r1 c.in-Conn.r2 xs) (sym c.as_slice.ensures) in
    subst (λ (item : Record). IfOk c.make_conn.result (λ (side : ℤ). IsRowOf c.args.town.now s item (made c.make_conn.new.self side))) (sym is) (c.make_conn.ensures.row s)

pub returns-in-Odd-clause-judged : goal.returns-in-Odd-clause-judged
returns-in-Odd-clause-judged c = λ s roomy kept.
    let is : c.args.item.now ≡ Odd c.as_slice-in-Odd.result.now = c.in-Odd.is ∙ ap (λ (xs : List ℕ). Odd xs) (sym c.as_slice-in-Odd.ensures) in
    subst (λ (item : Record). Refuses (cut_rule c.args.town.now s item) c.make_odd.result) (sym is) (c.make_odd.ensures.judged s roomy)

pub returns-in-Odd-clause-row : goal.returns-in-Odd-clause-row
returns-in-Odd-clause-row c = λ s kept.
    let is : c.args.item.now ≡ Odd c.as_slice-in-Odd.result.now = c.in-Odd.is ∙ ap (λ (xs : List ℕ). Odd xs) (sym c.as_slice-in-Odd.ensures) in
    subst (λ (item : Record). IfOk c.make_odd.result (λ (side : ℤ). IsRowOf c.args.town.now s item (made c.make_odd.new.self side))) (sym is) (c.make_odd.ensures.row s)

pub returns-in-Round-clause-judged : goal.returns-in-Round-clause-judged
returns-in-Round-clause-judged c = λ s roomy kept.
    let is : c.args.item.now ≡ Round c.in-Round.divisor c.as_slice-in-Round.result.now = c.in-Round.is ∙ ap (λ (xs : List (ℕ × ℕ)). Round c.in-Round.divisor xs) (sym c.as_slice-in-Round.ensures) in
    subst (λ (item : Record). Refuses (cut_rule c.args.town.now s item) c.make_round.result) (sym is) (c.make_round.ensures.judged s roomy kept)

pub returns-in-Kc-clause-judged : goal.returns-in-Kc-clause-judged
returns-in-Kc-clause-judged c = λ s roomy kept.
    let is : c.args.item.now ≡ Kc c.in-Kc.k c.as_slice-in-Kc.result.now = c.in-Kc.is ∙ ap (λ (xs : List ℕ). Kc c.in-Kc.k xs) (sym c.as_slice-in-Kc.ensures) in
    subst (λ (item : Record). Refuses (cut_rule c.args.town.now s item) c.make_kc.result) (sym is) (c.make_kc.ensures.judged s roomy)

pub returns-in-Kc-clause-row : goal.returns-in-Kc-clause-row
returns-in-Kc-clause-row c = λ s kept.
    let is : c.args.item.now ≡ Kc c.in-Kc.k c.as_slice-in-Kc.result.now = c.in-Kc.is ∙ ap (λ (xs : List ℕ). Kc c.in-Kc.k xs) (sym c.as_slice-in-Kc.ensures) in
    subst (λ (item : Record). IfOk c.make_kc.result (λ (side : ℤ). IsRowOf c.args.town.now s item (made c.make_kc.new.self side))) (sym is) (c.make_kc.ensures.row s)
