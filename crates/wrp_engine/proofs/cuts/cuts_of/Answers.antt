use Rattle.std.proofs.Common.{◌≡◌, true, [], length, Vec, Global, ap, sym, ◌∙◌, subst, arith}
use Rattle.std.proofs.lemmas.Bool.{eqb-true, eqb-false}
use Rattle.wrp_rules.specs.declared.record.Record.{Record}
use Rattle.wrp_round.specs.Optima.{point_of}
use Rattle.wrp_engine.specs.Cuts.{AreUseful}
use Rattle.wrp_engine.proofs.Broken.{taken_useful, useful_at, unbroken, empty_of, nothing_taken}
use Rattle.wrp_engine.proofs.cuts.cuts_of.Goals as goal
use Rattle.wrp_engine.proofs.cuts.cuts_of.Goals.{then-round-le-LAST_OPEN_ROUND+then-is_empty+in_ok-cuts-2, then-wants_roundings+in_ok-add_roundings, else-wants_roundings, then-round-le-LAST_OPEN_ROUND+else-is_empty, else-round-le-LAST_OPEN_ROUND}

pub add_roundings-requires-clause-useful : goal.add_roundings-requires-clause-useful
add_roundings-requires-clause-useful c =
    useful_at c.args.rows.now c.args.lp.now c.in-Optimal.point (ap point_of c.in-Optimal.is) c.in_ok-cuts.cuts.items c.in_ok-cuts.ensures.useful

pub returns-clause-useful : goal.returns-clause-useful
returns-clause-useful c =
    let pool = c.args.rows.now in
    let point = point_of c.args.lp.now in
    let at = useful_at pool c.args.lp.now c.in-Optimal.point (ap point_of c.in-Optimal.is) in
    let useful = λ (cuts : Vec Record Global). AreUseful pool point cuts.items in
    let exact = at c.in_ok-cuts.cuts.items c.in_ok-cuts.ensures.useful in
    let all : AreUseful pool point c.if-round-le-LAST_OPEN_ROUND.cuts.items =
    elim c.if-round-le-LAST_OPEN_ROUND.branch [
      | then-round-le-LAST_OPEN_ROUND+then-is_empty+in_ok-cuts-2 w ↦ subst useful (sym w.cuts-is) (at w.in_ok-cuts-2.cuts.items w.in_ok-cuts-2.ensures)
      | then-round-le-LAST_OPEN_ROUND+else-is_empty w ↦ let more : AreUseful pool point w.if-wants_roundings.cuts.items =
          elim w.if-wants_roundings.branch [
            | then-wants_roundings+in_ok-add_roundings v ↦ subst useful (sym v.cuts-is) v.in_ok-add_roundings.ensures.useful
            | else-wants_roundings v ↦ subst useful (sym v.cuts-is) exact
          ] in subst useful (sym w.cuts-is) more
      | else-round-le-LAST_OPEN_ROUND w ↦ subst useful (sym w.cuts-is) exact
    ] in
    taken_useful pool point c.truncate.new.self.items c.if-round-le-LAST_OPEN_ROUND.cuts.items 200 c.truncate.ensures.items all

pub returns-clause-none : goal.returns-clause-none
returns-clause-none c = λ none optimal.
    let items = λ (cuts : Vec Record Global). cuts.items in
    let pool = c.args.rows.now in
    let exact = c.in_ok-cuts.cuts in
    let told = c.in_ok-cuts.ensures in
    let chosen = c.args.chosen.now in
    let unbroken_where = unbroken pool c.args.lp.now c.in-Optimal.point (ap point_of c.in-Optimal.is) chosen c.args.round in
    let gone : c.if-round-le-LAST_OPEN_ROUND.cuts.items ≡ [] = nothing_taken c.if-round-le-LAST_OPEN_ROUND.cuts.items 199 (sym c.truncate.ensures.items ∙ none) in
    elim c.if-round-le-LAST_OPEN_ROUND.branch [
      | then-round-le-LAST_OPEN_ROUND+then-is_empty+in_ok-cuts-2 w ↦
          let before = w.if-wants_roundings.cuts in
          let zero : before.len ≡ 0 = eqb-true before.len 0 (sym w.is_empty.ensures ∙ w.if-is_empty.true) in
          let empty : before.items ≡ [] = empty_of before.items (omega (arith, before.ok, zero)) in
          elim w.if-wants_roundings.branch [
            | then-wants_roundings+in_ok-add_roundings v ↦
                let behind = sym (ap items v.cuts-is) ∙ empty in
                let first = v.in_ok-add_roundings.ensures.old behind in
                unbroken_where (told.conns first) (told.odds first) (λ early. v.in_ok-add_roundings.ensures.named behind)
            | else-wants_roundings v ↦
                let long : exact.len ≡ 0 = ap (λ (cuts : Vec Record Global). cuts.len) (sym v.cuts-is) ∙ zero in
                let wanted : w.wants_roundings.result ≡ true = w.wants_roundings.ensures (omega (arith, w.len.ensures, long)) in
                absurd (cc (wanted, v.if-wants_roundings.false))
          ]
      | then-round-le-LAST_OPEN_ROUND+else-is_empty w ↦
          let before = w.if-wants_roundings.cuts in
          let empty : length before.items ≡ 0 = ap (λ (cuts : Vec Record Global). length cuts.items) (sym w.cuts-is) ∙ ap length gone in
          absurd (eqb-false before.len 0 (sym w.is_empty.ensures ∙ w.if-is_empty.false) (omega (arith, before.ok, empty)))
      | else-round-le-LAST_OPEN_ROUND w ↦
          let first = sym (ap items w.cuts-is) ∙ gone in
          unbroken_where (told.conns first) (told.odds first) (λ early. absurd (omega (arith, early, w.if-round-le-LAST_OPEN_ROUND.false)))
    ]
