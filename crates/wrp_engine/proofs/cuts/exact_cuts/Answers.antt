use Rattle.std.proofs.Common.{◌≡◌, length, Vec, Global, ap, sym, ◌∙◌, subst, arith}
use Rattle.std.proofs.lemmas.Bool.{eqb-false}
use Rattle.wrp_rules.specs.declared.record.Record.{Record}
use Rattle.wrp_engine.specs.Cuts.{AreUseful}
use Rattle.wrp_engine.proofs.Broken.{odd_cuts_of, conns_useful}
use Rattle.wrp_engine.proofs.cuts.exact_cuts.Goals as goal
use Rattle.wrp_engine.proofs.cuts.exact_cuts.Goals.{then-round-le-LAST_OPEN_ROUND+in_ok-odd_candidates+in_ok-add_forms, else-round-le-LAST_OPEN_ROUND, then-is_empty+in_ok-add_odd_sets, else-is_empty}

pub add_forms-requires : goal.add_forms-requires
add_forms-requires c = odd_cuts_of c.args.rows.now.town c.args.point.now c.in_ok-odd_candidates.field-0.items c.in_ok-odd_candidates.ensures.broken

pub returns-clause-useful : goal.returns-clause-useful
returns-clause-useful c =
    let pool = c.args.rows.now in
    let point = c.args.point.now in
    let useful = λ (cuts : Vec Record Global). AreUseful pool point cuts.items in
    let conns = conns_useful pool point c.in_ok-cuts.cuts.items c.in_ok-cuts.ensures.broken.broken in
    let both : AreUseful pool point c.if-round-le-LAST_OPEN_ROUND.cuts.items =
    elim c.if-round-le-LAST_OPEN_ROUND.branch [
      | then-round-le-LAST_OPEN_ROUND+in_ok-odd_candidates+in_ok-add_forms w ↦ subst useful (sym w.cuts-is)
          (w.in_ok-add_forms.ensures.useful point (record { serving = c.requires.point; broken = w.in_ok-odd_candidates.ensures.broken }) conns)
      | else-round-le-LAST_OPEN_ROUND w ↦ subst useful (sym w.cuts-is) conns
    ] in
    elim c.if-is_empty.branch [
      | then-is_empty+in_ok-add_odd_sets w ↦ subst useful (sym w.cuts-is) w.in_ok-add_odd_sets.ensures.useful
      | else-is_empty w ↦ subst useful (sym w.cuts-is) both
    ]

pub returns-clause-odds : goal.returns-clause-odds
returns-clause-odds c = λ none.
    let first = c.if-round-le-LAST_OPEN_ROUND.cuts in
    elim c.if-is_empty.branch [
      | then-is_empty+in_ok-add_odd_sets w ↦ w.in_ok-add_odd_sets.ensures.odds (sym (ap (λ (cuts : Vec Record Global). cuts.items) w.cuts-is) ∙ none)
      | else-is_empty w ↦ let empty : length first.items ≡ 0 = ap (λ (cuts : Vec Record Global). length cuts.items) (sym w.cuts-is) ∙ ap length none in
          absurd (eqb-false first.len 0 (sym c.is_empty.ensures ∙ w.if-is_empty.false) (omega (arith, first.ok, empty)))
    ]
