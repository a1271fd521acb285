use Rattle.std.proofs.Common.{◌≡◌, ◌∙◌, true, None, List, ℕ, rules, refl, sym, subst, arith}
use Rattle.std.specs.Prelude.{⊤}
use Rattle.wrp_rules.specs.declared.record.Record.TheVariants.{Empty}
use Rattle.wrp_writer.specs.Limits.{is_writable}
use Rattle.wrp_progress.proofs.Branching.{emptied}
use Rattle.wrp_keep.specs.Keeps.{broken_by}
use Rattle.wrp_box.specs.Points.{alone}
use Rattle.wrp_engine.specs.Searches.{search_of}
use Rattle.wrp_engine.proofs.Adding.{adds_none, adds_free}
use Rattle.wrp_engine.proofs.Shutting.{empty_writable, empty_next}
use Rattle.wrp_engine.proofs.Ending.{no_labels, joined_done}
use Rattle.wrp_engine.proofs.close.close_empty.Goals as goal

pub add-requires-clause-writable : goal.add-requires-clause-writable
add-requires-clause-writable g c =
    let mult : c.from_vec-mult.result ≡ alone c.args.row = c.from_vec-mult.ensures ∙ c.in_ok-vec.ensures.items_if_clones_equal (λ y h. search rules) in
    subst (λ (m : List (ℕ × ℕ)). is_writable (Empty c.args.node m) ≡ true) (sym mult)
    (empty_writable c.args.node c.args.row c.requires.small c.requires.empties.small)

pub add-requires-clause-valid : goal.add-requires-clause-valid
add-requires-clause-valid g c =
    let keep = c.args.keep.now in
    let mult : c.from_vec-mult.result ≡ alone c.args.row = c.from_vec-mult.ensures ∙ c.in_ok-vec.ensures.items_if_clones_equal (λ y h. search rules) in
    subst (λ (m : List (ℕ × ℕ)). broken_by (Empty c.args.node m) keep ≡ None) (sym mult)
    (empty_next keep c.args.node c.args.row c.requires.small c.requires.empties (no_labels keep.town keep.records c.requires.tour c.requires.going.valid) c.requires.opened)

pub returns-clause-done : goal.returns-clause-done
returns-clause-done g c =
    let keep = c.args.keep.now in
    let mult = c.from_vec-mult.result in
    joined_done (search_of keep (g.D.Disk.meaning c.args.disk.now)) (search_of c.add.new.keep (g.D.Disk.meaning c.add.new.disk)) (Empty c.args.node mult) c.args.node c.add.result
    c.add.ensures.leaves c.add.ensures.joins (emptied keep.town keep.records c.args.node c.requires.opened mult)

pub returns-in_err-vec-clause-adds : goal.returns-in_err-vec-clause-adds
returns-in_err-vec-clause-adds g c = adds_none (λ _. ⊤) 1 0 c.args.keep.now c.args.keep.now refl

pub returns-clause-adds : goal.returns-clause-adds
returns-clause-adds g c = adds_free 0 c.args.keep.now c.add.new.keep (Empty c.args.node c.from_vec-mult.result) (omega arith) (λ entry added. record {}) c.add.ensures.at_most
