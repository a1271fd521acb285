use Rattle.std.proofs.Common.{◌≡◌, ◌∙◌, ℕ, List, None, Some, sym, subst, arith}
use Rattle.std.specs.Prelude.{◌&&◌, if◌then◌else◌}
use Rattle.wrp_rules.specs.Ranges.{is_count}
use Rattle.wrp_grammar.specs.Parts.{is_number, number_of}
use Rattle.wrp_postman.proofs.Numbers.{no_number}
use Rattle.wrp_postman.proofs.words.number_in.Goals as goal

pub returns-in_err-number : goal.returns-in_err-number
returns-in_err-number c =
    c.from_residual.ensures
    ∙ sym (no_number c.args.least c.args.most c.args.word.now
    (omega (arith, c.if-word-gt-MOST_DIGITS.false))
    (subst (λ (w : List ℕ). (if is_number w && is_count (number_of w) then Some (number_of w) else None) ≡ None) c.as_bytes.ensures.value (sym c.read_count.ensures ∙ c.in_err-number.was)))
