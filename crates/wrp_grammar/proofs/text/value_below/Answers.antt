use Rattle.std.proofs.Common.{◌+◌, length, arith, sym}
use Rattle.std.specs.Char.{is_ascii_digit}
use Rattle.std.specs.List.{list_all}
use Rattle.std.proofs.Common.{nat_lt}
use Rattle.std.proofs.lemmas.Bool.{and_parts, cond-false, le-ltb}
use Rattle.std.proofs.lemmas.Str.Parse.{digits_value-take-le}
use Rattle.wrp_grammar.specs.Parts.{number_of}
use Rattle.wrp_grammar.proofs.NumberTexts.{number_of-more}
use Rattle.wrp_grammar.proofs.text.value_below.Goals as goal

pub returns-then-value-limit : goal.returns-then-value-limit
returns-then-value-limit c =
    let digits = c.args.digits.now in
    let i = c.loop-digit.digit-index in
    let all = and_parts (nat_lt 0 (length digits)) (list_all is_ascii_digit digits) c.requires.digits in
    let more = number_of-more digits i all.1 (omega arith) in
    let up = digits_value-take-le 10 digits (i + 1) (omega arith) in
    sym (cond-false _ _ _ (le-ltb (number_of digits) c.args.limit (omega (arith, more, up, c.from.ensures))))

pub loop-digit-preserved : goal.loop-digit-preserved
loop-digit-preserved c =
    let digits = c.args.digits.now in
    let all = and_parts (nat_lt 0 (length digits)) (list_all is_ascii_digit digits) c.requires.digits in
    let more = number_of-more digits c.loop-digit.digit-index all.1 (omega arith) in
    record { value = omega (arith, more, c.from.ensures); small = omega arith }
