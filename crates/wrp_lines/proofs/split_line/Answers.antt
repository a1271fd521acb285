use Rattle.std.proofs.Common.{◌-◌, ◌+◌, ◌∷◌, length, drop, sym, ◌∙◌, arith}
use Rattle.std.specs.Str.Lines.{lines}
use Rattle.std.proofs.lemmas.List.{take_all, length-drop}
use Rattle.wrp_lines.proofs.Feeds.{split_feed, split_last}
use Rattle.wrp_lines.proofs.split_line.Goals as goal

pub returns-in-Some-clause-lines : goal.returns-in-Some-clause-lines
returns-in-Some-clause-lines c =
    split_feed c.args.bytes.now c.in-Some.at (sym c.feed_at.ensures ∙ c.in-Some.is)
    ∙ (λ i. sym c.without_return.ensures i ∷ lines (sym (take_all (length c.args.bytes.now - (c.in-Some.at + 1)) (drop (c.in-Some.at + 1) c.args.bytes.now) (omega (arith, length-drop (c.in-Some.at + 1) c.args.bytes.now))) i))

pub returns-in-None-clause-lines : goal.returns-in-None-clause-lines
returns-in-None-clause-lines c = split_last c.args.bytes.now (sym c.is_empty.ensures ∙ c.if-is_empty.false) (sym c.feed_at.ensures ∙ c.in-None.is)
