use Rattle.std.proofs.Common.{sym, ap, ◌∙◌}
use Rattle.wrp_grammar.proofs.KindLines.{behind-read}
use Rattle.wrp_proof.proofs.LineLaws.{ends-spelled}
use Rattle.wrp_proof.specs.Kinds.{is_end_kind}
use Rattle.wrp_grammar.specs.Reading.{content_held}
use Rattle.wrp_proof.proofs.end.end_of_line.Goals as goal

pub end_of-requires-clause-kind : goal.end_of-requires-clause-kind
end_of-requires-clause-kind c =
    let read = behind-read c.in_ok-kind.kind c.in_ok-kind.left.now (content_held c.in_ok-content.content) (sym c.in_ok-content.ensures) in
    ap is_end_kind read.kind_is ∙ c.in_ok-kind.ensures.kind

pub end_of-requires-clause-rules : goal.end_of-requires-clause-rules
end_of-requires-clause-rules c = (behind-read c.in_ok-kind.kind c.in_ok-kind.left.now (content_held c.in_ok-content.content) (sym c.in_ok-content.ensures)).rules

pub returns-clause-some : goal.returns-clause-some
returns-clause-some c = ends-spelled c.args.line.now (content_held c.in_ok-content.content) c.end_of.result (c.in_ok-kind.ensures.some ∙ sym c.in_ok-content.ensures) c.end_of.ensures.content
