use Rattle.std.proofs.Common.{sym, ◌∙◌, ◌^◌, map}
use Rattle.std.specs.List.{list_all}
use Rattle.std.proofs.lemmas.Bool.{and_parts}
use Rattle.wrp_grammar.specs.Parts.{parts_of, is_pair, pair_of}
use Rattle.wrp_rules.specs.Ranges.{are_pairs}
use Rattle.wrp_grammar.proofs.PairLists.{few_pairs, all-widened}
use Rattle.wrp_grammar.proofs.parts.PairsOf.pairs.Goals as goal

pub invariant_of-result : goal.invariant_of-result
invariant_of-result c =
    let parts = parts_of c.args.left.now in
    let right = sym (few_pairs c.args.most c.args.left.now) ∙ sym c.are_pairs_text.ensures ∙ c.if-are_pairs_text.true in
    all-widened c.args.most (2 ^ 72) parts c.requires
    (and_parts (list_all (is_pair c.args.most) parts) (are_pairs c.args.most (map pair_of parts)) right).0
