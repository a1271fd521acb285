use Rattle.std.proofs.Common.{◌≡◌, ℕ, List, length, refl, ap, ◌∙◌, arith}
use Rattle.wrp_odd.proofs.Classes.{labelled, labelled_more, labelled_keys, labelled_count, classes_are}
use Rattle.wrp_odd.proofs.candidates.classes.Goals as goal

pub loop-j-preserved : goal.loop-j-preserved
loop-j-preserved c = labelled_more c.args.labels.now c.loop-j.j c.loop-j.entries.items c.push.new.self.items _ refl c.loop-j.invariant c.in_ok-push.ensures.items

whole : (labels : List ℕ) (n : ℕ) (lent entries : List (ℕ × ℕ)) → lent ≡ entries → entries ≡ labelled labels n → n ≡ length labels → lent ≡ labelled labels (length labels)
whole labels n lent entries same is all = same ∙ is ∙ ap (labelled labels) all

pub new-requires-clause-few_entries : goal.new-requires-clause-few_entries
new-requires-clause-few_entries c = omega (arith, labelled_count c.args.labels.now c.as_slice.result.now (whole c.args.labels.now c.loop-j.j c.as_slice.result.now c.loop-j.entries.items c.as_slice.ensures.value c.loop-j.invariant (omega arith)))

pub new-requires-clause-keys : goal.new-requires-clause-keys
new-requires-clause-keys c = labelled_keys c.args.labels.now c.as_slice.result.now (whole c.args.labels.now c.loop-j.j c.as_slice.result.now c.loop-j.entries.items c.as_slice.ensures.value c.loop-j.invariant (omega arith)) c.requires.labels

pub returns : goal.returns
returns c =
    c.in_ok-classes.ensures
    ∙ classes_are c.args.labels.now c.as_slice.result.now (whole c.args.labels.now c.loop-j.j c.as_slice.result.now c.loop-j.entries.items c.as_slice.ensures.value c.loop-j.invariant (omega arith))
