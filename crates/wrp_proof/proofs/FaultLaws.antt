-- A line has one fault.
use Rattle.std.proofs.Common.{arith, ◌≡◌, ℕ, true, List, refl, sym, ap, ◌∙◌}
use Rattle.std.proofs.lemmas.Bool.{false≢true}
use Rattle.wrp_rules.specs.declared.layout.Kind.{Kind}
use Rattle.wrp_rules.specs.Layouts.{end_kinds}
use Rattle.wrp_proof.specs.declared.views.ViewFault.{ViewFault}
use Rattle.wrp_proof.specs.declared.views.ViewFault.TheVariants as faults
use Rattle.wrp_proof.specs.declared.fault.LineFault.{LineFault}
use Rattle.wrp_proof.specs.declared.fault.LineFault.TheVariants as line_faults
use Rattle.wrp_grammar.specs.Shapes.{is_of_kinds}
use Rattle.wrp_grammar.specs.Words.{words_are_apart}
use Rattle.wrp_grammar.proofs.PlaceLaws.{one-front, one-number}
use Rattle.wrp_proof.specs.Views.{IsFaultIn}
use Rattle.wrp_proof.specs.Ends.{line_fault, IsEndFault}

pub one-fault : (kinds : List Kind) → words_are_apart kinds ≡ true → (line : List ℕ) (one other : ViewFault) → IsFaultIn kinds line one → IsFaultIn kinds line other → one ≡ other
one-fault kinds apart line (faults.Form m) (faults.Form n) h k = ap faults.Form (one-front (is_of_kinds kinds) line m n h.3 k.3)
one-fault kinds apart line (faults.Number m) (faults.Number n) h k = ap faults.Number (one-number kinds apart line m n h.3 k.3)
one-fault kinds apart line faults.Long faults.Long h k = refl
one-fault kinds apart line (faults.Form m) (faults.Number n) h k = absurd (false≢true (sym h.1 ∙ k.1))
one-fault kinds apart line (faults.Number m) (faults.Form n) h k = absurd (false≢true (sym k.1 ∙ h.1))
one-fault kinds apart line (faults.Form m) faults.Long h k = let short = h.0 in absurd (omega arith)
one-fault kinds apart line (faults.Number m) faults.Long h k = let short = h.0 in absurd (omega arith)
one-fault kinds apart line faults.Long (faults.Form n) h k = let short = k.0 in absurd (omega arith)
one-fault kinds apart line faults.Long (faults.Number n) h k = let short = k.0 in absurd (omega arith)

-- the fault of an end line is one that takes no memory
record IsSame (line : List ℕ) (fault : LineFault) : Type 0 where
  view : ViewFault
  same : line_fault view ≡ fault
  is : IsFaultIn end_kinds line view

as_view : (line : List ℕ) (fault : LineFault) → IsEndFault line fault → IsSame line fault
as_view line (line_faults.Form at) h = record { view = faults.Form at; same = refl; is = h }
as_view line (line_faults.Number at) h = record { view = faults.Number at; same = refl; is = h }
as_view line line_faults.Long h = record { view = faults.Long; same = refl; is = h }
as_view line line_faults.Memory h = absurd h

pub one-end_fault : (line : List ℕ) (one other : LineFault) → IsEndFault line one → IsEndFault line other → one ≡ other
one-end_fault line one other h k =
    let a = as_view line one h in
    let b = as_view line other k in
    sym a.same ∙ ap line_fault (one-fault end_kinds refl line a.view b.view a.is b.is) ∙ b.same
