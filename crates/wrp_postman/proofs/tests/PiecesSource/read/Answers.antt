use Rattle.std.proofs.Common.{◌≡◌, ◌∙◌, ℕ, ◌≤◌, true, List, ◌++◌, length, take, drop, Result, Ok, Err, IfOk, sym, ap, subst}
use Rattle.std.proofs.lemmas.List.{drop-append-le, take-append-drop}
use Rattle.wrp_out.specs.declared.source.Failed.{Failed}
use Rattle.wrp_postman.proofs.tests.PiecesSource.read.Goals as goal

-- a read into the front of a slice leaves what lies behind its bytes
front_read : (answer : Result ℕ Failed) (old new : List ℕ) (room : ℕ) → length new ≡ length (take room old) → IfOk answer (λ count. count ≤ length (take room old)) → IfOk answer (λ count. drop count new ≡ drop count (take room old)) → IfOk answer (λ count. true ≡ true → drop count (new ++ drop room old) ≡ drop count old)
front_read (Ok count) old new room size fits kept = λ told.
    drop-append-le count new (drop room old) (subst (λ (n : ℕ). count ≤ n) (sym size) fits)
    ∙ (ap (λ (l : List ℕ). l ++ drop room old) kept
    ∙ (sym (drop-append-le count (take room old) (drop room old) fits) ∙ ap (drop count) (take-append-drop room old)))
front_read (Err failed) old new room size fits kept = tt

pub returns-clause-others : goal.returns-clause-others
returns-clause-others c = front_read c.read.result c.args.into.now c.read.new.into c.min-room.result c.read.auto.into c.read.ensures.fits c.read.ensures.others
