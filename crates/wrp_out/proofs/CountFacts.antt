-- Counts over several calls in a row.
use Rattle.std.proofs.Common.{ℕ, inl, inr, arith}
use Rattle.wrp_out.specs.Counts.{Rose, NeverFalls}

-- a count that no call has changed
pub never_falls_same : (a : ℕ) → NeverFalls a a
never_falls_same a = record { later = omega arith; stays = λ last. last }

-- a count that does not fall in a call, nor in the next, does not fall
pub never_falls_then : (a b c : ℕ) → NeverFalls a b → NeverFalls b c → NeverFalls a c
never_falls_then a b c one two = record { later = omega arith; stays = λ last. two.stays (one.stays last) }

-- a count that rose has risen whatever comes after
pub rose_then : (a b c : ℕ) → Rose a b → NeverFalls b c → Rose a c
rose_then a b c (inl less) after = inl (omega arith)
rose_then a b c (inr last) after = inr (after.stays last)

-- a count that rises has risen since any time before
pub then_rose : (a b c : ℕ) → NeverFalls a b → Rose b c → Rose a c
then_rose a b c before (inl less) = inl (omega arith)
then_rose a b c before (inr last) = inr last
