-- What happened to an outside object over several calls in a row.
use Rattle.std.proofs.Common.{◌≡◌, ℕ, zero, suc, ◌+◌, ◌≤◌, List, [], ◌∷◌, ◌++◌, length, ap, arith, take, drop, Option, None, Some, refl, append_assoc, take-add, inl, inr}
use Rattle.std.specs.Option.{option_map}
use Rattle.std.proofs.Math.Seq.{take-append-add}
use Rattle.std.proofs.lemmas.List.{append-nil, take_all}
use Rattle.wrp_out.specs.Outside.{Input, Output, Tells, Took, TookAtMost, FaultRose, ReadFailed, Gained, GainedPrefix, WriteFailed, WriteStopped}
use Rattle.wrp_out.proofs.CountFacts.{never_falls_same, never_falls_then, rose_then, then_rose}

-- ---- sources

front_none : (told : Option (List ℕ)) → told ≡ option_map (λ left. [] ++ left) told
front_none None = refl
front_none (Some bytes) = refl

front_then : (a b c : Option (List ℕ)) (xs ys : List ℕ) → a ≡ option_map (λ left. xs ++ left) b → b ≡ option_map (λ left. ys ++ left) c → a ≡ option_map (λ left. (xs ++ ys) ++ left) c
front_then a b None xs ys one two = rw two at one
front_then a b (Some rest) xs ys one two = rw append_assoc (rw two at one)

-- no byte was taken
pub took_nothing : (input : Input) → Took input input []
took_nothing input = record { front = front_none input.left; faults = never_falls_same input.faults }

-- one take and the next are one take of both
pub took_then : {a b c : Input} {xs ys : List ℕ} → Took a b xs → Took b c ys → Took a c (xs ++ ys)
took_then {a} {b} {c} {xs} {ys} one two = record {
  front = front_then a.left b.left c.left xs ys one.front two.front;
  faults = never_falls_then a.faults b.faults c.faults one.faults two.faults;
}

-- what was taken before nothing more was, and before a read failed
pub took_no_more : {a b c : Input} {xs : List ℕ} → Took a b xs → Took b c [] → Took a c xs
took_no_more one two = rw append-nil at (took_then one two)

pub took_failed : {a b c : Input} {xs : List ℕ} → Took a b xs → ReadFailed b c → Took a c xs
took_failed one two = took_no_more one two.nothing

-- where what was taken leaves these bytes, both were left before
pub took_all : {a b : Input} {xs : List ℕ} (ys : List ℕ) → Took a b xs → Tells b.left ys → Tells a.left (xs ++ ys)
took_all {a} {b} {xs} ys took left = by b.left took.front left
  where
    by : (told : Option (List ℕ)) → a.left ≡ option_map (λ left. xs ++ left) told → Tells told ys → Tells a.left (xs ++ ys)
    by None front left = rw front tt
    by (Some rest) front left = rw (front, left) refl

-- where no byte is left, what was taken is all that was left before
pub took_whole : {a b : Input} {xs : List ℕ} → Took a b xs → Tells b.left [] → Tells a.left xs
took_whole took end = rw append-nil at (took_all [] took end)

-- a piece was taken, of at most so many bytes
pub took_at_most : {a b : Input} {xs : List ℕ} (most : ℕ) → Took a b xs → length xs ≤ most → TookAtMost most a b
took_at_most {a} {b} {xs} most took few = record { piece = xs; took = took; few = few }

-- a fault that rose has risen whatever is read after it, and since any read before
pub fault_then : (a b c : Input) {xs : List ℕ} → FaultRose a b → Took b c xs → FaultRose a c
fault_then a b c rose after = rose_then a.faults b.faults c.faults rose after.faults

pub then_fault : (a b c : Input) {xs : List ℕ} → Took a b xs → FaultRose b c → FaultRose a c
then_fault a b c before rose = then_rose a.faults b.faults c.faults before.faults rose

-- ---- sinks

back_none : (told : Option (List ℕ)) → told ≡ option_map (λ written. written ++ []) told
back_none None = refl
back_none (Some bytes) = rw append-nil

back_then : (a b c : Option (List ℕ)) (xs ys : List ℕ) → b ≡ option_map (λ written. written ++ xs) a → c ≡ option_map (λ written. written ++ ys) b → c ≡ option_map (λ written. written ++ (xs ++ ys)) a
back_then None b c xs ys one two = rw one at two
back_then (Some held) b c xs ys one two = rw (← append_assoc) (rw one at two)

-- no byte was added
pub gained_nothing : (output : Output) → Gained output output []
gained_nothing output = record { back = back_none output.written; faults = never_falls_same output.faults; empties = never_falls_same output.empties }

-- one piece and the next are one piece
pub gained_then : {a b c : Output} {xs ys : List ℕ} → Gained a b xs → Gained b c ys → Gained a c (xs ++ ys)
gained_then {a} {b} {c} {xs} {ys} one two = record {
  back = back_then a.written b.written c.written xs ys one.back two.back;
  faults = never_falls_then a.faults b.faults c.faults one.faults two.faults;
  empties = never_falls_then a.empties b.empties c.empties one.empties two.empties;
}

-- the next part of a piece after its first part
pub gained_more : {a b c : Output} (bytes : List ℕ) (done more : ℕ) → Gained a b (take done bytes) → Gained b c (take more (drop done bytes)) → Gained a c (take (done + more) bytes)
gained_more bytes done more one two = rw take-add (gained_then one two)

-- a whole piece is a prefix of itself
pub gained_whole : {a b : Output} {xs : List ℕ} → Gained a b xs → GainedPrefix a b xs
gained_whole {a} {b} {xs} all = record { count = length xs; gained = rw (take_all (length xs) xs (omega arith)) all }

-- a piece and some first bytes of the next are first bytes of both
pub gained_prefix_then : {a b c : Output} {xs ys : List ℕ} → Gained a b xs → GainedPrefix b c ys → GainedPrefix a c (xs ++ ys)
gained_prefix_then {a} {b} {c} {xs} {ys} one two = record {
  count = length xs + two.count;
  gained = rw take-append-add (gained_then one two.gained);
}

-- the first bytes of a list, as first bytes of a longer one
prefix_of : (n : ℕ) (xs ys : List ℕ) → (m : ℕ) × (take n xs ≡ take m (xs ++ ys))
prefix_of zero xs ys = (zero, refl)
prefix_of (suc n) [] ys = (zero, refl)
prefix_of (suc n) (x ∷ xs) ys = let shorter = prefix_of n xs ys in (suc shorter.0, ap (λ (l : List ℕ). x ∷ l) shorter.1)

-- some first bytes of a piece are first bytes of a longer one
pub gained_prefix_of : {a b : Output} {xs : List ℕ} (ys : List ℕ) → GainedPrefix a b xs → GainedPrefix a b (xs ++ ys)
gained_prefix_of {a} {b} {xs} ys part =
    let longer = prefix_of part.count xs ys in
    record { count = longer.0; gained = rw (← longer.1) part.gained }

-- a write that failed after others added nothing to them
pub gained_failed : {a b c : Output} {xs : List ℕ} → Gained a b xs → WriteFailed b c → Gained a c xs
gained_failed one two = rw append-nil at (gained_then one two.nothing)

-- a sink that stopped has stopped whatever is written after it, and since any write before
pub stopped_then : (a b c : Output) {xs : List ℕ} → WriteStopped a b → Gained b c xs → WriteStopped a c
stopped_then a b c (inl fault) after = inl (rose_then a.faults b.faults c.faults fault after.faults)
stopped_then a b c (inr empty) after = inr (rose_then a.empties b.empties c.empties empty after.empties)

pub then_stopped : (a b c : Output) {xs : List ℕ} → Gained a b xs → WriteStopped b c → WriteStopped a c
then_stopped a b c before (inl fault) = inl (then_rose a.faults b.faults c.faults before.faults fault)
then_stopped a b c before (inr empty) = inr (then_rose a.empties b.empties c.empties before.empties empty)
