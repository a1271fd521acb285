-- The lines of bytes: the first line cut off, and what its limit says.
use Rattle.std.proofs.Common.{inl, inr, ◌⊎◌, ◌≡◌, ℕ, ◌+◌, ◌<◌, Bool, true, false, ◌&&◌, not, ◌==◌, nat_lt, List, [], ◌∷◌, ◌++◌, length, refl, sym, ap, ◌∙◌, subst, arith, length-append}
use Rattle.std.specs.Prelude.{min}
use Rattle.std.proofs.lemmas.Bool.{and_parts, and_from, and_left, not-true, not_from_false, or_left, or_right, lt-ltb, eqb-true, ne_eqb}
use Rattle.wrp_rules.specs.Proofs.{most_bytes}
use Rattle.wrp_check.specs.Streams.{is_one_line, line_len, PassesLimit}
use Rattle.wrp_check.specs.Verdicts.{lines_in, is_long}
use Rattle.wrp_check.proofs.FirstLines.{line_len_fed, line_len_whole}

-- the first line of bytes that go on behind it
pub lines-more : (line rest : List ℕ) → is_one_line line ≡ true → lines_in (line ++ 10 ∷ rest) ≡ line ∷ lines_in rest
lines-more [] rest h = refl
lines-more (byte ∷ line) rest h =
    let both = and_parts (not (byte == 10)) (is_one_line line) h in
    let same = not-true (byte == 10) both.0 in
    let others = lines-more line rest both.1 in
    rw (same, others) refl

-- bytes without a line feed are one line
pub lines-one : (line : List ℕ) → is_one_line line ≡ true → lines_in line ≡ line ∷ []
lines-one [] h = refl
lines-one (byte ∷ line) h =
    let both = and_parts (not (byte == 10)) (is_one_line line) h in
    let same = not-true (byte == 10) both.0 in
    let others = lines-one line both.1 in
    rw (same, others) refl

-- bytes have a first line, which is all of them only where they are none
pub record Lines (bytes : List ℕ) : Type 0 where
  pub first : List ℕ
  pub others : List (List ℕ)
  pub are : lines_in bytes ≡ first ∷ others
  pub more : (bytes ≡ [] → ⊥) → ((length first == 0) && (length others == 0)) ≡ false

none : (lines : List (List ℕ)) (first : List ℕ) (others : List (List ℕ)) → lines ≡ first ∷ others → (length lines == 0) ≡ false
none lines first others e = rw e (ne_eqb (length (first ∷ others)) 0 (λ zero. omega (arith, zero)))

pub lines_of : (bytes : List ℕ) → Lines bytes
lines_of [] = record { first = []; others = []; are = refl; more = λ some. absurd (some refl) }
lines_of (byte ∷ bytes) = behind (byte == 10) refl (lines_of bytes)
  where
    behind : (is : Bool) → (byte == 10) ≡ is → Lines bytes → Lines (byte ∷ bytes)
    behind true e rest = record {
      first = [];
      others = lines_in bytes;
      are = rw e refl;
      more = λ some. none (lines_in bytes) rest.first rest.others rest.are;
    }
    behind false e rest = record {
      first = byte ∷ rest.first;
      others = rest.others;
      are = let are = rest.are in rw (e, are) refl;
      more = λ some. and_left (length (byte ∷ rest.first) == 0) (length rest.others == 0) (ne_eqb (length (byte ∷ rest.first)) 0 (λ zero. omega (arith, zero)));
    }

pub some_lines : (bytes : List ℕ) → lines_in bytes ≡ [] → ⊥
some_lines bytes e = clash (lines_of bytes).first (lines_of bytes).others (sym e ∙ (lines_of bytes).are)
  where
    clash : (first : List ℕ) (others : List (List ℕ)) → [] ≡ first ∷ others → ⊥
    clash first others h = cc

-- the first line and what stands behind its line feed, or one line alone
pub record FirstLine (bytes : List ℕ) : Type 0 where
  pub line : List ℕ
  pub rest : List ℕ
  pub one : is_one_line line ≡ true
  pub same : bytes ≡ line ++ 10 ∷ rest

pub first_line : (bytes : List ℕ) → FirstLine bytes ⊎ (is_one_line bytes ≡ true)
first_line [] = inr refl
first_line (byte ∷ bytes) = behind (byte == 10) refl (first_line bytes)
  where
    behind : (is : Bool) → (byte == 10) ≡ is → FirstLine bytes ⊎ (is_one_line bytes ≡ true) → FirstLine (byte ∷ bytes) ⊎ (is_one_line (byte ∷ bytes) ≡ true)
    behind true e rest = inl (record { line = []; rest = bytes; one = refl; same = ap (λ first. first ∷ bytes) (eqb-true byte 10 e) })
    behind false e (inl found) = inl (record {
      line = byte ∷ found.line;
      rest = found.rest;
      one = and_from (not (byte == 10)) (is_one_line found.line) (not_from_false (byte == 10) e) found.one;
      same = ap (λ others. byte ∷ others) found.same;
    })
    behind false e (inr one) = inr (and_from (not (byte == 10)) (is_one_line bytes) (not_from_false (byte == 10) e) one)

-- ---- the limit of a line

-- two orders, as a test of two orders
passes-is_long : (limit taken own : ℕ) (line : List ℕ) → (limit < length line) ⊎ (most_bytes < taken + own) → is_long limit taken line own ≡ true
passes-is_long limit taken own line (inl long) = or_left (nat_lt limit (length line)) (nat_lt most_bytes (taken + own)) (lt-ltb limit (length line) long)
passes-is_long limit taken own line (inr past) = or_right (nat_lt limit (length line)) (nat_lt most_bytes (taken + own)) (lt-ltb most_bytes (taken + own) past)

own-more : (line rest : List ℕ) → is_one_line line ≡ true → min (line_len (line ++ 10 ∷ rest) + 1) (length (line ++ 10 ∷ rest)) ≡ length line + 1
own-more line rest h = let own = line_len_fed line rest h in let all = length-append line (10 ∷ rest) in omega (arith, own, all)

own-one : (line : List ℕ) → is_one_line line ≡ true → min (line_len line + 1) (length line) ≡ length line
own-one line h = let own = line_len_whole line h in omega (arith, own)

-- two tests of a line are those of its bytes, where its length and its own bytes are theirs
long-as : (limit taken own : ℕ) (line bytes : List ℕ) → line_len bytes ≡ length line → min (line_len bytes + 1) (length bytes) ≡ own → PassesLimit limit taken bytes → is_long limit taken line own ≡ true
long-as limit taken own line bytes len all (inl long) = passes-is_long limit taken own line (inl (subst (λ n. limit < n) len long))
long-as limit taken own line bytes len all (inr past) = passes-is_long limit taken own line (inr (subst (λ n. most_bytes < taken + n) all past))

-- a line with its line feed is long where the bytes pass the limit
pub long-more : (limit taken : ℕ) (line rest : List ℕ) → is_one_line line ≡ true → PassesLimit limit taken (line ++ 10 ∷ rest) → is_long limit taken line (length line + 1) ≡ true
long-more limit taken line rest h = long-as limit taken (length line + 1) line (line ++ 10 ∷ rest) (line_len_fed line rest h) (own-more line rest h)

-- and so is the last line
pub long-one : (limit taken : ℕ) (line : List ℕ) → is_one_line line ≡ true → PassesLimit limit taken line → is_long limit taken line (length line) ≡ true
long-one limit taken line h = long-as limit taken (length line) line line (line_len_whole line h) (own-one line h)
