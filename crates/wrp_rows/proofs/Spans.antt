-- Rows in one table: after one more row, and after the last ones were dropped.
use Rattle.std.proofs.Common.{◌≡◌, ℕ, suc, ◌+◌, ◌-◌, ◌<◌, ◌≤◌, ℤ, List, [], ◌∷◌, ◌++◌, map, length, get_or, take, drop, refl, ap, sym, ◌∙◌, subst, arith, length-append, length-drop}
use Rattle.std.specs.List.{All, slice_range}
use Rattle.std.proofs.lemmas.List.{map-append, length-take-le, get_or-take, get_or_default, drop-append-le, take-append-le, drop_at, take_all, drop-take, take-take, take-map}
use Rattle.std.proofs.lemmas.List.Elements.{All-push, All-take, All-weaker}
use Rattle.std.proofs.lemmas.List.Quantifiers.{all_pairs_push}
use Rattle.wrp_rows.specs.declared.table.Span.{Span}
use Rattle.wrp_rows.specs.Pools.{SparseRow}
use Rattle.wrp_rows.specs.Tables.{row_in, AreSpans}

pub map_all : {X Y : Type 0} (f g : X → Y) (xs : List X) → All (λ x. f x ≡ g x) xs → map f xs ≡ map g xs
map_all f g [] same = refl
map_all f g (x ∷ xs) same =
    let first : f x ≡ g x = same 0 x (omega arith) in
    let rest = map_all f g xs (λ k d below. same (suc k) d (omega arith)) in
    cc

-- a part of a list, in a longer list and in a shorter one
part_append : {X : Type 0} (xs ys : List X) (a b : ℕ) → a ≤ b → b ≤ length xs → slice_range (xs ++ ys) a b ≡ slice_range xs a b
part_append xs ys a b forward within =
    ap (take (b - a)) (drop-append-le a xs ys (omega arith))
    ∙ take-append-le (b - a) (drop a xs) ys (omega (arith, length-drop a xs))

part_take : {X : Type 0} (xs : List X) (n a b : ℕ) → a ≤ b → b ≤ n → slice_range (take n xs) a b ≡ slice_range xs a b
part_take xs n a b forward within =
    let e : a + (n - a) ≡ n = omega arith in
    ap (take (b - a)) (ap (λ (m : ℕ). drop a (take m xs)) (sym e) ∙ drop-take a (n - a) xs)
    ∙ take-take (b - a) (n - a) (drop a xs) (omega arith)

part_last : {X : Type 0} (xs ys : List X) (m : ℕ) → m ≡ length (xs ++ ys) → slice_range (xs ++ ys) (length xs) m ≡ ys
part_last xs ys m is =
    ap (take (m - length xs)) (drop_at xs ys (length xs) refl)
    ∙ take_all (m - length xs) ys (omega (arith, length-append xs ys))

-- the rows of spans, in longer terms and in shorter ones
rows_append : (terms new : List (ℕ × ℤ)) (spans : List Span) → AreSpans terms spans → map (row_in (terms ++ new)) spans ≡ map (row_in terms) spans
rows_append terms new spans are =
    map_all (row_in (terms ++ new)) (row_in terms) spans
    (λ k d below.
    let s = get_or spans k d in
    let same = part_append terms new s.from s.to (are.forward k d below) (are.within k d below) in
    let e : row_in (terms ++ new) s ≡ row_in terms s = cc in
    e)

rows_take : (terms : List (ℕ × ℤ)) (n : ℕ) (spans : List Span) → All (λ s. s.from ≤ s.to) spans → All (λ s. s.to ≤ n) spans → map (row_in (take n terms)) spans ≡ map (row_in terms) spans
rows_take terms n spans forward within =
    map_all (row_in (take n terms)) (row_in terms) spans
    (λ k d below.
    let s = get_or spans k d in
    let same = part_take terms n s.from s.to (forward k d below) (within k d below) in
    let e : row_in (take n terms) s ≡ row_in terms s = cc in
    e)

-- ---- one more row

pub spans_pushed : (terms new : List (ℕ × ℤ)) (spans : List Span) (last : Span) → AreSpans terms spans → last.from ≡ length terms → last.to ≡ length (terms ++ new) → AreSpans (terms ++ new) (spans ++ last ∷ [])
spans_pushed terms new spans last are from to = record {
  forward = All-push (λ s. s.from ≤ s.to) spans last are.forward (omega (arith, length-append terms new));
  within = All-push (λ s. s.to ≤ length (terms ++ new)) spans last
      (All-weaker (λ s. s.to ≤ length terms) (λ s. s.to ≤ length (terms ++ new)) (λ s h. omega (arith, length-append terms new)) spans are.within) (omega arith);
  apart = all_pairs_push (λ s t. s.to ≤ t.from) spans last are.apart (λ k d below. let h = are.within k d below in omega arith);
}

pub rows_pushed : (terms new : List (ℕ × ℤ)) (spans : List Span) (last : Span) → AreSpans terms spans → last.from ≡ length terms → last.to ≡ length (terms ++ new) → map (row_in (terms ++ new)) (spans ++ last ∷ []) ≡ map (row_in terms) spans ++ record { terms = new; right_side = last.right_side } ∷ []
rows_pushed terms new spans last are from to =
    let old = rows_append terms new spans are in
    let own : slice_range (terms ++ new) last.from last.to ≡ new = ap (λ (m : ℕ). slice_range (terms ++ new) m last.to) from ∙ part_last terms new last.to to in
    let row : row_in (terms ++ new) last ≡ record { terms = new; right_side = last.right_side } = cc in
    map-append (row_in (terms ++ new)) spans (last ∷ [])
    ∙ ap (λ (rows : List SparseRow). rows ++ row_in (terms ++ new) last ∷ []) old
    ∙ ap (λ (r : SparseRow). map (row_in terms) spans ++ r ∷ []) row

-- ---- fewer rows

-- the spans before one of them end before its terms
ends_before : (terms : List (ℕ × ℤ)) (spans : List Span) (n : ℕ) (d : Span) → AreSpans terms spans → n < length spans → All (λ s. s.to ≤ (get_or spans n d).from) (take n spans)
ends_before terms spans n d are below k e inside =
    let few : k < n = omega (arith, length-take-le n spans (omega arith)) in
    rw (get_or-take n spans k e few, get_or_default spans k e d (omega arith)) (are.apart k n d few below)

pub spans_dropped : (terms : List (ℕ × ℤ)) (spans : List Span) (n from : ℕ) (d : Span) → AreSpans terms spans → n < length spans → from ≡ (get_or spans n d).from → AreSpans (take from terms) (take n spans)
spans_dropped terms spans n from d are below is =
    let inside : from ≤ length terms = (let a = are.forward n d below in let b = are.within n d below in omega arith) in
    record {
      forward = All-take (λ s. s.from ≤ s.to) n spans are.forward;
      within = λ k e within. let h = ends_before terms spans n d are below k e within in omega (arith, length-take-le from terms inside);
      apart = λ i j e less within.
          let few = length-take-le n spans (omega arith) in
          let first : i < n = omega arith in
          let second : j < n = omega arith in
          rw (get_or-take n spans i e first, get_or-take n spans j e second) (are.apart i j e less (omega arith));
    }

pub rows_dropped : (terms : List (ℕ × ℤ)) (spans : List Span) (n from : ℕ) (d : Span) → AreSpans terms spans → n < length spans → from ≡ (get_or spans n d).from → map (row_in (take from terms)) (take n spans) ≡ take n (map (row_in terms) spans)
rows_dropped terms spans n from d are below is =
    rows_take terms from (take n spans) (All-take (λ s. s.from ≤ s.to) n spans are.forward)
    (subst (λ (m : ℕ). All (λ (s : Span). s.to ≤ m) (take n spans)) (sym is) (ends_before terms spans n d are below))
    ∙ sym (take-map (row_in terms) n spans)

-- what a push and a truncation of both lists leave
pub table_pushed : (terms new whole : List (ℕ × ℤ)) (spans after : List Span) (from to : ℕ) (side : ℤ) (old : List SparseRow) → AreSpans terms spans → map (row_in terms) spans ≡ old → whole ≡ terms ++ new → from ≡ length terms → to ≡ length whole → after ≡ spans ++ record { from = from; to = to; right_side = side } ∷ [] → map (row_in whole) after ≡ old ++ record { terms = new; right_side = side } ∷ []
table_pushed terms new whole spans after from to side old are is grown first last pushed =
    ap (λ (xs : List Span). map (row_in whole) xs) pushed
    ∙ ap (λ (ts : List (ℕ × ℤ)). map (row_in ts) (spans ++ record { from = from; to = to; right_side = side } ∷ [])) grown
    ∙ rows_pushed terms new spans (record { from = from; to = to; right_side = side }) are first (last ∙ ap length grown)
    ∙ ap (λ (rows : List SparseRow). rows ++ record { terms = new; right_side = side } ∷ []) is

pub table_dropped : (terms left : List (ℕ × ℤ)) (spans after : List Span) (n : ℕ) (d : Span) (old : List SparseRow) → AreSpans terms spans → map (row_in terms) spans ≡ old → n < length spans → d ≡ get_or spans n d → left ≡ take d.from terms → after ≡ take n spans → AreSpans left after × (map (row_in left) after ≡ take n old)
table_dropped terms left spans after n d old are is below read cut dropped = (
  rw (cut, dropped) (spans_dropped terms spans n d.from d are below (ap (λ (s : Span). s.from) read)),
  rw (cut, dropped) (rows_dropped terms spans n d.from d are below (ap (λ (s : Span). s.from) read) ∙ ap (take n) is),
)
