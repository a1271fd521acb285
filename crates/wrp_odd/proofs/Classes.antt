-- Junctions sorted by their labels.
use Rattle.std.proofs.Common.{◌≡◌, ℕ, ◌+◌, ◌<◌, List, [], ◌∷◌, ◌++◌, length, map, ap, sym, ◌∙◌, subst, arith}
use Rattle.std.specs.List.{All, filter, range_with_len}
use Rattle.std.proofs.lemmas.List.FromFn.{map-range_with_len_more, get_or-map-range_with_len, length-map-range_with_len}
use Rattle.wrp_graph.specs.Sorted.{buckets_of}
use Rattle.wrp_graph.proofs.Keyed.{buckets_of-keyed_by}
use Rattle.wrp_webs.specs.Webs.{class}
use Rattle.wrp_webs.specs.Searching.{reading}

-- each junction with its label before it
abbrev pub labelled : List ℕ → ℕ → List (ℕ × ℕ)
labelled labels n = map (λ j. (reading labels j, j)) (range_with_len 0 n)

pub labelled_more : (labels : List ℕ) (n : ℕ) (old new : List (ℕ × ℕ)) (label : ℕ) → label ≡ reading labels n → old ≡ labelled labels n → new ≡ old ++ (label, n) ∷ [] → new ≡ labelled labels (n + 1)
labelled_more labels n old new label is before after =
    after ∙ ap (λ xs. xs ++ (label, n) ∷ []) before ∙ ap (λ k. labelled labels n ++ (k, n) ∷ []) is ∙ sym (map-range_with_len_more (λ j. (reading labels j, j)) 0 n n (omega arith))

pub labelled_keys : (labels : List ℕ) (entries : List (ℕ × ℕ)) → entries ≡ labelled labels (length labels) → All (λ label. label < length labels) labels → All (λ (e : ℕ × ℕ). e.0 < length labels) entries
labelled_keys labels entries is small = subst (All (λ (e : ℕ × ℕ). e.0 < length labels)) (sym is)
    (λ k d below. let under : k < length labels = omega (arith, length-map-range_with_len {X = ℕ × ℕ} (λ j. (reading labels j, j)) 0 (length labels)) in
    subst (λ (e : ℕ × ℕ). e.0 < length labels) (sym (get_or-map-range_with_len (λ j. (reading labels j, j)) 0 (length labels) k k d under (omega arith))) (small k 0 under))

pub labelled_count : (labels : List ℕ) (entries : List (ℕ × ℕ)) → entries ≡ labelled labels (length labels) → length entries ≡ length labels
labelled_count labels entries is = ap (λ xs. length xs) is ∙ length-map-range_with_len {X = ℕ × ℕ} (λ j. (reading labels j, j)) 0 (length labels)

pub classes_are : (labels : List ℕ) (entries : List (ℕ × ℕ)) → entries ≡ labelled labels (length labels)
    → buckets_of (length labels) entries ≡ map (λ c. filter (class (reading labels) c) (range_with_len 0 (length labels))) (range_with_len 0 (length labels))
classes_are labels entries is = buckets_of-keyed_by (reading labels) (length labels) entries (range_with_len 0 (length labels)) is
