-- Kept nodes against the nodes that they stand for, number by number.
use Rattle.std.proofs.Common.{◌≡◌, ℕ, zero, suc, ◌<◌, Bool, true, false, not, ◌&&◌, ◌||◌, cond, ◌==◌, ℤ, List, [], ◌∷◌, ◌++◌, length, get_or, set, filter, Option, ap, refl, sym, ◌∙◌, arith}
use Rattle.std.specs.List.{AllZip, list_any}
use Rattle.std.proofs.lemmas.Bool.{ne_eqb}
use Rattle.wrp_rules.specs.Nodes.{Node, changed, is_below, is_open}
use Rattle.wrp_nodes.specs.declared.kept.KeptNode.{KeptNode}
use Rattle.wrp_nodes.specs.Kept.{Keeps, is_open_kept}

pub zip_length : (kept : List KeptNode) (nodes : List Node) → AllZip Keeps kept nodes → length kept ≡ length nodes
zip_length [] [] zip = refl
zip_length [] (n ∷ nodes) zip = absurd zip
zip_length (k ∷ kept) [] zip = absurd zip
zip_length (k ∷ kept) (n ∷ nodes) zip = ap suc (zip_length kept nodes zip.1)

pub zip_at : (kept : List KeptNode) (nodes : List Node) (i : ℕ) (d : KeptNode) (e : Node) → AllZip Keeps kept nodes → i < length kept → Keeps (get_or kept i d) (get_or nodes i e)
zip_at [] nodes i d e zip below = absurd (omega arith)
zip_at (k ∷ kept) [] i d e zip below = absurd zip
zip_at (k ∷ kept) (n ∷ nodes) zero d e zip below = zip.0
zip_at (k ∷ kept) (n ∷ nodes) (suc i) d e zip below = zip_at kept nodes i d e zip.1 (omega arith)

-- one more of each
pub zip_push : (kept : List KeptNode) (nodes : List Node) (k : KeptNode) (n : Node) → AllZip Keeps kept nodes → Keeps k n → AllZip Keeps (kept ++ k ∷ []) (nodes ++ n ∷ [])
zip_push [] [] k n zip both = (both, tt)
zip_push [] (m ∷ nodes) k n zip both = absurd zip
zip_push (l ∷ kept) [] k n zip both = absurd zip
zip_push (l ∷ kept) (m ∷ nodes) k n zip both = (zip.0, zip_push kept nodes k n zip.1 both)

-- one of each changed
pub zip_changed : (change : Node → Node) (kept : List KeptNode) (nodes : List Node) (i : ℕ) (k : KeptNode) (d : Node) → AllZip Keeps kept nodes → i < length kept → Keeps k (change (get_or nodes i d)) → AllZip Keeps (set kept i k) (changed change i nodes)
zip_changed change [] nodes i k d zip below both = absurd (omega arith)
zip_changed change (l ∷ kept) [] i k d zip below both = absurd zip
zip_changed change (l ∷ kept) (n ∷ nodes) zero k d zip below both = (both, zip.1)
zip_changed change (l ∷ kept) (n ∷ nodes) (suc i) k d zip below both = (zip.0, zip_changed change kept nodes i k d zip.1 (omega arith) both)

-- ---- open nodes

pub same_open : (upper : Option ℕ) (k : KeptNode) (n : Node) → Keeps k n → is_open_kept upper k ≡ is_open upper n
same_open upper k n both =
    ap (λ (t : Bool). not t && is_below k.bound upper) both.is_closed ∙ ap (λ (b : ℤ). not n.is_closed && is_below b upper) both.bound

-- none is open where no kept one is
pub none_open : (upper : Option ℕ) (kept : List KeptNode) (nodes : List Node) → AllZip Keeps kept nodes → not (list_any (is_open_kept upper) kept) ≡ (length (filter (is_open upper) nodes) == 0)
none_open upper [] [] zip = refl
none_open upper [] (n ∷ nodes) zip = absurd zip
none_open upper (k ∷ kept) [] zip = absurd zip
none_open upper (k ∷ kept) (n ∷ nodes) zip = by (is_open_kept upper k) (is_open upper n) (same_open upper k n zip.0) (none_open upper kept nodes zip.1)
  where
    by : (t u : Bool) → t ≡ u → not (list_any (is_open_kept upper) kept) ≡ (length (filter (is_open upper) nodes) == 0) → not (t || list_any (is_open_kept upper) kept) ≡ (length (cond u (n ∷ filter (is_open upper) nodes) (filter (is_open upper) nodes)) == 0)
    by true true e rest = sym (ne_eqb (suc (length (filter (is_open upper) nodes))) 0 (λ same. omega arith))
    by false false e rest = rest
    by true false e rest = cc
    by false true e rest = cc
