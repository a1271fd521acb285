-- The relaxation of a node starts from one system, however its rows and its box are kept.
use Rattle.std.proofs.Common.{◌≡◌, ℕ, true, pos, negsuc, neg_ℤ, List, [], ◌∷◌, ◌++◌, map, length, Contains, ap, refl, ◌∙◌}
use Rattle.std.specs.Prelude.{slice_index}
use Rattle.std.specs.List.{flat_map, range_with_len}
use Rattle.std.proofs.lemmas.List.{length-map}
use Rattle.wrp_sums.proofs.FirstNumbers.{passes_of_inside}
use Rattle.wrp_sums.proofs.SumsOver.{inside_head, inside_tail}
use Rattle.wrp_town.specs.declared.town.Town.{Town}
use Rattle.wrp_town.specs.Arcs.{is_legal, arcs, legal_arcs}
use Rattle.wrp_rules.specs.Rows.{Row}
use Rattle.wrp_rules.specs.Nodes.{Standing, node_at}
use Rattle.wrp_rows.specs.declared.point.Bounds.{Bounds}
use Rattle.wrp_rows.specs.Pools.{SparseRow, RowPool, sparse_of, HasRowsOf}
use Rattle.wrp_rows.specs.Points.{AreBoundsOf}
use Rattle.wrp_tableau.specs.declared.line.Line.{Line}
use Rattle.wrp_tableau.specs.Systems.{start_of}
use Rattle.wrp_lp.specs.Relaxed.{width, arc_line, lo_line, hi_line, bound_lines, row_lines, costs_of, relaxation}
use Rattle.wrp_lp.specs.Answers.{relaxed}
use Rattle.wrp_box.specs.Relaxing.{all_rows}
use Rattle.wrp_licence.specs.Runs.{kept_rows, row_numbers, start_at}

mapped_flat : {X Y : Type 0} (f g : X → List Y) (xs : List X) → ((x : X) → Contains xs x → f x ≡ g x) → flat_map f xs ≡ flat_map g xs
mapped_flat f g [] same = refl
mapped_flat f g (x ∷ xs) same =
    ap (λ (ys : List _). ys ++ flat_map f xs) (same x (inside_head x xs))
    ∙ ap (λ (ys : List _). g x ++ ys) (mapped_flat f g xs (λ y inside. same y (inside_tail x xs y inside)))

module _ (town : Town) (lo hi low high : ℕ → ℕ) (at_least : (arc : ℕ) → is_legal town arc ≡ true → lo arc ≡ low arc) (at_most : (arc : ℕ) → is_legal town arc ≡ true → hi arc ≡ high arc) where
  same_two : (arc : ℕ) → is_legal town arc ≡ true → lo_line town lo arc ∷ hi_line town hi arc ∷ [] ≡ lo_line town low arc ∷ hi_line town high arc ∷ []
  same_two arc legal =
      ap (λ (n : ℕ). arc_line town arc (pos 1) (pos n) ∷ hi_line town hi arc ∷ []) (at_least arc legal)
      ∙ ap (λ (n : ℕ). lo_line town low arc ∷ arc_line town arc (negsuc 0) (neg_ℤ (pos n)) ∷ []) (at_most arc legal)

  same_bounds : bound_lines town lo hi ≡ bound_lines town low high
  unfolding bound_lines
  same_bounds =
      mapped_flat (λ arc. lo_line town lo arc ∷ hi_line town hi arc ∷ []) (λ arc. lo_line town low arc ∷ hi_line town high arc ∷ []) (legal_arcs town)
      (λ arc inside. same_two arc (passes_of_inside (is_legal town) (arcs town) arc inside))

  pub same_relaxation : (rows : List SparseRow) (chosen : List ℕ) → relaxation town rows chosen lo hi ≡ relaxation town rows chosen low high
  same_relaxation rows chosen =
      ap (λ (lines : List Line). start_of (width town) (row_lines town rows chosen ++ lines) (costs_of town)) same_bounds

module _ (s : Standing) (node : ℕ) (pool : RowPool) (bounds : Bounds) (has : HasRowsOf s pool) (are : AreBoundsOf pool.town (node_at pool.town s node) bounds) where
  pub same_numbers : all_rows pool ≡ row_numbers s
  same_numbers = ap (range_with_len 0) (ap length has.rows ∙ length-map s.rows (sparse_of pool.town))

  pub same_start : relaxed pool (all_rows pool) bounds ≡ start_at pool.town s node
  unfolding start_at
  same_start =
      let lo = slice_index bounds.lo in
      let hi = slice_index bounds.hi in
      ap (λ (rows : List SparseRow). relaxation pool.town rows (all_rows pool) lo hi) has.rows
      ∙ ap (λ (chosen : List ℕ). relaxation pool.town (kept_rows pool.town s) chosen lo hi) same_numbers
      ∙ same_relaxation pool.town lo hi (node_at pool.town s node).lo (node_at pool.town s node).hi are.lo are.hi (kept_rows pool.town s) (row_numbers s)

-- the box and the rows of a node alone count
pub start_kept : (town : Town) (s t : Standing) (node : ℕ) → t.rows ≡ s.rows → (node_at town t node).lo ≡ (node_at town s node).lo → (node_at town t node).hi ≡ (node_at town s node).hi → start_at town t node ≡ start_at town s node
unfolding start_at
start_kept town s t node rows lo hi =
    ap (λ (rs : List Row). relaxation town (map (sparse_of town) rs) (range_with_len 0 (length rs)) (node_at town t node).lo (node_at town t node).hi) rows
    ∙ ap (λ (f : ℕ → ℕ). relaxation town (kept_rows town s) (row_numbers s) f (node_at town t node).hi) lo
    ∙ ap (λ (f : ℕ → ℕ). relaxation town (kept_rows town s) (row_numbers s) (node_at town s node).lo f) hi
