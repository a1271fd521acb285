-- Parts of the lines, as they are built.
use Rattle.std.specs.Prelude.{ℕ, if◌then◌else◌, ℤ, pos, negsuc, neg_ℤ, List, [], ◌∷◌, map}
use Rattle.wrp_sums.specs.Sums.{coef_at}
use Rattle.wrp_town.specs.declared.town.Town.{Town}
use Rattle.wrp_town.specs.Arcs.{arcs, is_legal}
use Rattle.wrp_tableau.specs.declared.line.Line.{Line}
use Rattle.wrp_lp.specs.Relaxed.{arc_line}

-- the coefficients that terms give the arcs, 0 where an arc is illegal
abbrev pub coefs_of : Town → List (ℕ × ℤ) → List ℤ
coefs_of town terms =
    map (λ arc. if is_legal town arc then coef_at terms arc else pos 0) (arcs town)

-- the two lines of an arc, where it is legal
abbrev pub lines_at : Town → ℕ → ℕ → ℕ → List Line
lines_at town lo hi arc =
    if is_legal town arc
    then arc_line town arc (pos 1) (pos lo) ∷ arc_line town arc (negsuc 0) (neg_ℤ (pos hi)) ∷ []
    else []
