-- The rows and the slacks of lines, one by one.
use Rattle.std.proofs.Common.{◌≡◌, ℕ, suc, ◌+◌, ◌<◌, List, [], ◌∷◌, ◌++◌, length, take, get_or, map, ap, sym, ◌∙◌, arith}
use Rattle.std.proofs.lemmas.List.{take_more, length-take-le, map-append}
use Rattle.wrp_tableau.specs.declared.line.Line.{Line}
use Rattle.wrp_tableau.specs.declared.row.Row.{Row}
use Rattle.wrp_tableau.specs.Equations.{Equation}
use Rattle.wrp_tableau.specs.Systems.{slack_row, line_rows, slacks}
use Rattle.wrp_tableau.specs.Rows.{equation}

slacks-push : (slack : ℕ) (lines : List Line) (line : Line) → slacks slack (lines ++ line ∷ []) ≡ slacks slack lines ++ (slack + length lines) ∷ []
slacks-push slack [] line = let e : slack ≡ slack + 0 = omega arith in ap (λ (n : ℕ). n ∷ []) e
slacks-push slack (first ∷ lines) line =
    let e : slack + 1 + length lines ≡ slack + suc (length lines) = omega arith in
    ap (λ (ns : List ℕ). slack ∷ ns) (slacks-push (slack + 1) lines line ∙ ap (λ (n : ℕ). slacks (slack + 1) lines ++ n ∷ []) e)

line_rows-push : (slack : ℕ) (lines : List Line) (line : Line) → line_rows slack (lines ++ line ∷ []) ≡ line_rows slack lines ++ slack_row (slack + length lines) line.coefs line.rhs ∷ []
line_rows-push slack [] line = let e : slack ≡ slack + 0 = omega arith in ap (λ (n : ℕ). slack_row n line.coefs line.rhs ∷ []) e
line_rows-push slack (first ∷ lines) line =
    let e : slack + 1 + length lines ≡ slack + suc (length lines) = omega arith in
    ap (λ (es : List Equation). slack_row slack first.coefs first.rhs ∷ es)
    (line_rows-push (slack + 1) lines line ∙ ap (λ (n : ℕ). line_rows (slack + 1) lines ++ slack_row n line.coefs line.rhs ∷ []) e)

pub slacks-more : (slack : ℕ) (lines : List Line) (k : ℕ) (d : Line) → k < length lines → slacks slack (take (k + 1) lines) ≡ slacks slack (take k lines) ++ (slack + k) ∷ []
slacks-more slack lines k d h =
    let len : length (take k lines) ≡ k = length-take-le k lines (omega arith) in
    ap (slacks slack) (take_more lines k d h) ∙ slacks-push slack (take k lines) (get_or lines k d)
    ∙ ap (λ (n : ℕ). slacks slack (take k lines) ++ (slack + n) ∷ []) len

pub line_rows-more : (slack : ℕ) (lines : List Line) (k : ℕ) (d : Line) → k < length lines → line_rows slack (take (k + 1) lines) ≡ line_rows slack (take k lines) ++ slack_row (slack + k) (get_or lines k d).coefs (get_or lines k d).rhs ∷ []
line_rows-more slack lines k d h =
    let len : length (take k lines) ≡ k = length-take-le k lines (omega arith) in
    ap (line_rows slack) (take_more lines k d h) ∙ line_rows-push slack (take k lines) (get_or lines k d)
    ∙ ap (λ (n : ℕ). line_rows slack (take k lines) ++ slack_row (slack + n) (get_or lines k d).coefs (get_or lines k d).rhs ∷ []) len

-- a row more
pub rows_more : (slack : ℕ) (lines : List Line) (k : ℕ) (line : Line) (rows : List Row) (new : Row) → k < length lines → line ≡ get_or lines k line
    → map equation rows ≡ line_rows slack (take k lines) → equation new ≡ slack_row (slack + k) line.coefs line.rhs
    → map equation (rows ++ new ∷ []) ≡ line_rows slack (take (k + 1) lines)
rows_more slack lines k line rows new h line_is so_far is =
    map-append equation rows (new ∷ [])
    ∙ ap (λ (es : List Equation). es ++ equation new ∷ []) so_far
    ∙ ap (λ (e : Equation). line_rows slack (take k lines) ++ e ∷ []) (is ∙ ap (λ (l : Line). slack_row (slack + k) l.coefs l.rhs) line_is)
    ∙ sym (line_rows-more slack lines k line h)
