use Rattle.drv_check.specs.Pieces.{begun_after, ended_by, pieces_from}
use Rattle.drv_check.specs.declared.pieces.Piece.{Piece}
use Rattle.std.proofs.Common.{◌≡◌, ◌∙◌, ◌+◌, ◌++◌, ◌∷◌, Bool, List, None, Option, Some, ap, append_assoc, length, refl, sym, ℕ}

-- For check_files (src/checking.rt): a text is cut into lines, one after another.
-- Names: `line` is the first line of a text, `rest` what follows, and `at` its place in the text. `n` is the number of the line. `begun`
-- is the piece that goes on before the line, and `next` after it. `before` and `after` are the pieces that have ended then, and `all` is
-- all pieces. `recovers` says whether reading recovers from a line that is no directive. `pieces_from` is the pieces of lines
-- (specs/Pieces).

-- `pieces_from` by one line, whether or not a piece goes on before it
more : (recovers : Bool) (begun : Option Piece) (n at : ℕ) (line : List ℕ) (rest : List (List ℕ))
    → pieces_from recovers begun n at (line ∷ rest)
    ≡ ended_by recovers begun n at line ++ pieces_from recovers (begun_after recovers begun n at line) (n + 1) (at + length line + 1) rest
more recovers None n at line rest = refl
more recovers (Some piece) n at line rest = refl

-- If the pieces that ended and those of the lines left are all, then they still are after one line more: what it ends is added, and what
-- goes on is kept.
pub pieces_more : (recovers : Bool) (before after all : List Piece) (begun next : Option Piece) (n at : ℕ) (line : List ℕ)
    (lines rest : List (List ℕ))
    → before ++ pieces_from recovers begun n at lines ≡ all → lines ≡ line ∷ rest → after ≡ before ++ ended_by recovers begun n at line
    → next ≡ begun_after recovers begun n at line
    → after ++ pieces_from recovers next (n + 1) (at + length line + 1) rest ≡ all
pieces_more recovers before after all begun next n at line lines rest is first ended opens =
    ap (λ ps. ps ++ pieces_from recovers next (n + 1) (at + length line + 1) rest) ended
    ∙ append_assoc before (ended_by recovers begun n at line) (pieces_from recovers next (n + 1) (at + length line + 1) rest)
    ∙ ap (λ o. before ++ (ended_by recovers begun n at line ++ pieces_from recovers o (n + 1) (at + length line + 1) rest)) opens
    ∙ ap (λ ps. before ++ ps) (sym (more recovers begun n at line rest))
    ∙ ap (λ ls. before ++ pieces_from recovers begun n at ls) (sym first)
    ∙ is
