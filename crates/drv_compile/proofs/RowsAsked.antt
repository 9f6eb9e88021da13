use Rattle.drv_args.specs.declared.items.Item.{Item}
use Rattle.drv_compile.proofs.Noting.{none_noted}
use Rattle.drv_compile.specs.Inputs.{Noted}
use Rattle.drv_compile.specs.Machines.{RowAsked, answered, in_file, no_rows, row_among, row_of}
use Rattle.drv_compile.specs.declared.host.HostEvent.TheVariants.{Worded}
use Rattle.drv_compile.specs.declared.host.HostEvent.{HostEvent}
use Rattle.drv_compile.specs.declared.machines.LineRow.TheVariants.{Found, Missing, Unneeded}
use Rattle.drv_compile.specs.declared.machines.LineRow.{LineRow}
use Rattle.std.proofs.Common.{◌≡◌, ◌∙◌, ◌∷◌, ◌++◌, [], Err, IfOk, List, Ok, Option, Result, ap, drop, subst, sym, ℕ}

-- For `row_asked` (src/row_asking.rt): the row of a line, and what the host was asked for it.
-- Names: `specs` is the path of the spec file. `text` and `rows` are texts of rows, if there are some. `items` is the items of the line.
-- `row` is its row: found, not needed, or missing with its `key`. `options` is what the host is asked by, `answer` what it answered, and
-- `slice` the same as the code lends it. `events` is what the host was asked. `RowAsked` says which row that gives (specs/Machines). `Noted
-- before after P`: events were added, of which P holds.

-- a text by which each line has the same row asks for the same
pub asked_alike : {specs : List ℕ} {text rows : Option (List ℕ)} {items : List Item} {events : List HostEvent} {row : LineRow}
    → row_of text items ≡ row_of rows items → RowAsked specs text items events row → RowAsked specs rows items events row
asked_alike same (no_rows is) = no_rows (sym same ∙ is)
asked_alike same (in_file is) = in_file (sym same ∙ is)
asked_alike same (answered is) = answered (sym same ∙ is)

-- nothing is asked where no line needs a row
pub unneeded_unasked : (specs : List ℕ) (rows : Option (List ℕ)) (items : List Item) (row : LineRow) (notes : List HostEvent)
    → row ≡ row_of rows items → row ≡ Unneeded → Noted notes notes (λ events. RowAsked specs rows items events Unneeded)
unneeded_unasked specs rows items row notes made is =
    none_noted notes (λ events. RowAsked specs rows items events Unneeded) (no_rows (sym made ∙ is))

-- nothing is asked where the text has the row
pub found_unasked : (specs : List ℕ) (rows : Option (List ℕ)) (items : List Item) (row : LineRow) (words : List ℕ)
    (notes : List HostEvent) → row ≡ row_of rows items → row ≡ Found words
    → Noted notes notes (λ events. RowAsked specs rows items events (Found words))
found_unasked specs rows items row words notes made is =
    none_noted notes (λ events. RowAsked specs rows items events (Found words)) (in_file (sym made ∙ is))

-- the host is asked once for a row that is missing, and its answer read
pub missing_asked : {E : Type 0} (specs : List ℕ) (rows : Option (List ℕ)) (items : List Item) (row : LineRow)
    (key options answer slice : List ℕ) (before after : List HostEvent) (result : Result LineRow E)
    → row ≡ row_of rows items → row ≡ Missing key → options ≡ drop 1 key → after ≡ before ++ Worded specs options answer ∷ []
    → slice ≡ answer → IfOk result (λ found. found ≡ row_among slice key)
    → Noted before after (λ events. IfOk result (λ found. RowAsked specs rows items events found))
missing_asked specs rows items row key options answer slice before after (Err e) made is chosen grown same found =
    (Worded specs options answer ∷ [], grown, tt)
missing_asked specs rows items row key options answer slice before after (Ok given) made is chosen grown same found = (
  Worded specs options answer ∷ [],
  grown,
  subst (λ o. RowAsked specs rows items (Worded specs o answer ∷ []) given) (sym chosen)
      (subst (RowAsked specs rows items (Worded specs (drop 1 key) answer ∷ [])) (sym (found ∙ ap (λ s. row_among s key) same))
      (answered (sym made ∙ is))),
)
