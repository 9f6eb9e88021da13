use Rattle.drv_args.specs.declared.items.Item.{Item}
use Rattle.drv_compile.specs.Code.CutLines.{begins_with}
use Rattle.drv_compile.specs.Compilers.{lines, value_in}
use Rattle.drv_compile.specs.Decides.{first_of}
use Rattle.drv_compile.specs.Machines.{by_rows, row_of}
use Rattle.drv_compile.specs.Suffixes.{suffixed_by, suffixed_if}
use Rattle.std.proofs.Common.{◌≡◌, ◌∙◌, ◌||◌, ◌∷◌, [], Bool, List, None, Some, ap, codes, false, nat_eq, refl, sym, true, ℕ}
use Rattle.std.proofs.lemmas.Bool.{false≢true}
use Rattle.std.specs.List.{flat_map, list_any, starts_with}

-- For the rows for machines (src/machines.rt): a text that has neither rows nor a suffix leaves a line as it is, so `for_machines` may
-- leave that text out.
-- Names: `one` and `other` are the two keys. `all` is the lines of a text. `text` is the text of the rows. `found` says whether a line
-- begins with one of the keys. `items` is the items of the line. `begins_with` tests one line for both keys (specs/Code/CutLines).
-- `value_in key` is what follows the key in a line. `row_of` is the row of a line, and `suffixed_by` its items with the suffix of programs.

-- what `has_either` says of a line and the rest, it says of each key
neither : (a b c : Bool) → ((a || b) || c) ≡ false → (a ≡ false) × (b ≡ false) × (c ≡ false)
neither false false c none = (refl, refl, none)
neither true b c none = absurd (false≢true (sym none))
neither false true c none = absurd (false≢true (sym none))

-- no line begins with the first of two keys
no_first : (one other : List ℕ) (all : List (List ℕ)) → list_any (begins_with one other) all ≡ false → flat_map (value_in one) all ≡ []
no_first one other [] none = refl
no_first one other (line ∷ all) none =
    let parts = neither (starts_with nat_eq line one) (starts_with nat_eq line other) (list_any (begins_with one other) all) none in
    rw parts.0 (no_first one other all parts.2)

-- no line begins with the second of two keys
no_second : (one other : List ℕ) (all : List (List ℕ)) → list_any (begins_with one other) all ≡ false
    → flat_map (value_in other) all ≡ []
no_second one other [] none = refl
no_second one other (line ∷ all) none =
    let parts = neither (starts_with nat_eq line one) (starts_with nat_eq line other) (list_any (begins_with one other) all) none in
    rw parts.1 (no_second one other all parts.2)

-- For `for_machines`: if a text has neither rows nor a suffix, then leaving it out changes no row of a line.
pub rows_left_out : (text : List ℕ) (found : Bool) (items : List Item)
    → found ≡ list_any (begins_with (codes "machine") (codes "suffix ")) (lines text) → found ≡ false
    → row_of None items ≡ row_of (Some text) items
rows_left_out text found items is none =
    sym (ap (λ found. by_rows text items (first_of found)) (no_first (codes "machine") (codes "suffix ") (lines text) (sym is ∙ none)))

-- For `for_machines`: if a text has neither rows nor a suffix, then leaving it out changes no item.
pub suffix_left_out : (text : List ℕ) (found : Bool) (items : List Item)
    → found ≡ list_any (begins_with (codes "machine") (codes "suffix ")) (lines text) → found ≡ false
    → suffixed_by None items ≡ suffixed_by (Some text) items
suffix_left_out text found items is none =
    sym (ap (λ found. suffixed_if (first_of found) items) (no_second (codes "machine") (codes "suffix ") (lines text) (sym is ∙ none)))
