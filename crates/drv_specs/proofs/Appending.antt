use Rattle.drv_specs.specs.Blanks.{is_white}
use Rattle.drv_specs.specs.Sets.{Set, append, appended_text, by_tree, put, text_of, with_named}
use Rattle.drv_specs.specs.declared.fault.SpecsFault.{SpecsFault}
use Rattle.drv_syntax.specs.Outcome.{parsed}
use Rattle.std.proofs.Common.{◌≡◌, ◌∙◌, ◌++◌, Bool, List, ap, append_assoc, drop, false, length, nat_eq, sym, take, true, ℕ}
use Rattle.std.proofs.Common.{take-append-drop}
use Rattle.std.specs.Cmp.Lexicographic.{same_text}
use Rattle.std.specs.List.{list_all, starts_with}
use Rattle.std.specs.Prelude.{Err, Ok, Result, if◌then◌else◌}

-- For `append` (a body that begins with + and a blank): the code puts a text that was made of the one that is there.
-- Names: `set` is a set, and `new` the set after. `name` is the name of a text. `text` is a text. `with_named` puts a text under a name.

-- an addition that is not white space alone is a put of the longer text
append_put : (set : Set) (name addition : List ℕ) → false ≡ list_all is_white addition
    → append set name addition ≡ put set name (appended_text (text_of set name) addition)
append_put set name addition white =
    ap (λ (t : Bool). if t then Ok set else put set name (appended_text (text_of set name) addition)) (sym white)

-- an append: the longer text is put
pub appended_puts : (set mid new : Set) (name addition text : List ℕ) → false ≡ list_all is_white addition → mid ≡ set
    → ((s : Set) → by_tree name s (parsed (appended_text (text_of set name) addition)) ≡ Ok s)
    → text ≡ appended_text (text_of set name) addition → new ≡ with_named mid name text → append set name addition ≡ Ok new
appended_puts set mid new name addition text white same tree is there =
    append_put set name addition white ∙ tree (with_named set name (appended_text (text_of set name) addition))
    ∙ ap (λ (s : Set). passed s)
    (sym (there ∙ ap (λ (s : Set). with_named s name text) same ∙ ap (λ (t : List ℕ). with_named set name t) is))
  where
    -- Plan: `passed` is the set as the result of an append.
    passed : Set → Result Set SpecsFault
    passed s = Ok s

-- a longer text that has no tree is refused
pub appended_refused : (set : Set) (name addition : List ℕ) (fault : SpecsFault) → false ≡ list_all is_white addition
    → by_tree name (with_named set name (appended_text (text_of set name) addition)) (parsed (appended_text (text_of set name) addition))
    ≡ Err fault → append set name addition ≡ Err fault
appended_refused set name addition fault white is = append_put set name addition white ∙ is

-- a text that begins with another is that one and what follows it; so an addition may be made to the shorter one
pub read_on : (text front rest added more : List ℕ) → true ≡ starts_with nat_eq text front → rest ≡ drop (length front) text
    → added ≡ rest ++ more → front ++ added ≡ text ++ more
read_on text front rest added more begins is whole =
    let front_is : front ≡ take (length front) text = same_text front (take (length front) text) begins in
    let text_is : text ≡ front ++ rest =
    sym (take-append-drop (length front) text) ∙ ap (λ (t : List ℕ). t ++ drop (length front) text) (sym front_is)
    ∙ ap (λ (t : List ℕ). front ++ t) (sym is) in
    ap (λ (t : List ℕ). front ++ t) whole ∙ sym (append_assoc front rest more) ∙ ap (λ (t : List ℕ). t ++ more) (sym text_is)
