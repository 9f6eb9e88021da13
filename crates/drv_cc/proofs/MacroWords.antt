use Rattle.drv_cc.specs.Front.{macro_word}
use Rattle.drv_cc.specs.Items.{same}
use Rattle.drv_cc.specs.declared.item.Item.{Item}
use Rattle.std.proofs.Common.{◌≡◌, ◌∙◌, Bool, List, [], ◌∷◌, ◌++◌, ap, codes, false, if◌then◌else◌, sym, true, ℕ}
use Rattle.std.proofs.lemmas.List.{append-nil}

-- For the macros of a line that names a vendor's spec file (src/macros.rt).
-- Names: `i` is an item of the line. `words` is the words before, and `after` those after it. `test` is the answer to whether it is a -D.
-- `macro_word` is the word for a macro.

-- For `add_macro`: the word of an item that is a macro.
pub macro_put : (i : Item) (words after : List (List ℕ)) (name argument : List ℕ) (test : Bool) → name ≡ i.name → argument ≡ i.argument
    → test ≡ same name (codes "-D") → test ≡ true → after ≡ words ++ (codes "--gdrv-define=" ++ argument) ∷ []
    → after ≡ words ++ macro_word i
unfolding macro_word
macro_put i words after name argument test named given is holds put =
    let here : same i.name (codes "-D") ≡ true = sym (ap (λ n. same n (codes "-D")) named) ∙ sym is ∙ holds in
    put ∙ ap (λ a. words ++ (codes "--gdrv-define=" ++ a) ∷ []) given
    ∙ sym (ap (λ t. words ++ (if t then (codes "--gdrv-define=" ++ i.argument) ∷ [] else [])) here)

-- For `add_macro`: an item that is no macro adds no word.
pub no_macro_put : (i : Item) (words : List (List ℕ)) (name : List ℕ) (test : Bool) → name ≡ i.name → test ≡ same name (codes "-D")
    → test ≡ false → words ≡ words ++ macro_word i
unfolding macro_word
no_macro_put i words name test named is fails =
    let here : same i.name (codes "-D") ≡ false = sym (ap (λ n. same n (codes "-D")) named) ∙ sym is ∙ fails in
    sym (ap (λ t. words ++ (if t then (codes "--gdrv-define=" ++ i.argument) ∷ [] else [])) here ∙ append-nil words)
