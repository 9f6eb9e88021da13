use Rattle.drv_cc.specs.Code.Looking.{words_for}
use Rattle.drv_cc.specs.Front.{folders, named_folder}
use Rattle.drv_cc.specs.declared.adding.LookedFor.TheVariants.{Any}
use Rattle.std.proofs.Common.{◌≡◌, ◌∙◌, List, [], ◌∷◌, ◌++◌, Option, ap, append-nil, map, refl, sym, ℕ}
use Rattle.std.proofs.lemmas.List.{flat_map_more, map-append}
use Rattle.std.specs.List.{flat_map}

-- For the folders of COMPILER_PATH and LIBRARY_PATH (src/adding.rt and src/line_adding.rt): each folder of such a path gives its words.
-- Names: `f` gives the words of one folder. `words` is the words before, `words'` those after. `done` is the folders that were added, and
-- `after` those and one more. `named_folder` is a folder's name, with an empty one as the folder of the call. `words_for Any` is a folder
-- as one word.

-- For `add_path` (src/adding.rt) before its first folder.
pub no_folder : (f : List ℕ → List (List ℕ)) (words : List (List ℕ)) → words ≡ words ++ flat_map f (map named_folder [])
no_folder f words = sym (append-nil words)

-- For `add_path` after each folder: the words of those that were added so far and of this one.
pub next_folder : (f : List ℕ → List (List ℕ)) (old words words' done after : List (List ℕ)) (folder : List ℕ)
    → words ≡ old ++ flat_map f (map named_folder done) → words' ≡ words ++ f (named_folder folder) → after ≡ done ++ folder ∷ []
    → words' ≡ old ++ flat_map f (map named_folder after)
next_folder f old words words' done after folder so_far added more =
    added ∙ ap (λ w. w ++ f (named_folder folder)) so_far ∙ flat_map_more f old (map named_folder done) (named_folder folder)
    ∙ ap (λ names. old ++ flat_map f names) (sym (map-append named_folder done (folder ∷ [])))
    ∙ ap (λ names. old ++ flat_map f (map named_folder names)) (sym more)

-- folders that are words
words_themselves : (words : List (List ℕ)) → flat_map (words_for Any) words ≡ words
words_themselves [] = refl
words_themselves (word ∷ words) = ap (λ following. word ∷ following) (words_themselves words)

-- For `folders` (src/line_adding.rt): where each folder is a word, the words of a path are its folders.
pub words_alone : (path : Option (List ℕ)) → flat_map (words_for Any) (folders path) ≡ folders path
words_alone path = words_themselves (folders path)
