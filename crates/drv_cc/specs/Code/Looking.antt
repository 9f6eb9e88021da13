use Rattle.drv_cc.specs.Front.{library_words}
use Rattle.drv_cc.specs.declared.adding.LookedFor.{LookedFor}
use Rattle.drv_cc.specs.declared.adding.LookedFor.TheVariants.{Any, Libraries}
use Rattle.std.specs.Prelude.{List, [], ◌∷◌, ℕ}

-- The words for a folder of a path, by what is looked for there. Only private clauses of src/adding.rt cite it.
-- Names: `folder` is the name of a folder.
abbrev pub words_for : LookedFor → List ℕ → List (List ℕ)
words_for Libraries folder = library_words folder
words_for Any folder = folder ∷ []
