use Rattle.drv_words.specs.declared.plan.Command.{Command}
use Rattle.std.specs.Prelude.{List, ◌∷◌, ℕ}

-- The words of a command. drv_why cites them.

-- the words of a command, its program first
abbrev pub words_of : Command → List (List ℕ)
words_of command = command.program ∷ command.words
