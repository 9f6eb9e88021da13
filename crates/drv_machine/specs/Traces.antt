use Rattle.drv_machine.specs.Context.{Context, text_named}
use Rattle.drv_machine.specs.declared.trace.Origin.{Origin}
use Rattle.drv_syntax.specs.Parsed.{tree_of}
use Rattle.drv_syntax.specs.Tokens.{tokens_of}
use Rattle.drv_words.specs.declared.plan.Command.{Command}
use Rattle.std.specs.List.{flat_map, list_any}
use Rattle.std.specs.Prelude.{◌+◌, ◌-◌, ◌==◌, Bool, List, None, Option, Some, false, if◌then◌else◌, length, map, nat_lt, not}
use Rattle.std.specs.Prelude.{option_and_then, slice_get, ℕ}

-- Where the words of a text's commands come from.

-- whether a text has an item at a place
abbrev pub has_item : Option (List ℕ) → ℕ → Bool
has_item None at = false
has_item (Some text) at = nat_lt at (length (tokens_of (tree_of text)))

-- for what a text is run for, that text, and the names of the named texts that it opened
module _ (C : Context) (run : List ℕ) (names : List (List ℕ)) where
  -- the text of a number: 0 is the one that was run
  abbrev pub numbered : ℕ → Option (List ℕ)
  numbered n = if n == 0 then Some run else option_and_then (text_named C) (slice_get names (n - 1))

  -- whether the text of an origin has an item at its place
  abbrev pub is_placed : Origin → Bool
  is_placed origin = has_item (numbered origin.text) origin.token

  -- whether an origin of a word is at no item
  abbrev pub is_astray : List Origin → Bool
  is_astray origins = list_any (λ origin. not (is_placed origin)) origins

-- how many words a command is, its program included
abbrev pub word_count : Command → ℕ
word_count command = length command.words + 1

-- how many words each command of these groups is
abbrev pub word_counts : List (List Command) → List ℕ
word_counts groups = flat_map (map word_count) groups
