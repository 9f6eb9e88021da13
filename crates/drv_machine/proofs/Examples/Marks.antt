use Rattle.drv_machine.proofs.Examples.Lines.{alone, linking}
use Rattle.drv_machine.specs.Atoms as a
use Rattle.drv_machine.specs.Atoms.{atoms, items_step, levels_left, named, start}
use Rattle.drv_machine.specs.Context.{Context}
use Rattle.drv_machine.specs.Cutting.{all_taken, argument_words, nothing_cut}
use Rattle.drv_machine.specs.Working.{◌>>-◌, Answer, Atom, Break, End, From, Goes, Marked, Open, Piped, Put, Refuses, To, Waits, Without}
use Rattle.drv_machine.specs.Working.{Worked, World}
use Rattle.drv_machine.specs.declared.machine.marking.Mark.TheVariants.{AsOutput, AsRemoved}
use Rattle.drv_machine.specs.declared.fault.MachineFault.TheVariants.{SpecTooDeep, TooManySteps}
use Rattle.drv_syntax.specs.Outcome.{parsed}
use Rattle.drv_syntax.specs.Tree.{Items, none}
use Rattle.drv_syntax.specs.declared.fault.SyntaxFault.{SyntaxFault}
use Rattle.drv_system.specs.Facts.{Facts}
use Rattle.drv_system.specs.Known.{Is, Unasked}
use Rattle.std.proofs.Common.{◌≡◌, List, [], ◌∷◌, ◌++◌, codes, false, refl, true, ℕ}
use Rattle.std.specs.Prelude.{Bool, Err, None, Ok, Option, Result, Some}

-- Examples, which the prover computes, of atoms and limits that no short text reaches: marks on words, the limits of items and of open
-- parts, named texts and arguments. The expected values were derived by hand from the profile. An example's comment is its text; %w marks
-- an output, %V no output, %W a failure file.
-- Names: `F`: what is known of the outside. `atoms`: what the items of a whole text mean from its start. `items_step`: items one after
-- another, each counted before it is run. `levels_left`: what items mean where so many parts may still be opened, the next one first.
-- `named`: a named text is run in one more open part.

-- the tree of a text
abbrev tree : List ℕ → Items
tree text = by (parsed text)
  where
    by : Result Items SyntaxFault → Items
    by (Ok items) = items
    by (Err fault) = none  -- no text of these

-- a line with the switch -ma alone
abbrev one_switch : Context
one_switch = linking (alone (codes "ma") ∷ [])

-- the byte of a
abbrev letter_a : ℕ
letter_a = 97

-- the byte of b
abbrev letter_b : ℕ
letter_b = 98

-- the byte of c
abbrev letter_c : ℕ
letter_c = 99

-- the byte of x
abbrev letter_x : ℕ
letter_x = 120

-- the byte of y
abbrev letter_y : ℕ
letter_y = 121

-- for any answers F of the system
module _ (F : Facts) where
  -- the job's output and its failure files
  abbrev left_behind : List Atom → Answer (Option (List ℕ) × List (List ℕ))
  left_behind atoms = all_taken F one_switch nothing_cut (atoms ++ Break ∷ End ∷ []) >>- λ c. Is (Ok (c.output, c.on_failure))

  -- a%w b: the output is also a failure file
  output : left_behind (Put letter_a ∷ Marked AsOutput ∷ Break ∷ Put letter_b ∷ []) ≡ Is (Ok (Some (codes "a"), codes "a" ∷ []))
  output = refl

  -- a %wb: a mark without an open word waits for the next
  output_waits : left_behind (Put letter_a ∷ Break ∷ Marked AsOutput ∷ Put letter_b ∷ []) ≡ Is (Ok (Some (codes "b"), codes "b" ∷ []))
  output_waits = refl

  -- a %w b: a break drops the mark
  mark_dropped : left_behind (Put letter_a ∷ Break ∷ Marked AsOutput ∷ Break ∷ Put letter_b ∷ []) ≡ Is (Ok (None, []))
  mark_dropped = refl

  -- a%w%V b: a %V after the mark of a word bars it as the output, not as a failure file
  no_output_after : left_behind (Put letter_a ∷ Marked AsOutput ∷ Without ∷ Break ∷ Put letter_b ∷ []) ≡ Is (Ok (None, codes "a" ∷ []))
  no_output_after = refl

  -- a%V%w b: a %V before the mark of a word that is open bars it too
  no_output_before : left_behind (Put letter_a ∷ Without ∷ Marked AsOutput ∷ Break ∷ Put letter_b ∷ []) ≡ Is (Ok (None, codes "a" ∷ []))
  no_output_before = refl

  -- %V a%w: a word after the %V may be the output
  output_later : left_behind (Without ∷ Break ∷ Put letter_a ∷ Marked AsOutput ∷ []) ≡ Is (Ok (Some (codes "a"), codes "a" ∷ []))
  output_later = refl

  -- a%W{b}: the last word that ended in the %W is a failure file, with the bytes that it had before
  failure_file : left_behind (Put letter_a ∷ From ∷ Put letter_b ∷ Break ∷ To ∷ []) ≡ Is (Ok (None, codes "ab" ∷ []))
  failure_file = refl

  -- a%W{}: a word that is open where a %W begins ends with it
  failure_file_empty : left_behind (Put letter_a ∷ From ∷ Break ∷ To ∷ []) ≡ Is (Ok (None, codes "a" ∷ []))
  failure_file_empty = refl

  -- %W{%W{a}}: a word that ends inside two %W is the last one of both
  failure_file_twice : left_behind (From ∷ From ∷ Put letter_a ∷ Break ∷ To ∷ Break ∷ To ∷ []) ≡ Is (Ok (None, codes "a" ∷ codes "a" ∷ []))
  failure_file_twice = refl

  -- a %W{}: a %W in which no word ends has no failure file
  failure_file_none : left_behind (Put letter_a ∷ Break ∷ From ∷ Break ∷ To ∷ []) ≡ Is (Ok (None, []))
  failure_file_none = refl

  -- whether a pipe is stray
  abbrev is_stray : List Atom → Answer Bool
  is_stray atoms = all_taken F one_switch nothing_cut atoms >>- λ c. Is (Ok c.stray)

  -- a|%d: a mark may not follow a pipe
  stray_mark : is_stray (Put letter_a ∷ Piped ∷ Marked AsRemoved ∷ []) ≡ Is (Ok true)
  stray_mark = refl

  -- a|%V%W{}: a %V and an empty %W may follow a pipe
  no_stray : is_stray (Put letter_a ∷ Piped ∷ Without ∷ From ∷ Break ∷ To ∷ Break ∷ End ∷ []) ≡ Is (Ok false)
  no_stray = refl

  -- ab, an empty word and c: the words of a function's arguments are cut as those of a command, also one without bytes
  arguments : argument_words F one_switch (Put letter_a ∷ Put letter_b ∷ Break ∷ Open ∷ Break ∷ Put letter_c ∷ [])
      ≡ Is (Ok (codes "ab" ∷ [] ∷ codes "c" ∷ []))
  arguments = refl

  -- the words that arguments gave
  abbrev words_got : Worked (List (List ℕ)) → List (List ℕ)
  words_got (Goes atoms got w) = got
  words_got _ = []

  -- x %{m*}y: the words of arguments, where a switch is put as on the line
  arguments_of_text : words_got (a.arguments F one_switch (items_step F one_switch (tree (codes "x %{m*}y")) [] []) (start F one_switch))
      ≡ codes "x" ∷ codes "-ma" ∷ codes "y" ∷ []
  arguments_of_text = refl

  -- how far a part was processed: its atoms, and the number of items reached or what stopped it
  abbrev ends : Worked Unit → List Atom × Answer ℕ
  ends (Goes atoms u w) = (atoms, Is (Ok w.items))
  ends (Refuses atoms fault) = (atoms, Is (Err fault))
  ends (Waits atoms) = (atoms, Unasked)

  -- the world of a line where so many items have been reached
  abbrev from_item : ℕ → World
  from_item n = record (start F one_switch) { items = n }

  -- x: the last item that is allowed is reached
  last_item : ends (items_step F one_switch (tree (codes "x")) [] [] (from_item 999999)) ≡ (Put letter_x ∷ [], Is (Ok 1000000))
  last_item = refl

  -- xy: after the last item that is allowed one more refuses the text
  one_item_more : ends (items_step F one_switch (tree (codes "xy")) [] [] (from_item 999999)) ≡ (Put letter_x ∷ [], Is (Err TooManySteps))
  one_item_more = refl

  -- a text whose X has a %* of its own, and so opens a part
  abbrev starred : Items
  starred = tree (codes "a%{m*:%*}")

  -- a%{m*:%*}: the X opens a part where one may be opened
  open_star : ends (items_step F one_switch starred (levels_left F one_switch 1) [] (from_item 0))
      ≡ (Put letter_a ∷ Put letter_a ∷ Break ∷ [], Is (Ok 3))
  open_star = refl

  -- a%{m*:%*}: where none may be opened, the X refuses the text; the atoms before it are there
  too_deep : ends (items_step F one_switch starred [] [] (from_item 0)) ≡ (Put letter_a ∷ [], Is (Err SpecTooDeep))
  too_deep = refl

  -- a%{m*:%*}: the limit of items counts before that of parts
  many_before_deep : ends (items_step F one_switch starred [] [] (from_item 999999)) ≡ (Put letter_a ∷ [], Is (Err TooManySteps))
  many_before_deep = refl

  -- a named text opens a part too, and leaves none for its X here
  named_too_deep : ends (named F one_switch (Some starred) (levels_left F one_switch 1) (from_item 0))
      ≡ (Put letter_a ∷ [], Is (Err SpecTooDeep))
  named_too_deep = refl

  -- a named text and its X open one part each
  named_deep : ends (named F one_switch (Some starred) (levels_left F one_switch 2) (from_item 0))
      ≡ (Put letter_a ∷ Put letter_a ∷ Break ∷ [], Is (Ok 3))
  named_deep = refl

  -- a named text that is missing opens no part, and reaches no item
  named_missing : ends (named F one_switch None (levels_left F one_switch 2) (from_item 0)) ≡ ([], Is (Ok 0))
  named_missing = refl

  -- a %* in the arguments of a test is that of the X around its braces
  abbrev asked_with_star : Items
  asked_with_star = tree (codes "%{m*:%{%:getenv(H %*):y}}")

  -- %{m*:%{%:getenv(H %*):y}}: an X whose inner test has a %* opens a part, and is too deep where none may be opened
  star_in_test : ends (items_step F one_switch asked_with_star [] [] (from_item 0)) ≡ ([], Is (Err SpecTooDeep))
  star_in_test = refl

  -- %{m*:%{%:getenv(H %*):y}}: the test's arguments open a part in that of the X
  star_in_test_open : ends (items_step F one_switch asked_with_star (levels_left F one_switch 1) [] (from_item 0))
      ≡ ([], Is (Err SpecTooDeep))
  star_in_test_open = refl

  -- an X without a %* of its own opens no part
  no_star : ends (items_step F one_switch (tree (codes "%{m*:y}")) [] [] (from_item 0)) ≡ (Put letter_y ∷ [], Is (Ok 2))
  no_star = refl
