use Rattle.drv_machine.proofs.Examples.Lines.{linking}
use Rattle.drv_machine.specs.Cuts.{Bare, Filed, each, failure_files, has_stray_pipe, if_any, lines, output, path, path_of, removed}
use Rattle.drv_machine.specs.Cuts.{without_file, words}
use Rattle.drv_machine.specs.Cutting.{NamedLine}
use Rattle.drv_machine.specs.Working.{Answer, Atom, Break, End, From, Marked, Open, Piped, Put, To, Without}
use Rattle.drv_machine.specs.declared.machine.marking.Mark.TheVariants.{AsOutput, AsRemoved}
use Rattle.drv_system.specs.Facts.{Facts}
use Rattle.drv_system.specs.Known.{Is}
use Rattle.std.proofs.Common.{◌≡◌, List, [], ◌∷◌, codes, false, refl, true, ℕ}
use Rattle.std.specs.List.{flat_map}
use Rattle.std.specs.Prelude.{None, Ok, Option, Some}

-- Examples, which the prover computes, of the definitions over a whole list of atoms (specs/Cuts): commands, words, stray pipes, outputs,
-- removed files and failure files. The expected values were derived by hand from the profile. An example's comment is its text; %w marks an
-- output, %d a removed file, %V no output, %W a failure file.
-- Names: `F`: what is known of the outside. `words`: the words that end in a list of atoms. `linking`: a link with these switches on its
-- line. `has_stray_pipe`: a pipe of some command is stray, also in the one that has not ended. `each`: answers for the items of a list.
-- `path`: what a word that ended is a path of.

-- the byte of a
abbrev letter_a : ℕ
letter_a = 97

-- the byte of b
abbrev letter_b : ℕ
letter_b = 98

-- a pipe is stray without a word before it, or with something after it: |, a|b, a|| and a|%V
no_word_before : has_stray_pipe (Piped ∷ Break ∷ End ∷ []) ≡ true
no_word_before = refl

-- a|b: a word after a pipe in its command makes it stray
word_after : has_stray_pipe (Put letter_a ∷ Piped ∷ Put letter_b ∷ Break ∷ End ∷ []) ≡ true
word_after = refl

-- a||: a second pipe in a command makes the first stray
pipe_after : has_stray_pipe (Put letter_a ∷ Piped ∷ Piped ∷ Break ∷ End ∷ []) ≡ true
pipe_after = refl

-- a|%V: a %V after a pipe doesn't make it stray
nothing_after : has_stray_pipe (Put letter_a ∷ Piped ∷ Without ∷ Break ∷ End ∷ Put letter_b ∷ Break ∷ End ∷ []) ≡ false
nothing_after = refl

-- for any answers F of the system
module _ (F : Facts) where
  -- what the definitions find in a list: its commands, words, output, removed files and failure files
  abbrev lines_are : List Atom → Answer (List NamedLine)
  lines_are atoms = lines F (linking []) atoms

  -- the words that the definition finds in a list, as they are looked up
  abbrev words_are : List Atom → Answer (List (List ℕ))
  words_are atoms = each (path F (linking [])) (words atoms)

  -- the output that the definition finds in a list, if it has one
  abbrev output_is : List Atom → Answer (Option (List ℕ))
  output_is atoms = if_any (path F (linking [])) (output atoms)

  -- the removed files that the definition finds in a list
  abbrev removed_are : List Atom → Answer (List (List ℕ))
  removed_are atoms = each (path F (linking [])) (removed atoms)

  -- the failure files that the definition finds in a list
  abbrev failures_are : List Atom → Answer (List (List ℕ))
  failures_are atoms = each (path_of F (linking [])) (failure_files atoms)

  -- a word ends at a break or pipe: ab b, an empty word, and one that has not ended
  maximal : words_are (Put letter_a ∷ Put letter_b ∷ Break ∷ Break ∷ Put letter_b ∷ Piped ∷ Open ∷ Break ∷ End ∷ Put letter_a ∷ [])
      ≡ Is (Ok (codes "ab" ∷ codes "b" ∷ [] ∷ []))
  maximal = refl

  -- a%w b%w: the last word that is marked is the output
  last_marked : output_is (Put letter_a ∷ Marked AsOutput ∷ Break ∷ Put letter_b ∷ Marked AsOutput ∷ Break ∷ [])
      ≡ Is (Ok (Some (codes "b")))
  last_marked = refl

  -- a%w b%V%w, whose %V bars both words, and a %w%Vb, whose word begins after it
  barred : output_is (Put letter_a ∷ Marked AsOutput ∷ Break ∷ Put letter_b ∷ Without ∷ Marked AsOutput ∷ Break ∷ []) ≡ Is (Ok None)
  barred = refl

  -- a %w%Vb: a word that begins after the %V is the output, also where its mark came before
  begins_after : output_is (Put letter_a ∷ Break ∷ Marked AsOutput ∷ Without ∷ Put letter_b ∷ Break ∷ []) ≡ Is (Ok (Some (codes "b")))
  begins_after = refl

  -- a%w b%V, whose last word has not ended: its %V bars the first
  barred_at_end : output_is (Put letter_a ∷ Marked AsOutput ∷ Break ∷ Put letter_b ∷ Without ∷ []) ≡ Is (Ok None)
  barred_at_end = refl

  -- a%d b %d: the last mark has no word
  removed_once : removed_are (Put letter_a ∷ Marked AsRemoved ∷ Break ∷ Put letter_b ∷ Break ∷ Marked AsRemoved ∷ Break ∷ [])
      ≡ Is (Ok (codes "a" ∷ []))
  removed_once = refl

  -- a%w %W{b a}: the word with its mark, and of two words the last
  marked_then_last : failures_are (Put letter_a ∷ Marked AsOutput ∷ Break ∷ From ∷ Put letter_b ∷ Break ∷ Put letter_a ∷ Break ∷ To ∷ [])
      ≡ Is (Ok (codes "a" ∷ codes "a" ∷ []))
  marked_then_last = refl

  -- a%W{b}, whose word began before, and a %W{}, in which none ends
  began_before : failures_are (Put letter_a ∷ From ∷ Put letter_b ∷ Break ∷ To ∷ []) ≡ Is (Ok (codes "ab" ∷ []))
  began_before = refl

  -- a %W{}: a %W in which no word ends has no failure file
  none_inside : failures_are (Put letter_a ∷ Break ∷ From ∷ Break ∷ To ∷ []) ≡ Is (Ok [])
  none_inside = refl

  -- %W{a %W{b}}, %W{a %W{}} and %W{%W{a} b}: the inner one ends first
  inner_words_count : failures_are (From ∷ Put letter_a ∷ Break ∷ From ∷ Put letter_b ∷ Break ∷ To ∷ Break ∷ To ∷ [])
      ≡ Is (Ok (codes "b" ∷ codes "b" ∷ []))
  inner_words_count = refl

  -- %W{a %W{}}: an inner %W in which no word ends has no failure file, and the outer one has
  empty_inner : failures_are (From ∷ Put letter_a ∷ Break ∷ From ∷ Break ∷ To ∷ Break ∷ To ∷ []) ≡ Is (Ok (codes "a" ∷ []))
  empty_inner = refl

  -- %W{%W{a} b}: the inner %W ends first, and the outer one with a later word
  word_after_inner : failures_are (From ∷ From ∷ Put letter_a ∷ Break ∷ To ∷ Put letter_b ∷ Break ∷ To ∷ [])
      ≡ Is (Ok (codes "a" ∷ codes "b" ∷ []))
  word_after_inner = refl

  -- an end of a %W that never began
  never_began : failures_are (Put letter_a ∷ Break ∷ To ∷ []) ≡ Is (Ok [])
  never_began = refl

  -- a | and b, with an empty command between them; and a, whose command ends before the word does
  two_commands : lines_are (Put letter_a ∷ Piped ∷ Break ∷ End ∷ Break ∷ End ∷ Put letter_b ∷ Break ∷ End ∷ [])
      ≡ Is (Ok (record { name = codes "a"; words = []; piped = true } ∷ record { name = codes "b"; words = []; piped = false } ∷ []))
  two_commands = refl

  -- a%@{b}a|, of which a file is made: the file is a break
  around_file : lines_are (flat_map without_file (Bare (Put letter_a) ∷ Filed (Put letter_b ∷ []) ∷ Bare (Put letter_a) ∷ Bare Piped
      ∷ Bare End ∷ []))
      ≡ Is (Ok (record { name = codes "a"; words = codes "a" ∷ []; piped = true } ∷ []))
  around_file = refl

  -- a command that ends inside of a word goes on with the word: it ends with the command after it
  ends_later : lines_are (Put letter_a ∷ End ∷ Put letter_b ∷ Break ∷ End ∷ [])
      ≡ Is (Ok (record { name = codes "ab"; words = []; piped = false } ∷ []))
  ends_later = refl

  -- a pipe without a word before it, of which no command is kept
  bare_pipe : lines_are (Piped ∷ Break ∷ End ∷ Put letter_a ∷ Break ∷ End ∷ [])
      ≡ Is (Ok (record { name = codes "a"; words = []; piped = false } ∷ []))
  bare_pipe = refl
