use Rattle.drv_machine.proofs.Laws.{then_same, then_then}
use Rattle.drv_machine.specs.Context.{Context}
use Rattle.drv_machine.specs.Cutting.{Cut, CutLine, all_taken, broken, file_begun, file_done, file_words, found_file, found_script}
use Rattle.drv_machine.specs.Cutting.{inside_done, line_ended, marked, no_line, no_marks, nothing_cut, pipe_done, pipe_ended, script_option}
use Rattle.drv_machine.specs.Cutting.{taken, word_done, words_in_file}
use Rattle.drv_machine.specs.Working.{◌>>-◌, Answer, Atom, Break, End, FileFrom, FileTo, From, Marked, Open, Piped, Put, To, Without}
use Rattle.drv_machine.specs.declared.machine.marking.Marking.{Marking}
use Rattle.drv_system.specs.Facts.{Facts}
use Rattle.drv_system.specs.Known.{Is}
use Rattle.std.proofs.Common.{◌≡◌, ◌∙◌, ◌++◌, Bool, List, [], ◌∷◌, None, Ok, Option, Some, ap, false, refl, sym, true, ℕ}
use Rattle.std.specs.Option.{unwrap_or}
use Rattle.std.specs.Prelude.{is_some, option_map}

-- For `%@{..}`, which makes a file of its words: these depend on the open word, its marks and the words of the file so far (`Seen`), and on
-- nothing else that was cut before. So the words that the code cuts in the middle of a text are those that the definition cuts from nothing
-- (`file_words_as`).
-- Names: `c`, `d`: what has been cut so far, before and after. `F`: what is known of the outside. `C`: what the text is run for (switches,
-- texts). `outer`: the command around the file of a `%@`, if one is open. `atoms`: what the text gives, from here on. `Y`: any type.
-- `word_done`: the open word has ended as these words, of which the marks take the last. `then_then`: answers one after another may be
-- joined from the left or from the right. `script_option`: the option before a linker script that was found. `broken`: the word that is
-- open, if one is, ends. `then_same`: what follows an answer may be replaced by what is the same for each value. `all_taken`: atoms, one
-- after another. `found_file`: what a word that is marked as a file becomes. `found_script`: what a word that is marked as a linker script
-- becomes. `file_begun`: the file of a %@ begins. `taken`: one atom more is cut.

-- what the words of a file depend on
pub record Seen : Type 0 where
  pub word : Option (List ℕ)
  pub marks : Marking
  pub barred : Bool
  pub line : Option CutLine

-- what the words of a file depend on: the open word, its marks, and the words of the file so far
abbrev pub seen : Cut → Seen
seen c = record { word = c.word; marks = c.marks; barred = c.barred; line = option_map (λ outer. c.line) c.outer }

-- a file has begun in a cut: it has no word yet, and no open one
abbrev pub Begun : Cut → Type 0
Begun c = seen c ≡ seen (file_begun nothing_cut)

-- the words of the file so far; none outside of a file
abbrev seen_words : Seen → List (List ℕ)
seen_words v = unwrap_or (option_map (λ (l : CutLine). l.words) v.line) []

-- more words after those of a file
abbrev with_words : List (List ℕ) → CutLine → CutLine
with_words words l = record { words = l.words ++ words; piped = l.piped }

-- the open word has ended as these words, as far as it is seen
abbrev word_seen : Seen → List (List ℕ) → Seen
word_seen v words = record { word = None; marks = no_marks; barred = false; line = option_map (with_words words) v.line }

-- the words of the file so far are among what is seen
words_seen : (outer : Option CutLine) (line : CutLine)
    → unwrap_or (option_map (λ (l : CutLine). l.words) (option_map (λ (o : CutLine). line) outer)) []
    ≡ unwrap_or (option_map (λ (o : CutLine). line.words) outer) []
words_seen None line = refl
words_seen (Some o) line = refl

-- the end of a command, a pipe and the end of a %W change nothing that is seen, where a file is open
end_unseen : (c : Cut) (outer : Option CutLine) → seen (line_ended (record c { outer = outer })) ≡ seen (record c { outer = outer })
end_unseen c None = refl
end_unseen c (Some line) = refl

-- outside of files a pipe is not seen
piped_or_not : (c : Cut) (words : List (List ℕ)) (piped : Bool)
    → seen (pipe_done (record c { line = record { words = words; piped = piped }; outer = None }))
    ≡ seen (record c { line = record { words = words; piped = piped }; outer = None })
piped_or_not c [] piped = refl
piped_or_not c (w ∷ words) piped = refl

-- a pipe changes nothing that is seen, in a file or not
pipe_unseen : (c : Cut) (outer : Option CutLine) → seen (pipe_ended (record c { outer = outer })) ≡ seen (record c { outer = outer })
pipe_unseen c None = piped_or_not c c.line.words c.line.piped
pipe_unseen c (Some line) = refl

-- the end of a %W is not seen
inside_unseen : (inside : List (Option (List ℕ))) (c : Cut) → seen (inside_done inside c) ≡ seen c
inside_unseen [] c = refl
inside_unseen (None ∷ outer) c = refl
inside_unseen (Some last ∷ outer) c = refl

-- after the end of a file its words are not seen any more
file_unseen : (c : Cut) (outer : Option CutLine) → seen (file_done (record c { outer = outer })) ≡ record (seen c) { line = None }
file_unseen c None = refl
file_unseen c (Some line) = refl

-- the end of a word with these texts, as it is seen
word_done_seen : (c : Cut) (words : List (List ℕ)) (last : List ℕ) (outer : Option CutLine)
    → seen (word_done (record c { outer = outer }) words last) ≡ word_seen (seen (record c { outer = outer })) words
word_done_seen c words last None = refl
word_done_seen c words last (Some line) = refl

-- for any answers F of the system, and any C that a text is run for
module _ (F : Facts) (C : Context) where
  -- the end of a word, as far as it is seen
  abbrev broken_seen : Seen → Answer Seen
  broken_seen v = by v.word v.marks.script v.marks.file
    where
      by : Option (List ℕ) → Bool → Bool → Answer Seen
      by None script file = Is (Ok (record v { marks = no_marks; barred = false }))
      by (Some word) true file = found_script F C word >>- λ path. Is (Ok (word_seen v (script_option ∷ path ∷ [])))
      by (Some word) false true = found_file F C word >>- λ path. Is (Ok (word_seen v (path ∷ [])))
      by (Some word) false false = Is (Ok (word_seen v (word ∷ [])))

  -- one atom, as far as it is seen
  abbrev taken_seen : Seen → Atom → Answer Seen
  taken_seen v (Put b) = Is (Ok (record v { word = Some (unwrap_or v.word [] ++ b ∷ []) }))
  taken_seen v Open = Is (Ok (record v { word = Some (unwrap_or v.word [] ++ []) }))
  taken_seen v Break = broken_seen v
  taken_seen v End = Is (Ok v)
  taken_seen v Piped = broken_seen v
  taken_seen v (Marked mark) = Is (Ok (record v { marks = marked mark v.marks }))
  taken_seen v Without = Is (Ok (record v { barred = is_some v.word }))
  taken_seen v From = Is (Ok v)
  taken_seen v To = Is (Ok v)
  taken_seen v FileFrom = Is (Ok (record v { line = Some no_line }))
  taken_seen v FileTo = Is (Ok (record v { line = None }))

  -- atoms, one after another, as far as they are seen
  abbrev all_seen : Seen → List Atom → Answer Seen
  all_seen v [] = Is (Ok v)
  all_seen v (atom ∷ atoms) = taken_seen v atom >>- λ u. all_seen u atoms

  -- the end of a word does to what is seen what `broken_seen` says, by the word's marks
  broken_as : (c : Cut) (word : Option (List ℕ)) (script file : Bool)
      → (broken F C (record c { word = word; marks = record c.marks { script = script; file = file } }) >>- λ d. Is (Ok (seen d)))
      ≡ broken_seen (seen (record c { word = word; marks = record c.marks { script = script; file = file } }))
  broken_as c None script file = refl
  broken_as c (Some word) true file =
      then_then (found_script F C word) (λ path. Is (Ok (word_done
      (record c { word = Some word; marks = record c.marks { script = true; file = file } }) (script_option ∷ path ∷ []) path)))
      (λ d. Is (Ok (seen d)))
      ∙ then_same (found_script F C word) (λ path. Is (Ok
      (seen (word_done (record c { word = Some word; marks = record c.marks { script = true; file = file } })
      (script_option ∷ path ∷ []) path))))
      (λ path. Is (Ok (word_seen (seen (record c { word = Some word; marks = record c.marks { script = true; file = file } }))
      (script_option ∷ path ∷ []))))
      (λ path. ap (λ v. Is (Ok v)) (word_done_seen (record c { word = Some word; marks = record c.marks { script = true; file = file } })
      (script_option ∷ path ∷ []) path c.outer))
  broken_as c (Some word) false true =
      then_then (found_file F C word) (λ path. Is (Ok (word_done
      (record c { word = Some word; marks = record c.marks { script = false; file = true } }) (path ∷ []) path)))
      (λ d. Is (Ok (seen d)))
      ∙ then_same (found_file F C word) (λ path. Is (Ok (seen
      (word_done (record c { word = Some word; marks = record c.marks { script = false; file = true } }) (path ∷ []) path))))
      (λ path. Is (Ok (word_seen (seen (record c { word = Some word; marks = record c.marks { script = false; file = true } }))
      (path ∷ []))))
      (λ path. ap (λ v. Is (Ok v)) (word_done_seen (record c { word = Some word; marks = record c.marks { script = false; file = true } })
      (path ∷ []) path c.outer))
  broken_as c (Some word) false false =
      ap (λ v. Is (Ok v)) (word_done_seen (record c { word = Some word; marks = record c.marks { script = false; file = false } })
      (word ∷ []) word c.outer)

  -- the end of a word does to what is seen what `broken_seen` says
  broken_is : (c : Cut) → (broken F C c >>- λ d. Is (Ok (seen d))) ≡ broken_seen (seen c)
  broken_is c = broken_as c c.word c.marks.script c.marks.file

  -- an atom does to what is seen what `taken_seen` says
  taken_is : (c : Cut) (atom : Atom) → (taken F C c atom >>- λ d. Is (Ok (seen d))) ≡ taken_seen (seen c) atom
  taken_is c (Put b) = refl
  taken_is c Open = refl
  taken_is c Break = broken_is c
  taken_is c End = ap (λ v. Is (Ok v)) (end_unseen c c.outer)
  taken_is c Piped =
      then_then (broken F C c) (λ d. Is (Ok (pipe_ended d))) (λ d. Is (Ok (seen d)))
      ∙ then_same (broken F C c) (λ d. Is (Ok (seen (pipe_ended d)))) (λ d. Is (Ok (seen d)))
      (λ d. ap (λ v. Is (Ok v)) (pipe_unseen d d.outer))
      ∙ broken_is c
  taken_is c (Marked mark) = refl
  taken_is c Without = refl
  taken_is c From = refl
  taken_is c To = ap (λ v. Is (Ok v)) (inside_unseen c.inside c)
  taken_is c FileFrom = refl
  taken_is c FileTo = ap (λ v. Is (Ok v)) (file_unseen c c.outer)

  -- a list of atoms does to what is seen what `all_seen` says
  all_is : (c : Cut) (atoms : List Atom) → (all_taken F C c atoms >>- λ d. Is (Ok (seen d))) ≡ all_seen (seen c) atoms
  all_is c [] = refl
  all_is c (atom ∷ atoms) =
      then_then (taken F C c atom) (λ d. all_taken F C d atoms) (λ d. Is (Ok (seen d)))
      ∙ then_same (taken F C c atom) (λ d. all_taken F C d atoms >>- λ e. Is (Ok (seen e))) (λ d. all_seen (seen d) atoms)
      (λ d. all_is d atoms)
      ∙ sym (then_then (taken F C c atom) (λ d. Is (Ok (seen d))) (λ v. all_seen v atoms))
      ∙ ap (λ x. x >>- λ v. all_seen v atoms) (taken_is c atom)

  -- the words of a file after these atoms depend on what was seen before
  words_are : (c : Cut) (atoms : List Atom) → (all_taken F C c atoms >>- λ d. Is (Ok (words_in_file d)))
      ≡ (all_seen (seen c) atoms >>- λ v. Is (Ok (seen_words v)))
  words_are c atoms =
      sym (then_then (all_taken F C c atoms) (λ d. Is (Ok (seen d))) (λ v. Is (Ok (seen_words v)))
      ∙ then_same (all_taken F C c atoms) (λ d. Is (Ok (seen_words (seen d)))) (λ d. Is (Ok (words_in_file d)))
      (λ d. ap (λ ws. Is (Ok ws)) (words_seen d.outer d.line)))
      ∙ ap (λ x. x >>- λ v. Is (Ok (seen_words v))) (all_is c atoms)

  -- the words of a file, cut from any cut that begins one
  pub file_words_as : (c : Cut) → Begun c → (atoms : List Atom)
      → file_words F C atoms ≡ (all_taken F C c (atoms ++ Break ∷ []) >>- λ d. Is (Ok (words_in_file d)))
  file_words_as c e atoms =
      words_are (file_begun nothing_cut) (atoms ++ Break ∷ [])
      ∙ ap (λ v. all_seen v (atoms ++ Break ∷ []) >>- λ u. Is (Ok (seen_words u))) (sym e)
      ∙ sym (words_are c (atoms ++ Break ∷ []))

  -- after the end of a word a file may begin, whatever the word was: what holds of all cuts where one may begin holds after it
  begun_as : {Y : Type 0} (c : Cut) (word : Option (List ℕ)) (script file : Bool) (left right : Cut → Answer Y)
      → ((d : Cut) → Begun (file_begun d) → left d ≡ right d)
      → (broken F C (record c { word = word; marks = record c.marks { script = script; file = file } }) >>- left)
      ≡ (broken F C (record c { word = word; marks = record c.marks { script = script; file = file } }) >>- right)
  begun_as c None script file left right e = e (record c { word = None; marks = no_marks; barred = false }) refl
  begun_as c (Some word) true file left right e =
      then_then (found_script F C word) (λ path. Is (Ok (word_done
      (record c { word = Some word; marks = record c.marks { script = true; file = file } }) (script_option ∷ path ∷ []) path))) left
      ∙ then_same (found_script F C word) (λ path. left (word_done
      (record c { word = Some word; marks = record c.marks { script = true; file = file } }) (script_option ∷ path ∷ []) path))
      (λ path. right (word_done (record c { word = Some word; marks = record c.marks { script = true; file = file } })
      (script_option ∷ path ∷ []) path))
      (λ path. e (word_done (record c { word = Some word; marks = record c.marks { script = true; file = file } })
      (script_option ∷ path ∷ []) path) refl)
      ∙ sym (then_then (found_script F C word) (λ path. Is
      (Ok (word_done (record c { word = Some word; marks = record c.marks { script = true; file = file } })
      (script_option ∷ path ∷ []) path))) right)
  begun_as c (Some word) false true left right e =
      then_then (found_file F C word) (λ path. Is (Ok (word_done
      (record c { word = Some word; marks = record c.marks { script = false; file = true } }) (path ∷ []) path))) left
      ∙ then_same (found_file F C word) (λ path. left (word_done
      (record c { word = Some word; marks = record c.marks { script = false; file = true } }) (path ∷ []) path))
      (λ path. right (word_done (record c { word = Some word; marks = record c.marks { script = false; file = true } }) (path ∷ []) path))
      (λ path. e (word_done (record c { word = Some word; marks = record c.marks { script = false; file = true } }) (path ∷ []) path) refl)
      ∙ sym (then_then (found_file F C word) (λ path. Is
      (Ok (word_done (record c { word = Some word; marks = record c.marks { script = false; file = true } }) (path ∷ []) path))) right)
  begun_as c (Some word) false false left right e = e (word_done
      (record c { word = Some word; marks = record c.marks { script = false; file = false } }) (word ∷ []) word) refl

  -- after a break a file may begin, whatever the word before: what holds of each cut in which one may, holds after the break
  pub after_break : {Y : Type 0} (c : Cut) (left right : Cut → Answer Y) → ((d : Cut) → Begun (file_begun d) → left d ≡ right d)
      → (broken F C c >>- left) ≡ (broken F C c >>- right)
  after_break c left right e = begun_as c c.word c.marks.script c.marks.file left right e
