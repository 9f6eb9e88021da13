use Rattle.drv_machine.proofs.Cutter.{bytes_put, or_again, put_then}
use Rattle.drv_machine.proofs.EmitSteps.{switch_is}
use Rattle.drv_machine.proofs.Ends.{plain_ends}
use Rattle.drv_machine.proofs.Files.{some_there}
use Rattle.drv_machine.specs.Atoms.{switch_atoms}
use Rattle.drv_machine.specs.Code.Held.{IsBetweenWords, word_added}
use Rattle.drv_machine.specs.Code.Running.{Machine, run}
use Rattle.drv_machine.specs.Context.{Context, argument, names}
use Rattle.drv_machine.specs.Cutting.{touched}
use Rattle.drv_machine.specs.Working.{Break, Open, Put, puts}
use Rattle.drv_match.specs.Matching.{name_at}
use Rattle.drv_system.specs.Facts.{Facts}
use Rattle.drv_system.specs.Known.{Is}
use Rattle.drv_words.specs.Bytes.{hyphen}
use Rattle.std.proofs.Common.{◌≡◌, ◌∙◌, ◌++◌, List, [], ◌∷◌, Ok, Option, Some, ap, append-nil, append_assoc, false, length, map, refl, sym}
use Rattle.std.proofs.Common.{ℕ}
use Rattle.std.specs.Option.{unwrap_or}
use Rattle.std.specs.Prelude.{None}

-- For `add_switch` (machine/whole_words.rt), which adds a word to the command as a whole: the cut is the same as if its bytes were put one
-- by one, where no word is open and no mark looks up the next (`IsBetweenWords`).
-- Names: `s`: the machine: what has been cut, and the world. `C`: what the text is run for (switches, texts). `F`: what is known of the
-- outside. `b`: a byte. `run`: runs a step after what has been cut, in its world. `puts`: puts these atoms. `word_added`: the state after a
-- word was put whole into the command, between words. `put_then`: where the first part of a list was put, the second is left to put.
-- `touched`: something is here.

-- after a word that was added whole no word is open, and no mark waits
pub between_again : (s : Machine) (word : List ℕ) → IsBetweenWords (word_added s word).cut
between_again s word = (refl, refl, refl)

-- a word is put whole, in a state
module _ (F : Facts) (C : Context) (s : Machine) where
  -- the state where this word is open
  abbrev opened : List ℕ → Machine
  opened word = record s { cut = record (touched s.cut) { word = Some word } }

  -- the end of the open word adds it to the command, where no mark looks it up
  ends : (word : List ℕ) → s.cut.marks.script ≡ false → s.cut.marks.file ≡ false
      → run F C (opened word) (puts (Break ∷ [])) ≡ Is (Ok (tt, word_added s word))
  ends word script file = plain_ends F C (opened word) word refl script file

  -- between words, some bytes and a break add a word
  pub broken_added : (b : ℕ) (bs : List ℕ) → IsBetweenWords s.cut
      → run F C s (puts (map Put (b ∷ bs) ++ Break ∷ [])) ≡ Is (Ok (tt, word_added s (b ∷ bs)))
  broken_added b bs between =
      put_then F C s (opened (b ∷ bs)) (map Put (b ∷ bs)) (Break ∷ [])
      (bytes_put F C s (b ∷ bs) (b ∷ bs) (sym (some_there (length bs)))
      (sym (ap (λ (word : Option (List ℕ)). unwrap_or word [] ++ b ∷ bs) between.0)))
      ∙ ends (b ∷ bs) between.1 between.2

  -- the state where this word is open after another atom touched the command
  abbrev again : List ℕ → Machine
  again word = record s { cut = record (touched (touched s.cut)) { word = Some word } }

  -- between words, an opening, bytes and a break add a word, also an empty one
  pub whole_added : (word : List ℕ) → IsBetweenWords s.cut
      → run F C s (puts (Open ∷ map Put word ++ Break ∷ [])) ≡ Is (Ok (tt, word_added s word))
  whole_added [] between = put_then F C s (opened []) (Open ∷ []) (Break ∷ []) begins ∙ ends [] between.1 between.2
    where
      -- the word is opened, with no byte in it
      begins : run F C s (puts (Open ∷ [])) ≡ Is (Ok (tt, opened []))
      begins = ap (λ (word : Option (List ℕ)). Is (Ok (
        tt,
        record s { cut = record (touched s.cut) { word = Some (unwrap_or word [] ++ []) } },
      ))) between.0
  whole_added (b ∷ bs) between = put_then F C s (opened []) (Open ∷ []) (map Put (b ∷ bs) ++ Break ∷ []) begins ∙ rest
    where
      -- the word is opened, with no byte in it yet
      begins : run F C s (puts (Open ∷ [])) ≡ Is (Ok (tt, opened []))
      begins = ap (λ (word : Option (List ℕ)). Is (Ok (
        tt,
        record s { cut = record (touched s.cut) { word = Some (unwrap_or word [] ++ []) } },
      ))) between.0

      -- its bytes and its end add it to the command
      rest : run F C (opened []) (puts (map Put (b ∷ bs) ++ Break ∷ [])) ≡ Is (Ok (tt, word_added s (b ∷ bs)))
      rest =
          put_then F C (opened []) (again (b ∷ bs)) (map Put (b ∷ bs)) (Break ∷ [])
          (bytes_put F C (opened []) (b ∷ bs) (b ∷ bs) (sym (some_there (length bs))) refl)
          ∙ plain_ends F C (again (b ∷ bs)) (b ∷ bs) refl between.1 between.2
          ∙ ap (λ stray. Is (Ok (tt, record (word_added s (b ∷ bs)) { cut = record (word_added s (b ∷ bs)).cut { stray = stray } })))
          (or_again s.cut.stray s.cut.line.piped)

  -- a switch without an argument adds one word
  pub switch_alone : (i : ℕ) (name word : List ℕ) → IsBetweenWords s.cut → name ≡ name_at (names C) i → word ≡ hyphen ∷ name
      → argument C i ≡ None
      → run F C s (puts (switch_atoms F C i)) ≡ Is (Ok (tt, word_added s word))
  switch_alone i name word between named is none =
      sym (ap (λ atoms. run F C s (puts atoms)) (switch_is F C name None i named (sym none)))
      ∙ broken_added hyphen name between ∙ ap (λ w. Is (Ok (tt, word_added s w))) (sym is)

  -- one with an argument adds a word, and then the argument
  pub switch_with : (i : ℕ) (name word given : List ℕ) → IsBetweenWords s.cut → name ≡ name_at (names C) i → word ≡ hyphen ∷ name
      → argument C i ≡ Some given
      → run F C s (puts (switch_atoms F C i)) ≡ run F C (word_added s word) (puts (Open ∷ map Put given ++ Break ∷ []))
  switch_with i name word given between named is some =
      sym (ap (λ atoms. run F C s (puts atoms)) (switch_is F C name (Some given) i named (sym some)))
      ∙ ap (λ atoms. run F C s (puts (map Put (hyphen ∷ name) ++ Break ∷ Open ∷ atoms))) (append-nil (map Put given ++ Break ∷ []))
      ∙ ap (λ atoms. run F C s (puts atoms)) (sym (append_assoc (map Put (hyphen ∷ name)) (Break ∷ [])
      (Open ∷ map Put given ++ Break ∷ [])))
      ∙ put_then F C s (word_added s word) (map Put (hyphen ∷ name) ++ Break ∷ []) (Open ∷ map Put given ++ Break ∷ [])
      (broken_added hyphen name between ∙ ap (λ w. Is (Ok (tt, word_added s w))) (sym is))
