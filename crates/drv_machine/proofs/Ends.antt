use Rattle.drv_machine.specs.Context.{Context}
use Rattle.drv_machine.specs.Cutting.{Cut, found_file, found_script, no_marks, script_option, word_done}
use Rattle.drv_machine.specs.Code.Held.{ended_in, word_found}
use Rattle.drv_machine.specs.Code.Running.{Machine, run}
use Rattle.drv_machine.specs.Working.{◌>>-◌, Answer, Break, puts}
use Rattle.drv_system.specs.Facts.{Facts}
use Rattle.drv_system.specs.Known.{Is, Unasked}
use Rattle.std.proofs.Common.{◌≡◌, ◌≤◌, ◌∙◌, ◌++◌, ◌&&◌, ◌-◌, Bool, Err, List, [], ◌∷◌, Ok, Option, ap, arith, false}
use Rattle.std.proofs.Common.{if◌then◌else◌, length, map, refl, sym, true, ℕ}
use Rattle.std.proofs.lemmas.List.{length-append, length-replicate}
use Rattle.std.specs.Prelude.{None, Some, not, replicate}

-- For `end_word` (machine/marking.rt): what the end of a word adds to the cut. It goes to the words of the command, and by its marks to the
-- removed files, the failure files and the output; a word that is marked as a file or a script is looked up first.
-- Names: `s`: the machine: what has been cut, and the world. `F`: what is known of the outside. `C`: what the text is run for (switches,
-- texts). `run`: runs a step after what has been cut, in its world. `puts`: puts these atoms. `word_done`: the open word has ended as these
-- words, of which the marks take the last. `script_option`: the option before a linker script that was found. `ended_in`: for each %W that
-- is open the last word that ended in it. `word_found`: the open word has ended as these words for the path that was found.

-- a list whose items are all replaced by y is y as many times
map_same : {X Y : Type 0} (y : Y) (xs : List X) → map (λ x. y) xs ≡ replicate (length xs) y
map_same y [] = refl
map_same y (x ∷ xs) = ap (λ ys. y ∷ ys) (map_same y xs)

-- a word that ends is the last one in each open %W
pub all_ended : (last word : List ℕ) (count fresh : ℕ) → fresh ≤ count
    → ended_in word count 0 ≡ map (λ before. Some word) (ended_in last count fresh)
all_ended last word count fresh h = sym (map_same (Some word) (ended_in last count fresh) ∙ ap (λ k. replicate k (Some word)) long)
  where
    long : length (ended_in last count fresh) ≡ count - 0
    long =
        let none : Option (List ℕ) = None in
        let all = length-append (replicate fresh none) (replicate (count - fresh) (Some last)) in
        let front = length-replicate fresh none in
        let following = length-replicate (count - fresh) (Some last) in
        omega (arith, all, front, following, h)

-- the end of a word, in the steps of the code: removed files, failure files, output, open %W, words
abbrev removed_kept : List ℕ → Machine → Machine
removed_kept word s = record s { cut = record s.cut { removed = s.cut.removed ++ (if s.cut.marks.removed then word ∷ [] else []) } }

-- the failure files with this word, if it is marked as an output
abbrev failure_kept : List ℕ → Machine → Machine
failure_kept word s = record s { cut = record s.cut { on_failure = s.cut.on_failure ++ (if s.cut.marks.output then word ∷ [] else []) } }

-- this word as the output, if it is marked so and no %V bars it
abbrev output_kept : List ℕ → Machine → Machine
output_kept word s = record s { cut = record s.cut { output = if s.cut.marks.output && not s.cut.barred then Some word else s.cut.output } }

-- this word as the last one of each %W that is open
abbrev inside_kept : List ℕ → Machine → Machine
inside_kept word s = record s { cut = record s.cut { inside = map (λ before. Some word) s.cut.inside } }

-- the open command with this word
abbrev word_pushed : List ℕ → Machine → Machine
word_pushed word s = record s { cut = record s.cut { line = record { words = s.cut.line.words ++ word ∷ []; piped = s.cut.line.piped } } }

-- no word is open, and no mark and no bar is left
abbrev word_closed : Machine → Machine
word_closed s = record s { cut = record s.cut { word = None; marks = no_marks; barred = false } }

-- the six steps of the code are `word_done`
pub word_finished : (word : List ℕ) (s removed failed named inside pushed closed : Machine) → removed ≡ removed_kept word s
    → failed ≡ failure_kept word removed → named ≡ output_kept word failed → inside ≡ inside_kept word named
    → pushed ≡ word_pushed word inside → closed ≡ word_closed pushed
    → closed ≡ record s { cut = word_done s.cut (word ∷ []) word }
word_finished word s removed failed named inside pushed closed ea eb ec ed ee ef =
    ef ∙ ap word_closed (ee ∙ ap (word_pushed word) (ed
    ∙ ap (inside_kept word) (ec ∙ ap (output_kept word) (eb ∙ ap (failure_kept word) ea))))

-- the end of a word in a state
module _ (F : Facts) (C : Context) (s : Machine) where
  -- a break where no word is open drops the marks
  pub none_ends : s.cut.word ≡ None → run F C s (puts (Break ∷ [])) ≡ Is (Ok (tt, word_closed s))
  none_ends e =
      let f : Option (List ℕ) → Answer (Unit {0} × Machine) =
      λ o. run F C (record s { cut = record s.cut { word = o } }) (puts (Break ∷ [])) in
      ap f e

  -- a word is open
  module _ (word : List ℕ) (e : s.cut.word ≡ Some word) where
    -- the end of the word that is open, with these marks
    abbrev ended : Bool → Bool → Answer (Unit {0} × Machine)
    ended script file = run F C (record s {
      cut = record s.cut
          { word = Some word; marks = record s.cut.marks { script = script; file = file } };
    }) (puts (Break ∷ []))

    -- a break is the end of the open word, with the marks of the state
    at_break : (script file : Bool) → s.cut.marks.script ≡ script → s.cut.marks.file ≡ file
        → run F C s (puts (Break ∷ [])) ≡ ended script file
    at_break script file a b =
        let f : Option (List ℕ) → Bool → Bool → Answer (Unit {0} × Machine) =
        λ o x y. run F C (record s { cut = record s.cut { word = o; marks = record s.cut.marks { script = x; file = y } } })
        (puts (Break ∷ [])) in
        ap (λ o. f o s.cut.marks.script s.cut.marks.file) e ∙ ap (λ x. f (Some word) x s.cut.marks.file) a
        ∙ ap (λ y. f (Some word) script y) b

    -- a word without a mark that looks it up ends as itself
    pub plain_ends : s.cut.marks.script ≡ false → s.cut.marks.file ≡ false
        → run F C s (puts (Break ∷ [])) ≡ Is (Ok (tt, record s { cut = word_done s.cut (word ∷ []) word }))
    plain_ends a b = at_break false false a b

    -- the state with this cut, as the end of a word leaves it
    abbrev following : Cut → Answer (Unit {0} × Machine)
    following d = Is (Ok (tt, record s { cut = d }))

    -- what a look-up gives ends the word in the state as it does in the cut
    after : (words : List ℕ → List (List ℕ)) (x : Answer (List ℕ))
        → (((x >>- λ path. Is (Ok (word_done s.cut (words path) path))) >>- λ d. Is (Ok d)) >>- following) ≡ word_found s words x
    after words (Is (Ok path)) = refl
    after words (Is (Err fault)) = refl
    after words Unasked = refl

    -- a word that is marked as a file ends as the path that was found
    pub file_ends : s.cut.marks.script ≡ false → s.cut.marks.file ≡ true
        → run F C s (puts (Break ∷ [])) ≡ word_found s (λ path. path ∷ []) (found_file F C word)
    file_ends a b = at_break false true a b ∙ after (λ path. path ∷ []) (found_file F C word)

    -- a word that is marked as a linker script ends as --script and the path that was found
    pub script_ends : s.cut.marks.script ≡ true → run F C s (puts (Break ∷ []))
        ≡ word_found s (λ path. script_option ∷ path ∷ []) (found_script F C word)
    script_ends a = at_break true s.cut.marks.file a refl ∙ after (λ path. script_option ∷ path ∷ []) (found_script F C word)
