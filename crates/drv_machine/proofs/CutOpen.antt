use Rattle.drv_machine.proofs.Runs.{Course, bare, breaks, breaks_bare, course, moved, moves, opened_by, over, pipes, pipes_bare, with_word}
use Rattle.drv_machine.specs.Context.{Context}
use Rattle.drv_machine.specs.Cuts.{Enclosed, Failure, File, ends_word, open_after, open_following}
use Rattle.drv_machine.specs.Cutting.{Cut, CutLine, all_taken, file_done, inside_done, line_ended, nothing_cut, pipe_done, pipe_ended}
use Rattle.drv_machine.specs.Working.{Atom, Break, End, FileFrom, FileTo, From, Marked, Open, Piped, Put, To, Without}
use Rattle.drv_system.specs.Facts.{Facts}
use Rattle.drv_system.specs.Known.{Is}
use Rattle.std.proofs.Common.{◌≡◌, ◌∙◌, List, [], ◌∷◌, None, Ok, Option, Some, ap, false, length, map, refl, suc, ℕ}
use Rattle.std.specs.Prelude.{option_and_then, option_to_list}

-- For cut_law: a cut has as many %W and files open as the list of its atoms. `open_following` counts them over the list and gives None
-- where one ends that is not open, or a file begins in another.
-- Names: `c`: what has been cut so far. `enclosed`: what has a beginning and an end among atoms: a `%W`, or the file of a `%@`. `atoms`:
-- what the text gives, from here on. `outer`: the command around the file of a `%@`, if one is open. `run`: the atoms since a word ended.
-- `inside`: for each open `%W` the last word that ended in it. `F`: what is known of the outside. `C`: what the text is run for (switches,
-- texts). `nothing_cut`: what has been cut before the first atom. `n`: how many are open.

-- how many %W are open in a cut, or files (one at most)
abbrev pub open_parts : Enclosed → Cut → ℕ
open_parts Failure c = length c.inside
open_parts File c = length (option_to_list c.outer)

-- the end of a %W closes one, in the cut as in the count
to_parts : (inside : List (Option (List ℕ))) (c : Cut) (rest : ℕ → Option ℕ) (n : ℕ)
    → option_and_then rest (open_after To Failure (length inside)) ≡ Some n
    → rest (length (inside_done inside c).inside) ≡ Some n
to_parts [] c rest n is = absurd cc
to_parts (None ∷ outer) c rest n is = is
to_parts (Some last ∷ outer) c rest n is = is

-- the end of a %W leaves a file open or not
to_outside : (inside : List (Option (List ℕ))) (c : Cut) → (inside_done inside c).outer ≡ c.outer
to_outside [] c = refl
to_outside (None ∷ outer) c = refl
to_outside (Some last ∷ outer) c = refl

-- the end of a command closes no %W and no file
end_parts : (enclosed : Enclosed) (c : Cut) (outer : Option CutLine)
    → open_parts enclosed (line_ended (record c { outer = outer })) ≡ open_parts enclosed (record c { outer = outer })
end_parts Failure c None = refl
end_parts Failure c (Some line) = refl
end_parts File c None = refl
end_parts File c (Some line) = refl

-- a pipe after these words closes no %W and no file
pipe_words : (enclosed : Enclosed) (c : Cut) (words : List (List ℕ))
    → open_parts enclosed (pipe_done (record c { line = record { words = words; piped = c.line.piped } })) ≡ open_parts enclosed c
pipe_words Failure c [] = refl
pipe_words Failure c (w ∷ ws) = refl
pipe_words File c [] = refl
pipe_words File c (w ∷ ws) = refl

-- the end of a command with a pipe closes neither
pipe_parts : (enclosed : Enclosed) (c : Cut) (outer : Option CutLine)
    → open_parts enclosed (pipe_ended (record c { outer = outer })) ≡ open_parts enclosed (record c { outer = outer })
pipe_parts enclosed c None = pipe_words enclosed (record c { outer = None }) c.line.words
pipe_parts Failure c (Some line) = refl
pipe_parts File c (Some line) = refl

-- where a file begins that the count allows, none is open before, and one is after
file_from : (outer : Option CutLine) (line : CutLine) (rest : ℕ → Option ℕ) (n : ℕ)
    → option_and_then rest (open_after FileFrom File (length (option_to_list outer))) ≡ Some n → rest 1 ≡ Some n
file_from None line rest n is = is
file_from (Some l) line rest n is = absurd cc

-- the end of a file closes it, in the cut as in the count
file_to : (c : Cut) (outer : Option CutLine) (rest : ℕ → Option ℕ) (n : ℕ)
    → option_and_then rest (open_after FileTo File (length (option_to_list outer))) ≡ Some n
    → rest (open_parts File (file_done (record c { outer = outer }))) ≡ Some n
file_to c None rest n is = absurd cc
file_to c (Some line) rest n is = is

-- the end of a file leaves the open %W as they were
file_inside : (c : Cut) (outer : Option CutLine) → (file_done (record c { outer = outer })).inside ≡ c.inside
file_inside c None = refl
file_inside c (Some line) = refl

-- an atom that ends no word changes the number in the cut as in the count
moved_open : (c : Cut) (atom : Atom) (enclosed : Enclosed) (rest : ℕ → Option ℕ) (n : ℕ) → ends_word atom ≡ false
    → option_and_then rest (open_after atom enclosed (open_parts enclosed c)) ≡ Some n → rest (open_parts enclosed (moved c atom)) ≡ Some n
moved_open c (Put b) Failure rest n e is = is
moved_open c (Put b) File rest n e is = is
moved_open c Open Failure rest n e is = is
moved_open c Open File rest n e is = is
moved_open c Break enclosed rest n e is = absurd cc
moved_open c End enclosed rest n e is = ap rest (end_parts enclosed c c.outer) ∙ is
moved_open c Piped enclosed rest n e is = absurd cc
moved_open c (Marked mark) Failure rest n e is = is
moved_open c (Marked mark) File rest n e is = is
moved_open c Without Failure rest n e is = is
moved_open c Without File rest n e is = is
moved_open c From Failure rest n e is = is
moved_open c From File rest n e is = is
moved_open c To Failure rest n e is = to_parts c.inside c rest n is
moved_open c To File rest n e is = ap (λ (o : Option CutLine). rest (length (option_to_list o))) (to_outside c.inside c) ∙ is
moved_open c FileFrom Failure rest n e is = is
moved_open c FileFrom File rest n e is = file_from c.outer c.line rest n is
moved_open c FileTo Failure rest n e is = ap (λ (i : List (Option (List ℕ))). rest (length i)) (file_inside c c.outer) ∙ is
moved_open c FileTo File rest n e is = file_to c c.outer rest n is

-- a cut without its word and marks has as many %W and files open
bare_parts : (enclosed : Enclosed) (c : Cut) → open_parts enclosed (bare c) ≡ open_parts enclosed c
bare_parts Failure c = refl
bare_parts File c = refl

-- a list has as many items when each is changed: so a word's end changes the last words of the %W, not their number
map_long : {X Y : Type 0} (f : X → Y) (xs : List X) → length (map f xs) ≡ length xs
map_long f [] = refl
map_long f (x ∷ xs) = ap suc (map_long f xs)

-- the end of a word closes no %W and no file
word_parts : (enclosed : Enclosed) (c : Cut) (run : List Atom) (name : List ℕ)
    → open_parts enclosed (with_word c (opened_by run) name) ≡ open_parts enclosed c
word_parts Failure c run name = map_long (λ before. Some name) c.inside
word_parts File c run name = refl

-- for any answers F of the system, and any C that a text is run for
module _ (F : Facts) (C : Context) where
  -- where no atom is left, the number that is counted is the cut's
  at_end : (c : Cut) (enclosed : Enclosed) (n : ℕ) → Some (open_parts enclosed c) ≡ Some n → open_parts enclosed c ≡ n
  at_end c enclosed n is = cc

  -- a cut at the end of a `Course` has as many %W and files open as its atoms count, from any number on
  open_as : {run atoms : List Atom} {c d : Cut} → Course F C run c atoms d → (enclosed : Enclosed) (n : ℕ)
      → open_following atoms enclosed (open_parts enclosed c) ≡ Some n → open_parts enclosed d ≡ n
  open_as (over {c = c}) enclosed n is = at_end c enclosed n is
  open_as (moves {atoms = atoms} {c = c} atom e rest) enclosed n is =
      open_as rest enclosed n (moved_open c atom enclosed (λ left. open_following atoms enclosed left) n e is)
  open_as (breaks_bare {atoms = atoms} {c = c} e rest) enclosed n is =
      open_as rest enclosed n (ap (open_following atoms enclosed) (bare_parts enclosed c) ∙ is)
  open_as (pipes_bare {atoms = atoms} {c = c} e rest) enclosed n is =
      open_as rest enclosed n (ap (open_following atoms enclosed) (pipe_parts enclosed (bare c) c.outer ∙ bare_parts enclosed c) ∙ is)
  open_as (breaks {run = run} {atoms = atoms} {c = c} name e f rest) enclosed n is =
      open_as rest enclosed n (ap (open_following atoms enclosed) (word_parts enclosed c run name) ∙ is)
  open_as (pipes {run = run} {atoms = atoms} {c = c} name e f rest) enclosed n is =
      open_as rest enclosed n (ap (open_following atoms enclosed)
      (pipe_parts enclosed (with_word c (opened_by run) name) c.outer ∙ word_parts enclosed c run name) ∙ is)

  -- a cut of a whole list has as many %W and files open as the count over the list says: so what cut_law says of both agrees
  begun_open : (atoms : List Atom) (c : Cut) → all_taken F C nothing_cut atoms ≡ Is (Ok c) → (enclosed : Enclosed) (n : ℕ)
      → open_following atoms enclosed (open_parts enclosed nothing_cut) ≡ Some n → open_parts enclosed c ≡ n
  begun_open atoms c went = open_as (course F C [] nothing_cut atoms c refl went)

  -- a list that is cut from nothing has as many %W and files open at its end as its atoms count
  pub open_are : (atoms : List Atom) (c : Cut) (enclosed : Enclosed) (n : ℕ) → all_taken F C nothing_cut atoms ≡ Is (Ok c)
      → open_following atoms enclosed 0 ≡ Some n → open_parts enclosed c ≡ n
  open_are atoms c Failure n went is = begun_open atoms c went Failure n is
  open_are atoms c File n went is = begun_open atoms c went File n is
