use Rattle.drv_machine.proofs.Runs.{Course, any_after, bare, breaks, breaks_bare, course, moves, opened_by, over, pipes, pipes_bare}
use Rattle.drv_machine.proofs.Runs.{with_word}
use Rattle.drv_machine.specs.Context.{Context}
use Rattle.drv_machine.specs.Cuts.{Part, Piece, Pipe, Run, Word, begins_file, commands, each, has_more, has_stray_pipe, is_end_of_word}
use Rattle.drv_machine.specs.Cuts.{is_pipe, is_script, is_stray, lacks_word, line_of, lines, open_command, opens_word, path, texts, word_of}
use Rattle.drv_machine.specs.Cutting.{Cut, CutLine, NamedLine, all_taken, argument_words, file_done, inside_done, line_ended, named_line}
use Rattle.drv_machine.specs.Cutting.{no_line, nothing_cut, pipe_done, pipe_ended, script_option}
use Rattle.drv_machine.specs.Working.{◌>>-◌, Answer, Atom, Break, End, FileFrom, FileTo, From, Marked, Open, Piped, Put, To, Without}
use Rattle.drv_machine.specs.declared.fault.MachineFault.{MachineFault}
use Rattle.drv_system.specs.Facts.{Facts}
use Rattle.drv_system.specs.Known.{Is, Unasked}
use Rattle.std.proofs.Common.{◌≡◌, ◌∙◌, ◌++◌, ◌||◌, Bool, List, [], ◌∷◌, None, Err, Ok, Option, Some, ap, append-nil, append_assoc, false}
use Rattle.std.proofs.Common.{refl, subst, sym, true, ℕ}
use Rattle.std.specs.List.{cons_option, filter_map, list_any}
use Rattle.std.specs.Prelude.{if◌then◌else◌, not, option_to_list}

-- For command_law: the commands and the stray pipes of a list of atoms without a file. A piece of a command is a word that has ended, part
-- of a word, or a pipe; a pipe is stray if its command has no word before it, or has more than ends of words after it. The lemmas go over
-- the list run by run (`Course` of Runs) and compare the open command's pieces with the cut.
-- Names: `ps`: pieces of a command. `c`, `d`: what has been cut so far, before and after. `atoms`: what the text gives, from here on.
-- `run`: the atoms since a word ended. `l`: the commands of a cut. `F`: what is known of the outside. `C`: what the text is run for
-- (switches, texts). `a`: an answer: what is known, a refusal, or nothing yet. `outer`: the command around the file of a `%@`, if one is
-- open. `is_stray`: a pipe of this command is stray. `line_of`: the words of a command, and whether it has a pipe. `is_end_of_word`: the
-- piece is a word that ended. `open_command`: the command that has not ended. `word_of`: the word that a run ends as, if it is one.
-- `texts`: the words of the command that it gives. `commands`: the commands that end. `is_pipe`: the piece is a pipe. `any_after`: whether
-- any of a list with one more has a property. `lacks_word`: a pipe is stray where no word precedes it in its command. `w`: a run that is a
-- word. `ts`: the words that it gives. `s`: whether a pipe of a command before is stray.

-- an `or` with a true side is true: a pipe that was stray stays so
or_true : (a : Bool) → (a || true) ≡ true
or_true true = refl
or_true false = refl

-- three sides of an `or` may be grouped from either end
or_assoc : (a b c : Bool) → ((a || b) || c) ≡ (a || (b || c))
or_assoc true b c = refl
or_assoc false b c = refl

-- a truth value or false is that value
pub or_none : (a : Bool) → (a || false) ≡ a
or_none true = refl
or_none false = refl

-- a word at the end of a command makes no pipe of it stray: only what precedes a pipe, and parts and pipes after it, do
word_strays : (pieces : List Piece) (w : Run) → is_stray (pieces ++ Word w ∷ []) ≡ is_stray pieces
word_strays pieces w = rw (lacks pieces, more pieces) refl
  where
    -- a word at the end precedes no pipe, so it changes nothing for `lacks_word`
    lacks : (ps : List Piece) → lacks_word (ps ++ Word w ∷ []) ≡ lacks_word ps
    lacks [] = refl
    lacks (Word v ∷ ps) = refl
    lacks (Part ∷ ps) = lacks ps
    lacks (Pipe ∷ ps) = refl

    -- a word that ended counts for nothing in `has_more`
    more : (ps : List Piece) → has_more (ps ++ Word w ∷ []) ≡ has_more ps
    more [] = refl
    more (Word v ∷ ps) = more ps
    more (Part ∷ ps) = more ps
    more (Pipe ∷ ps) = any_after (λ piece. not (is_end_of_word piece)) ps (Word w)

-- after one more part or pipe a command has more after a pipe if it had so, or has a pipe
more_after : (pieces : List Piece) (p : Piece) → is_end_of_word p ≡ false
    → has_more (pieces ++ p ∷ []) ≡ (has_more pieces || list_any is_pipe pieces)
more_after [] (Word w) e = absurd cc
more_after [] Part e = refl
more_after [] Pipe e = refl
more_after (Word v ∷ ps) p e = more_after ps p e
more_after (Part ∷ ps) p e = more_after ps p e
more_after (Pipe ∷ ps) p e =
    any_after (λ piece. not (is_end_of_word piece)) ps p ∙ ap (λ b. not b || list_any (λ piece. not (is_end_of_word piece)) ps) e
    ∙ sym (or_true (list_any (λ piece. not (is_end_of_word piece)) ps))

-- part of a word at the end of a command is stray if the command has a pipe
part_strays : (pieces : List Piece) → is_stray (pieces ++ Part ∷ []) ≡ (is_stray pieces || list_any is_pipe pieces)
part_strays pieces = rw (lacks pieces, more_after pieces Part refl)
    (sym (or_assoc (lacks_word pieces) (has_more pieces) (list_any is_pipe pieces)))
  where
    -- a part is no word and no pipe, so it changes nothing for `lacks_word`
    lacks : (ps : List Piece) → lacks_word (ps ++ Part ∷ []) ≡ lacks_word ps
    lacks [] = refl
    lacks (Word v ∷ ps) = refl
    lacks (Part ∷ ps) = lacks ps
    lacks (Pipe ∷ ps) = refl

-- a pipe at the end of a command lacks a word if no word ended before
lacks_after : (pieces : List Piece) → lacks_word (pieces ++ Pipe ∷ []) ≡ (lacks_word pieces || not (list_any is_end_of_word pieces))
lacks_after [] = refl
lacks_after (Word v ∷ ps) = refl
lacks_after (Part ∷ ps) = lacks_after ps
lacks_after (Pipe ∷ ps) = refl

-- whether a command is stray with one more pipe at its end, by its pieces before
pipe_strays : (pieces : List Piece) → is_stray (pieces ++ Pipe ∷ [])
    ≡ ((lacks_word pieces || not (list_any is_end_of_word pieces)) || (has_more pieces || list_any is_pipe pieces))
pipe_strays pieces = rw (lacks_after pieces, more_after pieces Pipe refl) refl

-- whether a pipe is stray after one more, where a word ended before
pipe_or_stray : (s stray lacks more piped : Bool) → stray ≡ (s || (lacks || more))
    → (stray || piped) ≡ (s || ((lacks || false) || (more || piped)))
pipe_or_stray s stray lacks more piped e = ap (λ b. b || piped) e ∙ by s lacks more
  where
    by : (s lacks more : Bool) → ((s || (lacks || more)) || piped) ≡ (s || ((lacks || false) || (more || piped)))
    by true lacks more = refl
    by false true more = refl
    by false false more = refl

-- a command is stray where one of its pipes lacks a word
stray_for_want : (s lacks rest : Bool) → true ≡ (s || ((lacks || true) || rest))
stray_for_want true lacks rest = refl
stray_for_want false true rest = refl
stray_for_want false false rest = refl

-- the fields of a cut that its commands are made of: the command around a file, the open command, those that have ended, and whether a pipe
-- is stray
pub record Lined : Type 0 where
  pub outer : Option CutLine
  pub line : CutLine
  pub lines : List NamedLine
  pub stray : Bool

-- the fields of a cut that its commands are made of
abbrev pub lined : Cut → Lined
lined c = record { outer = c.outer; line = c.line; lines = c.lines; stray = c.stray }

-- the end of a %W changes no command
pub inside_lined : (c : Cut) (inside : List (Option (List ℕ))) → lined (inside_done inside c) ≡ lined c
inside_lined c [] = refl
inside_lined c (None ∷ outer) = refl
inside_lined c (Some last ∷ outer) = refl

-- where no file is open the end of one changes no command
file_lined : (c : Cut) (outer : Option CutLine) → outer ≡ None
    → lined (file_done (record c { outer = outer })) ≡ lined (record c { outer = outer })
file_lined c None e = refl
file_lined c (Some line) e = absurd cc

-- the commands that the end of one adds: itself, or none where it has no word
abbrev one_if : CutLine → List NamedLine
one_if line = option_to_list (named_line line)

-- the end of a command adds it to the commands that have ended, if it has a word
end_lined : (c : Cut) (outer : Option CutLine) → outer ≡ None
    → lined (line_ended (record c { outer = outer })) ≡ record {
      outer = None;
      line = no_line;
      lines = c.lines ++ one_if c.line;
      stray =
          c.stray;
    }
end_lined c None e = refl
end_lined c (Some line) e = absurd cc

-- whether there is no word
abbrev pub is_nil : List (List ℕ) → Bool
is_nil [] = true
is_nil (word ∷ words) = false

-- a pipe after these words of a command is the pipe of it, and stray without a word or after another pipe
pipe_done_lined : (c : Cut) (words : List (List ℕ))
    → lined (pipe_done (record c { outer = None; line = record { words = words; piped = c.line.piped } }))
    ≡ record {
      outer = None;
      line = record { words = words; piped = true };
      lines = c.lines;
      stray = if is_nil words then true
          else c.stray || c.line.piped;
    }
pipe_done_lined c [] = refl
pipe_done_lined c (w ∷ ws) = refl

-- a pipe makes the open command a piped one, where no file is open; it is stray without a word or after another pipe
pipe_lined : (c : Cut) (outer : Option CutLine) → outer ≡ None → lined (pipe_ended (record c { outer = outer }))
    ≡ record {
      outer = None;
      line = record { words = c.line.words; piped = true };
      lines = c.lines;
      stray = if is_nil c.line.words then true
          else c.stray || c.line.piped;
    }
pipe_lined c None e = pipe_done_lined c c.line.words
pipe_lined c (Some line) e = absurd cc

-- words with one more at the end are some: a pipe after them has a word before it
some_after : (xs ys : List (List ℕ)) → is_nil ys ≡ false → is_nil (xs ++ ys) ≡ false
some_after [] ys e = e
some_after (x ∷ xs) ys e = refl

-- more words before those of a command
abbrev ahead : List (List ℕ) → CutLine → Answer CutLine
ahead ws line = Is (Ok (record { words = ws ++ line.words; piped = line.piped }))

-- more words after those of a command
abbrev with_more : CutLine → List (List ℕ) → Answer CutLine
with_more line ts = Is (Ok (record { words = line.words ++ ts; piped = line.piped }))

-- a command that ends with a pipe
abbrev as_piped : CutLine → Answer CutLine
as_piped line = Is (Ok (record { words = line.words; piped = true }))

-- for any answers F of the system, and any C that a text is run for
module _ (F : Facts) (C : Context) where
  -- one more word adds its texts to the words of a command
  word_line : (pieces : List Piece) (w : Run) → line_of F C (pieces ++ Word w ∷ [])
      ≡ (line_of F C pieces >>- λ l. texts F C w >>- λ ts. with_more l ts)
  word_line [] w = by (texts F C w)
    where
      by : (a : Answer (List (List ℕ))) → (a >>- λ ws. ahead ws no_line) ≡ (a >>- λ ts. with_more no_line ts)
      by (Is (Ok ws)) = ap (λ (l : List (List ℕ)). Is (Ok (record { words = l; piped = false }))) (append-nil ws)
      by (Is (Err fault)) = refl
      by Unasked = refl
  word_line (Word v ∷ ps) w =
      ap (λ (a : Answer CutLine). texts F C v >>- λ ws. a >>- λ line. ahead ws line) (word_line ps w)
      ∙ by (texts F C v) (line_of F C ps) (texts F C w)
    where
      by : (a : Answer (List (List ℕ))) (b : Answer CutLine) (t : Answer (List (List ℕ)))
          → (a >>- λ ws. (b >>- λ l. t >>- λ ts. with_more l ts) >>- λ line. ahead ws line)
          ≡ ((a >>- λ ws. b >>- λ line. ahead ws line) >>- λ l. t >>- λ ts. with_more l ts)
      by (Is (Ok ws)) (Is (Ok l)) (Is (Ok ts)) = ap (λ (x : List (List ℕ)). Is (Ok (record { words = x; piped = l.piped })))
          (sym (append_assoc ws l.words ts))
      by (Is (Ok ws)) (Is (Ok l)) (Is (Err fault)) = refl
      by (Is (Ok ws)) (Is (Ok l)) Unasked = refl
      by (Is (Ok ws)) (Is (Err fault)) t = refl
      by (Is (Ok ws)) Unasked t = refl
      by (Is (Err fault)) b t = refl
      by Unasked b t = refl
  word_line (Part ∷ ps) w = word_line ps w
  word_line (Pipe ∷ ps) w =
      ap (λ (a : Answer CutLine). a >>- λ line. as_piped line) (word_line ps w) ∙ by (line_of F C ps) (texts F C w)
    where
      by : (b : Answer CutLine) (t : Answer (List (List ℕ)))
          → ((b >>- λ l. t >>- λ ts. with_more l ts) >>- λ line. as_piped line)
          ≡ ((b >>- λ line. as_piped line) >>- λ l. t >>- λ ts. with_more l ts)
      by (Is (Ok l)) (Is (Ok ts)) = refl
      by (Is (Ok l)) (Is (Err fault)) = refl
      by (Is (Ok l)) Unasked = refl
      by (Is (Err fault)) t = refl
      by Unasked t = refl

  -- part of a word adds nothing to a command
  part_line : (pieces : List Piece) → line_of F C (pieces ++ Part ∷ []) ≡ line_of F C pieces
  part_line [] = refl
  part_line (Word v ∷ ps) = ap (λ (a : Answer CutLine). texts F C v >>- λ ws. a >>- λ line. ahead ws line) (part_line ps)
  part_line (Part ∷ ps) = part_line ps
  part_line (Pipe ∷ ps) = ap (λ (a : Answer CutLine). a >>- λ line. as_piped line) (part_line ps)

  -- a command with one more pipe is a piped one, with the words that it had
  pipe_line : (pieces : List Piece) → line_of F C (pieces ++ Pipe ∷ []) ≡ (line_of F C pieces >>- λ l. as_piped l)
  pipe_line [] = refl
  pipe_line (Word v ∷ ps) =
      ap (λ (a : Answer CutLine). texts F C v >>- λ ws. a >>- λ line. ahead ws line) (pipe_line ps) ∙ by (texts F C v) (line_of F C ps)
    where
      by : (a : Answer (List (List ℕ))) (b : Answer CutLine)
          → (a >>- λ ws. (b >>- λ l. as_piped l) >>- λ line. ahead ws line)
          ≡ ((a >>- λ ws. b >>- λ line. ahead ws line) >>- λ l. as_piped l)
      by (Is (Ok ws)) (Is (Ok l)) = refl
      by (Is (Ok ws)) (Is (Err fault)) = refl
      by (Is (Ok ws)) Unasked = refl
      by (Is (Err fault)) b = refl
      by Unasked b = refl
  pipe_line (Part ∷ ps) = pipe_line ps
  pipe_line (Pipe ∷ ps) = ap (λ (a : Answer CutLine). a >>- λ line. as_piped line) (pipe_line ps)

-- the open command of a cut has these pieces: its words, whether it is piped, and whether a pipe so far is stray (`s`: in a command before)
pub record LineKept (F : Facts) (C : Context) (pieces : List Piece) (s : Bool) (l : Lined) : Type 0 where
  pub outside : l.outer ≡ None
  pub line : line_of F C pieces ≡ Is (Ok l.line)
  pub some : is_nil l.line.words ≡ not (list_any is_end_of_word pieces)
  pub piped : l.line.piped ≡ list_any is_pipe pieces
  pub stray : l.stray ≡ (s || is_stray pieces)

-- the commands of a cut after one more word with these texts
abbrev pub with_texts : Lined → List (List ℕ) → Lined
with_texts l ts = record l { line = record { words = l.line.words ++ ts; piped = l.line.piped } }

-- the commands of a cut after a pipe, which is stray without a word before it, or after another pipe
abbrev pub with_pipe : Lined → Lined
with_pipe l = record {
  outer = None;
  line = record { words = l.line.words; piped = true };
  lines = l.lines;
  stray = if is_nil l.line.words
      then true else l.stray || l.line.piped;
}

-- whether a command is stray after one more pipe, with a word before it or not
want_or_pipe : (n s stray lacks more some : Bool) → stray ≡ (s || (lacks || more))
    → (if n then true else stray || some) ≡ (s || ((lacks || n) || (more || some)))
want_or_pipe true s stray lacks more some e = stray_for_want s lacks (more || some)
want_or_pipe false s stray lacks more some e = pipe_or_stray s stray lacks more some e

-- the words that a word ends as are some, whether it is a linker script or not
script_or_not : (script : Bool) (name : List ℕ) → is_nil (if script then script_option ∷ name ∷ [] else name ∷ []) ≡ false
script_or_not true name = refl
script_or_not false name = refl

-- a run that opens no word makes no piece
bare_pieces : (run atoms : List Atom) → list_any opens_word run ≡ false → word_of (record { atoms = run; following = atoms }) ≡ []
bare_pieces run atoms e = rw e refl

-- a run that opens a word makes one piece
word_pieces : (run atoms : List Atom) → list_any opens_word run ≡ true
    → word_of (record { atoms = run; following = atoms }) ≡ Word (record { atoms = run; following = atoms }) ∷ []
word_pieces run atoms e = rw e refl

-- the commands that have ended, with this one first
one_more : (line : CutLine) (found : List CutLine) → one_if line ++ filter_map named_line found ≡ filter_map named_line (line ∷ found)
one_more line found = by (named_line line)
  where
    by : (named : Option NamedLine) → option_to_list named ++ filter_map named_line found ≡ cons_option named (filter_map named_line found)
    by None = refl
    by (Some kept) = refl

-- for any answers F of the system, and any C that a text is run for
module _ (F : Facts) (C : Context) where
  -- what is kept of a command (`LineKept`) is kept after part of a word, which makes a pipe before it stray
  stands_part : (ps : List Piece) (s : Bool) (l : Lined) → LineKept F C ps s l
      → LineKept F C (ps ++ Part ∷ []) s (record l { stray = l.stray || l.line.piped })
  stands_part ps s l st = record {
    outside = st.outside;
    line = part_line F C ps ∙ st.line;
    some = st.some ∙ sym (ap not (any_after is_end_of_word ps Part));
    piped = st.piped ∙ sym (any_after is_pipe ps Part);
    stray = ap (λ b. b || l.line.piped) st.stray ∙ ap (λ b. (s || is_stray ps) || b) st.piped
        ∙ or_assoc s (is_stray ps) (list_any is_pipe ps) ∙ ap (λ b. s || b) (sym (part_strays ps));
  }

  -- `LineKept` after a word that was found as these texts
  stands_word : (ps : List Piece) (s : Bool) (l : Lined) (w : Run) (ts : List (List ℕ)) → LineKept F C ps s l → texts F C w ≡ Is (Ok ts)
      → is_nil ts ≡ false
      → LineKept F C (ps ++ Word w ∷ []) s (with_texts l ts)
  stands_word ps s l w ts st is some = record {
    outside = st.outside;
    line = word_line F C ps w ∙ ap (λ (a : Answer CutLine). a >>- λ x. texts F C w >>- λ us. with_more x us) st.line
        ∙ ap (λ (a : Answer (List (List ℕ))). a >>- λ us. with_more l.line us) is;
    some = some_after l.line.words ts some ∙ sym (ap not (any_after is_end_of_word ps (Word w)));
    piped = st.piped ∙ sym (any_after is_pipe ps (Word w));
    stray = st.stray ∙ ap (λ b. s || b) (sym (word_strays ps w));
  }

  -- what is kept of a command (`LineKept`) is kept after a pipe too, which makes it a piped one
  stands_pipe : (ps : List Piece) (s : Bool) (l : Lined) → LineKept F C ps s l → LineKept F C (ps ++ Pipe ∷ []) s (with_pipe l)
  stands_pipe ps s l st = record {
    outside = refl;
    line = pipe_line F C ps ∙ ap (λ (a : Answer CutLine). a >>- λ x. as_piped x) st.line;
    some = st.some ∙ sym (ap not (any_after is_end_of_word ps Pipe));
    piped = sym (any_after is_pipe ps Pipe);
    stray = ap (λ b. if b then true else l.stray || l.line.piped) st.some
        ∙ ap (λ b. if not (list_any is_end_of_word ps) then true else l.stray || b) st.piped
        ∙ want_or_pipe (not (list_any is_end_of_word ps)) s l.stray (lacks_word ps) (has_more ps) (list_any is_pipe ps) st.stray
        ∙ ap (λ b. s || b) (sym (pipe_strays ps));
  }

  -- `LineKept` doesn't change where no piece is added
  stands_nil : (ps : List Piece) (s : Bool) (l : Lined) → LineKept F C ps s l → LineKept F C (ps ++ []) s l
  stands_nil ps s l st = subst (λ (p : List Piece). LineKept F C p s l) (sym (append-nil ps)) st

  -- `LineKept` after a run that is no word
  stands_bare : (ps : List Piece) (s : Bool) (l : Lined) (run atoms : List Atom) → list_any opens_word run ≡ false → LineKept F C ps s l
      → LineKept F C (ps ++ word_of (record { atoms = run; following = atoms })) s l
  stands_bare ps s l run atoms e st = subst (λ (p : List Piece). LineKept F C (ps ++ p) s l) (sym (bare_pieces run atoms e))
      (stands_nil ps s l st)

  -- `LineKept` after a run that is a word, which was found as this path
  stands_full : (ps : List Piece) (s : Bool) (c : Cut) (run atoms : List Atom) (name : List ℕ) → list_any opens_word run ≡ true
      → path F C (record { atoms = run; following = atoms }) ≡ Is (Ok name)
      → LineKept F C ps s (lined c) → LineKept F C (ps ++ word_of (record { atoms = run; following = atoms })) s
      (lined (with_word c (opened_by run) name))
  stands_full ps s c run atoms name e is st =
      subst (λ (p : List Piece). LineKept F C (ps ++ p) s (lined (with_word c (opened_by run) name))) (sym (word_pieces run atoms e))
      (stands_word ps s (lined c) (record { atoms = run; following = atoms })
      (if list_any is_script run then script_option ∷ name ∷ [] else name ∷ []) st
      (ap (λ (a : Answer (List ℕ)). a >>- λ n. Is (Ok (if list_any is_script run then script_option ∷ n ∷ [] else n ∷ []))) is)
      (script_or_not (list_any is_script run) name))

  -- of a cut at its end: these commands (`cs`), after those that had ended before, and the open command (`o`) are its own, and it has a
  -- stray pipe if they have
  abbrev Commanded : List (List Piece) → List Piece → Bool → List NamedLine → Cut → Type 0
  Commanded cs o s before d =
      (found : List CutLine) × (each (line_of F C) cs ≡ Is (Ok found)) × (d.lines ≡ before ++ filter_map named_line found)
      × (d.stray ≡ (s || (list_any is_stray cs || is_stray o))) × (line_of F C o ≡ Is (Ok d.line))

  -- a command that ends comes before those after it
  end_more : (ps : List Piece) (s : Bool) (line : CutLine) (before : List NamedLine) (cs : List (List Piece)) (o : List Piece) (d : Cut)
      → line_of F C ps ≡ Is (Ok line)
      → Commanded cs o (s || is_stray ps) (before ++ one_if line) d → Commanded (ps ∷ cs) o s before d
  end_more ps s line before cs o d is (found, all, kept, stray, last) = (
    line ∷ found,
    ap (λ (a : Answer CutLine). a >>- λ y. each (line_of F C) cs >>- λ ys. Is (Ok (y ∷ ys))) is
        ∙ ap (λ (a : Answer (List CutLine)). a >>- λ ys. Is (Ok (line ∷ ys))) all,
    kept ∙ append_assoc before (one_if line) (filter_map named_line found)
        ∙ ap (λ (ls : List NamedLine). before ++ ls) (one_more line found),
    stray ∙ or_assoc s (is_stray ps) (list_any is_stray cs || is_stray o)
        ∙ ap (λ b. s || b) (sym (or_assoc (is_stray ps) (list_any is_stray cs) (is_stray o))),
    last,
  )

  -- what is known of the commands after an atom (`Commanded`) depends on the commands of the cut before it alone
  goes_alike : (x c : Cut) (run atoms : List Atom) (ps : List Piece) (s : Bool) (d : Cut) → lined x ≡ lined c
      → (LineKept F C ps s (lined x) → Commanded (commands run ps atoms) (open_command run ps atoms) s x.lines d)
      → LineKept F C ps s (lined c)
      → Commanded (commands run ps atoms) (open_command run ps atoms) s c.lines d
  goes_alike x c run atoms ps s d same goes st =
      subst (λ (l : Lined). Commanded (commands run ps atoms) (open_command run ps atoms) s l.lines d) same
      (goes (subst (λ (l : Lined). LineKept F C ps s l) (sym same) st))

  -- a run that a pipe ends, with a word or without
  pipe_after : (c d : Cut) (run atoms : List Atom) (ps : List Piece) (s : Bool) → c.outer ≡ None
      → (LineKept F C ((ps ++ word_of (record { atoms = run; following = atoms })) ++ Pipe ∷ []) s (lined (pipe_ended c))
      → Commanded (commands run ps (Piped ∷ atoms)) (open_command run ps (Piped ∷ atoms)) s (pipe_ended c).lines d)
      → LineKept F C (ps ++ word_of (record { atoms = run; following = atoms })) s (lined c)
      → Commanded (commands run ps (Piped ∷ atoms)) (open_command run ps (Piped ∷ atoms)) s c.lines d
  pipe_after c d run atoms ps s outside goes st =
      subst (λ (l : Lined). Commanded (commands run ps (Piped ∷ atoms)) (open_command run ps (Piped ∷ atoms)) s l.lines d)
      (pipe_lined c c.outer outside)
      (goes (subst (λ (l : Lined). LineKept F C ((ps ++ word_of (record { atoms = run; following = atoms })) ++ Pipe ∷ []) s l)
      (sym (pipe_lined c c.outer outside))
      (stands_pipe (ps ++ word_of (record { atoms = run; following = atoms })) s (lined c) st)))

  -- a list of atoms that is cut gives the commands, stray pipes and open command that the definitions over the list give: over a `Course`,
  -- from any run on
  pub commanded : {run atoms : List Atom} {c d : Cut} → Course F C run c atoms d → (ps : List Piece) (s : Bool)
      → list_any begins_file atoms ≡ false → LineKept F C ps s (lined c)
      → Commanded (commands run ps atoms) (open_command run ps atoms) s c.lines d
  commanded (over {c = c}) ps s f st = ([], refl, sym (append-nil c.lines), st.stray, st.line)
  commanded (moves {c = c} (Put b) e rest) ps s f st = commanded rest (ps ++ Part ∷ []) s f (stands_part ps s (lined c) st)
  commanded (moves {c = c} Open e rest) ps s f st = commanded rest (ps ++ Part ∷ []) s f (stands_part ps s (lined c) st)
  commanded (moves Break e rest) ps s f st = absurd cc
  commanded (moves {run = run} {atoms = atoms} {c = c} {d = d} End e rest) ps s f st =
      end_more ps s c.line c.lines (commands (run ++ End ∷ []) [] atoms) (open_command (run ++ End ∷ []) [] atoms) d st.line
      (subst (λ (l : Lined). Commanded (commands (run ++ End ∷ []) [] atoms) (open_command (run ++ End ∷ []) [] atoms)
      (s || is_stray ps) l.lines d) (end_lined c c.outer st.outside)
      (commanded rest [] (s || is_stray ps) f
      (subst (λ (l : Lined). LineKept F C [] (s || is_stray ps) l) (sym (end_lined c c.outer st.outside))
      (record { outside = refl; line = refl; some = refl; piped = refl; stray = st.stray ∙ sym (or_none (s || is_stray ps)) }))))
  commanded (moves Piped e rest) ps s f st = absurd cc
  commanded (moves {c = c} (Marked mark) e rest) ps s f st = commanded rest (ps ++ Part ∷ []) s f (stands_part ps s (lined c) st)
  commanded (moves {c = c} Without e rest) ps s f st = commanded rest (ps ++ []) s f (stands_nil ps s (lined c) st)
  commanded (moves {c = c} From e rest) ps s f st = commanded rest (ps ++ []) s f (stands_nil ps s (lined c) st)
  commanded (moves {run = run} {atoms = atoms} {c = c} {d = d} To e rest) ps s f st =
      goes_alike (inside_done c.inside c) c (run ++ To ∷ []) atoms (ps ++ []) s d (inside_lined c c.inside) (commanded rest (ps ++ []) s f)
      (stands_nil ps s (lined c) st)
  commanded (moves FileFrom e rest) ps s f st = absurd cc
  commanded (moves {run = run} {atoms = atoms} {c = c} {d = d} FileTo e rest) ps s f st =
      goes_alike (file_done c) c (run ++ FileTo ∷ []) atoms (ps ++ []) s d (file_lined c c.outer st.outside) (commanded rest (ps ++ []) s f)
      (stands_nil ps s (lined c) st)
  commanded (breaks_bare {run = run} {atoms = atoms} {c = c} e rest) ps s f st =
      commanded rest (ps ++ word_of (record { atoms = run; following = atoms })) s f (stands_bare ps s (lined c) run atoms e st)
  commanded (breaks {run = run} {atoms = atoms} {c = c} name e is rest) ps s f st =
      commanded rest (ps ++ word_of (record { atoms = run; following = atoms })) s f (stands_full ps s c run atoms name e is st)
  commanded (pipes_bare {run = run} {atoms = atoms} {c = c} {d = d} e rest) ps s f st =
      pipe_after (bare c) d run atoms ps s st.outside (commanded rest
      ((ps ++ word_of (record { atoms = run; following = atoms })) ++ Pipe ∷ []) s f) (stands_bare ps s (lined c) run atoms e st)
  commanded (pipes {run = run} {atoms = atoms} {c = c} {d = d} name e is rest) ps s f st =
      pipe_after (with_word c (opened_by run) name) d run atoms ps s st.outside
      (commanded rest ((ps ++ word_of (record { atoms = run; following = atoms })) ++ Pipe ∷ []) s f)
      (stands_full ps s c run atoms name e is st)

  -- of a whole list: its commands, whether a pipe is stray, and the words of its last command
  pub commands_are : (atoms : List Atom) (c : Cut) → list_any begins_file atoms ≡ false → all_taken F C nothing_cut atoms ≡ Is (Ok c)
      → (lines F C atoms ≡ Is (Ok c.lines)) × (has_stray_pipe atoms ≡ c.stray) × (line_of F C (open_command [] [] atoms) ≡ Is (Ok c.line))
  commands_are atoms c f e = by (commanded (course F C [] nothing_cut atoms c refl e) [] false f
      (record { outside = refl; line = refl; some = refl; piped = refl; stray = refl }))
    where
      -- Plan: from what `Commanded` says of the whole list, field by field.
      by : Commanded (commands [] [] atoms) (open_command [] [] atoms) false [] c
          → (lines F C atoms ≡ Is (Ok c.lines)) × (has_stray_pipe atoms ≡ c.stray)
          × (line_of F C (open_command [] [] atoms) ≡ Is (Ok c.line))
      by (found, all, kept, stray, last) = (
        ap (λ (a : Answer (List CutLine)). a >>- λ ls. Is (Ok (filter_map named_line ls))) all
            ∙ ap (λ (ls : List NamedLine). Is (Ok ls)) (sym kept),
        sym stray,
        last,
      )

  -- a list of atoms without a file is cut into the commands that the definition says
  pub lines_are : (atoms : List Atom) (c : Cut) → list_any begins_file atoms ≡ false → all_taken F C nothing_cut atoms ≡ Is (Ok c)
      → lines F C atoms ≡ Is (Ok c.lines)
  lines_are atoms c f e = (commands_are atoms c f e).0

  -- a list of atoms without a file has a stray pipe in the cut exactly if the definition says so
  pub stray_is : (atoms : List Atom) (c : Cut) → list_any begins_file atoms ≡ false → all_taken F C nothing_cut atoms ≡ Is (Ok c)
      → has_stray_pipe atoms ≡ c.stray
  stray_is atoms c f e = (commands_are atoms c f e).1

  -- the words of a list's last command, as the definition has them
  abbrev last_words : List Atom → Answer (List (List ℕ))
  last_words atoms = line_of F C (open_command [] [] (atoms ++ Break ∷ [])) >>- λ line. Is (Ok line.words)

  -- a refused answer is no list of words, and nor is a missing one
  refused_words : {X : Type 0} (a : Answer (List (List ℕ))) (found : List (List ℕ)) (fault : MachineFault) → a ≡ Is (Err fault)
      → a ≡ Is (Ok found) → X
  refused_words a found fault is e = absurd cc

  -- a missing answer is no list of words
  no_words : {X : Type 0} (a : Answer (List (List ℕ))) (found : List (List ℕ)) → a ≡ Unasked → a ≡ Is (Ok found) → X
  no_words a found is e = absurd cc

  -- the words of a function's arguments are those of the last command, once a break has ended its last word
  pub arguments_are : (atoms : List Atom) (found : List (List ℕ)) → list_any begins_file atoms ≡ false
      → argument_words F C atoms ≡ Is (Ok found) → last_words atoms ≡ Is (Ok found)
  arguments_are atoms found f e = by (all_taken F C nothing_cut (atoms ++ Break ∷ [])) refl e
    where
      by : (x : Answer Cut) → all_taken F C nothing_cut (atoms ++ Break ∷ []) ≡ x → (x >>- λ c. Is (Ok c.line.words)) ≡ Is (Ok found)
          → last_words atoms ≡ Is (Ok found)
      by (Is (Ok c)) is w =
          ap (λ (a : Answer CutLine). a >>- λ line. Is (Ok line.words))
          (commands_are (atoms ++ Break ∷ []) c (any_after begins_file atoms Break ∙ f) is).2 ∙ w
      by (Is (Err fault)) is w = refused_words (Is (Err fault)) found fault refl w
      by Unasked is w = no_words Unasked found refl w
