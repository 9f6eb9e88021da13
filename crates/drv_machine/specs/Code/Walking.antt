use Rattle.drv_machine.specs.Atoms.{arguments, brace_step, choices_step, each_hit, found_step, has_value, items_step, judged, levels_left}
use Rattle.drv_machine.specs.Atoms.{matching, named_file, value_step}
use Rattle.drv_machine.specs.Code.ByKind.{labelled}
use Rattle.drv_machine.specs.Context.{Context, argument, names}
use Rattle.drv_machine.specs.Cutting.{Cut, file_begun, file_done, words_in_file}
use Rattle.drv_machine.specs.Code.Running.{Machine, run}
use Rattle.drv_machine.specs.Code.Standing.{PartAt, Stands}
use Rattle.drv_machine.specs.Working.{◌>>-◌, ◌>>=◌, ◌>>◌, Answer, Break, Levels, Step, To, most_open, nothing, opened, puts, word_of}
use Rattle.drv_machine.specs.declared.fault.MachineFault.TheVariants.{Memory}
use Rattle.drv_machine.specs.declared.fault.MachineFault.{MachineFault}
use Rattle.drv_machine.specs.declared.walk.Asking.{Asking}
use Rattle.drv_machine.specs.declared.walk.Each.{Each}
use Rattle.drv_machine.specs.declared.walk.Frame.{Frame}
use Rattle.drv_machine.specs.declared.walk.Opened.TheVariants.{Asks, Call, Failure, File, Hit, Inside, Text}
use Rattle.drv_machine.specs.declared.walk.Opened.{Opened}
use Rattle.drv_machine.specs.declared.walk.Rest.{Rest}
use Rattle.drv_machine.specs.declared.walk.Walk.{Walk}
use Rattle.drv_match.specs.Matching.{name_at}
use Rattle.drv_syntax.specs.Labels.{choice_nodes, inner_nodes, label_at, label_of, labels_of, nodes_of, test_label, test_nodes}
use Rattle.drv_syntax.specs.Parsed.{tree_of}
use Rattle.drv_syntax.specs.Stars.{has_star}
use Rattle.drv_syntax.specs.Tokens.{kind_of, tokens_of}
use Rattle.drv_syntax.specs.Tree.{Asked, Brace, Choices, Emit, HasSuffix, Items, Pattern, Span, Tests, more, no_choice, no_test, none}
use Rattle.drv_syntax.specs.declared.token.Token.{Token}
use Rattle.drv_syntax.specs.declared.token.TokenKind.TheVariants as kinds
use Rattle.drv_system.specs.Facts.{Facts}
use Rattle.drv_system.specs.Known.{Is}
use Rattle.std.specs.List.{range_with_len}
use Rattle.std.specs.Prelude.{◌≡◌, ◌⊎◌, ◌<◌, ◌+◌, ◌-◌, ◌++◌, Bool, Err, List, [], ◌∷◌, Ok, Option, None, Result, Some, drop, false, length}
use Rattle.std.specs.Prelude.{slice_get, true, ⊤, ℕ}

-- What is left of a walk over a text (this project's profile). For the clauses of the walk: turns.rt, walk.rt, and the files that open and
-- close parts (braces.rt, calling.rt, failing.rt, filing.rt, hits.rt, named.rt). `Left` joins the walk with Atoms. A new kind of open part
-- (`Opened` of walk.rt) has a line in `OpenedFits`, `back_of`, `text_around`, `hits_left` and `closing`.
-- Names: `C`: what the text is run for (switches, texts). `s`: the machine: what has been cut, and the world. `items`: the items of a part.
-- `kept`: what follows arguments: their function, and the test that it answers. `at`, `end`, `start`, `next`: places in the text's list of
-- parts. `F`: what is known of the outside. `run`: runs a step after what has been cut, in its world. `Stands`: these parts go from one
-- place of a text's flat list up to another. `tree_of`: the tree of a text. `puts`: puts these atoms. `items_step`: items one after
-- another, each counted before it is run.

-- other alternatives of a brace, which are passed over
abbrev pub Skips : List ℕ → ℕ → ℕ → Type 0
Skips text at end = (choices : Choices) × Stands text at (choice_nodes choices) end

-- the items that are left of an open part, with other alternatives to be passed over before each and after the last
abbrev pub Lies : List ℕ → ℕ → Items → ℕ → Type 0
Lies text at none end = Skips text at end
Lies text at (more span item items) end =
    (start : ℕ) × (next : ℕ) × Skips text at start × PartAt (tokens_of (tree_of text)) (labels_of (tree_of text)) start (kind_of item)
    (label_of item) next
    × Stands text (start + 1) (inner_nodes item) next × Lies text next items end

-- the value of %* in the innermost part: the rest of a switch's name, or nothing
abbrev pub star_of : Context → Option Rest → List ℕ
star_of C None = []
star_of C (Some rest) = drop rest.size (name_at (names C) rest.switch)

-- what follows arguments: the function that they are for; and where that answers a test, the test, those after it, and the
-- alternatives after its X
pub record Kept : Type 0 where
  pub name : List ℕ
  pub negated : Bool
  pub asked : Asked
  pub tests : Tests
  pub choices : Choices

-- a part that is open, the X that it is a working of or whose test it answers if it is one, what follows it if it is
-- arguments, and the items that are left of the part around it
pub record Around : Type 0 where
  pub frame : Frame
  pub pattern : Pattern
  pub items : Items
  pub kept : Kept
  pub rest : Items

-- nothing follows the end of a part but the items around it
abbrev pub nothing_kept : Kept
nothing_kept = record { name = []; negated = false; asked = HasSuffix []; tests = no_test; choices = no_choice }

-- an X that is run for each hit is in the text, with its test, and a hit of it is on the line
pub record HitFits (text : List ℕ) (C : Context) (each : Each) (switch : ℕ) (p : Pattern) (items : Items) : Type 0 where
  pub in_list : each.test < length (tokens_of (tree_of text))
  pub label_is : labelled (label_at (tree_of text) each.test) ≡ matching p
  pub stands : Stands text each.start (nodes_of items) each.end
  pub in_line : switch < length C.switches

-- a function item is at this place of the text, by its name
pub record CallFits (text : List ℕ) (at : ℕ) (kept : Kept) : Type 0 where
  pub in_list : at < length (tokens_of (tree_of text))
  pub name_is : (label_at (tree_of text) at).word ≡ kept.name

-- a test by a function is at its place of the text, and the tests, the X and the alternatives after it are at theirs
pub record AskFits (text : List ℕ) (asking : Asking) (items : Items) (kept : Kept) : Type 0 where
  pub in_list : asking.test < length (tokens_of (tree_of text))
  pub name_is : (label_at (tree_of text) asking.test).word ≡ kept.name
  pub label_is : label_at (tree_of text) asking.test ≡ test_label kept.negated kept.asked
  pub later : asking.test < asking.from
  pub own_is : asking.own ≡ has_star items
  pub tests_stand : Stands text asking.from (test_nodes kept.tests) asking.start
  pub items_stand : Stands text asking.start (nodes_of items) asking.next
  pub choices_stand : Stands text asking.next (choice_nodes kept.choices) asking.end

-- what a part was opened for is in this text
abbrev pub OpenedFits : List ℕ → Context → Opened → Pattern → Items → Kept → Type 0
OpenedFits text C (Hit each switch) p items kept = HitFits text C each switch p items
OpenedFits text C (Text around back) p items kept = ⊤
OpenedFits text C (Failure back) p items kept = ⊤
OpenedFits text C (File back) p items kept = ⊤
OpenedFits text C (Inside back) p items kept = ⊤
OpenedFits text C (Call at back outer) p items kept = CallFits text at kept
OpenedFits text C (Asks places outer) p items kept = AskFits text places.value items kept

-- where the part around an open part goes on
abbrev pub back_of : Opened → ℕ
back_of (Hit each switch) = each.end
back_of (Text around back) = back
back_of (Failure back) = back
back_of (File back) = back
back_of (Inside back) = back
back_of (Call at back outer) = back
back_of (Asks places outer) = places.value.end

-- the text of the part around an open part, which lies in this text
abbrev pub text_around : List ℕ → Opened → List ℕ
text_around text (Hit each switch) = text
text_around text (Text around back) = around.now
text_around text (Failure back) = text
text_around text (File back) = text
text_around text (Inside back) = text
text_around text (Call at back outer) = text
text_around text (Asks places outer) = text

-- an open part lies in this text: what it was opened for is there, and what is left of the part around it is too
pub record Fits (text : List ℕ) (C : Context) (a : Around) : Type 0 where
  pub opened : OpenedFits text C a.frame.opened a.pattern a.items a.kept
  pub following : Lies (text_around text a.frame.opened) (back_of a.frame.opened) a.rest a.frame.end

-- the open parts, the innermost first; the innermost lies in this text, and each other in the text of its own
abbrev pub Framed : List ℕ → Context → List Frame → List Around → Type 0
Framed text C frames [] = frames ≡ []
Framed text C frames (a ∷ others) =
    (outer : List Frame) × (frames ≡ outer ++ a.frame ∷ []) × Fits text C a × Framed (text_around text a.frame.opened) C outer others

-- how often the end of an open part may still open one
abbrev pub hits_left : ℕ → Opened → ℕ
hits_left size (Hit each switch) = size - switch
hits_left size (Text around back) = 1
hits_left size (Failure back) = 1
hits_left size (File back) = 1
hits_left size (Inside back) = 1
hits_left size (Call at back outer) = 1
hits_left size (Asks places outer) = size + 1 + (places.value.end - places.value.test)

-- how often the ends of all open parts may still open one, in a text of this size: it falls with each end, and so the walk ends
abbrev pub weight : ℕ → List Frame → ℕ
weight size [] = 0
weight size (f ∷ frames) = hits_left size f.opened + weight size frames

-- the words after this are those of the file of a %@
abbrev pub into_file : Machine → Machine
into_file s = record { cut = file_begun s.cut; world = record s.world { is_in_file = true } }

-- the words after this are the command's again
abbrev pub out_of_file : Machine → Machine
out_of_file s = record { cut = file_done s.cut; world = record s.world { is_in_file = false } }

-- for any answers F of the system, and any C that a text is run for
module _ (F : Facts) (C : Context) where
  -- X for the switches from a place on
  abbrev pub each_from : Pattern → Items → Levels → ℕ → Step (Unit {0})
  each_from p items levels i = each_hit F C p (λ rest inside. items_step F C items inside rest) levels
      (range_with_len i (length C.switches - i))

  -- X for a switch that is hit
  abbrev pub hit_step : Pattern → Items → Levels → ℕ → Step (Unit {0})
  hit_step p items levels i =
      opened levels (λ deeper inside. items_step F C items inside (drop (length (matching p).name) (name_at (names C) i))) >> puts
      (Break ∷ word_of (argument C i))

  -- X for a switch that is hit, and then for the switches after it
  abbrev pub from_hit : Pattern → Items → Levels → ℕ → Step (Unit {0})
  from_hit p items levels i = hit_step p items levels i >> each_from p items levels (i + 1)

  -- the next switch that is hit from a place on
  abbrev pub NextHit : Machine → Pattern → Items → Levels → ℕ → Option ℕ → Type 0
  NextHit s p items levels from None = run F C s (each_from p items levels from) ≡ Is (Ok (tt, s))
  NextHit s p items levels from (Some i) = run F C s (each_from p items levels from) ≡ run F C s (from_hit p items levels i)

  -- what may be opened in the parts around
  abbrev pub levels_in : List Around → Levels
  levels_in arounds = levels_left F C (most_open - length arounds)

  -- what the end of an X for a switch gives
  abbrev pub hit_end : Pattern → Items → Levels → ℕ → Step (Unit {0})
  hit_end p items levels i = puts (Break ∷ word_of (argument C i)) >> each_from p items levels (i + 1)

  -- arguments have been cut: their words, and the cut before them goes on
  abbrev pub back_at : Cut → Unit {0} × Machine → Answer (List (List ℕ) × Machine)
  back_at outer r = Is (Ok (r.1.cut.line.words, record { cut = outer; world = r.1.world }))

  -- the end of arguments, and what is done with their words after it
  abbrev pub after_arguments : {X : Type 0} → Cut → (List (List ℕ) → Step X) → Machine → Answer (X × Machine)
  after_arguments outer go s = (run F C s (puts (Break ∷ [])) >>- back_at outer) >>- λ r. run F C r.1 (go r.0)

  -- what a test by a function asks, whose arguments these items are
  abbrev pub arguments_of : Items → List ℕ → Levels → List ℕ → Step Bool
  arguments_of items name levels star = opened levels
      (λ deeper inside. arguments F C (items_step F C items inside star) >>= has_value F C name)

  -- what a test decides that was answered so: its X, or what follows it
  abbrev pub decided_on : Items → Kept → Levels → List ℕ → Bool → Step (Unit {0})
  decided_on items kept levels star holds = judged F C kept.negated kept.asked kept.tests levels star holds
      >>= found_step F C items kept.choices levels star

  -- a test by a function with these words, and what it decides
  abbrev pub asked_on : Items → Kept → Levels → List ℕ → List (List ℕ) → Step (Unit {0})
  asked_on items kept levels star args = has_value F C kept.name args >>= λ holds. decided_on items kept levels star holds

  -- a test by a function whose arguments these items are, and what it decides
  abbrev pub tested_on : Items → Items → Kept → Levels → List ℕ → Step (Unit {0})
  tested_on args items kept levels star =
      arguments_of args kept.name levels star >>= judged F C kept.negated kept.asked kept.tests levels star
      >>= found_step F C items kept.choices levels star

  -- the beginning of a %@ that makes a file
  abbrev pub file_from : Machine → Answer (Unit {0} × Machine)
  file_from s = run F C s (puts (Break ∷ [])) >>- λ r. Is (Ok (tt, into_file r.1))

  -- the end of a %@ that makes a file: its words are taken, and its name is put
  abbrev pub file_end : Machine → Answer (Unit {0} × Machine)
  file_end s = run F C s (puts (Break ∷ [])) >>- λ r. run F C (out_of_file r.1) (named_file F C (words_in_file r.1.cut))

  -- what the end of an open part gives
  abbrev pub closing : Levels → List ℕ → Opened → Pattern → Items → Kept → Machine → Answer (Unit {0} × Machine)
  closing levels star (Hit each switch) p items kept s = run F C s (hit_end p items levels switch)
  closing levels star (Text around back) p items kept s = run F C s nothing
  closing levels star (Failure back) p items kept s = run F C s (puts (Break ∷ To ∷ []))
  closing levels star (File back) p items kept s = file_end s
  closing levels star (Inside back) p items kept s = run F C s nothing
  closing levels star (Call at back outer) p items kept s = after_arguments outer.value (value_step F C kept.name) s
  closing levels star (Asks places outer) p items kept s = after_arguments outer.value (asked_on items kept levels star) s

  -- what follows the innermost open part
  abbrev pub ends : List Around → Machine → Answer (Unit {0} × Machine)
  ends [] s = Is (Ok (tt, s))
  ends (a ∷ others) s =
      closing (levels_in others) (star_of C a.frame.star) a.frame.opened a.pattern a.items a.kept s >>- λ r.
      run F C r.1 (items_step F C a.rest (levels_in others) (star_of C a.frame.star)) >>- λ q. ends others q.1

  -- what is left of the innermost part, and what follows it
  abbrev pub onward : Option Rest → Items → List Around → Machine → Answer (Unit {0} × Machine)
  onward star rest arounds s = run F C s (items_step F C rest (levels_in arounds) (star_of C star)) >>- λ r. ends arounds r.1

  -- what is left of a walk gives this
  pub record Left (text : List ℕ) (w : Walk) (s : Machine) (given : Answer (Unit {0} × Machine)) : Type 0 where
    pub rest : Items
    pub arounds : List Around
    pub lies : Lies text w.at rest w.end
    pub framed : Framed text C w.frames arounds
    pub same : onward w.star rest arounds s ≡ given

  -- a step, and then what is left from a place on, give this
  pub record Following (text : List ℕ) (w : Walk) (at : ℕ) (step : Levels → List ℕ → Step (Unit {0})) (s : Machine)
      (given : Answer (Unit {0} × Machine)) : Type 0 where
    pub rest : Items
    pub arounds : List Around
    pub lies : Lies text at rest w.end
    pub framed : Framed text C w.frames arounds
    pub same : (run F C s (step (levels_in arounds) (star_of C w.star)) >>- λ r. onward w.star rest arounds r.1) ≡ given

  -- what the end of an open part gives, and then what is left from a place on, give this
  pub record After (text : List ℕ) (w : Walk) (at : ℕ) (f : Levels → List ℕ → Machine → Answer (Unit {0} × Machine)) (s : Machine)
      (given : Answer (Unit {0} × Machine)) : Type 0 where
    pub rest : Items
    pub arounds : List Around
    pub lies : Lies text at rest w.end
    pub framed : Framed text C w.frames arounds
    pub same : (f (levels_in arounds) (star_of C w.star) s >>- λ r. onward w.star rest arounds r.1) ≡ given

  -- a part of the walk went well, or gave its refusal
  abbrev pub Went : List ℕ → Walk → Machine → Answer (Unit {0} × Machine) → Result (Unit {0}) MachineFault → Type 0
  Went text w s given (Ok u) = Left text w s given
  Went text w s given (Err fault) = (fault ≡ Memory) ⊎ (given ≡ Is (Err fault))

  -- a part was opened, and a step is in it before a place; or the refusal is given
  abbrev pub Reaches : List ℕ → Walk → ℕ → (Levels → List ℕ → Step (Unit {0})) → Machine → Answer (Unit {0} × Machine)
      → Result (Unit {0}) MachineFault → Type 0
  Reaches text w at step s given (Ok u) = Following text w at step s given
  Reaches text w at step s given (Err fault) = (fault ≡ Memory) ⊎ (given ≡ Is (Err fault))

  -- open parts were closed: an item is left, or the walk is at its end
  abbrev pub Settled : List ℕ → Walk → Machine → Answer (Unit {0} × Machine) → Result Bool MachineFault → Type 0
  Settled text w s given (Ok true) = Left text w s given
  Settled text w s given (Ok false) = given ≡ Is (Ok (tt, s))
  Settled text w s given (Err fault) = (fault ≡ Memory) ⊎ (given ≡ Is (Err fault))

-- the token at the place that is reached is no alternative
pub record AtItem (text : List ℕ) (w : Walk) : Type 0 where
  pub before_end : w.at < w.end
  pub no_alternative : (token : Token) → slice_get (tokens_of (tree_of text)) w.at ≡ Some token → token.kind ≡ kinds.Alternative → ⊥

-- items lie from the place that is reached to the end of the innermost part
pub record Lain (text : List ℕ) (w : Walk) : Type 0 where
  pub rest : Items
  pub lies : Lies text w.at rest w.end

-- the walk has open parts, and each fits its text
pub record HasFrames (C : Context) (text : List ℕ) (w : Walk) : Type 0 where
  pub arounds : List Around
  pub framed : Framed text C w.frames arounds

-- a brace that puts switches as the line has them
abbrev pub Emits : Brace → Type 0
Emits brace = (patterns : List (Span × Pattern)) × (brace ≡ Emit patterns)

-- a brace that means what these alternatives of a text mean
pub record Chooses (text : List ℕ) (start end : ℕ) (brace : Brace) : Type 0 where
  pub choices : Choices
  pub stands : Stands text start (choice_nodes choices) end
  pub same : (F : Facts) (C : Context) (s : Machine) (levels : Levels) (star : List ℕ)
      → run F C s (brace_step F C brace levels star) ≡ run F C s (choices_step F C choices levels star)
