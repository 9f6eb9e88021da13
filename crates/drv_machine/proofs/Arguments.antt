use Rattle.drv_machine.proofs.Laws.{run_then, then_same, then_then}
use Rattle.drv_machine.proofs.Onward.{items_opened, one_deeper}
use Rattle.drv_machine.specs.Atoms.{arguments, found_step, has_value, item_step, items_step, judged, levels_left, value_step, words_of}
use Rattle.drv_machine.specs.Context.{Context}
use Rattle.drv_machine.specs.Cutting.{Cut, all_taken, nothing_cut}
use Rattle.drv_machine.specs.Code.Running.{Machine, done, run}
use Rattle.drv_machine.specs.Code.Standing.{Stands}
use Rattle.drv_machine.specs.Code.Walking.{Around, Following, Kept, Left, OpenedFits, arguments_of, asked_on, back_at, back_of}
use Rattle.drv_machine.specs.Code.Walking.{after_arguments, closing, ends, levels_in, nothing_kept, onward, star_of, text_around}
use Rattle.drv_machine.specs.Working.{◌>>-◌, ◌>>=◌, ◌>>◌, Answer, Break, Goes, Levels, Refuses, Step, Waits, Worked, follow, most_open}
use Rattle.drv_machine.specs.Working.{needs, puts}
use Rattle.drv_machine.specs.declared.fault.MachineFault.TheVariants.{Memory}
use Rattle.drv_machine.specs.declared.fault.MachineFault.{MachineFault}
use Rattle.drv_machine.specs.declared.walk.Opened.{Opened}
use Rattle.drv_machine.specs.declared.walk.Walk.{Walk}
use Rattle.drv_syntax.specs.Labels.{nodes_of}
use Rattle.drv_syntax.specs.Tree as tree
use Rattle.drv_syntax.specs.Tree.{Items}
use Rattle.drv_system.specs.Facts.{Facts}
use Rattle.drv_system.specs.Known.{Is, Unasked}
use Rattle.std.proofs.Common.{◌≡◌, ◌⊎◌, ◌<◌, ◌+◌, ◌-◌, ◌++◌, ◌∙◌, Err, List, [], ◌∷◌, Ok, ap, false, inl, inr, length, refl, sym, ℕ}

-- For calls of functions in a text (calling.rt): the arguments are cut by the law of a text, in a cut of their own (`aside`), while the cut
-- around them waits in `outer`. `after_arguments` is their end: their words, and then what they are for.
-- Names: `C`: what the text is run for (switches, texts). `F`: what is known of the outside. `s`, `t`, `u`: the machine (what has been cut,
-- and the world) before, between and after steps. `w`, `v`: the walk over the text, before and after (its place and open parts). `kept`:
-- what follows arguments: their function, and the test that it answers. `end`, `start`, `next`: places in the text's list of parts. `X`,
-- `Y`: any type. `items`: the items of a part. `levels`: what items mean after each part that may still be opened. `run`: runs a step after
-- what has been cut, in its world. `star_of`: the value of %* in the innermost part. `back_at`: arguments have been cut. `levels_in`: what
-- may be opened in the parts around. `puts`: puts these atoms. `run_then`: a step and then another, which looks at its value. `arguments`:
-- the words that a step makes as arguments. `found_step`: an X by what was found of its tests, and the alternatives after it. `judged`: a
-- test that was answered. `levels_left`: what items mean where so many parts may still be opened, the next one first.

-- for any answers F of the system, and any C that a text is run for
module _ (F : Facts) (C : Context) where
  -- the definition cuts the arguments from nothing and keeps the cut around them: so does the code, with a break at their end
  arguments_done : (s : Machine) (work : Worked (Unit {0}))
      → done F C s.cut (words_of F C s.world work) ≡ (done F C nothing_cut (follow work (λ u. puts (Break ∷ []))) >>- back_at F C s.cut)
  arguments_done s (Goes atoms u v) = by (all_taken F C nothing_cut (atoms ++ Break ∷ []))
    where
      by : (x : Answer Cut) → done F C s.cut (needs (x >>- λ c. Is (Ok c.line.words)) v)
          ≡ ((x >>- λ d. Is (Ok (tt, record { cut = d; world = v }))) >>- back_at F C s.cut)
      by (Is (Ok c)) = refl
      by (Is (Err fault)) = refl
      by Unasked = refl
  arguments_done s (Refuses atoms fault) = by (all_taken F C nothing_cut atoms)
    where
      by : (x : Answer Cut) → done F C {X = List (List ℕ)} s.cut (needs (x >>- λ c. Is (Err fault)) s.world)
          ≡ ((x >>- λ d. Is (Err fault)) >>- back_at F C s.cut)
      by (Is (Ok c)) = refl
      by (Is (Err other)) = refl
      by Unasked = refl
  arguments_done s (Waits atoms) = by (all_taken F C nothing_cut atoms)
    where
      by : (x : Answer Cut) → done F C {X = List (List ℕ)} s.cut (needs (x >>- λ c. Unasked) s.world)
          ≡ ((x >>- λ d. Unasked) >>- back_at F C s.cut)
      by (Is (Ok c)) = refl
      by (Is (Err other)) = refl
      by Unasked = refl

  -- the state with nothing cut, while arguments are processed
  abbrev pub aside : Machine → Machine
  aside s = record s { cut = nothing_cut }

  -- a step whose atoms are arguments is processed with nothing cut, and the cut around it is put back after their end
  arguments_run : (s : Machine) (step : Step (Unit {0}))
      → run F C s (arguments F C step) ≡ (run F C (aside s) (step >> puts (Break ∷ [])) >>- back_at F C s.cut)
  arguments_run s step = arguments_done s (step s.world)

  -- a step for arguments, then what is done with their words (`go`), then what follows (`k`): worked with nothing cut up to the end of the
  -- arguments
  pub arguments_then : {X Y : Type 0} (s : Machine) (inner : Step (Unit {0})) (go : List (List ℕ) → Step X) (k : X × Machine → Answer Y)
      → (run F C s (arguments F C inner >>= go) >>- k) ≡ (run F C (aside s) inner >>- λ r. after_arguments F C s.cut go r.1 >>- k)
  arguments_then s inner go k =
      ap (λ x. x >>- k) (run_then F C s (arguments F C inner) go)
      ∙ ap (λ x. (x >>- λ r. run F C r.1 (go r.0)) >>- k) (arguments_run s inner)
      ∙ ap (λ x. ((x >>- back_at F C s.cut) >>- λ r. run F C r.1 (go r.0)) >>- k) (run_then F C (aside s) inner (λ u. puts (Break ∷ [])))
      ∙ ap (λ x. (x >>- λ r. run F C r.1 (go r.0)) >>- k)
      (then_then (run F C (aside s) inner) (λ r. run F C r.1 (puts (Break ∷ []))) (back_at F C s.cut))
      ∙ ap (λ x. x >>- k) (then_then (run F C (aside s) inner) (λ r. run F C r.1 (puts (Break ∷ [])) >>- back_at F C s.cut)
      (λ r. run F C r.1 (go r.0)))
      ∙ then_then (run F C (aside s) inner) (λ r. (run F C r.1 (puts (Break ∷ [])) >>- back_at F C s.cut) >>- λ q. run F C q.1 (go q.0)) k

  -- at the end of arguments the code ends the last word, takes the words, and puts the cut around them back
  pub after_is : {X : Type 0} (outer : Cut) (go : List (List ℕ) → Step X) (s t u : Machine)
      → run F C s (puts (Break ∷ [])) ≡ Is (Ok (tt, t)) → u ≡ record t { cut = outer }
      → run F C u (go t.cut.line.words) ≡ after_arguments F C outer go s
  after_is outer go s t u went is =
      ap (λ (m : Machine). run F C m (go t.cut.line.words)) is
      ∙ sym (ap (λ x. (x >>- back_at F C outer) >>- λ r. run F C r.1 (go r.0)) went)

  -- where the end of the last word is refused, so is the call
  pub after_fails : {X : Type 0} (outer : Cut) (go : List (List ℕ) → Step X) (s : Machine) (fault : MachineFault)
      → (fault ≡ Memory) ⊎ (run F C s (puts (Break ∷ [])) ≡ Is (Err fault))
      → (fault ≡ Memory) ⊎ (after_arguments F C outer go s ≡ Is (Err fault))
  after_fails outer go s fault (inl memory) = inl memory
  after_fails outer go s fault (inr e) = inr (ap (λ x. (x >>- back_at F C outer) >>- λ r. run F C r.1 (go r.0)) e)

  -- what is made of the function's value may follow outside
  pub after_then : {X Y : Type 0} (outer : Cut) (go : List (List ℕ) → Step X) (f : X → Step Y) (s : Machine)
      → after_arguments F C outer (λ args. go args >>= f) s ≡ (after_arguments F C outer go s >>- λ r. run F C r.1 (f r.0))
  after_then outer go f s = by (run F C s (puts (Break ∷ [])) >>- back_at F C outer)
    where
      by : (x : Answer (List (List ℕ) × Machine)) → (x >>- λ r. run F C r.1 (go r.0 >>= f))
          ≡ ((x >>- λ r. run F C r.1 (go r.0)) >>- λ r. run F C r.1 (f r.0))
      by (Is (Ok r)) = run_then F C r.1 (go r.0) f
      by (Is (Err fault)) = refl
      by Unasked = refl

-- an item calls a function: its arguments are opened, as the part of the frame that the code makes
module _ (F : Facts) (C : Context) (text : List ℕ) (w : Walk) (s : Machine) (next : ℕ) (name : List ℕ) (items : Items)
    (given : Answer (Unit {0} × Machine))
    (b : Following F C text w next (λ levels star. item_step F C (tree.Function name items) levels star) s given) where
  -- what follows the item in the whole walk
  abbrev k : Unit {0} × Machine → Answer (Unit {0} × Machine)
  k r = onward F C w.star b.rest b.arounds r.1

  -- what the arguments of the item's function mean
  abbrev inner : Levels → Step (Unit {0})
  inner inside = items_step F C items inside (star_of C w.star)

  -- what follows the arguments of an item: the function's name, and no test
  abbrev kept : Kept
  kept = record nothing_kept { name = name }

  -- of the frame o only these properties are used
  module _ (o : Opened) (fits : OpenedFits text C o (tree.pattern [] false) tree.none kept) (around_is : text_around text o ≡ text)
      (back_is : back_of o ≡ next)
      (closes : (levels : Levels) (star : List ℕ) (r : Machine)
      → closing F C levels star o (tree.pattern [] false) tree.none kept r ≡ after_arguments F C s.cut (value_step F C name) r) where
    -- the part that is opened for the arguments: its frame, and what is left of the item's part
    abbrev around : Around
    around = record {
      frame = record { opened = o; end = w.end; star = w.star };
      pattern = tree.pattern [] false;
      items = tree.none;
      kept =
          kept;
      rest = b.rest;
    }

    -- the call's value, and then what follows it, is what follows the part
    ends_as : (x : Answer (Unit {0} × Machine)) → (x >>- λ r. ends F C (around ∷ b.arounds) r.1)
        ≡ (x >>- λ r. after_arguments F C s.cut (value_step F C name) r.1 >>- k)
    ends_as (Is (Ok r)) = ap (λ a. a >>- k) (closes (levels_in F C b.arounds) (star_of C w.star) r.1)
    ends_as (Is (Err fault)) = refl
    ends_as Unasked = refl

    -- the walk enters the arguments, with nothing cut
    pub call_opened : length w.frames < 64 → (start : ℕ) → Stands text start (nodes_of items) next → (v : Walk) → v.at ≡ start
        → v.end ≡ next → v.star ≡ w.star → v.frames ≡ w.frames ++ record { opened = o; end = w.end; star = w.star } ∷ []
        → Left F C text v (aside F C s) given
    call_opened h start stands v at_is end_is star_is frames_is =
        items_opened F C text w s given next _ b text o (tree.pattern [] false) tree.none kept fits around_is back_is v frames_is w.star
        star_is (aside F C s) items start next stands at_is end_is
        (ends_as (run F C (aside F C s) (inner (levels_left F C (most_open - (length b.arounds + 1)))))
        ∙ sym (arguments_then F C s (inner (levels_left F C (most_open - (length b.arounds + 1)))) (value_step F C name) k)
        ∙ sym (ap (λ levels. run F C s (item_step F C (tree.Function name items) levels (star_of C w.star)) >>- k)
        (one_deeper F C text w s given next _ b h)) ∙ b.same)

-- the arguments of a function that a test asks are opened
module _ (F : Facts) (C : Context) where
  -- steps one after another may be joined from the left or from the right
  assoc_run : {X Y Z : Type 0} (s : Machine) (first : Step X) (second : X → Step Y) (third : Y → Step Z)
      → run F C s ((first >>= second) >>= third) ≡ run F C s (first >>= λ x. second x >>= third)
  assoc_run s first second third =
      run_then F C s (first >>= second) third ∙ ap (λ x. x >>- λ r. run F C r.1 (third r.0)) (run_then F C s first second)
      ∙ then_then (run F C s first) (λ r. run F C r.1 (second r.0)) (λ r. run F C r.1 (third r.0))
      ∙ then_same (run F C s first) (λ r. run F C r.1 (second r.0) >>- λ q. run F C q.1 (third q.0))
      (λ r. run F C r.1 (second r.0 >>= third))
      (λ r. sym (run_then F C r.1 (second r.0) third))
      ∙ sym (run_then F C s first (λ x. second x >>= third))

-- a test calls a function: its arguments are opened, as the part of the frame that the code makes
module _ (F : Facts) (C : Context) (text : List ℕ) (w : Walk) (s : Machine) (end : ℕ) (items inner_items : Items) (kept : Kept)
    (given : Answer (Unit {0} × Machine))
    (b : Following F C text w end (λ levels star. arguments_of F C inner_items kept.name levels star
    >>= judged F C kept.negated kept.asked kept.tests levels star >>= found_step F C items kept.choices levels star) s given) where
  -- what follows the test's brace in the whole walk
  abbrev ask_k : Unit {0} × Machine → Answer (Unit {0} × Machine)
  ask_k r = onward F C w.star b.rest b.arounds r.1

  -- what the arguments of the test's function mean
  abbrev asked_inside : Levels → Step (Unit {0})
  asked_inside inside = items_step F C inner_items inside (star_of C w.star)

  -- the whole test, where these parts may still be opened
  abbrev asked_whole : Levels → Step (Unit {0})
  asked_whole levels =
      arguments_of F C inner_items kept.name levels (star_of C w.star)
      >>= judged F C kept.negated kept.asked kept.tests (levels_in F C b.arounds) (star_of C w.star)
      >>= found_step F C items kept.choices (levels_in F C b.arounds) (star_of C w.star)

  -- what the words of the arguments decide: whether the test is true, and so its X or what follows it
  abbrev on_words : List (List ℕ) → Step (Unit {0})
  on_words args = asked_on F C items kept (levels_in F C b.arounds) (star_of C w.star) args

  -- of the frame o only these properties are used
  module _ (o : Opened) (fits : OpenedFits text C o (tree.pattern [] false) items kept) (around_is : text_around text o ≡ text)
      (back_is : back_of o ≡ end)
      (closes : (r : Machine) → closing F C (levels_in F C b.arounds) (star_of C w.star) o (tree.pattern [] false) items kept r
      ≡ after_arguments F C s.cut on_words r) where
    -- the part that is opened for the arguments of a test
    abbrev ask_around : Around
    ask_around = record {
      frame = record { opened = o; end = w.end; star = w.star };
      pattern = tree.pattern [] false;
      items = items;
      kept =
          kept;
      rest = b.rest;
    }

    -- the test's decision, and then what follows it, is what follows the part
    ask_ends : (x : Answer (Unit {0} × Machine)) → (x >>- λ r. ends F C (ask_around ∷ b.arounds) r.1)
        ≡ (x >>- λ r. after_arguments F C s.cut on_words r.1 >>- ask_k)
    ask_ends (Is (Ok r)) = ap (λ a. a >>- ask_k) (closes r.1)
    ask_ends (Is (Err fault)) = refl
    ask_ends Unasked = refl

    -- the steps of a test joined from the right, as the frame has them
    ask_right : (step : Step (Unit {0}))
        → run F C s (arguments F C step >>= has_value F C kept.name
        >>= judged F C kept.negated kept.asked kept.tests (levels_in F C b.arounds) (star_of C w.star)
        >>= found_step F C items kept.choices (levels_in F C b.arounds) (star_of C w.star))
        ≡ run F C s (arguments F C step >>= on_words)
    ask_right step =
        assoc_run F C s (arguments F C step >>= has_value F C kept.name)
        (judged F C kept.negated kept.asked kept.tests (levels_in F C b.arounds) (star_of C w.star))
        (found_step F C items kept.choices (levels_in F C b.arounds) (star_of C w.star))
        ∙ assoc_run F C s (arguments F C step) (has_value F C kept.name)
        (λ holds. judged F C kept.negated kept.asked kept.tests (levels_in F C b.arounds) (star_of C w.star) holds
        >>= found_step F C items kept.choices (levels_in F C b.arounds) (star_of C w.star))

    -- the walk enters the arguments of a test, with nothing cut
    pub ask_opened : length w.frames < 64 → (start next : ℕ) → Stands text start (nodes_of inner_items) next → (v : Walk) → v.at ≡ start
        → v.end ≡ next → v.star ≡ w.star → v.frames ≡ w.frames ++ record { opened = o; end = w.end; star = w.star } ∷ []
        → Left F C text v (aside F C s) given
    ask_opened h start next stands v at_is end_is star_is frames_is =
        items_opened F C text w s given end _ b text o (tree.pattern [] false) items kept fits around_is back_is v frames_is w.star star_is
        (aside F C s) inner_items start next stands at_is end_is
        (ask_ends (run F C (aside F C s) (asked_inside (levels_left F C (most_open - (length b.arounds + 1)))))
        ∙ sym (arguments_then F C s (asked_inside (levels_left F C (most_open - (length b.arounds + 1)))) on_words ask_k)
        ∙ sym (ap (λ x. x >>- ask_k) (ask_right (asked_inside (levels_left F C (most_open - (length b.arounds + 1))))))
        ∙ sym (ap (λ levels. run F C s (asked_whole levels) >>- ask_k) (one_deeper F C text w s given end _ b h)) ∙ b.same)
