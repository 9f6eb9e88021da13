use Rattle.drv_machine.specs.Atoms.{added, choices_step, emitted, first_true, judged, leaf_step, noted, switch_atoms, temp_step, truth}
use Rattle.drv_machine.specs.Context.{Context, names}
use Rattle.drv_machine.specs.Names.{is_word, language_of, suffix_of}
use Rattle.drv_machine.specs.Code.Running.{Machine, run}
use Rattle.drv_machine.specs.Code.Standing.{PartAt, Stands}
use Rattle.drv_machine.specs.Working.{◌>>=◌, Atom, Break, End, Levels, Piped, Step, bytes, change, give, look, nothing, puts, refuse}
use Rattle.drv_machine.specs.declared.asking.Judged.TheVariants as found
use Rattle.drv_machine.specs.declared.asking.Judged.{Judged}
use Rattle.drv_machine.specs.declared.fault.MachineFault.TheVariants as fault
use Rattle.drv_machine.specs.declared.fault.MachineFault.TheVariants.{Memory}
use Rattle.drv_machine.specs.declared.fault.MachineFault.{MachineFault}
use Rattle.drv_match.specs.Matching.{hidden_by, hits}
use Rattle.drv_match.specs.Pattern as switches
use Rattle.drv_syntax.specs.Labels.{Label, choice_nodes, label_at, labels_of, nodes_of, pattern_nodes, test_label, test_nodes}
use Rattle.drv_syntax.specs.Parsed.{tree_of}
use Rattle.drv_syntax.specs.Tokens.{tokens_of}
use Rattle.drv_syntax.specs.Tree.{Asked, Choices, HasResult, Items, Pattern, Span, Tests}
use Rattle.drv_syntax.specs.declared.token.TestKind.TheVariants as asks
use Rattle.drv_syntax.specs.declared.token.TestKind.{TestKind}
use Rattle.drv_syntax.specs.declared.token.TokenKind.TheVariants as kinds
use Rattle.drv_syntax.specs.declared.token.TokenKind.{TokenKind}
use Rattle.drv_system.specs.Facts.{Facts}
use Rattle.drv_system.specs.Known.{Is}
use Rattle.std.specs.List.{flat_map}
use Rattle.std.specs.Prelude.{◌≡◌, ◌⊎◌, ◌+◌, ◌<◌, ◌≤◌, Bool, List, [], ◌∷◌, ◌++◌, Option, None, Some, Result, Err, Ok, false, length}
use Rattle.std.specs.Prelude.{nat_lt, true, ⊤, ℕ}

-- What an item means, by its kind and its label (this project's profile). For the clauses of asking.rt, braces.rt, emitting.rt, hits.rt and
-- items.rt, which look at tokens; Atoms has the meaning by the tree. A change of a row there changes `kind_step` here.
-- Names: `Stands`: these parts go from one place of a text's flat list up to another. `run`: runs a step after what has been cut, in its
-- world. `first_true`: the first test that is true. `puts`: puts these atoms.

-- the pattern that a label names
abbrev pub labelled : Label → switches.Pattern
labelled label = record { name = label.word; star = label.starred }

-- the atoms of the switches at these places of the line
abbrev pub put_at : Facts → Context → List ℕ → List Atom
put_at F C places = flat_map (switch_atoms F C) places

-- what %< and %> do: they hide the switches that the label's pattern hits
abbrev pub hide_step : Context → Label → Step (Unit {0})
hide_step C label = change (λ w. record w { hidden = hidden_by (labelled label) (names C) w.hidden })

-- a test that asks for a switch
abbrev pub asks_switch : Label → Bool
asks_switch label = by label.asks
  where
    by : TestKind → Bool
    by asks.Switch = true
    by _ = false

-- what a test asks, its ! aside
abbrev pub asked_step : Context → Label → Step Bool
asked_step C label = by label.asks
  where
    by : TestKind → Step Bool
    by asks.Switch = look (λ w. nat_lt 0 (length (hits (names C) w.hidden (labelled label))))
    by asks.Suffix = give (is_word label.word (suffix_of C.input))
    by asks.Language = give (is_word label.word (language_of C.input))
    by asks.Result = give false  -- a function is answered after its arguments

-- what the braces of this kind mean, whose parts go from one place up to another
abbrev pub Means : Facts → Context → List ℕ → TokenKind → ℕ → ℕ → Levels → List ℕ → Step (Unit {0}) → Type 0
Means F C text kinds.Emit at end levels star inner =
    (patterns : List (Span × Pattern)) × Stands text at (pattern_nodes patterns) end
    × (inner ≡ (look (λ w. emitted F C patterns w.hidden) >>= puts))
Means F C text kinds.Choose at end levels star inner =
    (choices : Choices) × Stands text at (choice_nodes choices) end × (inner ≡ choices_step F C choices levels star)
Means F C text _ at end levels star inner = ⊤

-- the label is that of a test by a function
abbrev pub is_call : Label → Bool
is_call label = by label.asks
  where
    by : TestKind → Bool
    by asks.Result = true
    by _ = false

-- a test that is true, at a place, and the state after it
pub record TrueTest (F : Facts) (C : Context) (text : List ℕ) (s t : Machine) (at : ℕ) (step : Step (Option Asked)) : Type 0 where
  pub negated : Bool
  pub asked : Asked
  pub label_is : label_at (tree_of text) at ≡ test_label negated asked
  pub gives : run F C s step ≡ Is (Ok (Some asked, t))

-- a test by a function, at a place: s is the state before the first test, t before this one, and at `next` the tests after it begin
pub record AskedTest (F : Facts) (C : Context) (text : List ℕ) (end : ℕ) (s t : Machine) (at : ℕ) (tests : Tests) (levels : Levels)
    (star : List ℕ) : Type 0 where
  pub negated : Bool
  pub name : List ℕ
  pub arguments : Items
  pub others : Tests
  pub next : ℕ
  pub part : PartAt (tokens_of (tree_of text)) (labels_of (tree_of text)) at kinds.Test (test_label negated (HasResult name arguments)) next
  pub within : Stands text (at + 1) (nodes_of arguments) next
  pub following : Stands text next (test_nodes others) end
  pub gives : run F C s (first_true F C tests levels star)
      ≡ run F C t (truth F C (HasResult name arguments) levels star >>= judged F C negated (HasResult name arguments) others levels star)

-- what the code found of tests agrees with `first_true`: none is true, this one is, or a function must be asked first
abbrev pub Found : Facts → Context → List ℕ → ℕ → Machine → Machine → Result Judged MachineFault → Tests → Levels → List ℕ → Type 0
Found F C text end s t (Ok found.Neither) tests levels star = run F C s (first_true F C tests levels star) ≡ Is (Ok (None, t))
Found F C text end s t (Ok (found.True at)) tests levels star = TrueTest F C text s t at (first_true F C tests levels star)
Found F C text end s t (Ok (found.Asks at)) tests levels star = AskedTest F C text end s t at tests levels star
Found F C text end s t (Err fault) tests levels star = (fault ≡ Memory) ⊎ (run F C s (first_true F C tests levels star) ≡ Is (Err fault))

-- the test that was found is one of the tests from one place up to another, and a part of the list
abbrev pub Within : ℕ → ℕ → ℕ → Judged → Type 0
Within start end count found.Neither = ⊤
Within start end count (found.True at) = (start ≤ at) × (at < end) × (at < count)
Within start end count (found.Asks at) = (start ≤ at) × (at < end) × (at < count)

-- `star` is the value of %*, and `inner` what the braces mean, or the text of a name
abbrev pub kind_step : Facts → Context → TokenKind → Label → List ℕ → Step (Unit {0}) → Step (Unit {0})
kind_step F C kinds.Plain label star inner = bytes label.word
kind_step F C kinds.Escape label star inner = bytes label.word
kind_step F C kinds.Blank label star inner = puts (Break ∷ [])
kind_step F C kinds.Newline label star inner = puts (Break ∷ End ∷ [])
kind_step F C kinds.Pipe label star inner = puts (Piped ∷ [])
kind_step F C (kinds.Leaf leaf) label star inner = leaf_step F C leaf
kind_step F C kinds.Hide label star inner = hide_step C label
kind_step F C kinds.Emit label star inner = inner
kind_step F C kinds.Choose label star inner = inner
kind_step F C kinds.NamedText label star inner = inner
kind_step F C kinds.BuiltinText label star inner = inner
kind_step F C kinds.FailureFile label star inner = inner
kind_step F C kinds.Function label star inner = inner
kind_step F C kinds.ArgumentsFile label star inner = inner
kind_step F C kinds.Star label star inner = bytes star
kind_step F C (kinds.TempName kind) label star inner = temp_step F C kind label.word
kind_step F C kinds.Accumulate label star inner = change (λ w. record w { accumulated = added label.word w.accumulated })
kind_step F C kinds.UserError label star inner = refuse (fault.UserError label.word)
kind_step F C kinds.Notice label star inner = change (λ w. record w { notices = w.notices ++ noted label.word ∷ [] })
kind_step F C _ label star inner = nothing  -- no item
