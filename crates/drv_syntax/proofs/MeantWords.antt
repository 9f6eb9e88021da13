use Rattle.drv_words.specs.Bytes as ascii
use Rattle.drv_syntax.proofs.Leads.{same, differs, le_true}
use Rattle.drv_syntax.proofs.Meant.{Meant, UpTo, choose, left, meant_byte, meant_ends, meant_stops, meant_took, up_byte, up_more, one_more}
use Rattle.drv_syntax.proofs.Meant.{Unfit, meant_then, meant_within, RefusesAt, meant_if, up_to}
use Rattle.drv_syntax.proofs.Swaps.{any, filled, run_moved, swaps_end, swaps_front}
use Rattle.drv_syntax.specs.Bytes.{is_function, is_function_front, is_white, is_word, is_name_byte, is_option, is_suffix}
use Rattle.drv_syntax.specs.Contexts.{InArguments, Kind, ListContext, Top, in_arguments, is_end, is_said}
use Rattle.drv_syntax.specs.Descent as d
use Rattle.drv_syntax.specs.Descent.{Ends, Read, Run, Stops, Took, Lists, then_read}
use Rattle.drv_syntax.specs.Directives.{said}
use Rattle.drv_syntax.specs.Fronts as cuts
use Rattle.drv_syntax.specs.Fronts.{RunsOut, AreFrontItems, CutsCall, CutsDirective}
use Rattle.drv_syntax.specs.Refusals as r
use Rattle.drv_syntax.specs.Refusals.{Empty, IsNoFunction, not_a_front, not_a_name, Reaches, Breaks, Due, ReachesIn}
use Rattle.drv_syntax.specs.Rest.{Left, past_white, after, past_byte}
use Rattle.drv_syntax.specs.Spelling as s
use Rattle.drv_syntax.specs.Spelling.{AreSpaces, At, IsPattern, IsQuoted, IsRun, AreItems, IsCall, IsDirective}
use Rattle.drv_syntax.specs.Tree.{Pattern, Items, Hide, Item, TempName}
use Rattle.drv_syntax.specs.declared.directives.Directive.TheVariants.{WithCall, WithName, WithOption, WithPattern, WithSaying, WithSuffix}
use Rattle.drv_syntax.specs.declared.directives.Directive.{Directive}
use Rattle.drv_syntax.specs.declared.directives.SayKind.{SayKind}
use Rattle.drv_syntax.specs.declared.fault.SyntaxFault.TheVariants.{EmptyTest, UnknownFunction, BadDirective}
use Rattle.drv_syntax.specs.declared.fault.SyntaxFault.{SyntaxFault}
use Rattle.drv_syntax.specs.declared.token.TempKind.{TempKind}
use Rattle.std.proofs.Common.{append_assoc, arith, drop, length, refl, subst, suc, sym, take, ℕ, ◌≤◌, zero, ◌≡◌, ◌∙◌, ◌+◌, ◌++◌, Bool}
use Rattle.std.proofs.Common.{false, true, if◌then◌else◌, List, [], ◌∷◌, None, Option, Some, ap, append-nil}
use Rattle.std.proofs.lemmas.Bool.Decides.{nat_tests}
use Rattle.std.proofs.lemmas.List.{length-drop, length-take-le, take-append-drop}
use Rattle.std.specs.List.{prefix_len}
use Rattle.std.specs.Prelude.{◌==◌, ◌&&◌, nat_le}

-- Runs of bytes, words with escapes, patterns and names of functions: what Descent makes of them is what the grammar says. Descent is the
-- grammar as functions (specs/Descent). The grammar itself has cases (specs/Spelling, Fronts, Refusals).
-- Names: `size`: the length of the whole text. `b`: a byte. `t`, `u`, `q`: what is left of the text, from step to step. `f`: a class of
-- bytes. `at`: the place of the directive's `%`. `k`: a place in the text. `rest`: what follows in the text. `c`: where the list is, and
-- what is around it. `x`, `y`: a test's value, so that `by` can go by both cases. `left`: these bytes are left of the text, from this place
-- on. `is_function_front`: the bytes begin the name of a function, or are the whole of it. `same`: bytes that the test finds equal are
-- equal. `choose`: what holds of each of two. `meant_byte`: what a test of a byte chooses is meant. `At`: in a text of this size the rest
-- begins at this place. `IsQuoted`: the longest run of bytes of the class f and of escapes. `IsRun`: the longest run of bytes of the class
-- f, and what is left after it. `RunsOut`: bytes of the class f and escapes up to the end of the text. `Run`: a run of bytes and of
-- escapes. Numbers are bytes: 10 is a newline, 37 %, 40 (, 41 ), 42 *, 46 a period, 92 a backslash, 123 {, 125 }.

-- runs

-- the text begins with so many bytes that are the longest run of the class f
abbrev pub Ran : (ℕ → Bool) → List ℕ → ℕ → Type 0
Ran f text k = IsRun f text (take k text) (drop k text) × (length (take k text) ≡ k)

-- the longest front of bytes that f allows, as Descent counts it, is the longest run of them by the grammar
pub runs : (f : ℕ → Bool) (text : List ℕ) → Ran f text (prefix_len f text)
runs f [] = (s.run_ends s.at_end, refl)
runs f (b ∷ text) = choose (Ran f (b ∷ text)) (f b) (1 + prefix_len f text) 0
    (λ e. subst (Ran f (b ∷ text)) (one_more (prefix_len f text)) (longer e (runs f text))) (λ e. (s.run_ends (s.at_byte e), refl))
  where
    longer : f b ≡ true → Ran f text (prefix_len f text) → Ran f (b ∷ text) (suc (prefix_len f text))
    longer e m = (s.run_goes e m.0, omega (arith, m.1))

-- a run and what is left after it are the text
pub run_size : {f : ℕ → Bool} {t run u : List ℕ} → IsRun f t run u → length run + length u ≡ length t
run_size (s.run_ends e) = omega arith
run_size (s.run_goes e i) = omega (arith, run_size i)

-- a run of white space is white space by the grammar
pub spaces : {t run u : List ℕ} → IsRun is_white t run u → AreSpaces t u
spaces (s.run_ends e) = s.no_space
spaces (s.run_goes e i) = s.space e (spaces i)

-- after the longest run of bytes of the class f none of them follows
pub run_stops : {f : ℕ → Bool} {t run u : List ℕ} → IsRun f t run u → s.Stops f u
run_stops (s.run_ends e) = e
run_stops (s.run_goes e i) = run_stops i

-- where f doesn't allow the first byte of a text, the test fails for this byte
pub first : {f : ℕ → Bool} {b : ℕ} {rest : List ℕ} → s.Stops f (b ∷ rest) → f b ≡ false
first (s.at_byte e) = e

-- after the longest run of bytes of the class f and escapes neither of them follows
pub quoted_stops : {f : ℕ → Bool} {t word u : List ℕ} → IsQuoted f t word u → s.Stops f u × s.Stops (λ b. b == ascii.backslash) u
quoted_stops s.quoted_end = (s.at_end, s.at_end)
quoted_stops (s.quoted_stop e g) = (s.at_byte g, s.at_byte e)
quoted_stops (s.quoted_escape i) = quoted_stops i
quoted_stops (s.quoted_byte e g i) = quoted_stops i

-- a run of bytes and escapes up to the end of the text runs out
pub runs_out : {f : ℕ → Bool} {t word : List ℕ} → IsQuoted f t word [] → RunsOut f t
runs_out s.quoted_end = cuts.out_end
runs_out (s.quoted_escape i) = cuts.out_escape (runs_out i)
runs_out (s.quoted_byte e g i) = cuts.out_byte e g (runs_out i)

-- a run of bytes of the class f and escapes is by Descent what the grammar says: a word and a rest, or a text that ends in an escape
abbrev pub Quotes : (ℕ → Bool) → ℕ → List ℕ → Option (List ℕ) → Left → Type 0
Quotes f size text None rest = RunsOut f text
Quotes f size text (Some word) rest = IsQuoted f text word rest.bytes × At size rest.at rest.bytes

-- one more byte, or escape, before a run is what the grammar says, if the run is
grown : {f : ℕ → Bool} {b : ℕ} (size : ℕ) {text whole : List ℕ} (w : Option (List ℕ)) (rest : Left)
    → ((word : List ℕ) → IsQuoted f text word rest.bytes → IsQuoted f whole (b ∷ word) rest.bytes) → (RunsOut f text → RunsOut f whole)
    → Quotes f size text w rest → Quotes f size whole (d.longer b w) rest
grown size None rest goes out m = out m
grown size (Some word) rest goes out m = (goes word m.0, m.1)

-- the longest run of bytes of the class f and escapes is what the grammar says
pub quotes : {size : ℕ} (f : ℕ → Bool) (n : ℕ) (text : List ℕ) → At size n text
    → Quotes f size text (d.quoted_at f n text).word (d.quoted_at f n text).rest
quotes f n [] place = (s.quoted_end, place)
quotes {size} f n (b ∷ []) place = choose (λ (run : Run). Quotes f size (b ∷ []) run.word run.rest) (b == ascii.backslash) _ _
    (λ e. rw (same b 92 e) cuts.out_backslash) (λ e. choose (λ (run : Run). Quotes f size (b ∷ []) run.word run.rest) (f b) _ _
    (λ g. (s.quoted_byte e g s.quoted_end, omega (arith, place))) (λ g. (s.quoted_stop e g, place)))
quotes {size} f n (b ∷ c ∷ text) place = choose (λ (run : Run). Quotes f size (b ∷ c ∷ text) run.word run.rest) (b == ascii.backslash) _ _
    (λ e. rw (same b 92 e) (grown size (d.quoted_at f (n + 2) text).word (d.quoted_at f (n + 2) text).rest (λ word i. s.quoted_escape i)
    (λ o. cuts.out_escape o) (quotes f (n + 2) text (omega (arith, place)))))
    (λ e. choose (λ (run : Run). Quotes f size (b ∷ c ∷ text) run.word run.rest) (f b) _ _
    (λ g. grown size (d.quoted_at f (n + 1) (c ∷ text)).word (d.quoted_at f (n + 1) (c ∷ text)).rest (λ word i. s.quoted_byte e g i)
    (λ o. cuts.out_byte e g o) (quotes f (n + 1) (c ∷ text) (omega (arith, place)))) (λ g. (s.quoted_stop e g, place)))

-- what goes on after a run of bytes and escapes is meant, if it is after each word, and where the text ends in an escape
pub meant_word : {X : Type 0} {size : ℕ} {Is : X → List ℕ → Type 0} {Cuts : Type 0} {Bad : ℕ → SyntaxFault → Type 0} (f : ℕ → Bool) (n : ℕ)
    (text : List ℕ) → At size n text → (hangs : Left → Read X) (goes : List ℕ → Left → Read X)
    → ((end : Left) → RunsOut f text → Meant size Is Cuts Bad (hangs end))
    → ((word : List ℕ) (rest : Left) → At size rest.at rest.bytes → IsQuoted f text word rest.bytes → Meant size Is Cuts Bad
    (goes word rest)) → Meant size Is Cuts Bad (d.by_word (d.quoted f (left n text)) hangs goes)
meant_word {X} {size} {Is} {Cuts} {Bad} f n text place hangs goes g h =
    by (d.quoted_at f n text).word (d.quoted_at f n text).rest (quotes f n text place)
  where
    by : (w : Option (List ℕ)) (rest : Left) → Quotes f size text w rest → Meant size Is Cuts Bad (d.word_then w rest hangs goes)
    by None rest o = g rest o
    by (Some word) rest m = h word rest m.1 m.0

-- patterns

-- no pattern begins with the first byte of the text, which has the place k
pub data PatternBad (size at : ℕ) : List ℕ → ℕ → SyntaxFault → Type 0 where
  no_pattern : {k b : ℕ} {text : List ℕ} → Empty b → At size k (b ∷ text) → PatternBad size at (b ∷ text) k (EmptyTest at)

-- a pattern in a directive whose % has the place `at` is what the grammar says
abbrev pub PatternMeant : ℕ → ℕ → List ℕ → Read Pattern → Type 0
PatternMeant size at text r = Meant size (λ p q. IsPattern text p q) (RunsOut is_word text) (PatternBad size at text) r

-- what follows the word of a pattern is what the grammar says: a star, another byte, or the end of the text
pattern_end_meant : {size : ℕ} (at n : ℕ) {text : List ℕ} (word rest : List ℕ) → At size n rest → IsQuoted is_word text word rest
    → PatternMeant size at text (d.pattern_end at word (left n rest))
pattern_end_meant at n [] [] place i = meant_ends (runs_out i)
pattern_end_meant at n (x ∷ word) [] place i = meant_took place (s.unstarred i s.at_end)
pattern_end_meant at n (x ∷ word) (b ∷ rest) place i =
    meant_byte b 42 (λ e. meant_took (omega (arith, place)) (s.starred (rw e at i))) (λ e. meant_took place (s.unstarred i (s.at_byte e)))
pattern_end_meant at n [] (b ∷ rest) place (s.quoted_stop e g) =
    meant_byte b 42 (λ h. meant_took (omega (arith, place)) (rw h (s.starred (s.quoted_stop refl refl))))
    (λ h. meant_stops (no_pattern (e, g, h) place))

-- a pattern, which is a word, a word with a star or a star alone, is what the grammar says
pub pattern_meant : {size : ℕ} (at n : ℕ) (text : List ℕ) → At size n text → PatternMeant size at text (d.pattern_at at (left n text))
pattern_meant at n text place = meant_word is_word n text place (λ end. Ends at) (λ word end. d.pattern_end at word end)
    (λ end o. meant_ends o) (λ word rest at_rest i. pattern_end_meant at rest.at word rest.bytes at_rest i)

-- names of functions

-- the text is up to the place k the name of no function
pub data NameBad (size at : ℕ) (text : List ℕ) : ℕ → SyntaxFault → Type 0 where
  name_bad : {k : ℕ} {last : List ℕ} → IsNoFunction last → UpTo size k text last → NameBad size at text k (UnknownFunction at)

-- a function's name and its parenthesis are what the grammar says
abbrev pub NameMeant : ℕ → ℕ → List ℕ → Read (List ℕ) → Type 0
NameMeant size at text r = Meant size (λ name q. (text ≡ name ++ ascii.opening_parenthesis ∷ q) × (is_function name ≡ true))
    (is_function_front text ≡ true) (NameBad size at text) r

-- so many bytes of a text go on with a function's name after this front of it, and no more
pub record Fronted (name text : List ℕ) (k : ℕ) : Type 0 where
  pub whole : take k text ++ drop k text ≡ text
  pub sized : k + length (drop k text) ≡ length text
  pub front : is_function_front (name ++ take k text) ≡ true
  pub stops : s.Stops (λ b. is_function_front ((name ++ take k text) ++ b ∷ [])) (drop k text)

-- as far as Descent goes on with a function's name, the text is a front of one
pub fronted : (name text : List ℕ) → is_function_front name ≡ true → Fronted name text (d.front_size name text)
fronted name [] h = record { whole = refl; sized = omega arith; front = ap is_function_front (append-nil name) ∙ h; stops = s.at_end }
fronted name (b ∷ text) h = choose (Fronted name (b ∷ text)) (is_function_front (name ++ b ∷ [])) (1 + d.front_size (name ++ b ∷ []) text) 0
    (λ e. subst (λ k. Fronted name (b ∷ text) k) (one_more (d.front_size (name ++ b ∷ []) text)) (more (fronted (name ++ b ∷ []) text e)))
    (λ e. record {
      whole = refl;
      sized = omega arith;
      front = ap is_function_front (append-nil name) ∙ h;
      stops = s.at_byte (ap (λ (t : List ℕ). is_function_front (t ++ b ∷ [])) (append-nil name) ∙ e);
    })
  where
    -- one byte more of the name
    more : {k : ℕ} → Fronted (name ++ b ∷ []) text k → Fronted name (b ∷ text) (suc k)
    more {k} m = record {
      whole = ap (λ (t : List ℕ). b ∷ t) m.whole;
      sized = omega (arith, m.sized);
      front = ap is_function_front (sym (append_assoc name (b ∷ []) (take k text))) ∙ m.front;
      stops = subst (λ (t : List ℕ). s.Stops (λ x. is_function_front (t ++ x ∷ [])) (drop k text))
          (append_assoc name (b ∷ []) (take k text)) m.stops;
    }

-- what follows the front of a function's name is what the grammar says
function_end_meant : {size : ℕ} (at n : ℕ) (name rest : List ℕ) → At size n rest → is_function_front name ≡ true
    → s.Stops (λ b. is_function_front (name ++ b ∷ [])) rest → NameMeant size at (name ++ rest) (d.function_end at name (left n rest))
function_end_meant at n name [] place h e = meant_ends (ap is_function_front (append-nil name) ∙ h)
function_end_meant {size} at n name (b ∷ rest) place h (s.at_byte e) = by (b == ascii.opening_parenthesis) (is_function name) refl refl
  where
    by : (x y : Bool) → (b == ascii.opening_parenthesis) ≡ x → is_function name ≡ y → NameMeant size at (name ++ b ∷ rest)
        (if x && y then Took name (left (n + 1) rest) else Stops n (UnknownFunction at))
    by true true f g = meant_took (omega (arith, place)) (ap (λ (c : ℕ). name ++ c ∷ rest) (same b 40 f), g)
    by true false f g = meant_stops (name_bad (not_a_name name h g) (up_more name (rw (same b 40 f) (up_byte place))))
    by false y f g = meant_stops (name_bad (not_a_front name b h e f) (up_more name (up_byte place)))

-- the name of a function with its parenthesis is what the grammar says
pub function_meant : {size : ℕ} (at n : ℕ) (text : List ℕ) → At size n text → NameMeant size at text (d.function at (left n text))
function_meant {size} at n text place =
    let m = fronted [] text refl in let k = d.front_size [] text in
    subst (λ (t : List ℕ). NameMeant size at t (d.function_end at (take k text) (left (n + k) (drop k text)))) m.whole
    (function_end_meant at (n + k) (take k text) (drop k text) (omega (arith, m.sized, place)) m.front m.stops)

-- what goes on after white space is meant, if it is where that white space ends
pub meant_white : {X : Type 0} {size : ℕ} {Is : X → List ℕ → Type 0} {Cuts : Type 0} {Bad : ℕ → SyntaxFault → Type 0} (goes : Left → Read X)
    (n : ℕ) (text : List ℕ) → At size n text
    → ((m : ℕ) (u : List ℕ) → At size m u → AreSpaces text u → s.Stops is_white u → Meant size Is Cuts Bad (goes (left m u)))
    → Meant size Is Cuts Bad (goes (past_white (left n text)))
meant_white goes n text place f =
    let k = prefix_len is_white text in let i = runs is_white text in
    f (n + k) (drop k text) (omega (arith, place, run_size i.0, i.1)) (spaces i.0) (run_stops i.0)

-- Lists of items as a part of a text, and the calls of functions that hold one: what Descent makes of them is what the grammar says.

-- the rest of a list of this kind: nothing after a whole text, or else the byte that ends the list
pub data Ended : Kind → ℕ → List ℕ → Type 0 where
  ended_top : {b : ℕ} → Ended Top b []
  ended_by : {kind : Kind} {b : ℕ} {rest : List ℕ} → is_end kind b ≡ true → Ended kind b (b ∷ rest)

-- nothing is left of a whole text
pub top_end : {b : ℕ} {q : List ℕ} → Ended Top b q → q ≡ []
top_end ended_top = refl
top_end (ended_by e) = differs (sym e)

-- a list leads to a byte that doesn't fit where something is due
abbrev pub ListBad : ℕ → ListContext → List ℕ → ℕ → SyntaxFault → Type 0
ListBad size c text = Unfit size (λ due last. Reaches size c text due last)

-- what Descent makes of a list with this context is what the grammar says
abbrev pub ListMeant : ListContext → ℕ → List ℕ → Read (Items × ℕ) → Type 0
ListMeant c size text r = Meant size (λ x q. AreItems size c text x.0 q × Ended c.kind x.1 q) (AreFrontItems size c text)
    (ListBad size c text) r

-- what these read as lists with this context is what the grammar says
abbrev pub Reads : ℕ → ListContext → Lists → Type 0
Reads size c lists = (n : ℕ) (text : List ℕ) → At size n text → ListMeant c size text (lists c (left n text))

-- the text is the call of a function, of whose name and arguments this is made
pub data CallIs {X : Type 0} (make : List ℕ → Items → X) (size : ℕ) (c : ListContext) (text : List ℕ) : X → List ℕ → Type 0 where
  call_is : {name : List ℕ} {items : Items} {q : List ℕ} → IsCall size c text name items q → CallIs make size c text (make name items) q

-- the text ends in a byte that doesn't fit in the name of a function, whose % has the place n, or in its arguments
pub data CallBad (c : ListContext) (n size : ℕ) : List ℕ → ℕ → SyntaxFault → Type 0 where
  no_function : {t : List ℕ} {k : ℕ} {fault : SyntaxFault} → NameBad size n t k fault → CallBad c n size t k fault
  in_list : {u : List ℕ} {k : ℕ} {fault : SyntaxFault} (name : List ℕ) → is_function name ≡ true → ListBad size (in_arguments c) u k fault
      → CallBad c n size (name ++ ascii.opening_parenthesis ∷ u) k fault

-- a call whose name and arguments are made into an item, or a test, in a list with the context c
module _ {X : Type 0} (make : List ℕ → Items → X) (c : ListContext) (inner : (c.levels == 0) ≡ false) (lists : Lists) (size : ℕ)
    (meets : Reads size (in_arguments c) lists) (at n : ℕ) where
  -- what Descent makes of a call is what the grammar says
  abbrev pub CallMeant : List ℕ → Read X → Type 0
  CallMeant text r = Meant size (λ x q. CallIs make size c text x q) (CutsCall size c text) (CallBad c n size text) r

  -- after the arguments of a call comes its parenthesis
  closed : (name : List ℕ) {u : List ℕ} (items : Items) (b m : ℕ) {q : List ℕ} → is_function name ≡ true
      → AreItems size (in_arguments c) u items q → Ended InArguments b q → At size m q
      → CallMeant (name ++ ascii.opening_parenthesis ∷ u) (Took (make name items) (after 1 (left m q)))
  closed name items b m is i (ended_by e) place = meant_took (omega (arith, place)) (call_is (s.call inner is (rw (same b 41 e) at i)))

  -- a function's name with its parenthesis and its arguments, in a list or in a test, are what the grammar says
  pub call_meant : (m : ℕ) (text : List ℕ) → At size m text → CallMeant text (d.call_as make lists c at n (left m text))
  call_meant m text place = meant_within at (meant_then
      (λ name rest. then_read (lists (in_arguments c) rest) (λ list end. Took (make name list.0) (after 1 end)))
      (function_meant n m text place)
      (λ name rest there i. rw i.0 (meant_then (λ list end. Took (make name list.0) (after 1 end)) (meets rest.at rest.bytes there)
      (λ list end last j. closed name list.0 list.1 end.at i.1 j.0 j.1 last)
      (λ o. cuts.in_function_arguments name inner i.1 o) (λ j fault o. in_list name i.1 o)))
      (λ o. cuts.in_function inner o) (λ j fault o. no_function o))

-- The directives that hold no list: what Descent makes of the text after their byte is what the grammar says. `DirMeant` says so of a
-- directive, whose % has the place `at`.

-- after the byte of a directive, whose % has the place `at`: a text ends in the byte that no longer fits
pub data Bursts (c : ListContext) (at size : ℕ) : Directive → List ℕ → ℕ → SyntaxFault → Type 0 where
  inside : {f : Directive} {t last : List ℕ} {due : Due} {k : ℕ} {fault : SyntaxFault} → ReachesIn size c at f t due last
      → RefusesAt size k due last fault → Bursts c at size f t k fault
  breaks : {f : Directive} {t last : List ℕ} {k : ℕ} → Breaks c f last → UpTo size k t last → Bursts c at size f t k (BadDirective at)
  hides : {t : List ℕ} {k : ℕ} {fault : SyntaxFault} → PatternBad size at t k fault → Bursts c at size WithPattern t k fault
  unknown : {t : List ℕ} {k : ℕ} {fault : SyntaxFault} → (c.levels == 0) ≡ false → NameBad size at t k fault
      → Bursts c at size WithCall t k fault

-- what Descent makes of the text after the byte of this directive is what the grammar says
abbrev pub DirMeant : ListContext → ℕ → Directive → ℕ → List ℕ → Read Item → Type 0
DirMeant c at f size text x = Meant size (λ item q. IsDirective size c f text item q) (CutsDirective size c f text)
    (Bursts c at size f text) x

-- a byte that ends a run in %x{ is the closing brace
closing : (b : ℕ) → is_option b ≡ false → b ≡ 125
closing b e = by (b == ascii.closing_brace) refl
  where
    by : (t : Bool) → (b == ascii.closing_brace) ≡ t → b ≡ 125
    by true g = same b 125 g
    by false g = differs (sym (ap (λ (t : Bool). if t then false else true) g) ∙ e)

-- a front of a run is a run
run_front : {f : ℕ → Bool} {t run u : List ℕ} (k : ℕ) → IsRun f t run u → k ≤ length run → IsRun f (take k t) (take k t) []
run_front zero i h = s.run_ends s.at_end
run_front (suc k) (s.run_ends e) h = absurd (omega (arith, h))
run_front (suc k) (s.run_goes e i) h = s.run_goes e (run_front k i (omega (arith, h)))

-- a directive that holds no list, whose % has the place `at`, in a list with the context c
module _ (c : ListContext) (at : ℕ) {size : ℕ} where
  -- without letters, a suffix is .o where %O follows, or else none, as the grammar says
  object_meant : (kind : TempKind) (n : ℕ) (text : List ℕ) → At size n text → s.Stops is_suffix text
      → DirMeant c at (WithSuffix kind) size text (d.suffix_object kind (left n text) text)
  object_meant kind n [] place e = meant_took place (s.temp_name s.suffix_none)
  object_meant kind n (b ∷ []) place (s.at_byte e) =
      meant_byte b 37 (λ h. rw h (meant_ends cuts.cut_suffix)) (λ h. meant_took place (s.temp_name (s.suffix_other e h)))
  object_meant kind n (b ∷ x ∷ text) place (s.at_byte e) = by (b == ascii.percent) (x == ascii.capital_o) refl refl
    where
      by : (y z : Bool) → (b == ascii.percent) ≡ y → (x == ascii.capital_o) ≡ z → DirMeant c at (WithSuffix kind) size (b ∷ x ∷ text)
          (if y && z then Took (TempName kind (46 ∷ 111 ∷ [])) (left (n + 2) text) else Took (TempName kind []) (left n (b ∷ x ∷ text)))
      by true true f g = meant_took (omega (arith, place)) (rw (same b 37 f, same x 79 g) (s.temp_name s.suffix_object))
      by true false f g = meant_took place (rw (same b 37 f) (s.temp_name (s.suffix_directive g)))
      by false z f g = meant_took place (s.temp_name (s.suffix_other e f))

  -- the suffix of %g, %u, %U, %| and %m is what the grammar says
  pub suffix_meant : (kind : TempKind) (n : ℕ) (text : List ℕ) → At size n text
      → DirMeant c at (WithSuffix kind) size text (d.suffix kind (left n text))
  suffix_meant kind n text place = by (prefix_len is_suffix text) text place (runs is_suffix text)
    where
      by : (k : ℕ) (t : List ℕ) → At size n t → Ran is_suffix t k → DirMeant c at (WithSuffix kind) size t (d.suffix_of kind k (left n t))
      by zero t p i = object_meant kind n t p (run_stops i.0)
      by (suc k) [] p i = absurd (omega (arith, i.1))
      by (suc k) (b ∷ t) p i = meant_byte (suc k) 0 (λ e. absurd (omega (arith, e)))
          (λ e. meant_took (omega (arith, p, i.1, run_size i.0)) (s.temp_name (s.suffix_run i.0)))

  -- %x{OPTION}, after its opening brace and its bytes, is what the grammar says
  option_end_meant : (n : ℕ) {text : List ℕ} (word rest : List ℕ) → At size n rest → IsQuoted is_option text word rest
      → DirMeant c at WithOption size (ascii.opening_brace ∷ text) (d.option_end at word (left n rest))
  option_end_meant n word [] place i = meant_ends (cuts.cut_option_text (runs_out i))
  option_end_meant n (x ∷ word) (b ∷ rest) place i =
      meant_took (omega (arith, place)) (s.accumulate (rw (closing b (first (quoted_stops i).0)) at i))
  option_end_meant n [] (b ∷ rest) place (s.quoted_stop e g) = meant_stops (rw (closing b g) (breaks r.empty_option (up_more (123 ∷ [])
      (up_byte place))))

  -- %x{OPTION} is what the grammar says
  pub option_meant : (n : ℕ) (text : List ℕ) → At size n text → DirMeant c at WithOption size text (d.option at (left n text))
  option_meant n [] place = meant_ends cuts.cut_option
  option_meant n (b ∷ text) place = meant_byte b 123 (λ e. rw e (meant_word is_option (n + 1) text (omega (arith, place)) (λ end. Ends at)
      (λ word end. d.option_end at word end) (λ end o. meant_ends (cuts.cut_option_text o))
      (λ word rest there i. option_end_meant rest.at word rest.bytes there i))) (λ e. meant_stops (breaks (r.no_option e) (up_byte place)))

  -- the text of %e and %n is what the grammar says
  pub saying_meant : (kind : SayKind) (n : ℕ) (text : List ℕ) → At size n text
      → DirMeant c at (WithSaying kind) size text (d.saying c.kind kind (left n text))
  saying_meant kind n text place = meant_word (is_said c.kind) n text place (λ end. Ends end.at)
      (λ word end. Took (said kind word) (past_byte ascii.newline end)) (λ end o. meant_ends (cuts.cut_saying o))
      (λ word rest there i. ends word rest.at rest.bytes there i)
    where
      -- by the byte after the text: a newline ends it and is taken, another is left
      ends : (word : List ℕ) (m : ℕ) (rest : List ℕ) → At size m rest → IsQuoted (is_said c.kind) text word rest
          → DirMeant c at (WithSaying kind) size text (Took (said kind word) (past_byte ascii.newline (left m rest)))
      ends word m [] there i = meant_took there (s.saying i (s.by_other s.at_end))
      ends word m (b ∷ rest) there i =
          choose (λ z. DirMeant c at (WithSaying kind) size text (Took (said kind word) z)) (b == ascii.newline) _ _
          (λ e. meant_took (omega (arith, there)) (s.saying (rw (same b 10 e) at i) s.by_newline))
          (λ e. meant_took there (s.saying i (s.by_other (s.at_byte e))))

  -- after at most 255 bytes of its name, %( needs a byte of it and its bracket, as the grammar says
  name_end_meant : (n : ℕ) {text : List ℕ} (name rest : List ℕ) → At size n rest → IsRun is_name_byte text name rest → length name ≤ 255
      → DirMeant c at WithName size text (d.name_end at (length name) name (left n rest))
  name_end_meant n name [] place i l = meant_ends (cuts.cut_name i l)
  name_end_meant n [] (b ∷ rest) place (s.run_ends (s.at_byte e)) l = meant_stops (breaks (r.no_name e) (up_byte place))
  name_end_meant n (x ∷ name) (b ∷ rest) place i l = meant_byte (suc (length name)) 0 (λ e. absurd (omega (arith, e)))
      (λ e. meant_byte b 41 (λ f. meant_took (omega (arith, place)) (s.named_text (rw f at i) l))
      (λ f. let m = run_moved rest [] i (filled swaps_end) in
      meant_stops (breaks (r.open_name m.is l f) (up_to rest (swaps_front rest [] refl (any rest [] m.swaps)) (omega (arith, place))))))

  -- %(NAME) is what the grammar says
  pub name_meant : (n : ℕ) (text : List ℕ) → At size n text → DirMeant c at WithName size text (d.named at (left n text))
  name_meant n text place = by (prefix_len is_name_byte text) (runs is_name_byte text)
    where
      by : (k : ℕ) → Ran is_name_byte text k → DirMeant c at WithName size text (d.named_of at k (left n text))
      by k i = meant_if (nat_le k 255)
          (λ e. subst (λ j. DirMeant c at WithName size text (d.name_end at j (take k text) (left (n + k) (drop k text)))) i.1
          (name_end_meant (n + k) (take k text) (drop k text) (omega (arith, place, run_size i.0, i.1)) i.0 (omega
          (arith, le_true e, i.1)))) (λ e. let h : 256 ≤ k = grind (arith, nat_tests, e) in let sizes = run_size i.0 in
          let long : 256 ≤ length text = omega (arith, sizes, i.1, h) in
          meant_stops (breaks (r.long_name (run_front 256 i.0 (omega (arith, i.1, h))) (length-take-le 256 text long))
          (up_to (drop 256 text) (sym (take-append-drop 256 text)) (omega (arith, place, long, length-drop 256 text)))))

  -- the pattern of %< and %> is what the grammar says
  pub hide_meant : (n : ℕ) (text : List ℕ) → At size n text → DirMeant c at WithPattern size text (d.hide at (left n text))
  hide_meant n text place = meant_then (λ p rest. Took (Hide p) rest) (pattern_meant at n text place)
      (λ p rest there i. meant_took there (s.hide i)) (λ o. cuts.cut_hide o) (λ j fault i. hides i)
