use Rattle.drv_args.proofs.FrontLaws.{alone_first, with_next_first}
use Rattle.drv_args.specs.Code.Building.{begun, line_with, noted, with_items, with_pieces}
use Rattle.drv_args.specs.Fronts.{Alone, Wants, and_items, item, items_of, start_of}
use Rattle.drv_args.specs.Lines.{line_of_items, prefix_of, spec_of, switch_of}
use Rattle.drv_args.specs.declared.building.LineBuilder.{LineBuilder}
use Rattle.drv_args.specs.declared.fault.ArgsFault.{ArgsFault}
use Rattle.drv_args.specs.declared.items.Item.{Item}
use Rattle.drv_args.specs.declared.line.Line.{Line}
use Rattle.drv_args.specs.declared.option_table.Effect.{Effect}
use Rattle.drv_args.specs.declared.option_table.Tool.TheVariants.{Assembler, Linker, Preprocessor}
use Rattle.drv_args.specs.declared.option_table.Tool.{Tool}
use Rattle.std.proofs.Common.{◌≡◌, ◌<◌, ◌≤◌, ◌+◌, ◌-◌, Bool, List, arith, drop, get_or, length, take, [], ◌∷◌, ◌++◌, Err, Ok, Result, ap}
use Rattle.std.proofs.Common.{append_assoc, refl, sym, ◌∙◌, ℕ}
use Rattle.std.proofs.Math.Bool.{or_assoc, or-false}
use Rattle.std.proofs.lemmas.List.{at_drop_more, take_all}
use Rattle.std.proofs.lemmas.List.{append-nil, map-append}
use Rattle.std.proofs.lemmas.List.Elements.{filter_map-append}

-- For `read` and `line_of`: building a line item by item gives the line of all items.
-- Names: `word` is a word of the line. `option` is the option of a row of the table. `b` is the line so far. `b'` is the line after. `i` is
-- an item: the effect of an option, the option and its argument. `tool` is the program for which -Wa, -Wp or -Wl gives words. `whole` is
-- the result of the whole line. `line_with b items` is the line with the items of the rest. `items_of words` is the items of the words, or
-- their refusal. `noted b i` is the line with one more item. `with_pieces b tool pieces` adds the pieces of a -W. `start_of` says how a
-- word begins a front.

-- no pieces change nothing
pub no_pieces : (tool : Tool) (b : LineBuilder) → b ≡ with_pieces b tool []
no_pieces Assembler b = simp append-nil
no_pieces Preprocessor b = simp append-nil
no_pieces Linker b = simp append-nil

-- pieces one after another, or all at once
pub more_pieces : (tool : Tool) (b : LineBuilder) (pieces : List (List ℕ)) (piece : List ℕ)
    → with_pieces (with_pieces b tool pieces) tool (piece ∷ []) ≡ with_pieces b tool (pieces ++ piece ∷ [])
more_pieces Assembler b pieces piece = simp append_assoc
more_pieces Preprocessor b pieces piece = simp append_assoc
more_pieces Linker b pieces piece = simp (append_assoc, map-append)

-- one more piece in the code's loop
pub next_pieces : (tool : Tool) (b b' b'' : LineBuilder) (done after : List (List ℕ)) (piece : List ℕ)
    → b' ≡ with_pieces b tool done → b'' ≡ with_pieces b' tool (piece ∷ []) → after ≡ done ++ piece ∷ [] → b'' ≡ with_pieces b tool after
next_pieces tool b b' b'' done after piece so_far pushed more =
    pushed ∙ ap (λ c. with_pieces c tool (piece ∷ [])) so_far ∙ more_pieces tool b done piece ∙ ap (with_pieces b tool) (sym more)

-- an item that is noted first comes first in each filtered list
note_items : (b : LineBuilder) (i : Item) (items : List Item) → with_items (noted b i) items ≡ with_items b (i ∷ items)
note_items b i items =
    let switches = filter_map-append (λ i. switch_of i.effect i.option i.argument) (i ∷ []) items in
    let specs = filter_map-append (λ i. spec_of i.effect i.argument) (i ∷ []) items in
    let prefixes = filter_map-append (λ i. prefix_of i.effect i.argument) (i ∷ []) items in
    simp (append_assoc, or_assoc, append-nil) (cc)

-- the next item of a list
pub next_item : (b b' : LineBuilder) (items : List Item) (index : ℕ) (i : Item) (option argument : List ℕ) (whole : Line)
    → index < length items → i ≡ get_or items index i → option ≡ i.option → argument ≡ i.argument
    → b' ≡ noted b (item i.effect option argument)
    → with_items b (drop index items) ≡ whole → with_items b' (drop (index + 1) items) ≡ whole
next_item b b' items index i option argument whole below at option_is argument_is noted_is so_far =
    let rest = drop (index + 1) items in
    let same : item i.effect option argument ≡ i = ap (λ o. item i.effect o argument) option_is
    ∙ ap (λ a. item i.effect i.option a) argument_is in
    ap (λ c. with_items c rest) noted_is
    ∙ ap (λ j. with_items (noted b j) rest) (same ∙ at)
    ∙ note_items b (get_or items index i) rest
    ∙ sym (at_drop_more (with_items b) items index i below)
    ∙ so_far

-- an item is noted, and then come those of the rest
pub note_line : (b : LineBuilder) (i : Item) (rest : Result (List Item) ArgsFault)
    → line_with (noted b i) rest ≡ line_with b (and_items i rest)
note_line b i (Ok items) = ap Ok (note_items b i items)
note_line b i (Err fault) = refl

-- before the first item the line of all items is still to be built
pub first_line : (from_file : Bool) (items : Result (List Item) ArgsFault)
    → line_with (begun from_file) items ≡ line_of_items from_file items
first_line from_file (Ok items) = refl
first_line from_file (Err fault) = refl

-- after the last item the line is what was built
pub no_items : (b : LineBuilder) → with_items b [] ≡ b.line
no_items b = simp (append-nil, or-false)

-- once no word is left, the line is what was built
pub last_line : (left : List (List ℕ)) (b : LineBuilder) (whole : Result Line ArgsFault) → length left < 1
    → line_with b (items_of left) ≡ whole → whole ≡ Ok b.line
last_line [] b whole none so_far = sym so_far ∙ ap Ok (no_items b)
last_line (word ∷ words) b whole none so_far = absurd (omega arith)

-- the code's slice of the words after the first
after_first : (word : List ℕ) (words : List (List ℕ)) → take (length (word ∷ words) - 1) words ≡ words
after_first word words = take_all (length (word ∷ words) - 1) words (omega arith)

-- the next word is a front
pub alone_next : (left : List (List ℕ)) (word bytes : List ℕ) (b b' : LineBuilder) (effect : Effect) (option argument : List ℕ)
    (whole : Result Line ArgsFault)
    → 1 ≤ length left → word ≡ get_or left 0 word → bytes ≡ word → Alone (item effect option argument) ≡ start_of bytes
    → b' ≡ noted b (item effect option argument)
    → line_with b (items_of left) ≡ whole → line_with b' (items_of (take (length left - 1) (drop 1 left))) ≡ whole
alone_next [] word bytes b b' effect option argument whole some first same starts noted_is so_far = absurd (omega arith)
alone_next (w ∷ words) word bytes b b' effect option argument whole some first same starts noted_is so_far =
    let i = item effect option argument in
    ap (λ c. line_with c (items_of (take (length (w ∷ words) - 1) words))) noted_is
    ∙ ap (λ l. line_with (noted b i) (items_of l)) (after_first w words)
    ∙ note_line b i (items_of words)
    ∙ ap (line_with b) (sym (alone_first w i words (ap start_of (sym (same ∙ first)) ∙ sym starts)))
    ∙ so_far

-- the next word needs the word after it
pub wants_next : (left : List (List ℕ)) (word bytes next next_bytes : List ℕ) (b b' : LineBuilder) (effect : Effect) (option : List ℕ)
    (whole : Result Line ArgsFault)
    → 1 ≤ length left → word ≡ get_or left 0 word → bytes ≡ word → Wants effect option ≡ start_of bytes
    → 1 ≤ length (take (length left - 1) (drop 1 left)) → next ≡ get_or (take (length left - 1) (drop 1 left)) 0 next → next_bytes ≡ next
    → b' ≡ noted b (item effect option next_bytes)
    → line_with b (items_of left) ≡ whole
    → line_with b' (items_of (take (length (take (length left - 1) (drop 1 left)) - 1) (drop 1 (take (length left - 1) (drop 1 left)))))
    ≡ whole
wants_next [] word bytes next next_bytes b b' effect option whole some first same starts more second alike noted_is so_far = absurd
    (omega arith)
wants_next (w ∷ []) word bytes next next_bytes b b' effect option whole some first same starts more second alike noted_is so_far = absurd
    (omega arith)
wants_next (w ∷ n ∷ words) word bytes next next_bytes b b' effect option whole some first same starts more second alike noted_is so_far =
    let following = after_first w (n ∷ words) in
    let is_next : next_bytes ≡ n = alike ∙ second ∙ ap (λ l. get_or l 0 next) following in
    let i = item effect option n in
    noted_on b' (noted b (item effect option next_bytes)) (noted b i) _ words noted_is (ap (λ a. noted b (item effect option a)) is_next)
    (ap (λ l. take (length l - 1) (drop 1 l)) following ∙ after_first n words)
    ∙ note_line b i (items_of words)
    ∙ ap (line_with b) (sym (with_next_first w n option effect words (ap start_of (sym (same ∙ first)) ∙ sym starts)))
    ∙ so_far
  where
    noted_on : (c c' c'' : LineBuilder) (ws ws' : List (List ℕ)) → c ≡ c' → c' ≡ c'' → ws ≡ ws'
        → line_with c (items_of ws) ≡ line_with c'' (items_of ws')
    noted_on c c' c'' ws ws' e f g = ap (λ d. line_with d (items_of ws)) (e ∙ f) ∙ ap (λ l. line_with c'' (items_of l)) g
