use Rattle.drv_args.specs.declared.items.Item.{Item as LineItem}
use Rattle.drv_args.specs.declared.option_table.Effect.{Effect}
use Rattle.drv_cc.proofs.Added.{all_are_added}
use Rattle.drv_cc.proofs.Parts.{same_is}
use Rattle.drv_cc.specs.Asked.{asks, has_no_number, is_asked, is_question, mixes_formats, sets_unjudged, tells_alone}
use Rattle.drv_cc.specs.Checks.{names_no_check}
use Rattle.drv_cc.specs.Front.{added_items, front_of, refused_or_run, run_of}
use Rattle.drv_cc.specs.Items.{Start, Wants, Whole, accepts, begins, beyond, by_row, first_row, fits, is_file, is_own, is_passed_over, item}
use Rattle.drv_cc.specs.Items.{items_of}
use Rattle.drv_cc.specs.Items.{judges, known_item, lacks, machine_item, meant_option, option_fits, passed_item, plain, same, start_of}
use Rattle.drv_cc.specs.Items.{start_option}
use Rattle.drv_cc.specs.Items.{start_renamed, takes_rest, turns_off, with_rest, with_start}
use Rattle.drv_cc.specs.Kept.{effective_items, goes, is_named, refusals, refused_item, refused_line}
use Rattle.drv_cc.specs.LineItems.{effect_of, line_item, option_effect, with_effect}
use Rattle.drv_cc.specs.Said.{HasNoRow, HasRow, IsSaid, Reads, Says, a_file, as_it_is, kept_item, machine, newer_name, no_words, one_word}
use Rattle.drv_cc.specs.Said.{passed_over}
use Rattle.drv_cc.specs.Said.{read_as, spelled_nowhere, switch_of_spec_file, taken_back, takes_next, two_words}
use Rattle.drv_cc.specs.Table.{OptionRow, table}
use Rattle.drv_cc.specs.declared.answer.Answer.TheVariants.{Ask, Refuse, Run}
use Rattle.drv_cc.specs.declared.answer.Answer.{Answer}
use Rattle.drv_cc.specs.declared.answer.Call.{Call}
use Rattle.drv_cc.specs.declared.answer.Surroundings.{Surroundings}
use Rattle.drv_cc.specs.declared.item.Item.{Item}
use Rattle.drv_cc.specs.declared.refusal.Refusal.TheVariants as refusal
use Rattle.drv_cc.specs.declared.refusal.Refusal.{Refusal}
use Rattle.drv_options.specs.declared.option.Role.TheVariants as role
use Rattle.drv_options.specs.declared.option.Role.{Role}
use Rattle.drv_options.specs.declared.option.Spelling.TheVariants.{Alone, Joined, Nowhere, Separate}
use Rattle.drv_options.specs.declared.option.Spelling.{Spelling}
use Rattle.drv_options.specs.declared.option.Takes.TheVariants.{Attached, Either, Newer, Next, Nothing, Rest}
use Rattle.drv_options.specs.declared.option.Takes.{Takes}
use Rattle.std.proofs.Common.{arith, ◌≡◌, ◌<◌, ◌∙◌, ◌||◌, Bool, List, [], ◌∷◌, ◌++◌, None, Option, Some, ap, codes, cond, drop, false, find}
use Rattle.std.proofs.Common.{if◌then◌else◌}
use Rattle.std.proofs.Common.{length, nat_lt, refl, subst, sym, take, true, ℕ}
use Rattle.std.proofs.lemmas.Bool.Decides.{nat_tests}
use Rattle.std.proofs.lemmas.List.{append-nil, drop_all, take-append-drop}
use Rattle.std.specs.Cmp.Lexicographic.{same_text}
use Rattle.std.specs.List.{filter_map, flat_map, list_any}
use Rattle.std.specs.Option.{is_some, unwrap_or}

-- For line_is_said (src/laws.rt): what the driver gets of a line that is carried out.
-- Names: `known` is the names beyond the table. `named` is the switches that the line's spec files name. `around` is the compiler and its
-- folders. `words` is the line, `word` its first word and `next` the one after it. `name` is what a word is read as. `r` is a row of the
-- table, and `behind` what follows its option in the word. `i` is an item, and `items` those of the line. `Fair` says that an item is
-- neither a question nor refused: all items of a line that is carried out are. `Begun` says of a word how it is read, by how it begins. The
-- other names are those of the definitions (specs/Said.antt, specs/Items.antt and specs/Kept.antt).

-- Items of a line that is carried out.

-- an item is no question, and nothing is refused of it
abbrev Fair : List (List ℕ) → Item → Type 0
Fair named i = (is_question i.role ≡ false) × (refused_item named i ≡ [])

-- so are all items
abbrev AllFair : List (List ℕ) → List Item → Type 0
AllFair named [] = Unit {0}
AllFair named (i ∷ items) = Fair named i × AllFair named items

-- Two tests of which none holds.
neither : (a b : Bool) → (a || b) ≡ false → (a ≡ false) × (b ≡ false)
neither true b e = absurd cc
neither false b e = (refl, e)

-- Two lists that have nothing.
both_empty : {X : Type 0} (xs ys : List X) → xs ++ ys ≡ [] → (xs ≡ []) × (ys ≡ [])
both_empty [] ys e = (refl, e)
both_empty (x ∷ xs) ys e = absurd cc

-- Each item of a line that is neither asked nor refused is fair.
all_fair : (named : List (List ℕ)) (items : List Item) → list_any asks items ≡ false → flat_map (refused_item named) items ≡ []
    → AllFair named items
all_fair named [] none nothing = tt
all_fair named (i ∷ items) none nothing =
    let tests = neither (asks i) (list_any asks items) none in
    let first = neither (is_question i.role) (names_no_check i || has_no_number i) tests.0 in
    let faults = both_empty (refused_item named i) (flat_map (refused_item named) items) nothing in
    ((first.0, faults.0), all_fair named items tests.1 faults.1)

-- The row of a word.

-- The row that is found fits the word.
found_fits : (word : List ℕ) (rows : List OptionRow) (r : OptionRow) → find (fits word) rows ≡ Some r → fits word r ≡ true
found_fits word [] r e = absurd cc
found_fits word (row ∷ rows) r e = by (fits word row) refl e (found_fits word rows r)
  where
    -- Plan: `by` goes by whether the first row fits.
    by : (t : Bool) → fits word row ≡ t → cond t (Some row) (find (fits word) rows) ≡ Some r
        → (find (fits word) rows ≡ Some r → fits word r ≡ true) → fits word r ≡ true
    by true f e others = subst (λ x. fits word x ≡ true) (ap (λ o. unwrap_or o row) e) f
    by false f e others = others e

-- A word that begins with an option is that and what follows it.
begun : (option word : List ℕ) → begins option word ≡ true → word ≡ option ++ drop (length option) word
begun option word e =
    sym (take-append-drop (length option) word)
    ∙ ap (λ l. l ++ drop (length option) word) (sym (same_text option (take (length option) word) (sym e)))

-- Nothing follows an option that is the whole word.
whole_word : (option word : List ℕ) → same option word ≡ true → drop (length option) word ≡ []
whole_word option word e = drop_all (length option) word (let same : option ≡ word = same_is option word e in omega (arith, ap length same))

-- A word that fits an option is that and what follows it.
covers : (takes : Takes) (word option : List ℕ) → option_fits takes word option ≡ true → word ≡ option ++ drop (length option) word
covers takes word option e = by (takes_rest takes) e
  where
    -- Plan: `by` goes by whether an argument may follow the option in its word.
    by : (t : Bool) → (if t then begins option word else same option word) ≡ true → word ≡ option ++ drop (length option) word
    by true e = begun option word e
    by false e = sym (same_is option word e) ∙ sym (append-nil option) ∙ ap (λ l. option ++ l) (sym (whole_word option word e))

-- Words of the table.

-- what is to be proved of a word by how it begins: if its item is fair, the word is read as it; if it takes the next word, both are
abbrev Begun : List ℕ → List (List ℕ) → List ℕ → Start → Type 0
Begun known named word (Whole i) = Fair named i → Reads known named (word ∷ []) i
Begun known named word (Wants r) = (next : List ℕ) → Reads known named (word ∷ next ∷ []) (by_row r next)

-- An option without its argument is refused.
never_lacks : {A : Type 0} (named : List (List ℕ)) (option : List ℕ) → Fair named (plain role.Lacking option) → A
never_lacks named option fair = absurd (let clash : refusal.NoArgument option ∷ [] ≡ [] = fair.1 in cc)

-- A question is not carried out.
never_asks : {A : Type 0} (named : List (List ℕ)) (word : List ℕ) → Fair named (plain role.Question word) → A
never_asks named word fair = absurd (let clash : true ≡ false = fair.0 in cc)

module _ (known word name : List ℕ) (named : List (List ℕ)) (r : OptionRow) (read_is : read_as word ≡ name)
    (found : first_row name ≡ Some r) where
  -- The row fits.
  row_fits : option_fits r.takes name r.option ≡ true
  row_fits = found_fits name table r found

  -- The row, and what follows its option.
  has_row : HasRow word r (drop (length r.option) name)
  has_row = (ap first_row read_is ∙ found, read_is ∙ covers r.takes name r.option row_fits)

  -- The same, by what that is.
  has_behind : (behind : List ℕ) → drop (length r.option) name ≡ behind → HasRow word r behind
  has_behind behind is = subst (HasRow word r) is has_row

  -- An option that no argument may follow in its word is all of it.
  alone_in_word : takes_rest r.takes ≡ false → HasRow word r []
  alone_in_word none =
      has_behind []
      (whole_word r.option name (sym (ap (λ t. if t then begins r.option name else same r.option name) none) ∙ row_fits))

  -- how a word of the table begins
  row_begun : Begun known named word (with_rest known r.takes r (drop (length r.option) name))
  row_begun = by r.takes refl (drop (length r.option) name) refl
    where
      -- Plan: `by` goes by how the option takes its argument, and by what follows it in the word.
      by : (takes : Takes) → r.takes ≡ takes → (behind : List ℕ) → drop (length r.option) name ≡ behind
          → Begun known named word (with_rest known takes r behind)
      by Nothing e behind is = λ fair. one_word (alone_in_word (ap takes_rest e)) (ap (λ t. takes_next t []) e)
      by Newer e behind is = λ fair. newer_name (alone_in_word (ap takes_rest e)) e
      by Next e behind is = λ next. two_words (alone_in_word (ap takes_rest e)) (ap (λ t. takes_next t []) e)
      by Attached e [] is = λ fair. never_lacks named r.option fair
      by Attached e (b ∷ behind) is = λ fair. one_word (has_behind (b ∷ behind) is) (ap (λ t. takes_next t (b ∷ behind)) e)
      by Rest e behind is = λ fair. one_word (has_behind behind is) (ap (λ t. takes_next t behind) e)
      by Either e [] is = λ next. two_words (has_behind [] is) (ap (λ t. takes_next t []) e)
      by Either e (b ∷ behind) is = λ fair. one_word (has_behind (b ∷ behind) is) (ap (λ t. takes_next t (b ∷ behind)) e)

-- Words beyond the table.

module _ (known word name : List ℕ) (named : List (List ℕ)) (read_is : read_as word ≡ name) (no_row : HasNoRow word) where
  -- An option as it is.
  read_whole : Reads known named (word ∷ []) (item name [] Alone role.Switch)
  read_whole = subst (λ n. Reads known named (word ∷ []) (item n [] Alone role.Switch)) read_is (as_it_is no_row)

  -- One that newer compilers ignore.
  read_over : is_passed_over name ≡ true → Reads known named (word ∷ []) (item name [] Nowhere role.Switch)
  read_over is = subst (λ n. Reads known named (word ∷ []) (item n [] Nowhere role.Switch)) read_is
      (passed_over no_row (ap is_passed_over read_is ∙ is))

  -- A word that is no option is a switch of a spec file, or refused.
  read_named : Fair named (plain role.Unknown word) → Reads known named (word ∷ []) (plain role.Unknown word)
  read_named fair = by (is_named named word) refl fair.1
    where
      -- Plan: `by` goes by whether a spec file names it.
      by : (t : Bool) → is_named named word ≡ t → (if t then [] else refusal.UnknownOption word ∷ []) ≡ []
          → Reads known named (word ∷ []) (plain role.Unknown word)
      by true is e = switch_of_spec_file no_row is
      by false is e = absurd cc

  -- One of an option that names speak of.
  read_known : Reads known named (word ∷ []) (known_item known name)
  read_known = by (begins (codes "-mcpu=") name) refl
    where
      -- Plan: `by` goes by whether it is -mcpu=.
      by : (t : Bool) → begins (codes "-mcpu=") name ≡ t
          → Reads known named (word ∷ [])
          (if t then machine_item known (drop (length (codes "-mcpu=")) name) else item name [] Alone role.Switch)
      by true is = machine no_row (read_is ∙ begun (codes "-mcpu=") name is)
      by false is = read_whole

  -- An option that newer compilers ignore, by what names say of it.
  read_ignored : is_passed_over name ≡ true → Fair named (passed_item known word name)
      → Reads known named (word ∷ []) (passed_item known word name)
  read_ignored is = by (nat_lt 0 (length known)) (lacks known name) (is_own known name)
    where
      -- Plan: `by` goes by whether there are names, and by the two tests that they decide.
      by : (some lacking own : Bool)
          → Fair named
          (if some then (if lacking then plain role.Question word else item name [] (if own then Alone else Nowhere) role.Switch)
          else plain role.Unknown word)
          → Reads known named (word ∷ [])
          (if some then (if lacking then plain role.Question word else item name [] (if own then Alone else Nowhere) role.Switch)
          else plain role.Unknown word)
      by true true own fair = never_asks named word fair
      by true false true fair = read_whole
      by true false false fair = read_over is
      by false lacking own fair = read_named fair

  -- how a word beyond the table is read
  read_beyond : Fair named (beyond known word name) → Reads known named (word ∷ []) (beyond known word name)
  read_beyond = by (is_passed_over name) refl (turns_off known word || accepts known name) (judges known name)
    where
      -- Plan: `by` goes by the tests of `beyond`.
      by : (ignored : Bool) → is_passed_over name ≡ ignored → (accepted judged : Bool)
          → Fair named (if ignored then passed_item known word name else if accepted then known_item known name
          else if judged then plain role.Question word else plain role.Unknown word)
          → Reads known named (word ∷ []) (if ignored then passed_item known word name else if accepted then known_item known name
          else if judged then plain role.Question word else plain role.Unknown word)
      by true is accepted judged fair = read_ignored is fair
      by false is true judged fair = read_known
      by false is false true fair = never_asks named word fair
      by false is false false fair = read_named fair

-- Words.

module _ (known word : List ℕ) (named : List (List ℕ)) where
  -- A word that is read as itself.
  as_itself : (r : OptionRow) → first_row word ≡ Some r → read_as word ≡ word
  as_itself r e = ap (λ o. if is_some o then word else meant_option word) e

  -- A word that is read by its other name.
  as_other : first_row word ≡ None → read_as word ≡ meant_option word
  as_other e = ap (λ o. if is_some o then word else meant_option word) e

  -- How a word that no row fits begins, by the row of its other name.
  renamed_begun : is_file word ≡ false → first_row word ≡ None → (m : Option OptionRow) → first_row (meant_option word) ≡ m
      → Begun known named word (start_renamed known word (meant_option word) m)
  renamed_begun hyphen none (Some r) e = row_begun known word (meant_option word) named r (as_other none) e
  renamed_begun hyphen none None e =
      read_beyond known word (meant_option word) named (as_other none) (hyphen, ap first_row (as_other none) ∙ e)

  -- How an option begins, by its row.
  option_begun : is_file word ≡ false → (o : Option OptionRow) → first_row word ≡ o → Begun known named word (start_option known word o)
  option_begun hyphen (Some r) e = row_begun known word word named r (as_itself r e) e
  option_begun hyphen None e = renamed_begun hyphen e (first_row (meant_option word)) refl

  -- how a word begins
  word_begun : Begun known named word (start_of known word)
  word_begun = by (is_file word) refl
    where
      -- Plan: `by` goes by whether the word is a file.
      by : (t : Bool) → is_file word ≡ t
          → Begun known named word (if t then Whole (plain role.Input word) else start_option known word (first_row word))
      by true is = λ fair. a_file is
      by false is = option_begun is (first_row word) refl

-- What the driver gets.

-- An option that does nothing is spelled nowhere.
no_option_effect : (s : Spelling) (name : List ℕ) → option_effect s name ≡ None → s ≡ Nowhere
no_option_effect Alone name e = absurd cc
no_option_effect Joined name e = absurd cc
no_option_effect Separate name e = absurd cc
no_option_effect Nowhere name e = refl

-- So is an item that does nothing.
no_effect : (what : Role) (s : Spelling) (name : List ℕ) → effect_of what s name ≡ None → s ≡ Nowhere
no_effect role.Input s name e = absurd cc
no_effect role.Library s name e = no_option_effect s name e
no_effect role.Piece s name e = no_option_effect s name e
no_effect role.Switch s name e = no_option_effect s name e
no_effect role.Question s name e = no_option_effect s name e
no_effect role.Tells s name e = no_option_effect s name e
no_effect role.Refused s name e = no_option_effect s name e
no_effect role.Unknown s name e = no_option_effect s name e
no_effect role.Lacking s name e = no_option_effect s name e

-- An item that is none of the driver's line is spelled nowhere.
is_nowhere : (i : Item) → line_item i ≡ None → i.spelling ≡ Nowhere
is_nowhere i e = by (effect_of i.role i.spelling i.name) refl e
  where
    -- Plan: `by` goes by whether the item does anything.
    by : (o : Option Effect) → effect_of i.role i.spelling i.name ≡ o → with_effect o i ≡ None → i.spelling ≡ Nowhere
    by None is e = no_effect i.role i.spelling i.name is
    by (Some does) is e = absurd cc

-- the items of the driver's line that items give
abbrev gives : List Item → List LineItem
gives items = filter_map line_item (effective_items items)

-- One item more at the front.
one_more : (known : List ℕ) (named words rest : List (List ℕ)) (i : Item) (items : List Item) → Reads known named words i
    → Says known named rest items (gives items) → Says known named (words ++ rest) (i ∷ items) (gives (i ∷ items))
one_more known named words rest i items reads says = by (goes i items) refl (line_item i) refl
  where
    -- Plan: `by` goes by whether the item goes, and by what it is on the driver's line.
    by : (t : Bool) → goes i items ≡ t → (o : Option LineItem) → line_item i ≡ o
        → Says known named (words ++ rest) (i ∷ items)
        (filter_map line_item (if t then effective_items items else i ∷ effective_items items))
    by true back o is = taken_back reads back says
    by false stays (Some one) is = rw is (kept_item reads stays is says)
    by false stays None is = rw is (spelled_nowhere reads (is_nowhere i is) says)

-- the words of a line, and what they give
said_of : (known : List ℕ) (named words : List (List ℕ)) → AllFair named (items_of known None words)
    → Says known named words (items_of known None words) (gives (items_of known None words))
said_of known named [] fair = no_words
said_of known named (word ∷ []) fair = by (start_of known word) (word_begun known word named) fair
  where
    -- Plan: `by` goes by how the word begins.
    by : (s : Start) → Begun known named word s → AllFair named (with_start s (λ wanting. items_of known wanting []))
        → Says known named (word ∷ []) (with_start s (λ wanting. items_of known wanting []))
        (gives (with_start s (λ wanting. items_of known wanting [])))
    by (Whole i) reads fair = one_more known named (word ∷ []) [] i [] (reads fair.0) no_words
    by (Wants r) reads fair = never_lacks named r.option fair.0
said_of known named (word ∷ next ∷ words) fair =
    by (start_of known word) (word_begun known word named) fair (said_of known named (next ∷ words)) (said_of known named words)
  where
    -- Plan: `by` goes by how the first word begins.
    by : (s : Start) → Begun known named word s → AllFair named (with_start s (λ wanting. items_of known wanting (next ∷ words)))
        → (AllFair named (items_of known None (next ∷ words))
        → Says known named (next ∷ words) (items_of known None (next ∷ words)) (gives (items_of known None (next ∷ words))))
        → (AllFair named (items_of known None words)
        → Says known named words (items_of known None words) (gives (items_of known None words)))
        → Says known named (word ∷ next ∷ words) (with_start s (λ wanting. items_of known wanting (next ∷ words)))
        (gives (with_start s (λ wanting. items_of known wanting (next ∷ words))))
    by (Whole i) reads fair others after =
        one_more known named (word ∷ []) (next ∷ words) i (items_of known None (next ∷ words)) (reads fair.0) (others fair.1)
    by (Wants r) reads fair others after =
        one_more known named (word ∷ next ∷ []) words (by_row r next) (items_of known None words) (reads next) (after fair.1)

-- the items of an answer, if it is a call
abbrev items_in : Answer → List LineItem
items_in Ask = []
items_in (Refuse faults) = []
items_in (Run call) = call.items

module _ (known : List ℕ) (named words : List (List ℕ)) (around : Surroundings) (call : Call) where
  -- the items of the line
  abbrev items_read : List Item
  items_read = items_of known None words

  -- A line that is neither asked nor refused.
  carried_out : is_asked items_read ≡ false → refusals named items_read ≡ [] → run_of around (effective_items items_read) ≡ Run call
      → IsSaid known named around words call.items
  carried_out unasked unrefused e =
      let outer = neither ((list_any asks items_read || tells_alone items_read) || sets_unjudged items_read) (mixes_formats items_read)
      unasked in
      let inner = neither (list_any asks items_read || tells_alone items_read) (sets_unjudged items_read) outer.0 in
      let questions = neither (list_any asks items_read) (tells_alone items_read) inner.0 in
      let faults = both_empty (flat_map (refused_item named) items_read) (refused_line items_read) unrefused in
      record {
        items = items_read;
        said = gives items_read;
        added = added_items around (effective_items items_read);
        says = said_of known named words (all_fair named items_read questions.0 faults.0);
        all_added = all_are_added around (effective_items items_read);
        are = sym (ap items_in e);
      }

  -- By whether the line is a question, and by what is refused of it.
  answered : (asked : Bool) → is_asked items_read ≡ asked → (faults : List Refusal) → refusals named items_read ≡ faults
      → (if asked then Ask else refused_or_run around items_read faults) ≡ Run call → IsSaid known named around words call.items
  answered true is faults are e = absurd cc
  answered false is [] are e = carried_out is are e
  answered false is (one ∷ others) are e =
      let less : 0 < length (one ∷ others) = omega arith in
      let test : nat_lt 0 (length (one ∷ others)) ≡ true = grind (arith, nat_tests, less) in
      absurd (let clash : Refuse (one ∷ others) ≡ Run call =
      sym (ap (λ t. if t then Refuse (one ∷ others) else run_of around (effective_items items_read)) test) ∙ e in cc)

-- the law: nothing of a line is lost, and nothing is invented
pub is_said : (known : List ℕ) (named words : List (List ℕ)) (around : Surroundings) (call : Call)
    → front_of known named around words ≡ Run call → IsSaid known named around words call.items
is_said known named words around call e =
    answered known named words around call (is_asked (items_of known None words)) refl (refusals named (items_of known None words)) refl e
