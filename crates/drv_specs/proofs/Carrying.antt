use Rattle.drv_search.specs.declared.prefixes.Prefixes.{Prefixes}
use Rattle.drv_specs.specs.Directives.{Bad, Directive, Include, Pair, Rename, Text, directives_of, read_settled, shown}
use Rattle.drv_specs.specs.Lines.{settle}
use Rattle.drv_specs.specs.Code.Slices.{found, read_left, settled_file}
use Rattle.drv_specs.specs.declared.directive.IfMissing.TheVariants.{Refuse}
use Rattle.drv_specs.specs.declared.directive.IfMissing.{IfMissing}
use Rattle.drv_specs.specs.declared.directive.Directive.TheVariants as lent
use Rattle.drv_specs.specs.declared.directive.Directive as code
use Rattle.drv_specs.specs.Loading.{Carried, Including, all_carried, change, changed, file_loaded, file_text, including, set_in, text_read}
use Rattle.drv_specs.specs.Loading.{then_by, worked}
use Rattle.drv_specs.specs.Sets.{Set}
use Rattle.drv_specs.specs.declared.fault.SpecsFault.TheVariants.{BadLine, IncludeTooDeep, Memory, TooManyIncludes}
use Rattle.drv_specs.specs.declared.fault.SpecsFault.{SpecsFault}
use Rattle.drv_search.specs.Search.{file_found}
use Rattle.drv_system.specs.Asking.{Extends}
use Rattle.drv_system.specs.Facts.{Facts, read_of}
use Rattle.drv_system.specs.Gives.{GivesKnown}
use Rattle.drv_system.specs.Known.{◌>>=◌, Is, Known, Unasked, asked}
use Rattle.drv_system.specs.declared.event.ReadAnswer.{ReadAnswer}
use Rattle.drv_words.specs.Gives.{Gives}
use Rattle.std.proofs.Common.{◌≡◌, ◌⊎◌, ◌∙◌, Bor, IsErrAnd, None, Option, List, [], ◌∷◌, ◌++◌, Err, Ok, Result, Some, ap, inl, inr, refl, subst, suc}
use Rattle.std.proofs.Common.{sym, zero, ℕ}
use Rattle.std.specs.Option.{option_map}
use Rattle.std.specs.Prelude.{IfNone, slice_get}

-- For `load` and `load_file` (loading.rt): directives are carried out one after another, those of included files in the place of the
-- %include. `files` is how many files may still be read, `levels` how deep they may still be within one another; `whole` is what the
-- definition gives of all directives.
-- Names: `set` is the set before. `F` is what is known of the outside. `prefixes` is where files are searched for. `files` is how many
-- files may still be read. `levels` is how deep they may still include one another. `name` is the name of a text. `fault` is a refusal. `X`
-- is the type of what a list has. `missing` says what is done if the file is missing. `fewer` is how many files may be read after one.
-- `others` is how many may be read after the file that is included. `all_carried` carries out directives in order. `including` is what an
-- included file does. `file_loaded` is a set after a file.

-- a directive that reads no file
abbrev pub ReadsNoFile : Directive → Type 0
ReadsNoFile (Text name body) = Unit {0}
ReadsNoFile (Pair key body) = Unit {0}
ReadsNoFile (Rename old new) = Unit {0}
ReadsNoFile (Include missing name) = ⊥
ReadsNoFile (Bad n) = Unit {0}

-- a set, and how many files may still be read
abbrev pub state : Set → ℕ → Carried
state set files = record { set = set; files = files }

-- a directive that reads no file changes the set, and the rest follow
pub change_more : (inc : Including) (set set' : Set) (files : ℕ) (directive : Directive) (rest : List Directive) → ReadsNoFile directive
    → change set directive ≡ Ok set'
    → all_carried inc (state set files) (directive ∷ rest) ≡ all_carried inc (state set' files) rest
change_more inc set set' files (Text name body) rest none is = ap (λ r. then_by (changed files r) (λ c'. all_carried inc c' rest)) is
change_more inc set set' files (Pair key body) rest none is = ap (λ r. then_by (changed files r) (λ c'. all_carried inc c' rest)) is
change_more inc set set' files (Rename old new) rest none is = ap (λ r. then_by (changed files r) (λ c'. all_carried inc c' rest)) is
change_more inc set set' files (Include missing name) rest none is = absurd none
change_more inc set set' files (Bad n) rest none is = absurd cc

-- where a directive that reads no file is refused, so is the whole
pub change_refused : (inc : Including) (set : Set) (files : ℕ) (directive : Directive) (rest : List Directive) (fault : SpecsFault)
    → ReadsNoFile directive → change set directive ≡ Err fault
    → all_carried inc (state set files) (directive ∷ rest) ≡ Is (Err fault)
change_refused inc set files (Text name body) rest fault none is = ap (λ r. then_by (changed files r) (λ c'. all_carried inc c' rest)) is
change_refused inc set files (Pair key body) rest fault none is = ap (λ r. then_by (changed files r) (λ c'. all_carried inc c' rest)) is
change_refused inc set files (Rename old new) rest fault none is = ap (λ r. then_by (changed files r) (λ c'. all_carried inc c' rest)) is
change_refused inc set files (Include missing name) rest fault none is = absurd none
change_refused inc set files (Bad n) rest fault none is = let same : BadLine n ≡ fault = cc in ap (λ f. Is (Err f)) same

-- an %include of this file, before these directives
module _ (F : Facts) (prefixes : Prefixes) (set : Set) (missing : IfMissing) (name : List ℕ) (rest : List Directive) where
  -- an %include is refused where no deeper one is allowed
  pub include_deep : (files : ℕ) → all_carried (including F prefixes zero) (state set files) (Include missing name ∷ rest)
      ≡ Is (Err IncludeTooDeep)
  unfolding including
  include_deep files = refl

  -- an %include is refused where no file may be read any more
  pub include_many : (levels : ℕ) → all_carried (including F prefixes (suc levels)) (state set zero) (Include missing name ∷ rest)
      ≡ Is (Err TooManyIncludes)
  unfolding including
  include_many levels = refl

  -- an allowed %include gives the file's text, found and read, then its directives, and then the rest
  pub include_is : (levels files : ℕ) → all_carried (including F prefixes (suc levels)) (state set (suc files))
      (Include missing name ∷ rest)
      ≡ then_by (then_by (file_text F prefixes missing name)
      (λ text. all_carried (including F prefixes levels) (state set files) (directives_of text)))
      (λ c'. all_carried (including F prefixes (suc levels)) c' rest)
  unfolding including
  include_is levels files = refl

  -- where the file of an %include can't be read, the whole is refused
  pub include_unread : (levels files : ℕ) (fault : SpecsFault) → file_text F prefixes missing name ≡ Is (Err fault)
      → all_carried (including F prefixes (suc levels)) (state set (suc files)) (Include missing name ∷ rest) ≡ Is (Err fault)
  include_unread levels files fault is =
      include_is levels files
      ∙ ap (λ known. then_by (then_by known (λ text. all_carried (including F prefixes levels) (state set files) (directives_of text)))
      (λ c'. all_carried (including F prefixes (suc levels)) c' rest)) is

  -- where the file of an %include is read, its directives give this, and the rest follow
  pub include_worked : (levels files : ℕ) (text : List ℕ) (given : Known (Result Carried SpecsFault))
      → file_text F prefixes missing name ≡ Is (Ok text)
      → all_carried (including F prefixes levels) (state set files) (directives_of text) ≡ given
      → all_carried (including F prefixes (suc levels)) (state set (suc files)) (Include missing name ∷ rest)
      ≡ then_by given (λ c'. all_carried (including F prefixes (suc levels)) c' rest)
  include_worked levels files text given is worked =
      include_is levels files
      ∙ ap (λ known. then_by (then_by known (λ text. all_carried (including F prefixes levels) (state set files) (directives_of text)))
      (λ c'. all_carried (including F prefixes (suc levels)) c' rest)) is
      ∙ ap (λ known. then_by known (λ c'. all_carried (including F prefixes (suc levels)) c' rest)) worked

-- a file's text, by what is left of it
unread_file : (given : Known (Result (List ℕ) SpecsFault)) (fault : SpecsFault) → (given >>= λ g. Is (read_left g)) ≡ Is (Err fault)
    → given ≡ Is (Err fault)
unread_file Unasked fault is = absurd cc
unread_file (Is (Ok text)) fault is = absurd cc
unread_file (Is (Err fault')) fault is = is

-- the file's text, as the code keeps it, is the settled one
pub read_file : (given : Known (Result (List ℕ) SpecsFault)) (left : List ℕ) → (given >>= λ g. Is (read_left g)) ≡ Is (Ok left)
    → (text : List ℕ) × ((given ≡ Is (Ok text)) × (left ≡ settle text))
read_file Unasked left is = absurd cc
read_file (Is (Ok text)) left is = (text, (refl, let same : left ≡ settle text = cc in same))
read_file (Is (Err fault)) left is = absurd cc

-- the text of a file that was found and asked for, settled, or the refusal to read it
pub text_given : (X : Type 0) (view : X → List ℕ) (F G : Facts) (prefixes : Prefixes) (missing : IfMissing) (name path : List ℕ)
    (answer : ReadAnswer) (result : Result X SpecsFault)
    → file_found F prefixes name ≡ Is path → Extends G F → read_of G path ≡ Some answer
    → Gives Memory view result (read_left (text_read missing path answer))
    → GivesKnown Memory view result (settled_file F prefixes missing name)
text_given X view F G prefixes missing name path answer result found e known given = by result given
  where
    -- Plan: the settled file is what is left of the answer (`is`), so the code's result is the defined one (`by`).
    is : settled_file F prefixes missing name ≡ Is (read_left (text_read missing path answer))
    is =
        ap (λ known. (known >>= λ p. asked (read_of F p) >>= λ a. Is (text_read missing p a)) >>= λ g. Is (read_left g)) found
        ∙ ap (λ a. (asked a >>= λ a'. Is (text_read missing path a')) >>= λ g. Is (read_left g)) (e.reads path answer known)

    by : (r : Result X SpecsFault) → Gives Memory view r (read_left (text_read missing path answer))
        → GivesKnown Memory view r (settled_file F prefixes missing name)
    by (Ok text) is' = is ∙ ap Is is'
    by (Err fault) (inl memory) = inl memory
    by (Err fault) (inr is') = inr (is ∙ ap Is is')

-- a refusal of a step is that of the call
pub refusal_given : {X Y : Type 0} (fault : SpecsFault) (result : Result X SpecsFault) (view : X → Y)
    (defined : Known (Result Y SpecsFault))
    → IsErrAnd result (λ e. e ≡ fault) → (fault ≡ Memory) ⊎ (defined ≡ Is (Err fault)) → GivesKnown Memory view result defined
refusal_given fault (Ok x) view defined is refused = absurd is
refusal_given fault (Err e) view defined is (inl memory) = inl (is ∙ memory)
refusal_given fault (Err e) view defined is (inr refused) = inr (refused ∙ ap (λ f. Is (Err f)) (sym is))

-- a directive of the code that is no %include reads no file
pub reads_no_file : (directive : code.Directive) → ((missing : IfMissing) (file : Bor (List ℕ)) → directive ≡ lent.Include missing file → ⊥)
    → ReadsNoFile (shown directive)
reads_no_file (lent.Text name body) not = tt
reads_no_file (lent.Pair key body) not = tt
reads_no_file (lent.Rename old new) not = tt
reads_no_file (lent.Include missing file) not = not missing file refl
reads_no_file (lent.Bad n) not = tt

-- the next directive was taken: the others are left
pub taken : (old new : List Directive) (result : Option code.Directive) (directive : code.Directive) (is : Directive)
    → old ≡ found result ++ new → result ≡ Some directive → shown directive ≡ is → old ≡ is ∷ new
taken old new result directive is whole some same = whole ∙ ap (λ r. found r ++ new) some ∙ ap (λ d. d ∷ new) same

-- the first directive that a reader of a text gives is the text's
pub first_taken : (text : List ℕ) (old new : List Directive) (result : Option code.Directive) → old ≡ read_settled text
    → old ≡ found result ++ new → IfNone result (old ≡ []) → option_map shown result ≡ slice_get (read_settled text) 0
first_taken text old new None is whole none = sym (ap (λ ds. slice_get ds 0) (sym is ∙ none))
first_taken text old new (Some directive) is whole none = sym (ap (λ ds. slice_get ds 0) (sym is ∙ whole))

-- the next directive, where what is left gives the whole
module _ (F : Facts) (prefixes : Prefixes) (set : Set) (files levels : ℕ) (left rest : List Directive) (directive : Directive)
    (whole : Known (Result Carried SpecsFault))
    (taken : left ≡ directive ∷ rest) (so_far : all_carried (including F prefixes levels) (state set files) left ≡ whole) where
  at_next : whole ≡ all_carried (including F prefixes levels) (state set files) (directive ∷ rest)
  at_next = sym so_far ∙ ap (all_carried (including F prefixes levels) (state set files)) taken

  -- the loop: the next directive changed the set, and the rest are left
  pub changed_more : (set' : Set) → ReadsNoFile directive → change set directive ≡ Ok set'
      → all_carried (including F prefixes levels) (state set' files) rest ≡ whole
  changed_more set' none is = sym (at_next ∙ change_more (including F prefixes levels) set set' files directive rest none is)

  -- the loop: the next directive is refused, and so is the whole
  pub changed_refused : (fault : SpecsFault) → ReadsNoFile directive → (fault ≡ Memory) ⊎ (change set directive ≡ Err fault)
      → (fault ≡ Memory) ⊎ (whole ≡ Is (Err fault))
  changed_refused fault none (inl memory) = inl memory
  changed_refused fault none (inr is) = inr (at_next ∙ change_refused (including F prefixes levels) set files directive rest fault none is)

-- a file that is included
module _ (F : Facts) (prefixes : Prefixes) (set : Set) (files levels : ℕ) (left rest : List Directive) (missing : IfMissing) (name : List ℕ)
    (whole : Known (Result Carried SpecsFault))
    (taken : left ≡ Include missing name ∷ rest) (so_far : all_carried (including F prefixes levels) (state set files) left ≡ whole) where
  at_include : whole ≡ all_carried (including F prefixes levels) (state set files) (Include missing name ∷ rest)
  at_include = sym so_far ∙ ap (all_carried (including F prefixes levels) (state set files)) taken

  -- the loop at an %include that is too deep: the whole is refused
  pub deep_refused : levels ≡ 0 → whole ≡ Is (Err IncludeTooDeep)
  deep_refused none = at_include ∙ ap (λ n. all_carried (including F prefixes n) (state set files) (Include missing name ∷ rest)) none
      ∙ include_deep F prefixes set missing name rest files

  -- the loop at an %include where no file may be read any more: the whole is refused
  pub many_refused : (fewer : ℕ) → levels ≡ suc fewer → files ≡ 0 → whole ≡ Is (Err TooManyIncludes)
  many_refused fewer some none =
      at_include ∙ ap (λ n. all_carried (including F prefixes n) (state set files) (Include missing name ∷ rest)) some
      ∙ ap (λ n. all_carried (including F prefixes (suc fewer)) (state set n) (Include missing name ∷ rest)) none
      ∙ include_many F prefixes set missing name rest fewer

  -- the whole, where the next directive is an allowed %include
  at_file : (fewer : ℕ) (others : ℕ) → levels ≡ suc fewer → files ≡ suc others
      → whole ≡ all_carried (including F prefixes (suc fewer)) (state set (suc others)) (Include missing name ∷ rest)
  at_file fewer others some some' =
      at_include ∙ ap (λ n. all_carried (including F prefixes n) (state set files) (Include missing name ∷ rest)) some
      ∙ ap (λ n. all_carried (including F prefixes (suc fewer)) (state set n) (Include missing name ∷ rest)) some'

  -- the loop at an %include whose file can't be read: the whole is refused
  pub unread_refused : (fewer others : ℕ) → levels ≡ suc fewer → files ≡ suc others → (fault : SpecsFault)
      → (fault ≡ Memory) ⊎ (settled_file F prefixes missing name ≡ Is (Err fault)) → (fault ≡ Memory) ⊎ (whole ≡ Is (Err fault))
  unread_refused fewer others some some' fault (inl memory) = inl memory
  unread_refused fewer others some some' fault (inr unread) =
      inr (at_file fewer others some some' ∙ include_unread F prefixes set missing name rest fewer others fault
      (unread_file (file_text F prefixes missing name) fault unread))

  -- the whole, where the file of that %include was read
  at_worked : (fewer others : ℕ) → levels ≡ suc fewer → files ≡ suc others
      → (left' bytes : List ℕ) (given : Known (Result Carried SpecsFault))
      → settled_file F prefixes missing name ≡ Is (Ok left') → bytes ≡ left'
      → all_carried (including F prefixes fewer) (state set others) (read_settled bytes) ≡ given
      → whole ≡ then_by given (λ c'. all_carried (including F prefixes levels) c' rest)
  at_worked fewer others some some' left' bytes given read same worked =
      let file = read_file (file_text F prefixes missing name) left' read in
      at_file fewer others some some'
      ∙ include_worked F prefixes set missing name rest fewer others file.0 given file.1.0
      (ap (λ t. all_carried (including F prefixes fewer) (state set others) (read_settled t)) (sym (same ∙ file.1.1)) ∙ worked)
      ∙ ap (λ n. then_by given (λ c'. all_carried (including F prefixes n) c' rest)) (sym some)

  -- the loop at an %include whose directives are refused: so is the whole
  pub worked_refused : (fewer others : ℕ) → levels ≡ suc fewer → files ≡ suc others → (left' bytes : List ℕ) (fault : SpecsFault)
      → settled_file F prefixes missing name ≡ Is (Ok left') → bytes ≡ left'
      → (fault ≡ Memory) ⊎ (all_carried (including F prefixes fewer) (state set others) (read_settled bytes) ≡ Is (Err fault))
      → (fault ≡ Memory) ⊎ (whole ≡ Is (Err fault))
  worked_refused fewer others some some' left' bytes fault read same (inl memory) = inl memory
  worked_refused fewer others some some' left' bytes fault read same (inr worked) =
      inr (at_worked fewer others some some' left' bytes (Is (Err fault)) read same worked)

  -- the loop at an %include whose directives are carried out: it goes on with the set that they give
  pub worked_more : (fewer others : ℕ) → levels ≡ suc fewer → files ≡ suc others → (left' bytes : List ℕ) (c' : Carried)
      → settled_file F prefixes missing name ≡ Is (Ok left') → bytes ≡ left'
      → all_carried (including F prefixes fewer) (state set others) (read_settled bytes) ≡ Is (Ok c')
      → all_carried (including F prefixes levels) c' rest ≡ whole
  worked_more fewer others some some' left' bytes c' read same worked =
      sym (at_worked fewer others some some' left' bytes (Is (Ok c')) read same worked)

-- directives worked on a draft that is the set
module _ (F : Facts) (prefixes : Prefixes) (draft set : Set) (same : draft ≡ set) (files : ℕ) (directives : List Directive) where
  -- directives that are carried out on a draft give what they give on the set
  worked_as : (given : Known (Result Carried SpecsFault)) → all_carried (including F prefixes 15) (state draft files) directives ≡ given
      → worked F prefixes set files directives ≡ then_by given set_in
  worked_as given is = ap (λ s. then_by (all_carried (including F prefixes 15) (state s files) directives) set_in) (sym same)
      ∙ ap (λ known. then_by known set_in) is

  -- the directives were carried out: the whole gives their set
  pub worked_given : (c : Carried) → all_carried (including F prefixes 15) (state draft files) directives ≡ Is (Ok c)
      → worked F prefixes set files directives ≡ Is (Ok c.set)
  worked_given c is = worked_as (Is (Ok c)) is

  -- the directives are refused, and so is the whole
  pub worked_fails : (fault : SpecsFault) → (fault ≡ Memory)
      ⊎ (all_carried (including F prefixes 15) (state draft files) directives ≡ Is (Err fault))
      → (fault ≡ Memory) ⊎ (worked F prefixes set files directives ≡ Is (Err fault))
  worked_fails fault (inl memory) = inl memory
  worked_fails fault (inr is) = inr (worked_as (Is (Err fault)) is)

-- a file, by what is left of its text
module _ (F : Facts) (prefixes : Prefixes) (set : Set) (name : List ℕ) where
  -- a file that is loaded is an %include of it, in which 1,999 more files may be read
  file_is : file_loaded F prefixes set name
      ≡ then_by (then_by (file_text F prefixes Refuse name)
      (λ text. all_carried (including F prefixes 15) (state set 1999) (directives_of text))) set_in
  unfolding file_loaded including
  file_is = refl

  -- a file that is loaded is its settled text, carried out
  pub file_read : (left bytes : List ℕ) → settled_file F prefixes Refuse name ≡ Is (Ok left) → bytes ≡ left
      → worked F prefixes set 1999 (read_settled bytes) ≡ file_loaded F prefixes set name
  file_read left bytes read same =
      let file = read_file (file_text F prefixes Refuse name) left read in
      ap (λ l. worked F prefixes set 1999 (read_settled l)) (same ∙ file.1.1)
      ∙ sym (file_is ∙ ap (λ known. then_by (then_by known (λ t. all_carried (including F prefixes 15) (state set 1999) (directives_of t)))
      set_in) file.1.0)

  -- a file that can't be read is not loaded
  pub file_unread : (fault : SpecsFault) → (fault ≡ Memory) ⊎ (settled_file F prefixes Refuse name ≡ Is (Err fault))
      → (fault ≡ Memory) ⊎ (file_loaded F prefixes set name ≡ Is (Err fault))
  file_unread fault (inl memory) = inl memory
  file_unread fault (inr unread) =
      inr (file_is ∙ ap (λ known. then_by (then_by known (λ t. all_carried (including F prefixes 15) (state set 1999) (directives_of t)))
      set_in) (unread_file (file_text F prefixes Refuse name) fault unread))

-- what a result gives of one definition it gives of an equal one
pub given_alike : {X Y : Type 0} (view : X → Y) (result : Result X SpecsFault) (a b : Known (Result Y SpecsFault)) → a ≡ b
    → GivesKnown Memory view result a → GivesKnown Memory view result b
given_alike view result a b same given = subst (GivesKnown Memory view result) same given
