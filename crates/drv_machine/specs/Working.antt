use Rattle.drv_funcs.specs.declared.fault.FuncsFault.TheVariants as funcs
use Rattle.drv_funcs.specs.declared.fault.FuncsFault.{FuncsFault}
use Rattle.drv_machine.specs.declared.fault.MachineFault.TheVariants.{Funcs, Memory, Search, SpecTooDeep, TooManySteps}
use Rattle.drv_machine.specs.declared.fault.MachineFault.{MachineFault}
use Rattle.drv_machine.specs.declared.machine.marking.Mark.{Mark}
use Rattle.drv_machine.specs.declared.machine.naming.Drawn.{Drawn}
use Rattle.drv_search.specs.declared.fault.SearchFault.TheVariants as search
use Rattle.drv_search.specs.declared.fault.SearchFault.{SearchFault}
use Rattle.drv_syntax.specs.Tree.{Items}
use Rattle.drv_system.specs.Known.{Known, Is, Unasked}
use Rattle.std.specs.Cmp.Lexicographic.{pointwise}
use Rattle.std.specs.List.{list_any}
use Rattle.std.specs.Prelude.{◌+◌, Bool, List, [], ◌∷◌, ◌++◌, Option, None, Some, Result, Err, Ok, flat_map, if◌then◌else◌, map, nat_eq}
use Rattle.std.specs.Prelude.{nat_lt, ℕ}

-- What working a part of a text gives: a list of atoms, and how the list ends (this project's profile). Atoms says it of each directive
-- with the names here; a new kind of atom has a line in `taken` of Cutting and in Cuts.

-- what working a text gives, one after another: bytes of words, where words and commands end, and marks
pub data Atom : Type 0 where
  Put : ℕ → Atom  -- a byte of the word that is open, or of a new one
  Open : Atom  -- a word is open
  Break : Atom  -- the word that is open ends
  End : Atom  -- the command ends
  Piped : Atom  -- the word ends, and the command with a pipe
  Marked : Mark → Atom  -- the word that is open, or else the next one
  Without : Atom  -- no output, unless a later word is marked as one
  From : Atom  -- %W begins
  To : Atom  -- %W ends: the last word that ended in it is a failure file
  FileFrom : Atom  -- the words after it are those of a file
  FileTo : Atom  -- and those after this are the command's again

-- what working a text changes as it goes
pub record World : Type 0 where
  pub hidden : List Bool  -- for each switch
  pub accumulated : List (List ℕ)  -- the list of %x
  pub drawn : List Drawn
  pub number : ℕ  -- of the next name that is drawn
  pub outputs : List (List ℕ)
  pub notices : List (List ℕ)
  pub is_in_file : Bool  -- words go to the file of a %@
  pub items : ℕ  -- reached so far

-- a value over facts, or a refusal
abbrev pub Answer : Type 0 → Type 0
Answer X = Known (Result X MachineFault)

-- goes on with the value, unless there is a refusal or no answer of the facts
infixl 10 ◌>>-◌
abbrev pub ◌>>-◌ : {X Y : Type 0} → Answer X → (X → Answer Y) → Answer Y
Is (Ok x) >>- next = next x
Is (Err fault) >>- next = Is (Err fault)
Unasked >>- next = Unasked

-- a refusal of a search, as one of the machine; the lack of memory stays that
abbrev pub search_lifted : SearchFault → MachineFault
search_lifted search.Memory = Memory
search_lifted fault = Search fault

-- a refusal of a function, as one of the machine; the lack of memory stays that
abbrev pub funcs_lifted : FuncsFault → MachineFault
funcs_lifted funcs.Memory = Memory
funcs_lifted fault = Funcs fault

-- an answer of what can't be refused
abbrev pub known : {X : Type 0} → Known X → Answer X
known Unasked = Unasked
known (Is x) = Is (Ok x)

-- an answer of a search, whose refusal becomes one of the machine
abbrev pub searched : {X : Type 0} → Known (Result X SearchFault) → Answer X
searched Unasked = Unasked
searched (Is (Ok x)) = Is (Ok x)
searched (Is (Err fault)) = Is (Err (search_lifted fault))

-- an answer of a function, whose refusal becomes one of the machine
abbrev pub called : {X : Type 0} → Known (Result X FuncsFault) → Answer X
called Unasked = Unasked
called (Is (Ok x)) = Is (Ok x)
called (Is (Err fault)) = Is (Err (funcs_lifted fault))

-- atoms, and then a value and the world after them; or a refusal; or the lack of an answer of the facts
pub data Worked (X : Type 0) : Type 0 where
  Goes : List Atom → X → World → Worked X
  Refuses : List Atom → MachineFault → Worked X
  Waits : List Atom → Worked X

-- a part of a text, by the world before it
abbrev pub Step : Type 0 → Type 0
Step X = World → Worked X

-- what a step gave, with these atoms before its own
abbrev pub following : {X : Type 0} → List Atom → Worked X → Worked X
following atoms (Goes others x w) = Goes (atoms ++ others) x w
following atoms (Refuses others fault) = Refuses (atoms ++ others) fault
following atoms (Waits others) = Waits (atoms ++ others)

-- goes on with the value and the world that a step gave; its atoms come first, and a refusal or no answer ends it
abbrev pub follow : {X Y : Type 0} → Worked X → (X → Step Y) → Worked Y
follow (Goes atoms x w) next = following atoms (next x w)
follow (Refuses atoms fault) next = Refuses atoms fault
follow (Waits atoms) next = Waits atoms

-- one part and then another, which may look at the first one's value
infixl 10 ◌>>=◌
abbrev pub ◌>>=◌ : {X Y : Type 0} → Step X → (X → Step Y) → Step Y
(step >>= next) w = follow (step w) next

-- one part and then another, where the first one has no value
infixl 10 ◌>>◌
abbrev pub ◌>>◌ : {Y : Type 0} → Step (Unit {0}) → Step Y → Step Y
step >> next = step >>= λ u. next

-- a value, with no atom and no change of the world
abbrev pub give : {X : Type 0} → X → Step X
give x w = Goes [] x w

-- puts these atoms; there is no value
abbrev pub puts : List Atom → Step (Unit {0})
puts atoms w = Goes atoms tt w

-- the bytes of a word that is open, or of a new one
abbrev pub bytes : List ℕ → Step (Unit {0})
bytes word = puts (map Put word)

-- no atom and no value
abbrev pub nothing : Step (Unit {0})
nothing = puts []

-- refuses the text, with no atom
abbrev pub refuse : {X : Type 0} → MachineFault → Step X
refuse fault w = Refuses [] fault

-- what the facts answer, with no atom: its value, its refusal, or the lack of an answer
abbrev pub needs : {X : Type 0} → Answer X → Step X
needs (Is (Ok x)) w = Goes [] x w
needs (Is (Err fault)) w = Refuses [] fault
needs Unasked w = Waits []

-- something of the world, which doesn't change
abbrev pub look : {X : Type 0} → (World → X) → Step X
look f w = Goes [] (f w) w

-- changes the world, with no atom
abbrev pub change : (World → World) → Step (Unit {0})
change f w = Goes [] tt (f w)

-- the most items of a text
abbrev pub most_items : ℕ
most_items = 1000000

-- one more item is reached; after the most items of a text one more is refused
abbrev pub counted : Step (Unit {0})
counted w = if nat_lt w.items most_items then Goes [] tt (record w { items = w.items + 1 }) else Refuses [] TooManySteps

-- whether a word is among these
abbrev pub is_among : List (List ℕ) → List ℕ → Bool
is_among list word = list_any (pointwise nat_eq word) list

-- a word with an opening before it and a break after it
abbrev pub whole_word : List ℕ → List Atom
whole_word word = Open ∷ map Put word ++ Break ∷ []

-- the atoms of words, each whole
abbrev pub words : List (List ℕ) → List Atom
words list = flat_map whole_word list

-- the atoms of a word, if there is one
abbrev pub word_of : Option (List ℕ) → List Atom
word_of None = []
word_of (Some word) = words (word ∷ [])

-- what items mean after each part that may still be opened, the next one first
abbrev pub Levels : Type 0
Levels = List (Items → Step (Unit {0}))

-- the most parts that are open at one time
abbrev pub most_open : ℕ
most_open = 64

-- one more part is opened: what items mean as a text in it, and the parts that may be opened in it
abbrev pub opened : {X : Type 0} → Levels → ((Items → Step (Unit {0})) → Levels → Step X) → Step X
opened [] part = refuse SpecTooDeep
opened (deeper ∷ inside) part = part deeper inside
