use Rattle.drv_machine.specs.Atoms.{broken_word}
use Rattle.drv_machine.specs.Cuts.{Bare, Enclosed, Failure, File, Filed, Stretch, Stretched, bounds_file, is_broken, open_after}
use Rattle.drv_machine.specs.Cuts.{open_following, stretch_atoms}
use Rattle.drv_machine.specs.Working.{◌>>=◌, ◌>>◌, Answer, Atom, Break, FileFrom, FileTo, From, Goes, Levels, Put, Refuses, Step, To}
use Rattle.drv_machine.specs.Working.{Waits, Worked, World, following, bytes, change, counted, follow, give, look, most_items, needs}
use Rattle.drv_machine.specs.Working.{opened, puts, refuse, whole_word, word_of, words}
use Rattle.drv_machine.specs.declared.fault.MachineFault.{MachineFault}
use Rattle.drv_machine.specs.declared.fault.MachineFault.TheVariants as fault
use Rattle.drv_syntax.specs.Tree.{Items}
use Rattle.drv_system.specs.Known.{Is, Unasked}
use Rattle.std.proofs.Common.{◌≡◌, ◌∙◌, ◌++◌, ◌||◌, Bool, List, [], ◌∷◌, None, Err, Ok, Option, Some, ap, false, map, refl, suc, sym, true}
use Rattle.std.proofs.Common.{ℕ}
use Rattle.std.proofs.lemmas.Grind.{flat_map-append}
use Rattle.std.proofs.lemmas.List.Folds.{list_any-append}
use Rattle.std.specs.List.{flat_map, list_any}
use Rattle.std.specs.Prelude.{◌+◌, ⊤, if◌then◌else◌, is_some, nat_lt, option_and_then}

-- For TextStretches: atoms open and close %W and the files of %@ in pairs, and no file is in another. `Well` says it of a step: in a file
-- it stays in it, and outside it leaves none open. NAME_bare: these atoms bound neither; NAME_well: the step NAME is `Well`.
-- Names: `atoms`: what the text gives, from here on. `a`, `b`: a test's value, so that `by` can go by both cases. `xs`, `ys`: atoms, and
-- those after them. `X`, `Y`: any type. `w`: what the run of a text changes as it goes. `enclosed`: what has a beginning and an end among
-- atoms: a `%W`, or the file of a `%@`. `items`: the items of a part. `bounds_file`: the file of a %@ begins or ends. `is_broken`: a file
-- begins or ends that is not one of the list's, or is in one. `stretch_atoms`: a word that is open ends before the file and in it. `puts`:
-- puts these atoms. `f`: what gives atoms, or a step, for a value.

-- whether an atom begins or ends a %W or a file
abbrev bounds_any : Atom → Bool
bounds_any From = true
bounds_any To = true
bounds_any FileFrom = true
bounds_any FileTo = true
bounds_any atom = false

-- no file and no %W begins or ends
abbrev pub None-bounds : List Atom → Type 0
None-bounds atoms = list_any bounds_any atoms ≡ false

-- two lists without bounds have none one after the other
pub no_bounds : (xs ys : List Atom) → None-bounds xs → None-bounds ys → None-bounds (xs ++ ys)
no_bounds xs ys e f = list_any-append bounds_any xs ys ∙ ap (λ (b : Bool). b || list_any bounds_any ys) e ∙ f

-- the bytes of a word bound nothing
pub bytes_bare : (word : List ℕ) → None-bounds (map Put word)
bytes_bare [] = refl
bytes_bare (b ∷ word) = bytes_bare word

-- nor do they with the break after them
pub broken_bare : (word : List ℕ) → None-bounds (broken_word word)
broken_bare word = no_bounds (map Put word) (Break ∷ []) (bytes_bare word) refl

-- nor do the atoms of many values, if those of each bound nothing
pub flat_bare : {X : Type 0} (f : X → List Atom) → ((x : X) → None-bounds (f x)) → (xs : List X) → None-bounds (flat_map f xs)
flat_bare f each [] = refl
flat_bare f each (x ∷ xs) = no_bounds (f x) (flat_map f xs) (each x) (flat_bare f each xs)

-- nor do whole words
pub words_bare : (list : List (List ℕ)) → None-bounds (words list)
words_bare list = flat_bare whole_word broken_bare list

-- nor does a word that may be missing
pub word_bare : (word : Option (List ℕ)) → None-bounds (word_of word)
word_bare None = refl
word_bare (Some word) = words_bare (word ∷ [])

-- two tests of which neither holds
first_bare : (a b : Bool) → (a || b) ≡ false → (a ≡ false) × (b ≡ false)
first_bare true b e = absurd cc
first_bare false b e = (refl, e)

-- no file begins or ends
abbrev pub Unfiled : List Atom → Type 0
Unfiled atoms = list_any bounds_file atoms ≡ false

-- two lists without a file have none one after the other
unfiled_append : (xs ys : List Atom) → Unfiled xs → Unfiled ys → Unfiled (xs ++ ys)
unfiled_append xs ys e f = list_any-append bounds_file xs ys ∙ ap (λ (b : Bool). b || list_any bounds_file ys) e ∙ f

-- an atom that bounds nothing bounds no file
bounds_no_file : (atom : Atom) → bounds_any atom ≡ false → bounds_file atom ≡ false
bounds_no_file FileFrom e = absurd cc
bounds_no_file FileTo e = absurd cc
bounds_no_file _ e = refl

-- atoms that bound nothing have no file
unfiled_bare : (atoms : List Atom) → None-bounds atoms → Unfiled atoms
unfiled_bare [] e = refl
unfiled_bare (atom ∷ atoms) e =
    let each = first_bare (bounds_any atom) (list_any bounds_any atoms) e in
    ap (λ (b : Bool). b || list_any bounds_file atoms) (bounds_no_file atom each.0) ∙ unfiled_bare atoms each.1

-- as many %W are open after them as before
abbrev Even : List Atom → Type 0
Even atoms = (count : ℕ) → open_following atoms Failure count ≡ Some count

-- no %W ends that is not open
abbrev Begun : List Atom → Type 0
Begun atoms = (count : ℕ) → is_some (open_following atoms Failure count) ≡ true

-- how many are open after these atoms, if so many were before, or none where one ends that is not open
abbrev then_open : List Atom → Enclosed → Option ℕ → Option ℕ
then_open atoms enclosed count = option_and_then (λ left. open_following atoms enclosed left) count

-- what is open after two lists is counted one after the other
open_append : (xs ys : List Atom) (enclosed : Enclosed) (count : ℕ)
    → open_following (xs ++ ys) enclosed count ≡ then_open ys enclosed (open_following xs enclosed count)
open_append [] ys enclosed count = refl
open_append (x ∷ xs) ys enclosed count = by (open_after x enclosed count) (λ left. open_append xs ys enclosed left)
  where
    by : (after : Option ℕ) → ((left : ℕ)
        → open_following (xs ++ ys) enclosed left ≡ then_open ys enclosed (open_following xs enclosed left))
        → then_open (xs ++ ys) enclosed after ≡ then_open ys enclosed (then_open xs enclosed after)
    by None goes = refl
    by (Some left) goes = goes left

-- two lists with even %W have even ones one after the other
even_append : (xs ys : List Atom) → Even xs → Even ys → Even (xs ++ ys)
even_append xs ys e f count = open_append xs ys Failure count ∙ ap (then_open ys Failure) (e count) ∙ f count

-- after even atoms no %W ends that is not open, if none does in the rest
begun_append : (xs ys : List Atom) → Even xs → Begun ys → Begun (xs ++ ys)
begun_append xs ys e f count = ap is_some (open_append xs ys Failure count ∙ ap (then_open ys Failure) (e count)) ∙ f count

-- an atom that bounds nothing opens and closes no %W
opens_no_failure : (atom : Atom) (count : ℕ) → bounds_any atom ≡ false → open_after atom Failure count ≡ Some count
opens_no_failure From count e = absurd cc
opens_no_failure To count e = absurd cc
opens_no_failure FileFrom count e = absurd cc
opens_no_failure FileTo count e = absurd cc
opens_no_failure _ count e = refl

-- atoms that bound nothing have even %W
even_bare : (atoms : List Atom) → None-bounds atoms → Even atoms
even_bare [] e count = refl
even_bare (atom ∷ atoms) e count =
    let each = first_bare (bounds_any atom) (list_any bounds_any atoms) e in
    ap (then_open atoms Failure) (opens_no_failure atom count each.0) ∙ even_bare atoms each.1 count

-- a %W around even atoms leaves them even
even_failure : (atoms : List Atom) → Even atoms → Even (From ∷ atoms ++ Break ∷ To ∷ [])
even_failure atoms e count = open_append atoms (Break ∷ To ∷ []) Failure (suc count)
    ∙ ap (then_open (Break ∷ To ∷ []) Failure) (e (suc count))

-- so does a file around them
pub even_file : (atoms : List Atom) → Even atoms → Even (Break ∷ FileFrom ∷ atoms ++ Break ∷ FileTo ∷ [])
even_file atoms e count = open_append atoms (Break ∷ FileTo ∷ []) Failure count ∙ ap (then_open (Break ∷ FileTo ∷ []) Failure) (e count)

-- an atom that bounds no file opens and closes none
opens_no_file : (atom : Atom) (count : ℕ) → bounds_file atom ≡ false → open_after atom File count ≡ Some count
opens_no_file FileFrom count e = absurd cc
opens_no_file FileTo count e = absurd cc
opens_no_file _ count e = refl

-- after atoms without a file as many files are open as before
unfiled_open : (atoms : List Atom) (count : ℕ) → Unfiled atoms → open_following atoms File count ≡ Some count
unfiled_open [] count e = refl
unfiled_open (atom ∷ atoms) count e =
    let each = first_bare (bounds_file atom) (list_any bounds_file atoms) e in
    ap (then_open atoms File) (opens_no_file atom count each.0) ∙ unfiled_open atoms count each.1

-- a file around atoms without one is closed at its end
file_open : (atoms : List Atom) → Unfiled atoms → open_following (stretch_atoms (Filed atoms)) File 0 ≡ Some 0
file_open atoms e = open_append atoms (Break ∷ FileTo ∷ []) File 1 ∙ ap (then_open (Break ∷ FileTo ∷ []) File) (unfiled_open atoms 1 e)

-- after whole stretches no file is open
stretches_open : (stretches : List Stretch) → list_any is_broken stretches ≡ false
    → open_following (flat_map stretch_atoms stretches) File 0 ≡ Some 0
stretches_open [] e = refl
stretches_open (Bare atom ∷ stretches) e =
    let each = first_bare (bounds_file atom) (list_any is_broken stretches) e in
    ap (then_open (flat_map stretch_atoms stretches) File) (opens_no_file atom 0 each.0) ∙ stretches_open stretches each.1
stretches_open (Filed atoms ∷ stretches) e =
    let each = first_bare (list_any bounds_file atoms) (list_any is_broken stretches) e in
    open_append (stretch_atoms (Filed atoms)) (flat_map stretch_atoms stretches) File 0
    ∙ ap (then_open (flat_map stretch_atoms stretches) File) (file_open atoms each.0) ∙ stretches_open stretches each.1

-- atoms, in a file or not
abbrev Shaped : Bool → List Atom → Type 0
Shaped true atoms = Unfiled atoms
Shaped false atoms = Stretched atoms

-- these atoms leave no file open, or stay in the one that is, with even %W
abbrev pub Fits : Bool → List Atom → Type 0
Fits b atoms = Shaped b atoms × Even atoms

-- such atoms end no file that is not theirs
pub shaped_open : (b : Bool) (atoms : List Atom) → Shaped b atoms → open_following atoms File 0 ≡ Some 0
shaped_open true atoms e = unfiled_open atoms 0 e
shaped_open false atoms e = ap (λ (zs : List Atom). open_following zs File 0) (sym e.same) ∙ stretches_open e.stretches e.whole

-- atoms up to where work stops
abbrev Halted : Bool → List Atom → Type 0
Halted true atoms = Unfiled atoms
Halted false atoms = is_some (open_following atoms File 0) ≡ true

-- these atoms, up to where work stops, end no file and no %W that is not open
abbrev pub Stops : Bool → List Atom → Type 0
Stops b atoms = Halted b atoms × Begun atoms

-- such atoms end no file that is not open
pub halted_open : (b : Bool) (atoms : List Atom) → Halted b atoms → is_some (open_following atoms File 0) ≡ true
halted_open true atoms e = ap is_some (unfiled_open atoms 0 e)
halted_open false atoms e = e

-- so do whole atoms and then such ones
halted_append : (b : Bool) (xs ys : List Atom) → Shaped b xs → Halted b ys → Halted b (xs ++ ys)
halted_append true xs ys e f = unfiled_append xs ys e f
halted_append false xs ys e f = ap is_some (open_append xs ys File 0 ∙ ap (then_open ys File) (shaped_open false xs e)) ∙ f

-- the same with the %W
stops_append : (b : Bool) (xs ys : List Atom) → Fits b xs → Stops b ys → Stops b (xs ++ ys)
stops_append b xs ys e f = (halted_append b xs ys e.0 f.0, begun_append xs ys e.1 f.1)

-- work may stop before its first atom
stops_here : (b : Bool) → Stops b []
stops_here true = (refl, λ count. refl)
stops_here false = (refl, λ count. refl)

-- work that stops in a file stops after its beginning
pub stops_file : (atoms : List Atom) → Stops true atoms → Stops false (Break ∷ FileFrom ∷ atoms)
stops_file atoms e = (ap is_some (unfiled_open atoms 1 e.0), λ count. e.1 count)

-- stretches of which none is broken, one after the other
broken_append : (xs ys : List Stretch) → list_any is_broken xs ≡ false → list_any is_broken ys ≡ false
    → list_any is_broken (xs ++ ys) ≡ false
broken_append xs ys e f = list_any-append is_broken xs ys ∙ ap (λ (b : Bool). b || list_any is_broken ys) e ∙ f

-- whole atoms and whole atoms are whole
shaped_append : (b : Bool) (xs ys : List Atom) → Shaped b xs → Shaped b ys → Shaped b (xs ++ ys)
shaped_append true xs ys e f = unfiled_append xs ys e f
shaped_append false xs ys e f = record {
  stretches = e.stretches ++ f.stretches;
  whole = broken_append e.stretches f.stretches e.whole f.whole;
  same = flat_map-append stretch_atoms e.stretches f.stretches ∙ ap (λ (zs : List Atom). zs ++ flat_map stretch_atoms f.stretches) e.same
      ∙ ap (λ (zs : List Atom). xs ++ zs) f.same;
}

-- the same with the %W
fits_append : (b : Bool) (xs ys : List Atom) → Fits b xs → Fits b ys → Fits b (xs ++ ys)
fits_append b xs ys e f = (shaped_append b xs ys e.0 f.0, even_append xs ys e.1 f.1)

-- atoms without a file are stretches of one atom each
stretched_bare : (atoms : List Atom) → Unfiled atoms → Stretched atoms
stretched_bare [] e = record { stretches = []; whole = refl; same = refl }
stretched_bare (atom ∷ atoms) e =
    let each = first_bare (bounds_file atom) (list_any bounds_file atoms) e in
    let rest = stretched_bare atoms each.1 in record {
      stretches = Bare atom ∷ rest.stretches;
      whole = ap (λ (b : Bool). b || list_any is_broken rest.stretches) each.0 ∙ rest.whole;
      same = ap (λ (zs : List Atom). atom ∷ zs) rest.same;
    }

-- atoms without a file are whole, in a file and outside
shaped_bare : (b : Bool) (atoms : List Atom) → Unfiled atoms → Shaped b atoms
shaped_bare true atoms e = e
shaped_bare false atoms e = stretched_bare atoms e

-- so are atoms that bound nothing, with even %W
pub fits_bare : (b : Bool) (atoms : List Atom) → None-bounds atoms → Fits b atoms
fits_bare b atoms e = (shaped_bare b atoms (unfiled_bare atoms e), even_bare atoms e)

-- a %W around whole atoms is whole
fits_failure : (b : Bool) (atoms : List Atom) → Fits b atoms → Fits b (From ∷ atoms ++ Break ∷ To ∷ [])
fits_failure b atoms e = (
  shaped_append b (From ∷ []) (atoms ++ Break ∷ To ∷ []) (shaped_bare b (From ∷ []) refl)
      (shaped_append b atoms (Break ∷ To ∷ []) e.0 (shaped_bare b (Break ∷ To ∷ []) refl)),
  even_failure atoms e.1,
)

-- work that stops in a %W stops after its beginning
stops_failure : (b : Bool) (atoms : List Atom) → Stops b atoms → Stops b (From ∷ atoms)
stops_failure b atoms e = (halted_append b (From ∷ []) atoms (shaped_bare b (From ∷ []) refl) e.0, λ count. e.1 (suc count))

-- what a step gives, in a file or not: its atoms are paired, and it ends where it began
abbrev pub WellDone : {X : Type 0} → Bool → Worked X → Type 0
WellDone b (Goes atoms x v) = Fits b atoms × (v.is_in_file ≡ b)
WellDone b (Refuses atoms fault) = Stops b atoms
WellDone b (Waits atoms) = Stops b atoms

-- in a file and outside, the step is well done
pub record Well {X : Type 0} (step : Step X) : Type 0 where
  pub stays : (w : World) (b : Bool) → w.is_in_file ≡ b → WellDone b (step w)

-- what is well done stays so after atoms that are whole
pub after_well : {X : Type 0} (b : Bool) (atoms : List Atom) (work : Worked X) → Fits b atoms → WellDone b work
    → WellDone b (following atoms work)
after_well b atoms (Goes others x v) e f = (fits_append b atoms others e f.0, f.1)
after_well b atoms (Refuses others fault) e f = stops_append b atoms others e f
after_well b atoms (Waits others) e f = stops_append b atoms others e f

-- a step that follows what is well done is so too
follow_well : {X Y : Type 0} (b : Bool) (work : Worked X) (f : X → Step Y) → WellDone b work → ((value : X) → Well (f value))
    → WellDone b (follow work f)
follow_well b (Goes atoms value v) f e goes = after_well b atoms (f value v) e.0 ((goes value).stays v b e.1)
follow_well b (Refuses atoms fault) f e goes = e
follow_well b (Waits atoms) f e goes = e

-- two steps one after the other
pub then_well : {X Y : Type 0} {a : Step X} {f : X → Step Y} → Well a → ((value : X) → Well (f value)) → Well (a >>= f)
then_well {a = a} {f = f} e goes = record { stays = λ w b i. follow_well b (a w) f (e.stays w b i) goes }

-- atoms that bound nothing are put
pub puts_well : (atoms : List Atom) → None-bounds atoms → Well (puts atoms)
puts_well atoms e = record { stays = λ w b i. (fits_bare b atoms e, i) }

-- a value is given without an atom
pub give_well : {X : Type 0} (x : X) → Well (give x)
give_well x = record { stays = λ w b i. (fits_bare b [] refl, i) }

-- a look at the state puts nothing
pub look_well : {X : Type 0} (f : World → X) → Well (look f)
look_well f = record { stays = λ w b i. (fits_bare b [] refl, i) }

-- so does a change of the state that stays in the file
pub change_well : (f : World → World) → ((w : World) → (f w).is_in_file ≡ w.is_in_file) → Well (change f)
change_well f e = record { stays = λ w b i. (fits_bare b [] refl, e w ∙ i) }

-- so does an answer that a step needs, or it stops
pub needs_well : {X : Type 0} (a : Answer X) → Well (needs a)
needs_well (Is (Ok x)) = record { stays = λ w b i. (fits_bare b [] refl, i) }
needs_well (Is (Err fault)) = record { stays = λ w b i. stops_here b }
needs_well Unasked = record { stays = λ w b i. stops_here b }

-- a refusal stops
pub refuse_well : {X : Type 0} (fault : MachineFault) → Well (refuse {X = X} fault)
refuse_well fault = record { stays = λ w b i. stops_here b }

-- atoms of the state are put that bound nothing
pub look_puts_well : (f : World → List Atom) → ((w : World) → None-bounds (f w)) → Well (look f >>= puts)
look_puts_well f e = record { stays = λ w b i. (fits_bare b (f w) (e w), i) }

-- one more item is counted, or refused where there are too many
counted_as : (w : World) (b : Bool) (few : Bool) → w.is_in_file ≡ b
    → WellDone {X = Unit {0}} b (if few then Goes [] tt (record w { items = w.items + 1 }) else Refuses [] fault.TooManySteps)
counted_as w b true i = (fits_bare b [] refl, i)
counted_as w b false i = stops_here b

-- so the count of items is `Well`
pub counted_well : Well counted
counted_well = record { stays = λ w b i. counted_as w b (nat_lt w.items most_items) i }

-- one of two steps
pub if_well : {X : Type 0} (c : Bool) {one other : Step X} → Well one → Well other → Well (if c then one else other)
if_well true e f = e
if_well false e f = f

-- what items mean in each part that may still be opened is `Well`
abbrev pub WellLevels : Levels → Type 0
WellLevels [] = ⊤
WellLevels (deeper ∷ inside) = ((items : Items) → Well (deeper items)) × WellLevels inside

-- a part is opened, or refused where too many are open
pub opened_well : {X : Type 0} (levels : Levels) (part : (Items → Step (Unit {0})) → Levels → Step X) → WellLevels levels
    → ((deeper : Items → Step (Unit {0})) (inside : Levels) → ((items : Items) → Well (deeper items)) → WellLevels inside
    → Well (part deeper inside)) → Well (opened levels part)
opened_well [] part e goes = refuse_well fault.SpecTooDeep
opened_well (deeper ∷ inside) part e goes = goes deeper inside e.0 e.1

-- a %W around a step
pub failure_well : (step : Step (Unit {0})) → Well step → Well (puts (From ∷ []) >> step >> puts (Break ∷ To ∷ []))
failure_well step e = record { stays = λ w b i. by b (step w) (e.stays w b i) }
  where
    by : (b : Bool) (work : Worked (Unit {0})) → WellDone b work
        → WellDone b (follow (following (From ∷ []) work) (λ u. puts (Break ∷ To ∷ [])))
    by b (Goes atoms u v) done = (fits_failure b atoms done.0, done.1)
    by b (Refuses atoms fault) done = stops_failure b atoms done
    by b (Waits atoms) done = stops_failure b atoms done

-- the bytes of a word are put
pub bytes_well : (word : List ℕ) → Well (bytes word)
bytes_well word = puts_well (map Put word) (bytes_bare word)
