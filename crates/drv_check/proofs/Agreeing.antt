use Rattle.drv_check.proofs.LinesNumbered.{Same, name_same, pair_body_same, text_same}
use Rattle.drv_check.specs.Agreement.{Agrees, all_loaded, faults_of}
use Rattle.drv_check.specs.Checks.{Enters, changed, entered, noted, opened, put_aside, spot_in, step, stepped, with_number}
use Rattle.drv_check.specs.Includes.{inclusion_in, inclusion_of}
use Rattle.drv_check.specs.Numbers.{IsRead}
use Rattle.drv_check.specs.Points.{front_length}
use Rattle.drv_check.specs.declared.findings.Checking.{Checking}
use Rattle.drv_check.specs.declared.findings.Fault.{Fault}
use Rattle.drv_check.specs.declared.findings.Spot.{Spot}
use Rattle.drv_check.specs.declared.opening.Inclusion.{Inclusion}
use Rattle.drv_check.specs.declared.opening.OpenFile.{OpenFile}
use Rattle.drv_check.specs.declared.pieces.Piece.{Piece}
use Rattle.drv_search.specs.declared.prefixes.Prefixes.{Prefixes}
use Rattle.drv_specs.specs.Blanks.{is_blank}
use Rattle.drv_specs.specs.Directives.{Bad, Directive, Include, Pair, Rename, Text, read_settled}
use Rattle.drv_specs.specs.Lines.{settle}
use Rattle.drv_specs.specs.Loading as load
use Rattle.drv_specs.specs.Loading.{Carried, carried, file_loaded, including, loaded, most_files, set_in, then_by, worked}
use Rattle.drv_specs.specs.Sets.{Set, with_name, with_pair_body, with_text}
use Rattle.drv_specs.specs.declared.directive.IfMissing.{IfMissing}
use Rattle.drv_specs.specs.declared.fault.SpecsFault.TheVariants.{BadLine}
use Rattle.drv_specs.specs.declared.fault.SpecsFault.{SpecsFault}
use Rattle.drv_system.specs.Facts.{Facts}
use Rattle.drv_system.specs.Known.{◌>>=◌, Is, Known, Unasked}
use Rattle.std.proofs.Common.{◌≡◌, ◌∙◌, ◌++◌, ◌∷◌, Err, List, None, Ok, Option, Result, Some, [], ap, append_assoc, refl, subst, sym, ℕ}
use Rattle.std.proofs.lemmas.List.{append-nil, map-append}
use Rattle.std.specs.Prelude.{slice_get}

-- For first_fault_is_refusal (src/laws.rt): a check finds no fault exactly where the driver loads the files, and its first fault is the
-- driver's refusal.
-- Names: `F` is what is known of the outside. `prefixes` is where files are searched for. `c` is a check before a step, `c'` after it, and
-- `d` or `c''` between. `file` is the open file, and `piece` one of its pieces. `from` is where a file is included. `levels` is how deep
-- files may still be within one another, and `left` how many may still be read. `enters` is how an open file is checked. `before` is the
-- faults so far. `known` is what the driver makes of the same step, if the facts tell it. `missing` says what is done with a file
-- that isn't there. `over` is the files that are loaded first, and `names` those of the call. `faults_of` is the faults of findings, in
-- order. `including`, `carried` and `all_carried` are the driver's: a file that is included, one directive, and several (drv_specs).
-- `then_by` goes on behind a step that is not refused. `all_loaded` is files loaded by the driver. `IsRead piece directive`: the piece is
-- that directive, and `AreRead` the same of lists (specs/Numbers). `step`, `entered`, `opened` and `called` are the steps of a check
-- (specs/Checks). `Agrees` is the claim of the law.

-- what is known is one thing

-- the value that is known, or another: it shows that a known value is one value
abbrev known_or : {X : Type 0} → X → Known X → X
known_or x Unasked = x
known_or x (Is y) = y

-- Two known values that are equal know equal things: so the end of a check is named.
pub same_in : {X : Type 0} {x y : X} → Is x ≡ Is y → x ≡ y
same_in {x = x} is = ap (known_or x) is

-- the faults of findings

-- the faults of two lists, one after the other
faults_both : (first second : List Fault) → faults_of (first ++ second) ≡ faults_of first ++ faults_of second
faults_both first second = map-append (λ found. found.fault) first second

-- A fault that is noted comes last in the list of faults.
pub noted_faults : (c : Checking) (spot : Option Spot) (fault : SpecsFault)
    → faults_of (noted c spot fault).findings ≡ faults_of c.findings ++ fault ∷ []
noted_faults c spot fault = faults_both c.findings (record { spot = spot; fault = fault } ∷ [])

-- what the driver makes of it, after these faults and with these

-- what the driver carries along where the check has this: its set, and how many files it may still read
abbrev pub carried_of : Checking → Carried
carried_of c = record { set = c.set; files = c.files }

-- A check ends as the driver does: with no new fault and the driver's set, or with its refusal as the first new fault.
abbrev pub Follows : List SpecsFault → Checking → Known (Result Carried SpecsFault) → Type 0
Follows before c Unasked = ⊥
Follows before c (Is (Ok d)) = (faults_of c.findings ≡ before) × (carried_of c ≡ d)
Follows before c (Is (Err fault)) = (more : List SpecsFault) × (faults_of c.findings ≡ before ++ fault ∷ more)

-- However the driver ends, the faults so far stay at the front of the list: this lets two steps be joined.
grows : (before : List SpecsFault) (c : Checking) (known : Known (Result Carried SpecsFault)) → Follows before c known
    → (more : List SpecsFault) × (faults_of c.findings ≡ before ++ more)
grows before c Unasked follows = absurd follows
grows before c (Is (Ok d)) follows = ([], follows.0 ∙ sym (append-nil before))
grows before c (Is (Err fault)) follows = (fault ∷ follows.0, follows.1)

-- Two steps that each end as the driver does end so one after the other: the proof for a list of pieces rests on it.
pub joins : (before : List SpecsFault) (c c' : Checking) (known : Known (Result Carried SpecsFault))
    (next : Carried → Known (Result Carried SpecsFault))
    → Follows before c known → Follows (faults_of c.findings) c' (next (carried_of c)) → Follows before c' (then_by known next)
joins before c c' Unasked next first second = absurd first
joins before c c' (Is (Ok d)) next first second =
    subst (λ x. Follows before c' (next x)) first.1 (subst (λ fs. Follows fs c' (next (carried_of c))) first.0 second)
joins before c c' (Is (Err fault)) next first second =
    let later = grows (faults_of c.findings) c' (next (carried_of c)) second in (
      first.0 ++ later.0,
      later.1 ∙ ap (λ fs. fs ++ later.0) first.1 ∙ append_assoc before (fault ∷ first.0) later.0,
    )

-- a directive that includes no file

module _ (c : Checking) (file : OpenFile) (piece : Piece) where
  -- What the check makes of a piece that includes no file, where this is what the driver makes of it.
  abbrev Alone : Enters → Result Set SpecsFault → Checking → Type 0
  Alone enters result c' =
      (put_aside (changed c file piece (Is result)) >>= λ next. entered enters next.0 next.1) ≡ Is c'

  -- Where the driver changes the set, the check has the same set and no new fault.
  changed_well : (enters : Enters) (set : Set) (c' : Checking) → Alone enters (Ok set) c'
      → Follows (faults_of c.findings) c' (Is (Ok (record { set = set; files = c.files })))
  changed_well enters set c' is =
      subst (λ x. Follows (faults_of c.findings) x (Is (Ok (record { set = set; files = c.files })))) (same_in is) (refl, refl)

  -- Where the driver refuses a piece, the check notes that fault, with the number of the piece's line.
  changed_ill : (enters : Enters) (fault told : SpecsFault) (c' : Checking) → with_number piece.number fault ≡ told
      → Alone enters (Err fault) c'
      → Follows (faults_of c.findings) c' (Is (Err told))
  changed_ill enters fault told c' same is =
      subst (λ x. Follows (faults_of c.findings) x (Is (Err told))) (same_in is) (
        [],
        noted_faults c _ (with_number piece.number fault) ∙ ap (λ f. faults_of c.findings ++ f ∷ []) same,
      )

  -- In both cases the check ends as the driver does, where the fault has no line number of its own.
  changed_as : (enters : Enters) (result : Result Set SpecsFault) (c' : Checking) → Same piece.number result → Alone enters result c'
      → Follows (faults_of c.findings) c' (load.changed c.files result)
  changed_as enters (Ok set) c' same is = changed_well enters set c' is
  changed_as enters (Err fault) c' same is = changed_ill enters fault fault c' same is

-- The line number that a directive carries: it is needed where the directive is none.
abbrev number_in : Directive → ℕ
number_in (Bad n) = n
number_in (Text name body) = 0
number_in (Pair key body) = 0
number_in (Rename old new) = 0
number_in (Include missing name) = 0

-- the file that the first of directives includes
abbrev first_included : List Directive → Option Inclusion
first_included directives = inclusion_of (slice_get directives 0)

module _ (F : Facts) (prefixes : Prefixes) where
  -- a piece loaded as a text by itself

  -- a set that is loaded from one directive is the set that this makes
  pub change_alone : (result : Result Set SpecsFault)
      → then_by (then_by (load.changed most_files result) (λ d. Is (Ok d))) set_in ≡ Is result
  change_alone (Ok set) = refl
  change_alone (Err fault) = refl

  -- The driver loads a piece by itself as the one directive that the piece is.
  pub loaded_alone : (set : Set) (text : List ℕ) (directive : Directive) → settle text ≡ text → read_settled text ≡ directive ∷ []
      → loaded F prefixes set text ≡ worked F prefixes set most_files (directive ∷ [])
  unfolding loaded
  loaded_alone set text directive left is =
      ap (λ t. worked F prefixes set most_files (read_settled t)) left ∙ ap (worked F prefixes set most_files) is

  -- A check of one piece ends with this.
  abbrev pub One : Enters → ℕ → Checking → OpenFile → Piece → Checking → Type 0
  One enters levels c file piece c' = (step F prefixes levels c file piece >>= λ next. entered enters next.0 next.1) ≡ Is c'

  -- The check of a piece that includes no file changes the set by what the driver makes of the piece.
  stays : (enters : Enters) (levels : ℕ) (c c' : Checking) (file : OpenFile) (piece : Piece) (result : Result Set SpecsFault)
      → inclusion_in piece.text ≡ None
      → loaded F prefixes c.set piece.text ≡ Is result → One enters levels c file piece c'
      → Alone c file piece enters result c'
  stays enters levels c c' file piece result none loads is =
      ap (λ k. put_aside (changed c file piece k) >>= λ next. entered enters next.0 next.1) (sym loads)
      ∙ ap (λ i. stepped F prefixes levels c file piece i >>= λ next. entered enters next.0 next.1) (sym none) ∙ is

  -- how deep files may be within one another

  -- from this state (c) the check of an included file, at most `levels` deep, ends as the driver's reading of it does
  abbrev pub OpensFrom : Enters → ℕ → Checking → Type 0
  OpensFrom enters levels c = (c' : Checking) (from : Option Spot) (missing : IfMissing) (name : List ℕ)
      → (opened F prefixes levels c from (record { if_missing = missing; file = name }) >>= λ next. entered enters next.0 next.1) ≡ Is c'
      → Follows (faults_of c.findings) c' (including F prefixes levels (carried_of c) missing name)

  -- one piece ends as the driver does with its directive, where the files that it may include do
  pub one_as : (enters : Enters) (levels : ℕ) (c : Checking) → OpensFrom enters levels c
      → (c' : Checking) (file : OpenFile) (piece : Piece) (directive : Directive)
      → IsRead piece directive
      → One enters levels c file piece c'
      → Follows (faults_of c.findings) c' (carried (including F prefixes levels) (carried_of c) directive)
  one_as enters levels c opens c' file piece (Text name body) read is =
      changed_as c file piece enters (with_text c.set name body) c' (text_same piece.number c.set name body)
      (stays enters levels c c' file piece (with_text c.set name body) (ap first_included read.alone)
      (loaded_alone c.set piece.text (Text name body) read.settled read.alone ∙ change_alone (with_text c.set name body)) is)
  one_as enters levels c opens c' file piece (Pair key body) read is =
      changed_as c file piece enters (with_pair_body c.set key body) c' (pair_body_same piece.number c.set key body)
      (stays enters levels c c' file piece (with_pair_body c.set key body) (ap first_included read.alone)
      (loaded_alone c.set piece.text (Pair key body) read.settled read.alone ∙ change_alone (with_pair_body c.set key body)) is)
  one_as enters levels c opens c' file piece (Rename old new) read is =
      changed_as c file piece enters (with_name c.set old new) c' (name_same piece.number c.set old new)
      (stays enters levels c c' file piece (with_name c.set old new) (ap first_included read.alone)
      (loaded_alone c.set piece.text (Rename old new) read.settled read.alone ∙ change_alone (with_name c.set old new)) is)
  one_as enters levels c opens c' file piece (Bad n) read is =
      changed_ill c file piece enters (BadLine 1) (BadLine n) c' (ap BadLine (sym (ap number_in read.here)))
      (stays enters levels c c' file piece (Err (BadLine 1)) (ap first_included read.alone)
      (loaded_alone c.set piece.text (Bad 1) read.settled read.alone) is)
  one_as enters levels c opens c' file piece (Include missing name) read is =
      opens c' (spot_in file piece (front_length is_blank piece.text)) missing name
      (ap (λ i. stepped F prefixes levels c file piece i >>= λ next. entered enters next.0 next.1)
      (sym (ap first_included read.alone)) ∙ is)

  -- the files of the call

  -- a check of files ends as the driver's loading: with the same set and no new fault, or its refusal as the first new one
  abbrev pub Loads : List SpecsFault → Checking → Known (Result Set SpecsFault) → Type 0
  Loads before c Unasked = ⊥
  Loads before c (Is (Ok set)) = (faults_of c.findings ≡ before) × (c.set ≡ set)
  Loads before c (Is (Err fault)) = (more : List SpecsFault) × (faults_of c.findings ≡ before ++ fault ∷ more)

  -- what is carried along while a file is read becomes the set that it makes (`set_in`), where check and driver agree so far (`Follows`)
  pub loads_set : (before : List SpecsFault) (c : Checking) (known : Known (Result Carried SpecsFault)) → Follows before c known
      → Loads before c (then_by known set_in)
  loads_set before c Unasked follows = follows
  loads_set before c (Is (Ok d)) follows = (follows.0, ap (λ x. x.set) follows.1)
  loads_set before c (Is (Err fault)) follows = follows

  -- the faults before stay at the front of the list
  loads_grow : (before : List SpecsFault) (c : Checking) (known : Known (Result Set SpecsFault)) → Loads before c known
      → (more : List SpecsFault) × (faults_of c.findings ≡ before ++ more)
  loads_grow before c Unasked loads = absurd loads
  loads_grow before c (Is (Ok set)) loads = ([], loads.0 ∙ sym (append-nil before))
  loads_grow before c (Is (Err fault)) loads = (fault ∷ loads.0, loads.1)

  -- two files one after another end as the driver's loading of both
  pub loads_join : (before : List SpecsFault) (c c' : Checking) (known : Known (Result Set SpecsFault))
      (next : Set → Known (Result Set SpecsFault))
      → Loads before c known → Loads (faults_of c.findings) c' (next c.set) → Loads before c' (then_by known next)
  loads_join before c c' Unasked next first second = absurd first
  loads_join before c c' (Is (Ok set)) next first second =
      subst (λ x. Loads before c' (next x)) first.1 (subst (λ fs. Loads fs c' (next c.set)) first.0 second)
  loads_join before c c' (Is (Err fault)) next first second =
      let later = loads_grow (faults_of c.findings) c' (next c.set) second in (
        first.0 ++ later.0,
        later.1 ∙ ap (λ fs. fs ++ later.0) first.1 ∙ append_assoc before (fault ∷ first.0) later.0,
      )

  -- loading two lists of files is loading the one and then the other
  pub loaded_both : (set : Set) (first second : List (List ℕ))
      → all_loaded F prefixes set (first ++ second) ≡ then_by (all_loaded F prefixes set first) (λ next. all_loaded F prefixes next second)
  loaded_both set [] second = refl
  loaded_both set (name ∷ first) second = by (λ next. loaded_both next first second) (file_loaded F prefixes set name)
    where
      -- Plan: `by` goes by what the first file of the list gives: nothing known, a refusal, or a set.
      by : ((next : Set) → all_loaded F prefixes next (first ++ second)
          ≡ then_by (all_loaded F prefixes next first) (λ after. all_loaded F prefixes after second))
          → (known : Known (Result Set SpecsFault)) → then_by known (λ next. all_loaded F prefixes next (first ++ second))
          ≡ then_by (then_by known (λ next. all_loaded F prefixes next first)) (λ next. all_loaded F prefixes next second)
      by later Unasked = refl
      by later (Is (Err fault)) = refl
      by later (Is (Ok next)) = later next

-- a check that loads as the driver does agrees with it: the end of the law's proof
pub agrees : (F : Facts) (prefixes : Prefixes) (c : Checking) (known : Known (Result Set SpecsFault)) → Loads F prefixes [] c known
    → Agrees (faults_of c.findings) known
agrees F prefixes c Unasked loads = loads
agrees F prefixes c (Is (Ok set)) loads = loads.0
agrees F prefixes c (Is (Err fault)) loads = loads
