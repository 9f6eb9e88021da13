use Rattle.drv_check.proofs.Agreeing.{Follows, Loads, One, OpensFrom, carried_of, joins, loads_join, loads_set}
use Rattle.drv_check.proofs.Agreeing.{noted_faults, one_as}
use Rattle.drv_check.proofs.Agreeing.{same_in}
use Rattle.drv_check.proofs.PiecesRead.{checked_read}
use Rattle.drv_check.proofs.UntilBad.{carried_alike}
use Rattle.drv_check.proofs.PiecesChecked.{begins, names_kept, names_next, pieces_kept, pieces_next}
use Rattle.drv_check.specs.Agreement.{all_loaded, faults_of}
use Rattle.drv_check.specs.Checks.{Limit, all_called, by_text, called, entered, enters_at, file_checked, is_full, open_file, opened_of}
use Rattle.drv_check.specs.Checks.{pieces_checked, step, was_read}
use Rattle.drv_check.specs.Numbers.{AreRead}
use Rattle.drv_check.specs.declared.findings.Checking.{Checking}
use Rattle.drv_check.specs.declared.findings.Spot.{Spot}
use Rattle.drv_check.specs.declared.opening.OpenFile.{OpenFile}
use Rattle.drv_check.specs.declared.pieces.Piece.{Piece}
use Rattle.drv_search.specs.Search.{file_found}
use Rattle.drv_search.specs.declared.prefixes.Prefixes.{Prefixes}
use Rattle.drv_specs.specs.Directives.{Directive, directives_of}
use Rattle.drv_specs.specs.Loading.{Carried, all_carried, carried, file_carried, file_loaded, including, most_files, most_levels}
use Rattle.drv_specs.specs.Loading.{text_read, then_by}
use Rattle.drv_specs.specs.Sets.{Set}
use Rattle.drv_specs.specs.declared.directive.IfMissing.TheVariants.{Refuse}
use Rattle.drv_specs.specs.declared.directive.IfMissing.{IfMissing}
use Rattle.drv_specs.specs.declared.fault.SpecsFault.TheVariants.{IncludeTooDeep, TooManyIncludes}
use Rattle.drv_specs.specs.declared.fault.SpecsFault.{SpecsFault}
use Rattle.drv_system.specs.Facts.{Facts, read_of}
use Rattle.drv_system.specs.Known.{◌>>=◌, Is, Known, Unasked, asked}
use Rattle.drv_system.specs.declared.event.ReadAnswer.{ReadAnswer}
use Rattle.std.proofs.Common.{◌≡◌, ◌∙◌, ◌++◌, ◌∷◌, Bool, Err, List, None, Ok, Option, Result, Some, [], ap, false, length}
use Rattle.std.proofs.Common.{refl, subst}
use Rattle.std.proofs.Common.{suc, sym, true, zero, ℕ}
use Rattle.std.proofs.lemmas.Bool.{false≢true}
use Rattle.std.proofs.lemmas.List.{length-map}
use Rattle.std.specs.Prelude.{nat_le}

-- For first_fault_is_refusal (src/laws.rt): a check, wherever it ends after a fault, finds none exactly where the driver loads the files,
-- and else its refusal first.
-- Names: `F` is what is known of the outside. `prefixes` is where files are searched for. `c` is a check before a step, `c'` at the end,
-- and `d` or `c''` after the step. `file` is the open file, and `pieces` its pieces. `from` is where a file is included. `levels` is how
-- deep files may still be within one another, and `left` how many may still be read. `known` is what the driver makes of a step. `missing`
-- says what is done with a file that isn't there. `names` is the files of the call. `limit` says whether a check ends, which
-- `alike` says that faults alone decide. `faults_of` is the faults of findings, in order. `pieces_checked`, `file_checked` and `all_called`
-- are the steps of a check (specs/Checks). `Follows` and `Loads` say that a check ends as the driver does (Agreeing). `including` and
-- `all_carried` are the
-- driver's: a file that is included, and directives (drv_specs).

-- whether a check ends is decided by its faults alone
abbrev pub IsByFaults : Limit → Type 0
IsByFaults limit = (c d : Checking) → faults_of c.findings ≡ faults_of d.findings → limit c ≡ limit d

-- It is so where their number decides.
pub by_number : (most : ℕ) → IsByFaults (is_full most)
by_number most c d same =
    ap (nat_le most) (sym (length-map c.findings (λ found. found.fault)) ∙ ap length same ∙ length-map d.findings (λ found. found.fault))

module _ (F : Facts) (prefixes : Prefixes) (limit : Limit) (alike : IsByFaults limit) where
  -- what follows a step: nothing after a fault, and else the rest

  -- After a fault the check ends, as the driver does with its refusal.
  ends_here : (c c' c'' : Checking) (known : Known (Result Carried SpecsFault)) (next : Carried → Known (Result Carried SpecsFault))
      → limit c ≡ false → limit c'' ≡ true → c'' ≡ c' → Follows (faults_of c.findings) c'' known
      → Follows (faults_of c.findings) c' (then_by known next)
  ends_here c c' c'' Unasked next goes refused same first = absurd first
  ends_here c c' c'' (Is (Ok d)) next goes refused same first =
      absurd (false≢true (sym goes ∙ alike c c'' (sym first.0) ∙ refused))
  ends_here c c' c'' (Is (Err fault)) next goes refused same first =
      subst (λ x. Follows (faults_of c.findings) x (Is (Err fault))) same first

  -- What is claimed of files that are opened before a fault, for one count of levels.
  abbrev Opens : ℕ → Type 0
  Opens levels = (c : Checking) → limit c ≡ false → OpensFrom F prefixes (enters_at F prefixes limit levels) levels c

  -- What is claimed of pieces before a fault, for one count of levels.
  abbrev Checks : ℕ → Type 0
  Checks levels = (c c' : Checking) (file : OpenFile) (pieces : List Piece) (directives : List Directive) → AreRead pieces directives
      → limit c ≡ false → pieces_checked F prefixes limit levels (enters_at F prefixes limit levels) c file pieces ≡ Is c'
      → Follows (faults_of c.findings) c' (all_carried (including F prefixes levels) (carried_of c) directives)

  -- The pieces of a file, where the files that they include are known to agree: each is one step, which ends or goes on.
  checks_at : (levels : ℕ) → Opens levels → Checks levels
  checks_at levels opens c c' file [] [] are goes is =
      subst (λ x. Follows (faults_of c.findings) x (Is (Ok (carried_of c)))) (same_in is) (refl, refl)
  checks_at levels opens c c' file [] (directive ∷ directives) are goes is = absurd are
  checks_at levels opens c c' file (piece ∷ pieces) [] are goes is = absurd are
  checks_at levels opens c c' file (piece ∷ pieces) (directive ∷ directives) are goes is =
      by_step (λ c'' well more. checks_at levels opens c'' c' file pieces directives are.1 well more)
      (step F prefixes levels c file piece) refl
      (sym (pieces_next F prefixes limit levels (enters_at F prefixes limit levels) c file piece pieces goes) ∙ is)
    where
      -- Plan: `by_step` goes by whether the step of the piece is known, `by_entered` by whether the check of what it opens is, and `by_end`
      -- by whether the check is refused then.
      by_end : ((d : Checking) → limit d ≡ false
          → pieces_checked F prefixes limit levels (enters_at F prefixes limit levels) d file pieces ≡ Is c'
          → Follows (faults_of d.findings) c' (all_carried (including F prefixes levels) (carried_of d) directives))
          → (c'' : Checking) → One F prefixes (enters_at F prefixes limit levels) levels c file piece c''
          → pieces_checked F prefixes limit levels (enters_at F prefixes limit levels) c'' file pieces ≡ Is c' → (t : Bool) → limit c'' ≡ t
          → Follows (faults_of c.findings) c' (all_carried (including F prefixes levels) (carried_of c) (directive ∷ directives))
      by_end later c'' one more true refused =
          ends_here c c' c'' (carried (including F prefixes levels) (carried_of c) directive)
          (λ d. all_carried (including F prefixes levels) d directives) goes refused
          (same_in (sym (pieces_kept F prefixes limit levels (enters_at F prefixes limit levels) c'' file pieces refused) ∙ more))
          (one_as F prefixes (enters_at F prefixes limit levels) levels c (opens c goes) c'' file piece directive are.0 one)
      by_end later c'' one more false well =
          joins (faults_of c.findings) c'' c' (carried (including F prefixes levels) (carried_of c) directive)
          (λ d. all_carried (including F prefixes levels) d directives)
          (one_as F prefixes (enters_at F prefixes limit levels) levels c (opens c goes) c'' file piece directive are.0 one)
          (later c'' well more)

      by_entered : ((d : Checking) → limit d ≡ false
          → pieces_checked F prefixes limit levels (enters_at F prefixes limit levels) d file pieces ≡ Is c'
          → Follows (faults_of d.findings) c' (all_carried (including F prefixes levels) (carried_of d) directives))
          → (next : Checking × Option OpenFile) → step F prefixes levels c file piece ≡ Is next → (known : Known Checking)
          → entered (enters_at F prefixes limit levels) next.0 next.1 ≡ known
          → (known >>= λ c''. pieces_checked F prefixes limit levels (enters_at F prefixes limit levels) c'' file pieces) ≡ Is c'
          → Follows (faults_of c.findings) c' (all_carried (including F prefixes levels) (carried_of c) (directive ∷ directives))
      by_entered later next steps Unasked enters more = absurd cc
      by_entered later next steps (Is c'') enters more =
          by_end later c'' (ap (λ k. k >>= λ n. entered (enters_at F prefixes limit levels) n.0 n.1) steps ∙ enters) more (limit c'') refl

      by_step : ((d : Checking) → limit d ≡ false
          → pieces_checked F prefixes limit levels (enters_at F prefixes limit levels) d file pieces ≡ Is c'
          → Follows (faults_of d.findings) c' (all_carried (including F prefixes levels) (carried_of d) directives))
          → (known : Known (Checking × Option OpenFile)) → step F prefixes levels c file piece ≡ known
          → (known >>= λ next. entered (enters_at F prefixes limit levels) next.0 next.1
          >>= λ c''. pieces_checked F prefixes limit levels (enters_at F prefixes limit levels) c'' file pieces) ≡ Is c'
          → Follows (faults_of c.findings) c' (all_carried (including F prefixes levels) (carried_of c) (directive ∷ directives))
      by_step later Unasked steps more = absurd cc
      by_step later (Is next) steps more = by_entered later next steps (entered (enters_at F prefixes limit levels) next.0 next.1) refl more

  -- an included file

  -- Too deep: both note the same fault.
  opens_none : Opens zero
  unfolding including
  opens_none c goes c' from missing name is =
      subst (λ x. Follows (faults_of c.findings) x (Is (Err IncludeTooDeep))) (same_in is) ([], noted_faults c from IncludeTooDeep)

  -- What the check makes of an included file's text.
  abbrev opens_text : ℕ → ℕ → Checking → Option Spot → List ℕ → Result (List ℕ) SpecsFault → Known Checking
  opens_text levels left c from path text =
      Is (by_text (record c { files = left }) from path text) >>= λ next. entered (file_checked F prefixes limit levels) next.0 next.1

  -- The text of an included file, or why it has none.
  by_result : (levels left : ℕ) → Checks levels → (c c' : Checking) (from : Option Spot) (path : List ℕ)
      (text : Result (List ℕ) SpecsFault)
      → limit c ≡ false → opens_text levels left c from path text ≡ Is c'
      → Follows (faults_of c.findings) c'
      (then_by (Is text) (λ t. all_carried (including F prefixes levels) (record { set = c.set; files = left }) (directives_of t)))
  by_result levels left checks c c' from path (Err fault) goes is =
      subst (λ x. Follows (faults_of c.findings) x (Is (Err fault))) (same_in is) ([], noted_faults (record c { files = left }) from fault)
  by_result levels left checks c c' from path (Ok text) goes is =
      let read = checked_read text in
      subst (λ known. Follows (faults_of c.findings) c' known)
      (carried_alike (including F prefixes levels) read.0 (directives_of text) (record { set = c.set; files = left }) read.2)
      (checks (record c {
        files = left;
        sources = c.sources ++ record { name = path; text = text; from = from } ∷ [];
      }) c'
      (record (open_file (length c.sources) text) { again = was_read c.sources path }) (open_file (length c.sources) text).pieces read.0
      read.1
      (alike (record c {
        files = left;
        sources = c.sources ++ record { name = path; text = text; from = from } ∷ [];
      }) c refl ∙ goes)
      (begins F prefixes limit levels
      (record c {
        files = left;
        sources = c.sources ++ record { name = path; text = text; from = from } ∷ [];
      })
      (record (open_file (length c.sources) text) { again = was_read c.sources path }) ∙ is))

  module _ (levels left : ℕ) (checks : Checks levels) (c c' : Checking) (from : Option Spot) (missing : IfMissing) (name : List ℕ)
      (well : limit c ≡ false) where
    abbrev texts : Known (List ℕ) → Known (List ℕ × Result (List ℕ) SpecsFault)
    texts known = known >>= λ path. asked (read_of F path) >>= λ answer. Is (path, text_read missing path answer)

    abbrev goes : Known (List ℕ × Result (List ℕ) SpecsFault) → Known Checking
    goes known =
        (known >>= λ found. Is (by_text (record c { files = left }) from found.0 found.1))
        >>= λ next. entered (file_checked F prefixes limit levels) next.0 next.1

    -- By what the system answered for its path.
    by_answer : (path : List ℕ) (answer : Option ReadAnswer) → goes (asked answer >>= λ a. Is (path, text_read missing path a)) ≡ Is c'
        → Follows (faults_of c.findings) c' (then_by (asked answer >>= λ a. Is (text_read missing path a))
        (λ t. all_carried (including F prefixes levels) (record { set = c.set; files = left }) (directives_of t)))
    by_answer path None is = absurd cc
    by_answer path (Some answer) is = by_result levels left checks c c' from path (text_read missing path answer) well is

    -- By whether its path is known.
    by_path : (known : Known (List ℕ)) → goes (texts known) ≡ Is c'
        → Follows (faults_of c.findings) c' (then_by (known >>= λ path. asked (read_of F path) >>= λ a. Is (text_read missing path a))
        (λ t. all_carried (including F prefixes levels) (record { set = c.set; files = left }) (directives_of t)))
    by_path Unasked is = absurd cc
    by_path (Is path) is = by_answer path (read_of F path) is

  -- By how many files may still be read.
  by_files : (levels : ℕ) → Checks levels → (n : ℕ) (c c' : Checking) (from : Option Spot) (missing : IfMissing) (name : List ℕ)
      → limit c ≡ false
      → (opened_of F prefixes n c from (record { if_missing = missing; file = name })
      >>= λ next. entered (file_checked F prefixes limit levels) next.0 next.1) ≡ Is c'
      → Follows (faults_of c.findings) c' (file_carried F prefixes (including F prefixes levels) c.set n missing name)
  by_files levels checks zero c c' from missing name goes is =
      subst (λ x. Follows (faults_of c.findings) x (Is (Err TooManyIncludes))) (same_in is) ([], noted_faults c from TooManyIncludes)
  by_files levels checks (suc left) c c' from missing name goes is =
      by_path levels left checks c c' from missing name goes (file_found F prefixes name) is

  -- So one more level agrees, where the levels below do.
  opens_some : (levels : ℕ) → Checks levels → Opens (suc levels)
  unfolding including
  opens_some levels checks c goes c' from missing name is = by_files levels checks c.files c c' from missing name goes is

  -- And all levels agree.
  all_open : (levels : ℕ) → Opens levels
  all_open zero = opens_none
  all_open (suc levels) = opens_some levels (checks_at levels (all_open levels))

  -- the files of the call

  -- One file of the call is loaded as the driver loads it.
  one_loads : (c c' : Checking) (name : List ℕ) → limit c ≡ false → called F prefixes limit c name ≡ Is c'
      → Loads F prefixes (faults_of c.findings) c' (file_loaded F prefixes c.set name)
  unfolding file_loaded
  one_loads c c' name goes is =
      loads_set F prefixes (faults_of c.findings) c' _
      (all_open most_levels (record c { files = most_files }) (alike (record c { files = most_files }) c refl ∙ goes) c' None Refuse name
      is)

  -- After a fault the call ends, as the driver does with its refusal.
  pub loading_ends : (c c' c'' : Checking) (known : Known (Result Set SpecsFault)) (next : Set → Known (Result Set SpecsFault))
      → limit c ≡ false → limit c'' ≡ true → c'' ≡ c' → Loads F prefixes (faults_of c.findings) c'' known
      → Loads F prefixes (faults_of c.findings) c' (then_by known next)
  loading_ends c c' c'' Unasked next goes refused same first = absurd first
  loading_ends c c' c'' (Is (Ok set)) next goes refused same first =
      absurd (false≢true (sym goes ∙ alike c c'' (sym first.0) ∙ refused))
  loading_ends c c' c'' (Is (Err fault)) next goes refused same first =
      subst (λ x. Loads F prefixes (faults_of c.findings) x (Is (Err fault))) same first

  -- The files of the call agree, one after another.
  pub all_load : (c c' : Checking) (names : List (List ℕ)) → limit c ≡ false → all_called F prefixes limit c names ≡ Is c'
      → Loads F prefixes (faults_of c.findings) c' (all_loaded F prefixes c.set names)
  all_load c c' [] goes is = subst (λ x. Loads F prefixes (faults_of c.findings) x (Is (Ok c.set))) (same_in is) (refl, refl)
  all_load c c' (name ∷ names) goes is =
      by (λ d well more. all_load d c' names well more) (called F prefixes limit c name) refl
      (sym (names_next F prefixes limit c name names goes) ∙ is)
    where
      -- Plan: `by` goes by whether the check of the file is known, and `by_end` by whether it is refused then.
      by_end : ((d : Checking) → limit d ≡ false → all_called F prefixes limit d names ≡ Is c'
          → Loads F prefixes (faults_of d.findings) c' (all_loaded F prefixes d.set names))
          → (c'' : Checking) → called F prefixes limit c name ≡ Is c'' → all_called F prefixes limit c'' names ≡ Is c' → (t : Bool)
          → limit c'' ≡ t
          → Loads F prefixes (faults_of c.findings) c' (all_loaded F prefixes c.set (name ∷ names))
      by_end later c'' calls more true refused =
          loading_ends c c' c'' (file_loaded F prefixes c.set name) (λ set. all_loaded F prefixes set names) goes refused
          (same_in (sym (names_kept F prefixes limit c'' names refused) ∙ more)) (one_loads c c'' name goes calls)
      by_end later c'' calls more false well =
          loads_join F prefixes (faults_of c.findings) c'' c' (file_loaded F prefixes c.set name)
          (λ set. all_loaded F prefixes set names)
          (one_loads c c'' name goes calls) (later c'' well more)

      by : ((d : Checking) → limit d ≡ false → all_called F prefixes limit d names ≡ Is c'
          → Loads F prefixes (faults_of d.findings) c' (all_loaded F prefixes d.set names))
          → (known : Known Checking) → called F prefixes limit c name ≡ known
          → (known >>= λ c''. all_called F prefixes limit c'' names) ≡ Is c'
          → Loads F prefixes (faults_of c.findings) c' (all_loaded F prefixes c.set (name ∷ names))
      by later Unasked calls more = absurd cc
      by later (Is c'') calls more = by_end later c'' calls more (limit c'') refl
