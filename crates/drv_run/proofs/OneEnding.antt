use Rattle.drv_args.proofs.OneExpansion.{refused_once, responds_alone, responds_once}
use Rattle.drv_args.specs.Expansion.{Expands, Refuses as RefusesExpansion}
use Rattle.drv_args.specs.Lines.{line_read}
use Rattle.drv_args.specs.declared.fault.ArgsFault.{ArgsFault}
use Rattle.drv_args.specs.declared.line.Expanded.{Expanded}
use Rattle.drv_args.specs.declared.line.Line.{Line}
use Rattle.drv_c99.specs.declared.fault.C99Fault.{C99Fault}
use Rattle.drv_plan.specs.declared.fault.PlanFault.{PlanFault}
use Rattle.drv_run.specs.Drives.{Drives, Refuses, Words, after_c99, fronted, is_c99, not_expanded, not_fronted, not_loaded, not_planned}
use Rattle.drv_run.specs.Drives.{not_read, specs_of, work_of}
use Rattle.drv_run.specs.declared.ending.Refusal.TheVariants.{Args, C99 as NoFront, Plan as NoPlan, Specs as NoSpecs}
use Rattle.drv_run.specs.declared.ending.Refusal.{Refusal}
use Rattle.drv_run.specs.declared.work.Work.{Work}
use Rattle.drv_specs.specs.Sets.{Set}
use Rattle.drv_specs.specs.declared.fault.SpecsFault.{SpecsFault}
use Rattle.drv_system.specs.Facts.{Facts}
use Rattle.drv_system.specs.Known.{Is}
use Rattle.std.proofs.Common.{◌≡◌, ◌∙◌, Bool, Err, List, Ok, Result, ap, nat_lt, sym, ℕ}

-- For one_ending: arguments ask for one work or are refused for one reason, and never both. The lemmas go step by step: words, line, specs,
-- work; each step has one result.
-- Names: `F` is what is known of the outside before the call. `args` is the arguments of the call. `seed` is the number from which names of
-- temporaries are made. `a` is the words of the line, and `b` these words a second time. `line` is the line, and `line'` the line a second
-- time. `fault` is a refusal. `Words F args words`: the arguments give these words. `line_read words` is the line of words, or a refusal.
-- `after_c99 args` is the arguments without --c99. `Expands` says what an expansion of response files gives. `work_of` is the work for a
-- line with its specs. `fronted is_c99 words` turns words of c99 into the driver's. `is_c99 args` says that the first argument is --c99.

-- words, whether a response file replaced one, and the names of these files
abbrev expanded_by : (words : List (List ℕ)) (from_file : Bool) (files : List (List ℕ)) → Expanded
expanded_by words from_file files = record { words = words; from_file = from_file; files = files }

-- arguments expand to one list of words
one_expanded : (F : Facts) (args : List (List ℕ)) (a b : Expanded) → Expands F 2000 args (Ok a) → Expands F 2000 args (Ok b) → a ≡ b
one_expanded F args a b (left, responds, is) (left', responds', is') =
    let same = responds_once F 2000 left left' args a.words b.words a.files b.files responds responds' in
    ap (λ words. expanded_by words a.from_file a.files) same.1
    ∙ ap (λ from_file. expanded_by b.words from_file a.files) (is ∙ ap (λ n. nat_lt n 2000) same.0 ∙ sym is')
    ∙ ap (expanded_by b.words b.from_file) same.2

-- what the front of c99 makes of one expansion
one_front : (F : Facts) (args : List (List ℕ)) (a b : Expanded) (front front' : Result Expanded C99Fault)
    → Expands F 2000 (after_c99 args) (Ok a) → Expands F 2000 (after_c99 args) (Ok b) → fronted (is_c99 args) a ≡ front
    → fronted (is_c99 args) b ≡ front' → front ≡ front'
one_front F args a b front front' expands expands' fronts fronts' =
    sym fronts ∙ ap (fronted (is_c99 args)) (one_expanded F (after_c99 args) a b expands expands') ∙ fronts'

-- arguments give one list of words
one_words : (F : Facts) (args : List (List ℕ)) (a b : Expanded) → Words F args a → Words F args b → a ≡ b
one_words F args a b w v =
    let same : Ok a ≡ Ok b = one_front F args w.expanded v.expanded (Ok a) (Ok b) w.expands v.expands w.fronts v.fronts in cc

-- what the words of a line are read as
one_reading : (F : Facts) (args : List (List ℕ)) (a b : Expanded) (read read' : Result Line ArgsFault)
    → Words F args a → Words F args b → line_read a ≡ read → line_read b ≡ read' → read ≡ read'
one_reading F args a b read read' gives gives' reads reads' = sym reads ∙ ap line_read (one_words F args a b gives gives') ∙ reads'

-- words are read as one line
one_line : (F : Facts) (args : List (List ℕ)) (a b : Expanded) (line line' : Line)
    → Words F args a → Words F args b → line_read a ≡ Ok line → line_read b ≡ Ok line' → line ≡ line'
one_line F args a b line line' gives gives' reads reads' =
    let same : Ok line ≡ Ok line' = one_reading F args a b (Ok line) (Ok line') gives gives' reads reads' in cc

-- one line loads one set, or is refused for one reason
one_loading : (F : Facts) (args : List (List ℕ)) (a b : Expanded) (line line' : Line) (loaded loaded' : Result Set SpecsFault)
    → Words F args a → Words F args b → line_read a ≡ Ok line → line_read b ≡ Ok line' → specs_of F line.settings ≡ Is loaded
    → specs_of F line'.settings ≡ Is loaded' → loaded ≡ loaded'
one_loading F args a b line line' loaded loaded' gives gives' reads reads' loads loads' =
    let lines : line ≡ line' = one_line F args a b line line' gives gives' reads reads' in
    let e : Is loaded ≡ Is loaded' = sym loads ∙ ap (λ line. specs_of F line.settings) lines ∙ loads' in cc

-- one line with one set of specs asks for one work
one_work : (F : Facts) (args : List (List ℕ)) (seed : ℕ) (a b : Expanded) (line line' : Line) (set set' : Set)
    (work work' : Result Work PlanFault) → Words F args a → Words F args b → line_read a ≡ Ok line → line_read b ≡ Ok line'
    → specs_of F line.settings ≡ Is (Ok set) → specs_of F line'.settings ≡ Is (Ok set')
    → work_of F line set seed ≡ Is work → work_of F line' set' seed ≡ Is work' → work ≡ work'
one_work F args seed a b line line' set set' work work' gives gives' reads reads' loads loads' works works' =
    let lines : line ≡ line' = one_line F args a b line line' gives gives' reads reads' in
    let sets : Ok set ≡ Ok set' = one_loading F args a b line line' (Ok set) (Ok set') gives gives' reads reads' loads loads' in
    let same : set ≡ set' = cc in
    let e : Is work ≡ Is work' = sym works ∙ ap (λ line. work_of F line set seed) lines ∙ ap (λ set. work_of F line' set seed) same
    ∙ works' in cc

-- arguments ask for one work, and no other
pub driven_once : (F : Facts) (args : List (List ℕ)) (seed : ℕ) (a b : Work) → Drives F args seed a → Drives F args seed b → a ≡ b
driven_once F args seed a b d e =
    let same : Ok a ≡ Ok b = one_work F args seed d.words e.words d.line e.line d.set e.set (Ok a)
    (Ok b) d.gives e.gives d.reads e.reads d.loads e.loads d.works e.works in cc

-- words that expand are not refused in the expansion
not_both : (F : Facts) (args : List (List ℕ)) (a : Expanded) (fault : ArgsFault) → Expands F 2000 args (Ok a)
    → RefusesExpansion F 2000 args fault → ⊥
not_both F args a fault (left, responds, is) refused = responds_alone F 2000 left args a.words a.files fault responds refused

-- arguments that give words are not refused in the expansion
not_worded : (F : Facts) (args : List (List ℕ)) (a : Expanded) (fault : ArgsFault) → Words F args a
    → RefusesExpansion F 2000 (after_c99 args) fault → ⊥
not_worded F args a fault w refused = not_both F (after_c99 args) w.expanded fault w.expands refused

-- words that the front has aren't refused by it
not_fronted_twice : (F : Facts) (args : List (List ℕ)) (a b : Expanded) (fault : C99Fault)
    → Words F args a → Expands F 2000 (after_c99 args) (Ok b) → fronted (is_c99 args) b ≡ Err fault → ⊥
not_fronted_twice F args a b fault w expands fronts =
    let same : Ok a ≡ Err fault = one_front F args w.expanded b (Ok a) (Err fault) w.expands expands w.fronts fronts in cc

-- words that are read aren't refused as they are read
not_read_twice : (F : Facts) (args : List (List ℕ)) (a b : Expanded) (line : Line) (fault : ArgsFault)
    → Words F args a → Words F args b → line_read a ≡ Ok line → line_read b ≡ Err fault → ⊥
not_read_twice F args a b line fault gives gives' reads reads' =
    let same : Ok line ≡ Err fault = one_reading F args a b (Ok line) (Err fault) gives gives' reads reads' in cc

-- specs that are loaded are not refused
not_loaded_twice : (F : Facts) (args : List (List ℕ)) (a b : Expanded) (line line' : Line) (set : Set) (fault : SpecsFault)
    → Words F args a → Words F args b → line_read a ≡ Ok line → line_read b ≡ Ok line' → specs_of F line.settings ≡ Is (Ok set)
    → specs_of F line'.settings ≡ Is (Err fault) → ⊥
not_loaded_twice F args a b line line' set fault gives gives' reads reads' loads loads' =
    let same : Ok set ≡ Err fault = one_loading F args a b line line' (Ok set) (Err fault) gives gives' reads reads' loads loads' in cc

-- arguments that ask for a work are not refused
pub driven_alone : (F : Facts) (args : List (List ℕ)) (seed : ℕ) (work : Work) (refusal : Refusal) → Drives F args seed work
    → Refuses F args seed refusal → ⊥
driven_alone F args seed work (Args fault) d (not_expanded refused) = not_worded F args d.words fault d.gives refused
driven_alone F args seed work (Args fault) d (not_read {words = w} gives reads) =
    not_read_twice F args d.words w d.line fault d.gives gives d.reads reads
driven_alone F args seed work (NoFront fault) d (not_fronted {expanded = e} expands fronts) =
    not_fronted_twice F args d.words e fault d.gives expands fronts
driven_alone F args seed work (NoSpecs fault) d (not_loaded {words = w} {line = line} gives reads loads) =
    not_loaded_twice F args d.words w d.line line d.set fault d.gives gives d.reads reads d.loads loads
driven_alone F args seed work (NoPlan fault) d (not_planned {words = w} {line = line} {set = set} gives reads loads works) =
    let same : Ok work ≡ Err fault = one_work F args seed d.words w d.line line d.set set (Ok work)
    (Err fault) d.gives gives d.reads reads d.loads loads d.works works in cc

-- arguments are refused for one reason
pub refused_for_one : (F : Facts) (args : List (List ℕ)) (seed : ℕ) (r s : Refusal) → Refuses F args seed r → Refuses F args seed s → r ≡ s
refused_for_one F args seed (Args f) (Args g) (not_expanded refused) (not_expanded refused') =
    ap Args (refused_once F 2000 (after_c99 args) f g refused refused')
refused_for_one F args seed (Args f) (Args g) (not_expanded refused) (not_read {words = w} gives reads) =
    absurd (not_worded F args w f gives refused)
refused_for_one F args seed (Args f) (NoFront g) (not_expanded refused) (not_fronted {expanded = e} expands fronts) =
    absurd (not_both F (after_c99 args) e f expands refused)
refused_for_one F args seed (Args f) (NoSpecs g) (not_expanded refused) (not_loaded {words = w} gives reads loads) =
    absurd (not_worded F args w f gives refused)
refused_for_one F args seed (Args f) (NoPlan g) (not_expanded refused) (not_planned {words = w} gives reads loads works) =
    absurd (not_worded F args w f gives refused)
refused_for_one F args seed (NoFront f) (Args g) (not_fronted {expanded = e} expands fronts) (not_expanded refused) =
    absurd (not_both F (after_c99 args) e g expands refused)
refused_for_one F args seed (NoFront f) (Args g) (not_fronted {expanded = e} expands fronts) (not_read {words = w} gives reads) =
    absurd (not_fronted_twice F args w e f gives expands fronts)
refused_for_one F args seed (NoFront f) (NoFront g) (not_fronted {expanded = e} expands fronts)
    (not_fronted {expanded = e'} expands' fronts') =
    let same : Err f ≡ Err g = one_front F args e e' (Err f) (Err g) expands expands' fronts fronts' in
    let faults : f ≡ g = cc in ap NoFront faults
refused_for_one F args seed (NoFront f) (NoSpecs g) (not_fronted {expanded = e} expands fronts) (not_loaded {words = w} gives reads loads) =
    absurd (not_fronted_twice F args w e f gives expands fronts)
refused_for_one F args seed (NoFront f) (NoPlan g) (not_fronted {expanded = e} expands fronts)
    (not_planned {words = w} gives reads loads works) = absurd (not_fronted_twice F args w e f gives expands fronts)
refused_for_one F args seed (Args f) (Args g) (not_read {words = w} gives reads) (not_expanded refused) =
    absurd (not_worded F args w g gives refused)
refused_for_one F args seed (Args f) (Args g) (not_read {words = w} gives reads) (not_read {words = w'} gives' reads') =
    let same : Err f ≡ Err g = one_reading F args w w' (Err f) (Err g) gives gives' reads reads' in
    let faults : f ≡ g = cc in ap Args faults
refused_for_one F args seed (Args f) (NoFront g) (not_read {words = w} gives reads) (not_fronted {expanded = e} expands fronts) =
    absurd (not_fronted_twice F args w e g gives expands fronts)
refused_for_one F args seed (Args f) (NoSpecs g) (not_read {words = w} gives reads)
    (not_loaded {words = w'} {line = line} gives' reads' loads) =
    absurd (not_read_twice F args w' w line f gives' gives reads' reads)
refused_for_one F args seed (Args f) (NoPlan g) (not_read {words = w} gives reads)
    (not_planned {words = w'} {line = line} gives' reads' loads works) =
    absurd (not_read_twice F args w' w line f gives' gives reads' reads)
refused_for_one F args seed (NoSpecs f) (Args g) (not_loaded {words = w} gives reads loads) (not_expanded refused) =
    absurd (not_worded F args w g gives refused)
refused_for_one F args seed (NoSpecs f) (Args g) (not_loaded {words = w} {line = line} gives reads loads)
    (not_read {words = w'} gives' reads') =
    absurd (not_read_twice F args w w' line g gives gives' reads reads')
refused_for_one F args seed (NoSpecs f) (NoFront g) (not_loaded {words = w} gives reads loads) (not_fronted {expanded = e} expands fronts) =
    absurd (not_fronted_twice F args w e g gives expands fronts)
refused_for_one F args seed (NoSpecs f) (NoSpecs g) (not_loaded {words = w} {line = line} gives reads loads)
    (not_loaded {words = w'} {line = line'} gives' reads' loads') =
    let same : Err f ≡ Err g = one_loading F args w w' line line' (Err f) (Err g) gives gives' reads reads' loads loads' in
    let faults : f ≡ g = cc in ap NoSpecs faults
refused_for_one F args seed (NoSpecs f) (NoPlan g) (not_loaded {words = w} {line = line} gives reads loads)
    (not_planned {words = w'} {line = line'} {set = set} gives' reads' loads' works) =
    absurd (not_loaded_twice F args w' w line' line set f gives' gives reads' reads loads' loads)
refused_for_one F args seed (NoPlan f) (Args g) (not_planned {words = w} gives reads loads works) (not_expanded refused) =
    absurd (not_worded F args w g gives refused)
refused_for_one F args seed (NoPlan f) (Args g) (not_planned {words = w} {line = line} gives reads loads works)
    (not_read {words = w'} gives' reads') =
    absurd (not_read_twice F args w w' line g gives gives' reads reads')
refused_for_one F args seed (NoPlan f) (NoFront g) (not_planned {words = w} gives reads loads works)
    (not_fronted {expanded = e} expands fronts) = absurd (not_fronted_twice F args w e g gives expands fronts)
refused_for_one F args seed (NoPlan f) (NoSpecs g) (not_planned {words = w} {line = line} {set = set} gives reads loads works)
    (not_loaded {words = w'} {line = line'} gives' reads' loads') =
    absurd (not_loaded_twice F args w w' line line' set g gives gives' reads reads' loads loads')
refused_for_one F args seed (NoPlan f) (NoPlan g) (not_planned {words = w} {line = line} {set = set} gives reads loads works)
    (not_planned {words = w'} {line = line'} {set = set'} gives' reads' loads' works') =
    let same : Err f ≡ Err g = one_work F args seed w w' line line' set set' (Err f)
    (Err g) gives gives' reads reads' loads loads' works works' in
    let faults : f ≡ g = cc in ap NoPlan faults
