use Rattle.drv_machine.proofs.Steps.{then_ok}
use Rattle.drv_machine.specs.Atoms.{draw, drawn_or_new, temp_step}
use Rattle.drv_machine.specs.Context.{Context}
use Rattle.drv_machine.specs.Code.Running.{Machine, run}
use Rattle.drv_machine.specs.Temps.{folder, hex, is_drawn, last_drawn, temp_name}
use Rattle.drv_machine.specs.Working.{Step, bytes, give, look}
use Rattle.drv_machine.specs.declared.machine.naming.Drawing.TheVariants.{Anew, Once}
use Rattle.drv_machine.specs.declared.machine.naming.Drawing.{Drawing}
use Rattle.drv_machine.specs.declared.machine.naming.Drawn.{Drawn}
use Rattle.drv_syntax.specs.declared.token.TempKind.TheVariants.{PipedOut}
use Rattle.drv_syntax.specs.declared.token.TempKind.{TempKind}
use Rattle.drv_system.specs.Facts.{Facts, variable_of}
use Rattle.drv_system.specs.Known.{◌>>=◌, Is, asked}
use Rattle.drv_words.specs.Bytes.{hyphen}
use Rattle.std.proofs.Common.{◌≡◌, ◌∙◌, ◌++◌, ◌<◌, ◌+◌, List, [], ◌∷◌, None, Option, Some, ap, append_assoc, codes, drop}
use Rattle.std.proofs.Common.{Ok, get_or, length, refl, sym, take, true, ℕ}
use Rattle.std.proofs.lemmas.List.{drop_more, take-append-drop}
use Rattle.std.specs.Fmt.{decimal}
use Rattle.std.specs.Option.{option_map}
use Rattle.std.specs.Prelude.{if◌then◌else◌}

-- For `put_temp` (machine/naming.rt): the names of temporaries (%g, %u, %U, %| and %m), and which were drawn before. A drawing is `Once`,
-- one name for each suffix (%g), or `Anew`, a new name (%u); %U takes the last of those.
-- Names: `F`: what is known of the outside. `s`: the machine: what has been cut, and the world. `C`: what the text is run for (switches,
-- texts). `b`: a test's value, so that `by` can go by both cases. `last_drawn`: the last of these names that was drawn so. `folder`: the
-- folder that they are in, with a slash at its end. `is_drawn`: a name was drawn so with this suffix. `run`: runs a step after what has been cut, in its world.

-- six stretches of a name, put one after another by the code, are those of the definition
regroup : (folder cc seed bar number suffix : List ℕ) → (((((([] ++ folder) ++ cc) ++ seed) ++ bar) ++ number) ++ suffix)
    ≡ folder ++ cc ++ seed ++ bar ++ number ++ suffix
regroup folder cc seed bar number suffix = simp append_assoc

-- a name is made of its parts: the folder, cc, the seed in base 16, the number and the suffix
pub temp_named : (F : Facts) (dir : Option (List ℕ)) (seed number : ℕ) (suffix p0 p1 p2 p3 p4 p5 p6 : List ℕ)
    → variable_of F (codes "TMPDIR") ≡ Some dir
    → p0 ≡ [] → p1 ≡ p0 ++ folder dir → p2 ≡ p1 ++ codes "cc" → p3 ≡ p2 ++ hex 8 seed → p4 ≡ p3 ++ codes "_" → p5 ≡ p4 ++ decimal number
    → p6 ≡ p5 ++ suffix
    → temp_name F seed number suffix ≡ Is p6
temp_named F dir seed number suffix p0 p1 p2 p3 p4 p5 p6 known e0 e1 e2 e3 e4 e5 e6 =
    ap (λ (v : Option (Option (List ℕ))). asked v >>= λ path. Is
    (folder path ++ codes "cc" ++ hex 8 seed ++ codes "_" ++ decimal number ++ suffix)) known
    ∙ ap Is (sym (e6 ∙ ap (λ p. p ++ suffix) (e5 ∙ ap (λ p. p ++ decimal number)
    (e4 ∙ ap (λ p. p ++ codes "_") (e3 ∙ ap (λ p. p ++ hex 8 seed)
    (e2 ∙ ap (λ p. p ++ codes "cc") (e1 ∙ ap (λ p. p ++ folder dir) e0)))))
    ∙ regroup (folder dir) (codes "cc") (hex 8 seed) (codes "_") (decimal number) suffix))

-- names that are drawn in this way, with this suffix
module _ (drawing : Drawing) (suffix : List ℕ) where
  -- a name that was drawn so is the last one, if no later one was
  drawn_here : (name : Drawn) (later : List Drawn) → last_drawn drawing suffix later ≡ None → is_drawn drawing suffix name ≡ true
      → last_drawn drawing suffix (name ∷ later) ≡ Some name.path
  drawn_here name later none is = rw (none, is) refl

  -- the last one drawn later is the last one of all
  drawn_after : (front later : List Drawn) (path : List ℕ) → last_drawn drawing suffix later ≡ Some path
      → last_drawn drawing suffix (front ++ later) ≡ Some path
  drawn_after [] later path is = is
  drawn_after (name ∷ front) later path is = rw (drawn_after front later path is) refl

  -- the code looks from the end: the first name it finds that was drawn so is the last one
  pub drawn_at : (drawn : List Drawn) (i next : ℕ) (name : Drawn) (path : List ℕ) → i < length drawn → next ≡ i + 1
      → name ≡ get_or drawn i name → last_drawn drawing suffix (drop next drawn) ≡ None → is_drawn drawing suffix name ≡ true
      → path ≡ name.path
      → Some path ≡ last_drawn drawing suffix drawn
  drawn_at drawn i next name path within follows at none is same =
      let later = ap (λ k. last_drawn drawing suffix (drop k drawn)) (sym follows) ∙ none in
      let here = ap (last_drawn drawing suffix) (drop_more drawn i name within ∙ ap (λ n. n ∷ drop (i + 1) drawn) (sym at))
      ∙ drawn_here name (drop (i + 1) drawn) later is in
      ap Some same ∙ sym (drawn_after (take i drawn) (drop i drawn) name.path here)
      ∙ ap (last_drawn drawing suffix) (take-append-drop i drawn)

-- where the code finds no name, none was drawn so
pub not_found : {T : Type 0} (now : T → List ℕ) (found : Option T) (drawing : Drawing) (suffix : List ℕ) (names drawn : List Drawn)
    → option_map now found ≡ last_drawn drawing suffix names → names ≡ drawn → found ≡ None → last_drawn drawing suffix drawn ≡ None
not_found now found drawing suffix names drawn shows same none =
    ap (last_drawn drawing suffix) (sym same) ∙ sym shows ∙ ap (option_map now) none

-- where no name was drawn so, a new one is
pub none_drawn : (F : Facts) (C : Context) (s : Machine) (drawing : Drawing) (suffix : List ℕ)
    → last_drawn drawing suffix s.world.drawn ≡ None
    → run F C s (draw F C drawing suffix) ≡ run F C s (drawn_or_new F C drawing suffix)
none_drawn F C s drawing suffix none =
    sym (then_ok F C s (look (λ w. last_drawn drawing suffix w.drawn))
    (λ found. elim found as (λ x. Step (List ℕ)) [ None ↦ draw F C drawing suffix | Some path ↦ give path ]) None s
    (ap (λ (found : Option (List ℕ)). Is (Ok (found, s))) none))

-- where commands are piped, %| is a hyphen
pub piped_out : (F : Facts) (C : Context) (s : Machine) (kind : TempKind) (suffix : List ℕ) → kind ≡ PipedOut → C.is_piping ≡ true
    → run F C s (bytes (hyphen ∷ [])) ≡ run F C s (temp_step F C kind suffix)
piped_out F C s kind suffix is piping = rw (is, piping) refl
