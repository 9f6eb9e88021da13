use Rattle.drv_machine.specs.Atoms.{added}
use Rattle.drv_machine.specs.Context.{Context}
use Rattle.drv_machine.specs.Cutting.{Cut, NamedLine}
use Rattle.drv_machine.specs.Code.Grouping.{ahead, grouped}
use Rattle.drv_machine.specs.Code.Held.{made}
use Rattle.drv_machine.specs.Outcome.{add_command, command, ends_piped, finished, groups, job, most_piped, once}
use Rattle.drv_machine.specs.Working.{◌>>-◌, Answer, World, is_among}
use Rattle.drv_machine.specs.declared.fault.MachineFault.TheVariants.{PipeTooLong}
use Rattle.drv_system.specs.Facts.{Facts}
use Rattle.drv_system.specs.Known.{Is, Unasked}
use Rattle.drv_words.specs.declared.plan.Command.{Command}
use Rattle.std.proofs.Common.{◌≡◌, ◌≤◌, ◌-◌, ◌∙◌, ◌++◌, ◌&&◌, ◌||◌, Bool, Err, arith, get_or, suc, zero, List, [], ◌∷◌, Ok, ap, append-nil}
use Rattle.std.proofs.Common.{append_assoc, false, if◌then◌else◌, length, refl, sym, true, ℕ}
use Rattle.std.proofs.lemmas.List.{length-append}
use Rattle.std.proofs.lemmas.Cmp.{nat_list_eq_equiv}
use Rattle.std.specs.Cmp.Lexicographic.{pointwise, same_text}
use Rattle.std.specs.List.{filter, list_any}
use Rattle.std.specs.Prelude.{nat_eq, nat_lt, not}

-- For the end of `run` (whole.rt): the job of a text is made of its finished cut. A loop puts the commands into groups (`grouped`: groups
-- that have ended, and commands of one that is begun), and others keep each file once and leave out the job's own temporaries.
-- Names: `C`: what the text is run for (switches, texts). `a`: an answer: what is known, a refusal, or nothing yet. `F`: what is known of
-- the outside. `A`: any type. `w`: what the run of a text changes as it goes. `c`: what has been cut so far. `is_among`: whether a word is
-- among these. `once`: each once, at its first place. `made`: the group of some commands. `add_command`: a command before the groups of
-- those after it. `f`: a test of files. `b`: a test's value, so that `by` can go by both cases.

-- the last command of a list, by its index, says whether the list ends with a pipe
ends_piped_from : (lines : List NamedLine) (n : ℕ) (last : NamedLine) → length lines ≡ suc n → last ≡ get_or lines n last
    → last.piped ≡ ends_piped lines
ends_piped_from [] n last long is = absurd (omega (arith, long))
ends_piped_from (line ∷ []) zero last long is = ap (λ l. l.piped) is
ends_piped_from (line ∷ []) (suc n) last long is = absurd (omega (arith, long))
ends_piped_from (line ∷ other ∷ lines) zero last long is = absurd (omega (arith, long))
ends_piped_from (line ∷ other ∷ lines) (suc n) last long is = ends_piped_from (other ∷ lines) n last (omega (arith, long)) is

-- the last command, by the length of the list, as the code looks at it, says whether the list ends with a pipe
pub ends_piped_last : (lines : List NamedLine) (last : NamedLine) → 1 ≤ length lines → last ≡ get_or lines (length lines - 1) last
    → last.piped ≡ ends_piped lines
ends_piped_last lines last some is = ends_piped_from lines (length lines - 1) last (omega (arith, some)) is

-- a command before the groups after it goes to the end of the group that is begun: so the loop may add it there
joined : (begun : List Command) (c : Command) (gs : List (List Command)) → ahead begun (add_command true c gs) ≡ ahead (begun ++ c ∷ []) gs
joined [] c gs = refl
joined (d ∷ begun) c gs = ap (add_command true d) (joined begun c gs)

-- a command that ends the group that is begun
alone : (begun : List Command) (c : Command) (gs : List (List Command)) → ahead begun ((c ∷ []) ∷ gs) ≡ made (begun ++ c ∷ []) ++ gs
alone [] c gs = refl
alone (d ∷ begun) c gs = ap (add_command true d) (alone begun c gs) ∙ by (begun ++ c ∷ []) refl
  where
    by : (all : List Command) → begun ++ c ∷ [] ≡ all → add_command true d (made all ++ gs) ≡ made (d ∷ all) ++ gs
    by [] e = absurd (let n = ap (λ xs. length xs) e in let m = length-append begun (c ∷ []) in omega (arith, n, m))
    by (x ∷ all) e = refl

-- commands of a group that is begun, with no group after them, are that group
pub nothing_ahead : (begun : List Command) → ahead begun [] ≡ made begun
nothing_ahead [] = refl
nothing_ahead (c ∷ []) = refl
nothing_ahead (c ∷ d ∷ begun) = ap (add_command true c) (nothing_ahead (d ∷ begun))

-- before the first command no group has ended or begun, and what the lines give is all
pub grouped_none : (done : List (List Command)) (begun : List Command) (a : Answer (List (List Command))) → done ≡ [] → begun ≡ []
    → a ≡ grouped done begun a
grouped_none done begun a e f = rw (e, f) (by a)
  where
    by : (a : Answer (List (List Command))) → a ≡ grouped [] [] a
    by (Is (Ok gs)) = refl
    by (Is (Err fault)) = refl
    by Unasked = refl

-- for any answers F of the system, and any C that a text is run for
module _ (F : Facts) (C : Context) where
  -- a command that a pipe follows, with -pipe, joins the group that is begun
  pub one_joined : (done : List (List Command)) (begun after : List Command) (line : NamedLine) (c : Command) (lines : List NamedLine)
      → (C.is_piping && line.piped) ≡ true → command F C line ≡ Is (Ok c) → after ≡ begun ++ c ∷ []
      → grouped done begun (groups F C (line ∷ lines)) ≡ grouped done after (groups F C lines)
  one_joined done begun after line c lines piped is e = rw (is, piped, e) (by (groups F C lines))
    where
      by : (a : Answer (List (List Command))) → grouped done begun (a >>- λ gs. Is (Ok (add_command true c gs)))
          ≡ grouped done (begun ++ c ∷ []) a
      by (Is (Ok gs)) = ap (λ gs. Is (Ok (done ++ gs))) (joined begun c gs)
      by (Is (Err fault)) = refl
      by Unasked = refl

  -- a command that no pipe follows, or any without -pipe, ends its group: the loop's next round
  pub one_ended : (done new : List (List Command)) (begun all after : List Command) (line : NamedLine) (c : Command)
      (lines : List NamedLine)
      → (C.is_piping && line.piped) ≡ false → command F C line ≡ Is (Ok c) → all ≡ begun ++ c ∷ [] → new ≡ done ++ made all → after ≡ []
      → grouped done begun (groups F C (line ∷ lines)) ≡ grouped new after (groups F C lines)
  one_ended done new begun all after line c lines piped is e en ea = rw (is, piped, en, e, ea) (by (groups F C lines))
    where
      by : (a : Answer (List (List Command))) → grouped done begun (a >>- λ gs. Is (Ok (add_command false c gs)))
          ≡ grouped (done ++ made (begun ++ c ∷ [])) [] a
      by (Is (Ok gs)) = ap (λ gs. Is (Ok gs)) (ap (λ gs. done ++ gs) (alone begun c gs)
          ∙ sym (append_assoc done (made (begun ++ c ∷ [])) gs))
      by (Is (Err fault)) = refl
      by Unasked = refl

  -- after the last command the group that is begun ends
  pub all_grouped : (done new : List (List Command)) (begun : List Command) → new ≡ done ++ made begun
      → grouped done begun (groups F C []) ≡ Is (Ok new)
  all_grouped done new begun e = ap (λ gs. Is (Ok gs)) (ap (λ gs. done ++ gs) (nothing_ahead begun) ∙ sym e)

  -- a cut whose pipes are right, with the groups of its commands
  module _ (w : World) (c : Cut) (commands : List (List Command)) (well : (c.stray || ends_piped c.lines) ≡ false)
      (are : groups F C c.lines ≡ Is (Ok commands)) where
    -- a group with more than the most piped commands is refused
    pub finished_long : list_any (λ group. nat_lt most_piped (length group)) commands ≡ true → finished F C w c ≡ Is (Err PipeTooLong)
    finished_long long = rw (well, are, long) refl

    -- without one the job is made of the groups
    pub finished_well : list_any (λ group. nat_lt most_piped (length group)) commands ≡ false
        → finished F C w c ≡ Is (Ok (record {
          job = job w c commands;
          notices = w.notices;
          outs = w.outputs;
          accumulated =
              w.accumulated;
          next_number = w.number;
          cost = w.items;
        }))
    finished_well short = rw (well, are, short) refl

-- Files, each once: `kept` are those that the loop has kept, `others_than kept` those that it has still to keep.

-- files without this one
abbrev without : List ℕ → List (List ℕ) → List (List ℕ)
without file files = filter (λ other. not (pointwise nat_eq file other)) files

-- the files that are not among the ones that are kept
abbrev pub others_than : List (List ℕ) → List (List ℕ) → List (List ℕ)
others_than kept files = filter (λ file. not (is_among kept file)) files

-- where no file was kept, all are others
all_others : (files : List (List ℕ)) → others_than [] files ≡ files
all_others [] = refl
all_others (file ∷ files) = ap (λ fs. file ∷ fs) (all_others files)

-- before the first file the loop has kept none, and all are left
pub none_kept : (kept files : List (List ℕ)) → kept ≡ [] → files ≡ kept ++ others_than kept files
none_kept kept files e = rw (e) (sym (all_others files))

-- filters by tests that agree leave equal lists
filter_same : {A : Type 0} (f g : A → Bool) (xs : List A) → ((x : A) → f x ≡ g x) → filter f xs ≡ filter g xs
filter_same f g [] e = refl
filter_same f g (x ∷ xs) e = ap (λ b. if b then x ∷ filter f xs else filter f xs) (e x)
    ∙ ap (λ ys. if g x then x ∷ ys else ys) (filter_same f g xs e)

-- two filters, one after the other, are one
filter_twice : {A : Type 0} (f g : A → Bool) (xs : List A) → filter f (filter g xs) ≡ filter (λ y. g y && f y) xs
filter_twice f g [] = refl
filter_twice {A = A} f g (x ∷ xs) = by (g x) (filter_twice f g xs)
  where
    by : (b : Bool) → filter f (filter g xs) ≡ filter (λ y. g y && f y) xs
        → filter f (if b then x ∷ filter g xs else filter g xs)
        ≡ (if b && f x then x ∷ filter (λ y. g y && f y) xs else filter (λ y. g y && f y) xs)
    by true others = ap (λ (ys : List A). if f x then x ∷ ys else ys) others
    by false others = others

-- to leave out a file that was kept, and then all that were kept, is to leave out those
kept_before : (kept : List (List ℕ)) (file other : List ℕ) → is_among kept file ≡ true
    → (not (pointwise nat_eq file other) && not (is_among kept other)) ≡ not (is_among kept other)
kept_before kept file other among = by (pointwise nat_eq file other) refl
  where
    by : (b : Bool) → pointwise nat_eq file other ≡ b → (not b && not (is_among kept other)) ≡ not (is_among kept other)
    by false e = refl
    by true e = sym (ap not (ap (is_among kept) (sym (same_text file other (sym e))) ∙ among))

-- a file that was kept before is not kept again
pub again : (kept : List (List ℕ)) (file : List ℕ) (files : List (List ℕ)) → is_among kept file ≡ true
    → kept ++ others_than kept (once (file ∷ files)) ≡ kept ++ others_than kept (once files)
again kept file files among =
    ap (λ fs. kept ++ fs) (ap (λ b. if not b then file ∷ others_than kept (without file (once files))
    else others_than kept (without file (once files))) among
    ∙ filter_twice (λ f. not (is_among kept f)) (λ f. not (pointwise nat_eq file f)) (once files)
    ∙ filter_same (λ f. not (pointwise nat_eq file f) && not (is_among kept f)) (λ f. not (is_among kept f)) (once files)
    (λ f. kept_before kept file f among))

-- a file that is new is left out from now on
among_more : (kept : List (List ℕ)) (file other : List ℕ)
    → (not (pointwise nat_eq file other) && not (is_among kept other)) ≡ not (is_among (kept ++ file ∷ []) other)
among_more [] file other = ap (λ b. not b && true) (nat_list_eq_equiv.symm file other) ∙ by (pointwise nat_eq other file)
  where
    by : (b : Bool) → (not b && true) ≡ not (b || false)
    by true = refl
    by false = refl
among_more (k ∷ kept) file other = by (pointwise nat_eq other k) (pointwise nat_eq file other) (is_among kept other)
    (among_more kept file other)
  where
    by : (a b c : Bool) → (not b && not c) ≡ not (is_among (kept ++ file ∷ []) other)
        → (not b && not (a || c)) ≡ not (a || is_among (kept ++ file ∷ []) other)
    by true b c e = and_false b
      where
        -- a test that fails with whatever precedes it
        and_false : (b : Bool) → (not b && false) ≡ false
        and_false true = refl
        and_false false = refl
    by false b c e = e

-- a file that was not kept before goes to the end of those that are kept
pub one_new : (kept new : List (List ℕ)) (file : List ℕ) (files : List (List ℕ)) → is_among kept file ≡ false → new ≡ kept ++ file ∷ []
    → kept ++ others_than kept (once (file ∷ files)) ≡ new ++ others_than new (once files)
one_new kept new file files among e =
    ap (λ b. kept ++ (if not b then file ∷ others_than kept (without file (once files)) else others_than kept (without file (once files))))
    among
    ∙ ap (λ fs. kept ++ file ∷ fs) (filter_twice (λ f. not (is_among kept f)) (λ f. not (pointwise nat_eq file f)) (once files)
    ∙ filter_same (λ f. not (pointwise nat_eq file f) && not (is_among kept f)) (λ f. not (is_among (kept ++ file ∷ []) f)) (once files)
    (λ f. among_more kept file f))
    ∙ sym (append_assoc kept (file ∷ []) (others_than (kept ++ file ∷ []) (once files)))
    ∙ ap (λ ks. ks ++ others_than ks (once files)) (sym e)

-- the loop's list with the next file, if that is new, and the files that are left make the same list as before
pub one_added : (kept new : List (List ℕ)) (file : List ℕ) (files : List (List ℕ)) → new ≡ added file kept
    → kept ++ others_than kept (once (file ∷ files)) ≡ new ++ others_than new (once files)
one_added kept new file files e = by (is_among kept file) refl
  where
    by : (b : Bool) → is_among kept file ≡ b → kept ++ others_than kept (once (file ∷ files)) ≡ new ++ others_than new (once files)
    by true among = again kept file files among ∙ ap (λ ks. ks ++ others_than ks (once files))
        (sym (e ∙ ap (λ b. if b then kept else kept ++ file ∷ []) among))
    by false among = one_new kept new file files among (e ∙ ap (λ b. if b then kept else kept ++ file ∷ []) among)

-- after the last file none is left: the files that the loop has kept are all, each once
pub all_once : (kept : List (List ℕ)) → kept ++ others_than kept (once []) ≡ kept
all_once kept = append-nil kept
