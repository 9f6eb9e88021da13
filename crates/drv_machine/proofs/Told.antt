use Rattle.drv_machine.proofs.CutFailures.{failures_are}
use Rattle.drv_machine.proofs.CutFiles.{Came, came, lines_around, stray_around}
use Rattle.drv_machine.proofs.CutRuns.{output_is, removed_are}
use Rattle.drv_machine.proofs.TextStretches.{are_stretched}
use Rattle.drv_machine.specs.Atoms.{atoms}
use Rattle.drv_machine.specs.Context.{Context}
use Rattle.drv_machine.specs.Cuts.{Stretched, stretch_atoms}
use Rattle.drv_machine.specs.Cutting.{Cut, NamedLine, all_taken, nothing_cut}
use Rattle.drv_machine.specs.Outcome.{cut, ends_piped, finished, groups, job, most_piped, outcome}
use Rattle.drv_machine.specs.Told.{Told, lasting_of}
use Rattle.drv_machine.specs.Working.{◌>>-◌, Answer, Atom, Goes, Refuses, Waits, Worked, World}
use Rattle.drv_machine.specs.declared.fault.MachineFault.TheVariants.{PipeTooLong, StrayPipe}
use Rattle.drv_machine.specs.declared.outcome.Outcome.{Outcome}
use Rattle.drv_syntax.specs.Tree.{Items}
use Rattle.drv_system.specs.Facts.{Facts}
use Rattle.drv_system.specs.Known.{Is, Unasked}
use Rattle.drv_words.specs.declared.plan.Command.{Command}
use Rattle.drv_words.specs.declared.plan.Job.{Job}
use Rattle.std.proofs.Common.{◌≡◌, ◌∙◌, ◌||◌, Bool, Err, List, Ok, ap, false, length, refl, sym, true}
use Rattle.std.specs.List.{flat_map, list_any}
use Rattle.std.specs.Prelude.{if◌then◌else◌, nat_lt}

-- For text_law: the job of a text is that of its list of atoms. `Told` (specs/Told) says by definitions over the whole list what output,
-- marked files, failure files and groups the job has.
-- Names: `c`: what has been cut so far. `F`: what is known of the outside. `C`: what the text is run for (switches, texts). `w`: what the
-- run of a text changes as it goes. `items`: the items of a part. `a`: an answer: what is known, a refusal, or nothing yet. `all_taken`:
-- atoms, one after another. `nothing_cut`: what has been cut before the first atom. `came`: where two steps, one after the other, give a
-- value, the first one gives one. `Came`: the value of the first of two steps, from which the second gives this one. `atoms`: what the
-- items of a whole text mean from its start. `most_piped`: the most commands of a group. `ends_piped`: no further command follows a pipe.
-- `o`: the outcome of a text. `b`: a test's value, so that `by` can go by both cases.

-- an `or` that is false has its first side false
neither : (a b : Bool) → (a || b) ≡ false → a ≡ false
neither true b e = absurd cc
neither false b e = refl

-- after the whole text no pipe is stray, and the job is made of the groups of its commands
pub record Ended (F : Facts) (C : Context) (w : World) (c : Cut) (o : Outcome) : Type 0 where
  pub none_stray : c.stray ≡ false
  pub commands : List (List Command)
  pub groups_are : groups F C c.lines ≡ Is (Ok commands)
  pub job_is : o.job ≡ job w c commands

-- for any answers F of the system, and any C that a text is run for
module _ (F : Facts) (C : Context) where
  -- the outcome with the job of these groups
  abbrev made_of : World → Cut → List (List Command) → Outcome
  made_of w c commands = record {
    job = job w c commands;
    notices = w.notices;
    outs = w.outputs;
    accumulated = w.accumulated;
    next_number =
        w.number;
    cost = w.items;
  }

  -- a cut without a stray pipe, and without a pipe that is too long, gives the job of its groups
  not_too_long : (w : World) (c : Cut) (o : Outcome) → c.stray ≡ false → Came (groups F C c.lines)
      (λ commands. if list_any (λ group. nat_lt most_piped (length group)) commands then Is (Err PipeTooLong)
      else Is (Ok (made_of w c commands))) o → Ended F C w c o
  not_too_long w c o n (commands, is, e) = by (list_any (λ group. nat_lt most_piped (length group)) commands) e
    where
      by : (b : Bool) → (if b then Is (Err PipeTooLong) else Is (Ok (made_of w c commands))) ≡ Is (Ok o) → Ended F C w c o
      by true f = absurd cc
      by false f = let same : made_of w c commands ≡ o = cc in
          record { none_stray = n; commands = commands; groups_are = is; job_is = ap (λ (x : Outcome). x.job) (sym same) }

  -- a finished cut that gives a job has no stray pipe, has groups that are found, and its job is made of them (`Ended`)
  ended_as : (w : World) (c : Cut) (o : Outcome) → finished F C w c ≡ Is (Ok o) → Ended F C w c o
  ended_as w c o e = by (c.stray || ends_piped c.lines) refl e
    where
      -- Plan: by whether a pipe is stray, which is a refusal; else the groups and the job follow.
      after : Answer Outcome
      after = groups F C c.lines >>- λ commands. if list_any (λ group. nat_lt most_piped (length group)) commands then Is (Err PipeTooLong)
          else Is (Ok (made_of w c commands))

      by : (b : Bool) → (c.stray || ends_piped c.lines) ≡ b → (if b then Is (Err StrayPipe) else after) ≡ Is (Ok o) → Ended F C w c o
      by true s f = absurd cc
      by false s f =
          not_too_long w c o (neither c.stray (ends_piped c.lines) s)
          (came (groups F C c.lines) (λ commands. if list_any (λ group. nat_lt most_piped (length group)) commands then Is (Err PipeTooLong)
          else Is (Ok (made_of w c commands))) o f)

  -- what the list says of the job: CutRuns, CutFailures and CutFiles, each for its fields
  told_as : (items : Items) (o : Outcome) (list : List Atom) (w : World) (c : Cut) → atoms F C items ≡ Goes list tt w
      → all_taken F C nothing_cut list ≡ Is (Ok c) → Stretched list → Ended F C w c o → Told F C items o
  told_as items o list w c gives cut_is made ended =
      let again : all_taken F C nothing_cut (flat_map stretch_atoms made.stretches) ≡ Is (Ok c) = ap (all_taken F C nothing_cut) made.same
      ∙ cut_is in record {
        list = list;
        world = w;
        gives = gives;
        made = made;
        output_is = output_is F C list c cut_is ∙ ap (λ (j : Job). Is (Ok j.output)) (sym ended.job_is);
        marked_are = ap (lasting_of w) (removed_are F C list c cut_is) ∙ ap (λ (j : Job). Is (Ok j.marked)) (sym ended.job_is);
        failures_are = ap (lasting_of w) (failures_are F C list c cut_is) ∙ ap (λ (j : Job). Is (Ok j.on_failure)) (sym ended.job_is);
        none_stray = stray_around F C made.stretches c made.whole again ∙ ended.none_stray;
        groups_are =
            ap (λ (a : Answer (List NamedLine)). a >>- groups F C) (lines_around F C made.stretches c made.whole again)
            ∙ ended.groups_are ∙ ap (λ (j : Job). Is (Ok j.groups)) (sym ended.job_is);
      }

  -- the job of a text that goes to its end is what its list says (`Told`): what is left of text_law once `outcome` is taken apart
  told_from : (items : Items) (o : Outcome) (list : List Atom) (w : World) → atoms F C items ≡ Goes list tt w
      → Came (all_taken F C nothing_cut list) (λ c. finished F C w c) o → Told F C items o
  told_from items o list w gives (c, is, e) = told_as items o list w c gives is (are_stretched F C items list w gives) (ended_as w c o e)

  -- a text that gives a job was processed to its end, by how its work ended
  told_by : (items : Items) (o : Outcome) (work : Worked (Unit {0})) → atoms F C items ≡ work → cut F C work ≡ Is (Ok o) → Told F C items o
  told_by items o (Goes list u w) gives e = told_from items o list w gives
      (came (all_taken F C nothing_cut list) (λ c. finished F C w c) o e)
  told_by items o (Refuses list fault) gives e = by (came (all_taken F C nothing_cut list) (λ c. Is (Err fault)) o e)
    where
      by : Came (all_taken F C nothing_cut list) (λ c. Is (Err fault)) o → Told F C items o
      by (c, is, f) = absurd cc
  told_by items o (Waits list) gives e = by (came (all_taken F C nothing_cut list) (λ c. Unasked) o e)
    where
      by : Came (all_taken F C nothing_cut list) (λ c. Unasked) o → Told F C items o
      by (c, is, f) = absurd cc

  -- a text that gives a job is processed to its end, and its list says the job
  pub told : (items : Items) (o : Outcome) → outcome F C items ≡ Is (Ok o) → Told F C items o
  told items o e = told_by items o (atoms F C items) refl e
