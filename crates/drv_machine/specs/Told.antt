use Rattle.drv_machine.specs.Atoms.{atoms}
use Rattle.drv_machine.specs.Context.{Context}
use Rattle.drv_machine.specs.Cuts.{Stretched, each, failure_files, has_stray_pipe, if_any, lines, output, path, path_of, removed}
use Rattle.drv_machine.specs.Cuts.{without_file}
use Rattle.drv_machine.specs.Outcome.{groups, lasting_files}
use Rattle.drv_machine.specs.Working.{◌>>-◌, Answer, Atom, Goes, World}
use Rattle.drv_machine.specs.declared.outcome.Outcome.{Outcome}
use Rattle.drv_syntax.specs.Tree.{Items}
use Rattle.drv_system.specs.Facts.{Facts}
use Rattle.drv_system.specs.Known.{Is}
use Rattle.std.specs.List.{flat_map}
use Rattle.std.specs.Prelude.{◌≡◌, List, Ok, false, map, ℕ}

-- The job of a text, by definitions over its whole list of atoms (this project's profile). For `text_law` of src/cut_laws.rt.

-- of these files those that are no temporaries of the job, each once
abbrev pub lasting_of : World → Answer (List (List ℕ)) → Answer (List (List ℕ))
lasting_of w found = found >>- λ files. Is (Ok (lasting_files (map (λ name. name.path) w.drawn) files))

-- the job of a text that goes to its end: its output, files and commands are those that Cuts finds in its list of atoms
pub record Told (F : Facts) (C : Context) (items : Items) (o : Outcome) : Type 0 where
  pub list : List Atom
  pub world : World
  pub gives : atoms F C items ≡ Goes list tt world
  pub made : Stretched list
  pub output_is : if_any (path F C) (output list) ≡ Is (Ok o.job.output)
  pub marked_are : lasting_of world (each (path F C) (removed list)) ≡ Is (Ok o.job.marked)
  pub failures_are :
      lasting_of world (each (path_of F C) (failure_files list)) ≡ Is (Ok o.job.on_failure)
  pub none_stray : has_stray_pipe (flat_map without_file made.stretches) ≡ false
  pub groups_are :
      (lines F C (flat_map without_file made.stretches) >>- groups F C) ≡ Is (Ok o.job.groups)
