use Rattle.drv_gcc.proofs.Joining.{joined}
use Rattle.drv_gcc.proofs.programs.push_linker_body.Goals as goal
use Rattle.drv_gcc.specs.SpecFile.{linker_body, own_linker, program_choice}
use Rattle.std.specs.List.{flat_map}
use Rattle.std.proofs.Common.{◌++◌, codes}

-- `joined` adds the five parts of the body, from the last one to the first.
pub returns : goal.returns
unfolding linker_body
returns c =
    joined c.args.body.now c.push_choice_of.new.body c.extend_from_slice-3.new.self
    (codes "%(wrapper)%{" ++ flat_map own_linker c.args.linkers.now ++ codes "fuse-ld=*:ld.%*;"
    ++ program_choice (codes "ld") c.args.linker.now) (codes "}%(wrapped)")
    (joined c.args.body.now c.extend_from_slice-2.new.self c.push_choice_of.new.body
    (codes "%(wrapper)%{" ++ flat_map own_linker c.args.linkers.now ++ codes "fuse-ld=*:ld.%*;")
    (program_choice (codes "ld") c.args.linker.now)
    (joined c.args.body.now c.push_own_linkers.new.body c.extend_from_slice-2.new.self
    (codes "%(wrapper)%{" ++ flat_map own_linker c.args.linkers.now) (codes "fuse-ld=*:ld.%*;")
    (joined c.args.body.now c.extend_from_slice.new.self c.push_own_linkers.new.body (codes "%(wrapper)%{")
    (flat_map own_linker c.args.linkers.now) (c.in_ok-extend_from_slice.ensures.ok) c.in_ok-push_own_linkers.ensures)
    c.in_ok-extend_from_slice-2.ensures.ok) c.in_ok-push_choice_of.ensures) c.in_ok-extend_from_slice-3.ensures.ok
