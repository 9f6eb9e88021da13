use Rattle.drv_gcc.proofs.Joining.{joined}
use Rattle.drv_gcc.proofs.hiding.push_hiding_body.Goals as goal
use Rattle.drv_gcc.specs.SpecFile.{hiding_body, there_tests}
use Rattle.std.specs.List.{flat_map}
use Rattle.std.proofs.Common.{◌++◌, codes}

-- `joined` adds the four parts of the body, from the last one to the first.
pub returns : goal.returns
unfolding hiding_body
returns c =
    joined c.args.body.now c.extend_from_slice-2.new.self c.extend_from_slice-3.new.self
    (codes "%{!-gdrv-path=*:;-gdrv-dirs:%{-gdrv-path=*:%{" ++ flat_map there_tests c.args.texts.now
    ++ codes "-gdrv-none:%e-B or -specs= beside a folder of COMPILER_PATH with files of a link is not in this spec file}}")
    (codes "%<-gdrv-path=\\/* %{-gdrv-path=*:%e-B or -specs= beside a relative folder of COMPILER_PATH is not in this spec file}}")
    (joined c.args.body.now c.push_all_there.new.body c.extend_from_slice-2.new.self
    (codes "%{!-gdrv-path=*:;-gdrv-dirs:%{-gdrv-path=*:%{" ++ flat_map there_tests c.args.texts.now)
    (codes "-gdrv-none:%e-B or -specs= beside a folder of COMPILER_PATH with files of a link is not in this spec file}}")
    (joined c.args.body.now c.extend_from_slice.new.self c.push_all_there.new.body (codes "%{!-gdrv-path=*:;-gdrv-dirs:%{-gdrv-path=*:%{")
    (flat_map there_tests c.args.texts.now) (c.in_ok-extend_from_slice.ensures.ok) c.in_ok-push_all_there.ensures)
    c.in_ok-extend_from_slice-2.ensures.ok) c.in_ok-extend_from_slice-3.ensures.ok
