use Rattle.drv_gcc.proofs.Joining.{joined}
use Rattle.drv_gcc.proofs.programs.push_own_linker.Goals as goal
use Rattle.drv_gcc.specs.SpecFile.{own_linker, spec_word}
use Rattle.std.proofs.Common.{◌∙◌, ◌++◌, ap, codes}

-- `joined` adds the seven parts of the text, from the last one to the first; the name and the path are the linker's.
pub returns : goal.returns
unfolding own_linker
returns c =
    joined c.args.body.now c.push_word.new.text c.extend_from_slice-6.new.self
    (codes "fuse-ld=" ++ c.args.it.now.name ++ codes ":%{-gdrv-dirs|-gdrv-path=*:ld." ++ c.args.it.now.name ++ codes ";:"
    ++ spec_word c.args.it.now.path) (codes "};")
    (joined c.args.body.now c.extend_from_slice-5.new.self c.push_word.new.text
    (codes "fuse-ld=" ++ c.args.it.now.name ++ codes ":%{-gdrv-dirs|-gdrv-path=*:ld." ++ c.args.it.now.name ++ codes ";:")
    (spec_word c.args.it.now.path)
    (joined c.args.body.now c.extend_from_slice-4.new.self c.extend_from_slice-5.new.self
    (codes "fuse-ld=" ++ c.args.it.now.name ++ codes ":%{-gdrv-dirs|-gdrv-path=*:ld." ++ c.args.it.now.name) (codes ";:")
    (joined c.args.body.now c.extend_from_slice-3.new.self c.extend_from_slice-4.new.self
    (codes "fuse-ld=" ++ c.args.it.now.name ++ codes ":%{-gdrv-dirs|-gdrv-path=*:ld.") (c.args.it.now.name)
    (joined c.args.body.now c.extend_from_slice-2.new.self c.extend_from_slice-3.new.self (codes "fuse-ld=" ++ c.args.it.now.name)
    (codes ":%{-gdrv-dirs|-gdrv-path=*:ld.")
    (joined c.args.body.now c.extend_from_slice.new.self c.extend_from_slice-2.new.self (codes "fuse-ld=") (c.args.it.now.name)
    (c.in_ok-extend_from_slice.ensures.ok) (c.in_ok-extend_from_slice-2.ensures.ok
    ∙ ap (λ l. c.extend_from_slice.new.self ++ l) c.as_bytes.ensures)) c.in_ok-extend_from_slice-3.ensures.ok)
    (c.in_ok-extend_from_slice-4.ensures.ok ∙ ap (λ l. c.extend_from_slice-3.new.self ++ l) c.as_bytes-2.ensures))
    c.in_ok-extend_from_slice-5.ensures.ok) (c.in_ok-push_word.ensures
    ∙ ap (λ l. c.extend_from_slice-5.new.self ++ spec_word l) c.as_bytes-3.ensures)) c.in_ok-extend_from_slice-6.ensures.ok
