use Rattle.drv_compile.proofs.expanding.refuse_unread.Goals as goal
use Rattle.drv_compile.specs.Texts.{unread_text}
use Rattle.drv_system.specs.Known.{Is}
use Rattle.std.proofs.Common.{◌∙◌, ap}

-- Names: `F`: what is known of the outside. `e`: that `F` extends the facts of this call. `unread_text`: a response file that is there.

-- a response file can't be read: the refusal names its path
pub returns-clause-gives : goal.returns-clause-gives
returns-clause-gives g c F e = (
  c.in-Some.path,
  c.in_ok-unread.ensures.path F e ∙ ap Is c.in-Some.is,
  c.in_ok-text.ensures
      ∙ ap (unread_text c.args.name.now) c.as_bytes.ensures,
)
