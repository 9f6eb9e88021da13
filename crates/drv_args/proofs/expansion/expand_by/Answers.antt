use Rattle.drv_args.proofs.Expanding.{none_expanded}
use Rattle.drv_args.proofs.expansion.expand_by.Goals as goal
use Rattle.drv_args.specs.Expansion.{file_named, limited}
use Rattle.std.proofs.Common.{◌∙◌, ap, is_some, sym}
use Rattle.std.specs.List.{list_any}

-- Names: `F`: what is known of the outside. `e`: that `F` extends the facts of this call. `none_expanded`: and the expansion is the words
-- themselves. `file_named`: the file that a word @PATH names, whose path isn't empty.

pub returns-clause-expands : goal.returns-clause-expands
returns-clause-expands g c F e =
    none_expanded (limited c.args.most F) c.args.args c.new.result c.new.ensures
    (ap (list_any (λ word. is_some (file_named word))) (sym c.as_slice.ensures) ∙ sym c.have_references.ensures
    ∙ c.if-have_references.false)
