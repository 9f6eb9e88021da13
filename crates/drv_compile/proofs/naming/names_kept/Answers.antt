use Rattle.drv_compile.proofs.Names.{kept_so}
use Rattle.drv_compile.proofs.naming.names_kept.Goals as goal
use Rattle.std.proofs.Common.{◌∙◌, sym}

-- Names: `F`: what is known of the outside. `e`: that `F` extends the facts of this call. `some`: the clause's equation.

-- the words are read again, so the names are those of the file
pub returns-clause-names : goal.returns-clause-names
returns-clause-names g c F e known some =
    kept_so F c.args.specs.now c.args.answer.now known c.in_ok-names.names c.or_none.result
    (sym c.reads_again.ensures ∙ c.if-not-reads_again.false) some
    (c.in_ok-names.ensures.names F e) c.or_none.ensures
