use Rattle.drv_machine.proofs.Finished.{all_once, none_kept, one_added}
use Rattle.drv_machine.proofs.machine.finishing.once.Goals as goal
use Rattle.drv_machine.specs.Outcome.{once}
use Rattle.std.proofs.lemmas.Iterator.Adapters.{YieldsList-from_vec}
use Rattle.std.proofs.lemmas.Iterator.Consumers.{YieldsList-end}
use Rattle.std.proofs.lemmas.List.{map-id}
use Rattle.std.proofs.Common.{arith, [], ◌∷◌, ◌≡◌, ◌∙◌, ap, append-nil, append_assoc, sym}

-- Names: `once`: each once, at its first place. `all_once`: after the last file none is left. `none_kept`: before the first file the loop
-- has kept none, and all are left.

-- before the first file none is kept
pub loop-file-init : goal.loop-file-init
loop-file-init c rest = none_kept c.new-kept.result (once rest) c.new-kept.ensures

-- the file is kept if it is new, and the others are left: the file joins those that are left, the invariant says what they give, and
-- `one_added` moves it to those that are kept
pub loop-file-preserved : goal.loop-file-preserved
loop-file-preserved c rest =
    ap once (append_assoc c.loop-file.yielded (c.in-Some.file ∷ []) rest) ∙ c.loop-file.invariant (c.in-Some.file ∷ rest)
    ∙ one_added c.loop-file.kept c.add_once.new.words c.in-Some.file rest c.in_ok-add_once.ensures

-- all files are kept, each once
pub returns : goal.returns
returns c =
    let given = c.into_iter-file-iterator.ensures.into_iter_gives in
    let ended =
    YieldsList-end (YieldsList-from_vec {s = c.into_iter-file-iterator.result} c.into_vec-file-items.result.items given.0
    (omega (arith, given.1, c.into_vec-file-items.result.ok.0))) c.loop-file.yielded c.loop-file.file-iterator c.loop-file.yielded_by
    c.next.result c.next.new.self c.in-None.is c.next.ensures.steps in
    let all : c.loop-file.yielded ≡ c.args.files = sym (map-id c.loop-file.yielded) ∙ ended.0 ∙ c.into_vec-file-items.ensures in
    sym (ap once (sym all ∙ sym (append-nil c.loop-file.yielded)) ∙ c.loop-file.invariant []
    ∙ all_once c.loop-file.kept)
