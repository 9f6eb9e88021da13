use Rattle.drv_cc.proofs.Folders.{next_folder, no_folder}
use Rattle.drv_cc.proofs.adding.add_path.Goals as goal
use Rattle.drv_cc.specs.Code.Looking.{words_for}
use Rattle.drv_cc.specs.Front.{folders, named_folder}
use Rattle.drv_words.specs.Bytes.{colon}
use Rattle.std.proofs.Common.{◌==◌, ◌≡◌, ◌∙◌, [], ◌∷◌, ◌++◌, Some, ap, map, rules, tests}
use Rattle.std.proofs.lemmas.Iterator.Consumers.{YieldsList-end}
use Rattle.std.proofs.lemmas.Iterator.Splits.{YieldsList-from_slice_split}
use Rattle.std.proofs.lemmas.List.{map-append}
use Rattle.std.specs.List.{flat_map}
use Rattle.std.specs.Slice.Iter.{split_callee, split_done, split_rest}

pub loop-folder-init : goal.loop-folder-init
loop-folder-init c = no_folder (words_for c.args.looked_for) c.args.words.now

pub loop-folder-preserved : goal.loop-folder-preserved
loop-folder-preserved c =
    next_folder (words_for c.args.looked_for) c.args.words.now c.loop-folder.words c.add_folder.new.words
    (map (λ folder. folder.now) c.loop-folder.yielded) _ c.in-Some-folder.folder.now
    c.loop-folder.invariant c.in_ok-add_folder.ensures
    (map-append (λ folder. folder.now) c.loop-folder.yielded (c.in-Some-folder.folder ∷ []))

-- The pieces that the loop took are all folders of the path, which is the one that was given.
pub returns : goal.returns
returns c =
    let made = c.split-folder-items.ensures in
    let given = c.into_iter-folder-iterator.ensures in
    let all = YieldsList-end (YieldsList-from_slice_split _ (λ b. b == colon) c.as_bytes.result.now
    (ap split_rest given.into_iter_gives ∙ made.rest) (ap split_done given.into_iter_gives ∙ made.done)
    (ap split_callee given.into_iter_gives ∙ made.closure) (λ x b q k. search (rules, tests)))
    c.loop-folder.yielded _ c.loop-folder.yielded_by _ _ c.in-None.is c.next.ensures.steps in
    let given_path : Some c.as_bytes.result.now ≡ c.args.path.now = search rules in
    c.loop-folder.invariant ∙ ap (λ folders. c.args.words.now ++ flat_map (words_for c.args.looked_for) (map named_folder folders)) all.0
    ∙ ap (λ path. c.args.words.now ++ flat_map (words_for c.args.looked_for) (folders path)) given_path
