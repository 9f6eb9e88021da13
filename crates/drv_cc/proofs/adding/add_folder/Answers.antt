use Rattle.drv_cc.proofs.adding.add_folder.Goals as goal
use Rattle.drv_cc.specs.Code.Looking.{words_for}
use Rattle.drv_cc.specs.Front.{library_words, named_folder}
use Rattle.std.proofs.Common.{◌≡◌, ◌++◌, ◌∙◌, ap, sym}

-- Names: `words_for`: the words for a folder of a path, by what is looked for there. `library_words`: the word for a folder of
-- LIBRARY_PATH.

pub returns-in_ok-add_joined-in-Libraries : goal.returns-in_ok-add_joined-in-Libraries
returns-in_ok-add_joined-in-Libraries c =
    let same : words_for c.args.looked_for (named_folder c.args.folder.now) ≡ library_words (named_folder c.args.folder.now) =
    ap (λ l. words_for l (named_folder c.args.folder.now)) c.in-Libraries.is in
    c.in_ok-add_joined-in-Libraries.ensures ∙ ap (λ folder. c.args.words.now ++ library_words folder) c.named_folder.ensures
    ∙ ap (λ w. c.args.words.now ++ w) (sym same)
