use Rattle.drv_forms.specs.Shell.{stem_text}
use Rattle.std.proofs.Common.{◌≡◌, ◌++◌, drop}
use Rattle.drv_forms.proofs.shell.push_stem_words.Given as goal

abbrev pub invariant-loop-word : goal.invariant-loop-word
invariant-loop-word l = l.text.items ++ stem_text l.stem (drop l.word-index l.words) ≡ l.fn.text.items ++ stem_text l.stem l.words
