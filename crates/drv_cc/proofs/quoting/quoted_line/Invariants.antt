use Rattle.drv_cc.specs.Front.{quoted, quoted_line}
use Rattle.drv_words.specs.Bytes.{space}
use Rattle.std.proofs.Common.{◌≡◌, ◌∷◌, ◌++◌, drop}
use Rattle.std.specs.List.{flat_map}
use Rattle.drv_cc.proofs.quoting.quoted_line.Given as goal

abbrev pub invariant-loop-word : goal.invariant-loop-word
invariant-loop-word l = l.text ++ flat_map (λ word. space ∷ quoted word) (drop l.word-index l.others) ≡ quoted_line l.words
