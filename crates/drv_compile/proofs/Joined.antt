use Rattle.std.proofs.Common.{◌≡◌, ◌∙◌, List, ◌++◌, ap, append_assoc, sym}

-- For all calls (src/wording.rt): texts and events that are added one after another are added together.
-- Names: `text` is what is there. `a`, `b` and `c` are what is added, one after another.

-- a function that adds three texts one after another adds their sum, as the definitions have it
pub joined : {X : Type 0} (text a b c : List X) → ((text ++ a) ++ b) ++ c ≡ text ++ ((a ++ b) ++ c)
joined text a b c = append_assoc (text ++ a) b c ∙ append_assoc text a (b ++ c) ∙ ap (λ rest. text ++ rest) (sym (append_assoc a b c))
