use Rattle.std.proofs.Common.{◌≡◌, ◌∙◌, List, ◌++◌, ap, append_assoc, ℕ}

-- For the texts of a spec file (src/programs.rt, src/composing.rt and others): a text to which one part and then another is added ends with
-- both.
-- Names: `first`, `second` and `third` are the text before, and after each of two steps. `one` and `other` are what these add.

-- what is added in two steps
pub joined : (first second third one other : List ℕ) → second ≡ first ++ one → third ≡ second ++ other → third ≡ first ++ (one ++ other)
joined first second third one other put more = more ∙ ap (λ l. l ++ other) put ∙ append_assoc first one other
