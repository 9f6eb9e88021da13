use Rattle.drv_funcs.specs.declared.changes.Change.{Change}
use Rattle.std.specs.BTreeMap.{BTreeMap, get}
use Rattle.std.specs.Cmp.Lexicographic.{pointwise, slice_cmp}
use Rattle.std.specs.List.{filter}
use Rattle.std.specs.Option.{unwrap_or}
use Rattle.std.specs.Ordering.{nat_cmp}
use Rattle.std.specs.Prelude.{◌≡◌, List, [], ◌∷◌, ◌++◌, None, Option, Some, if◌then◌else◌, map, nat_eq, not, ℕ}

-- Words after changes that were kept. Only private clauses and the model of the outputs cite it.

-- in a list a word becomes another one, or goes
abbrev pub changed : List ℕ → Option (List ℕ) → List (List ℕ) → List (List ℕ)
changed old None words = filter (λ word. not (pointwise nat_eq word old)) words
changed old (Some new) words = map (λ word. if pointwise nat_eq word old then new else word) words

-- a list after changes, one after another
abbrev pub after_changes : List Change → List (List ℕ) → List (List ℕ)
after_changes [] words = words
after_changes (change ∷ changes) words = after_changes changes (changed change.old change.new words)

-- what becomes of a word, if there is one
abbrev pub end_of_some : (List ℕ → Option (List ℕ)) → Option (List ℕ) → Option (List ℕ)
end_of_some end None = None
end_of_some end (Some word) = end word

-- what becomes of a word by changes, one after another: a word, or nothing
abbrev pub end_by : List Change → List ℕ → Option (List ℕ)
end_by [] word = Some word
end_by (change ∷ changes) word = if pointwise nat_eq word change.old then end_of_some (end_by changes) change.new else end_by changes word

-- what becomes of a word by a map of ends, in which a word that stays has none
abbrev pub end_in : BTreeMap (List ℕ) (Option (List ℕ)) → List ℕ → Option (List ℕ)
end_in ends word = unwrap_or (get (slice_cmp nat_cmp) ends word) (Some word)

-- a map of ends gives what these changes make of each word
abbrev pub EndsBy : BTreeMap (List ℕ) (Option (List ℕ)) → List Change → Type 0
EndsBy ends changes = (word : List ℕ) → end_in ends word ≡ end_by changes word

-- the ends by the changes that follow those that are left
pub record EndsAfter (changes left : List Change) (ends : BTreeMap (List ℕ) (Option (List ℕ))) : Type 0 where
  pub following : List Change
  pub parts : left ++ following ≡ changes
  pub ends_are : EndsBy ends following
