use Rattle.drv_specs.specs.Builtin.{builtin_named, builtin_pairs, builtin_specs, suffixes}
use Rattle.drv_specs.specs.Code.Tables.{all_added, all_put, languages}
use Rattle.drv_specs.specs.Sets.{Set, no_specs}
use Rattle.drv_specs.specs.declared.fault.SpecsFault.TheVariants.{Memory}
use Rattle.drv_specs.specs.declared.fault.SpecsFault.{SpecsFault}
use Rattle.std.proofs.Common.{◌≡◌, ◌⊎◌, ◌∙◌, IsErrAnd, List, [], ap, inl, inr, refl, ℕ}
use Rattle.drv_words.specs.Gives.{Gives}
use Rattle.std.specs.Prelude.{Err, Ok, Result}

-- For `builtin`: the built-in specs are what the rows of the code's tables give, put into an empty set one after another. Each text of them
-- has a tree, so none is refused.
-- Names: `set` is a set, and `rows` the rows that are left. `no_specs` is the empty set. `all_put` and `all_added` put texts, or add pairs,
-- one after another (specs/Code/Tables).

-- the built-in set before the languages that have a text
abbrev pub without_languages : Set
without_languages = record { named = builtin_named; pairs = suffixes.pairs }

-- the rows of named texts, put one after another, are those of the built-in set
pub builtin_put : all_put no_specs builtin_named ≡ Ok (record { named = builtin_named; pairs = [] })
unfolding builtin_named
builtin_put = refl

-- then the pairs that have no text to run are added
pub suffixes_put : all_added (record { named = builtin_named; pairs = [] }) suffixes.pairs ≡ Ok without_languages
unfolding builtin_pairs
suffixes_put = refl

-- then the languages that have one
pub languages_added : all_added without_languages languages ≡ Ok builtin_specs
unfolding builtin_pairs
languages_added = refl

-- the pairs that have no text to run, added to the empty set, are `suffixes`
pub suffixes_added : all_added no_specs suffixes.pairs ≡ Ok suffixes
unfolding builtin_pairs
suffixes_added = refl

-- what is given twice is the same
same_set : (s t : Set) (r : Result Set SpecsFault) → r ≡ Ok s → r ≡ Ok t → t ≡ s
same_set s t r is there = cc

-- where no row is refused, the code fails for want of memory alone
pub memory_alone : (set : Set) (given defined whole : Result Set SpecsFault) (fault : SpecsFault) → defined ≡ Ok set
    → IsErrAnd given (λ e. e ≡ fault) → (fault ≡ Memory) ⊎ (defined ≡ Err fault) → Gives Memory (λ s. s) given whole
memory_alone set (Ok s) defined whole fault is d h = absurd d
memory_alone set (Err e) defined whole fault is d (inl m) = inl (d ∙ m)
memory_alone set (Err e) defined whole fault is d (inr h) = absurd cc

-- the rows of the code, put into a set that is empty: all named texts have a tree
pub named_given : (none : Set) (rows : List (List ℕ × List ℕ)) → none ≡ no_specs → rows ≡ builtin_named
    → all_put none rows ≡ Ok (record { named = builtin_named; pairs = [] })
named_given none rows empty same = ap (λ s. all_put s rows) empty ∙ ap (λ rs. all_put no_specs rs) same ∙ builtin_put

-- and the pairs after them that have no text to run
pub pairs_given : (put : Set) (given : Result Set SpecsFault) (rows : List (List ℕ × List ℕ)) → rows ≡ suffixes.pairs
    → given ≡ Ok (record { named = builtin_named; pairs = [] }) → given ≡ Ok put → all_added put rows ≡ Ok without_languages
pairs_given put given rows same is there =
    ap (λ s. all_added s rows) (same_set _ put given is there)
    ∙ ap (λ rs. all_added (record { named = builtin_named; pairs = [] }) rs) same ∙ suffixes_put

-- and the languages after them
pub languages_given : (added : Set) (given : Result Set SpecsFault) (rows : List (List ℕ × List ℕ)) → rows ≡ languages
    → given ≡ Ok without_languages → given ≡ Ok added → all_added added rows ≡ Ok builtin_specs
languages_given added given rows same is there =
    ap (λ s. all_added s rows) (same_set _ added given is there) ∙ ap (λ rs. all_added without_languages rs) same ∙ languages_added

-- the pairs that have no text to run, added to a set that is empty
pub suffixes_given : (none : Set) (rows : List (List ℕ × List ℕ)) → none ≡ no_specs → rows ≡ suffixes.pairs
    → all_added none rows ≡ Ok suffixes
suffixes_given none rows empty same = ap (λ s. all_added s rows) empty ∙ ap (λ rs. all_added no_specs rs) same ∙ suffixes_added
