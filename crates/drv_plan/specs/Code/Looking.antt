use Rattle.drv_plan.specs.Languages as specs
use Rattle.drv_plan.specs.Languages.{is_of_language, is_suffix_of}
use Rattle.drv_plan.specs.declared.languages.PairText.TheVariants.{Alias, Missing, Worked}
use Rattle.drv_plan.specs.declared.languages.PairText.{PairText}
use Rattle.drv_plan.specs.declared.languages.Wanted.TheVariants.{Language, Suffix}
use Rattle.drv_plan.specs.declared.languages.Wanted.{Wanted}
use Rattle.std.specs.Prelude.{Bool, List, ℕ}

-- What the code searches for among the keys of pairs, and the result. For the code alone.
-- Names: `name` is a file's name, or that of a language. `key` is the key of a pair.

-- whether a key is that of the language, or a suffix of the name
abbrev pub fits : Wanted → List ℕ → Bool
fits (Language name) key = is_of_language name.now key
fits (Suffix name) key = is_suffix_of name.now key

-- what a pair's text means: a compiler that is not there, another language, or a text
abbrev pub shown : PairText → specs.PairText
shown (Missing compiler) = specs.Missing compiler.now
shown (Alias language) = specs.Alias language.now
shown (Worked tree) = specs.Worked tree.now
