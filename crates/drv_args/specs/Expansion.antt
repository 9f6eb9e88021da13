use Rattle.drv_args.specs.declared.fault.ArgsFault.TheVariants.{Memory, ResponseTooLarge, TooManyFiles}
use Rattle.drv_args.specs.declared.fault.ArgsFault.{ArgsFault}
use Rattle.drv_args.specs.declared.line.Expanded.{Expanded}
use Rattle.drv_system.specs.Facts.{Facts, read_of}
use Rattle.drv_system.specs.Known.{◌>>=◌, Is, Known, asked}
use Rattle.drv_system.specs.declared.event.ReadAnswer.TheVariants.{Failed, Missing, Read, TooLarge}
use Rattle.drv_system.specs.declared.event.ReadAnswer.{ReadAnswer}
use Rattle.drv_words.specs.Bytes.{at_sign}
use Rattle.drv_words.specs.Counts.{words_in}
use Rattle.drv_words.specs.Response.{Splits}
use Rattle.std.specs.Prelude.{◌≡◌, ◌⊎◌, ◌==◌, Bool, Err, List, [], ◌∷◌, ◌++◌, None, Ok, Option, Result, Some, false, if◌then◌else◌, map}
use Rattle.std.specs.Prelude.{nat_lt, ℕ, zero}
use Rattle.std.specs.Prelude.{suc}

-- Response files (GCC manual, "Overall Options", @file; the budget and the sizes are this project's profile).

-- the file that a word @PATH names, whose path isn't empty
abbrev pub file_named : List ℕ → Option (List ℕ)
file_named [] = None
file_named (b ∷ []) = None
file_named (b ∷ c ∷ path) = if b == at_sign then Some (c ∷ path) else None

-- the replacement of a word: the word itself, the words of a file with this text, or none, since its file is too large
pub data Replacement : Type 0 where
  Itself : Replacement
  Text : List ℕ → List ℕ → Replacement
  Large : List ℕ → Replacement

-- by the answer for the file: a word whose file is missing or can't be read stays
abbrev pub by_answer : List ℕ → ReadAnswer → Replacement
by_answer path (Read text) = Text path text
by_answer path Missing = Itself
by_answer path Failed = Itself
by_answer path TooLarge = Large path

-- the replacement of a word that names this file, or none
abbrev pub by_name : Facts → Option (List ℕ) → Known Replacement
by_name F None = Is Itself
by_name F (Some path) = asked (read_of F path) >>= λ answer. Is (by_answer path answer)

-- what takes the place of a word
abbrev pub replacement_of : Facts → List ℕ → Known Replacement
replacement_of F word = by_name F (file_named word)

-- The expansion of words, with the number of replacements that are left before and after it, and the names of the files that were read, in
-- order. A word that names a text is replaced by the expansion of the text's words; any other word stays.
pub data Responds (F : Facts) : ℕ → List (List ℕ) → ℕ → List (List ℕ) → List (List ℕ) → Type 0 where
  no_word : {left : ℕ} → Responds F left [] left [] []
  itself : {left left' : ℕ} {word : List ℕ} {words out files : List (List ℕ)} → replacement_of F word ≡ Is Itself
      → Responds F left words left' out files → Responds F left (word ∷ words) left' (word ∷ out) files
  by_text : {left mid left' : ℕ} {word path text : List ℕ} {inner words out out' files files' : List (List ℕ)}
      → replacement_of F word ≡ Is (Text path text) → Splits text inner → Responds F left inner mid out files
      → Responds F mid words left' out' files' → Responds F (suc left) (word ∷ words) left' (out ++ out') (path ∷ files ++ files')

-- The first refusal in order: a file that is too large, or a replacement when none is left.
pub data Refuses (F : Facts) : ℕ → List (List ℕ) → ArgsFault → Type 0 where
  too_large : {left : ℕ} {word path : List ℕ} {words : List (List ℕ)} → replacement_of F word ≡ Is (Large path)
      → Refuses F left (word ∷ words) (ResponseTooLarge path)
  too_many : {word path text : List ℕ} {words : List (List ℕ)} → replacement_of F word ≡ Is (Text path text)
      → Refuses F zero (word ∷ words) TooManyFiles
  later : {left : ℕ} {word : List ℕ} {words : List (List ℕ)} {fault : ArgsFault} → replacement_of F word ≡ Is Itself
      → Refuses F left words fault → Refuses F left (word ∷ words) fault
  inside : {left : ℕ} {word path text : List ℕ} {inner words : List (List ℕ)} {fault : ArgsFault}
      → replacement_of F word ≡ Is (Text path text) → Splits text inner → Refuses F left inner fault
      → Refuses F (suc left) (word ∷ words) fault
  following : {left mid : ℕ} {word path text : List ℕ} {inner words out files : List (List ℕ)} {fault : ArgsFault}
      → replacement_of F word ≡ Is (Text path text) → Splits text inner → Responds F left inner mid out files → Refuses F mid words fault
      → Refuses F (suc left) (word ∷ words) fault

-- the result of an expansion with so many replacements left; `from_file` says whether a word was replaced, `files` by which files
abbrev pub Expands : Facts → ℕ → List (List ℕ) → Result Expanded ArgsFault → Type 0
Expands F left args (Ok expanded) =
    (left' : ℕ) × Responds F left args left' expanded.words expanded.files × (expanded.from_file ≡ nat_lt left' left)
Expands F left args (Err fault) = (fault ≡ Memory) ⊎ Refuses F left args fault

-- A limit on the words of one file, if there is one (gcc has none; this project's profile): a file of more words counts as one that is too
-- large.

-- whether a text has more words than the limit
abbrev pub is_over : Option ℕ → List ℕ → Bool
is_over None text = false
is_over (Some most) text = nat_lt most (words_in text)

-- a text with too many words counts as too large
abbrev pub judged : Option ℕ → ReadAnswer → ReadAnswer
judged most (Read text) = if is_over most text then TooLarge else Read text
judged most Missing = Missing
judged most Failed = Failed
judged most TooLarge = TooLarge

-- the facts with each file judged by the limit
abbrev pub limited : Option ℕ → Facts → Facts
limited None F = F
limited (Some most) F = record F { reads = map (λ pair. (pair.0, judged (Some most) pair.1)) F.reads }
