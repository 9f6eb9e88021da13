use Rattle.drv_words.specs.Bytes as byte
use Rattle.drv_words.specs.Printed.{is_bare, is_plain}
use Rattle.std.specs.Char.{is_ascii_alphabetic}
use Rattle.std.specs.List.{flat_map, starts_with}
use Rattle.std.specs.Prelude.{◌&&◌, ◌-◌, ◌==◌, ◌||◌, Bool, List, [], ◌∷◌, ◌++◌, None, Option, Some, codes, if◌then◌else◌, length}
use Rattle.std.specs.Prelude.{nat_eq, nat_lt, option_map, suc, zero, ℕ}

-- Words of the shell's language that mean themselves: no substitution, pattern or tilde in them, and no parameter but a variable alone
-- between double quotes (POSIX XCU 2.2 "Quoting", 2.3 "Token Recognition", 2.6.2 "Parameter Expansion").
-- For clauses of src/shell.rt.

-- Reading them.

-- the values of variables by their names; that of one that isn't set is empty
abbrev pub Values : Type 0
Values = List ℕ → List ℕ

-- outside of quotes, after a backslash there, between single quotes, after a double quote, or in a variable's name after that and a dollar
pub data Place : Type 0 where
  Outside : Place
  Escaped : Place
  Quoted : Place
  Doubled : Place
  Named : List ℕ → Place

-- What a text gives from a place: the rest of the word that goes on there, if one does, and the words after it.
pub record Rest : Type 0 where
  pub going_on : Option (List ℕ)
  pub words : List (List ℕ)

-- the bytes of a word that goes on, or none
abbrev pub bytes_of : Option (List ℕ) → List ℕ
bytes_of None = []
bytes_of (Some bytes) = bytes

-- words with the one that goes on before them
abbrev pub words_of : Option (List ℕ) → List (List ℕ) → List (List ℕ)
words_of None words = words
words_of (Some bytes) words = bytes ∷ words

-- bytes before a rest belong to its word
abbrev pub after_bytes : List ℕ → Rest → Rest
after_bytes bytes rest = record { going_on = Some (bytes ++ bytes_of rest.going_on); words = rest.words }

-- no word goes on over a blank
abbrev pub after_blank : Rest → Rest
after_blank rest = record { going_on = None; words = words_of rest.going_on rest.words }

-- a byte of a variable's name: here a letter or an underscore
abbrev pub is_name_byte : ℕ → Bool
is_name_byte b = is_ascii_alphabetic b || b == byte.underscore

-- what the shell reads from a place on; None where a byte has another meaning there, or a quote isn't closed
abbrev pub read : Values → Place → List ℕ → Option Rest
read values Outside [] = Some (record { going_on = None; words = [] })
read values Escaped [] = None
read values Quoted [] = None
read values Doubled [] = None
read values (Named name) [] = None
read values Outside (b ∷ text) =
    if is_plain b then option_map (after_bytes (b ∷ [])) (read values Outside text)
    else if b == byte.space then option_map after_blank (read values Outside text)
    else if b == byte.single_quote then option_map (after_bytes []) (read values Quoted text)
    else if b == byte.double_quote then read values Doubled text
    else if b == byte.backslash then read values Escaped text
    else None
read values Escaped (b ∷ text) =
    if b == byte.newline then None else option_map (after_bytes (b ∷ [])) (read values Outside text)
read values Quoted (b ∷ text) =
    if b == byte.single_quote then option_map (after_bytes []) (read values Outside text)
    else option_map (after_bytes (b ∷ [])) (read values Quoted text)
read values Doubled (b ∷ text) = if b == byte.dollar then read values (Named []) text else None
read values (Named []) (b ∷ text) = if is_name_byte b then read values (Named (b ∷ [])) text else None
read values (Named (n ∷ name)) (b ∷ text) =
    if is_name_byte b then read values (Named (n ∷ name ++ b ∷ [])) text
    else if b == byte.double_quote then option_map (after_bytes (values (n ∷ name))) (read values Outside text)
    else None

-- the words of a text; none where a byte has a meaning of its own there, or a quote isn't closed
abbrev pub shell_words : Values → List ℕ → Option (List (List ℕ))
shell_words values text = option_map (λ rest. words_of rest.going_on rest.words) (read values Outside text)

-- Stems: bytes in words that a variable's value replaces. An empty stem is none.

-- the variable's name
abbrev pub stem_name : List ℕ
stem_name = codes "gdrv_stem"

-- whether bytes begin with the stem
abbrev pub begins : List ℕ → List ℕ → Bool
begins stem bytes = nat_lt 0 (length stem) && starts_with nat_eq bytes stem

-- a word with this value for each stem in it, first from the left, after so many bytes that are passed over
abbrev pub moved_after : List ℕ → List ℕ → ℕ → List ℕ → List ℕ
moved_after stem value skip [] = []
moved_after stem value (suc skip) (b ∷ word) = moved_after stem value skip word
moved_after stem value zero (b ∷ word) =
    if begins stem (b ∷ word) then value ++ moved_after stem value (length stem - 1) word else b ∷ moved_after stem value zero word

-- a word with this value for each stem in it
abbrev pub moved : List ℕ → List ℕ → List ℕ → List ℕ
moved stem value word = moved_after stem value 0 word

-- Writing them.

-- the variable, where there are no quotes around it
abbrev pub bare_variable : List ℕ
bare_variable = codes "\"$gdrv_stem\""

-- the variable, between single quotes: these are closed before it, and opened after it
abbrev pub quoted_variable : List ℕ
quoted_variable = codes "'\"$gdrv_stem\"'"

-- a byte between single quotes; one of these is put after a backslash, outside of them
abbrev pub quoted : ℕ → List ℕ
quoted b =
    if b == byte.single_quote then byte.single_quote ∷ byte.backslash ∷ byte.single_quote ∷ byte.single_quote ∷ []
    else b ∷ []

-- what is between single quotes, with the variable for a stem, after so many bytes that are passed over
abbrev pub inside : List ℕ → List ℕ → ℕ → List ℕ → List ℕ
inside stem variable skip [] = []
inside stem variable (suc skip) (b ∷ word) = inside stem variable skip word
inside stem variable zero (b ∷ word) =
    if begins stem (b ∷ word) then variable ++ inside stem variable (length stem - 1) word
    else quoted b ++ inside stem variable zero word

-- a word of letters, digits and ./-_ stays as it is, but for its stems
abbrev pub stem_word : List ℕ → List ℕ → List ℕ
stem_word stem word =
    if is_bare word then inside stem bare_variable 0 word
    else byte.single_quote ∷ inside stem quoted_variable 0 word ++ byte.single_quote ∷ []

-- a word after a space
abbrev pub stem_spaced : List ℕ → List ℕ → List ℕ
stem_spaced stem word = byte.space ∷ stem_word stem word

-- words, each after a space
abbrev pub stem_text : List ℕ → List (List ℕ) → List ℕ
stem_text stem = flat_map (stem_spaced stem)

-- the same without stems
abbrev pub shell_word : List ℕ → List ℕ
shell_word word = stem_word [] word

abbrev pub spaced : List ℕ → List ℕ
spaced word = stem_spaced [] word
