use Rattle.drv_dump.specs.Grammar.{is_of, is_white}
use Rattle.drv_dump.specs.declared.files.Ending.TheVariants.{Found, FoundObject, Other}
use Rattle.drv_dump.specs.declared.files.Ending.{Ending}
use Rattle.drv_dump.specs.declared.files.Joint.TheVariants.{Glued, Open}
use Rattle.drv_dump.specs.declared.files.Joint.{Joint}
use Rattle.drv_dump.specs.declared.files.LastWord.{LastWord}
use Rattle.drv_dump.specs.declared.piece.Kind.TheVariants as kind
use Rattle.drv_dump.specs.declared.piece.Kind.{Kind}
use Rattle.drv_dump.specs.declared.piece.Piece.{Piece}
use Rattle.std.specs.Char.{is_ascii_alphanumeric}
use Rattle.std.specs.Cmp.Lexicographic.{pointwise}
use Rattle.std.specs.List.{list_any}
use Rattle.std.specs.Prelude.{◌&&◌, ◌||◌, Bool, List, [], ◌∷◌, ◌++◌, codes, false, if◌then◌else◌, length, nat_eq, nat_lt, not, suc, true}
use Rattle.std.specs.Prelude.{zero, ℕ}

-- The files that a text of gcc looks for by their names: NAME%s and NAME%O%s (GCC manual, "Spec Files", %s). Where gcc finds one depends on
-- how gcc was built and on the machine of the line, so each becomes a named text.
-- For clauses of src/files.rt.

-- whether a byte may be in the name of a named text
abbrev pub is_name_byte : ℕ → Bool
is_name_byte b = is_ascii_alphanumeric b || is_of (codes "_.+-") b

-- a text up to its last word, and that word
abbrev pub split_from : List ℕ → List ℕ → List ℕ → LastWord
split_from front word [] = record { front = front; word = word }
split_from front word (b ∷ text) = if is_white b then split_from ((front ++ word) ++ b ∷ []) [] text
    else split_from front (word ++ b ∷ []) text

-- what follows %O after a word: an object is looked for if it is %s
abbrev pub second_ending : List Piece → Ending
second_ending [] = Other
second_ending (second ∷ rest) = if pointwise nat_eq second.bytes (codes "%s") then FoundObject else Other

-- what follows a word: %s (a file is looked for), %O%s (an object is), or anything else
abbrev pub ending_of : List Piece → Ending
ending_of [] = Other
ending_of (first ∷ rest) =
    if pointwise nat_eq first.bytes (codes "%s") then Found
    else if pointwise nat_eq first.bytes (codes "%O") then second_ending rest else Other

-- the last word is whole, and has only bytes that the name of a named text may have
abbrev pub is_other_byte : ℕ → Bool
is_other_byte b = not (is_name_byte b)

-- whether a word may be the name of a named text: it has a byte, and no other bytes than those
abbrev pub is_name : List ℕ → Bool
is_name word = nat_lt 0 (length word) && not (list_any is_other_byte word)

-- whether a text's last word is whole: another piece before it may be the word's beginning
abbrev pub is_whole_word : Joint → List ℕ → Bool
is_whole_word Open front = true
is_whole_word Glued front = nat_lt 0 (length front)

-- whether a text ends in a whole name
abbrev pub ends_in_name : Joint → LastWord → Bool
ends_in_name joint last = is_name last.word && is_whole_word joint last.front

-- whether a piece is of plain bytes, in which alone a file's name may be
abbrev pub is_text : Kind → Bool
is_text kind.Text = true
is_text kind.Directive = false
is_text kind.Message = false
is_text kind.NamedText = false
is_text kind.LinkerOption = false
is_text kind.Call = false
is_text kind.TestCall = false
is_text kind.NegatedCall = false
is_text kind.Opening = false
is_text kind.Blank = false
is_text kind.Negation = false
is_text kind.Test = false
is_text kind.Either = false
is_text kind.Both = false
is_text kind.Then = false
is_text kind.Otherwise = false
is_text kind.Closing = false

-- what follows a piece, if its last word is the name of a file
abbrev pub ending_in : Joint → Piece → List Piece → Ending
ending_in joint piece rest = if is_text piece.kind && ends_in_name joint (split_from [] [] piece.bytes) then ending_of rest else Other

-- a named text in place of the last word
abbrev pub file_pieces : List ℕ → List ℕ → List Piece
file_pieces text suffix =
    record { kind = kind.Text; bytes = (split_from [] [] text).front }
    ∷ record { kind = kind.NamedText; bytes = codes "%(file_" ++ (split_from [] [] text).word ++ suffix ++ codes ")" } ∷ []

-- a piece, with a named text in place of the name at its end if a file is looked for
abbrev pub put_piece : Ending → Piece → List Piece
put_piece Other piece = piece ∷ []
put_piece Found piece = file_pieces piece.bytes []
put_piece FoundObject piece = file_pieces piece.bytes (codes ".o")

-- how many pieces belong to a name: %s, or %O and %s
abbrev pub skip_after : Ending → ℕ
skip_after Other = 0
skip_after Found = 1
skip_after FoundObject = 2

-- the first word of what an alternative gives is whole
abbrev pub joint_after : Piece → Joint
joint_after piece = if pointwise nat_eq piece.bytes (codes ":") then Open else Glued

-- pieces, of which so many belong to the name before
abbrev pub files_from : ℕ → Joint → List Piece → List Piece
files_from skip joint [] = []
files_from zero joint (piece ∷ rest) =
    put_piece (ending_in joint piece rest) piece ++ files_from (skip_after (ending_in joint piece rest)) (joint_after piece) rest
files_from (suc skip) joint (piece ∷ rest) = files_from skip joint rest
