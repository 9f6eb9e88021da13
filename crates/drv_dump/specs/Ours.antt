use Rattle.drv_dump.specs.Files.{files_from}
use Rattle.drv_dump.specs.Forms.{calls, directives, either_tests, form_at, lacking_directives, others, ours, own_calls, tests}
use Rattle.drv_dump.specs.Texts.{pieces_of}
use Rattle.drv_dump.specs.declared.fault.OursFault.TheVariants as ours_fault
use Rattle.drv_dump.specs.declared.fault.OursFault.{OursFault}
use Rattle.drv_dump.specs.declared.fault.TextFault.TheVariants as text_fault
use Rattle.drv_dump.specs.declared.fault.TextFault.{TextFault}
use Rattle.drv_dump.specs.declared.files.Joint.TheVariants.{Open}
use Rattle.drv_dump.specs.declared.forms.WholeForm.{WholeForm}
use Rattle.drv_dump.specs.declared.piece.Kind.TheVariants as kind
use Rattle.drv_dump.specs.declared.piece.Kind.{Kind}
use Rattle.drv_dump.specs.declared.piece.Piece.{Piece}
use Rattle.drv_words.specs.Bytes as byte
use Rattle.std.specs.Cmp.Lexicographic.{pointwise}
use Rattle.std.specs.List.{list_any, starts_with}
use Rattle.std.specs.Map.{lookup}
use Rattle.std.specs.Prelude.{◌==◌, Err, List, [], ◌∷◌, ◌++◌, None, Ok, Option, Result, Some, codes, if◌then◌else◌, nat_eq, suc, zero, ℕ}

-- A text of gcc in this driver's spec language.
-- For clauses of src/ours.rt, src/passed.rt and src/our_dump.rt.

-- the forms of several pieces are replaced from the front; so many bytes are part of the one before
abbrev pub put_form : (ℕ → List ℕ) → Option WholeForm → ℕ → List ℕ
put_form after (Some form) b = ours form ++ after (others form)
put_form after None b = b ∷ after zero

-- a text with each form of several pieces in this driver's words; the first form that fits decides, and `skip` bytes belong to the one
-- before
abbrev pub replaced : ℕ → List ℕ → List ℕ
replaced skip [] = []
replaced zero (b ∷ text) = put_form (λ skip. replaced skip text) (form_at (b ∷ text)) b
replaced (suc skip) (b ∷ text) = replaced skip text

-- the name of a function that is called
abbrev pub name_from : List ℕ → List ℕ
name_from [] = []
name_from (b ∷ call) = if b == byte.opening_parenthesis then [] else b ∷ name_from call

-- what follows the parenthesis that opens
abbrev pub arguments_from : List ℕ → List ℕ
arguments_from [] = []
arguments_from (b ∷ call) = if b == byte.opening_parenthesis then call else arguments_from call

-- a function that this driver lacks is refused where it would be called
abbrev pub refusing : List ℕ → List ℕ
refusing call = codes "%{-gdrv-none:;:%efunction " ++ name_from call ++ codes " is not in this spec file}"

-- a function in a text without other words: the text of the file that it includes; itself; or its refusal
abbrev pub other_call_words : List ℕ → List ℕ
other_call_words call =
    if starts_with nat_eq call (codes "%:include(") then codes "%(include_" ++ arguments_from call
    else if list_any (starts_with nat_eq call) own_calls then call
    else refusing call

-- what a call of a function becomes: other words where there are any
abbrev pub call_words : Option (List ℕ) → List ℕ → List ℕ
call_words (Some words) call = words
call_words None call = other_call_words call

-- what a piece becomes, if it becomes anything
abbrev pub directive_words : Option (List ℕ) → List ℕ → Option (List ℕ)
directive_words (Some words) directive = Some words
directive_words None directive = if list_any (pointwise nat_eq directive) lacking_directives then None else Some directive

-- what the test by a function becomes after a ! : one test, or itself if this driver has the function
abbrev pub negated_words : Option (List ℕ) → List ℕ → Option (List ℕ)
negated_words (Some words) call = Some words
negated_words None call = if list_any (starts_with nat_eq call) own_calls then Some call else None

-- what the test by a function becomes without a !: several tests too, of which one must hold
abbrev pub test_words : Option (List ℕ) → List ℕ → Option (List ℕ)
test_words (Some words) call = Some words
test_words None call = negated_words (lookup (pointwise nat_eq call) tests) call

-- what a piece of a kind becomes: directives and calls by the lists in Forms.antt, and all else stays
abbrev pub words_of : Kind → List ℕ → Option (List ℕ)
words_of kind.Directive bytes = directive_words (lookup (pointwise nat_eq bytes) directives) bytes
words_of kind.Call bytes = Some (call_words (lookup (pointwise nat_eq bytes) calls) bytes)
words_of kind.TestCall bytes = test_words (lookup (pointwise nat_eq bytes) either_tests) bytes
words_of kind.NegatedCall bytes = negated_words (lookup (pointwise nat_eq bytes) tests) bytes
words_of kind.Text bytes = Some bytes
words_of kind.Message bytes = Some bytes
words_of kind.NamedText bytes = Some bytes
words_of kind.LinkerOption bytes = Some bytes
words_of kind.Opening bytes = Some bytes
words_of kind.Blank bytes = Some bytes
words_of kind.Negation bytes = Some bytes
words_of kind.Test bytes = Some bytes
words_of kind.Either bytes = Some bytes
words_of kind.Both bytes = Some bytes
words_of kind.Then bytes = Some bytes
words_of kind.Otherwise bytes = Some bytes
words_of kind.Closing bytes = Some bytes

-- the words of all pieces, or the first piece that becomes nothing
abbrev pub with_words : Option (List ℕ) → List ℕ → Result (List ℕ) OursFault → Result (List ℕ) OursFault
with_words None bytes more = Err (ours_fault.Lacking bytes)
with_words (Some words) bytes (Ok more) = Ok (words ++ more)
with_words (Some words) bytes (Err fault) = Err fault

-- what all pieces become, or the first that becomes nothing
abbrev pub all_words : List Piece → Result (List ℕ) OursFault
all_words [] = Ok []
all_words (piece ∷ pieces) = with_words (words_of piece.kind piece.bytes) piece.bytes (all_words pieces)

-- what the pieces of a text become, with its files as named texts
abbrev pub with_pieces : Result (List Piece) TextFault → Result (List ℕ) OursFault
with_pieces (Ok pieces) = all_words (files_from zero Open pieces)
with_pieces (Err text_fault.Memory) = Err ours_fault.Memory
with_pieces (Err (text_fault.Unreadable misfit at)) = Err (ours_fault.Unreadable misfit at)

-- words with what one more piece becomes, if it becomes anything
abbrev pub put_words : List ℕ → Option (List ℕ) → List ℕ → Result (List ℕ) OursFault
put_words before None bytes = Err (ours_fault.Lacking bytes)
put_words before (Some words) bytes = Ok (before ++ words)

-- words with one more piece in this driver's language
abbrev pub put : List ℕ → Piece → Result (List ℕ) OursFault
put before piece = put_words before (words_of piece.kind piece.bytes) piece.bytes

-- words before those of other pieces
abbrev pub words_before : List ℕ → Result (List ℕ) OursFault → Result (List ℕ) OursFault
words_before before (Ok words) = Ok (before ++ words)
words_before before (Err fault) = Err fault

-- a text of gcc in this driver's language
abbrev pub ours_of : List ℕ → Result (List ℕ) OursFault
ours_of text = with_pieces (pieces_of (replaced zero text))
