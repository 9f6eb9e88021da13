use Rattle.drv_specs.specs.Blanks.{is_blank, is_white}
use Rattle.drv_specs.specs.Directives.{Bad, Directive, Include, Pair, Rename, Text, read_settled}
use Rattle.drv_specs.specs.Lines.{without_front}
use Rattle.drv_specs.specs.Sets.{Set, appends, text_of}
use Rattle.drv_specs.specs.declared.fault.SpecsFault.TheVariants.{Syntax}
use Rattle.drv_specs.specs.declared.fault.SpecsFault.{SpecsFault}
use Rattle.drv_syntax.specs.declared.fault.SyntaxFault.TheVariants as syntax
use Rattle.drv_syntax.specs.declared.fault.SyntaxFault.{SyntaxFault}
use Rattle.std.specs.List.{position}
use Rattle.std.specs.Option.{option_map, unwrap_or}
use Rattle.std.specs.Prelude.{◌+◌, ◌-◌, Bool, List, None, Option, Some, drop, get_or, if◌then◌else◌, length, nat_lt, not, slice_get, ℕ}

-- Where in a piece a fault is (GCC manual, "Spec Files"; this project's profile).
-- For clauses of src/pointing.rt.

-- how many bytes at the front pass a test
abbrev pub front_length : (ℕ → Bool) → List ℕ → ℕ
front_length test text = unwrap_or (position (λ b. not (test b)) text) (length text)

-- the place of the % in its text, if the fault has one
abbrev pub percent_of : SyntaxFault → Option ℕ
percent_of syntax.Memory = None
percent_of (syntax.BadDirective n) = Some n
percent_of (syntax.Unclosed n) = Some n
percent_of (syntax.StarOutside n) = Some n
percent_of (syntax.MixedStar n) = Some n
percent_of (syntax.TooNested n) = Some n
percent_of (syntax.UnknownFunction n) = Some n
percent_of (syntax.EmptyTest n) = Some n
percent_of syntax.TextTooLong = None

-- the place of a fault in its text: only one of the language has any
abbrev pub place_of : SpecsFault → Option ℕ
place_of (Syntax name fault) = percent_of fault
place_of fault = None

-- a piece by its directive, which is the only one of its text

-- the directive of a piece
abbrev pub directive_in : List ℕ → Option Directive
directive_in text = slice_get (read_settled text) 0

-- the body of a directive; of one without a body the whole piece
abbrev pub body_of : Option Directive → List ℕ → List ℕ
body_of None text = text
body_of (Some (Text name body)) text = body
body_of (Some (Pair key body)) text = body
body_of (Some (Rename old new)) text = text
body_of (Some (Include missing file)) text = text
body_of (Some (Bad n)) text = text

-- the name of the text that a directive puts, if it puts a named one
abbrev pub name_of : Option Directive → Option (List ℕ)
name_of None = None
name_of (Some (Text name body)) = Some name
name_of (Some (Pair key body)) = None
name_of (Some (Rename old new)) = None
name_of (Some (Include missing file)) = None
name_of (Some (Bad n)) = None

-- the body of a piece, and the name of the text that it puts
abbrev pub body_in : List ℕ → List ℕ
body_in text = body_of (directive_in text) text

-- the name of the text that a piece puts
abbrev pub name_in : List ℕ → Option (List ℕ)
name_in text = name_of (directive_in text)

-- where the body of a piece begins: it ends with the piece
abbrev pub body_start : List ℕ → ℕ
body_start text = length text - length (body_in text)

-- how many bytes of white space a text begins with
abbrev pub white_length : List ℕ → ℕ
white_length text = length text - length (without_front is_white text)

-- The place in the file of a byte of the whole text, of a body with these bytes at these places. An addition follows a text of this
-- length, or is alone, with one space in place of its white space.
abbrev pub place_in_addition : Option ℕ → List ℕ → List ℕ → ℕ → Option ℕ
place_in_addition None body places n =
    if nat_lt 0 n then slice_get (drop (white_length (drop 1 body)) (drop 1 places)) (n - 1) else None
place_in_addition (Some size) body places n = if nat_lt n size then None else slice_get (drop 1 places) (n - size)

-- the place in the file of the n-th byte of the whole text, which a body makes or adds to
abbrev pub in_body : Option (Option ℕ) → List ℕ → List ℕ → ℕ → Option ℕ
in_body None body places n = slice_get places n
in_body (Some old) body places n = if appends body then place_in_addition old body places n else slice_get places n

-- the length of the text that a name has; none where the piece has no name
abbrev pub old_length : Set → Option (List ℕ) → Option (Option ℕ)
old_length set None = None
old_length set (Some name) = Some (option_map (λ text. length text) (text_of set name))

-- the place in the file of the % at which a fault is, if its text's bytes are of this piece
abbrev pub percent_place : Set → List ℕ → List ℕ → Option ℕ → Option ℕ
percent_place set text places None = None
percent_place set text places (Some n) =
    in_body (old_length set (name_in text)) (body_in text) (drop (body_start text) places) n

-- where a fault is in the file, of a piece whose bytes are at these places: at its byte, or else at the first one that is no blank
abbrev pub point : Set → List ℕ → List ℕ → ℕ → SpecsFault → ℕ
point set text places size fault =
    unwrap_or (percent_place set text places (place_of fault)) (get_or places (front_length is_blank text) size)
