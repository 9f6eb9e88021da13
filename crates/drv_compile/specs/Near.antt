use Rattle.drv_cc.specs.declared.refusal.Refusal.TheVariants.{EmptyOutput, GivenFile, GivenMore, NoArgument, NoInput, NotTaken}
use Rattle.drv_cc.specs.declared.refusal.Refusal.TheVariants.{UnknownOption}
use Rattle.drv_cc.specs.declared.refusal.Refusal.{Refusal}
use Rattle.drv_compile.specs.Texts.{refusal_text}
use Rattle.drv_words.specs.Bytes.{equals}
use Rattle.std.specs.List.{ends_with}
use Rattle.std.specs.Prelude.{◌≡◌, ◌<◌, ◌==◌, ◌-◌, ◌||◌, Bool, List, [], ◌∷◌, ◌++◌, None, Option, Some, codes, get_or, if◌then◌else◌}
use Rattle.std.specs.Prelude.{length, nat_eq}
use Rattle.std.specs.Prelude.{take, ℕ, ⊤}

-- The text of the refusals of a line, each with the option that an unknown word was meant to be (GCC, "opts-common.cc",
-- candidates_list_and_hint). That option is among the known ones; which of them is near no definition says.
-- For clauses of src/nearest.rt and src/telling.rt.

-- what follows the first = of a word
abbrev pub after_equals : List ℕ → List ℕ
after_equals [] = []
after_equals (b ∷ word) = if b == equals then word else after_equals word

-- an option by its name, with the argument that the word has where it takes one after =
abbrev pub meant_by : List ℕ → List ℕ → List ℕ
meant_by word name = if ends_with nat_eq name (codes "=") then name ++ after_equals word else name

-- whether a name ends with a mark that no user types: it says what arguments the option takes, or that gcc refuses it
abbrev pub is_marked : List ℕ → Bool
is_marked name = ends_with nat_eq name (codes "?") || ends_with nat_eq name (codes "=#")

-- a name without that mark, as a user types it
abbrev pub without_mark : List ℕ → List ℕ
without_mark name = if is_marked name then take (length name - 1) name else name

-- an option that the refusal of an unknown word may name: none, or one of the known ones
abbrev pub MayMean : List (List ℕ) → List ℕ → Option (List ℕ) → Type 0
MayMean known word None = ⊤
MayMean known word (Some near) = (place : ℕ) × (place < length known) × (near ≡ meant_by word (without_mark (get_or known place [])))

-- the option that a refusal names: only that of an unknown word may name one
abbrev pub IsMeant : List (List ℕ) → Refusal → Option (List ℕ) → Type 0
IsMeant known (UnknownOption word) near = MayMean known word near
IsMeant known (NoArgument option) near = near ≡ None
IsMeant known (NotTaken option) near = near ≡ None
IsMeant known (GivenFile word) near = near ≡ None
IsMeant known GivenMore near = near ≡ None
IsMeant known EmptyOutput near = near ≡ None
IsMeant known NoInput near = near ≡ None

-- the line on standard error for a refusal
abbrev pub IsTold : List ℕ → List (List ℕ) → Refusal → List ℕ → Type 0
IsTold name known refusal line = (near : Option (List ℕ)) × IsMeant known refusal near × (line ≡ refusal_text name refusal near)

-- a line for each refusal
abbrev pub AreTold : List ℕ → List (List ℕ) → List Refusal → List ℕ → Type 0
AreTold name known [] text = text ≡ []
AreTold name known (refusal ∷ refusals) text =
    (line lines : List ℕ) × IsTold name known refusal line × AreTold name known refusals lines × (text ≡ line ++ lines)
