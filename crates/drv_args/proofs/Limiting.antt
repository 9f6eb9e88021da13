use Rattle.drv_args.specs.Expansion.{Large, Text, by_answer, is_over, judged, limited}
use Rattle.drv_system.specs.Facts.{Facts, read_of}
use Rattle.drv_system.specs.declared.event.ReadAnswer.TheVariants.{Failed, Missing, Read, TooLarge}
use Rattle.drv_system.specs.declared.event.ReadAnswer.{ReadAnswer}
use Rattle.std.proofs.Common.{◌≡◌, ◌∙◌, Bool, List, None, Option, Some, ap, false, if◌then◌else◌, not, option_map, refl, sym, true, ℕ}
use Rattle.std.proofs.lemmas.Map.Made.{lookup-map_values}
use Rattle.std.specs.BTreeMap.{is_at}
use Rattle.std.specs.Cmp.Lexicographic.{slice_cmp}
use Rattle.std.specs.Ordering.{nat_cmp}

-- For `expand_within`: what the facts say of a file when each file is judged by the limit.
-- Names: `most` is how many words a response file may have, if there is a limit. `path` is the path of a response file. `judged` turns a
-- file with too many words into one that is too large. `by_answer` is the replacement of a word by the answer for its file.

-- without a limit an answer stays as it is
no_limit : (answer : ReadAnswer) → judged None answer ≡ answer
no_limit (Read text) = refl
no_limit Missing = refl
no_limit Failed = refl
no_limit TooLarge = refl

-- the limited facts have the judged answer
pub limited_read : (most : Option ℕ) (F : Facts) (path : List ℕ) (answer : ReadAnswer) → read_of F path ≡ Some answer
    → read_of (limited most F) path ≡ Some (judged most answer)
limited_read None F path answer known = known ∙ ap Some (sym (no_limit answer))
limited_read (Some most) F path answer known =
    lookup-map_values (judged (Some most)) (is_at (slice_cmp nat_cmp path)) F.reads ∙ ap (option_map (judged (Some most))) known

-- the replacement by a file's text, which is within the limit or not
pub text_within : (most : Option ℕ) (path text : List ℕ) (fits : Bool) → fits ≡ not (is_over most text) → fits ≡ true
    → by_answer path (judged most (Read text)) ≡ Text path text
text_within most path text fits is e = ap (λ over. by_answer path (if over then TooLarge else Read text))
    (go (is_over most text) (sym e ∙ is))
  where
    go : (over : Bool) → true ≡ not over → over ≡ false
    go true e = absurd cc
    go false e = refl

-- a text with too many words counts as too large
pub text_over : (most : Option ℕ) (path text : List ℕ) (fits : Bool) → fits ≡ not (is_over most text) → fits ≡ false
    → by_answer path (judged most (Read text)) ≡ Large path
text_over most path text fits is e = ap (λ over. by_answer path (if over then TooLarge else Read text))
    (go (is_over most text) (sym e ∙ is))
  where
    go : (over : Bool) → false ≡ not over → over ≡ true
    go true e = refl
    go false e = absurd cc
