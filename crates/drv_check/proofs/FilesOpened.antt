use Rattle.drv_check.specs.Checks.{by_text, found_text, noted, opened, opened_of}
use Rattle.drv_check.specs.declared.findings.Checking.{Checking}
use Rattle.drv_check.specs.declared.findings.Spot.{Spot}
use Rattle.drv_check.specs.declared.opening.Inclusion.{Inclusion}
use Rattle.drv_check.specs.declared.opening.OpenFile.{OpenFile}
use Rattle.drv_search.specs.declared.prefixes.Prefixes.{Prefixes}
use Rattle.drv_specs.specs.Loading.{text_read}
use Rattle.drv_specs.specs.declared.fault.SpecsFault.TheVariants.{IncludeTooDeep, TooManyIncludes}
use Rattle.drv_specs.specs.declared.fault.SpecsFault.{SpecsFault}
use Rattle.drv_search.specs.Search.{file_found}
use Rattle.drv_system.specs.Asking.{Extends}
use Rattle.drv_system.specs.Facts.{Facts, read_of}
use Rattle.drv_system.specs.Known.{◌>>=◌, Is, asked}
use Rattle.drv_system.specs.declared.event.ReadAnswer.{ReadAnswer}
use Rattle.std.proofs.Common.{◌≡◌, ◌∙◌, ◌<◌, ◌-◌, Err, IfOk, List, None, Ok, Option, Result, Some, ap, arith, refl, suc, sym, zero, ℕ}

-- For check_files (src/checking.rt): an included file is opened within the limits, or the reason is noted.
-- Names: `F` and `G` are what is known of the outside. `prefixes` is where files are searched for. `c` is the check before the file is
-- opened, `new` after it, and `d` with one file fewer to be read. `from` is where it is included. `inclusion` is its name, and whether it
-- may be missing. `levels` is how deep files may still be within one another, and `left` how many may still be read. `path` and `text` are
-- those that were found. `noted c from note` is a check with one more finding. `opened` and `opened_of` are the check after the file is
-- opened, and the file (specs/Checks). `result` is what the code's call gives.

module _ (F : Facts) (prefixes : Prefixes) (c : Checking) (from : Option Spot) (inclusion : Inclusion) where
  -- No file is opened within too many others: the reason is noted.
  deep : (levels : ℕ) → levels ≡ 0 → opened F prefixes levels c from inclusion ≡ Is (noted c from IncludeTooDeep, None)
  deep zero is = refl
  deep (suc levels) is = absurd cc

  -- Within fewer, the count of files decides.
  within : (levels : ℕ) → 0 < levels → opened F prefixes levels c from inclusion ≡ opened_of F prefixes c.files c from inclusion
  within zero is = absurd (omega (arith, is))
  within (suc levels) is = refl

  -- No file is opened after too many others: the reason is noted.
  many : (left : ℕ) → left ≡ 0 → opened_of F prefixes left c from inclusion ≡ Is (noted c from TooManyIncludes, None)
  many zero is = refl
  many (suc left) is = absurd cc

  -- Else its text is looked for, and one file fewer may be read.
  one_read : (left : ℕ) → 0 < left
      → opened_of F prefixes left c from inclusion
      ≡ (found_text F prefixes inclusion >>= λ found. Is (by_text (record c { files = left - 1 }) from found.0 found.1))
  one_read zero is = absurd (omega (arith, is))
  one_read (suc left) is =
      let less : left ≡ suc left - 1 = omega arith in
      ap (λ n. found_text F prefixes inclusion >>= λ found. Is (by_text (record c { files = n }) from found.0 found.1)) less

  -- For the exit of the code where the file is nested too deep.
  pub opens_deep : (levels : ℕ) (new : Checking) → levels ≡ 0 → new ≡ noted c from IncludeTooDeep
      → opened F prefixes levels c from inclusion ≡ Is (new, None)
  opens_deep levels new is noted_so = deep levels is ∙ ap (λ d. Is (d, None)) (sym noted_so)

  -- For its exit where too many files were read.
  pub opens_none : (levels : ℕ) (new : Checking) → 0 < levels → c.files ≡ 0 → new ≡ noted c from TooManyIncludes
      → opened F prefixes levels c from inclusion ≡ Is (new, None)
  opens_none levels new some is noted_so = within levels some ∙ many c.files is ∙ ap (λ d. Is (d, None)) (sym noted_so)

  -- For its end: the text that was found is taken, or why there is none.
  pub opens : {E : Type 0} (levels : ℕ) (d new : Checking) (path : List ℕ) (text : Result (List ℕ) SpecsFault)
      (result : Result (Option OpenFile) E)
      → 0 < levels → 0 < c.files → found_text F prefixes inclusion ≡ Is (path, text) → d ≡ record c { files = c.files - 1 }
      → IfOk result (λ file. (new, file) ≡ by_text d from path text)
      → IfOk result (λ file. opened F prefixes levels c from inclusion ≡ Is (new, file))
  opens levels d new path text (Err e) some more is less takes = takes
  opens levels d new path text (Ok file) some more is less takes =
      within levels some ∙ one_read c.files more
      ∙ ap (λ known. known >>= λ found. Is (by_text (record c { files = c.files - 1 }) from found.0 found.1)) is
      ∙ ap (λ e. Is (by_text e from path text)) (sym less) ∙ ap Is (sym takes)

-- the text of a file that was found

-- an included file is opened by its path and its text, once both are known
pub found_is : (F G : Facts) (prefixes : Prefixes) (inclusion : Inclusion) (path : List ℕ) (answer : ReadAnswer)
    (text : Result (List ℕ) SpecsFault)
    → file_found F prefixes inclusion.file ≡ Is path → Extends G F → read_of G path ≡ Some answer
    → text ≡ text_read inclusion.if_missing path answer
    → found_text F prefixes inclusion ≡ Is (path, text)
found_is F G prefixes inclusion path answer text finds e known is =
    ap (λ k. k >>= λ p. asked (read_of F p) >>= λ a. Is (p, text_read inclusion.if_missing p a)) finds
    ∙ ap (λ a. asked a >>= λ a'. Is (path, text_read inclusion.if_missing path a')) (e.reads path answer known)
    ∙ ap (λ t. Is (path, t)) (sym is)
