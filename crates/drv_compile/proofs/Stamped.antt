use Rattle.drv_compile.proofs.Noting.{noted_then}
use Rattle.drv_compile.specs.Compilers.{values}
use Rattle.drv_compile.specs.Compiles.{Comes, Plans, comes}
use Rattle.drv_compile.specs.Inputs.{Noted}
use Rattle.drv_compile.specs.Stamps.{AnyOther, IsOther, IsStale, later_other, no_other, pathless, stamped, this_other, warned}
use Rattle.drv_compile.specs.declared.calling.Calling.{Calling}
use Rattle.drv_compile.specs.declared.host.HostEvent.TheVariants.{Stamped}
use Rattle.drv_compile.specs.declared.host.HostEvent.{HostEvent}
use Rattle.drv_compile.specs.declared.preparing.Prepared.{Prepared}
use Rattle.drv_system.specs.Facts.{Facts}
use Rattle.drv_words.specs.Bytes.{space}
use Rattle.drv_words.specs.FileNames.{split_at_last}
use Rattle.std.proofs.Common.{◌≡◌, ◌<◌, ◌≤◌, ◌+◌, ◌∙◌, ◌∷◌, ◌++◌, [], Bool, IfOk, List, None, Option, Result, Some, ap}
use Rattle.std.proofs.Common.{append_assoc, codes, drop, false, length, nat_eq, not, subst, sym, true, ℕ}
use Rattle.std.proofs.lemmas.List.{append-nil, drop_all, drop_more}
use Rattle.std.specs.Cmp.Lexicographic.{pointwise}
use Rattle.std.specs.Prelude.{get_or}

-- For the stamps of a spec file (src/stamps.rt, src/preparing.rt): whether a file has another one by now, line after line.
-- Names: `lines` is the lines of stamps, and `line` the one at index `i`, `lent` as the code lends it. `path` and `stamp` are what the line
-- has, and `found` is the file's stamp by now. `before`, `so` and `after` are the notes before the search, so far, and after one line more.
-- `other` says whether a file has another stamp. `F` is what is known of the outside, and `knows` says which facts the call has. `own`,
-- `calling`, `args` and `seed` are what the call is given, `prepared` is what it has to do, and `about` the text about its compiler. `Noted
-- before after P`: events were added, of which P holds. `IsOther`, `AnyOther` and `IsStale` are in specs/Stamps, `Plans` and `Comes` in
-- specs/Compiles.

-- For `is_other`: a line without a path, of which the host is asked nothing.
pub pathless_asked : (line : List ℕ) (notes : List HostEvent) → split_at_last space line ≡ None
    → Noted notes notes (λ events. IsOther line events false)
pathless_asked line notes none = ([], sym (append-nil notes), pathless none)

-- For `is_other`: the host is asked for the stamp of the file by now.
pub stamp_asked : (line path slice stamp found lent : List ℕ) (other : Bool) (before after : List HostEvent)
    → split_at_last space line ≡ Some (slice, stamp) → path ≡ slice → after ≡ before ++ Stamped path found ∷ [] → lent ≡ found
    → other ≡ not (pointwise nat_eq lent stamp) → Noted before after (λ events. IsOther line events other)
stamp_asked line path slice stamp found lent other before after parts same grown is differs = (
  Stamped path found ∷ [],
  grown,
  subst (λ o. IsOther line (Stamped path found ∷ []) o) (sym (differs ∙ ap (λ l. not (pointwise nat_eq l stamp)) is))
      (subst (λ p. IsOther line (Stamped p found ∷ []) (not (pointwise nat_eq found stamp))) (sym same) (stamped parts)),
)

-- no line before this one has another stamp: those from it on decide, by the events so far and theirs
abbrev pub Looking : List (List ℕ) → ℕ → List HostEvent → List HostEvent → Type 0
Looking lines i before so =
    Noted before so (λ events. (more : List HostEvent) (other : Bool) → AnyOther (drop i lines) more other
    → AnyOther lines (events ++ more) other)

-- the lines from one on are that line and those after it
from_line : (lines : List (List ℕ)) (i : ℕ) (line : List ℕ) → i < length lines → line ≡ get_or lines i line
    → line ∷ drop (i + 1) lines ≡ drop i lines
from_line lines i line below here = sym (drop_more lines i line below ∙ ap (λ l. l ∷ drop (i + 1) lines) (sym here))

-- what the code lent of a line, said of the line
of_line : (line lent : List ℕ) (other answer : Bool) (events : List HostEvent) → lent ≡ line → other ≡ answer → IsOther lent events other
    → IsOther line events answer
of_line line lent other answer events same is asked =
    subst (λ o. IsOther line events o) is (subst (λ l. IsOther l events other) same asked)

-- For `any_other`: if line i has the same stamp, then the search goes on.
pub other_later : (lines : List (List ℕ)) (i : ℕ) (line lent : List ℕ) (other : Bool) (before so after : List HostEvent)
    → i < length lines → line ≡ get_or lines i line → lent ≡ line → other ≡ false
    → Noted so after (λ events. IsOther lent events other) → Looking lines i before so → Looking lines (i + 1) before after
other_later lines i line lent other before so after below here same is (looked, after_grown, asked) (events, grown, so_far) = (
  events ++ looked,
  after_grown ∙ ap (λ n. n ++ looked) grown ∙ append_assoc before events looked,
  λ more any later.
      subst (λ e. AnyOther lines e any) (sym (append_assoc events looked more))
      (so_far (looked ++ more) any
      (subst (λ ls. AnyOther ls (looked ++ more) any) (from_line lines i line below here)
      (later_other (of_line line lent other false looked same is asked) later))),
)

-- For `any_other`: if line i has another stamp, then one has.
pub other_here : (lines : List (List ℕ)) (i : ℕ) (line lent : List ℕ) (other : Bool) (before so after : List HostEvent)
    → i < length lines → line ≡ get_or lines i line → lent ≡ line → other ≡ true
    → Noted so after (λ events. IsOther lent events other) → Looking lines i before so
    → Noted before after (λ events. AnyOther lines events true)
other_here lines i line lent other before so after below here same is (looked, after_grown, asked) (events, grown, so_far) = (
  events ++ looked,
  after_grown ∙ ap (λ n. n ++ looked) grown ∙ append_assoc before events looked,
  so_far looked true
      (subst (λ ls. AnyOther ls looked true) (from_line lines i line below here)
      (this_other (of_line line lent other true looked same is asked))),
)

-- For `any_other`: if no line is left, then none has another stamp.
pub other_nowhere : (lines : List (List ℕ)) (i : ℕ) (before so : List HostEvent) → length lines ≤ i → Looking lines i before so
    → Noted before so (λ events. AnyOther lines events false)
other_nowhere lines i before so past (events, grown, so_far) = (
  events,
  grown,
  subst (λ e. AnyOther lines e false) (append-nil events)
      (so_far [] false (subst (λ ls. AnyOther ls [] false) (sym (drop_all i lines past)) no_other)),
)

-- For `is_stale`: if the lines are those of the text, as the code lends them, then what holds of them holds of it.
pub stale_by : {E : Type 0} (about : List ℕ) (lines lent : List (List ℕ)) (before after : List HostEvent) (result : Result Bool E)
    → lines ≡ values (codes "stamp ") about → lent ≡ lines
    → Noted before after (λ events. IfOk result (λ other. AnyOther lent events other))
    → Noted before after (λ events. IfOk result (λ stale. IsStale about events stale))
stale_by about lines lent before after result are same =
    subst (λ ls. Noted before after (λ events. IfOk result (λ other. AnyOther ls events other))) (same ∙ are)

-- For `prepare`: what the line asks for, and then what the host says of the stamps, is what the call does.
pub comes_warned : (calling : Calling) (own : Option (List ℕ)) (args : List (List ℕ)) (seed : ℕ) (prepared made : Prepared)
    (about : List ℕ) (stale : Bool) (before mid after : List HostEvent) (knows : Facts → Type 0) → made ≡ warned stale prepared
    → about ≡ prepared.about
    → Noted before mid (λ events. (F : Facts) → knows F → Plans F calling own args seed events prepared)
    → Noted mid after (λ events. IsStale about events stale)
    → Noted before after (λ events. (F : Facts) → knows F → Comes F calling own args seed events made)
comes_warned calling own args seed prepared made about stale before mid after knows is of =
    noted_then before mid after (λ events. (F : Facts) → knows F → Plans F calling own args seed events prepared)
    (λ events. IsStale about events stale)
    (λ events. (F : Facts) → knows F → Comes F calling own args seed events made)
    (λ asked looked planned looks F k. subst (λ p. Comes F calling own args seed (asked ++ looked) p) (sym is)
    (comes (planned F k) (subst (λ t. IsStale t looked stale) of looks)))
