use Rattle.drv_cc.specs.Children.{before_equals}
use Rattle.drv_words.specs.Bytes.{equals}
use Rattle.std.proofs.Common.{◌≡◌, ◌==◌, ◌≤◌, ◌∙◌, Bool, List, None, Some, ap, arith, cond, false, length, nat_lt, refl, sym, take, true, ℕ}
use Rattle.std.proofs.lemmas.Bool.Decides.{nat_tests}
use Rattle.std.proofs.lemmas.List.{take_all}
use Rattle.std.specs.List.{position, position_or_len}

-- For the names of targets (src/targets.rt): an argument is cut at its first `=`.
-- Names: `text` is the argument, `i` a place in it, and `before text` how many bytes precede its first `=`.

-- how many bytes precede the first `=`
abbrev before : List ℕ → ℕ
before text = position_or_len (λ b. b == equals) text

-- if std's search finds a place, then what precedes it precedes the first `=`
pub names_at : (text : List ℕ) (i : ℕ) → position (λ b. b == equals) text ≡ Some i → take i text ≡ before_equals text
names_at text i is = ap (λ n. take n text) (by (nat_lt (before text) (length text)) is)
  where
    by : (below : Bool) → cond below (Some (before text)) None ≡ Some i → i ≡ before text
    by true e = cc
    by false e = absurd cc

-- if it finds none, then the whole text does
pub names_whole : (text : List ℕ) → position (λ b. b == equals) text ≡ None → text ≡ before_equals text
names_whole text none = sym (take_all (before text) text (by (nat_lt (before text) (length text)) refl none))
  where
    by : (below : Bool) → nat_lt (before text) (length text) ≡ below → cond below (Some (before text)) None ≡ None
        → length text ≤ before text
    by true is e = absurd cc
    by false is e = grind (arith, nat_tests, is)
