use Rattle.drv_syntax.specs.Code.Lists.{is_white_item}
use Rattle.drv_syntax.specs.Stars.{has_star, item_has_star}
use Rattle.drv_syntax.specs.Tree as tree
use Rattle.drv_syntax.specs.Tree.{Item, Items, Span, kept, trimmed}
use Rattle.std.proofs.Common.{◌≡◌, ◌∙◌, Bool, true, false, ap, if◌then◌else◌, refl, sym}
use Rattle.std.specs.Prelude.{◌||◌}

-- The X of an alternative ends without its white space, which has no %*. It serves the alternatives that the reader writes.
-- Names: `has_star`: a %* that belongs to the X that these items are. `is_white_item`: the item is white space, of which an X has none at
-- its end. `item_has_star`: an item is a %* of the X around it, or holds one.

-- an item of white space before these items, which is left out if they are none
abbrev pub kept_white : Span → Item → Items → Items
kept_white s item tree.none = tree.none
kept_white s item (tree.more r other items) = tree.more s item (tree.more r other items)

-- an item of white space is left out if no item follows it, and any other item is kept
pub kept_is : (s : Span) (item : Item) (items : Items) → kept s item items
    ≡ (if is_white_item item then kept_white s item items else tree.more s item items)
kept_is s (tree.Plain b) items = refl
kept_is s (tree.Escape b) items = refl
kept_is s tree.Blank tree.none = refl
kept_is s tree.Blank (tree.more r other items) = refl
kept_is s tree.Newline tree.none = refl
kept_is s tree.Newline (tree.more r other items) = refl
kept_is s tree.Pipe items = refl
kept_is s (tree.Leaf leaf) items = refl
kept_is s (tree.TempName kind suffix) items = refl
kept_is s (tree.Accumulate option) items = refl
kept_is s (tree.UserError text) items = refl
kept_is s (tree.Notice text) items = refl
kept_is s (tree.NamedText name) items = refl
kept_is s (tree.BuiltinText name) items = refl
kept_is s (tree.Hide p) items = refl
kept_is s (tree.Function name arguments) items = refl
kept_is s (tree.Braces brace) items = refl
kept_is s tree.Star items = refl
kept_is s (tree.FailureFile brace) items = refl
kept_is s (tree.ArgumentsFile brace) items = refl

-- an item of white space is no %*
white_star : (item : Item) → is_white_item item ≡ true → item_has_star item ≡ false
white_star (tree.Plain b) e = refl
white_star (tree.Escape b) e = refl
white_star tree.Blank e = refl
white_star tree.Newline e = refl
white_star tree.Pipe e = refl
white_star (tree.Leaf leaf) e = refl
white_star (tree.TempName kind suffix) e = refl
white_star (tree.Accumulate option) e = refl
white_star (tree.UserError text) e = refl
white_star (tree.Notice text) e = refl
white_star (tree.NamedText name) e = refl
white_star (tree.BuiltinText name) e = refl
white_star (tree.Hide p) e = refl
white_star (tree.Function name arguments) e = absurd cc
white_star (tree.Braces brace) e = absurd cc
white_star tree.Star e = absurd cc
white_star (tree.FailureFile brace) e = absurd cc
white_star (tree.ArgumentsFile brace) e = absurd cc

-- white space at the end of a list makes no difference to whether it has a %* of its X
pub trim_star : (items : Items) → has_star (trimmed items) ≡ has_star items
trim_star tree.none = refl
trim_star (tree.more s item items) = cc (kept_is s item (trimmed items), by (is_white_item item) refl (trimmed items) (trim_star items))
  where
    by : (t : Bool) → is_white_item item ≡ t → (x : Items) → has_star x ≡ has_star items
        → has_star (if t then kept_white s item x else tree.more s item x) ≡ (item_has_star item || has_star items)
    by false e x h = ap (λ z. item_has_star item || z) h
    by true e tree.none h = h ∙ sym (ap (λ z. z || has_star items) (white_star item e))
    by true e (tree.more r other others) h = ap (λ z. item_has_star item || z) h
