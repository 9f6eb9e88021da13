use Rattle.drv_cc.specs.Code.Staying.{Keeping, KeepingAll, Notes, kept_before, stays_before}
use Rattle.drv_cc.specs.Front.{run_of}
use Rattle.drv_cc.specs.Items.{same}
use Rattle.drv_cc.specs.Kept.{all_stay, effective_items, goes}
use Rattle.drv_cc.specs.declared.answer.Answer.{Answer}
use Rattle.drv_cc.specs.declared.answer.Surroundings.{Surroundings}
use Rattle.drv_cc.specs.declared.item.Item.{Item}
use Rattle.std.proofs.Common.{◌≡◌, ◌<◌, ◌≤◌, ◌+◌, ◌-◌, ◌∙◌, ◌&&◌, ◌||◌, Bool, List, [], ◌∷◌, ◌++◌, ap, append-nil, append_assoc, arith}
use Rattle.std.proofs.Common.{Err, IfOk, Ok, Result, cond, false, get_or, if◌then◌else◌, length, nat_lt, not, refl, sym, take, true, ℕ}
use Rattle.std.proofs.Math.Seq.{take-length}
use Rattle.std.proofs.lemmas.Cmp.{nat_list_eq_equiv}
use Rattle.std.proofs.lemmas.List.{reverse-append, take_more}
use Rattle.std.specs.List.{list_any}
use Rattle.std.specs.Prelude.{reverse}

-- For the items that stay (src/keeping.rt and src/fronting.rt): of each class the last one, found from the end of the line.
-- Names: `items` is all items of the line. `left` is those that the loop has still before it, and `before` those without the last of them,
-- `i`. `following` is those after it. `stay` is what stays so far, the last one first, and `now` that after `i`. `p` is any class, and
-- `seen p` says whether an item of it was met; `new` is that after `i`. `goes i following` says that one of `i`'s class follows.
-- `effective_items` is the items that stay, and `all_stay` says that all do. `stays_before`, `kept_before`, `Notes`, `Keeping` and
-- `KeepingAll` are in specs/Code/Staying.

-- nothing was seen yet
pub keeping_starts : (items stay : List Item) (seen : List ℕ → Bool) → stay ≡ [] → ((p : List ℕ) → seen p ≡ false)
    → Keeping items items stay seen
keeping_starts items stay seen nothing none = record {
  following = [];
  parts = append-nil items;
  stays = ap reverse nothing;
  seen_are = λ p some. none p;
}

-- whether an item goes, by what was seen of those after it
goes_by : (i : Item) (following : List Item) (seen : List ℕ → Bool)
    → ((p : List ℕ) → 0 < length p → seen p ≡ list_any (λ j. same p j.class) following)
    → goes i following ≡ (nat_lt 0 (length i.class) && seen i.class)
goes_by i following seen are = by i.class refl
  where
    -- Plan: `by` goes by whether the item's class is empty.
    by : (class : List ℕ) → class ≡ i.class → (nat_lt 0 (length class) && list_any (λ j. same class j.class) following)
        ≡ (nat_lt 0 (length class) && seen class)
    by [] is = refl
    by (b ∷ class) is = ap (λ t. nat_lt 0 (length (b ∷ class)) && t) (sym (are (b ∷ class) (omega arith)))

-- One more item at the front of those that stay, by whether the code found that it stays.
kept_on : (i : Item) (following : List Item) (stays : Bool) → stays ≡ not (goes i following)
    → effective_items (i ∷ following) ≡ (if stays then i ∷ effective_items following else effective_items following)
kept_on i following stays is = by (goes i following) refl
  where
    -- Plan: `by` goes by both answers of `goes i following`.
    by : (t : Bool) → goes i following ≡ t → (if t then effective_items following else i ∷ effective_items following)
        ≡ (if stays then i ∷ effective_items following else effective_items following)
    by true e = ap (λ b. if b then i ∷ effective_items following else effective_items following) (sym (is ∙ ap not e))
    by false e = ap (λ b. if b then i ∷ effective_items following else effective_items following) (sym (is ∙ ap not e))

-- what an item that is of a class does to what was seen
pub noted_class : (p class key : List ℕ) (new old : Bool) → key ≡ class → new ≡ cond (same key p) true old → new ≡ (same p class || old)
noted_class p class key new old key_is is =
    is ∙ by (same key p) ∙ ap (λ b. b || old) (nat_list_eq_equiv.symm key p ∙ ap (same p) key_is)
  where
    -- Plan: `by` goes by both answers of `same key p`.
    by : (t : Bool) → cond t true old ≡ (t || old)
    by true = refl
    by false = refl

-- no class that has a name is that of an item of none
not_same : (p : List ℕ) → 0 < length p → same p [] ≡ false
not_same [] some = absurd (omega (arith, some))
not_same (b ∷ p) some = refl

-- For `note_class` (src/keeping.rt), where the item has no class: what was seen stays the same.
pub not_noted : (p class : List ℕ) (old : Bool) → 0 < length p → class ≡ [] → old ≡ (same p class || old)
not_noted p class old some none = ap (λ b. b || old) (sym (ap (same p) none ∙ not_same p some))

-- the last part of a list
pub last_part : {X : Type 0} (xs : List X) (x : X) → 1 ≤ length xs → x ≡ get_or xs (length xs - 1) x
    → xs ≡ take (length xs - 1) xs ++ x ∷ []
last_part xs x some at =
    let same : length xs ≡ length xs - 1 + 1 = omega (arith, some) in
    let less : length xs - 1 < length xs = omega (arith, some) in
    sym (take-length xs) ∙ ap (λ n. take n xs) same ∙ take_more xs (length xs - 1) x less
    ∙ ap (λ y. take (length xs - 1) xs ++ y ∷ []) (sym at)

-- one item more
pub keeping_more : (items left before stay now : List Item) (i : Item) (seen new : List ℕ → Bool)
    → Keeping items left stay seen → left ≡ before ++ i ∷ [] → now ≡ kept_before i seen stay → Notes i.class seen new
    → Keeping items before now new
keeping_more items left before stay now i seen new h parts is notes = record {
  following = i ∷ h.following;
  parts = sym (append_assoc before (i ∷ []) h.following) ∙ ap (λ l. l ++ h.following) (sym parts) ∙ h.parts;
  stays = ap reverse is ∙ by (stays_before i.class seen)
      ∙ sym (kept_on i h.following (stays_before i.class seen) (ap not (sym (goes_by i h.following seen h.seen_are))));
  seen_are = λ p some. notes p some ∙ ap (λ b. same p i.class || b) (h.seen_are p some);
}
  where
    -- Plan: `by` goes by both answers of `stays_before i.class seen`.
    by : (t : Bool) → reverse (if t then stay ++ i ∷ [] else stay)
        ≡ (if t then i ∷ effective_items h.following else effective_items h.following)
    by true = reverse-append stay (i ∷ []) ∙ ap (λ l. i ∷ l) h.stays
    by false = h.stays

-- none is left
pub keeping_ends : (items left stay : List Item) (seen : List ℕ → Bool) → Keeping items left stay seen → left ≡ []
    → reverse stay ≡ effective_items items
keeping_ends items left stay seen h none = h.stays ∙ ap effective_items (ap (λ l. l ++ h.following) (sym none) ∙ h.parts)

-- For `do_all_stay` (src/keeping.rt), which goes over the same items but makes no list: before its loop
pub all_start : (items : List Item) (seen : List ℕ → Bool) → ((p : List ℕ) → seen p ≡ false) → KeepingAll items items seen
all_start items seen none = record {
  following = [];
  parts = append-nil items;
  stays = refl;
  seen_are = λ p some. none p;
}

-- after an item that stays
pub all_more : (items left before : List Item) (i : Item) (seen new : List ℕ → Bool) → KeepingAll items left seen → left ≡ before ++ i ∷ []
    → true ≡ stays_before i.class seen → Notes i.class seen new → KeepingAll items before new
all_more items left before i seen new h parts is notes = record {
  following = i ∷ h.following;
  parts = sym (append_assoc before (i ∷ []) h.following) ∙ ap (λ l. l ++ h.following) (sym parts) ∙ h.parts;
  stays = ap (λ (stays : Bool). stays && all_stay h.following) (ap not (goes_by i h.following seen h.seen_are) ∙ sym is) ∙ h.stays;
  seen_are = λ p some. notes p some ∙ ap (λ b. same p i.class || b) (h.seen_are p some);
}

-- `do_all_stay` ends where no item is left: all stay
pub all_end : (items left : List Item) (seen : List ℕ → Bool) → KeepingAll items left seen → left ≡ [] → true ≡ all_stay items
all_end items left seen h none =
    sym (ap all_stay (sym (ap (λ l. l ++ h.following) (sym none) ∙ h.parts)) ∙ h.stays)

-- where the items that end a list do not all stay, not all of the list do
not_all_behind : (before rest : List Item) → all_stay rest ≡ false → all_stay (before ++ rest) ≡ false
not_all_behind [] rest e = e
not_all_behind (i ∷ before) rest e =
    ap (λ (b : Bool). not (goes i (before ++ rest)) && b) (not_all_behind before rest e) ∙ by (not (goes i (before ++ rest)))
  where
    -- Plan: `by` goes by both answers of `not (goes i (before ++ rest))`.
    by : (t : Bool) → (t && false) ≡ false
    by true = refl
    by false = refl

-- or at an item that goes: not all stay
pub all_break : (items left before : List Item) (i : Item) (seen : List ℕ → Bool) → KeepingAll items left seen → left ≡ before ++ i ∷ []
    → false ≡ stays_before i.class seen → false ≡ all_stay items
all_break items left before i seen h parts is =
    sym (ap all_stay (sym h.parts ∙ ap (λ l. l ++ h.following) parts ∙ append_assoc before (i ∷ []) h.following)
    ∙ not_all_behind before (i ∷ h.following) (ap (λ (stays : Bool). stays && all_stay h.following)
    (ap not (goes_by i h.following seen h.seen_are) ∙ sym is)))

-- of items that all stay, none is left out
kept_all : (items : List Item) → all_stay items ≡ true → effective_items items ≡ items
kept_all [] e = refl
kept_all (i ∷ items) e = by (goes i items) e (kept_all items)
  where
    -- Plan: `by` goes by both answers of `goes i items`.
    by : (t : Bool) → (not t && all_stay items) ≡ true → (all_stay items ≡ true → effective_items items ≡ items)
        → (if t then effective_items items else i ∷ effective_items items) ≡ i ∷ items
    by true e all = absurd cc
    by false e all = ap (λ l. i ∷ l) (all e)

-- For `call_of_kept` (src/fronting.rt), where all items stay: the call is made of the items themselves.
pub all_called : {E : Type 0} (around : Surroundings) (items : List Item) (all : Bool) (result : Result Answer E)
    → all ≡ all_stay items → all ≡ true → IfOk result (λ answer. answer ≡ run_of around items)
    → IfOk result (λ answer. answer ≡ run_of around (effective_items items))
all_called around items all (Ok answer) stay so is = is ∙ ap (run_of around) (sym (kept_all items (sym stay ∙ so)))
all_called around items all (Err e) stay so is = tt
