use Rattle.drv_args.specs.declared.items.Item.{Item as LineItem}
use Rattle.drv_cc.specs.Front.{copy_prefix, folders, prefix, prefixes, program_prefix}
use Rattle.drv_cc.specs.declared.answer.Surroundings.{Surroundings}
use Rattle.std.proofs.Common.{◌≡◌, ◌∙◌, List, ◌++◌, ap, append_assoc, map, ℕ}

-- For the folders that the front adds as prefixes (src/line_adding.rt): those of COMPILER_PATH, of copied spec files, and gcc's own.
-- Names: `around` is the compiler and its folders. `old` is the items before. `first`, `second` and `third` are the items after each of the
-- three lists `named`, `copies` and `own`. `prefixes` is what the definition adds.

-- For `add_all_prefixes` (src/line_adding.rt), which adds three lists one after the other.
pub all_added : (around : Surroundings) (old first second third : List LineItem) (named copies own : List (List ℕ))
    → named ≡ folders around.compiler_path → copies ≡ around.copies → own ≡ around.folders
    → first ≡ old ++ map program_prefix named → second ≡ first ++ map copy_prefix copies → third ≡ second ++ map prefix own
    → third ≡ old ++ prefixes around
all_added around old first second third named copies own named_is copies_are own_is first_is second_is third_is =
    third_is ∙ ap (λ items. items ++ map prefix own) (second_is ∙ ap (λ items. items ++ map copy_prefix copies) first_is)
    ∙ ap (λ names. ((old ++ map program_prefix names) ++ map copy_prefix copies) ++ map prefix own) named_is
    ∙ ap (λ names. ((old ++ map program_prefix (folders around.compiler_path)) ++ map copy_prefix names) ++ map prefix own) copies_are
    ∙ ap (λ names. ((old ++ map program_prefix (folders around.compiler_path)) ++ map copy_prefix around.copies) ++ map prefix names) own_is
    ∙ ap (λ items. items ++ map prefix around.folders)
    (append_assoc old (map program_prefix (folders around.compiler_path)) (map copy_prefix around.copies))
    ∙ append_assoc old (map program_prefix (folders around.compiler_path) ++ map copy_prefix around.copies) (map prefix around.folders)
