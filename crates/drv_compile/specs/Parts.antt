use Rattle.drv_args.specs.declared.items.Item.{Item}
use Rattle.drv_cc.specs.declared.answer.Stages.{Stages}
use Rattle.drv_compile.specs.Beside.{is_written}
use Rattle.drv_compile.specs.Places.{part_or_whole, texts_for}
use Rattle.drv_compile.specs.declared.parts.Texts.TheVariants.{Damaged, Whole}
use Rattle.drv_compile.specs.declared.parts.Texts.{Texts}
use Rattle.drv_system.specs.Facts.{Facts, kind_of}
use Rattle.drv_system.specs.Known.{◌>>=◌, Is, Known, asked}
use Rattle.std.specs.Prelude.{Bool, List, if◌then◌else◌, ℕ}

-- The file that has the texts for a line: the spec file or a part of it, and whether that is whole (this project's profile).
-- For clauses of src/parts.rt.

-- a file that has the texts, by whether it is whole
abbrev pub texts_if : List ℕ → Bool → Texts
texts_if path is_whole = if is_whole then Whole path else Damaged path

-- the file at a path, and whether it is whole
abbrev pub texts_at : Facts → List ℕ → Known Texts
texts_at F path = is_written F path >>= λ is_whole. Is (texts_if path is_whole)

-- the file that has the texts of a line: a shorter one if it is there, or else the spec file; and whether it is whole
abbrev pub texts_of : Facts → List ℕ → List Item → Stages → Known Texts
texts_of F specs items stages = asked (kind_of F (texts_for specs items stages))
    >>= λ kind. texts_at F (part_or_whole specs (texts_for specs items stages) kind)
