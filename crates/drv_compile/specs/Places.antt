use Rattle.drv_args.specs.declared.items.Item.{Item}
use Rattle.drv_cc.specs.Items.{is_among, same}
use Rattle.drv_cc.specs.Table.{texts}
use Rattle.drv_cc.specs.declared.answer.Stages.TheVariants.{All, AllOfC, Link, Sources, SourcesOfC}
use Rattle.drv_cc.specs.declared.answer.Stages.{Stages}
use Rattle.drv_system.specs.declared.event.PathKind.TheVariants.{Dir, Missing, Other, Plain}
use Rattle.drv_system.specs.declared.event.PathKind.{PathKind}
use Rattle.drv_words.specs.Bytes.{slash}
use Rattle.drv_compile.specs.Calling.{before_ending, folder}
use Rattle.std.specs.List.{list_any, starts_with}
use Rattle.std.specs.Prelude.{◌==◌, ◌&&◌, ◌||◌, ◌-◌, ◌∷◌, [], Bool, List, ◌++◌, None, Option, Some, codes, false, if◌then◌else◌, length}
use Rattle.std.specs.Prelude.{nat_eq}
use Rattle.std.specs.Prelude.{take, true, ℕ}

-- The place of the spec file, and of the files beside it (this project's profile).
-- For clauses of src/places.rt. gdrv-write-specs writes the files that it names.

-- the folder above a path, by that path without its last slash; the root is in itself
abbrev pub above_by : List ℕ → List ℕ → List ℕ
above_by path [] = path
above_by path (b ∷ unslashed) = folder (b ∷ unslashed)

-- the folder that a folder is in, with a slash at its end
abbrev pub above : List ℕ → List ℕ
above path = above_by path (take (length path - 1) path)

-- of the program at an absolute path: in share/gdrv beside the program's folder
abbrev pub beside : List ℕ → List ℕ → List ℕ
beside program machine = above (folder program) ++ codes "share/gdrv/" ++ machine ++ codes ".specs"

-- a path that the caller gives: one without a folder lies in the folder of the call
abbrev pub path_of_caller : List ℕ → List ℕ
path_of_caller path = if list_any (λ b. b == slash) path then path else codes "./" ++ path

-- the file of another ending beside a spec file
abbrev pub without_ending : List ℕ → Option (List ℕ) → List ℕ
without_ending path None = path
without_ending path (Some stem) = stem

-- the path of a file beside a spec file: the same name with another ending in place of .specs
abbrev pub companion : List ℕ → List ℕ → List ℕ
companion path ending = without_ending path (before_ending (codes ".specs") path) ++ ending

-- The files beside it hold parts of its texts: for a line without a link, for a line that only links, and for a line that may do both. The
-- first and the last have a shorter one for a line whose sources are all of C. None has the texts that these options, those for the machine
-- of the call and all that begin so need, or that a spec file of the line may change. Those for a link lack what --sysroot=.. needs too.

-- the options whose texts only the whole spec file has
abbrev pub whole_options : List (List ℕ)
whole_options =
    texts (codes "-specs= -save-temps -save-temps=cwd -save-temps=obj -gsplit-dwarf -traditional -traditional-cpp -no-integrated-cpp "
    ++ codes "-m32 -mx32 -m16")

-- the beginnings of options whose texts only the whole spec file has
abbrev pub whole_beginnings : List (List ℕ)
whole_beginnings = texts (codes "-gz= --gdrv-wrapper= --gdrv-path=")

-- whether an option begins so that only the whole spec file has its texts
abbrev pub is_begun : List ℕ → Bool
is_begun option = list_any (starts_with nat_eq option) whole_beginnings

-- whether an item asks for the machine of the call (-march=native): only the whole spec file has the words for it
abbrev pub is_native : Item → Bool
is_native i = is_among (texts (codes "-march= -mtune=")) i.option && same i.argument (codes "native")

-- whether an item needs texts that only the whole spec file has
abbrev pub wants_whole : Item → Bool
wants_whole i = is_among whole_options i.option || is_native i || is_begun i.option

-- whether an item gives another root of the system: the shorter files for a link lack its texts
abbrev pub is_rooted : Item → Bool
is_rooted i = same i.option (codes "--sysroot=")

-- whether a line of these stages may have a link
abbrev pub may_link : Stages → Bool
may_link SourcesOfC = false
may_link Sources = false
may_link Link = true
may_link AllOfC = true
may_link All = true

-- the shortest file beside the spec file that has the texts for these stages
abbrev pub texts_by : List ℕ → Stages → List ℕ
texts_by specs SourcesOfC = companion specs (codes ".c.compile")
texts_by specs Sources = companion specs (codes ".compile")
texts_by specs Link = companion specs (codes ".link")
texts_by specs AllOfC = companion specs (codes ".c.all")
texts_by specs All = companion specs (codes ".all")

-- the file that has the texts for a line: the whole spec file where an item needs that, or else a shorter one
abbrev pub texts_for : List ℕ → List Item → Stages → List ℕ
texts_for specs items stages =
    if list_any wants_whole items || (may_link stages && list_any is_rooted items) then specs else texts_by specs stages

-- where they are not there the whole file has them
abbrev pub part_or_whole : List ℕ → List ℕ → PathKind → List ℕ
part_or_whole specs path Plain = path
part_or_whole specs path Dir = specs
part_or_whole specs path Other = specs
part_or_whole specs path Missing = specs
