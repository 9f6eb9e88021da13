use Rattle.drv_dump.specs.declared.forms.WholeForm.TheVariants as form
use Rattle.drv_dump.specs.declared.forms.WholeForm.{WholeForm}
use Rattle.std.specs.List.{starts_with}
use Rattle.std.specs.Prelude.{◌-◌, List, [], ◌∷◌, None, Option, Some, codes, if◌then◌else◌, length, nat_eq, ℕ}

-- The forms of gcc's spec texts that this driver has in other words (GCC manual, "Spec Files"; the functions of gcc.cc by these names).
-- Named texts on the right side are those of the spec file that is written: what they say is known when it is written, or told by
-- the front (its switches begin with --gdrv-).
-- For clauses of src/ours.rt. A form that changes here changes in src/forms.rt and in rows of tests/tables/dumps (docs/CHANGING.md).

-- a form as gcc's texts have it; some have had two forms in different versions
abbrev pub of_gcc : WholeForm → List ℕ
of_gcc form.Object = codes "%{c:%W{o*}%{!o*:-o %w%b%O}}%{!c:-o %d%w%u%O}"
of_gcc form.OlderObject = codes "%{c:%W{o*}%{!o*:-o %w%b%O}}%{!c:-o %d%u%O}"
of_gcc form.SplitObject = codes "%{c:%{o*:%*}%{!o*:%w%b%O}}%{!c:%U%O}"
of_gcc form.OlderSplitObject = codes "%{c:%{o*:%*}%{!o*:%b%O}}%{!c:%U%O}"
of_gcc form.Dependencies = codes "%{!o:%b.d}%{o*:%.d%*}"
of_gcc form.OlderDwoName = codes "%{c:%{o*:%:replace-extension(%{o*:%*} .dwo)}%{!o*:%b.dwo}}%{!c:%b.dwo}"
of_gcc form.DwoName = codes "%b.dwo"
of_gcc form.Preprocessor = codes "cc1 -E"
of_gcc form.ExtractDwo = codes "objcopy --extract-dwo"
of_gcc form.StripDwo = codes "objcopy --strip-dwo"
of_gcc form.LinkTimeOptions = codes "%{flto} %{fno-lto} %{flto=*}"
of_gcc form.LinkerChoice = codes "%{fuse-ld=*:-fuse-ld=%*}"
of_gcc form.MachineOptions = codes "%{m*}"

-- what it is in this driver's language
abbrev pub ours : WholeForm → List ℕ
ours form.Object = codes "%(object)"
ours form.OlderObject = codes "%(object)"
ours form.SplitObject = codes "%(split_object)"
ours form.OlderSplitObject = codes "%(split_object)"
ours form.Dependencies = codes "%(dependencies)"
ours form.OlderDwoName = codes "%(dwo_name)"
ours form.DwoName = codes "%(dwo_name)"
ours form.Preprocessor = codes "%(cc1_cmd) -E"
ours form.ExtractDwo = codes "%(objcopy_cmd) --extract-dwo"
ours form.StripDwo = codes "%(objcopy_cmd) --strip-dwo"
ours form.LinkTimeOptions = []
ours form.LinkerChoice = []
ours form.MachineOptions = codes "%(machine_options)"

-- its bytes after the first one
abbrev pub others : WholeForm → ℕ
others form = length (of_gcc form) - 1

-- all forms of several pieces, in the order in which they are tried at a place of a text
abbrev pub whole_forms : List WholeForm
whole_forms =
    form.Object ∷ form.OlderObject ∷ form.SplitObject ∷ form.OlderSplitObject ∷ form.Dependencies ∷ form.OlderDwoName ∷ form.DwoName
    ∷ form.Preprocessor ∷ form.ExtractDwo ∷ form.StripDwo ∷ form.LinkTimeOptions ∷ form.LinkerChoice ∷ form.MachineOptions ∷ []

-- the first of these forms that a text begins with
abbrev pub first_at : List WholeForm → List ℕ → Option WholeForm
first_at [] text = None
first_at (form ∷ forms) text = if starts_with nat_eq text (of_gcc form) then Some form else first_at forms text

-- the form with which a text begins, if it begins with one
abbrev pub form_at : List ℕ → Option WholeForm
form_at text = first_at whole_forms text

-- Directives in other words, and those that this driver lacks. gcc itself hands the files of a link on in a response file where its line
-- had one (%o, close_at_file); here a text says so.
abbrev pub directives : List (List ℕ × List ℕ)
directives =
    (codes "%I", codes "%(include_words)") ∷ (codes "%D", codes "%(link_folders)") ∷ (codes "%M", codes "%(multilib_folder)")
    ∷ (codes "%R", codes "%(sysroot_folder)") ∷ (codes "%j", codes "%(checked)")
    ∷ (codes "%o", codes "%@{!-gdrv-none:%o}") ∷ []

-- directives that this driver lacks: a text that has one is refused
abbrev pub lacking_directives : List (List ℕ)
lacking_directives = codes "%c" ∷ codes "%p" ∷ codes "%P" ∷ codes "%v" ∷ codes "%." ∷ codes "%\"" ∷ []

-- functions in a text; those of -fcompare-debug and of a question (--target-help) are in lines that are asked of gcc, or refused before
abbrev pub calls : List (List ℕ × List ℕ)
calls =
    (codes "%:dumps()", codes "%(dump_words)") ∷ (codes "%:find-plugindir()", codes "%(plugin_folder)")
    ∷ (codes "%:pass-through-libs(%(link_gcc_c_sequence))", codes "%(lto_pass_through)") ∷ (codes "%:print-asm-header()", [])
    ∷ (codes "%:compare-debug-dump-opt()", []) ∷ (codes "%:compare-debug-self-opt()", []) ∷ (codes "%:compare-debug-auxbase-opt(%b)", [])
    ∷ []

-- functions that are tests: the front tells the level of debug information, its version, and the checks that are linked
abbrev pub other_checks : List (List ℕ × List ℕ)
other_checks = (codes "%:sanitize(leak)", codes "-gdrv-san=lsan") ∷ (codes "%:sanitize(undefined)", codes "-gdrv-san=ubsan") ∷ []

-- tests for the libraries of checks, which the front names by --gdrv-san=
abbrev pub checks : List (List ℕ × List ℕ)
checks =
    (codes "%:sanitize(address)", codes "-gdrv-san=asan") ∷ (codes "%:sanitize(hwaddress)", codes "-gdrv-san=hwasan")
    ∷ (codes "%:sanitize(thread)", codes "-gdrv-san=tsan") ∷ other_checks

-- functions that are tests, and the switches of the front that take their place
abbrev pub tests : List (List ℕ × List ℕ)
tests =
    (codes "%:debug-level-gt(0)", codes "-gdrv-level=*") ∷ (codes "%:debug-level-gt(2)", codes "-gdrv-level=3")
    ∷ (codes "%:dwarf-version-gt(4)", codes "-gdrv-dwarf=5")
    ∷ (codes "%:gt(%{ftree-parallelize-loops=*:%*} 1)", codes "%:version-compare(>= 2 ftree-parallelize-loops= y)") ∷ checks

-- those that become several tests, of which one must hold: no negation has them
abbrev pub either_tests : List (List ℕ × List ℕ)
either_tests =
    (codes "%:dwarf-version-gt(3)", codes "-gdrv-dwarf=4|-gdrv-dwarf=5")
    ∷ (codes "%:dwarf-version-gt(2)", codes "-gdrv-dwarf=3|-gdrv-dwarf=4|-gdrv-dwarf=5") ∷ []

-- how the calls of functions begin that this driver has too
abbrev pub own_calls : List (List ℕ)
own_calls =
    codes "%:getenv(" ∷ codes "%:if-exists(" ∷ codes "%:if-exists-else(" ∷ codes "%:if-exists-then-else(" ∷ codes "%:replace-outfile("
    ∷ codes "%:remove-outfile(" ∷ codes "%:version-compare(" ∷ []
