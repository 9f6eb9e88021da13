use Rattle.drv_words.specs.Bytes.{newline}
use Rattle.drv_specs.specs.Sets.{Set, is_no_text}
use Rattle.std.specs.List.{filter}
use Rattle.std.specs.Prelude.{Bool, List, [], ◌∷◌, ◌++◌, codes, ℕ}

-- The built-in specs (GCC manual, "Spec Files"; the texts are this project's profile).

unfoldable pub builtin_named : List (List ℕ × List ℕ)
builtin_named =
    (codes "asm", codes "%{mcpu=*}")
    ∷ (codes "cpp", codes "%{posix:-D_POSIX_SOURCE}")
    ∷ (codes "cc1", codes "%{mcpu=*}")
    ∷ (codes "endfile", codes "crtend.o%s crtn.o%s")
    ∷ (codes "link", codes "%{shared} %{static}")
    ∷ (codes "lib", codes "-lc")
    ∷ (codes "libgcc", codes "-lgcc")
    ∷ (codes "link_gcc_c_sequence", codes "%G %L")
    ∷ (codes "linker", codes "rectool link")
    ∷ (codes "signed_char", codes "%{funsigned-char:-D__CHAR_UNSIGNED__}")
    ∷ (codes "startfile", codes "crt1.o%s crti.o%s")
    ∷ (codes "cpp_cmd", codes "rectool cpp")
    ∷ (codes "cc1_cmd", codes "rectool cc1")
    ∷ (codes "as_cmd", codes "rectool as")
    ∷ (codes "cpp_unique_options", codes "%{nostdinc*} %{C} %{P} %{D*&U*} %{I*} %{M*} %{i*}")
    ∷ (codes "cpp_options", codes "%(cpp_unique_options) %{std=*} %C %Z")
    ∷ (codes "cc1_options", codes "%{O*} %{g*} %{f*} %{W*} %{w} %1")
    ∷ (codes "asm_options", codes "%{g*} %a %Y %{c:%W{o*}%{!o*:-o %w%b%O}}%{!c:-o %w%u%O}")
    ∷ (codes "link_command", codes "%{!E:%{!S:%{!c:%(linker) %l %{e*} %{r} %{s} %{t} %{T*} %{u*} %{z} %{L*} %X %W{o*}%{!o*:-o %wa.out} %{!nostdlib:%{!r:%{!nostartfiles:%S}}} %o %{!nostdlib:%{!r:%{!nodefaultlibs:%(link_gcc_c_sequence)} %{!nostartfiles:%E}}}}}}")
    ∷ []

-- suffixes and languages
unfoldable pub builtin_pairs : List (List ℕ × List ℕ)
builtin_pairs =
    (codes ".c", codes "@c")
    ∷ (codes ".i", codes "@cpp-output")
    ∷ (codes ".s", codes "@assembler")
    ∷ (codes ".S", codes "@assembler-with-cpp")
    ∷ (codes ".sx", codes "@assembler-with-cpp")
    ∷ (codes ".h", codes "#C header")
    ∷ (codes ".cc", codes "#C++")
    ∷ (codes ".cp", codes "#C++")
    ∷ (codes ".cxx", codes "#C++")
    ∷ (codes ".cpp", codes "#C++")
    ∷ (codes ".CPP", codes "#C++")
    ∷ (codes ".c++", codes "#C++")
    ∷ (codes ".C", codes "#C++")
    ∷ (codes ".ii", codes "#C++")
    ∷ (codes ".m", codes "#Objective-C")
    ∷ (codes ".mi", codes "#Objective-C")
    ∷ (codes ".mm", codes "#Objective-C++")
    ∷ (codes ".M", codes "#Objective-C++")
    ∷ (codes ".mii", codes "#Objective-C++")
    ∷ (codes "@c-header", codes "#C header")
    ∷ (codes "@c++", codes "#C++")
    ∷ (codes "@c++-cpp-output", codes "#C++")
    ∷ (codes "@objective-c", codes "#Objective-C")
    ∷ (codes "@c", codes "%{E:%(cpp_cmd) %(cpp_options) %i %W{o*} %V}%{!E:%(cc1_cmd) %(cpp_options) %(cc1_options) %i %{S:%W{o*}%{!o*:-o %w%b.s}}%{!S:-o %|.s |" ++ newline ∷ codes " %(as_cmd) %(asm_options) %m.s %A}}")
    ∷ (codes "@cpp-output", codes "%{!E:%(cc1_cmd) %(cc1_options) %i %{S:%W{o*}%{!o*:-o %w%b.s}}%{!S:-o %|.s |" ++ newline ∷ codes " %(as_cmd) %(asm_options) %m.s %A}}")
    ∷ (codes "@assembler", codes "%{!E:%{!S:%(as_cmd) %(asm_options) %i %A}}")
    ∷ (codes "@assembler-with-cpp", codes "%{E:%(cpp_cmd) %(cpp_options) %i %W{o*} %V}%{!E:%{!S:%(cpp_cmd) %(cpp_options) %i -o %|.s |" ++ newline ∷ codes " %(as_cmd) %(asm_options) %m.s %A}}")
    ∷ []

-- the built-in set: its named texts and its pairs
abbrev pub builtin_specs : Set
builtin_specs = record { named = builtin_named; pairs = builtin_pairs }

-- The pairs among them that have no text to run: suffixes that name a language, and languages that are not installed.
abbrev pub has_no_text : List ℕ × List ℕ → Bool
has_no_text pair = is_no_text pair.1

-- its pairs without texts of their own
abbrev pub suffixes : Set
suffixes = record { named = []; pairs = filter has_no_text builtin_pairs }
