use Rattle.drv_gcc.specs.declared.fixed.TheConstants.{ALONE, COMMANDS, FIRST, FRONT_NAMES, GUARDS, LANGUAGES, LINK_GUARD, SIDE_FILES}
use Rattle.drv_gcc.specs.declared.fixed.TheConstants.{SOURCE_NAMES, WRAPPERS}
use Rattle.drv_gcc.specs.declared.toolchain.SideFiles.TheVariants.{Front, Source}
use Rattle.drv_gcc.specs.declared.toolchain.SideFiles.{SideFiles}
use Rattle.std.specs.Prelude.{List, ◌++◌, ℕ}

-- What no dump has: how gcc compiles and assembles a source of each language (gcc.cc, default_compilers), and where files go whose names
-- the front of gdrv-cc hands on. The texts themselves are constants of src/fixed.rt.

-- texts that a dump may replace
unfoldable pub first_texts : List ℕ
first_texts = FIRST.now

-- what a line is refused for
unfoldable pub guards : List ℕ
guards = GUARDS.now

-- what a line without the front is refused for
unfoldable pub alone : List ℕ
alone = ALONE.now

-- the names of side files: by what the front hands on, or by the source's name (gcc before release 11)
abbrev pub names_by : SideFiles → List ℕ
names_by Front = FRONT_NAMES.now
names_by Source = SOURCE_NAMES.now

-- the texts of side files
unfoldable pub side_files : SideFiles → List ℕ
side_files files = SIDE_FILES.now ++ names_by files

-- the words of -wrapper
unfoldable pub wrappers : List ℕ
wrappers = WRAPPERS.now

-- how a source is compiled
unfoldable pub commands : List ℕ
commands = COMMANDS.now

-- what each link is refused for
unfoldable pub link_guard : List ℕ
link_guard = LINK_GUARD.now

-- what is run for a source of each language
unfoldable pub languages : List ℕ
languages = LANGUAGES.now

-- the texts that follow those of a dump: these are the same for every gcc but for the names of side files
unfoldable pub last_texts : SideFiles → List ℕ
last_texts files = guards ++ alone ++ side_files files ++ wrappers ++ commands ++ link_guard ++ languages
