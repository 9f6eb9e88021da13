use Rattle.drv_cc.specs.Checks.{names_no_check}
use Rattle.drv_cc.specs.Items.{is_among, is_number}
use Rattle.drv_cc.specs.Kept.{has, has_input}
use Rattle.drv_cc.specs.SideFiles.{compiled, is_some, sources}
use Rattle.drv_cc.specs.Table.{texts}
use Rattle.drv_cc.specs.declared.item.Item.{Item}
use Rattle.drv_options.specs.declared.option.Role.TheVariants as role
use Rattle.drv_options.specs.declared.option.Role.{Role}
use Rattle.std.specs.List.{list_any}
use Rattle.std.specs.Prelude.{◌&&◌, ◌||◌, Bool, List, codes, false, not, true, ℕ}

-- Lines that gcc itself answers (GCC manual, "Overall Options"; GCC, "opts-common.cc", read_cmdline_option).
-- For clauses of src/asking.rt.

-- Asked: the line has a question, or an argument that gcc's driver refuses in its own words; or it has an option that says more of a run,
-- and has nothing to run.

-- whether an item is a question that gcc answers by itself
abbrev pub is_question : Role → Bool
is_question role.Question = true
is_question _ = false

-- whether an item says more of a run (-v, -###): without input gcc answers it alone
abbrev pub tells : Role → Bool
tells role.Tells = true
tells _ = false

-- the options whose argument must be a number; gcc knows more ways to write one than digits ("opts-common.cc", integral_argument)
abbrev pub numeric : List (List ℕ)
numeric = texts (codes "-ftree-parallelize-loops= -finline-limit= -Wlarger-than=")

-- whether an option that takes a number has another argument: gcc refuses it in its own words
abbrev pub has_no_number : Item → Bool
has_no_number i = is_among numeric i.name && not (is_number i.argument)

-- whether an item makes its line one for gcc: a question, or an argument that gcc's driver judges
abbrev pub asks : Item → Bool
asks i = is_question i.role || (names_no_check i || has_no_number i)

-- the compiler judges what --param sets ("Optimize Options"), and it is started for sources of C that are not only preprocessed
abbrev pub only_preprocesses : List Item → Bool
only_preprocesses items = (has (codes "-E") items || has (codes "-M") items) || has (codes "-MM") items

-- whether a --param is on a line that starts no compiler: gcc alone says then whether it is one
abbrev pub sets_unjudged : List Item → Bool
sets_unjudged items = has (codes "--param=") items && (only_preprocesses items || not (is_some (sources compiled items)))

-- two formats of records that exclude each other ("opts.cc", set_debug_level: "conflicts with prior selection"): CTF or BTF may be beside
-- DWARF
abbrev pub is_stabs : Item → Bool
is_stabs i = is_among (texts (codes "-gstabs -gstabs+")) i.name

-- records of the format XCOFF
abbrev pub is_xcoff : Item → Bool
is_xcoff i = is_among (texts (codes "-gxcoff -gxcoff+")) i.name

-- records of DWARF, CTF or BTF
abbrev pub is_newer : Item → Bool
is_newer i = is_among (texts (codes "-gdwarf -gdwarf-2 -gdwarf-3 -gdwarf-4 -gdwarf-5 -gctf -gbtf")) i.name

-- whether the line asks for records of VMS, DWARF, CTF or BTF
abbrev pub has_vms_or_newer : List Item → Bool
has_vms_or_newer items = has (codes "-gvms") items || list_any is_newer items

-- whether stabs are beside another format
abbrev pub mixes_stabs : List Item → Bool
mixes_stabs items = list_any is_stabs items && (list_any is_xcoff items || has_vms_or_newer items)

-- whether XCOFF is beside VMS, DWARF, CTF or BTF
abbrev pub mixes_xcoff : List Item → Bool
mixes_xcoff items = list_any is_xcoff items && has_vms_or_newer items

-- whether VMS is beside DWARF, CTF or BTF
abbrev pub mixes_vms : List Item → Bool
mixes_vms items = has (codes "-gvms") items && list_any is_newer items

-- whether CTF is beside BTF
abbrev pub mixes_newer : List Item → Bool
mixes_newer items = has (codes "-gctf") items && has (codes "-gbtf") items

-- whether the line asks for two formats that exclude each other: gcc refuses it in its own words
abbrev pub mixes_formats : List Item → Bool
mixes_formats items = ((mixes_stabs items || mixes_xcoff items) || mixes_vms items) || mixes_newer items

-- a question where there is no input
abbrev pub tells_alone : List Item → Bool
tells_alone items = list_any (λ i. tells i.role) items && not (has_input items)

-- whether the whole line goes to gcc, which answers or refuses it
abbrev pub is_asked : List Item → Bool
is_asked items = ((list_any asks items || tells_alone items) || sets_unjudged items) || mixes_formats items
