use Rattle.drv_args.specs.Fronts.{item}
use Rattle.drv_args.specs.Lines.{line_judged, line_read}
use Rattle.drv_args.specs.Options.{option_table}
use Rattle.drv_args.specs.declared.fault.ArgsFault.TheVariants.{BadJobs, MissingArgument, NoInputs, OutputIsInput, OutputWithMany}
use Rattle.drv_args.specs.declared.fault.ArgsFault.TheVariants.{StdinNeedsLanguage}
use Rattle.drv_args.specs.declared.fault.ArgsFault.{ArgsFault}
use Rattle.drv_args.specs.declared.line.Input.TheVariants.{File, Library, LinkWord}
use Rattle.drv_args.specs.declared.line.Line.{Line}
use Rattle.drv_args.specs.declared.line.Settings.{Settings}
use Rattle.drv_args.specs.declared.line.Switch.{Switch}
use Rattle.drv_args.specs.declared.option_table.Effect.TheVariants as effect
use Rattle.drv_words.specs.Bytes.{space}
use Rattle.std.proofs.Common.{◌≡◌, ◌==◌, List, [], ◌∷◌, codes, drop, false, map, refl, true, ℕ}
use Rattle.std.specs.List.{slice_split}
use Rattle.std.specs.Prelude.{Err, None, Ok, Result, Some}

-- Examples of lines, which the prover computes: each form of each option. The expected lines were derived by hand from the manual and the
-- profile.
-- Names: `item`: what a front adds to the line. `line_judged`: the line of items, or its refusal.

-- a switch without an argument, and one with an argument
abbrev alone : List ℕ → Switch
alone name = record { name = name; arg = None }

-- a switch with this argument
abbrev takes : List ℕ → List ℕ → Switch
takes name arg = record { name = name; arg = Some arg }

-- all settings off, and an empty line
abbrev off : Settings
off = record {
  dry = false;
  verbose = false;
  dump = false;
  pass_codes = false;
  pipe = false;
  from_file = false;
  output = None;
  specs = [];
  prefixes = [];
  jobs = 1;
}

-- a line that gives nothing
abbrev empty : Line
empty = record { switches = []; inputs = []; asm_opts = []; cpp_opts = []; settings = off }

-- the line of a text, whose words are separated by blanks
abbrev read_words : List (List ℕ) → Result Line ArgsFault
read_words words = line_read (record { words = words; from_file = false; files = [] })

-- the line of this text, whose words are separated by blanks
abbrev read : List ℕ → Result Line ArgsFault
read text = read_words (slice_split (λ b. b == space) text)

-- a line without words is refused
nothing : read_words [] ≡ Err NoInputs
nothing = refl

line_1 : read (codes "-### a.c") ≡ Ok (record empty { inputs = File (codes "a.c") None ∷ []; settings = record off { dry = true } })
unfolding option_table
line_1 = refl

line_2 : read (codes "-dumpspecs") ≡ Ok (record empty { settings = record off { dump = true } })
unfolding option_table
line_2 = refl

line_3 : read (codes "-pass-exit-codes a.c") ≡ Ok (record empty
    { inputs = File (codes "a.c") None ∷ []; settings = record off { pass_codes = true } })
unfolding option_table
line_3 = refl

line_4 : read (codes "-pipe a.c") ≡ Ok (record empty
    { switches = alone (codes "pipe") ∷ []; inputs = File (codes "a.c") None ∷ []; settings = record off { pipe = true } })
unfolding option_table
line_4 = refl

line_5 : read (codes "-v a.c") ≡ Ok (record empty {
  switches = alone (codes "v") ∷ [];
  inputs = File (codes "a.c") None ∷ [];
  settings =
      record off { verbose = true };
})
unfolding option_table
line_5 = refl

line_6 : read (codes "-c a.c") ≡ Ok (record empty { switches = alone (codes "c") ∷ []; inputs = File (codes "a.c") None ∷ [] })
unfolding option_table
line_6 = refl

line_7 : read (codes "-S a.c") ≡ Ok (record empty { switches = alone (codes "S") ∷ []; inputs = File (codes "a.c") None ∷ [] })
unfolding option_table
line_7 = refl

line_8 : read (codes "-E a.c") ≡ Ok (record empty { switches = alone (codes "E") ∷ []; inputs = File (codes "a.c") None ∷ [] })
unfolding option_table
line_8 = refl

line_9 : read (codes "-E -") ≡ Ok (record empty { switches = alone (codes "E") ∷ []; inputs = File (codes "-") None ∷ [] })
unfolding option_table
line_9 = refl

line_10 : read (codes "-specs=f a.c") ≡ Ok (record empty
    { switches = alone (codes "specs=f") ∷ []; inputs = File (codes "a.c") None ∷ []; settings = record off { specs = codes "f" ∷ [] } })
unfolding option_table
line_10 = refl

line_11 : read (codes "--specs=g a.c") ≡ Ok (record empty
    { switches = alone (codes "specs=g") ∷ []; inputs = File (codes "a.c") None ∷ []; settings = record off { specs = codes "g" ∷ [] } })
unfolding option_table
line_11 = refl

line_12 : read (codes "-x c a.q -xnone b.c -x asm -")
    ≡ Ok (record empty {
      inputs = File (codes "a.q") (Some (codes "c")) ∷ File (codes "b.c") None ∷ File (codes "-") (Some (codes "asm"))
          ∷ [];
    })
unfolding option_table
line_12 = refl

line_13 : read (codes "-o p a.c") ≡ Ok (record empty {
  switches = takes (codes "o") (codes "p") ∷ [];
  inputs = File (codes "a.c") None ∷ [];
  settings =
      record off { output = Some (codes "p") };
})
unfolding option_table
line_13 = refl

line_14 : read (codes "-op a.c") ≡ Ok (record empty {
  switches = takes (codes "o") (codes "p") ∷ [];
  inputs = File (codes "a.c") None ∷ [];
  settings =
      record off { output = Some (codes "p") };
})
unfolding option_table
line_14 = refl

line_15 : read (codes "-o p -oq a.c") ≡ Ok (record empty {
  switches = takes (codes "o") (codes "p") ∷ takes (codes "o") (codes "q") ∷ [];
  inputs = File (codes "a.c") None ∷ [];
  settings =
      record off { output = Some (codes "q") };
})
unfolding option_table
line_15 = refl

line_16 : read (codes "-B d a.c") ≡ Ok (record empty
    { switches = alone (codes "Bd") ∷ []; inputs = File (codes "a.c") None ∷ []; settings = record off { prefixes = codes "d" ∷ [] } })
unfolding option_table
line_16 = refl

line_17 : read (codes "-Bd -Be/ a.c") ≡ Ok (record empty {
  switches = alone (codes "Bd") ∷ alone (codes "Be/") ∷ [];
  inputs = File (codes "a.c") None ∷ [];
  settings =
      record off { prefixes = codes "d" ∷ codes "e/" ∷ [] };
})
unfolding option_table
line_17 = refl

line_18 : read (codes "-L d a.c") ≡ Ok (record empty { switches = alone (codes "Ld") ∷ []; inputs = File (codes "a.c") None ∷ [] })
unfolding option_table
line_18 = refl

line_19 : read (codes "-Ld a.c") ≡ Ok (record empty { switches = alone (codes "Ld") ∷ []; inputs = File (codes "a.c") None ∷ [] })
unfolding option_table
line_19 = refl

line_20 : read (codes "-l m") ≡ Ok (record empty { inputs = Library (codes "-lm") ∷ [] })
unfolding option_table
line_20 = refl

line_21 : read (codes "a.c -lm") ≡ Ok (record empty { inputs = File (codes "a.c") None ∷ Library (codes "-lm") ∷ [] })
unfolding option_table
line_21 = refl

line_22 : read (codes "-D M a.c") ≡ Ok (record empty
    { switches = takes (codes "D") (codes "M") ∷ []; inputs = File (codes "a.c") None ∷ [] })
unfolding option_table
line_22 = refl

line_23 : read (codes "-DM=1 a.c") ≡ Ok (record empty
    { switches = takes (codes "D") (codes "M=1") ∷ []; inputs = File (codes "a.c") None ∷ [] })
unfolding option_table
line_23 = refl

line_24 : read (codes "-U M -UN a.c") ≡ Ok (record empty
    { switches = takes (codes "U") (codes "M") ∷ takes (codes "U") (codes "N") ∷ []; inputs = File (codes "a.c") None ∷ [] })
unfolding option_table
line_24 = refl

line_25 : read (codes "-I d -Ie a.c") ≡ Ok (record empty
    { switches = takes (codes "I") (codes "d") ∷ takes (codes "I") (codes "e") ∷ []; inputs = File (codes "a.c") None ∷ [] })
unfolding option_table
line_25 = refl

line_26 : read (codes "-D  a.c") ≡ Ok (record empty { switches = takes (codes "D") [] ∷ []; inputs = File (codes "a.c") None ∷ [] })
unfolding option_table
line_26 = refl

line_27 : read (codes "-ex -Tx -MFx -includex a.c")
    ≡ Ok (record empty {
      switches = alone (codes "ex") ∷ alone (codes "Tx") ∷ alone (codes "MFx") ∷ alone (codes "includex") ∷ [];
      inputs =
          File (codes "a.c") None ∷ [];
    })
unfolding option_table
line_27 = refl

line_28 : read (codes "-Wa,a,,b a.c") ≡ Ok (record empty
    { inputs = File (codes "a.c") None ∷ []; asm_opts = codes "a" ∷ [] ∷ codes "b" ∷ [] })
unfolding option_table
line_28 = refl

line_29 : read (codes "-Wa, a.c") ≡ Ok (record empty { inputs = File (codes "a.c") None ∷ []; asm_opts = [] ∷ [] })
unfolding option_table
line_29 = refl

line_30 : read (codes "-Wp,-MD,x a.c") ≡ Ok (record empty
    { inputs = File (codes "a.c") None ∷ []; cpp_opts = codes "-MD" ∷ codes "x" ∷ [] })
unfolding option_table
line_30 = refl

line_31 : read (codes "-Wl,-z,now a.o") ≡ Ok (record empty
    { inputs = LinkWord (codes "-z") ∷ LinkWord (codes "now") ∷ File (codes "a.o") None ∷ [] })
unfolding option_table
line_31 = refl

line_32 : read (codes "-Xassembler a,b a.c") ≡ Ok (record empty { inputs = File (codes "a.c") None ∷ []; asm_opts = codes "a,b" ∷ [] })
unfolding option_table
line_32 = refl

line_33 : read (codes "-Xpreprocessor a,b a.c") ≡ Ok (record empty { inputs = File (codes "a.c") None ∷ []; cpp_opts = codes "a,b" ∷ [] })
unfolding option_table
line_33 = refl

line_34 : read (codes "-Xlinker a,b a.o") ≡ Ok (record empty { inputs = LinkWord (codes "a,b") ∷ File (codes "a.o") None ∷ [] })
unfolding option_table
line_34 = refl

line_35 : read (codes "-O2 -Wall -std=c99 -W -fno-x --c99 a.c")
    ≡ Ok (record empty {
      switches = alone (codes "O2") ∷ alone (codes "Wall") ∷ alone (codes "std=c99") ∷ alone (codes "W")
          ∷ alone (codes "fno-x") ∷ alone (codes "-c99") ∷ [];
      inputs = File (codes "a.c") None ∷ [];
    })
unfolding option_table
line_35 = refl

line_36 : read (codes " a.c") ≡ Ok (record empty { inputs = File [] None ∷ File (codes "a.c") None ∷ [] })
unfolding option_table
line_36 = refl

line_37 : read (codes "-- a.c") ≡ Ok (record empty { switches = alone (codes "-") ∷ []; inputs = File (codes "a.c") None ∷ [] })
unfolding option_table
line_37 = refl

line_38 : read (codes "-o - -E -") ≡ Ok (record empty {
  switches = takes (codes "o") (codes "-") ∷ alone (codes "E") ∷ [];
  inputs = File (codes "-") None ∷ [];
  settings =
      record off { output = Some (codes "-") };
})
unfolding option_table
line_38 = refl

line_39 : read (codes "-o /dev/null -c /dev/null")
    ≡ Ok (record empty {
      switches = takes (codes "o") (codes "/dev/null") ∷ alone (codes "c") ∷ [];
      inputs =
          File (codes "/dev/null") None ∷ [];
      settings = record off { output = Some (codes "/dev/null") };
    })
unfolding option_table
line_39 = refl

line_40 : read (codes "-S -") ≡ Err StdinNeedsLanguage
unfolding option_table
line_40 = refl

line_41 : read (codes "-") ≡ Err StdinNeedsLanguage
unfolding option_table
line_41 = refl

line_42 : read (codes "-c a.c -o a.c") ≡ Err (OutputIsInput (codes "a.c"))
unfolding option_table
line_42 = refl

line_43 : read (codes "-c a.c b.c -o x") ≡ Err OutputWithMany
unfolding option_table
line_43 = refl

line_44 : read (codes "-S a.c b.c -o a.c") ≡ Err OutputWithMany
unfolding option_table
line_44 = refl

line_45 : read (codes "a.c b.c -o x") ≡ Ok (record empty {
  switches = takes (codes "o") (codes "x") ∷ [];
  inputs = File (codes "a.c") None ∷ File (codes "b.c") None ∷ [];
  settings =
      record off { output = Some (codes "x") };
})
unfolding option_table
line_45 = refl

line_46 : read (codes "-o a.c -o x a.c") ≡ Ok (record empty {
  switches = takes (codes "o") (codes "a.c") ∷ takes (codes "o") (codes "x") ∷ [];
  inputs = File (codes "a.c") None ∷ [];
  settings =
      record off { output = Some (codes "x") };
})
unfolding option_table
line_46 = refl

line_47 : read (codes "-o x -o a.c a.c") ≡ Err (OutputIsInput (codes "a.c"))
unfolding option_table
line_47 = refl

line_48 : read (codes "a.c -o") ≡ Err (MissingArgument (codes "-o"))
unfolding option_table
line_48 = refl

line_49 : read (codes "a.c -D") ≡ Err (MissingArgument (codes "-D"))
unfolding option_table
line_49 = refl

line_50 : read (codes "a.c -Xlinker") ≡ Err (MissingArgument (codes "-Xlinker"))
unfolding option_table
line_50 = refl

line_51 : read (codes "--jobs=2 a.c") ≡ Ok (record empty { inputs = File (codes "a.c") None ∷ []; settings = record off { jobs = 2 } })
unfolding option_table
line_51 = refl

line_52 : read (codes "--jobs a.c -o") ≡ Err (BadJobs (codes "--jobs"))
unfolding option_table
line_52 = refl

line_53 : read (codes "a.c --jobsx") ≡ Err (BadJobs (codes "--jobsx"))
unfolding option_table
line_53 = refl

line_54 : read (codes "-dumpspecs -S -") ≡ Ok (record empty
    { switches = alone (codes "S") ∷ []; inputs = File (codes "-") None ∷ []; settings = record off { dump = true } })
unfolding option_table
line_54 = refl

line_55 : read (codes "-dumpspecs -c a.c b.c -o a.c")
    ≡ Ok (record empty {
      switches = alone (codes "c") ∷ takes (codes "o") (codes "a.c") ∷ [];
      inputs =
          File (codes "a.c") None ∷ File (codes "b.c") None ∷ [];
      settings = record off { dump = true; output = Some (codes "a.c") };
    })
unfolding option_table
line_55 = refl

line_56 : read (codes "-dumpspecs -o") ≡ Err (MissingArgument (codes "-o"))
unfolding option_table
line_56 = refl

line_57 : read (codes "--jobs=9 a.c --jobs=64 -v --jobs=1 --jobs=10")
    ≡ Ok (record empty {
      switches = alone (codes "v") ∷ [];
      inputs = File (codes "a.c") None ∷ [];
      settings =
          record off { verbose = true; jobs = 10 };
    })
unfolding option_table
line_57 = refl

line_58 : read (codes "-dumpspecs --jobs=0") ≡ Err (BadJobs (codes "--jobs=0"))
unfolding option_table
line_58 = refl

-- numbers of jobs, and words that are not such numbers
numbers : map (λ word. read_words (word ∷ codes "a.c" ∷ [])) (codes "--jobs=1" ∷ codes "--jobs=8" ∷ codes "--jobs=30" ∷ codes "--jobs=63" ∷
    codes "--jobs=64" ∷ [])
    ≡ map (λ jobs. Ok (record empty { inputs = File (codes "a.c") None ∷ []; settings = record off { jobs = jobs } }))
    (1 ∷ 8 ∷ 30 ∷ 63 ∷ 64 ∷ [])
unfolding option_table
numbers = refl

-- words that begin with --jobs and name no number from 1 to 64
abbrev no_numbers : List (List ℕ)
no_numbers = codes "--jobs" ∷ codes "--jobs=" ∷ codes "--jobs=0" ∷ codes "--jobs=65" ∷ codes "--jobs=99" ∷ codes "--jobs=100" ∷ codes
    "--jobs=08" ∷ codes "--jobs=00" ∷ codes "--jobs=064" ∷ codes "--jobs=+2" ∷ codes "--jobs=-1" ∷ codes "--jobs=2x" ∷ codes "--jobs=x" ∷
    codes "--jobs=:" ∷ codes "--jobs=/" ∷ codes "--jobsx" ∷ codes "--jobs2" ∷ []

-- each of them is refused
not_numbers : map (λ word. read_words (word ∷ codes "a.c" ∷ [])) no_numbers ≡ map (λ word. Err (BadJobs word)) no_numbers
unfolding option_table
not_numbers = refl

-- options that take the next word, but have no joined form
abbrev separate : List (List ℕ)
separate = codes "-A" ∷ codes "-e" ∷ codes "-u" ∷ codes "-z" ∷ codes "-T" ∷ codes "-Tbss" ∷ codes "-Tdata" ∷ codes "-Ttext" ∷ codes "-MF" ∷
    codes "-MT" ∷ codes "-MQ" ∷ codes "-include" ∷ codes "-imacros" ∷ codes "-idirafter" ∷ codes "-iprefix" ∷ codes "-iquote" ∷ codes
    "-isysroot" ∷ codes "-isystem" ∷ codes "-iwithprefix" ∷ codes "-iwithprefixbefore" ∷ codes "-aux-info" ∷ codes "--param" ∷ []

-- each option that takes the next word takes it, also one that begins with a hyphen
takes_next : map (λ option. read_words (codes "a.c" ∷ option ∷ codes "-x" ∷ [])) separate
    ≡ map (λ option. Ok (record empty { switches = takes (drop 1 option) (codes "-x") ∷ []; inputs = File (codes "a.c") None ∷ [] }))
    separate
unfolding option_table
takes_next = refl

-- and is refused as the last word
lacks_next : map (λ option. read_words (codes "a.c" ∷ option ∷ [])) separate ≡ map (λ option. Err (MissingArgument option)) separate
unfolding option_table
lacks_next = refl

-- lines of items that no words can give: an empty argument, and a file that begins like an option
given_1 : line_judged false (item effect.File (codes "a.c") [] ∷ item effect.Library (codes "-l") [] ∷ item effect.JoinedSwitch
    (codes "-L") [] ∷ [])
    ≡ Ok (record empty { switches = alone (codes "L") ∷ []; inputs = File (codes "a.c") None ∷ Library (codes "-l") ∷ [] })
given_1 = refl

given_2 : line_judged true (item effect.Switch (codes "--gdrv-dep=x.d") [] ∷ item effect.Output (codes "-o") (codes "x") ∷ item effect.File
    (codes "a.o") [] ∷ [])
    ≡ Ok (record empty {
      switches = alone (codes "-gdrv-dep=x.d") ∷ takes (codes "o") (codes "x") ∷ [];
      inputs =
          File (codes "a.o") None ∷ [];
      settings = record off { from_file = true; output = Some (codes "x") };
    })
given_2 = refl

given_3 : line_judged false (item effect.Output (codes "-o") (codes "a.c") ∷ item effect.File (codes "a.c") [] ∷ [])
    ≡ Err (OutputIsInput (codes "a.c"))
given_3 = refl

given_4 : line_judged false [] ≡ Err NoInputs
given_4 = refl

given_5 : line_judged false (item effect.Switch (codes "-c") [] ∷ item effect.File (codes "a.c") [] ∷ item effect.File (codes "a.o") []
    ∷ item
    effect.Output (codes "-o") (codes "x") ∷ [])
    ≡ Ok (record empty {
      switches = alone (codes "c") ∷ takes (codes "o") (codes "x") ∷ [];
      inputs =
          File (codes "a.c") None ∷ File (codes "a.o") None ∷ [];
      settings = record off { output = Some (codes "x") };
    })
given_5 = refl
