use Rattle.drv_args.specs.declared.line.Switch.{Switch}
use Rattle.drv_machine.specs.Context.{Context}
use Rattle.drv_search.specs.declared.prefixes.Prefixes.{Prefixes}
use Rattle.std.proofs.Common.{List, [], ℕ}
use Rattle.std.specs.Prelude.{None, false}

-- For the examples: lines that a text is run for.

-- a switch without an argument
abbrev pub alone : List ℕ → Switch
alone name = record { name = name; arg = None }

-- a context in which nothing is searched anywhere
abbrev pub no_prefixes : Prefixes
no_prefixes = record { programs = []; libraries = [] }

-- a link with these switches on its line
abbrev pub linking : List Switch → Context
linking switches = record {
  switches = switches;
  assembler = [];
  preprocessor = [];
  texts = [];
  prefixes = no_prefixes;
  is_piping = false;
  from_file = false;
  seed = 42;
  number = 1;
  accumulated = [];
  input = None;
  outputs = [];
}
