use Rattle.drv_args.specs.declared.line.Switch.{Switch}
use Rattle.drv_funcs.specs.declared.site.Site.TheVariants as site
use Rattle.drv_funcs.specs.declared.site.Site.{Site}
use Rattle.drv_search.specs.declared.prefixes.Prefixes.{Prefixes}
use Rattle.std.specs.Cmp.Lexicographic.{pointwise}
use Rattle.std.specs.Map.{lookup}
use Rattle.std.specs.Prelude.{Bool, List, Option, None, Some, get_or, map, nat_eq, ℕ}

-- What a text is run for (this project's profile).

-- an input: its name, and the name of its language if it has one
pub record Source : Type 0 where
  pub name : List ℕ
  pub language : Option (List ℕ)

-- what a text is run for: the line's switches and pieces, the texts, and what the texts before it left
pub record Context : Type 0 where
  pub switches : List Switch  -- of the line
  pub assembler : List (List ℕ)  -- the line's pieces for the assembler
  pub preprocessor : List (List ℕ)  -- and for the preprocessor
  pub texts : List (List ℕ × List ℕ)  -- the named texts
  pub prefixes : Prefixes  -- where programs and files are looked for
  pub is_piping : Bool  -- -pipe stands on the line, hidden or not
  pub from_file : Bool  -- words of the line come from a response file
  pub seed : ℕ  -- of the names of temporaries
  pub number : ℕ  -- of the next name that is drawn
  pub accumulated : List (List ℕ)  -- that %x accumulated so far
  pub input : Option Source  -- that the text is worked for; none for the link
  pub outputs : List (List ℕ)  -- of the jobs so far, for the link

-- the text of a name, if the set has one
abbrev pub text_named : Context → List ℕ → Option (List ℕ)
text_named C name = lookup (pointwise nat_eq name) C.texts

-- the names of the line's switches, in order
abbrev pub names : Context → List (List ℕ)
names C = map (λ s. s.name) C.switches

-- the argument of the switch at a place, if it has one
abbrev pub argument : Context → ℕ → Option (List ℕ)
argument C i = get_or (map (λ s. s.arg) C.switches) i None

-- the text that functions are called in: that of a source, or of the link
abbrev pub site_for : Option Source → Site
site_for (Some source) = site.Source
site_for None = site.Link

-- the text that functions are called in, by the context
abbrev pub site_of : Context → Site
site_of C = site_for C.input
