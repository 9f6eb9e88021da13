use Rattle.drv_search.specs.declared.prefixes.Prefixes.{Prefixes}
use Rattle.drv_specs.proofs.Booleans.{and_first, and_second, not_true}
use Rattle.drv_specs.proofs.Changes.{filled_body}
use Rattle.drv_specs.proofs.Dumps.{dump_read, pair_directive, text_directive}
use Rattle.drv_specs.proofs.SettledTexts.{body_ends}
use Rattle.drv_specs.specs.Blanks.{has_byte}
use Rattle.drv_specs.specs.Dumping.{Plain, doubled, dumped}
use Rattle.drv_specs.specs.Kept.{Each, IsNamed, IsPair, Kept, is_text}
use Rattle.drv_specs.specs.Loading.{Carried, Including, all_carried, changed, including, loaded, most_files, set_in, then_by}
use Rattle.drv_specs.specs.Sets.{Set, append, appends, by_tree, ends_with_backslash, has_tree, is_no_text, no_specs, put, with_body}
use Rattle.drv_specs.specs.Sets.{with_named, with_pair, with_pair_body, with_pair_text, with_text}
use Rattle.drv_specs.specs.Directives.{Directive}
use Rattle.drv_syntax.specs.Outcome.{parsed}
use Rattle.drv_syntax.specs.Tree.{Items}
use Rattle.drv_syntax.specs.declared.fault.SyntaxFault.{SyntaxFault}
use Rattle.drv_system.specs.Facts.{Facts}
use Rattle.drv_system.specs.Known.{Is}
use Rattle.indexmap.proofs.MapLemmas.{absent_before, absent_from_lookup, insert_entry-absent}
use Rattle.indexmap.specs.IndexMap.{insert_entry}
use Rattle.std.proofs.Common.{◌≡◌, ◌∙◌, ◌||◌, Bool, Err, List, [], ◌∷◌, ◌++◌, Ok, Result, ap, append_assoc, false, if◌then◌else◌, is_ok}
use Rattle.std.proofs.Common.{map, nat_eq, not, refl, subst, sym, true, ℕ, IfOk}
use Rattle.std.proofs.lemmas.List.{append-nil}
use Rattle.std.specs.Cmp.Lexicographic.{nat_list_eq_equiv, pointwise}
use Rattle.std.specs.List.{AllByRecursion, IsDistinct, list_all}
use Rattle.std.specs.Map.{keys_of}

-- For dump_reloads: a dump that is loaded into an empty set gives the set (`dump_loaded`); loaded over the set, it adds the pairs once more
-- (`dump_doubles`). It needs a set that files were loaded into (`Kept`), no text of which would append as a body (`Plain`).
-- Names: `set` is the set before. `F` is what is known of the outside. `prefixes` is where files are searched for. `files` is how many
-- files may still be read. `name` is the name of a text. `text` is a text. `inc` says what an included file does to a set. `done` is the
-- entries that were read back. `named` is the named texts that are still to be read. `all_carried` carries out directives in order.
-- `including` is what an included file does. `loaded` is a set after a text. `Kept set` is the invariant of every set. `is_text` says that
-- a text has the form of one in a spec file. `dumped set` is the text of a set. `Each P xs` says that P holds of each item.

-- the set of these texts and pairs
abbrev set_of : List (List ℕ × List ℕ) → List (List ℕ × List ℕ) → Set
set_of named pairs = record { named = named; pairs = pairs }

-- a set, and how many files may still be read
abbrev state : Set → ℕ → Carried
state set files = record { set = set; files = files }

-- an entry whose name no earlier one has goes last
insert_last : (done rest : List (List ℕ × List ℕ)) (name text : List ℕ)
    → IsDistinct (pointwise nat_eq) (keys_of (done ++ (name, text) ∷ rest))
    → insert_entry (pointwise nat_eq) done name text ≡ done ++ (name, text) ∷ []
insert_last done rest name text distinct =
    insert_entry-absent (pointwise nat_eq) name text done
    (absent_from_lookup (pointwise nat_eq name) done (absent_before nat_list_eq_equiv done rest (name, text) distinct))

-- a text that has a tree is not refused
tree_there : {X : Type 0} (name : List ℕ) (x : X) (given : Result Items SyntaxFault) → is_ok given ≡ true → by_tree name x given ≡ Ok x
tree_there name x (Ok tree) is = refl
tree_there name x (Err fault) is = absurd cc

-- a body that doesn't append is put
body_put : (set : Set) (name text : List ℕ) → is_text text ≡ true → not (appends text) ≡ true → with_body set name text ≡ put set name text
body_put set name [] body plain = absurd cc
body_put set name (b ∷ text) body plain =
    filled_body set name b text
    ∙ ap (λ t. if t then append set name text else put set name (b ∷ text)) (not_true (appends (b ∷ text)) plain)

-- a text in the form of one has no backslash at its end
text_ends : (text : List ℕ) → is_text text ≡ true → ends_with_backslash text ≡ false
text_ends [] body = absurd cc
text_ends (b ∷ text) body = body_ends b text false false body

-- the directive of a named text puts it
text_taken : (set : Set) (entry : List ℕ × List ℕ) → IsNamed entry → not (appends entry.1) ≡ true
    → with_text set entry.0 entry.1 ≡ Ok (with_named set entry.0 entry.1)
text_taken set entry kept plain =
    rw kept.name (rw (text_ends entry.1 kept.text) (body_put set entry.0 entry.1 kept.text plain
    ∙ tree_there entry.0 (with_named set entry.0 entry.1) (parsed entry.1) kept.tree))

-- the directives of named texts put them after those that are there
named_loaded : (inc : Including) (files : ℕ) (directives : List Directive) (done named : List (List ℕ × List ℕ)) → Each IsNamed named
    → list_all (λ entry. not (appends entry.1)) named ≡ true
    → IsDistinct (pointwise nat_eq) (keys_of (done ++ named))
    → all_carried inc (state (set_of done []) files) (map text_directive named ++ directives)
    ≡ all_carried inc (state (set_of (done ++ named) []) files) directives
named_loaded inc files directives done [] kept plain distinct =
    ap (λ es. all_carried inc (state (set_of es []) files) directives) (sym (append-nil done))
named_loaded inc files directives done (entry ∷ named) kept plain distinct =
    let whole = append_assoc done (entry ∷ []) named in
    ap (λ r. then_by (changed files r) (λ c. all_carried inc c (map text_directive named ++ directives)))
    (text_taken (set_of done []) entry kept.0 (and_first (not (appends entry.1)) _ plain)
    ∙ ap (λ es. Ok (set_of es [])) (insert_last done named entry.0 entry.1 distinct))
    ∙ named_loaded inc files directives (done ++ entry ∷ []) named kept.1 (and_second (not (appends entry.1)) _ plain)
    (subst (λ es. IsDistinct (pointwise nat_eq) (keys_of es)) (sym whole) distinct)
    ∙ ap (λ es. all_carried inc (state (set_of es []) files) directives) whole

-- a pair whose text has a tree, or isn't worked, is added
pair_worked : (set : Set) (key text : List ℕ) (no_text : Bool) → is_no_text text ≡ no_text → (no_text || has_tree text) ≡ true
    → (if no_text then Ok (with_pair set key text) else by_tree key (with_pair set key text) (parsed text)) ≡ Ok (with_pair set key text)
pair_worked set key text true is tree = refl
pair_worked set key text false is tree = tree_there key (with_pair set key text) (parsed text) tree

-- nor has the text of a pair
pair_ends : (text : List ℕ) → (not (has_byte text) || is_text text) ≡ true → ends_with_backslash text ≡ false
pair_ends [] body = refl
pair_ends (b ∷ text) body = text_ends (b ∷ text) body

-- the directive of a pair adds it
pair_taken : (set : Set) (pair : List ℕ × List ℕ) → IsPair pair → with_pair_body set pair.0 pair.1 ≡ Ok (with_pair set pair.0 pair.1)
pair_taken set pair kept =
    rw kept.key (
    ap (with_pair_text set pair.0) kept.whole
    ∙ rw (pair_ends pair.1 kept.text) (rw kept.no_alias (pair_worked set pair.0 pair.1 (is_no_text pair.1) refl kept.tree))
    )

-- the directives of pairs add them in order
pairs_loaded : (inc : Including) (files : ℕ) (named done pairs : List (List ℕ × List ℕ)) → Each IsPair pairs
    → all_carried inc (state (set_of named done) files) (map pair_directive pairs) ≡ Is (Ok (state (set_of named (done ++ pairs)) files))
pairs_loaded inc files named done [] kept = ap (λ es. Is (Ok (state (set_of named es) files))) (sym (append-nil done))
pairs_loaded inc files named done (pair ∷ pairs) kept =
    ap (λ r. then_by (changed files r) (λ c. all_carried inc c (map pair_directive pairs))) (pair_taken (set_of named done) pair kept.0)
    ∙ pairs_loaded inc files named (done ++ pair ∷ []) pairs kept.1
    ∙ ap (λ es. Is (Ok (state (set_of named es) files))) (append_assoc done (pair ∷ []) pairs)

-- a dump loaded into an empty set gives the set
pub dump_loaded : (F : Facts) (prefixes : Prefixes) (set : Set) → Kept set → Plain set
    → loaded F prefixes no_specs (dumped set) ≡ Is (Ok set)
unfolding loaded
dump_loaded F prefixes set kept plain =
    ap (λ ds. then_by (all_carried (including F prefixes 15) (state no_specs most_files) ds) set_in) (dump_read set kept)
    ∙ ap (λ known. then_by known set_in)
    (named_loaded (including F prefixes 15) most_files (map pair_directive set.pairs) [] set.named kept.named plain kept.distinct
    ∙ pairs_loaded (including F prefixes 15) most_files set.named [] set.pairs kept.pairs)

-- A set's dump loaded over the set.

-- a name that differs from all names of a list differs from each
apart_there : (name : List ℕ) (done : List (List ℕ × List ℕ)) (entry : List ℕ × List ℕ) (rest : List (List ℕ × List ℕ))
    → AllByRecursion (λ other. pointwise nat_eq name other ≡ false) (keys_of (done ++ entry ∷ rest))
    → pointwise nat_eq name entry.0 ≡ false
apart_there name [] entry rest apart = apart.0
apart_there name (e ∷ done) entry rest apart = apart_there name done entry rest apart.1

-- an entry that is put again where it is changes nothing
put_again : (done rest : List (List ℕ × List ℕ)) (name text : List ℕ)
    → IsDistinct (pointwise nat_eq) (keys_of (done ++ (name, text) ∷ rest))
    → insert_entry (pointwise nat_eq) (done ++ (name, text) ∷ rest) name text ≡ done ++ (name, text) ∷ rest
unfolding IsDistinct
put_again [] rest name text distinct =
    ap (λ hit. if hit then (name, text) ∷ rest else (name, text) ∷ insert_entry (pointwise nat_eq) rest name text)
    (nat_list_eq_equiv.refl name)
put_again (e ∷ done) rest name text distinct =
    let other : pointwise nat_eq name e.0 ≡ false = nat_list_eq_equiv.symm name e.0 ∙ apart_there e.0 done (name, text) rest distinct.0 in
    ap (λ hit. if hit then (e.0, text) ∷ (done ++ (name, text) ∷ rest)
    else e ∷ insert_entry (pointwise nat_eq) (done ++ (name, text) ∷ rest) name text) other
    ∙ ap (λ es. e ∷ es) (put_again done rest name text distinct.1)

-- over the set they put the same texts again, which changes nothing
named_again : (inc : Including) (files : ℕ) (directives : List Directive) (pairs done named : List (List ℕ × List ℕ)) → Each IsNamed named
    → list_all (λ entry. not (appends entry.1)) named ≡ true
    → IsDistinct (pointwise nat_eq) (keys_of (done ++ named))
    → all_carried inc (state (set_of (done ++ named) pairs) files) (map text_directive named ++ directives)
    ≡ all_carried inc (state (set_of (done ++ named) pairs) files) directives
named_again inc files directives pairs done [] kept plain distinct = refl
named_again inc files directives pairs done (entry ∷ named) kept plain distinct =
    let whole = append_assoc done (entry ∷ []) named in
    ap (λ r. then_by (changed files r) (λ c. all_carried inc c (map text_directive named ++ directives)))
    (text_taken (set_of (done ++ entry ∷ named) pairs) entry kept.0 (and_first (not (appends entry.1)) _ plain)
    ∙ ap (λ es. Ok (set_of es pairs)) (put_again done named entry.0 entry.1 distinct))
    ∙ ap (λ es. all_carried inc (state (set_of es pairs) files) (map text_directive named ++ directives)) (sym whole)
    ∙ named_again inc files directives pairs (done ++ entry ∷ []) named kept.1 (and_second (not (appends entry.1)) _ plain)
    (subst (λ es. IsDistinct (pointwise nat_eq) (keys_of es)) (sym whole) distinct)
    ∙ ap (λ es. all_carried inc (state (set_of es pairs) files) directives) whole

-- a dump loaded over the set adds its pairs once more
pub dump_doubles : (F : Facts) (prefixes : Prefixes) (set : Set) → Kept set → Plain set
    → loaded F prefixes set (dumped set) ≡ Is (Ok (doubled set))
unfolding loaded
dump_doubles F prefixes set kept plain =
    ap (λ ds. then_by (all_carried (including F prefixes 15) (state set most_files) ds) set_in) (dump_read set kept)
    ∙ ap (λ known. then_by known set_in)
    (named_again (including F prefixes 15) most_files (map pair_directive set.pairs) set.pairs [] set.named kept.named plain kept.distinct
    ∙ pairs_loaded (including F prefixes 15) most_files set.named set.pairs set.pairs kept.pairs)

-- the text that a dump gives, loaded into the empty set, gives the set
pub dump_given : {E : Type 0} (result : Result (List ℕ) E) (set : Set) → IfOk result (λ text. text ≡ dumped set) → Kept set → Plain set
    → (F : Facts) (prefixes : Prefixes)
    → IfOk result (λ text. loaded F prefixes no_specs text ≡ Is (Ok set))
dump_given (Ok text) set is kept plain F prefixes = ap (loaded F prefixes no_specs) is ∙ dump_loaded F prefixes set kept plain
dump_given (Err e) set is kept plain F prefixes = tt
