use Rattle.drv_dump.specs.Ours.{ours_of}
use Rattle.drv_dump.specs.Texts.{pieces_of}
use Rattle.drv_dump.specs.Vendors.{vendor_text}
use Rattle.drv_dump.specs.declared.fault.Misfit.TheVariants.{BadTest, BareBrace, EscapedMark, Unclosed, UnknownDirective}
use Rattle.drv_dump.specs.declared.fault.OursFault.TheVariants.{Lacking}
use Rattle.drv_dump.specs.declared.fault.TextFault.TheVariants.{Unreadable}
use Rattle.drv_dump.specs.declared.fault.TextFault.{TextFault}
use Rattle.drv_dump.specs.declared.piece.Piece.{Piece}
use Rattle.std.proofs.Common.{◌≡◌, Err, List, [], ◌∷◌, Ok, Result, codes, map, refl, ℕ}

-- Examples of texts, which the prover computes from the definitions. Nothing cites them: each fails where a definition of specs/ (Grammar,
-- Forms, Files) changes what it gives.
-- Names: `pieces_of`: the pieces of a text, or the first byte that fits nothing. `ours_of`: a text of gcc in this driver's language.

-- the bytes of each piece
abbrev spread : Result (List Piece) TextFault → Result (List (List ℕ)) TextFault
spread (Ok pieces) = Ok (map (λ (piece : Piece). piece.bytes) pieces)
spread (Err fault) = Err fault

-- braces in braces, a test of several, and a negation
in_one_another :
    spread (pieces_of (codes "%{m32|!x:;:-a %{b*}}"))
    ≡ Ok (codes "%{" ∷ codes "m32" ∷ codes "|" ∷ codes "!" ∷ codes "x" ∷ codes ":" ∷ codes ";" ∷ codes ":" ∷ codes "-a " ∷ codes "%{"
    ∷ codes "b*" ∷ codes "}" ∷ codes "}" ∷ [])
in_one_another = refl

-- the arguments of a function go to the parenthesis that closes the first
arguments_to_their_end : spread (pieces_of (codes "%:f(a(b)%{c:d})e")) ≡ Ok (codes "%:f(a(b)%{c:d})" ∷ codes "e" ∷ [])
arguments_to_their_end = refl

-- a message goes to the end of its alternative, whatever bytes it has
message_to_its_end :
    spread (pieces_of (codes "%{a:%eno %i;:b}%n{x}")) ≡ Ok
    (codes "%{" ∷ codes "a" ∷ codes ":" ∷ codes "%eno %i" ∷ codes ";" ∷ codes ":" ∷ codes "b" ∷ codes "}" ∷ codes "%n{x}" ∷ [])
message_to_its_end = refl

-- a brace that closes nothing
no_brace_is_open : pieces_of (codes "a}") ≡ Err (Unreadable BareBrace 1)
no_brace_is_open = refl

-- a byte after % that begins no directive
no_such_directive : pieces_of (codes "a%q") ≡ Err (Unreadable UnknownDirective 2)
no_such_directive = refl

-- patterns have no alternative
no_second_alternative_of_patterns : pieces_of (codes "%{a;b:c}") ≡ Err (Unreadable BadTest 3)
no_second_alternative_of_patterns = refl

-- the first alternative has tests
no_tests_at_first : pieces_of (codes "%{:a}") ≡ Err (Unreadable BadTest 2)
no_tests_at_first = refl

-- a backslash before a mark of an alternative is refused, since gcc doesn't heed it there
backslash_hides_no_end : pieces_of (codes "%{a:b\\;c}") ≡ Err (Unreadable EscapedMark 6)
backslash_hides_no_end = refl

-- braces that nothing closes
braces_without_an_end : pieces_of (codes "%{a:b") ≡ Err (Unreadable Unclosed 5)
braces_without_an_end = refl

-- a test of the level becomes a switch of the front, and %I the words of the spec file
level_of_debug_information : ours_of (codes "%{%:debug-level-gt(0):-g %I}") ≡ Ok (codes "%{-gdrv-level=*:-g %(include_words)}")
level_of_debug_information = refl

-- a test of the version becomes several, of which one must hold
several_tests_for_one : ours_of (codes "%{%:dwarf-version-gt(3):-g}") ≡ Ok (codes "%{-gdrv-dwarf=4|-gdrv-dwarf=5:-g}")
several_tests_for_one = refl

-- a test that becomes several has no negation, so its text is refused
no_negation_of_several : ours_of (codes "%{!%:dwarf-version-gt(3):-g}") ≡ Err (Lacking (codes "%:dwarf-version-gt(3)"))
no_negation_of_several = refl

-- two forms of several pieces beside one another
whole_forms_in_a_row : ours_of (codes "%{c:%W{o*}%{!o*:-o %w%b%O}}%{!c:-o %d%w%u%O} %{m*}") ≡ Ok (codes "%(object) %(machine_options)")
whole_forms_in_a_row = refl

-- a function that this driver lacks is refused where it would be called
unknown_function_in_place :
    ours_of (codes "%{march=*:%:rewrite_march(%{march=*:%*})}")
    ≡ Ok (codes "%{march=*:%{-gdrv-none:;:%efunction %:rewrite_march is not in this spec file}}")
unknown_function_in_place = refl

-- a file that is included becomes a named text
text_of_a_file : ours_of (codes "%:include(libgomp.spec)%(link_gomp)") ≡ Ok (codes "%(include_libgomp.spec)%(link_gomp)")
text_of_a_file = refl

-- a function that this driver has stays as it is
own_function_stays : ours_of (codes "%:if-exists(a.o%s)") ≡ Ok (codes "%:if-exists(a.o%s)")
own_function_stays = refl

-- files that are looked for become named texts, but not one whose word another piece begins
files_by_their_names :
    ours_of (codes "a.o%s -T %{static:crt1.o%s;:-b libasan_preinit%O%s} %{T*}c%s")
    ≡ Ok (codes "%(file_a.o) -T %{static:%(file_crt1.o);:-b %(file_libasan_preinit.o)} %{T*}c%s")
files_by_their_names = refl

-- the test of a macro becomes one of a switch of the front; other switches that begin with D, and %M's text
test_of_a_macro :
    vendor_text (codes "%{!DA|DB_1:-x;D*:%{D*}} -L%M %{-a=*:%*/%M}crt0%O%s")
    ≡ Ok (codes "%{!-gdrv-define=A|-gdrv-define=B_1:-x;D*:%{D*}} -L%(multilib_folder) %{-a=*:%*/%(multilib_folder)}crt0%O%s")
test_of_a_macro = refl

-- a macro that is no test
macro_alone : vendor_text (codes "%{DA}") ≡ Err (Lacking (codes "DA"))
macro_alone = refl
