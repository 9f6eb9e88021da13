use Rattle.drv_machine.proofs.Cutter.{put_failed, put_then}
use Rattle.drv_machine.proofs.ItemKinds.{labelled_is}
use Rattle.drv_machine.proofs.Standing.{First, PartsLeft, first_of, stand_grows, stands_after}
use Rattle.drv_machine.proofs.Steps.{fails_as}
use Rattle.drv_machine.specs.Atoms.{emitted, matching, places, switch_atoms}
use Rattle.drv_machine.specs.Code.ByKind.{labelled, put_at}
use Rattle.drv_machine.specs.Context.{Context, argument, names}
use Rattle.drv_machine.specs.Code.Running.{Machine, run}
use Rattle.drv_machine.specs.Code.Standing.{Stands}
use Rattle.drv_machine.specs.Working.{Break, Put, puts, word_of}
use Rattle.drv_machine.specs.declared.fault.MachineFault.TheVariants.{Memory}
use Rattle.drv_machine.specs.declared.fault.MachineFault.{MachineFault}
use Rattle.drv_match.specs.Matching.{any_hits, is_any_hit, is_hit, name_at}
use Rattle.drv_match.specs.Pattern as switches
use Rattle.drv_syntax.specs.Labels.{label_at, no_node, pattern_label, pattern_nodes}
use Rattle.drv_syntax.specs.Parsed.{tree_of}
use Rattle.drv_syntax.specs.Tokens.{tokens_of}
use Rattle.drv_syntax.specs.Tree.{Pattern, Span}
use Rattle.drv_syntax.specs.declared.token.Token.{Token}
use Rattle.drv_syntax.specs.declared.token.TokenKind.TheVariants as kinds
use Rattle.drv_system.specs.Facts.{Facts}
use Rattle.drv_system.specs.Known.{Is}
use Rattle.drv_words.specs.Bytes.{hyphen}
use Rattle.std.proofs.Common.{◌≡◌, ◌⊎◌, ◌<◌, ◌≤◌, ◌+◌, ◌∙◌, ◌++◌, ◌||◌, All, Bool, Err, List, [], ◌∷◌, Ok, Option, Some, ap, append-nil}
use Rattle.std.proofs.Common.{append_assoc, arith, drop, get_or, if◌then◌else◌, length, map, refl, slice_get, subst, sym, ℕ}
use Rattle.std.proofs.lemmas.List.{drop_more, length-map}
use Rattle.std.specs.List.{filter, flat_map, list_any, range_with_len}

-- For `emit` (emitting.rt), which puts the switches that the patterns of %{S*} hit: each switch once, in the order of the line, with its
-- argument.
-- Names: `C`: what the text is run for (switches, texts). `at`, `end`: places in the text's list of parts. `F`: what is known of the
-- outside. `i`: a place on the line. `s`, `t`: the machine (what has been cut, and the world) before, between and after steps. `A`: any
-- type. `places`: the places of the switches, in order. `matching`: a pattern of a text, for the switches of a line. `put_at`: the atoms of
-- the switches at these places of the line. `names`: the names of the line's switches, in order. `run`: runs a step after what has been
-- cut, in its world. `puts`: puts these atoms. `switch_atoms`: a switch as the line has it, and its argument. `n`: the number of switches.
-- `k`: an index in `places`.

-- the invariant of the loop over the patterns of a brace: those that were taken, and those that are left at a place
abbrev pub PatternsLeft : List ℕ → ℕ → ℕ → List switches.Pattern → List (Span × Pattern) → Type 0
PatternsLeft text at end done patterns = PartsLeft pattern_nodes text at end
    (λ rest. done ++ map (λ p. matching p.1) rest ≡ map (λ p. matching p.1) patterns)

-- the first of the patterns at a place, and the others
pub record FrontPattern (text : List ℕ) (at : ℕ) (patterns : List (Span × Pattern)) (end : ℕ) : Type 0 where
  pub pattern : Span × Pattern
  pub others : List (Span × Pattern)
  pub is : patterns ≡ pattern ∷ others
  pub first : First text at kinds.Pattern (pattern_label pattern.1) no_node (pattern_nodes others) end

-- where the place is before the end of the braces, a pattern is there: the loop of `patterns_in` may take it
pub front_pattern : (text : List ℕ) (at : ℕ) (patterns : List (Span × Pattern)) (end : ℕ) → at < end
    → Stands text at (pattern_nodes patterns) end → FrontPattern text at patterns end
front_pattern text at [] end h e = absurd (omega (arith, h, e))
front_pattern text at (p ∷ patterns) end h s = record { pattern = p; others = patterns; is = refl; first = first_of s }

-- where the place is at the end of the braces, no pattern is left: the loop of `patterns_in` ends
pub no_patterns_left : (text : List ℕ) (at : ℕ) (patterns : List (Span × Pattern)) (end : ℕ) → end ≤ at
    → Stands text at (pattern_nodes patterns) end → patterns ≡ []
no_patterns_left text at [] end h s = refl
no_patterns_left text at (p ∷ patterns) end h (next, part, within, following) =
    absurd (omega (arith, h, part.later, stand_grows _ _ next (pattern_nodes patterns) end following))

-- whether one of them hits, by the patterns or by what they match
any_map : {A B : Type 0} (f : B → Bool) (g : A → B) (xs : List A) → list_any f (map g xs) ≡ list_any (λ x. f (g x)) xs
any_map f g [] = refl
any_map f g (x ∷ xs) = ap (λ b. f (g x) || b) (any_map f g xs)

-- filters by tests that agree leave equal lists
filter_same : {A : Type 0} (f g : A → Bool) (xs : List A) → ((x : A) → f x ≡ g x) → filter f xs ≡ filter g xs
filter_same f g [] e = refl
filter_same f g (x ∷ xs) e = ap (λ b. if b then x ∷ filter f xs else filter f xs) (e x)
    ∙ ap (λ ys. if g x then x ∷ ys else ys) (filter_same f g xs e)

-- what is put is the switches at the places that a look-up of all patterns finds
pub emitted_is : (F : Facts) (C : Context) (patterns : List (Span × Pattern)) (hidden : List Bool)
    → emitted F C patterns hidden ≡ put_at F C (any_hits (names C) hidden (map (λ p. matching p.1) patterns))
emitted_is F C patterns hidden =
    ap (flat_map (switch_atoms F C)) (filter_same (λ i. list_any (λ p. is_hit (names C) hidden (matching p.1) i) patterns)
    (is_any_hit (names C) hidden (map (λ p. matching p.1) patterns)) (places F C)
    (λ i. sym (any_map (λ p. is_hit (names C) hidden p i) (λ p. matching p.1) patterns)))
    ∙ ap (λ n. put_at F C (filter (is_any_hit (names C) hidden (map (λ p. matching p.1) patterns)) (range_with_len 0 n)))
    (sym (length-map C.switches (λ s. s.name)))

-- the switches at the places that the code's look-up found, in its own list of names, are those that the definition puts
pub emitted_found : (F : Facts) (C : Context) (patterns : List (Span × Pattern)) (hidden flags : List Bool) (all : List (List ℕ))
    (these : List switches.Pattern) (found list : List ℕ) → list ≡ found → found ≡ any_hits all flags these
    → all ≡ names C → flags ≡ hidden → these ≡ map (λ p. matching p.1) patterns → put_at F C list ≡ emitted F C patterns hidden
emitted_found F C patterns hidden flags all these found list same is ns hs ps =
    ap (put_at F C) (same ∙ is ∙ ap (λ xs. any_hits xs flags these) ns ∙ ap (λ xs. any_hits (names C) xs these) hs
    ∙ ap (any_hits (names C) hidden) ps) ∙ sym (emitted_is F C patterns hidden)

-- the places that the look-up found are places of the line
pub all_in_line : (C : Context) (all : List (List ℕ)) (found list : List ℕ) → All (λ i. i < length all) found → list ≡ found → all ≡ names C
    → All (λ i. i < length C.switches) list
all_in_line C all found list within same ns =
    subst (λ (is : List ℕ). All (λ i. i < length C.switches) is) (sym same)
    (subst (λ (n : ℕ). All (λ i. i < n) found) (ap (λ xs. length xs) ns ∙ length-map C.switches (λ switch. switch.name)) within)

-- the loop's invariant after one more pattern is taken, by its token's label
pub patterns_step : (text : List ℕ) (at end : ℕ) → at < end → (token : Token) → slice_get (tokens_of (tree_of text)) at ≡ Some token
    → (done new : List switches.Pattern) (p : switches.Pattern)
    → p ≡ labelled (label_at (tree_of text) at) → new ≡ done ++ p ∷ [] → (patterns : List (Span × Pattern))
    → PatternsLeft text at end done patterns → PatternsLeft text token.next end new patterns
patterns_step text at end h token there done new p is e patterns left =
    let f = front_pattern text at left.rest end h left.stands in
    let m = matching f.pattern.1 in
    let one : p ≡ matching f.pattern.1 = is ∙ ap labelled f.first.part.label_is ∙ labelled_is f.pattern.1 in record {
      rest = f.others;
      stands = stands_after f.first token there;
      same =
          ap (λ ps. ps ++ map (λ q. matching q.1) f.others) (e ∙ ap (λ q. done ++ q ∷ []) one)
          ∙ append_assoc done (matching f.pattern.1 ∷ []) (map (λ q. matching q.1) f.others)
          ∙ ap (λ qs. done ++ map (λ q. matching q.1) qs) (sym f.is) ∙ left.same;
    }

-- at the end of the braces all their patterns are taken, as the definition matches them
pub patterns_end : (text : List ℕ) (at end : ℕ) → end ≤ at → (done : List switches.Pattern) (patterns : List (Span × Pattern))
    → PatternsLeft text at end done patterns → done ≡ map (λ p. matching p.1) patterns
patterns_end text at end h done patterns left =
    sym (append-nil done) ∙ ap (λ qs. done ++ map (λ q. matching q.1) qs) (sym (no_patterns_left text at left.rest end h left.stands))
    ∙ left.same

-- the switches that are left, one by one
module _ (F : Facts) (C : Context) (s t : Machine) (places : List ℕ) (k : ℕ) (h : k < length places) where
  -- the switches from the k-th place on are that one and those after it
  put_more : put_at F C (drop k places) ≡ switch_atoms F C (get_or places k 0) ++ put_at F C (drop (k + 1) places)
  put_more = ap (put_at F C) (drop_more places k 0 h)

  -- after one switch was put, the switches after it are left
  pub put_one : run F C s (puts (switch_atoms F C (get_or places k 0))) ≡ Is (Ok (tt, t))
      → run F C s (puts (put_at F C (drop k places))) ≡ run F C t (puts (put_at F C (drop (k + 1) places)))
  put_one went = ap (λ list. run F C s (puts list)) put_more
      ∙ put_then F C s t (switch_atoms F C (get_or places k 0)) (put_at F C (drop (k + 1) places)) went

  -- where one switch is refused, so are all that are left
  pub put_fails : (fault : MachineFault) → (fault ≡ Memory) ⊎ (run F C s (puts (switch_atoms F C (get_or places k 0))) ≡ Is (Err fault))
      → (fault ≡ Memory) ⊎ (run F C s (puts (put_at F C (drop k places))) ≡ Is (Err fault))
  put_fails fault stopped =
      fails_as (run F C s (puts (switch_atoms F C (get_or places k 0) ++ put_at F C (drop (k + 1) places))))
      (run F C s (puts (put_at F C (drop k places))))
      (put_failed F C s (switch_atoms F C (get_or places k 0)) (put_at F C (drop (k + 1) places)) fault stopped)
      (λ x. ap (λ list. run F C s (puts list)) put_more ∙ x)

-- an index of the code's list of names is a place of the line
pub in_line : (C : Context) (all : List (List ℕ)) (i n : ℕ) → i < n → n ≡ length all → all ≡ names C → i < length C.switches
in_line C all i n h e same = subst (λ (k : ℕ). i < k) (e ∙ ap (λ xs. length xs) same ∙ length-map C.switches (λ switch. switch.name)) h

-- a switch is put as a hyphen, its name, a break, and its argument as a word
pub switch_is : (F : Facts) (C : Context) (name : List ℕ) (given : Option (List ℕ)) (i : ℕ) → name ≡ name_at (names C) i
    → given ≡ argument C i
    → map Put (hyphen ∷ name) ++ Break ∷ word_of given ≡ switch_atoms F C i
switch_is F C name given i n a = ap (λ xs. map Put (hyphen ∷ xs) ++ Break ∷ word_of given) n
    ∙ ap (λ o. map Put (hyphen ∷ name_at (names C) i) ++ Break ∷ word_of o) a

-- where the code's index is the length of its list of names, the line is at its end
pub line_end : (C : Context) (all : List (List ℕ)) (i n : ℕ) → i ≤ n → n ≤ i → n ≡ length all → all ≡ names C → length C.switches ≡ i
line_end C all i n h g e same = sym (ap (λ xs. length xs) same ∙ length-map C.switches (λ switch. switch.name)) ∙ sym e
    ∙ by (omega (arith, h, g))
  where
    by : n ≡ i → n ≡ i
    by m = m
