use Rattle.drv_args.specs.Expansion.{Itself, Large, Replacement, Refuses, Responds, Text, following, by_text, inside, itself, later}
use Rattle.drv_args.specs.Expansion.{no_word, too_large, too_many}
use Rattle.drv_args.specs.declared.fault.ArgsFault.TheVariants.{ResponseTooLarge}
use Rattle.drv_args.specs.declared.fault.ArgsFault.{ArgsFault}
use Rattle.drv_system.specs.Facts.{Facts}
use Rattle.drv_system.specs.Known.{Is, Known}
use Rattle.drv_words.proofs.Splitting.{one_list}
use Rattle.drv_words.specs.Response.{Splits}
use Rattle.std.proofs.Common.{◌≡◌, List, ◌∷◌, ◌++◌, refl, sym, subst, ap, ◌∙◌, ℕ}

-- For one_expansion: the expansion of words is unique, and so is their refusal.
-- Names: `word` is a word of the line. `words` is the words from here on. `F` is what is known of the outside. `left` is how many
-- replacements are left. `out` is the words that are done. `out'` is the words that are done after. `ws` is the words that follow. `a` and
-- `n` are numbers of replacements that are left. `text` is the text of a response file. `Responds F left words left' out files` says that
-- the words expand to `out`, and that these files are read. `Refuses F left words fault` says that their expansion is refused. `found` says
-- whether a word stays (`Itself`), or its file's text or a refusal takes its place. `Splits text words` says that a response file's text
-- means these words.

-- a word has one replacement
one_replacement : {found : Known Replacement} {a b : Replacement} → found ≡ Is a → found ≡ Is b → a ≡ b
one_replacement {a = a} {b = b} m m' = let same : Is a ≡ Is b = sym m ∙ m' in cc

-- a word that stays has no text
not_itself : {found : Known Replacement} {path text : List ℕ} → found ≡ Is Itself → found ≡ Is (Text path text) → ⊥
not_itself {path = path} {text = text} m m' = let same : Itself ≡ Text path text = one_replacement m m' in cc

-- a refused file's word doesn't stay
not_large : {found : Known Replacement} {path : List ℕ} → found ≡ Is (Large path) → found ≡ Is Itself → ⊥
not_large {path = path} m m' = let same : Large path ≡ Itself = one_replacement m m' in cc

-- and has no text
not_text : {found : Known Replacement} {large path text : List ℕ} → found ≡ Is (Large large) → found ≡ Is (Text path text) → ⊥
not_text {large = large} {path = path} {text = text} m m' = let same : Large large ≡ Text path text = one_replacement m m' in cc

-- a word that a text replaces names one file
same_path : {found : Known Replacement} {path path' text text' : List ℕ} → found ≡ Is (Text path text) → found ≡ Is (Text path' text')
    → path ≡ path'
same_path {path = path} {path' = path'} {text = text} {text' = text'} m m' =
    let same : Text path text ≡ Text path' text' = one_replacement m m' in cc

-- the words of a word's file are one list
same_inner : {found : Known Replacement} {path path' text text' : List ℕ} {inner inner' : List (List ℕ)}
    → found ≡ Is (Text path text) → Splits text inner → found ≡ Is (Text path' text') → Splits text' inner' → inner' ≡ inner
same_inner {path = path} {path' = path'} {text = text} {text' = text'} {inner = inner} {inner' = inner'} m splits m' splits' =
    let same : Text path' text' ≡ Text path text = one_replacement m' m in
    let texts : text' ≡ text = cc in
    one_list text inner' inner (subst (λ (t : List ℕ). Splits t inner') texts splits') splits

-- the same words by the same files, with as many replacements left
record Same (left left' : ℕ) (out out' files files' : List (List ℕ)) : Type 0 where
  lefts : left ≡ left'
  outs : out ≡ out'
  names : files ≡ files'

-- two expansions of the same words are the same
same : {F : Facts} {left a b : ℕ} {words out out' files files' : List (List ℕ)} → Responds F left words a out files
    → Responds F left words b out' files' → Same a b out out' files files'
same no_word no_word = record { lefts = refl; outs = refl; names = refl }
same (itself {word = word} m rest) (itself m' rest') =
    let s = same rest rest' in
    record { lefts = s.lefts; outs = ap (λ o. word ∷ o) s.outs; names = s.names }
same (itself m rest) (by_text m' splits inner rest') = absurd (not_itself m m')
same (by_text m splits inner rest) (itself m' rest') = absurd (not_itself m' m)
same {F = F} (by_text {left = left} {words = words} {out' = more} {files = files} {files' = later_files} m splits first rest)
    (by_text {mid = mid'} {left' = final} {path = path'} {out = out'} {out' = more'} {files = files'} {files' = later_files'} m' splits'
    first' rest') =
    let s = same first (subst (λ (ws : List (List ℕ)). Responds F left ws mid' out' files') (same_inner m splits m' splits') first') in
    let t = same rest (subst (λ (n : ℕ). Responds F n words final more' later_files') (sym s.lefts) rest') in
    record {
      lefts = t.lefts;
      outs = ap (λ o. o ++ more) s.outs ∙ ap (λ o. out' ++ o) t.outs;
      names = ap (λ p. p ∷ files ++ later_files) (same_path m m')
          ∙ ap (λ fs. path' ∷ fs ++ later_files) s.names
          ∙ ap (λ fs. path' ∷ files' ++ fs) t.names;
    }

-- as the law says it
pub responds_once : (F : Facts) (left a b : ℕ) (words out out' files files' : List (List ℕ)) → Responds F left words a out files
    → Responds F left words b out' files' → (a ≡ b) × (out ≡ out') × (files ≡ files')
responds_once F left a b words out out' files files' first second =
    let s = same first second in
    (s.lefts, s.outs, s.names)

-- words with an expansion aren't refused
never_both : {F : Facts} {left a : ℕ} {words out files : List (List ℕ)} {fault : ArgsFault} → Responds F left words a out files
    → Refuses F left words fault → ⊥
never_both no_word refused = elim refused [ ]
never_both (itself m rest) (too_large m') = not_large m' m
never_both (itself m rest) (too_many m') = not_itself m m'
never_both (itself m rest) (later m' refused) = never_both rest refused
never_both (itself m rest) (inside m' splits refused) = not_itself m m'
never_both (itself m rest) (following m' splits first refused) = not_itself m m'
never_both (by_text m splits first rest) (too_large m') = not_text m' m
never_both (by_text m splits first rest) (later m' refused) = not_itself m' m
never_both {F = F} (by_text {left = left} m splits first rest) (inside {fault = fault} m' splits' refused) =
    never_both first (subst (λ (ws : List (List ℕ)). Refuses F left ws fault) (same_inner m splits m' splits') refused)
never_both {F = F} (by_text {left = left} {words = words} m splits first rest)
    (following {mid = mid'} {out = out'} {files = files'} {fault = fault} m' splits' first' refused) =
    let s = same first (subst (λ (ws : List (List ℕ)). Responds F left ws mid' out' files') (same_inner m splits m' splits') first') in
    never_both rest (subst (λ (n : ℕ). Refuses F n words fault) (sym s.lefts) refused)

-- words that expand are not refused
pub responds_alone : (F : Facts) (left a : ℕ) (words out files : List (List ℕ)) (fault : ArgsFault) → Responds F left words a out files
    → Refuses F left words fault → ⊥
responds_alone F left a words out files fault responds refused = never_both responds refused

-- words are refused for one reason
one_refusal : {F : Facts} {left : ℕ} {words : List (List ℕ)} {f g : ArgsFault} → Refuses F left words f → Refuses F left words g → f ≡ g
one_refusal (too_large {path = path} m) (too_large {path = path'} m') =
    let large : Large path ≡ Large path' = one_replacement m m' in
    let paths : path ≡ path' = cc in
    ap ResponseTooLarge paths
one_refusal (too_large m) (too_many m') = absurd (not_text m m')
one_refusal (too_large m) (later m' refused) = absurd (not_large m m')
one_refusal (too_large m) (inside m' splits refused) = absurd (not_text m m')
one_refusal (too_large m) (following m' splits first refused) = absurd (not_text m m')
one_refusal (too_many m) (too_large m') = absurd (not_text m' m)
one_refusal (too_many m) (too_many m') = refl
one_refusal (too_many m) (later m' refused) = absurd (not_itself m' m)
one_refusal (later m refused) (too_large m') = absurd (not_large m' m)
one_refusal (later m refused) (too_many m') = absurd (not_itself m m')
one_refusal (later m refused) (later m' refused') = one_refusal refused refused'
one_refusal (later m refused) (inside m' splits refused') = absurd (not_itself m m')
one_refusal (later m refused) (following m' splits first refused') = absurd (not_itself m m')
one_refusal (inside m splits refused) (too_large m') = absurd (not_text m' m)
one_refusal (inside m splits refused) (later m' refused') = absurd (not_itself m' m)
one_refusal {F = F} (inside {left = left} m splits refused) (inside {fault = fault} m' splits' refused') =
    one_refusal refused (subst (λ (ws : List (List ℕ)). Refuses F left ws fault) (same_inner m splits m' splits') refused')
one_refusal {F = F} (inside {left = left} m splits refused) (following {mid = mid} {out = out} {files = files} m' splits' first refused') =
    absurd (never_both (subst (λ (ws : List (List ℕ)). Responds F left ws mid out files) (same_inner m splits m' splits') first) refused)
one_refusal (following m splits first refused) (too_large m') = absurd (not_text m' m)
one_refusal (following m splits first refused) (later m' refused') = absurd (not_itself m' m)
one_refusal {F = F} (following {left = left} m splits first refused) (inside {fault = fault} m' splits' refused') =
    absurd (never_both first (subst (λ (ws : List (List ℕ)). Refuses F left ws fault) (same_inner m splits m' splits') refused'))
one_refusal {F = F} (following {left = left} {words = words} m splits first refused)
    (following {mid = mid'} {out = out'} {files = files'} {fault = fault} m' splits' first' refused') =
    let s = same first (subst (λ (ws : List (List ℕ)). Responds F left ws mid' out' files') (same_inner m splits m' splits') first') in
    one_refusal refused (subst (λ (n : ℕ). Refuses F n words fault) (sym s.lefts) refused')

-- words are refused for one reason
pub refused_once : (F : Facts) (left : ℕ) (words : List (List ℕ)) (f g : ArgsFault) → Refuses F left words f
    → Refuses F left words g → f ≡ g
refused_once F left words f g first second = one_refusal first second
