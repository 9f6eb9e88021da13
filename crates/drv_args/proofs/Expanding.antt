use Rattle.drv_args.specs.Expansion.{Expands, Itself, Refuses, Responds, Text, following, by_answer, by_name, by_text, file_named, inside}
use Rattle.drv_args.proofs.Limiting.{limited_read}
use Rattle.drv_args.specs.Expansion.{itself, judged, later, limited, replacement_of, no_word, too_large, too_many}
use Rattle.drv_args.specs.Code.Replacing.{IsPut, IsReplaced}
use Rattle.drv_args.specs.declared.fault.ArgsFault.TheVariants.{Memory, ResponseTooLarge, TooManyFiles}
use Rattle.drv_args.specs.declared.fault.ArgsFault.{ArgsFault}
use Rattle.drv_args.specs.declared.line.Expanded.{Expanded}
use Rattle.drv_system.specs.Asking.{Extends}
use Rattle.drv_system.specs.Facts.{Facts, read_of}
use Rattle.drv_system.specs.Known.{◌>>=◌, Is, asked}
use Rattle.drv_system.specs.declared.event.ReadAnswer.TheVariants.{Failed, Missing}
use Rattle.drv_system.specs.declared.event.ReadAnswer.{ReadAnswer}
use Rattle.drv_words.specs.Response.{Splits, SplitsOnto}
use Rattle.std.proofs.Common.{◌≡◌, ◌⊎◌, ◌||◌, drop, take, Bool, Err, List, None, Option, false, is_some, true, [], ◌∷◌, ◌++◌, IsErrAnd, Ok}
use Rattle.std.proofs.Common.{Result, Some, reverse, refl, sym, subst, ap, ◌∙◌, append_assoc, inl, inr, ℕ, suc}
use Rattle.std.proofs.Math.Seq.{append_snoc, drop-append_seam, take-append_seam}
use Rattle.std.specs.List.{list_any}
use Rattle.std.proofs.lemmas.List.{append-nil, reverse-append, reverse-reverse}

-- For `expand`: the words in front are expanded, then the words after them.
-- Names: `word` is a word of the line. `words` is the words from here on. `F` is what is known of the outside. `left` is how many
-- replacements are left. `left'` is how many replacements are left after. `args` is all words of the call. `out` is the words that are
-- done. `out'` is the words that are done after. `stack` is the words that are still to be done, the next one last. `stack'` is the words
-- that are still to be done after. `rest` is the words that are still to be done, without the next one. `inner` is the words of a response
-- file. `front` is the words before those at hand. `fault` is a refusal. `Refuses F left words fault` says that their expansion is refused.
-- `Responds F left words left' out files` says, by the definition, that the words expand to `out`, and that these files are read.
-- `file_named word` is the file that @FILE names. `replacement_of F word` says whether the word stays (`Itself`), or its file's text or a
-- refusal takes its place. `by_answer` is the replacement of a word by the answer for its file. `judged` turns a file with too many words
-- into one that is too large. `GoesOn F left words out files args` says that what these words give, after `out` and `files`, is what all of
-- `args` give, for a result and for a refusal.

-- the replacement of a word, by the facts after the call that asked for its file
pub replacement_is : (most : Option ℕ) (F G : Facts) (word path : List ℕ) (answer : ReadAnswer) → Extends G F → file_named word ≡ Some path
    → read_of G path ≡ Some answer → replacement_of (limited most F) word ≡ Is (by_answer path (judged most answer))
replacement_is most F G word path answer e named known =
    ap (by_name (limited most F)) named
    ∙ ap (λ a. asked a >>= λ answer. Is (by_answer path answer)) (limited_read most F path answer (e.reads path answer known))

-- a file that is missing, or can't be read, leaves its word as it is
pub itself_by : (most : Option ℕ) (path : List ℕ) (answer : ReadAnswer) → (answer ≡ Missing) ⊎ (answer ≡ Failed)
    → Is (by_answer path (judged most answer)) ≡ Is Itself
itself_by most path answer (inl e) = ap (λ a. Is (by_answer path (judged most a))) e
itself_by most path answer (inr e) = ap (λ a. Is (by_answer path (judged most a))) e

-- The expansion of words in front, and of those after them. `mid` is how many replacements are left between both. `out_front` and
-- `out_after` are the words that each gives, `files_front` and `files_after` the files that each reads.
record Parts (F : Facts) (left : ℕ) (front words : List (List ℕ)) (left' : ℕ) (out files : List (List ℕ)) : Type 0 where
  mid : ℕ
  out_front : List (List ℕ)
  out_after : List (List ℕ)
  files_front : List (List ℕ)
  files_after : List (List ℕ)
  is : out ≡ out_front ++ out_after
  files_are : files ≡ files_front ++ files_after
  first : Responds F left front mid out_front files_front
  second : Responds F mid words left' out_after files_after

-- the expansion of two lists is that of the first, and then that of the second
parts_of : {F : Facts} {left left' : ℕ} {out files : List (List ℕ)} (front words : List (List ℕ))
    → Responds F left (front ++ words) left' out files → Parts F left front words left' out files
parts_of {left = left} {out = out} {files = files} [] words all = record {
  mid = left;
  out_front = [];
  out_after = out;
  files_front = [];
  files_after = files;
  is = refl;
  files_are = refl;
  first = no_word;
  second = all;
}
parts_of (word ∷ front) words (itself {word = w} m rest) =
    let p = parts_of front words rest in
    record {
      mid = p.mid;
      out_front = w ∷ p.out_front;
      out_after = p.out_after;
      files_front = p.files_front;
      files_after = p.files_after;
      is = ap (λ o. w ∷ o) p.is;
      files_are = p.files_are;
      first = itself m p.first;
      second = p.second;
    }
parts_of (word ∷ front) words (by_text {path = path} {out = o} {files = fs} m splits inner rest) =
    let p = parts_of front words rest in
    record {
      mid = p.mid;
      out_front = o ++ p.out_front;
      out_after = p.out_after;
      files_front = path ∷ fs ++ p.files_front;
      files_after = p.files_after;
      is = ap (λ b. o ++ b) p.is
          ∙ sym (append_assoc o p.out_front p.out_after);
      files_are = ap (λ b. path ∷ fs ++ b) p.files_are
          ∙ ap (λ b. path ∷ b) (sym (append_assoc fs p.files_front p.files_after));
      first = by_text m splits inner p.first;
      second = p.second;
    }

-- a refusal in the words in front, or in those after them
data Refused (F : Facts) (left : ℕ) (front words : List (List ℕ)) (fault : ArgsFault) : Type 0 where
  in_front : Refuses F left front fault → Refused F left front words fault
  in_rest : {mid : ℕ} {out files : List (List ℕ)} → Responds F left front mid out files → Refuses F mid words fault
      → Refused F left front words fault

-- so a refusal is of the first, or of the second after the first
refused_of : {F : Facts} {left : ℕ} {fault : ArgsFault} (front words : List (List ℕ)) → Refuses F left (front ++ words) fault
    → Refused F left front words fault
refused_of [] words all = in_rest no_word all
refused_of (word ∷ front) words (too_large m) = in_front (too_large m)
refused_of (word ∷ front) words (too_many m) = in_front (too_many m)
refused_of {F = F} {left = left} {fault = fault} (word ∷ front) words (later m rest) = go (refused_of front words rest)
  where
    go : Refused F left front words fault → Refused F left (word ∷ front) words fault
    go (in_front r) = in_front (later m r)
    go (in_rest done r) = in_rest (itself m done) r
refused_of (word ∷ front) words (inside m splits inner) = in_front (inside m splits inner)
refused_of {F = F} {fault = fault} (word ∷ front) words (following {left = left} {mid = mid} m splits inner rest) = go
    (refused_of front words rest)
  where
    go : Refused F mid front words fault → Refused F (suc left) (word ∷ front) words fault
    go (in_front r) = in_front (following m splits inner r)
    go (in_rest done r) = in_rest (by_text m splits inner done) r

-- the expansion so far leads to that of all arguments
pub record GoesOn (F : Facts) (left : ℕ) (words out files args : List (List ℕ)) : Type 0 where
  pub responds : (left' : ℕ) (more more_files : List (List ℕ)) → Responds F left words left' more more_files
      → Responds F 2000 args left' (out ++ more) (files ++ more_files)
  pub refuses : (fault : ArgsFault) → Refuses F left words fault → Refuses F 2000 args fault

-- before the first word all words are still to be done
pub goes_from_start : (F : Facts) (args : List (List ℕ)) → GoesOn F 2000 args [] [] args
goes_from_start F args = record { responds = λ left' more more_files r. r; refuses = λ fault r. r }

-- a word that stays is done
pub goes_by_itself : (F : Facts) (left : ℕ) (word : List ℕ) (words out files args : List (List ℕ))
    → replacement_of F word ≡ Is Itself → GoesOn F left (word ∷ words) out files args → GoesOn F left words (out ++ word ∷ []) files args
goes_by_itself F left word words out files args m goes = record {
  responds = λ left' more more_files r.
      let P : List (List ℕ) → Type 0 = λ o. Responds F 2000 args left' o (files ++ more_files) in
      subst P (sym (append_snoc out word more)) (goes.responds left' (word ∷ more) more_files (itself m r));
  refuses = λ fault r. goes.refuses fault (later m r);
}

-- a word that a text replaces gives way to the words of the text
pub goes_by_text : (F : Facts) (left : ℕ) (word path text : List ℕ) (inner words out files args : List (List ℕ))
    → replacement_of F word ≡ Is (Text path text) → Splits text inner → GoesOn F (suc left) (word ∷ words) out files args
    → GoesOn F left (inner ++ words) out (files ++ path ∷ []) args
goes_by_text F left word path text inner words out files args m splits goes = record {
  responds = λ left' more more_files r.
      let p : Parts F left inner words left' more more_files = parts_of inner words r in
      let P : List (List ℕ) → Type 0 = λ o. Responds F 2000 args left' (out ++ o) (files ++ (path ∷ p.files_front ++ p.files_after)) in
      let Q : List (List ℕ) → Type 0 = λ fs. Responds F 2000 args left' (out ++ more) fs in
      let are : (files ++ path ∷ []) ++ more_files ≡ files ++ (path ∷ p.files_front ++ p.files_after) = append_snoc files path more_files
      ∙ ap (λ fs. files ++ path ∷ fs) p.files_are in
      subst Q (sym are) (subst P (sym p.is) (goes.responds left' (p.out_front ++ p.out_after) (path ∷ p.files_front ++ p.files_after)
      (by_text m splits p.first p.second)));
  refuses = λ fault r. goes.refuses fault (refused (refused_of inner words r));
}
  where
    refused : {fault : ArgsFault} → Refused F left inner words fault → Refuses F (suc left) (word ∷ words) fault
    refused (in_front r) = inside m splits r
    refused (in_rest done r) = following m splits done r

-- The same for a stack, whose last word is the next one.

-- the last word on the stack is the next one
next_is : (stack rest : List (List ℕ)) (word : List ℕ) → stack ≡ rest ++ word ∷ [] → reverse stack ≡ word ∷ reverse rest
next_is stack rest word e = ap reverse e ∙ reverse-append rest (word ∷ [])

-- the code puts a word that stays behind those that are done
pub itself_goes : (F : Facts) (left : ℕ) (stack rest : List (List ℕ)) (word : List ℕ) (out out' files args : List (List ℕ))
    → stack ≡ rest ++ word ∷ [] → out' ≡ out ++ word ∷ [] → replacement_of F word ≡ Is Itself → GoesOn F left (reverse stack) out files args
    → GoesOn F left (reverse rest) out' files args
itself_goes F left stack rest word out out' files args popped pushed m goes =
    let P : List (List ℕ) → Type 0 = λ o. GoesOn F left (reverse rest) o files args in
    let Q : List (List ℕ) → Type 0 = λ ws. GoesOn F left ws out files args in
    subst P (sym pushed) (goes_by_itself F left word (reverse rest) out files args m (subst Q (next_is stack rest word popped) goes))

-- a word that is replaced by the words of a file
abbrev pub StandsFor : Facts → List ℕ → List ℕ → List (List ℕ) → Type 0
StandsFor F word path inner = (text : List ℕ) × (replacement_of F word ≡ Is (Text path text)) × Splits text inner

-- the code puts the words of a text on the stack, the last one first
pub text_goes : (F : Facts) (left left' : ℕ) (stack rest stack' : List (List ℕ)) (word path : List ℕ) (inner out files args : List (List ℕ))
    → stack ≡ rest ++ word ∷ [] → left ≡ suc left' → stack' ≡ rest ++ reverse inner → StandsFor F word path inner
    → GoesOn F left (reverse stack) out files args → GoesOn F left' (reverse stack') out (files ++ path ∷ []) args
text_goes F left left' stack rest stack' word path inner out files args popped one pushed (text, m, splits) goes =
    let P : List (List ℕ) → Type 0 = λ ws. GoesOn F left' ws out (files ++ path ∷ []) args in
    let Q : ℕ → Type 0 = λ n. GoesOn F n (word ∷ reverse rest) out files args in
    let R : List (List ℕ) → Type 0 = λ ws. GoesOn F left ws out files args in
    let is : reverse stack' ≡ inner ++ reverse rest = ap reverse pushed ∙ reverse-append rest (reverse inner)
    ∙ ap (λ ws. ws ++ reverse rest) (reverse-reverse inner) in
    subst P (sym is) (goes_by_text F left' word path text inner (reverse rest) out files args m splits
    (subst Q one (subst R (next_is stack rest word popped) goes)))

-- a word that is replaced by the words of a file, which come after those that are done
abbrev pub StandsAfter : Facts → List ℕ → List ℕ → List (List ℕ) → List (List ℕ) → Type 0
StandsAfter F word path out all = (text : List ℕ) × (replacement_of F word ≡ Is (Text path text)) × SplitsOnto text out all

-- a text when no replacement is left is refused
pub many_refused : (F : Facts) (left : ℕ) (stack rest : List (List ℕ)) (word path : List ℕ) (out all files args : List (List ℕ))
    → stack ≡ rest ++ word ∷ [] → left ≡ 0 → StandsAfter F word path out all → GoesOn F left (reverse stack) out files args
    → Refuses F 2000 args TooManyFiles
many_refused F left stack rest word path out all files args popped none (text, m, (inner, is, splits)) goes =
    let P : ℕ → Type 0 = λ n. Refuses F n (word ∷ reverse rest) TooManyFiles in
    let Q : List (List ℕ) → Type 0 = λ ws. Refuses F left ws TooManyFiles in
    goes.refuses TooManyFiles (subst Q (sym (next_is stack rest word popped)) (subst P (sym none) (too_many m)))

-- a refused file refuses the whole
pub large_refused : (F : Facts) (left : ℕ) (stack rest : List (List ℕ)) (word : List ℕ) (out all files args : List (List ℕ))
    (fault : ArgsFault) → stack ≡ rest ++ word ∷ [] → IsReplaced F word out all (Err fault) → GoesOn F left (reverse stack) out files args
    → (fault ≡ Memory) ⊎ Refuses F 2000 args fault
large_refused F left stack rest word out all files args fault popped (inl memory) goes = inl memory
large_refused F left stack rest word out all files args fault popped (inr (path, m, e)) goes =
    let P : ArgsFault → Type 0 = λ f. Refuses F 2000 args f in
    let Q : List (List ℕ) → Type 0 = λ ws. Refuses F left ws (ResponseTooLarge path) in
    inr (subst P (sym e) (goes.refuses (ResponseTooLarge path) (subst Q (sym (next_is stack rest word popped)) (too_large m))))

-- a refusal is the result, or lack of memory
pub expands_refused : (F : Facts) (args : List (List ℕ)) (fault : ArgsFault) (result : Result Expanded ArgsFault)
    → IsErrAnd result (λ e. e ≡ fault) → (fault ≡ Memory) ⊎ Refuses F 2000 args fault → Expands F 2000 args result
expands_refused F args fault (Ok expanded) is refused = absurd is
expands_refused F args fault (Err e) is (inl memory) = inl (is ∙ memory)
expands_refused F args fault (Err e) is (inr refused) =
    let P : ArgsFault → Type 0 = λ f. Refuses F 2000 args f in
    inr (subst P (sym is) refused)

-- lack of memory may be the result at any word
pub expands_memory : (F : Facts) (args : List (List ℕ)) (result : Result Expanded ArgsFault) → IsErrAnd result (λ e. e ≡ Memory)
    → Expands F 2000 args result
expands_memory F args result is = expands_refused F args Memory result is (inl refl)

-- once no word is left, those that are done are all
pub end_goes : (F : Facts) (left : ℕ) (stack out files args : List (List ℕ)) → stack ≡ [] → GoesOn F left (reverse stack) out files args
    → Responds F 2000 args left out files
end_goes F left stack out files args empty goes =
    let P : List (List ℕ) → Type 0 = λ ws. Responds F left ws left [] [] in
    let Q : List (List ℕ) → Type 0 = λ o. Responds F 2000 args left o files in
    let R : List (List ℕ) → Type 0 = λ fs. Responds F 2000 args left (out ++ []) fs in
    subst Q (append-nil out) (subst R (append-nil files) (goes.responds left [] [] (subst P (sym (ap reverse empty)) no_word)))

-- words that don't name files

-- a word that names no file stays
by_none : (F : Facts) (word : List ℕ) (named : Option (List ℕ)) → file_named word ≡ named → is_some named ≡ false
    → replacement_of F word ≡ Is Itself
by_none F word None e absent = ap (by_name F) e
by_none F word (Some path) e absent = absurd cc

-- if no word of a list names a file, its first doesn't
first_none : (a b : Bool) → a || b ≡ false → a ≡ false
first_none false b e = refl
first_none true b e = e

-- nor do the others
others_none : (a b : Bool) → a || b ≡ false → b ≡ false
others_none false b e = e
others_none true b e = absurd cc

-- so all of them stay
themselves : (F : Facts) (left : ℕ) (words : List (List ℕ)) → list_any (λ word. is_some (file_named word)) words ≡ false
    → Responds F left words left words []
themselves F left [] none = no_word
themselves F left (word ∷ words) none =
    itself (by_none F word (file_named word) refl (first_none (is_some (file_named word)) _ none))
    (themselves F left words (others_none (is_some (file_named word)) _ none))

-- and the expansion is the words themselves
pub none_expanded : (F : Facts) (args files : List (List ℕ)) → files ≡ [] → list_any (λ word. is_some (file_named word)) args ≡ false
    → Expands F 2000 args (Ok (record { words = args; from_file = false; files = files }))
none_expanded F args files empty none =
    let P : List (List ℕ) → Type 0 = λ fs. Responds F 2000 args 2000 args fs in
    (2000, subst P (sym empty) (themselves F 2000 args none), refl)

-- the words of a file replace the word that named it

-- a text whose words name no files: they are all done at once
pub stay_goes : (F : Facts) (left left' : ℕ) (stack rest stack' : List (List ℕ)) (word path : List ℕ)
    (inner out out' files args : List (List ℕ)) → stack ≡ rest ++ word ∷ [] → left ≡ suc left' → stack' ≡ rest → out' ≡ out ++ inner
    → list_any (λ word. is_some (file_named word)) inner ≡ false → StandsFor F word path inner
    → GoesOn F left (reverse stack) out files args → GoesOn F left' (reverse stack') out' (files ++ path ∷ []) args
stay_goes F left left' stack rest stack' word path inner out out' files args popped one same more none (text, m, splits) goes =
    let P : List (List ℕ) → Type 0 = λ o. GoesOn F left' (reverse stack') o (files ++ path ∷ []) args in
    let Q : List (List ℕ) → Type 0 = λ ws. GoesOn F left' (reverse ws) (out ++ inner) (files ++ path ∷ []) args in
    let R : ℕ → Type 0 = λ n. GoesOn F n (word ∷ reverse rest) out files args in
    let S : List (List ℕ) → Type 0 = λ ws. GoesOn F left ws out files args in
    subst P (sym more) (subst Q (sym same) (after_text (subst R one (subst S (next_is stack rest word popped) goes))))
  where
    -- Plan: the text takes the place of its word (`after_text`), and then each of its words stays.
    after_text : GoesOn F (suc left') (word ∷ reverse rest) out files args
        → GoesOn F left' (reverse rest) (out ++ inner) (files ++ path ∷ []) args
    after_text goes = record {
      responds = λ last after after_files r.
          let T : List (List ℕ) → Type 0 = λ o. Responds F 2000 args last o ((files ++ path ∷ []) ++ after_files) in
          let U : List (List ℕ) → Type 0 = λ fs. Responds F 2000 args last (out ++ (inner ++ after)) fs in
          subst T (sym (append_assoc out inner after)) (subst U (sym (append_snoc files path after_files))
          (goes.responds last (inner ++ after) (path ∷ after_files) (by_text m splits (themselves F left' inner none) r)));
      refuses = λ fault r. goes.refuses fault (following m splits (themselves F left' inner none) r);
    }

-- the words of a text are put on the stack, or are done at once
words_go : (F : Facts) (left left' : ℕ) (stack rest stack' : List (List ℕ)) (word path : List ℕ)
    (inner out out' files args : List (List ℕ)) → stack ≡ rest ++ word ∷ [] → left ≡ suc left' → IsPut inner rest stack' out out'
    → StandsFor F word path inner → GoesOn F left (reverse stack) out files args
    → GoesOn F left' (reverse stack') out' (files ++ path ∷ []) args
words_go F left left' stack rest stack' word path inner out out' files args popped one (inl (none, same, more)) stands goes =
    stay_goes F left left' stack rest stack' word path inner out out' files args popped one same more none stands goes
words_go F left left' stack rest stack' word path inner out out' files args popped one (inr (pushed, same)) stands goes =
    let P : List (List ℕ) → Type 0 = λ o. GoesOn F left' (reverse stack') o (files ++ path ∷ []) args in
    subst P (sym same) (text_goes F left left' stack rest stack' word path inner out files args popped one pushed stands goes)

-- the code cuts the words of the text out of one list, in which they follow those that are done, and notes the file
pub put_goes : (F : Facts) (left left' start : ℕ) (stack rest stack' : List (List ℕ)) (word path : List ℕ)
    (out all out' files files' args : List (List ℕ)) → stack ≡ rest ++ word ∷ [] → left ≡ suc left' → files' ≡ files ++ path ∷ []
    → IsReplaced F word out all (Ok (Some (path, start))) → IsPut (drop start all) rest stack' (take start all) out'
    → GoesOn F left (reverse stack) out files args → GoesOn F left' (reverse stack') out' files' args
put_goes F left left' start stack rest stack' word path out all out' files files' args popped one noted
    (at, (text, m, (inner, is, splits))) put goes =
    let following_is : drop start all ≡ inner = ap (drop start) is ∙ ap (λ n. drop n (out ++ inner)) at ∙ drop-append_seam out inner in
    let front_is : take start all ≡ out = ap (take start) is ∙ ap (λ n. take n (out ++ inner)) at ∙ take-append_seam out inner in
    let P : List (List ℕ) → Type 0 = λ ws. IsPut ws rest stack' (take start all) out' in
    let Q : List (List ℕ) → Type 0 = λ ws. IsPut inner rest stack' ws out' in
    let R : List (List ℕ) → Type 0 = λ fs. GoesOn F left' (reverse stack') out' fs args in
    subst R (sym noted) (words_go F left left' stack rest stack' word path inner out out' files args popped one
    (subst Q front_is (subst P following_is put)) (text, m, splits) goes)
