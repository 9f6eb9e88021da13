use Rattle.drv_syntax.proofs.Continued.{rest_is}
use Rattle.drv_syntax.proofs.Leads.{same}
use Rattle.drv_syntax.proofs.MeantWords.{Quotes, quotes, runs}
use Rattle.drv_syntax.proofs.WholeRead.{levels_known}
use Rattle.drv_syntax.proofs.WordRuns.{counted}
use Rattle.drv_syntax.specs.Code.Ending.{ending_in, goes_on}
use Rattle.drv_syntax.specs.Code.Messages.{IsMessage, IsOpen, Says, ended, lengthened, message, said_to, with_last}
use Rattle.drv_syntax.specs.Code.Tokens.{whole_token}
use Rattle.drv_syntax.specs.Code.Whole.{rest_given, whole_given}
use Rattle.drv_syntax.specs.Code.Writing.{Reading, flat, given, ran, runs_in, said_kind}
use Rattle.drv_syntax.specs.Contexts.{Top, is_said, top}
use Rattle.drv_syntax.specs.Descent.{Read, levels, quoted}
use Rattle.drv_syntax.specs.Directives.{directive_of, said}
use Rattle.drv_syntax.specs.Labels.{Label, labels, nodes_of, word_label}
use Rattle.drv_syntax.specs.Rest.{Left, first_of, second_of}
use Rattle.drv_syntax.specs.Spelling as s
use Rattle.drv_syntax.specs.Spelling.{At, IsDirective, IsItem, IsQuoted, IsRun, span}
use Rattle.drv_syntax.specs.Tree.{Item, Items, more, none}
use Rattle.drv_syntax.specs.declared.descent.contexts.ListKind.TheVariants as lists
use Rattle.drv_syntax.specs.declared.descent.ending.Ending.TheVariants as endings
use Rattle.drv_syntax.specs.declared.descent.ending.Ending.{Ending}
use Rattle.drv_syntax.specs.declared.descent.words.Class.TheVariants as classes
use Rattle.drv_syntax.specs.declared.directives.Directive.TheVariants.{WithSaying}
use Rattle.drv_syntax.specs.declared.directives.Directive.{Directive}
use Rattle.drv_syntax.specs.declared.directives.SayKind.TheVariants.{AsError, AsNotice}
use Rattle.drv_syntax.specs.declared.directives.SayKind.{SayKind}
use Rattle.drv_syntax.specs.declared.fault.SyntaxFault.{SyntaxFault}
use Rattle.drv_syntax.specs.declared.token.Token.{Token}
use Rattle.std.proofs.Common.{Bool, List, [], ap, append_assoc, arith, drop, get_or, length, length-append, refl, set, subst, suc, sym}
use Rattle.std.proofs.Common.{take, true, zero, ℕ, ◌++◌, ◌+◌, ◌-◌, ◌∙◌, ◌∷◌, ◌≡◌, ◌≤◌}
use Rattle.std.proofs.Math.Seq.{drop-length, take-length}
use Rattle.std.proofs.lemmas.List.{length-drop, length-take-le, take-append-drop}
use Rattle.std.specs.List.{prefix_len}
use Rattle.std.specs.Prelude.{Err, None, Ok, Option, Result, Some, ◌==◌}

-- A text that ends in a message, a text for the user, gives what it gives alone, with a longer last part, where bytes follow that neither
-- end the message nor escape. It serves `SpecTree::extend`, which then reads none of the text again.
-- Names: `t`, `u`, `q`, `w`: what is left of the text, from step to step. `b`: a byte. `tokens`: the flat list of parts. `f`: a class of
-- bytes. `v`, `u`: what is left of the text, with the parts so far, before and after. `k`: a place in the text. `rest`: what is left of the
-- text, and its place. `X`: any type. `size`: the length of the whole text. `ended`: a token that ends at this place. `is_said`: the byte
-- belongs to the text of %e and %n. `goes_on`: whether what was read can be kept where this follows it. `said_to`: the tokens and labels of
-- a text. `ending_in`: how a text of this size ends, by its last token. `IsQuoted`: the longest run of bytes of the class f and of escapes.
-- `IsRun`: the longest run of bytes of the class f, and what is left after it. `with_last`: the last of some, with this change.
-- `whole_given`: the tokens and labels of a whole text, or its fault. Numbers are bytes: 37 is %.

-- the last of a list, changed

-- the last of a list with one more at its end is that one
with_seam : {X : Type 0} (change : X → X) (xs : List X) (x : X) → with_last change (xs ++ x ∷ []) ≡ xs ++ change x ∷ []
with_seam change [] x = refl
with_seam change (y ∷ []) x = refl
with_seam change (y ∷ z ∷ xs) x = ap (λ zs. y ∷ zs) (with_seam change (z ∷ xs) x)

-- one change of the last after another is a change
twice : {X : Type 0} (f g both : X → X) → ((x : X) → both x ≡ f (g x)) → (xs : List X) → with_last both xs ≡ with_last f (with_last g xs)
twice f g both e [] = refl
twice f g both e (x ∷ []) = ap (λ y. y ∷ []) (e x)
twice f g both e (x ∷ y ∷ []) = ap (λ z. x ∷ z ∷ []) (e y)
twice f g both e (x ∷ y ∷ z ∷ xs) = ap (λ zs. x ∷ zs) (twice f g both e (y ∷ z ∷ xs))

-- tokens with one in the place of the last that ends elsewhere (`end_last`)
pub end_changed : (ts : List Token) (token : Token) (k end : ℕ) → k + 1 ≡ length ts → token ≡ get_or ts k token
    → set ts k (ended token end) ≡ with_last (λ last. ended last end) ts
end_changed [] token k end e g = absurd (omega (arith, e))
end_changed (t ∷ []) token zero end e g = ap (λ (x : Token). ended x end ∷ []) g
end_changed (t ∷ []) token (suc k) end e g = absurd (omega (arith, e))
end_changed (t ∷ u ∷ ts) token zero end e g = absurd (omega (arith, e))
end_changed (t ∷ u ∷ ts) token (suc k) end e g = ap (λ us. t ∷ us) (end_changed (u ∷ ts) token k end (omega (arith, e)) g)

-- bytes that a message goes on with

-- a run up to the end of a text, and then another, are one run
run_then : {f : ℕ → Bool} {t run q : List ℕ} → IsRun f t run [] → IsRun f q q [] → IsRun f (t ++ q) (run ++ q) []
run_then (s.run_ends h) i = i
run_then (s.run_goes e i) j = s.run_goes e (run_then i j)

-- a run with escapes up to the end of a text, and then another, are one run
quoted_then : {f : ℕ → Bool} {t word q : List ℕ} → IsQuoted f t word [] → IsQuoted f q q [] → IsQuoted f (t ++ q) (word ++ q) []
quoted_then s.quoted_end i = i
quoted_then (s.quoted_escape i) j = s.quoted_escape (quoted_then i j)
quoted_then (s.quoted_byte e g i) j = s.quoted_byte e g (quoted_then i j)

-- bytes that a message goes on with are a run of its bytes without escapes
says_quoted : {t run : List ℕ} → IsRun (runs_in (classes.Said lists.Top)) t run [] → IsQuoted (is_said Top) t run []
says_quoted (s.run_ends h) = s.quoted_end
says_quoted (s.run_goes {b} e i) = let c = counted (classes.Said lists.Top) b e in s.quoted_byte c.0 c.1 (says_quoted i)

-- bytes that the code counts as such a run up to their end are one (`says`)
pub run_whole : (f : ℕ → Bool) (q : List ℕ) (k : ℕ) → k ≡ prefix_len f q → (k == length q) ≡ true → IsRun f q q []
run_whole f q k e h =
    let n : prefix_len f q ≡ length q = sym e ∙ same k (length q) h in
    let r : IsRun f q (take (length q) q) (drop (length q) q) =
    subst (λ (i : ℕ). IsRun f q (take i q) (drop i q)) n (runs f q).0 in
    rw (take-length q, drop-length q) at r

-- a message after a text

-- a run with escapes that the code reads up to the end of the text
quoted_all : (f : ℕ → Bool) (rest : Left) (v u : Reading) (word : List ℕ)
    → ran (quoted f rest) v ≡ (Some word, u) → first_of u.rest.bytes ≡ None → IsQuoted f rest.bytes word []
quoted_all f rest v u word h e =
    let m : IsQuoted f rest.bytes word u.rest.bytes × At (rest.at + length rest.bytes) u.rest.at u.rest.bytes =
    subst (λ (pair : Option (List ℕ) × Left). Quotes f (rest.at + length rest.bytes) rest.bytes pair.0 pair.1)
    (ap (λ (pair : Option (List ℕ) × Reading). (pair.0, pair.1.rest)) h) (quotes f rest.at rest.bytes refl) in
    subst (λ (t : List ℕ). IsQuoted f rest.bytes word t) (none_left u.rest.bytes e) m.0
  where
    none_left : (t : List ℕ) → first_of t ≡ None → t ≡ []
    none_left [] g = refl
    none_left (b ∷ t) g = absurd cc

-- the code's test finds a message (`is_message`)
pub message_by : (text : List ℕ) (first b : ℕ) {kind : SayKind} (rest : Left) (v u : Reading) (word : List ℕ)
    → first_of text ≡ Some first → first ≡ 37 → second_of text ≡ Some b → directive_of b ≡ WithSaying kind
    → rest.bytes ≡ drop 2 text → ran (quoted (is_said Top) rest) v ≡ (Some word, u) → first_of u.rest.bytes ≡ None → IsMessage text
message_by [] first b rest v u word h e g d k r f = absurd cc
message_by (x ∷ []) first b rest v u word h e g d k r f = absurd cc
message_by (x ∷ y ∷ text) first b rest v u word h e g d k r f =
    let m : x ≡ 37 = cc in
    let n : y ≡ b = cc in
    rw (m, n) (message d (subst (λ (t : List ℕ). IsQuoted (is_said Top) t word []) k (quoted_all (is_said Top) rest v u word r f)))

-- a message up to the end of a text is an item
said_item : {size b : ℕ} {kind : SayKind} {t words : List ℕ} → directive_of b ≡ WithSaying kind → IsQuoted (is_said Top) t words []
    → IsItem size top (37 ∷ b ∷ t) (said kind words) []
said_item {size} {kind = kind} {t} {words} e i =
    s.directive refl (subst (λ (f : Directive). IsDirective size top f t (said kind words) []) (sym e) (s.saying i (s.by_other s.at_end)))

-- where one item follows a text, its parts come after those of the text
one_item : (n : ℕ) (t : List ℕ) (x : Item) (tokens : List Token) (names : List Label) → IsItem (n + length t) top t x []
    → rest_given n t tokens names ≡ Ok (
      tokens ++ flat (length tokens) (nodes_of (more (span n (n + length t)) x none)),
      names ++ labels (nodes_of (more (span n (n + length t)) x none)),
    )
one_item n t x tokens names i =
    let place : n ≡ n + length t - length t = omega arith in
    let end : n + length t + 0 ≡ n + length t = omega arith in
    ap (λ (k : ℕ). write ((levels 64).0 top (record { at = k; bytes = t }))) place
    ∙ ap (λ r. write r) (((levels_known (n + length t) 64).0 top refl).0 t [] (more (span n (n + length t)) x none)
    (s.next_item refl i end (s.no_item s.text_ends)) (omega arith))
  where
    write : Read (Items × ℕ) → Result (List Token × List Label) SyntaxFault
    write r = given None (λ list end. (tokens ++ flat (length tokens) (nodes_of list.0), names ++ labels (nodes_of list.0))) r

-- where a message follows a text, one token and one label come after those of the text
message_given : (n b : ℕ) (kind : SayKind) {t words : List ℕ} (tokens : List Token) (names : List Label) → directive_of b ≡ WithSaying kind
    → IsQuoted (is_said Top) t words [] → rest_given n (37 ∷ b ∷ t) tokens names
    ≡ Ok (tokens ++ whole_token (said_kind kind) n (n + length (37 ∷ b ∷ t)) (length tokens + 1 + 0) ∷ [], names ++ word_label words ∷ [])
message_given n b AsError {t} {words} tokens names e i = one_item n (37 ∷ b ∷ t) (said AsError words) tokens names (said_item e i)
message_given n b AsNotice {t} {words} tokens names e i = one_item n (37 ∷ b ∷ t) (said AsNotice words) tokens names (said_item e i)

-- whether a text can go on depends on the first byte that follows
starts_same : (e : Ending) (b : ℕ) (t u : List ℕ) → goes_on e (b ∷ t) ≡ goes_on e (b ∷ u)
starts_same endings.Item b t u = refl
starts_same endings.Word b t u = refl
starts_same endings.Message b t u = refl

-- equal tokens and equal labels give the same
parts_same : {ts us : List Token} {ls ms : List Label} → ts ≡ us → ls ≡ ms
    → ◌≡◌ {A = Result (List Token × List Label) SyntaxFault} (Ok (ts, ls)) (Ok (us, ms))
parts_same e f = cc

-- a text with a message after it is open, if the code's test lets it go on there
message_open : (front : List ℕ) (tokens : List Token) (names : List Label) → whole_given front ≡ Ok (tokens, names) → (b : ℕ)
    (kind : SayKind) {t words : List ℕ} → directive_of b ≡ WithSaying kind → IsQuoted (is_said Top) t words []
    → goes_on (ending_in (length front) tokens) (37 ∷ b ∷ t) ≡ true → IsOpen (front ++ 37 ∷ b ∷ t)
message_open front tokens names h b kind {t} {words} d i g q says =
    let m : List ℕ = 37 ∷ b ∷ t in
    let end : ℕ = length (front ++ m) + length q in
    let size : length front + length (37 ∷ b ∷ (t ++ q)) ≡ end = omega (arith, length-append front m, length-append t q) in
    let part : Token = whole_token (said_kind kind) (length front) (length front + length m) (length tokens + 1 + 0) in
    let alone = rest_is front m tokens names h g ∙ message_given (length front) b kind tokens names d i in
    let on = sym (starts_same (ending_in (length front) tokens) 37 (b ∷ t) (b ∷ (t ++ q))) ∙ g in
    ap (λ (x : List ℕ). whole_given x) (append_assoc front m q)
    ∙ rest_is front (m ++ q) tokens names h on
    ∙ message_given (length front) b kind tokens names d (quoted_then i (says_quoted says))
    ∙ ap (λ (k : ℕ). Ok (
      tokens ++ whole_token (said_kind kind) (length front) k (length tokens + 1 + 0) ∷ [],
      names ++ word_label (words ++ q) ∷ [],
    )) size
    ∙ sym (ap (λ r. said_to end q r) alone
    ∙ parts_same (with_seam (λ token. ended token end) tokens part) (with_seam (λ label. lengthened label q) names (word_label words)))

-- the code's test finds such a text (`is_open`)
pub open_at : (text : List ℕ) (start : ℕ) (tokens : List Token) (names : List Label) → start ≤ length text
    → whole_given (take start text) ≡ Ok (tokens, names) → goes_on (ending_in start tokens) (take (length text - start) (drop start text))
    ≡ true → IsMessage (take (length text - start) (drop start text)) → IsOpen text
open_at text start tokens names l h g m =
    let all : take (length text - start) (drop start text) ≡ drop start text =
    ap (λ (i : ℕ). take i (drop start text)) (sym (length-drop start text)) ∙ take-length (drop start text) in
    subst (λ (t : List ℕ). IsOpen t) (ap (λ (t : List ℕ). take start text ++ t) all ∙ take-append-drop start text)
    (by (take (length text - start) (drop start text)) m
    (ap (λ (i : ℕ). goes_on (ending_in i tokens) (take (length text - start) (drop start text))) (length-take-le start text l) ∙ g))
  where
    by : (t : List ℕ) → IsMessage t → goes_on (ending_in (length (take start text)) tokens) t ≡ true → IsOpen (take start text ++ t)
    by _ (message {b} {kind} d i) f = message_open (take start text) tokens names h b kind d i f

-- a text that goes on in a message still does after bytes that neither end the message nor escape
pub open_more : (text m : List ℕ) → IsOpen text → Says m → IsOpen (text ++ m)
open_more text m goes says q more_says =
    ap (λ (x : List ℕ). whole_given x) (append_assoc text m q) ∙ goes (m ++ q) (run_then says more_says)
    ∙ by (whole_given text) ∙ sym (ap (λ r. said_to (length (text ++ m) + length q) q r) (goes m says))
  where
    by : (r : Result (List Token × List Label) SyntaxFault) → said_to (length text + length (m ++ q)) (m ++ q) r
        ≡ said_to (length (text ++ m) + length q) q (said_to (length text + length m) m r)
    by (Err fault) = refl
    by (Ok p) =
        let size : length text + length (m ++ q) ≡ length (text ++ m) + length q =
        omega (arith, length-append m q, length-append text m) in
        ap (λ (k : ℕ). said_to k (m ++ q) (Ok p)) size
        ∙ parts_same (twice (λ token. ended token (length (text ++ m) + length q)) (λ token. ended token (length text + length m))
        (λ token. ended token (length (text ++ m) + length q)) (λ token. refl) p.0)
        (twice (λ label. lengthened label q) (λ label. lengthened label m) (λ label. lengthened label (m ++ q))
        (λ label. ap (λ (word : List ℕ). with_word label word) (sym (append_assoc label.word m q))) p.1)
      where
        -- a label with another word
        with_word : Label → List ℕ → Label
        with_word label word = record {
          word = word;
          starred = label.starred;
          negated = label.negated;
          asks = label.asks;
          holds_star = label.holds_star;
        }
