use Rattle.drv_forms.specs.PlanJson.{list_json, number_json, word_json}
use Rattle.json.specs.Json.{string}
use Rattle.json.specs.Token.{Token}
use Rattle.json.specs.Tree.{json_tokens}
use Rattle.std.proofs.Common.{◌≡◌, ◌∷◌, [], Bool, false, true, List, if◌then◌else◌, refl, sym, ap, ◌∙◌, ℕ}
use Rattle.std.proofs.lemmas.Str.{IsUtf8-from_is_utf8, is_utf8-from_IsUtf8}
use Rattle.std.specs.Str.{IsUtf8, is_utf8}

-- For `plan_json` (src/json_form.rt): a word is a string if its bytes are UTF-8, or else a list of bytes.
-- Names: `t`: a test's value, so that `by` can go by both cases. `list_json`: a list as an array. `number_json`: a number in decimal
-- digits.

-- a word whose bytes are UTF-8 is a string
pub text_word : (word : List ℕ) → IsUtf8 word → word_json word ≡ string word
text_word word is = rw (is_utf8-from_IsUtf8 word is) refl

-- a word of other bytes is a list of numbers
pub bytes_word : (word : List ℕ) → ¬ (IsUtf8 word) → word_json word ≡ list_json number_json word
bytes_word word isnt = by (is_utf8 word) refl
  where
    by : (t : Bool) → is_utf8 word ≡ t → (if t then string word else list_json number_json word) ≡ list_json number_json word
    by true is = absurd (isnt (IsUtf8-from_is_utf8 word is))
    by false is = refl

-- `put_word` writes a word of text as one token
pub text_tokens : (word text : List ℕ) → text ≡ word → IsUtf8 word → Token.string text ∷ [] ≡ json_tokens (word_json word)
text_tokens word text is utf8 = ap (λ t. Token.string t ∷ []) is ∙ sym (ap json_tokens (text_word word utf8))

-- `put_word` writes another word byte by byte
pub bytes_tokens : (word bytes : List ℕ) → bytes ≡ word → ¬ (IsUtf8 word)
    → json_tokens (list_json number_json bytes) ≡ json_tokens (word_json word)
bytes_tokens word bytes is isnt = ap (λ b. json_tokens (list_json number_json b)) is ∙ sym (ap json_tokens (bytes_word word isnt))
