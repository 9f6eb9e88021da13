use Rattle.drv_forms.proofs.Words.{bytes_tokens, text_tokens}
use Rattle.json.specs.Token.{Token}
use Rattle.std.proofs.Common.{◌≡◌, ◌++◌, List, OnOk, subst, sym, ◌∙◌}
use Rattle.std.specs.Str.{IsUtf8}
use Rattle.drv_forms.proofs.json_form.put_word.Goals as goal

-- Names: `bytes_tokens`: `put_word` writes another word byte by byte. `text_tokens`: `put_word` writes a word of text as one token.

pub returns-in-Ok : goal.returns-in-Ok
returns-in-Ok c =
    let P : List Token → Type 0 = λ tokens. OnOk c.token.result (c.token.new.self ≡ c.args.out.now ++ tokens) in
    let utf8 : IsUtf8 c.args.word.now = subst IsUtf8 c.as_bytes.ensures c.in-Ok.ensures.cases.1 in
    subst P (text_tokens c.args.word.now c.in-Ok.text.now (c.in-Ok.ensures.cases.0 ∙ c.as_bytes.ensures) utf8) c.token.ensures.ok

pub returns-in-Err : goal.returns-in-Err
returns-in-Err c =
    let P : List Token → Type 0 = λ tokens. OnOk c.put_bytes.result (c.put_bytes.new.out ≡ c.args.out.now ++ tokens) in
    subst P (bytes_tokens c.args.word.now c.as_bytes-in-Err.result.now c.as_bytes-in-Err.ensures
    (λ utf8. c.in-Err.ensures.cases.0 (subst IsUtf8 (sym c.as_bytes.ensures) utf8))) c.put_bytes.ensures
