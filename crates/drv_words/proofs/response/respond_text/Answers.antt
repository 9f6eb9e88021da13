use Rattle.drv_words.proofs.Responding.{shown_response}
use Rattle.drv_words.specs.Response.{response_text}
use Rattle.std.proofs.Common.{◌≡◌, arith}
use Rattle.std.proofs.lemmas.Grind.{common_steps}
use Rattle.drv_words.proofs.response.respond_text.Goals as goal

-- to split the text gives the words again
pub returns-clause-again : goal.returns-clause-again
returns-clause-again c =
    let is : c.loop-word.text ≡ response_text c.args.words.now = grind (arith, common_steps) in shown_response _ _ is
