use Rattle.json.proofs.Printed.Decimals.{IsNumber-decimal}
use Rattle.std.proofs.Common.{rules}
use Rattle.drv_forms.proofs.json_form.put_number.Goals as goal

pub token-requires : goal.token-requires
token-requires c = rw c.format.ensures.text (IsNumber-decimal c.args.number (search rules))
