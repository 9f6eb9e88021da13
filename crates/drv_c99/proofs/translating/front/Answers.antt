use Rattle.drv_c99.specs.declared.option.Side.TheVariants.{BeforeEnd}
use Rattle.drv_c99.proofs.Steps.{front_given, front_refused}
use Rattle.drv_c99.proofs.translating.front.Goals as goal
use Rattle.drv_c99.specs.Front.{items_of}

-- Names: `items_of`: the items of the words. `front_given`: once no word is left, the words of the front are those of the line.

pub returns : goal.returns
returns c = front_given _ (items_of BeforeEnd c.args.args.now) _ _ c.new-front.ensures c.in_ok-add_words.ensures c.finish.ensures

pub returns-in_err-add_words : goal.returns-in_err-add_words
returns-in_err-add_words c = front_refused _ (items_of BeforeEnd c.args.args.now) _ _ c.new-front.ensures c.in_err-add_words.ensures
    c.from_residual.ensures.1
