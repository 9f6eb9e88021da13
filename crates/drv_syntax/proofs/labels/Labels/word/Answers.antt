use Rattle.drv_syntax.proofs.MarkedWords.{lent_at}
use Rattle.drv_syntax.proofs.labels.Labels.word.Goals as goal

-- Names: `lent_at`: the word of the label at this place of the list lies within the words.

-- the word of a mark begins before it ends
pub slice_bounds-result-count : goal.slice_bounds-result-count
slice_bounds-result-count c =
    (lent_at c.as_slice-words.ensures.value c.as_slice-marks.ensures.value _ c.self.view_is c.self.invariant c.requires).0

-- the word of a mark begins within the words
pub slice_bounds-result-start : goal.slice_bounds-result-start
slice_bounds-result-start c =
    (lent_at c.as_slice-words.ensures.value c.as_slice-marks.ensures.value _ c.self.view_is c.self.invariant c.requires).0

-- the word of a mark ends within the words
pub slice_bounds-result-end : goal.slice_bounds-result-end
slice_bounds-result-end c =
    (lent_at c.as_slice-words.ensures.value c.as_slice-marks.ensures.value _ c.self.view_is c.self.invariant c.requires).1
