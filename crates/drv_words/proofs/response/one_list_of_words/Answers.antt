use Rattle.drv_words.proofs.Counting.{counted}
use Rattle.drv_words.proofs.Splitting.{one_list, some_words}
use Rattle.drv_words.proofs.response.one_list_of_words.Goals as goal

-- Names: `counted`: the words that the grammar gives are as many as those that the code counts. `one_list`: the grammar gives a text only
-- one list of words.

-- a text has words
pub returns-clause-some : goal.returns-clause-some
returns-clause-some c = some_words

-- it has one list of them
pub returns-clause-one : goal.returns-clause-one
returns-clause-one c = one_list

-- they are as many as are counted
pub returns-clause-number : goal.returns-clause-number
returns-clause-number c = counted
