use Rattle.drv_args.proofs.Expanding.{end_goes, expands_memory, expands_refused, itself_goes, large_refused, many_refused, put_goes}
use Rattle.drv_args.specs.Code.Replacing.{IsReplaced}
use Rattle.drv_args.specs.Expansion.{limited}
use Rattle.drv_system.proofs.AskedCalls.{asked_further, extends_before}
use Rattle.std.proofs.Common.{◌≡◌, ◌-◌, ◌∷◌, ◌++◌, ◌∙◌, [], List, ap, length, Ok, Option, arith, inr, refl, subst, ℕ}
use Rattle.std.proofs.lemmas.List.{nil_from_length}
use Rattle.drv_args.proofs.expansion.expand_all.Goals as goal

-- Names: `F`: what is known of the outside. `e`: that `F` extends the facts of this call. `limited`: the facts with each file judged by the
-- limit. `asked_further`: calls that only asked, one after another. `extends_before`: what extends the facts after a call extends those
-- before it. `expands_memory`: lack of memory may be the result at any word. `end_goes`: once no word is left, those that are done are all.

-- a file that is too large refuses the whole
pub returns-in_err-replace_word-clause-expands : goal.returns-in_err-replace_word-clause-expands
returns-in_err-replace_word-clause-expands g c F e =
    let goes = c.loop-word.invariant.goes F (extends_before c.replace_word.ensures.asks e) in
    expands_refused (limited c.args.most F) c.args.args c.in_err-replace_word.field-0.0 c.from_residual.result c.from_residual.ensures.1
    (large_refused (limited c.args.most F) c.loop-word.left c.loop-word.stack.items c.pop.new.self.items c.in-Some.word c.loop-word.words
    c.replace_word.new.words c.loop-word.files c.args.args c.in_err-replace_word.field-0.0 c.in-Some.ensures.items
    (c.in_err-replace_word.ensures.replaces F e) goes)

-- a word that stays is done
pub loop-word-preserved-in-Continue-branch-3 : goal.loop-word-preserved-in-Continue-branch-3
loop-word-preserved-in-Continue-branch-3 g c = record {
  asks = asked_further c.loop-word.invariant.asks c.replace_word.ensures.asks;
  goes = λ F e.
      let replaces = subst (λ (o : Option (List ℕ × ℕ)). IsReplaced (limited c.args.most F) c.in-Some.word c.loop-word.words
      c.replace_word.new.words (Ok o)) c.in-None.is (c.in_ok-replace_word.ensures.replaces F e) in
      itself_goes (limited c.args.most F) c.loop-word.left c.loop-word.stack.items c.pop.new.self.items c.in-Some.word c.loop-word.words
      c.push.new.self c.loop-word.files c.args.args
      c.in-Some.ensures.items (c.in_ok-push-in-None.ensures.ok ∙ ap (λ words. words ++ c.in-Some.word ∷ []) replaces.1) replaces.0
      (c.loop-word.invariant.goes F (extends_before c.replace_word.ensures.asks e));
  bound = c.loop-word.invariant.bound;
}

-- a file when no replacement is left refuses the whole
pub returns-in-Some-2-clause-expands : goal.returns-in-Some-2-clause-expands
returns-in-Some-2-clause-expands g c F e =
    let replaces = subst (λ (o : Option (List ℕ × ℕ)). IsReplaced (limited c.args.most F) c.in-Some.word c.loop-word.words
    c.replace_word.new.words (Ok o)) c.in-Some-2.is (c.in_ok-replace_word.ensures.replaces F e) in
    inr (many_refused (limited c.args.most F) c.loop-word.left c.loop-word.stack.items c.pop.new.self.items c.in-Some.word
    c.in-Some-2.field-0.0 c.loop-word.words c.replace_word.new.words c.loop-word.files c.args.args
    c.in-Some.ensures.items c.if-left-eq0.true replaces.1 (c.loop-word.invariant.goes F (extends_before c.replace_word.ensures.asks e)))

-- the words of a file take the place of the word that names it
pub loop-word-preserved : goal.loop-word-preserved
loop-word-preserved g c = record {
  asks = asked_further c.loop-word.invariant.asks c.replace_word.ensures.asks;
  goes = λ F e.
      let replaces = subst (λ (o : Option (List ℕ × ℕ)). IsReplaced (limited c.args.most F) c.in-Some.word c.loop-word.words
      c.replace_word.new.words (Ok o)) c.in-Some-2.is (c.in_ok-replace_word.ensures.replaces F e) in
      put_goes (limited c.args.most F) c.loop-word.left (c.loop-word.left - 1) c.in-Some-2.field-0.1 c.loop-word.stack.items
      c.pop.new.self.items c.put_words.new.stack.items c.in-Some.word c.in-Some-2.field-0.0 c.loop-word.words
      c.replace_word.new.words c.put_words.new.words c.loop-word.files c.push-in-Some-2-2.new.self c.args.args
      c.in-Some.ensures.items (omega arith) c.in_ok-push-in-Some-2-2.ensures.ok replaces c.in_ok-put_words-in-Some-2-2.ensures
      (c.loop-word.invariant.goes F (extends_before c.replace_word.ensures.asks e));
  bound = omega arith;
}

-- the stack is empty, so the words that are done are all
pub returns-clause-expands : goal.returns-clause-expands
returns-clause-expands g c F e =
    let none : length c.loop-word.stack.items ≡ 0 = omega (arith, c.loop-word.stack.ok, c.in_default.ensures.cases.0) in
    let empty = nil_from_length c.loop-word.stack.items none in (
      c.loop-word.left,
      end_goes (limited c.args.most F) c.loop-word.left c.loop-word.stack.items c.loop-word.words c.loop-word.files c.args.args empty
          (c.loop-word.invariant.goes F e),
      refl,
    )

pub returns-in_err-replace_word-clause-asks : goal.returns-in_err-replace_word-clause-asks
returns-in_err-replace_word-clause-asks g c = asked_further c.loop-word.invariant.asks c.replace_word.ensures.asks

pub returns-in_err-push-in-None-clause-asks : goal.returns-in_err-push-in-None-clause-asks
returns-in_err-push-in-None-clause-asks g c = asked_further c.loop-word.invariant.asks c.replace_word.ensures.asks

pub returns-in_err-push-in-None-clause-expands : goal.returns-in_err-push-in-None-clause-expands
returns-in_err-push-in-None-clause-expands g c F e =
    expands_memory (limited c.args.most F) c.args.args _ c.from_residual-in_err-push-in-None.ensures.1

pub returns-in-Some-2-clause-asks : goal.returns-in-Some-2-clause-asks
returns-in-Some-2-clause-asks g c = asked_further c.loop-word.invariant.asks c.replace_word.ensures.asks

pub returns-in_err-put_words-in-Some-2-2-clause-asks : goal.returns-in_err-put_words-in-Some-2-2-clause-asks
returns-in_err-put_words-in-Some-2-2-clause-asks g c = asked_further c.loop-word.invariant.asks c.replace_word.ensures.asks

pub returns-in_err-put_words-in-Some-2-2-clause-expands : goal.returns-in_err-put_words-in-Some-2-2-clause-expands
returns-in_err-put_words-in-Some-2-2-clause-expands g c F e =
    expands_memory (limited c.args.most F) c.args.args _ c.from_residual-in_err-put_words-in-Some-2-2.ensures.1

pub returns-in_err-push-in-Some-2-2-clause-asks : goal.returns-in_err-push-in-Some-2-2-clause-asks
returns-in_err-push-in-Some-2-2-clause-asks g c = asked_further c.loop-word.invariant.asks c.replace_word.ensures.asks

pub returns-in_err-push-in-Some-2-2-clause-expands : goal.returns-in_err-push-in-Some-2-2-clause-expands
returns-in_err-push-in-Some-2-2-clause-expands g c F e =
    expands_memory (limited c.args.most F) c.args.args _ c.from_residual-in_err-push-in-Some-2-2.ensures.1
