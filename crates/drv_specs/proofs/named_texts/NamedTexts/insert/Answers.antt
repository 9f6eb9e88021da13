use Rattle.drv_specs.proofs.Left.{moved, no_text_lost, put_there, text_before}
use Rattle.drv_specs.proofs.named_texts.NamedTexts.insert.Goals as goal
use Rattle.std.proofs.Common.{◌∙◌, Some, ap, sym}
use Rattle.std.specs.Option.{option_flatten}

-- Names: `text_before`: the text that a name had, after another was put. `put_there`: a text is put under a name that had a text, or no
-- entry. `moved`: a text under a name that had lost its own goes behind all others.

-- a new name: it had no text before
pub returns-in-None-clause-old : goal.returns-in-None-clause-old
returns-in-None-clause-old c =
    rw (← c.self.view_is) (ap option_flatten (sym c.in-None.is ∙ c.in_ok-insert.ensures.old)
    ∙ sym (text_before c.in_ok-key.key c.args.name.now c.args.text c.self.inside.kept.entries c.insert.new.self.entries
    (c.in_ok-key.ensures.items_if_clones_equal (λ x y e. e)) c.in_ok-insert.ensures.entries
    c.in_ok-insert.ensures.unique))

-- and its text goes last
pub returns-in-None-clause-put : goal.returns-in-None-clause-put
returns-in-None-clause-put c =
    rw (← c.self.view_is) (put_there c.in_ok-key.key c.args.name.now c.args.text _ c.self.inside.kept.entries c.insert.new.self.entries
    (c.in_ok-key.ensures.items_if_clones_equal (λ x y e. e))
    (sym c.in-None.is ∙ c.in_ok-insert.ensures.old) tt c.in_ok-insert.ensures.entries)

-- a name that has a text: that is the one before
pub returns-in-Some-Some-clause-old : goal.returns-in-Some-Some-clause-old
returns-in-Some-Some-clause-old c =
    rw (← c.self.view_is) (ap option_flatten (sym (c.in-Some-Some.is ∙ ap Some c.in-Some-Some.field-0-is) ∙ c.in_ok-insert.ensures.old)
    ∙ sym (text_before c.in_ok-key.key c.args.name.now c.args.text c.self.inside.kept.entries c.insert.new.self.entries
    (c.in_ok-key.ensures.items_if_clones_equal (λ x y e. e)) c.in_ok-insert.ensures.entries
    c.in_ok-insert.ensures.unique))

-- and the new text takes its place
pub returns-in-Some-Some-clause-put : goal.returns-in-Some-Some-clause-put
returns-in-Some-Some-clause-put c =
    rw (← c.self.view_is) (put_there c.in_ok-key.key c.args.name.now c.args.text _ c.self.inside.kept.entries c.insert.new.self.entries
    (c.in_ok-key.ensures.items_if_clones_equal (λ x y e. e))
    (sym (c.in-Some-Some.is ∙ ap Some c.in-Some-Some.field-0-is) ∙ c.in_ok-insert.ensures.old) tt c.in_ok-insert.ensures.entries)

-- a name that was deleted: it had no text before
pub returns-in_ok-insert-in-Some-None-clause-old : goal.returns-in_ok-insert-in-Some-None-clause-old
returns-in_ok-insert-in-Some-None-clause-old c =
    rw (← c.self.view_is) (ap option_flatten (sym (c.in-Some-None.is ∙ ap Some c.in-Some-None.field-0-is) ∙ c.in_ok-insert.ensures.old)
    ∙ sym (text_before c.in_ok-key.key c.args.name.now c.args.text c.self.inside.kept.entries c.insert.new.self.entries
    (c.in_ok-key.ensures.items_if_clones_equal (λ x y e. e)) c.in_ok-insert.ensures.entries
    c.in_ok-insert.ensures.unique))

-- a name that was deleted is put again: its old entry goes, and the new one is last
pub returns-in_ok-insert-in-Some-None-clause-put : goal.returns-in_ok-insert-in-Some-None-clause-put
returns-in_ok-insert-in-Some-None-clause-put c =
    rw (← c.self.view_is) (moved c.in_ok-key.key c.in_ok-key-in-Some-None.key c.args.name.now c.args.text c.in-Some.text
    c.self.inside.kept.entries c.insert.new.self.entries c.shift_remove.new.self.entries
    c.insert-in-Some-None.new.self.entries (c.in_ok-key.ensures.items_if_clones_equal (λ x y e. e))
    (c.in_ok-key-in-Some-None.ensures.items_if_clones_equal (λ x y e. e))
    (sym c.in_ok-insert.ensures.old ∙ c.in-Some-None.is ∙ ap Some c.in-Some-None.field-0-is) c.in_ok-insert.ensures.entries
    c.in_ok-insert.ensures.unique c.in_ok-insert.ensures.updates.1
    (sym c.in-Some.is ∙ c.shift_remove.ensures.value) c.shift_remove.ensures.entries c.shift_remove.ensures.updates.1
    c.in_ok-insert-in-Some-None.ensures.entries)

-- a name that was deleted had no text to keep
pub returns-in_err-key-in-Some-None-clause-kept : goal.returns-in_err-key-in-Some-None-clause-kept
returns-in_err-key-in-Some-None-clause-kept c =
    no_text_lost _ _ _
    (rw (← c.self.view_is) (ap option_flatten (sym (c.in-Some-None.is ∙ ap Some c.in-Some-None.field-0-is) ∙ c.in_ok-insert.ensures.old)
    ∙ sym (text_before c.in_ok-key.key c.args.name.now c.args.text c.self.inside.kept.entries c.insert.new.self.entries
    (c.in_ok-key.ensures.items_if_clones_equal (λ x y e. e)) c.in_ok-insert.ensures.entries
    c.in_ok-insert.ensures.unique)))

pub returns-in_err-insert-in-Some-None-clause-kept : goal.returns-in_err-insert-in-Some-None-clause-kept
returns-in_err-insert-in-Some-None-clause-kept c =
    no_text_lost _ _ _
    (rw (← c.self.view_is) (ap option_flatten (sym (c.in-Some-None.is ∙ ap Some c.in-Some-None.field-0-is) ∙ c.in_ok-insert.ensures.old)
    ∙ sym (text_before c.in_ok-key.key c.args.name.now c.args.text c.self.inside.kept.entries c.insert.new.self.entries
    (c.in_ok-key.ensures.items_if_clones_equal (λ x y e. e)) c.in_ok-insert.ensures.entries
    c.in_ok-insert.ensures.unique)))
