use Rattle.drv_syntax.proofs.Leads.{same}
use Rattle.drv_syntax.proofs.MeantWhole.{front_stops, next_stops}
use Rattle.drv_syntax.proofs.OwnedGiven.{choice_owned, tests_choice, tests_wrote}
use Rattle.drv_syntax.proofs.Progress.{Tested, form_has, later_by, patterns_by, result_has, tests_by, then_then}
use Rattle.drv_syntax.proofs.Taken.{Fails, at_byte, at_end, given_mapped, given_on, given_then, ok_same, taken, then_ok, value_taken}
use Rattle.drv_syntax.proofs.WordRuns.{differs}
use Rattle.drv_syntax.proofs.Wrote.{closed_is, leaf_is, list_wrote, wrote_both, wrote_none}
use Rattle.drv_syntax.specs.Code.Lists.{around, brace_given, brace_kind, brace_on, choice_written, choices_written, closed_at, closed_here}
use Rattle.drv_syntax.specs.Code.Lists.{default_here, later_given, list_written, opened_here, owned_at, owner_when, result_given, result_on}
use Rattle.drv_syntax.specs.Code.Lists.{tail_at, tail_on, unheld, x_given}
use Rattle.drv_syntax.specs.Code.Tests.{added, after_given, alternative_on, begun_given, choice_here, choice_open, first_given, form_given}
use Rattle.drv_syntax.specs.Code.Tests.{form_on, is_starred, more_given, opened, patterns_given, patterns_on, patterns_written}
use Rattle.drv_syntax.specs.Code.Tests.{result_after, test_added, test_written, tests_on, tried_given}
use Rattle.drv_syntax.specs.Code.Writing.{Parts, Reading, at_rest, given, item_on, leafed, open_at, value_given, wrote}
use Rattle.drv_syntax.specs.Contexts.{ListContext, all_starred, in_braces, in_x, top}
use Rattle.drv_syntax.specs.Descent as d
use Rattle.drv_syntax.specs.Descent.{Ends, Last, More, Read, Stops, Took, after_turn, levels, no_lists, then_read}
use Rattle.drv_syntax.specs.Directives.{braced}
use Rattle.drv_syntax.specs.Labels.{Label, Nodes, choice_nodes, no_label, no_node, node, nodes_of, part_label, pattern_label, pattern_nodes}
use Rattle.drv_syntax.specs.Labels.{test_nodes}
use Rattle.drv_syntax.specs.Refusals.{AtBar, AtFront, AtNext, Order, may_emit}
use Rattle.drv_syntax.specs.Rest.{Left, after, begins_with, by_byte, first_of, past_white}
use Rattle.drv_syntax.specs.Spelling.{span}
use Rattle.drv_syntax.specs.Stars.{choices_have_star, has_star, tests_have_star}
use Rattle.drv_syntax.specs.Tree as tree
use Rattle.drv_syntax.specs.Tree.{Brace, Choices, HasResult, Items, Pattern, Span, Tests, alternative, first_place, last_place}
use Rattle.drv_syntax.specs.Tree.{no_choice, no_test, test, trimmed}
use Rattle.drv_syntax.specs.declared.descent.lists.Form as code
use Rattle.drv_syntax.specs.declared.descent.lists.Form.TheVariants as forms
use Rattle.drv_syntax.specs.declared.descent.lists.Inside.TheVariants as insides
use Rattle.drv_syntax.specs.declared.descent.lists.Inside.{Inside}
use Rattle.drv_syntax.specs.declared.descent.parts.Choice.{Choice}
use Rattle.drv_syntax.specs.declared.descent.tests.Begun.{Begun}
use Rattle.drv_syntax.specs.declared.descent.tests.Next.TheVariants as nexts
use Rattle.drv_syntax.specs.declared.descent.tests.Next.{Next}
use Rattle.drv_syntax.specs.declared.descent.tokens.Open.{Open}
use Rattle.drv_syntax.specs.declared.directives.BraceKind.TheVariants.{InPlace, IntoArgumentsFile, IntoFailureFile}
use Rattle.drv_syntax.specs.declared.directives.BraceKind.{BraceKind}
use Rattle.drv_syntax.specs.declared.fault.SyntaxFault.TheVariants.{BadDirective, EmptyTest, Unclosed}
use Rattle.drv_syntax.specs.declared.fault.SyntaxFault.{SyntaxFault}
use Rattle.drv_syntax.specs.declared.token.TestKind.TheVariants as asking
use Rattle.drv_syntax.specs.declared.token.TokenKind.TheVariants as kinds
use Rattle.drv_syntax.specs.declared.token.TokenKind.{TokenKind}
use Rattle.drv_words.specs.Bytes as ascii
use Rattle.std.proofs.Common.{Bool, List, [], ap, arith, false, if◌then◌else◌, length, refl, suc, sym, true, zero, ℕ, ◌+◌, ◌-◌, ◌∙◌, ◌∷◌}
use Rattle.std.proofs.Common.{◌≡◌, ◌≤◌}
use Rattle.std.proofs.lemmas.Bool.Decides.{nat_tests}
use Rattle.std.specs.Prelude.{Err, None, Ok, Option, Result, Some, ◌&&◌, ◌==◌}

-- What the code gives of the tests and of the inside of braces, by what it gives of the parts in them: each lemma is a function of
-- src/descent/lists.rt in the words of the clauses of those that it calls. `v` is the text that is left before a part and what is written
-- so far, and `u` the same after it. `outer` is the place of the outermost directive that is open, if one is.
-- Names: `c`, `inner`: where the list is, and what is around it. `end`: what is left after a part. `at`: the place of the directive's `%`.
-- `rest`: what is left of the text, and its place. `z`: the parts so far. `order`: the place of a test in its braces. `negated`: whether
-- the test has a `!`. `t`: a test's value, so that `by` can go by both cases. `r`, `part`: what was read. `around`: what reads the lists in
-- a list of so many levels. `past_white`: what is left without the white space that comes next. `after`: what is left so many bytes on.
-- `then_ok`: a result and what follows it, unless it is a fault. `span`: the bytes from the place start up to the place end. `tried_given`:
-- a test that was read and what the byte after it makes of it, or its fault. `then_read`: goes on with what was read and with what is left.
-- `after_turn`: goes on after a turn, unless it was the last. `later_given`: writes alternatives after the first that were read, or gives
-- their fault. `first_of`: the byte that comes next, if there is one. `make`: what the code makes of a part. `follow`: what it does after
-- that.

-- the lists in a list of at least one level, in a context that the code has made, are those with a level less
pub near_is : (c inner made : ListContext) → 1 ≤ c.levels
    → inner.levels ≡ c.levels - 1 → made ≡ inner → (rest : Left) → (around c.levels).0 inner rest ≡ (levels made.levels).0 made rest
near_is c inner made h e f rest = by c.levels h e ∙ ap (λ (x : ListContext). (levels x.levels).0 x rest) (sym f)
  where
    by : (level : ℕ) → 1 ≤ level → inner.levels ≡ level - 1 → (around level).0 inner rest ≡ (levels inner.levels).0 inner rest
    by zero h e = absurd (omega (arith, h))
    by (suc level) h e =
        let n : level ≡ inner.levels = omega (arith, e) in ap (λ (l : ℕ). (levels l).0 inner rest) n

-- the lists in braces of a list of at least two levels, in a context that the code has made, are those with two levels less
pub far_is : (c inner made : ListContext) → 2 ≤ c.levels
    → inner.levels ≡ c.levels - 1 - 1 → made ≡ inner → (rest : Left) → (around c.levels).1 inner rest ≡ (levels made.levels).0 made rest
far_is c inner made h e f rest = by c.levels h e ∙ ap (λ (x : ListContext). (levels x.levels).0 x rest) (sym f)
  where
    by : (level : ℕ) → 2 ≤ level → inner.levels ≡ level - 1 - 1 → (around level).1 inner rest ≡ (levels inner.levels).0 inner rest
    by zero h e = absurd (omega (arith, h))
    by (suc zero) h e = absurd (omega (arith, h))
    by (suc (suc level)) h e =
        let n : level ≡ inner.levels = omega (arith, e) in ap (λ (l : ℕ). (levels l).0 inner rest) n

-- a part that opens, takes this list and closes is the part with the list inside, written at once
pub filled : (kind : TokenKind) (label : Label) (start : ℕ) (v u : Reading) (part : Open) (list : Items) (z : Parts) (end : Left)
    → opened_here kind label start v ≡ (part, u) → list_written list u.parts ≡ z
    → closed_here kind part end.at (record { rest = end; parts = z })
    ≡ record { rest = end; parts = wrote (node kind label (span start end.at) (nodes_of list) no_node) (has_star list) v.parts }
filled kind label start v u part list z end e f =
    ap (λ (y : Parts). closed_here kind part end.at (record { rest = end; parts = y })) (sym f)
    ∙ ap (λ (y : Open × Reading). closed_here kind y.0 end.at (record { rest = end; parts = list_written list y.1.parts })) (sym e)
    ∙ ap (λ (y : Parts). record { rest = end; parts = y })
    (ap (λ y. closed_at kind (record { token = length v.parts.tokens; start = start }) end.at y)
    (list_wrote list (opened kind label start v.parts)) ∙ closed_is kind kind label start end.at (nodes_of list) (has_star list) v.parts)

-- in a list with the context c, a directive whose % has the place `at`
module _ (c : ListContext) (at : ℕ) (outer : Option ℕ) where
  -- tests

  -- a test and what follows it, by what the byte after the test decides
  tried_then : {Y Z : Type 0} (order : Order) (so_far : Option Choice) (v : Reading)
      (make : Y → Left → Z) (goes : d.After → Left → Read Y) (follow : Next × Reading → Result Z SyntaxFault) (part : Read d.Tried)
      → ((x : d.After) (end : Left) → given outer make (goes x end) ≡ then_ok (after_given so_far (at_rest end v) x) follow)
      → given outer make (then_read part (λ t end. goes (d.decided at order t) end))
      ≡ then_ok (tried_given outer at order so_far v part) follow
  tried_then order so_far v make goes follow (Took t end) e = e (d.decided at order t) end
  tried_then order so_far v make goes follow (Ends n) e = refl
  tried_then order so_far v make goes follow (Stops n fault) e = refl

  -- a test after a bar, and what follows it
  abbrev pub more_next : Next × Reading → Result (Choice × Reading) SyntaxFault
  more_next (nexts.Emits, u) = Err (BadDirective at)
  more_next (nexts.Joins, u) = Err (BadDirective at)
  more_next (nexts.Asks choice, u) = Ok (choice, u)
  more_next (nexts.Bars choice, u) = more_given outer choice u (d.more_tests (around c.levels).1 c at u.rest)

  -- more tests give the next test and what follows it
  pub more_given_by : (choice : Choice) (v : Reading) → more_given outer choice v (d.more_tests (around c.levels).1 c at v.rest)
      ≡ then_ok (tried_given outer at AtBar (Some choice) v (d.one_test (around c.levels).1 c at AtBar v.rest)) more_next
  more_given_by choice v = ap (λ r. more_given outer choice v r) (tests_by c at v.rest)
      ∙ tried_then AtBar (Some choice) v (λ tests rest. choice_here (tests_on (choice, v.parts) tests) (after 1 rest))
      (λ x end. then_read (d.test_turn at x end) (after_turn (d.more_tests (around c.levels).1 c at))) more_next
      (d.one_test (around c.levels).1 c at AtBar v.rest) decides
    where
      -- by what the byte after the test decides
      decides : (x : d.After) (end : Left)
          → more_given outer choice v (then_read (d.test_turn at x end) (after_turn (d.more_tests (around c.levels).1 c at)))
          ≡ then_ok (after_given (Some choice) (at_rest end v) x) more_next
      decides (d.Emits p) end = refl
      decides (d.Joins p) end = refl
      decides (d.Asks s negated a) end = refl
      decides (d.Bars s negated a) end = given_mapped outer _ _ (d.more_tests (around c.levels).1 c at (after 1 end))
      decides (d.Fails fault) end = refl

  -- the first test or pattern of braces or of an alternative, and what follows it
  abbrev pub form_next : Next × Reading → Result (code.Form × Reading) SyntaxFault
  form_next (nexts.Emits, u) = Ok (forms.Patterns, u)
  form_next (nexts.Joins, u) = then_ok (patterns_given outer u (d.patterns at u.rest)) (λ w. Ok (forms.Patterns, w))
  form_next (nexts.Asks choice, u) = Ok (forms.Tests choice, u)
  form_next (nexts.Bars choice, u) = then_ok (more_given outer choice u (d.more_tests (around c.levels).1 c at u.rest))
      (λ w. Ok (forms.Tests w.0, w.1))

  -- what braces or an alternative begin with give their first test and what follows it
  pub form_given_by : (order : Order) (v : Reading) → form_given outer v (d.form (around c.levels).1 c at order v.rest)
      ≡ then_ok (tried_given outer at order None v (d.one_test (around c.levels).1 c at order v.rest)) form_next
  form_given_by order v = tried_then order None v (form_on v.parts) (d.form_by (around c.levels).1 c at) form_next
      (d.one_test (around c.levels).1 c at order v.rest) decides
    where
      -- by what the byte after the test decides
      decides : (x : d.After) (end : Left)
          → form_given outer v (d.form_by (around c.levels).1 c at x end) ≡ then_ok (after_given None (at_rest end v) x) form_next
      decides (d.Emits p) end = refl
      decides (d.Joins p) end = given_then outer (form_on v.parts) _ _ _ (d.patterns at (after 1 end)) (λ ps e. refl)
      decides (d.Asks s negated a) end = refl
      decides (d.Bars s negated a) end =
          given_then outer (form_on v.parts) _ _ _ (d.more_tests (around c.levels).1 c at (after 1 end)) (λ ts e. refl)
      decides (d.Fails fault) end = refl

  -- alternatives

  -- what the code gives of the X of an alternative
  abbrev pub x_from : Choice → Reading → Result (ℕ × Reading) SyntaxFault
  x_from choice u = x_given outer at choice u ((around c.levels).0 (owner_when choice.starred (in_braces c)) u.rest)

  -- the alternatives that the code has after the first
  abbrev pub laters : Left → Read Choices
  laters rest = d.later (around c.levels).0 (around c.levels).1 c at rest

  -- after the X of an alternative: the braces end, or the alternatives after it follow
  abbrev pub x_next : ℕ × Reading → Result Reading SyntaxFault
  x_next x = if x.0 == ascii.closing_brace then Ok x.1 else later_given outer x.1 (laters x.1.rest)

  -- an alternative with its colon at this place and with this X, and the byte after that
  abbrev with_x : ℕ → Tests → Items → Left → Parts → Reading
  with_x colon tests items end z = record {
    rest = after 1 end;
    parts = choice_written (span (first_place tests colon) (last_place (trimmed items) (colon + 1))) tests (trimmed items) z;
  }

  -- an alternative that the code has opened with its tests, filled and closed is the alternative written at once
  x_wrote : (colon end : Left) (tests : Tests) (z : Parts) (starred : Bool) (x : Items × ℕ) (whole : Choice × Parts)
      → whole ≡ (
        record {
          part = record { token = length z.tokens; start = first_place tests colon.at };
          label = length z.labels;
          starred = starred;
        },
        wrote (test_nodes tests) (tests_have_star tests) (opened kinds.Alternative no_label (first_place tests colon.at) z),
      )
      → record {
        rest = after 1 end;
        parts = owned_at whole.0 (tail_on (tail_at (record { rest = after 1 colon; parts = whole.1 })) x.0 (unheld whole.1)) whole.1.holds
            (list_written x.0 (unheld whole.1));
      } ≡ with_x colon.at tests x.0 end z
  x_wrote colon end tests z starred x whole e = ap (λ (w : Choice × Parts). record {
    rest = after 1 end;
    parts = owned_at w.0 (tail_on (tail_at (record { rest = after 1 colon; parts = w.1 })) x.0 (unheld w.1)) w.1.holds
        (list_written x.0 (unheld w.1));
  }) e ∙ ap (λ (z : Parts). record { rest = after 1 end; parts = z })
      (choice_owned z (first_place tests colon.at) (colon.at + 1) tests x.0 starred)

  -- once its tests are read, an alternative gives its X and what follows it
  alternative_by : (colon : Left) (tests : Tests) (v : Reading) → Tested (d.Alternative tests)
      → later_given outer v (then_read (d.x_of (around c.levels).0 c at tests colon) (λ x end.
      then_read (d.choice_turn colon.at tests x end) (after_turn laters)))
      ≡ then_ok (x_from (alternative_on v.parts tests colon.at).0
      (record { rest = after 1 colon; parts = (alternative_on v.parts tests colon.at).1 })) x_next
  alternative_by colon tests v has = given_then outer _ _ _ x_next (d.x_of (around c.levels).0 c at tests colon)
      (λ x end. turned x end (x.1 == ascii.closing_brace) ∙ ap (λ (written : Reading). x_next (x.1, written))
      (sym (x_wrote colon end tests v.parts (all_starred tests) x whole whole_is)))
      ∙ ap (λ k. then_ok (x_given outer at whole.0 (record { rest = after 1 colon; parts = whole.1 }) ((around c.levels).0 k (after 1
      colon)))
      x_next) (context tests has ∙ ap (λ (written : Choice × Parts). owner_when written.0.starred (in_braces c)) (sym whole_is))
    where
      whole : Choice × Parts
      whole = alternative_on v.parts tests colon.at

      -- the whole alternative, as the code writes it and as its tree is
      whole_is : whole ≡ (
        record {
          part = record { token = length v.parts.tokens; start = first_place tests colon.at };
          label = length v.parts.labels;
          starred = all_starred tests;
        },
        wrote (test_nodes tests) (tests_have_star tests) (opened kinds.Alternative no_label (first_place tests colon.at) v.parts),
      )
      whole_is = ap (λ (x : Choice). (x, whole.1)) (tests_choice tests (choice_open None (first_place tests colon.at) v.parts))
          ∙ ap (λ (z : Parts). (
            record {
              part = record { token = length v.parts.tokens; start = first_place tests colon.at };
              label = length v.parts.labels;
              starred = all_starred tests;
            },
            z,
          )) (tests_wrote tests (choice_open None (first_place tests colon.at) v.parts))

      -- the lists of an X know whether all tests before them are starred
      context : (ts : Tests) → Tested (d.Alternative ts) → in_x (in_braces c) ts ≡ owner_when (all_starred ts) (in_braces c)
      context no_test h = absurd h
      context (test s negated a ts) h = refl

      -- by the byte after X: the braces end, or another alternative follows
      turned : (x : Items × ℕ) (end : Left) (closes : Bool)
          → later_given outer v (then_read (if closes then Took (Last (alternative colon.at tests x.0 no_choice)) (after 1 end)
          else Took (More (λ others. alternative colon.at tests x.0 others)) (after 1 end)) (after_turn laters))
          ≡ (if closes then Ok (with_x colon.at tests x.0 end v.parts)
          else later_given outer (with_x colon.at tests x.0 end v.parts) (laters (after 1 end)))
      turned x end true = refl
      turned x end false = given_mapped outer _ (λ others. alternative colon.at tests x.0 others) (laters (after 1 end))

  -- what a later alternative begins with, and what follows it
  abbrev pub later_next : code.Form × Reading → Result Reading SyntaxFault
  later_next (forms.Patterns, u) = Err (BadDirective at)
  later_next (forms.Tests choice, u) = then_ok (x_from choice u) x_next

  -- what braces begin with, and what follows it
  abbrev pub choices_next : code.Form × Reading → Result (Inside × Reading) SyntaxFault
  choices_next (forms.Patterns, u) = Ok (insides.Patterns, u)
  choices_next (forms.Tests choice, u) = then_ok (then_ok (x_from choice u) x_next) (λ w. Ok (insides.Choices, w))

  -- the inside of braces gives what it begins with and what follows it
  pub choices_given_by : (v : Reading) → brace_given outer v (d.choices (around c.levels).0 (around c.levels).1 c at v.rest)
      ≡ then_ok (form_given outer v (d.form (around c.levels).1 c at AtFront v.rest)) choices_next
  choices_given_by v = given_on _ outer (brace_on v.parts) (d.choices_by (around c.levels).0 (around c.levels).1 c at) (form_on v.parts)
      choices_next (d.form (around c.levels).1 c at AtFront v.rest) (form_has c at AtFront v.rest (front_stops _)) (λ f end h. by f end h.0)
    where
      -- Plan: by what the braces begin with.
      by : (f : d.Form) (end : Left) → Tested f → brace_given outer v (d.choices_by (around c.levels).0 (around c.levels).1 c at f end)
          ≡ choices_next (form_on v.parts f end)
      by (d.Patterns ps) end h = refl
      by (d.Alternative ts) end h =
          ap (λ r. brace_given outer v r) (sym (then_then (d.x_of (around c.levels).0 c at ts end)
          (λ x e. then_read (d.choice_turn end.at ts x e) (after_turn laters)) (λ choices e. Took (tree.Choose choices) e)))
          ∙ given_then outer (brace_on v.parts) _ _ (λ w. Ok (insides.Choices, w))
          (then_read (d.x_of (around c.levels).0 c at ts end) (λ x e. then_read (d.choice_turn end.at ts x e) (after_turn laters)))
          (λ choices e. refl)
          ∙ ap (λ r. then_ok r (λ w. Ok (insides.Choices, w))) (alternative_by end ts v h)

  -- alternatives after the first
  module _ (h : 1 ≤ c.levels) (v : Reading) where
    -- a list with a level may hold lists
    some : (c.levels == 0) ≡ false
    some = grind (arith, nat_tests, h)

    -- without a colon at their front they give what the next begins with and what follows it
    pub later_given_by : begins_with ascii.colon (past_white v.rest).bytes ≡ false
        → later_given outer v (laters v.rest) ≡ then_ok (form_given outer v (d.form (around c.levels).1 c at AtNext v.rest)) later_next
    later_given_by e = rw (later_by c some at v.rest, e)
        (ap (λ r. later_given outer v r) (then_then (d.form (around c.levels).1 c at AtNext v.rest)
        (d.later_by (around c.levels).0 c at) (after_turn laters))
        ∙ given_on _ outer _ _ (form_on v.parts) later_next (d.form (around c.levels).1 c at AtNext v.rest)
        (form_has c at AtNext v.rest (next_stops _ e)) (λ f end k. by f end k.0))
      where
        by : (f : d.Form) (end : Left) → Tested f
            → later_given outer v (then_read (d.later_by (around c.levels).0 c at f end) (after_turn laters))
            ≡ later_next (form_on v.parts f end)
        by (d.Patterns ps) end k = refl
        by (d.Alternative ts) end k =
            ap (λ r. later_given outer v r) (then_then (d.x_of (around c.levels).0 c at ts end)
            (λ x e. d.choice_turn end.at ts x e) (after_turn laters))
            ∙ alternative_by end ts v k

    -- after the X of a default only a brace fits
    abbrev pub default_next : ℕ × Reading → Result Reading SyntaxFault
    default_next x = if x.0 == ascii.closing_brace then Ok x.1 else Err (EmptyTest at)

    -- with a colon at their front, which the code has passed with the white space before it, they give the X of the default and its brace
    pub default_turn : begins_with ascii.colon (past_white v.rest).bytes ≡ true → (next : Left) → next ≡ past_white v.rest
        → (choice : Choice) (u : Reading) → default_here (at_rest next v) ≡ (choice, u)
        → later_given outer v (laters v.rest) ≡ then_ok (x_from choice u) default_next
    default_turn e next f choice u is =
        rw (later_by c some at v.rest, e)
        (ap (λ r. later_given outer v r) (then_then (d.x_of (around c.levels).0 c at no_test mid) (λ x end.
        if x.1 == ascii.closing_brace then Took (Last (alternative mid.at no_test x.0 no_choice)) (after 1 end)
        else Stops end.at (EmptyTest at)) (after_turn laters))
        ∙ given_then outer _ _ _ default_next (d.x_of (around c.levels).0 c at no_test mid) (λ x end. turned x end (x.1 ==
        ascii.closing_brace)
        ∙ ap (λ (written : Reading). default_next (x.1, written)) (sym (x_wrote mid end no_test v.parts false x (y.0, y.1.parts)
        (ap (λ (parts : Parts). (y.0, parts)) (sym (wrote_none y.1.parts)))))))
        ∙ ap (λ (x : Choice × Reading). then_ok (x_from x.0 x.1) default_next) (rw f at is)
      where
        -- Plan: what the turn reads is the X of the default (`mid`, `y`), and then by the byte behind it (`turned`).
        mid : Left
        mid = past_white v.rest

        y : Choice × Reading
        y = default_here (at_rest mid v)

        -- by the byte after the X: a brace ends the alternatives, and no other fits
        turned : (x : Items × ℕ) (end : Left) (closes : Bool)
            → later_given outer v (then_read (if closes then Took (Last (alternative mid.at no_test x.0 no_choice)) (after 1 end)
            else Stops end.at (EmptyTest at)) (after_turn laters))
            ≡ (if closes then Ok (with_x mid.at no_test x.0 end v.parts) else Err (EmptyTest at))
        turned x end true = refl
        turned x end false = refl

-- a test of a function's result is written in its alternative, which is then not starred
pub result_wrote : (start : ℕ) (negated : Bool) (name : List ℕ) (list : Items) (end : Left) (whole : Choice × Parts) (choice : Choice)
    (v : Reading) → whole ≡ (choice, v.parts)
    → choice_here (test_added whole (span start end.at) negated (HasResult name list)) end
    ≡ (
      record { part = choice.part; label = choice.label; starred = false },
      record {
        rest = end;
        parts = wrote (node kinds.Test (part_label name false negated asking.Result) (span start end.at) (nodes_of list) no_node)
            (has_star list) v.parts;
      },
    )
result_wrote start negated name list end whole choice v e =
    ap (λ (x : Choice × Parts). choice_here (test_added x (span start end.at) negated (HasResult name list)) end) e
    ∙ ap (λ (b : Bool). (
      record { part = choice.part; label = choice.label; starred = b },
      record {
        rest = end;
        parts = test_written (span start end.at) negated (HasResult name list) v.parts;
      },
    )) (unstarred choice.starred negated)
  where
    -- a test of a function's result is no starred pattern
    unstarred : (b t : Bool) → (b && is_starred t (HasResult name list)) ≡ false
    unstarred true true = refl
    unstarred true false = refl
    unstarred false t = refl

-- patterns written one after another are the patterns written at once
patterns_wrote : (ps : List (Span × Pattern)) (z : Parts) → patterns_written ps z ≡ wrote (pattern_nodes ps) false z
patterns_wrote [] z = sym (wrote_none z)
patterns_wrote (p ∷ ps) z =
    patterns_wrote ps (leafed kinds.Pattern (pattern_label p.1) p.0.start p.0.end z)
    ∙ ap (λ (y : Parts). wrote (pattern_nodes ps) false y) (sym (leaf_is kinds.Pattern (pattern_label p.1) p.0.start p.0.end z))
    ∙ sym (wrote_both (node kinds.Pattern (pattern_label p.1) p.0 no_node no_node) (pattern_nodes ps) false false z)

-- alternatives written one after another are the alternatives written at once
choices_wrote : (cs : Choices) (z : Parts) → choices_written cs z ≡ wrote (choice_nodes cs) (choices_have_star cs) z
choices_wrote no_choice z = sym (wrote_none z)
choices_wrote (tree.choice s tests items cs) z =
    choices_wrote cs (choice_written s tests items z)
    ∙ sym (wrote_both (choice_nodes (tree.choice s tests items no_choice)) (choice_nodes cs) (tests_have_star tests) (choices_have_star cs)
    z)

-- braces that open, are filled and close are the item with this inside, written at once
pub braces_wrote : (kind : BraceKind) (at : ℕ) (v u w : Reading) (part : Open) (brace : Brace) (inside : Inside) (end : Left)
    → opened_here kinds.Choose no_label at v ≡ (part, u) → brace_on u.parts brace end ≡ (inside, w)
    → closed_here (brace_kind kind inside) part w.rest.at w ≡ item_on at v.parts (braced kind brace) end
braces_wrote kind at v u w part brace inside end e f =
    ap (λ (y : Inside × Reading). closed_here (brace_kind kind y.0) part y.1.rest.at y.1) (sym f)
    ∙ ap (λ (y : Open × Reading). closes (brace_kind kind (brace_on y.1.parts brace end).0) y.0 (brace_on y.1.parts brace end).1) (sym e)
    ∙ by kind brace
  where
    closes : TokenKind → Open → Reading → Reading
    closes closing o x = closed_here closing o x.rest.at x

    inner : Parts
    inner = opened kinds.Choose no_label at v.parts

    first : Open
    first = record { token = length v.parts.tokens; start = at }

    -- the part of the braces, with the parts inside it, closed
    whole : (closing : TokenKind) (parts : Parts) (nodes : Nodes) (holds : Bool) → parts ≡ wrote nodes holds inner
        → closes closing first (record { rest = end; parts = parts })
        ≡ record { rest = end; parts = wrote (node closing no_label (span at end.at) nodes no_node) holds v.parts }
    whole closing parts nodes holds g = ap (λ y. record { rest = end; parts = y }) (ap (λ y. closed_at closing first end.at y) g
        ∙ closed_is kinds.Choose closing no_label at end.at nodes holds v.parts)

    by : (kind : BraceKind) (brace : Brace) → closes (brace_kind kind (brace_on inner brace end).0) first (brace_on inner brace end).1
        ≡ item_on at v.parts (braced kind brace) end
    by InPlace (tree.Emit ps) = whole kinds.Emit _ (pattern_nodes ps) false (patterns_wrote ps _)
    by InPlace (tree.Choose cs) = whole kinds.Choose _ (choice_nodes cs) (choices_have_star cs) (choices_wrote cs _)
    by IntoFailureFile (tree.Emit ps) = whole kinds.FailureFile _ (pattern_nodes ps) false (patterns_wrote ps _)
    by IntoFailureFile (tree.Choose cs) = whole kinds.FailureFile _ (choice_nodes cs) (choices_have_star cs) (choices_wrote cs _)
    by IntoArgumentsFile (tree.Emit ps) = whole kinds.ArgumentsFile _ (pattern_nodes ps) false (patterns_wrote ps _)
    by IntoArgumentsFile (tree.Choose cs) = whole kinds.ArgumentsFile _ (choice_nodes cs) (choices_have_star cs) (choices_wrote cs _)

-- tests and the byte after them

-- in a directive whose % has the place `at`
module _ (outer : Option ℕ) (at : ℕ) (order : Order) (so_far : Option Choice) where
  -- what a test makes of the parts so far is the same wherever the text is left before it
  pub same_tried : (v u : Reading) → v.parts ≡ u.parts → (r : Read d.Tried)
      → tried_given outer at order so_far v r ≡ tried_given outer at order so_far u r
  same_tried v u e (Took t rest) = ap (λ (z : Parts). after_given so_far (record { rest = rest; parts = z }) (d.decided at order t)) e
  same_tried v u e (Ends n) = refl
  same_tried v u e (Stops n fault) = refl

  -- of a test with a fault the code returns that fault
  pub tried_fails : (v : Reading) {r : Read d.Tried} {fault : SyntaxFault} → Fails outer fault r
      → tried_given outer at order so_far v r ≡ Err fault
  tried_fails v (at_end e) = ap (λ e. Err e) e
  tried_fails v (at_byte e) = ap (λ e. Err e) e

  -- once what a test asks is read, without a function's result, the byte after it and white space decides
  pub plain_turn : (start : ℕ) (negated : Bool) (v u : Reading) (operand : d.Operand)
      → value_given outer v (d.asked no_lists top at (may_emit order negated) v.rest) ≡ Ok (operand, u)
      → (end : ℕ) → end ≡ u.rest.at → (last : Left) → last ≡ past_white u.rest
      → tried_given outer at order so_far v (d.asked_from no_lists top at order start negated v.rest)
      ≡ tried_given outer at order so_far u (d.ended at (span start end) negated operand last)
  plain_turn start negated v u operand is end e last f =
      let n = value_taken outer v (d.asked no_lists top at (may_emit order negated) v.rest) is in
      rw (e, f, n.0) (same_tried v u n.1 (d.ended at (span start u.rest.at) negated operand (past_white u.rest)))

  -- in a list with the context c, a test whose front the code has read
  module _ (c : ListContext) (v u : Reading) (x : Begun) (begun : begun_given outer at v ≡ Ok (x, u)) where
    -- the test goes on after its front, whose byte comes next
    begins : (d.one_test (around c.levels).1 c at order v.rest ≡ d.asked_from (around c.levels).1 c at order x.start x.negated u.rest)
        × ((first_of u.rest.bytes ≡ Some x.byte) × (v.parts ≡ u.parts))
    begins = by (begins_with ascii.exclamation_mark (past_white v.rest).bytes) begun
      where
        -- Plan: by whether the test has a sign (`by`), and then by whether a byte is left behind it (`from`).
        from : (start : ℕ) (negated : Bool) (rest : Left) (o : Option ℕ) → first_of rest.bytes ≡ o
            → by_byte {X = Result (Begun × Reading) SyntaxFault} o (Err (Unclosed (open_at outer at))) (λ b.
            Ok (record { start = start; negated = negated; byte = b }, at_rest rest v)) ≡ Ok (x, u)
            → (d.asked_from (around c.levels).1 c at order start negated rest ≡ d.asked_from (around c.levels).1 c at order x.start
            x.negated u.rest)
            × ((first_of u.rest.bytes ≡ Some x.byte) × (v.parts ≡ u.parts))
        from start negated rest None e g = absurd cc
        from start negated rest (Some b) e g =
            let p : ◌≡◌ {A = Begun × Reading} (record { start = start; negated = negated; byte = b }, at_rest rest v) (x, u)
            = ok_same g in (
              ap (λ (y : Begun × Reading). d.asked_from (around c.levels).1 c at order y.0.start y.0.negated y.1.rest) p,
              (
                ap (λ (y : Begun × Reading). first_of y.1.rest.bytes) (sym p) ∙ e ∙ ap (λ (y : Begun × Reading). Some y.0.byte) p,
                ap (λ (y : Begun × Reading). y.1.parts) p,
              ),
            )

        by : (t : Bool) → (if t then first_given outer at (past_white v.rest).at true (at_rest (past_white (after 1 (past_white v.rest))) v)
            else first_given outer at (past_white v.rest).at false (at_rest (past_white v.rest) v)) ≡ Ok (x, u)
            → ((if t then d.asked_from (around c.levels).1 c at order (past_white v.rest).at true (past_white (after 1 (past_white v.rest)))
            else d.asked_from (around c.levels).1 c at order (past_white v.rest).at false (past_white v.rest))
            ≡ d.asked_from (around c.levels).1 c at order x.start x.negated u.rest) × ((first_of u.rest.bytes ≡ Some x.byte) × (v.parts ≡
            u.parts))
        by true g = from (past_white v.rest).at true (past_white (after 1 (past_white v.rest))) _ refl g
        by false g = from (past_white v.rest).at false (past_white v.rest) _ refl g

    -- without a percent sign it asks for no function's result
    pub test_plain : (x.byte == ascii.percent) ≡ false → tried_given outer at order so_far v (d.one_test (around c.levels).1 c at order
        v.rest)
        ≡ tried_given outer at order so_far u (d.asked_from d.no_lists top at order x.start x.negated u.rest)
    test_plain e = rw begins.0 (same_tried v u begins.1.1 (d.asked_from (around c.levels).1 c at order x.start x.negated u.rest)
        ∙ rw (begins.1.0, e) refl)

    -- with a percent sign
    module _ (percent : x.byte ≡ ascii.percent) (some : (c.levels - 1 == 0) ≡ false) where
      -- it asks for a function's result, and then the byte after it decides
      pub test_result : tried_given outer at order so_far v (d.one_test (around c.levels).1 c at order v.rest)
          ≡ tried_given outer at order so_far u (then_read (d.result (around c.levels).1 c at u.rest.at (after 1 u.rest)) (λ operand end.
          d.ended at (span x.start end.at) x.negated operand (past_white end)))
      test_result =
          let b : first_of u.rest.bytes ≡ Some ascii.percent = begins.1.0 ∙ ap (λ (b : ℕ). Some b) percent in
          rw begins.0 (same_tried v u begins.1.1 (d.asked_from (around c.levels).1 c at order x.start x.negated u.rest) ∙ rw (b, some) refl)

      -- what the byte after a function's result, and white space, leads to
      abbrev pub result_next : Choice × Reading → Result (Next × Reading) SyntaxFault
      result_next y = by_byte (first_of (past_white y.1.rest).bytes) (Err (Unclosed (open_at outer at))) (λ b.
          then_ok (result_after at y.0 b) (λ next. Ok (next, at_rest (after 1 (past_white y.1.rest)) y.1)))

      -- once the function's result is read, the byte after it and white space decides
      pub test_ends : (choice : Choice) (w : Reading)
          → result_given outer so_far x.start x.negated u (d.result (around c.levels).1 c at u.rest.at (after 1 u.rest)) ≡ Ok (choice, w)
          → (last : Left) → last ≡ past_white w.rest
          → tried_given outer at order so_far v (d.one_test (around c.levels).1 c at order v.rest) ≡ by_byte (first_of last.bytes)
          (Err (Unclosed (open_at outer at))) (λ b. then_ok (result_after at choice b) (λ next. Ok (next, at_rest (after 1 last) w)))
      test_ends choice w h last f =
          let r = taken outer (λ o rest. result_on so_far x.start x.negated u.parts o.as_test rest)
          (d.result (around c.levels).1 c at u.rest.at (after 1 u.rest)) h in
          test_result ∙ rw (r.is, f) (by r.part r.rest (rw r.is at (result_has c some at u.rest.at (after 1 u.rest))) r.on)
        where
          ended : d.Operand → Left → ℕ → d.Tried
          ended operand end b = record { place = span x.start end.at; negated = x.negated; operand = operand; byte = b }

          -- a function's result is no pattern
          never : (end : Left) (emits : Bool) (follow : Span × Pattern → d.After) → after_given so_far (at_rest (past_white end) u)
              (d.as_pattern at (span x.start end.at) emits None follow) ≡ Err (BadDirective at)
          never end true follow = refl
          never end false follow = refl

          -- by the byte behind it: what ends a test, or is refused
          byte : (made : Choice × Parts) (name : List ℕ) (items : Items) (end : Left) (b : ℕ) (braced joined asked barred : Bool)
              → made ≡ added so_far u.parts (span x.start end.at) x.negated (HasResult name items) → (b == ascii.closing_brace) ≡ braced
              → (b == ascii.ampersand) ≡ joined → (b == ascii.colon) ≡ asked → (b == ascii.bar) ≡ barred
              → after_given so_far (at_rest (past_white end) u) (d.decided at order (ended (d.result_operand name items) end b))
              ≡ then_ok (result_after at made.0 b) (λ next. Ok (next, record { rest = after 1 (past_white end); parts = made.1 }))
          byte made name items end b true joined asked barred z e f g h =
              rw (z, same b ascii.closing_brace e) (never end (may_emit order x.negated) d.Emits)
          byte made name items end b false true asked barred z e f g h =
              rw (z, same b ascii.ampersand f) (never end (may_emit order x.negated) d.Joins)
          byte made name items end b false false true barred z e f g h = rw (z, same b ascii.colon g) refl
          byte made name items end b false false false true z e f g h = rw (z, same b ascii.bar h) refl
          byte made name items end b false false false false z e f g h = rw (z, e, f, g, h) refl

          -- by whether a byte is left behind it
          bytes : (name : List ℕ) (items : Items) (end : Left) (bs : List ℕ)
              → tried_given outer at order so_far u (by_byte (first_of bs) (Ends at) (λ b.
              Took (ended (d.result_operand name items) end b) (past_white end)))
              ≡ by_byte (first_of bs) (Err (Unclosed (open_at outer at))) (λ b.
              then_ok (result_after at (added so_far u.parts (span x.start end.at) x.negated (HasResult name items)).0 b) (λ next. Ok (
                next,
                record {
                  rest = after 1 (past_white end);
                  parts = (added so_far u.parts (span x.start end.at) x.negated (HasResult name items)).1;
                },
              )))
          bytes name items end [] = refl
          bytes name items end (b ∷ bs) =
              byte (added so_far u.parts (span x.start end.at) x.negated (HasResult name items)) name items end b
              (b == ascii.closing_brace) (b == ascii.ampersand) (b == ascii.colon) (b == ascii.bar) refl refl refl refl refl

          by : (operand : d.Operand) (end : Left) → (name : List ℕ) × ((items : Items) × (operand ≡ d.result_operand name items))
              → result_on so_far x.start x.negated u.parts operand.as_test end ≡ (choice, w)
              → tried_given outer at order so_far u (d.ended at (span x.start end.at) x.negated operand (past_white end)) ≡ result_next (
                choice,
                w,
              )
          by o end m g =
              ap (λ p. tried_given outer at order so_far u (d.ended at (span x.start end.at) x.negated p (past_white end))) m.1.1
              ∙ bytes m.0 m.1.0 end (past_white end).bytes
              ∙ ap (λ y. result_next y) (ap (λ (p : d.Operand). result_on so_far x.start x.negated u.parts p.as_test end) (sym m.1.1) ∙ g)

-- a list with at least one level, but not only one, may nest a level more in its braces
pub deep_enough : (level : ℕ) → 1 ≤ level → (level ≡ 1 → ⊥) → (level - 1 == 0) ≡ false
deep_enough level h g = differs (level - 1) 0 (λ e. g (omega (arith, e, h)))

-- patterns (`patterns` of lists.rt), as T after & in %{S*&T*}: a pattern with the white space around it is one turn of Descent's loop, and
-- the byte behind says whether another turn follows
pub patterns_turn : (outer : Option ℕ) (at : ℕ) (v : Reading) (rest : Left) → rest ≡ past_white v.rest → (start : ℕ) → start ≡ rest.at
    → (p : Pattern) (u : Reading) → value_given outer (at_rest rest v) (d.pattern_at at rest) ≡ Ok (p, u)
    → (end : ℕ) → end ≡ u.rest.at → (last : Left) → last ≡ past_white u.rest → patterns_given outer v (d.patterns at v.rest)
    ≡ patterns_given outer u (then_read (d.pattern_turn at (span start end, p) last) (after_turn (d.patterns at)))
patterns_turn outer at v rest e start f p u is end g last h =
    let n = value_taken outer (at_rest rest v) (d.pattern_at at rest) is in
    ap (λ mid. patterns_given outer v mid) (patterns_by at v.rest
    ∙ ap (λ (mid : Left). then_read (d.pattern_from at mid) (after_turn (d.patterns at))) (sym e))
    ∙ rw (f, g, h, n.0) (ap (λ (parts : Parts). given outer (patterns_on parts)
    (then_read (d.pattern_turn at (span rest.at u.rest.at, p) (past_white u.rest)) (after_turn (d.patterns at)))) n.1)
