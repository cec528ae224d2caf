use Rattle.std.proofs.Common.{List, ℕ, rules, ◌≡◌, false, ◌∷◌, ◌++◌, [], length, sym, ◌∙◌, ap, subst, arith}
use Rattle.std.proofs.lemmas.Result.{err_from_is_err_and}
use Rattle.saml_tree.specs.RowTests.{is_small_token}
use Rattle.saml_tree.specs.Links.{depths_of, AreLinkedSoFar}
use Rattle.tree_rows.specs.Rows.{Row}
use Rattle.saml_tree.specs.Run.{step}
use Rattle.saml_tree.specs.Views.{outline_view, builder_view}
use Rattle.xml_spec.specs.Laws.{BeginsWith}
use Rattle.xml_spec.specs.Syntax.{print_tokens}
use Rattle.saml_tree.proofs.Reading.{after, Progress, reads_more, reads_printed, more_progress, no_place, no_tokens, not_complete}
use Rattle.saml_tree.proofs.Following.{still_linked, more_small, more_follows, builder_depth, none_open, no_items, empty_list, no_token, not_taken, rows_read, rows_within, not_kept}
use Rattle.saml_tree.proofs.read.read_rows.Goals as goal

pub take-requires-clause-tail : goal.take-requires-clause-tail
take-requires-clause-tail c =
    let read = c.tokens.invariant.read in
    (print_tokens read.0, c.tokens.invariant.outline ∙ reads_printed read.0 c.args.rest.now c.tokens.left.now read.1.reads)

pub take-requires-clause-token : goal.take-requires-clause-token
take-requires-clause-token c =
    let found = c.in_ok-markup.ensures.read in
    (found.0, c.next_token.new.self.pending, found.1, c.in_ok-markup.behind.now, found.2.printed)

pub fault_beyond-requires : goal.fault_beyond-requires
fault_beyond-requires c =
    let read = c.tokens.invariant.read in
    let found = c.in_ok-markup.ensures.read in
    record {
      tail = (
        print_tokens (read.0 ++ found.0 ∷ []),
        c.take.ensures.text ∙ c.tokens.invariant.outline
            ∙ reads_printed (read.0 ++ found.0 ∷ []) c.args.rest.now c.in_ok-markup.behind.now
            (reads_more read.0 c.args.rest.now c.tokens.left.now c.in_ok-markup.behind.now found.0 read.1.reads found.2),
      );
    }

pub returns-in_err-markup-clause-err : goal.returns-in_err-markup-clause-err
returns-in_err-markup-clause-err c =
    let read = c.tokens.invariant.read in
    let left = c.tokens.left.now in
    let p = err_from_is_err_and c.from_residual.result c.from_residual.ensures.1 in
    rw (p.1, p.2) (no_token c.args.text.now left _ c.in_err-markup.ensures.refused
    (no_tokens c.args.text.now c.args.rest.now left read.0 (outline_view c.tokens.outline) c.requires.head read.1))

pub returns-in_err-take-clause-err : goal.returns-in_err-take-clause-err
returns-in_err-take-clause-err c =
    let read = c.tokens.invariant.read in
    let left = c.tokens.left.now in
    let found = c.in_ok-markup.ensures.read in
    let p = err_from_is_err_and c.from_residual-in_err-take.result c.from_residual-in_err-take.ensures.1 in
    rw (p.1, p.2) (not_taken c.args.text.now _ _ c.in_err-take.ensures.err
    (λ none. no_place c.args.text.now c.args.rest.now left c.in_ok-markup.behind.now read.0 (outline_view c.tokens.outline) found.0
    c.requires.head read.1 found.2 (none found.0 _ found.1)))

pub returns-then-not-small-clause-err : goal.returns-then-not-small-clause-err
returns-then-not-small-clause-err c =
    let text = c.args.text.now in
    let rest = c.args.rest.now in
    let read = c.tokens.invariant.read in
    let ts = read.0 in
    let behind = c.in_ok-markup.behind.now in
    let found = c.in_ok-markup.ensures.read in
    let depth : length (after text rest ts).open_elements ≡ c.depth.result = sym read.1.level ∙ sym c.depth.ensures in
    let beyond = more_small text rest ts found.0 false read.2.small
    (ap (λ d. is_small_token d found.0) depth ∙ c.is_small-small.ensures found.0 _ found.1 c.pending.ensures ∙ c.if-not-small.true) in
    not_kept text rest behind (ts ++ found.0 ∷ []) (outline_view c.take.new.self) c.fault_beyond.result c.requires.head
    (more_progress text rest c.tokens.left.now behind ts (outline_view c.tokens.outline) (outline_view c.take.new.self) found.0
    read.1 found.2 (c.in_ok-take.ensures.ok found.0 _ found.1)) beyond c.fault_beyond.ensures

pub take-requires-in-tokens-clause-few : goal.take-requires-in-tokens-clause-few
take-requires-in-tokens-clause-few c =
    let read = c.tokens.invariant.read in
    let progress = read.1 in
    let stack = progress.stack in
    let place = progress.place in
    let builder = c.tokens.builder in
    let small = c.requires.small in
    let depth = builder_depth builder (after c.args.text.now c.args.rest.now read.0) read.2.view in
    omega (arith, builder.open_elements.ok.0)

pub tokens-preserved : goal.tokens-preserved
tokens-preserved c =
    let read = c.tokens.invariant.read in
    let left = c.tokens.left.now in
    let behind = c.in_ok-markup.behind.now in
    let found = c.in_ok-markup.ensures.read in
    let depth : length (after c.args.text.now c.args.rest.now read.0).open_elements ≡ c.depth.result =
    sym read.1.level ∙ sym c.depth.ensures in
    record {
      utf8 = search rules;
      linked = c.in_ok-take-2.ensures.linked (still_linked c.tokens.builder c.next_token.new.self c.next_token.ensures.rows c.next_token.ensures.links c.tokens.invariant.linked);
      clear = c.in_ok-take-2.ensures.clear;
      behind = c.in_ok-take-2.ensures.behind;
      outline = c.take.ensures.text ∙ c.tokens.invariant.outline;
      read = (
        read.0 ++ found.0 ∷ [],
        more_progress c.args.text.now c.args.rest.now left behind read.0 (outline_view c.tokens.outline) (outline_view c.take.new.self) found.0
            read.1 found.2 (c.in_ok-take.ensures.ok found.0 _ found.1),
        more_follows c.args.text.now c.args.rest.now read.0 found.0 c.tokens.builder c.take-in-tokens.new.self
            read.2 (ap (λ d. is_small_token d found.0) depth ∙ c.is_small-small.ensures found.0 _ found.1 c.pending.ensures ∙ c.if-not-small.false)
            (ap (λ (rs : List Row). step (record (builder_view c.tokens.builder) { rows = rs }) found.0) (sym c.next_token.ensures.rows)
            ∙ c.in_ok-take-2.ensures.ok found.0 found.1 (subst (λ (x : List ℕ). BeginsWith x found.0 behind) (sym c.tokens.invariant.behind) found.2)),
      );
    }

pub returns-then-not-is_complete-clause-err : goal.returns-then-not-is_complete-clause-err
returns-then-not-is_complete-clause-err c =
    let read = c.tokens.invariant.read in
    let ended : c.tokens.left.now ≡ [] = empty_list c.tokens.left.now (sym c.is_empty.ensures ∙ c.tokens-test.false) in
    not_complete c.args.text.now c.args.rest.now read.0 (outline_view c.tokens.outline) c.requires.head
    (subst (λ z. Progress c.args.text.now c.args.rest.now z read.0 (outline_view c.tokens.outline)) ended read.1)
    (sym c.is_complete.ensures ∙ c.if-not-is_complete.true)

pub returns-clause-ok : goal.returns-clause-ok
returns-clause-ok c =
    let read = c.tokens.invariant.read in
    let ended : c.tokens.left.now ≡ [] = empty_list c.tokens.left.now (sym c.is_empty.ensures ∙ c.tokens-test.false) in
    rows_read c.args.text.now c.args.rest.now c.tokens.left.now read.0 (outline_view c.tokens.outline) read.1 ended
    (sym c.is_complete.ensures ∙ c.if-not-is_complete.false) c.tokens.builder read.2 c.requires.head

pub returns-clause-limits : goal.returns-clause-limits
returns-clause-limits c =
    let read = c.tokens.invariant.read in
    let ended : c.tokens.left.now ≡ [] = empty_list c.tokens.left.now (sym c.is_empty.ensures ∙ c.tokens-test.false) in
    rows_within c.args.text.now c.args.rest.now c.tokens.left.now read.0 (outline_view c.tokens.outline) read.1 ended
    (sym c.is_complete.ensures ∙ c.if-not-is_complete.false) c.tokens.builder read.2

pub returns-clause-linked : goal.returns-clause-linked
returns-clause-linked c =
    let read = c.tokens.invariant.read in
    let builder = c.tokens.builder in
    let closed : length builder.open_elements.items ≡ 0 =
    builder_depth builder (after c.args.text.now c.args.rest.now read.0) read.2.view ∙ sym read.1.level
    ∙ none_open (outline_view c.tokens.outline) (sym c.is_complete.ensures ∙ c.if-not-is_complete.false) in
    subst (λ numbers. AreLinkedSoFar (depths_of builder.rows.rows) builder.rows.links numbers)
    (no_items builder.open_elements.items closed) c.tokens.invariant.linked
