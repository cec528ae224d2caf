use Rattle.std.proofs.Common.{string_bytes, rules}
use Rattle.xml_tokens.proofs.Decoding.{references_behind, references_next, kept_put, next_put, all_put, part_kept, next_is_shorter, on_err}
use Rattle.xml_tokens.proofs.value.put_value.Goals as goal

pub returns-in_err-push_str-clause-err : goal.returns-in_err-push_str-clause-err
returns-in_err-push_str-clause-err c =
    on_err c.from_residual.result _
    (part_kept c.args.written.now c.parts.rest.now (string_bytes c.args.out.now) (string_bytes c.parts.out) (string_bytes c.push_str.new.self)
    c.parts.invariant.put c.in_err-push_str.ensures.bytes)

pub next_character-requires-clause-references : goal.next_character-requires-clause-references
next_character-requires-clause-references c =
    references_behind c.parts.rest.now c.split_run.result.0.now c.split_run.result.1.now c.parts.invariant.references c.split_run.ensures.split

pub returns-in_default-clause-ok : goal.returns-in_default-clause-ok
returns-in_default-clause-ok c =
    let out = string_bytes c.push_str.new.self in
    all_put c.args.written.now c.split_run.result.1.now (string_bytes c.args.out.now) out
    (kept_put c.args.written.now c.parts.rest.now (string_bytes c.args.out.now) (string_bytes c.parts.out) c.split_run.result.0.now
    c.split_run.result.1.now out c.parts.invariant.put c.split_run.ensures.split c.split_run.ensures.passes c.in_ok-push_str.ensures.bytes)
    c.in_default.ensures

pub returns-in_err-push-clause-err : goal.returns-in_err-push-clause-err
returns-in_err-push-clause-err c =
    let out = string_bytes c.push_str.new.self in
    on_err c.from_residual-in_err-push.result _
    (part_kept c.args.written.now c.split_run.result.1.now (string_bytes c.args.out.now) out (string_bytes c.push.new.self)
    (kept_put c.args.written.now c.parts.rest.now (string_bytes c.args.out.now) (string_bytes c.parts.out) c.split_run.result.0.now
    c.split_run.result.1.now out c.parts.invariant.put c.split_run.ensures.split c.split_run.ensures.passes c.in_ok-push_str.ensures.bytes)
    c.in_err-push.ensures.bytes)

pub parts-preserved : goal.parts-preserved
parts-preserved c =
    let out = string_bytes c.push_str.new.self in
    record {
      utf8 = search rules;
      references =
          references_next c.parts.rest.now c.split_run.result.0.now c.split_run.result.1.now c.in-Some.character c.in-Some.behind.now
          c.parts.invariant.references c.split_run.ensures.split c.in-Some.ensures;
      put =
          next_put c.args.written.now (string_bytes c.args.out.now) out c.split_run.result.1.now c.in-Some.character c.in-Some.behind.now
          (string_bytes c.push.new.self)
          (kept_put c.args.written.now c.parts.rest.now (string_bytes c.args.out.now) (string_bytes c.parts.out) c.split_run.result.0.now
          c.split_run.result.1.now out c.parts.invariant.put c.split_run.ensures.split c.split_run.ensures.passes c.in_ok-push_str.ensures.bytes)
          c.in-Some.ensures c.in_ok-push.ensures.bytes;
    }

pub parts-smaller : goal.parts-smaller
parts-smaller c =
    next_is_shorter c.parts.rest.now c.split_run.result.0.now c.split_run.result.1.now c.in-Some.character c.in-Some.behind.now
    c.split_run.ensures.split c.in-Some.ensures
