use Rattle.std.proofs.Common.{◌≡◌, [], ◌∷◌, ◌++◌, string_bytes, refl, ◌∙◌, arith}
use Rattle.xml_spec.specs.Meaning.{line_ends}
use Rattle.xml_tokens.proofs.Decoding.{on_err}
use Rattle.xml_tokens.proofs.TextParts.{kept_put}
use Rattle.xml_tokens.proofs.Translating.{end_of_line, line_put, line_begun, last_line, last_put, last_failed, split_by_return}
use Rattle.xml_tokens.proofs.lines.put_line_ends.Goals as goal

pub returns-in_err-push_str-clause-err : goal.returns-in_err-push_str-clause-err
returns-in_err-push_str-clause-err c =
    on_err c.from_residual.result _
    (kept_put (line_ends c.args.text.now) (line_ends c.lines.rest.now) (string_bytes c.args.out.now) (string_bytes c.lines.out)
    (string_bytes c.push_str.new.self) c.lines.invariant.put c.in_err-push_str.ensures.bytes)

pub returns-in_err-push-clause-err : goal.returns-in_err-push-clause-err
returns-in_err-push-clause-err c =
    let behind = c.in-Some.behind.now in
    let next = split_by_return behind in
    on_err c.from_residual-in_err-push.result _
    (line_begun c.args.text.now c.lines.rest.now c.in-Some.line.now behind next.0 (string_bytes c.args.out.now) (string_bytes c.lines.out)
    (string_bytes c.push.new.self) c.in-Some.ensures next.1 c.lines.invariant.put
    (c.in_err-push.ensures.bytes ∙ c.in_ok-push_str.ensures.bytes))

pub lines-preserved : goal.lines-preserved
lines-preserved c =
    let line = c.in-Some.line.now in
    let behind = c.in-Some.behind.now in
    let pushed : string_bytes c.push.new.self ≡ (string_bytes c.lines.out ++ line) ++ 10 ∷ [] =
    c.in_ok-push.ensures.bytes ∙ (λ i. c.in_ok-push_str.ensures.bytes i ++ c.in_ok-push.ensures.ascii (omega arith) i) in
    let ends = end_of_line behind c.in-Some.behind c.unwrap_or-rest.result c.strip_byte.result refl c.strip_byte.ensures c.unwrap_or-rest.ensures in
    record {
      utf8 = c.unwrap_or-rest.utf8;
      put =
          line_put c.args.text.now c.lines.rest.now line behind c.unwrap_or-rest.result.now (string_bytes c.args.out.now) (string_bytes c.lines.out)
          (string_bytes c.push.new.self) c.in-Some.ensures ends c.lines.invariant.put pushed;
    }

pub returns : goal.returns
returns c = record {
  ok =
      last_put c.push_str-2.result c.args.text.now c.lines.rest.now (string_bytes c.args.out.now) (string_bytes c.lines.out)
      (string_bytes c.push_str-2.new.self) c.push_str-2.ensures.bytes (last_line c.lines.rest.now c.in_default.ensures) c.lines.invariant.put;
  err =
      last_failed c.push_str-2.result c.args.text.now c.lines.rest.now (string_bytes c.args.out.now) (string_bytes c.lines.out)
      (string_bytes c.push_str-2.new.self) c.push_str-2.ensures.bytes c.lines.invariant.put;
}
