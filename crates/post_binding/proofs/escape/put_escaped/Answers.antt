use Rattle.std.proofs.Common.{◌-◌, ◌++◌, string_bytes, length, drop, sym, ap, ◌∙◌, get_or, arith}
use Rattle.std.proofs.lemmas.List.{take_all, length-drop}
use Rattle.std.proofs.lemmas.Str.{IsCharBoundary-after_ascii}
use Rattle.post_binding.specs.Html.{escape_byte}
use Rattle.post_binding.proofs.Escaping.{none_escaped, one_more, one_escaped, same_escaped, all_escaped}
use Rattle.post_binding.proofs.escape.put_escaped.Goals as goal
use Rattle.post_binding.proofs.escape.put_escaped.Goals.{in-Some+in_ok-push_str+in_ok-push_str-2, in_default}

pub loop-i-init : goal.loop-i-init
loop-i-init c = none_escaped escape_byte c.args.text.now (string_bytes c.args.out.now) c.utf8.text

pub loop-i-preserved : goal.loop-i-preserved
loop-i-preserved c =
    let text = c.args.text.now in
    let start = string_bytes c.args.out.now in
    let now = string_bytes c.loop-i.out in
    let b = get_or c.as_bytes-byte-items.result.now c.loop-i.i 0 in
    let is = ap (λ xs. get_or xs c.loop-i.i 0) c.as_bytes-byte-items.ensures.value in
    elim c.match-reference.branch [
      | in-Some+in_ok-push_str+in_ok-push_str-2 w ↦
          same_escaped escape_byte text start _ _ _ _ _
          (one_escaped escape_byte text start now c.loop-i.from c.loop-i.i b w.in-Some.reference.now c.loop-i.invariant (omega arith) is
          w.in-Some.ensures.0 (IsCharBoundary-after_ascii text c.loop-i.i c.utf8.text (omega arith) (omega (arith, is, w.in-Some.ensures.1))))
          (ap string_bytes w.out-is ∙ w.in_ok-push_str-2.ensures.bytes ∙ ap (λ xs. xs ++ w.in-Some.reference.now)
          (w.in_ok-push_str.ensures.bytes ∙ ap (λ xs. now ++ xs) w.range.ensures.value))
          w.from-is
      | in_default w ↦
          same_escaped escape_byte text start _ _ _ _ _
          (one_more escape_byte text start now c.loop-i.from c.loop-i.i b c.loop-i.invariant (omega arith) is w.in_default.ensures)
          (ap string_bytes w.out-is) w.from-is
    ]

pub returns : goal.returns
returns c =
    c.in_ok-push_str-3.ensures.bytes
    ∙ ap (λ xs. string_bytes c.loop-i.out ++ xs) (c.range_from.ensures.value ∙ sym (take_all (length c.args.text.now - c.loop-i.from) (drop c.loop-i.from c.args.text.now) (omega (arith, length-drop c.loop-i.from c.args.text.now))))
    ∙ all_escaped escape_byte c.args.text.now (string_bytes c.args.out.now) (string_bytes c.loop-i.out) c.loop-i.from c.loop-i.i
    c.loop-i.invariant (omega arith)
