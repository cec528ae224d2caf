use Rattle.std.proofs.Common.{◌≡◌, ℕ, ◌+◌, ◌<◌, ◌++◌, true, false, List, [], length, get_or, refl, sym, ap, ◌∙◌, arith}
use Rattle.std.specs.Str.{IsCharBoundary}
use Rattle.std.proofs.lemmas.Str.{IsCharBoundary-start, IsCharBoundary-after_ascii}
use Rattle.xml_spec.specs.Syntax.{is_white}
use Rattle.sig_reference.specs.Form.{with_word}
use Rattle.sig_reference.proofs.Parting.{white_is_ascii, past_white, past_other}
use Rattle.sig_reference.proofs.words.words.Goals as goal
use Rattle.sig_reference.proofs.words.words.Goals.{then-is_white+in_ok-push_word, else-is_white}

pub loop-i-init : goal.loop-i-init
loop-i-init c = record {
  behind = omega arith;
  boundary = IsCharBoundary-start c.args.text.now c.utf8.text;
  found = rw c.new-found.ensures refl;
}

pub loop-i-preserved : goal.loop-i-preserved
loop-i-preserved c =
    let text = c.args.text.now in
    let i = c.loop-i.i in
    let bytes = c.as_bytes-bytes.ensures.value in
    let less : i < length text = omega (arith, ap length bytes) in
    let read = c.is_white.ensures ∙ ap (λ (s : List ℕ). is_white (get_or s i 0)) bytes in
    elim c.if-is_white.branch [
      | then-is_white+in_ok-push_word w ↦
          let white : is_white (get_or text i 0) ≡ true = sym read ∙ w.if-is_white.true in
          let boundary : IsCharBoundary text (i + 1) =
          IsCharBoundary-after_ascii text i c.utf8.text less (white_is_ascii (get_or text i 0) white) in
          rw (w.start-is, w.found-is) (record {
            behind = omega arith;
            boundary = boundary;
            found = past_white text c.loop-i.found _ c.loop-i.start i less white c.loop-i.invariant.found (w.in_ok-push_word.ensures ∙ ap (λ (word : List ℕ). c.loop-i.found ++ with_word word []) w.range.ensures.value);
          })
      | else-is_white w ↦
          let other : is_white (get_or text i 0) ≡ false = sym read ∙ w.if-is_white.false in
          rw (w.start-is, w.found-is) (record {
            behind = omega arith;
            boundary = c.loop-i.invariant.boundary;
            found = past_other text c.loop-i.found c.loop-i.start i c.loop-i.invariant.behind less other c.loop-i.invariant.found;
          })
    ]
