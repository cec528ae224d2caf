use Rattle.std.specs.Prelude.{All}
use Rattle.std.proofs.Common.{◌≡◌, ◌≤◌, ◌++◌, [], ◌∷◌, length, sym, ◌∙◌, ap, subst, arith, rules, append_assoc}
use Rattle.std.proofs.lemmas.List.Elements.{All-append, All-cons, All-nil}
use Rattle.gate_journal.specs.Format.{sizes}
use Rattle.gate_journal.proofs.Payloads.{sizes-push}
use Rattle.gate_journal.proofs.stored.stored_of.Goals as goal

pub loop-payload-preserved : goal.loop-payload-preserved
loop-payload-preserved c =
    let before = c.loop-payload.records.items in
    let payload = c.in-Some.payload.now in
    let behind = c.next_payload.new.self.payloads in
    let records : c.push.new.self.items ≡ before ++ payload ∷ [] = search rules in
    record {
      place = omega (arith, ap sizes records, sizes-push before payload, c.in-Some.ensures.place, c.loop-payload.invariant.place);
      each = subst (All (λ p. length p ≤ 1048576)) (sym records) (All-append (λ p. length p ≤ 1048576) before (payload ∷ []) c.loop-payload.invariant.each
          (All-cons (λ p. length p ≤ 1048576) payload [] c.in-Some.ensures.short (All-nil (λ p. length p ≤ 1048576))));
      read = ap (λ (l : _). l ++ behind) records ∙ append_assoc before (payload ∷ []) behind ∙ ap (λ (l : _). before ++ l) (sym c.in-Some.ensures.payload) ∙ c.loop-payload.invariant.read;
    }
