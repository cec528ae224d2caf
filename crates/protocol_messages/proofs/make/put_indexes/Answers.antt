use Rattle.std.proofs.Common.{◌≡◌, ◌+◌, ◌++◌, [], ◌∷◌, codes, take, refl, sym, ap, ◌∙◌}
use Rattle.std.proofs.lemmas.List.{take_more}
use Rattle.std.specs.Char.{encode_utf8}
use Rattle.std.specs.Str.{chars}
use Rattle.xml_spec.proofs.Valid.{name_shown}
use Rattle.element_make.specs.declared.names.Ns.TheVariants.{Samlp}
use Rattle.element_make.specs.Codes.{joined_none}
use Rattle.element_make.specs.Made.{alone, joined}
use Rattle.protocol_messages.specs.Making.{with_text, session_indexes}
use Rattle.protocol_messages.proofs.Indexes.{next_made}
use Rattle.protocol_messages.proofs.make.put_indexes.Goals as goal

pub with_text-requires-clause-name : goal.with_text-requires-clause-name
unfolding chars encode_utf8
with_text-requires-clause-name c = (name_shown _ refl, refl)

pub loop-index-init : goal.loop-index-init
loop-index-init c = ap (λ kids. record c.args.made.now { kids = kids }) (sym (joined_none c.args.made.now.kids))

pub loop-index-preserved : goal.loop-index-preserved
loop-index-preserved c =
    let before = c.args.made.now in
    let items = c.as_slice-index-items.result.now in
    let text = c.as_str.result.now in
    let made : alone c.in_ok-with_text.field-0 ≡ with_text Samlp (codes "SessionIndex") text = c.in_ok-with_text.ensures in
    let one_more : take (c.loop-index.index-index + 1) items ≡ take c.loop-index.index-index items ++ text ∷ [] = take_more items c.loop-index.index-index c.index-item.result c.loop-index-test.true
    ∙ ap (λ x. take c.loop-index.index-index items ++ x ∷ []) (sym c.index-item.is ∙ sym c.as_str.ensures) in
    c.in_ok-child.ensures.ok
    ∙ (λ i. record (c.loop-index.invariant i) { kids = joined (c.loop-index.invariant i).kids (made i) })
    ∙ ap (λ kids. record before { kids = kids }) (next_made before.kids (take c.loop-index.index-index items) text ∙ ap (λ xs. joined before.kids (session_indexes xs)) (sym one_more))
