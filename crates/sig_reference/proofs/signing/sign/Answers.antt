use Rattle.std.proofs.Common.{◌++◌, codes, refl, sym, ap, ◌∙◌, subst}
use Rattle.sha2.specs.Sha256.{sha256}
use Rattle.xml_spec.specs.Characters.{IsText}
use Rattle.element_make.specs.Made.{Made, alone, with_second, written}
use Rattle.sig_reference.specs.Signing.{signed_info, signature}
use Rattle.sig_reference.proofs.Writable.{value_text, lent_value, some_kid}
use Rattle.sig_reference.proofs.signing.sign.Goals as goal

pub signed_info-requires : goal.signed_info-requires
signed_info-requires c =
    subst IsText (sym (lent_value _ _ _ _ c.attr_value.ensures c.unwrap_or-id.ensures refl))
    (value_text (codes "ID") c.args.made.attributes c.put.ensures.made.1)

pub insert_second-requires : goal.insert_second-requires
insert_second-requires c = some_kid c.args.made.kids c.requires.issuer

pub returns : goal.returns
returns c =
    let made = c.args.made in
    let form = c.as_slice.ensures.value ∙ c.in_ok-put.ensures.ok ∙ ap (λ bytes. bytes ++ written made) c.new-form.ensures.items in
    let id = lent_value _ _ _ _ c.attr_value.ensures c.unwrap_or-id.ensures refl in
    let info = c.in_ok-info.ensures ∙ ap (λ digest. signed_info c.unwrap_or-id.result.now digest) (c.digest.ensures ∙ ap sha256 form)
    ∙ ap (λ name. signed_info name (sha256 (written made))) id in
    c.in_ok-insert_second.ensures.ok
    ∙ ap (λ (s : Made). record made { kids = with_second made.kids (alone s) }) (c.in_ok-signature.ensures ∙ ap (signature c.args.key.now) info)
