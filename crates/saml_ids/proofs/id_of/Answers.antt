use Rattle.std.proofs.Common.{◌≡◌, sym, refl, subst}
use Rattle.std.specs.Int.{w64, to_be_bytes}
use Rattle.hex.specs.Hex.{encode_lower}
use Rattle.saml_ids.specs.IdText.{random_bytes}
use Rattle.saml_ids.specs.Names.{IsIdForm}
use Rattle.saml_ids.proofs.IdForm.{IsIdForm-id_text}
use Rattle.saml_ids.proofs.Making.{id_text-written}
use Rattle.saml_ids.proofs.id_of.Goals as goal

pub returns : goal.returns
returns c =
    let digits : c.encode_to_slice.new.output ≡ encode_lower (to_be_bytes w64 c.args.number) =
    rw (← c.to_be_bytes.ensures) (rw c.unwrap.ensures at c.encode_to_slice.ensures.written) in
    let random : c.encode_to_slice-2.new.output ≡ encode_lower (random_bytes c.args.key.now c.args.kind c.args.number) =
    rw (← c.random_of.ensures) (rw c.unwrap-2.ensures at c.encode_to_slice-2.ensures.written) in
    id_text-written c.args.key.now c.args.kind c.args.number _ _ _ digits random refl

pub invariant_of-result : goal.invariant_of-result
invariant_of-result c =
    let digits : c.encode_to_slice.new.output ≡ encode_lower (to_be_bytes w64 c.args.number) =
    rw (← c.to_be_bytes.ensures) (rw c.unwrap.ensures at c.encode_to_slice.ensures.written) in
    let random : c.encode_to_slice-2.new.output ≡ encode_lower (random_bytes c.args.key.now c.args.kind c.args.number) =
    rw (← c.random_of.ensures) (rw c.unwrap-2.ensures at c.encode_to_slice-2.ensures.written) in
    subst IsIdForm (sym (id_text-written c.args.key.now c.args.kind c.args.number _ _ _ digits random refl))
    (IsIdForm-id_text c.args.key.now c.args.kind c.args.number)
