-- The digest that a SignedInfo says is determined by its content.
use Rattle.std.proofs.Common.{◌≡◌, ℕ, List, codes, refl, sym, ap, ◌∙◌, subst}
use Rattle.base64.specs.Engines.{standard}
use Rattle.base64.specs.GeneralPurpose.{encode_of, decode_of, IsConsistent}
use Rattle.base64.proofs.EngineFacts.{decode_of-encode_of}
use Rattle.xml_spec.specs.Tree.{Nodes}
use Rattle.saml_names.specs.Names.{ds}
use Rattle.tree_read.specs.Children.{Child, named}
use Rattle.tree_read.specs.Texts.{text_of}
use Rattle.sig_reference.specs.Form.{Parts, IsBase64, IsSignedInfo}
use Rattle.assertion_model.specs.Contents.{Part, text}
use Rattle.assertion_model.specs.Parts.{part_at}
use Rattle.assertion_model.proofs.PartLemmas.{text_at}
use Rattle.login_origin.proofs.Shown.{same_child}

is_consistent : IsConsistent standard
is_consistent = refl

-- a text is the base64 of 32 bytes at most
one_base64 : (text a b : List ℕ) → IsBase64 text a → IsBase64 text b → a ≡ b
one_base64 text a b p q =
    let encoded : encode_of standard a ≡ encode_of standard b = sym p.encoded ∙ q.encoded in
    let decoded =
    sym (decode_of-encode_of standard a is_consistent p.valid) ∙ ap (decode_of standard) encoded
    ∙ decode_of-encode_of standard b is_consistent q.valid in
    cc

pub same_digest : (one other : Nodes) (p q : Parts) → IsSignedInfo one p → IsSignedInfo other q →
    part_at one p.signed_info ≡ part_at other q.signed_info → p.digest ≡ q.digest
same_digest one other p q i j same =
    let reference =
    same_child (ds (codes "Reference")) one other p.signed_info q.signed_info i.reference j.reference
    (ap (λ (kids : List Child). named (ds (codes "Reference")) kids) i.children) (ap (λ (kids : List Child). named (ds (codes "Reference")) kids) j.children) same
    in
    let value =
    same_child (ds (codes "DigestValue")) one other i.reference j.reference i.referred.value j.referred.value
    (ap (λ (kids : List Child). named (ds (codes "DigestValue")) kids) i.referred.children)
    (ap (λ (kids : List Child). named (ds (codes "DigestValue")) kids) j.referred.children) reference
    in
    let texts : text_of one i.referred.value ≡ text_of other j.referred.value =
    sym (text_at one i.referred.value) ∙ ap (λ (part : Part). text part.kids) value ∙ text_at other j.referred.value
    in
    one_base64 (text_of other j.referred.value) p.digest q.digest (subst (λ t. IsBase64 t p.digest) texts i.referred.digest) j.referred.digest
