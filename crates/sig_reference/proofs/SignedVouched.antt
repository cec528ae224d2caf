-- What is signed is vouched for, wherever it stands.
use Rattle.std.proofs.Common.{◌≡◌, ℕ, List, [], codes, Some, refl, sym, ap, ◌∙◌, subst}
use Rattle.sha2.specs.Sha256.{sha256}
use Rattle.sha2.proofs.Facts256.{length-sha256}
use Rattle.hmac_sha256.specs.Hmac.{hmac}
use Rattle.base64.specs.Engines.{standard}
use Rattle.base64.specs.GeneralPurpose.{encode_of}
use Rattle.xml_spec.specs.Tree.{Attribute, Nodes}
use Rattle.xml_spec.specs.Names.{Scope}
use Rattle.xml_spec.specs.Identifiers.{IsSingle}
use Rattle.xml_spec.specs.Canonical.{canonical, canonical_nodes}
use Rattle.element_make.specs.declared.names.Ns.{Ns}
use Rattle.element_make.specs.declared.names.Ns.TheVariants.{Saml}
use Rattle.element_make.specs.Made.{Made, MadeNodes, MadeElement, IsMade, alone, joined, nodes_of, written, value_of}
use Rattle.sig_reference.specs.Form.{Parts, HasForm}
use Rattle.sig_reference.specs.Signature.{info_form, element_form, IsCheckable, IsReferredTo, Vouches}
use Rattle.sig_reference.specs.Signing.{CanBeSigned, CanBeChecked, signed_info, signed, id_of}
use Rattle.sig_reference.proofs.Digests.{digest_is_bytes, tag_is_bytes, tag_length, is_base64}
use Rattle.sig_reference.proofs.AnyScope.{same_form}
use Rattle.sig_reference.proofs.MadeNames.{value_there}
use Rattle.sig_reference.proofs.MadeScopes.{Has}
use Rattle.tree_read.proofs.Places.{Stands}
use Rattle.sig_reference.proofs.PutInside.{IsPut}
use Rattle.sig_reference.proofs.SignatureMade.{issued, unsigned_made}
use Rattle.sig_reference.proofs.SignedNodes.{made_parts}
use Rattle.sig_reference.proofs.SignedPlace.{place, without_signature, form, id_read, info_canonical}
use Rattle.sig_reference.proofs.Writable.{value_text}

-- Node e has the signature of a made element, whatever its length: of its form, with its reference, its tag and its
-- digest. The form of the node without it is what is written of the element.
pub record IsSignedAsMade (key : List ℕ) (made : Made) (tree : Nodes) (e : ℕ) : Type 0 where
  pub parts : Parts
  pub form : HasForm tree e parts
  pub reference : IsReferredTo tree e parts
  pub info : info_form tree parts ≡ written (signed_info (id_of made) (sha256 (written made)))
  pub tag : parts.tag ≡ hmac key (written (signed_info (id_of made) (sha256 (written made))))
  pub digest : parts.digest ≡ sha256 (written made)
  pub element : canonical tree e (Some parts.signature) [] ≡ written made
  pub prefixes : parts.element_prefixes ≡ []

module _ (key : List ℕ) (ns : Ns) (local : List ℕ) (attributes given : List Attribute) (kids rest : MadeNodes) where
  abbrev made : Made
  made = record { ns = ns; local = local; attributes = attributes; kids = MadeElement Saml (codes "Issuer") given kids rest }

  abbrev id : List ℕ
  id = id_of made

  abbrev digest : List ℕ
  digest = sha256 (written made)

  abbrev tag : List ℕ
  tag = hmac key (written (signed_info id digest))

  abbrev digest_text : List ℕ
  digest_text = encode_of standard digest

  abbrev tag_text : List ℕ
  tag_text = encode_of standard tag

  signed_issued : (declared : List Ns) (tree : Nodes) (e : ℕ) (scope : Scope) (after : MadeNodes) →
      Stands tree e scope (nodes_of declared (joined (alone (signed key made)) after)) → Has declared scope →
      IsMade made → CanBeSigned made → IsSignedAsMade key made tree e
  signed_issued declared tree e scope after here has is can =
      let behind = nodes_of declared after in
      let number = place declared ns local attributes given kids rest id digest_text tag_text e in
      let left = without_signature declared ns local attributes given kids rest id digest_text tag_text tree e scope behind here has in
      let read = id_read declared ns local attributes given kids rest id digest_text tag_text tree e scope behind here has is.1 is.2 in
      record {
        parts = made_parts number id digest tag;
        form =
            form declared ns local attributes given kids rest id digest_text tag_text tree e scope behind here has is.1 digest tag is.3.1 is.3.4 can.unsigned
            (is_base64 digest (digest_is_bytes (written made)) (length-sha256 (written made)))
            (is_base64 tag (tag_is_bytes key (written (signed_info id digest))) (tag_length key (written (signed_info id digest))));
        reference = record { id = id; given = read ∙ value_there (value_of (codes "ID") attributes) can.id; some = can.id; uri = refl };
        info =
            info_canonical declared ns local attributes given kids rest id digest_text tag_text tree e scope behind here has is.1 (written made) refl
            (value_text (codes "ID") attributes is.1);
        tag = refl;
        digest = refl;
        element = (λ i. canonical_nodes [] (here.inside i) [] (left i)) ∙ same_form made declared scope has is;
        prefixes = refl;
      }

abbrev CanBeRead : List ℕ → Nodes → ℕ → Made → Type 0
CanBeRead key tree e made = IsPut tree e (signed key made) → IsMade made → CanBeSigned made → IsSignedAsMade key made tree e

-- what is signed has its signature where it was put
pub signed_as_made : (key : List ℕ) (made : Made) (tree : Nodes) (e : ℕ) → IsPut tree e (signed key made) → CanBeSigned made →
    IsSignedAsMade key made tree e
signed_as_made key made tree e put can =
    let front = issued made.kids can.issuer in
    let read : CanBeRead key tree e made =
    subst (λ (nodes : MadeNodes). CanBeRead key tree e (record made { kids = nodes })) (sym front.is)
    (λ p is can. signed_issued key made.ns made.local made.attributes front.given front.kids front.rest p.declared tree e p.scope p.after p.here p.has is can) in
    read put (unsigned_made key made put.is) can

-- and it vouches for the element, where its two forms are not too long
pub vouches_as_made : (key : List ℕ) (made : Made) (tree : Nodes) (e : ℕ) → (is : IsSignedAsMade key made tree e) → CanBeChecked made → IsSingle tree →
    Vouches key tree e is.parts
vouches_as_made key made tree e is short single =
    let element : element_form tree e is.parts ≡ written made =
    ap (canonical tree e (Some is.parts.signature)) is.prefixes ∙ is.element in
    record {
      single = single;
      form = is.form;
      reference = is.reference;
      tag = record { checkable = subst IsCheckable (sym is.info) short.info; tag = is.tag ∙ ap (hmac key) (sym is.info) };
      digest = record { checkable = subst IsCheckable (sym element) short.element; digest = is.digest ∙ ap sha256 (sym element) };
    }
