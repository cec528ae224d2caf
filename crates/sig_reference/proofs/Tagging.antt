-- Whether a tag is that of its SignedInfo, as a test.
use Rattle.std.proofs.Common.{◌≡◌, ℕ, true, List, length}
use Rattle.std.proofs.lemmas.Bool.{leb-true, le-leb}
use Rattle.std.proofs.lemmas.Slice.Eq.{bytes_eq-Decides}
use Rattle.hmac_sha256.specs.Hmac.{hmac}
use Rattle.xml_spec.specs.Tree.{Nodes}
use Rattle.xml_spec.proofs.Tests.{both_true, and_true}
use Rattle.sig_reference.specs.declared.limits.TheConstants.{MAX_CHECKED_FORM_LENGTH}
use Rattle.sig_reference.specs.Form.{Parts}
use Rattle.sig_reference.specs.Signature.{info_form, IsTagged, is_tagged}

pub tagged_test : (key : List ℕ) (tree : Nodes) (parts : Parts) → IsTagged key tree parts →
    is_tagged key tree parts ≡ true
tagged_test key tree parts is =
    and_true _ _ (le-leb (length (info_form tree parts)) MAX_CHECKED_FORM_LENGTH is.checkable)
    ((bytes_eq-Decides parts.tag (hmac key (info_form tree parts))).1 is.tag)

pub test_tagged : (key : List ℕ) (tree : Nodes) (parts : Parts) → is_tagged key tree parts ≡ true →
    IsTagged key tree parts
test_tagged key tree parts is =
    let both = both_true _ _ is in
    record {
      checkable = leb-true (length (info_form tree parts)) MAX_CHECKED_FORM_LENGTH both.0;
      tag = (bytes_eq-Decides parts.tag (hmac key (info_form tree parts))).0 both.1;
    }
