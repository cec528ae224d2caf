-- What was read of a signature, as its parts. What a part of it does not say is empty.
use Rattle.std.specs.Prelude.{[]}
use Rattle.sig_reference.specs.Form.{Parts}
use Rattle.sig_reference.specs.declared.form.Reference.{Reference}
use Rattle.sig_reference.specs.declared.form.SignedInfo.{SignedInfo}
use Rattle.sig_reference.specs.declared.form.Signature.{Signature}

abbrev pub reference_parts : Reference → Parts
reference_parts reference =
    record { signature = 0; signed_info = 0; info_prefixes = []; element_prefixes = reference.prefixes; uri = reference.uri; digest = reference.digest; tag = [] }

abbrev pub info_parts : SignedInfo → Parts
info_parts info =
    record { signature = 0; signed_info = info.node.0; info_prefixes = info.prefixes; element_prefixes = info.reference.prefixes; uri = info.reference.uri; digest = info.reference.digest; tag = [] }

abbrev pub parts_of : Signature → Parts
parts_of signature =
    record {
      signature = signature.node.0;
      signed_info = signature.info.node.0;
      info_prefixes = signature.info.prefixes;
      element_prefixes = signature.info.reference.prefixes;
      uri = signature.info.reference.uri;
      digest = signature.info.reference.digest;
      tag = signature.tag;
    }
