-- The algorithms that signatures name: XML Signature, 6; Exclusive XML Canonicalization 1.0, 4; RFC 4051, 2.2.2.
use Rattle.std.specs.Prelude.{ℕ, List, codes}
use Rattle.xml_spec.specs.Names.{ExpandedName}
use Rattle.sig_reference.specs.declared.uris.TheConstants.{EXCLUSIVE, ENVELOPED, HMAC_SHA256, SHA256}

-- exclusive canonicalization, without comments: the algorithm and the namespace of its parameters
abbrev pub exclusive : List ℕ
exclusive = EXCLUSIVE.now

abbrev pub enveloped : List ℕ
enveloped = ENVELOPED.now

abbrev pub hmac_sha256 : List ℕ
hmac_sha256 = HMAC_SHA256.now

abbrev pub sha256_digest : List ℕ
sha256_digest = SHA256.now

abbrev pub inclusive_namespaces : ExpandedName
inclusive_namespaces = record { namespace = exclusive; local = codes "InclusiveNamespaces" }
