-- The laws of a registry in a config.
use Rattle.std.specs.Prelude.{◌≡◌, ℕ, List, Contains, Option, None, Some, Ok}
use Rattle.xml_spec.specs.Tree.{Nodes}
use Rattle.xml_spec.specs.declared.TheConstants.{MAX_DOCUMENT_LENGTH}
use Rattle.saml_tree.specs.Documents.{IsSpelled}
use Rattle.saml_outside.specs.Files.{File}
use Rattle.meta_registry.specs.Aggregate.{valid_until}
use Rattle.meta_registry.specs.Listed.{IsListed}
use Rattle.metadata.specs.Metadata.{peer_of}
use Rattle.metadata.specs.declared.peer.Role.TheVariants.{Idp}
use Rattle.provider_config.specs.declared.config.RegistryLine.{RegistryLine}
use Rattle.provider_config.specs.declared.config.SpFile.TheVariants.{Registry}
use Rattle.provider_config.specs.declared.line.Purpose.{Purpose}
use Rattle.sp_setup.specs.Files.{whole, key_file}
use Rattle.sp_setup.specs.Setup.{Setup, IsSetUp}

-- The identity provider of this setup is what the registry of a line says of it: the file holds a document whose root is signed with
-- the line's key, the root lists one descriptor of that name, inside what the signature covers, and the provider is read from that
-- descriptor. The setup ends when the root says.
pub record IsFromRegistry (told : Option (List File)) (line : RegistryLine) (setup : Setup) : Type 0 where
  pub bytes : List ℕ
  pub key : List ℕ
  pub there : (whole MAX_DOCUMENT_LENGTH line.file).gives told bytes
  pub key_there : (key_file line.key).gives told key
  pub tree : Nodes
  pub spelled : IsSpelled bytes tree
  pub descriptor : ℕ
  pub listed : IsListed key tree line.entity descriptor
  pub says : peer_of tree descriptor Idp ≡ Ok setup.config.idp
  pub until : ℕ
  pub ends : valid_until tree 0 ≡ Some until
  pub expiry : setup.expiry ≡ Some until

-- A config that has a registry has its identity provider from there and from nowhere else.
abbrev pub ARegistryTellsTheProvider : Type 0
ARegistryTellsTheProvider =
    (told : Option (List File)) (purpose : Purpose) (file : List ℕ) (setup : Setup) (line : RegistryLine)
    → IsSetUp told purpose file setup → Contains setup.lines.files (Registry line) → IsFromRegistry told line setup

-- Without one nothing ends.
abbrev pub WithoutARegistryNothingEnds : Type 0
WithoutARegistryNothingEnds =
    (told : Option (List File)) (purpose : Purpose) (file : List ℕ) (setup : Setup) → IsSetUp told purpose file setup
    → ((line : RegistryLine) → ¬ (Contains setup.lines.files (Registry line))) → setup.expiry ≡ None
