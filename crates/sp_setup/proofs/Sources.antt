-- What a registry gives, and what it refuses.
use Rattle.std.proofs.Common.{◌≡◌, ℕ, ◌≤◌, List, Option, None, Some, MatchOption, Result, Ok, Err, IfOk, inl, inr, refl}
use Rattle.xml_spec.specs.declared.TheConstants.{MAX_DOCUMENT_LENGTH}
use Rattle.saml_outside.specs.Files.{File}
use Rattle.provider_config.specs.declared.config.RegistryLine.{RegistryLine}
use Rattle.meta_registry.specs.Aggregate.{RegistryView, peer_in}
use Rattle.meta_registry.specs.Faults.{IsRead}
use Rattle.meta_registry.specs.declared.fault.PeerFault.{PeerFault}
use Rattle.metadata.specs.declared.peer.Role.TheVariants.{Idp}
use Rattle.sp_setup.specs.declared.fault.SetupFault.{SetupFault}
use Rattle.sp_setup.specs.declared.loaded.Loaded.{Loaded}
use Rattle.sp_setup.specs.declared.source.Source.{Source}
use Rattle.sp_setup.specs.Faults.{IsFaultOf}
use Rattle.sp_setup.specs.Files.{whole, key_file}
use Rattle.sp_setup.specs.Setup.{load_registry}
use Rattle.sp_setup.specs.Views.{Lists, IsUnlisted, no_registry, no_provider}
use Rattle.sp_setup.proofs.Telling.{wider}

-- what is found in a registry that was read
pub found_in : {E : Type 0} (bytes key entity : List ℕ) (registry : RegistryView) (r : Result (Option Source) E) → IsRead bytes key registry →
    IfOk r (λ found. MatchOption found ((fault : PeerFault) × (peer_in registry entity Idp ≡ Err fault))
    (λ (source : Source). (peer_in registry entity Idp ≡ Ok source.peer) × (registry.valid_until ≡ source.valid_until))) →
    IfOk r (λ found. MatchOption found (IsUnlisted bytes key entity) (λ (source : Source). Lists bytes key entity source.peer source.valid_until))
found_in bytes key entity registry (Ok None) read h = no_provider registry h.0 read h.1
found_in bytes key entity registry (Ok (Some source)) read h = record { registry = registry; read = read; says = h.0; ends = h.1 }
found_in bytes key entity registry (Err e) read h = h

module _ (told : Option (List File)) (line : RegistryLine) (before : Loaded) (bytes : List ℕ) (there : (whole MAX_DOCUMENT_LENGTH line.file).gives told bytes) where
  -- the file of its key can't be used, once the registry was read
  pub bad_key : (start middle now : ℕ) (fault : SetupFault) → start ≤ middle → IsFaultOf ((key_file line.key).fails told) middle now fault →
      IsFaultOf ((load_registry line before).fails told) start now fault
  bad_key start middle now fault later h =
      wider ((key_file line.key).fails told) ((load_registry line before).fails told) start middle now fault later
      (λ file number bad. inr (bytes, there, inl bad)) h

  -- or none
  pub unlisted_here : (key : List ℕ) → (key_file line.key).gives told key → IsUnlisted bytes key line.entity → (load_registry line before).fails told line.file 0
  unlisted_here key key_there (no_registry fault some refused) =
      inr (bytes, there, inr (key, key_there, inl (refl, (refl, (fault, some, refused)))))
  unlisted_here key key_there (no_provider registry fault read says) =
      inr (bytes, there, inr (key, key_there, inr (registry, read, inl (refl, (refl, (fault, says))))))
