-- What is made is read as it was made.
use Rattle.std.proofs.Common.{◌≡◌, ◌≢◌, ℕ, List, [], ◌∷◌, ◌++◌, codes, Ok, Err, Some, None, refl}
use Rattle.element_make.specs.Made.{tree_of}
use Rattle.metadata.specs.declared.peer.Role.{Role}
use Rattle.metadata.specs.declared.peer.Role.TheVariants.{Idp, Sp}
use Rattle.metadata.specs.declared.fault.MetaFault.TheVariants.{WrongShape}
use Rattle.metadata.specs.Metadata.{peer_of}
use Rattle.metadata.specs.Making.{metadata, plain, service_path}

pub same_role : (role : Role) (entity base : List ℕ) → entity ≢ [] →
    peer_of (tree_of (metadata role entity base)) 0 role ≡ Ok (record { entity = entity; service = base ++ service_path role; logout = Some (base ++ codes "/slo") })
same_role role [] base some = absurd (some refl)
same_role Idp (b ∷ entity) [] some = refl
same_role Idp (b ∷ entity) (c ∷ base) some = refl
same_role Sp (b ∷ entity) [] some = refl
same_role Sp (b ∷ entity) (c ∷ base) some = refl

pub plain_role : (role : Role) (entity base : List ℕ) → entity ≢ [] →
    peer_of (tree_of (plain role entity base)) 0 role ≡ Ok (record { entity = entity; service = base ++ service_path role; logout = None })
plain_role role [] base some = absurd (some refl)
plain_role Idp (b ∷ entity) [] some = refl
plain_role Idp (b ∷ entity) (c ∷ base) some = refl
plain_role Sp (b ∷ entity) [] some = refl
plain_role Sp (b ∷ entity) (c ∷ base) some = refl

pub other_role : (role asked : Role) (entity base : List ℕ) → role ≢ asked → peer_of (tree_of (metadata role entity base)) 0 asked ≡ Err WrongShape
other_role Idp Idp entity base apart = absurd (apart refl)
other_role Sp Sp entity base apart = absurd (apart refl)
other_role Idp Sp [] base apart = refl
other_role Idp Sp (b ∷ entity) base apart = refl
other_role Sp Idp [] base apart = refl
other_role Sp Idp (b ∷ entity) base apart = refl
