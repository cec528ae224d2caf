-- The entries of an aggregate are read one after the other, and what a fault of the whole says.
use Rattle.std.proofs.Common.{◌≡◌, ℕ, suc, ◌<◌, List, [], ◌∷◌, ◌++◌, append_assoc, length, map, Some, Result, Ok, Err, IfErr, sym, ap, ◌∙◌, subst, arith}
use Rattle.std.specs.Prelude.{IsSome}
use Rattle.std.specs.Result.{IsErrAnd}
use Rattle.xml_spec.specs.Tree.{Nodes}
use Rattle.xml_spec.specs.Names.{ExpandedName}
use Rattle.saml_tree.specs.Documents.{IsSpelled}
use Rattle.sig_reference.specs.Signature.{VouchesFirst, IsFirstUnvouched}
use Rattle.sig_reference.specs.Vouching.{VouchedView, IsVouchedFirstWith}
use Rattle.sig_reference.specs.declared.fault.SigFault.{SigFault}
use Rattle.sig_reference.specs.declared.fault.SigFault.TheVariants as sig_faults
use Rattle.tree_read.specs.Children.{Child, named}
use Rattle.meta_registry.specs.declared.entry.Entry.{Entry}
use Rattle.meta_registry.specs.declared.fault.RegistryFault.{RegistryFault}
use Rattle.meta_registry.specs.declared.fault.RegistryFault.TheVariants as faults
use Rattle.meta_registry.specs.Aggregate.{RegistryView, valid_until, descriptors, entry_of}
use Rattle.meta_registry.specs.Faults.{of_signature, IsRegistryOf, IsNoRegistry, IsRefused}

-- ONE CHILD AFTER THE OTHER

module _ (wanted name : ExpandedName) (old now : List Child) (n : ℕ) (is : name ≡ wanted) (taken : named name old ≡ n ∷ named name now) where
  taken_wanted : named wanted old ≡ n ∷ named wanted now
  taken_wanted = ap (λ m. named m old) (sym is) ∙ taken ∙ ap (λ m. n ∷ named m now) is

  pub fewer_left : length (named wanted now) < length (named wanted old)
  fewer_left = let less : length (named wanted old) ≡ suc (length (named wanted now)) = ap length taken_wanted in omega (arith, less)

  pub one_more_read : (f : ℕ → Entry) (before after all : List Entry) (entry : Entry) → after ≡ before ++ entry ∷ [] → entry ≡ f n →
      before ++ map f (named wanted old) ≡ all → after ++ map f (named wanted now) ≡ all
  one_more_read f before after all entry more read found =
      ap (λ xs. xs ++ map f (named wanted now)) more ∙ append_assoc before (entry ∷ []) (map f (named wanted now))
      ∙ ap (λ e. before ++ e ∷ map f (named wanted now)) read ∙ ap (λ ks. before ++ map f ks) (sym taken_wanted) ∙ found

-- THE ROOT

-- an aggregate that is vouched for, and what was read of it
pub registry_of : (key : List ℕ) (v : VouchedView) (tree : Nodes) (e : ℕ) (registry : RegistryView) → IsVouchedFirstWith key v → v.document.tree ≡ tree →
    v.node ≡ e → valid_until tree e ≡ Some registry.valid_until → registry.entries ≡ map (entry_of tree) (descriptors tree e) →
    IsRegistryOf key tree e registry
registry_of key v tree e registry vouched document node until entries = record {
  until = until;
  parts = vouched.parts;
  vouches =
      subst (λ n. VouchesFirst key tree n vouched.parts) node (subst (λ t. VouchesFirst key t v.node vouched.parts) document vouched.vouches);
  entries = entries;
}

-- FAULTS

-- what holds of the fault that an error is made of holds of the error
pub from_error : {X : Type 0} (r : Result X RegistryFault) (fault : RegistryFault) (P : RegistryFault → Type 0) → IsErrAnd r (λ e. e ≡ fault) → P fault →
    IfErr r P
from_error (Ok x) fault P is holds = tt
from_error (Err e) fault P is holds = subst P (sym is) holds

-- a document whose root is not vouched for
pub not_vouched : (key : List ℕ) (tree : Nodes) (e : ℕ) (fault : SigFault) → IsSome (valid_until tree e) → IsFirstUnvouched key tree e fault →
    IsNoRegistry key tree e (of_signature fault)
not_vouched key tree e sig_faults.BadSignatureForm some is = (some, λ h. absurd (cc), is)
not_vouched key tree e sig_faults.BadReference some is = (some, λ h. absurd (cc), is)
not_vouched key tree e sig_faults.TagDiffers some is = (some, λ h. absurd (cc), is)
not_vouched key tree e sig_faults.DigestDiffers some is = (some, λ h. absurd (cc), is)
not_vouched key tree e sig_faults.NoMemory some is = tt

-- a document whose root is no such aggregate
pub no_registry : (text key : List ℕ) (tree : Nodes) (fault : RegistryFault) → IsSpelled text tree → IsNoRegistry key tree 0 fault → IsRefused text key fault
no_registry text key tree (faults.Tree fault) spelled is = absurd is
no_registry text key tree faults.WrongShape spelled is = (tree, spelled, is)
no_registry text key tree (faults.Signature fault) spelled is = (tree, spelled, is)
no_registry text key tree faults.NoMemory spelled is = tt
