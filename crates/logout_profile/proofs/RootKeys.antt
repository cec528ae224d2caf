-- Under which key the root is vouched for.
use Rattle.std.proofs.Common.{◌≡◌, ◌≢◌, ◌⊎◌, ℕ, List, [], ◌∷◌, Option, None, Some, inl, inr, refl, sym, ◌∙◌, ap, subst}
use Rattle.std.specs.Option.{option_to_list}
use Rattle.xml_spec.specs.Tree.{Nodes}
use Rattle.saml_tree.specs.Documents.{DocumentView}
use Rattle.sig_reference.specs.Form.{Parts}
use Rattle.sig_reference.specs.Signature.{Vouches, IsUnvouched}
use Rattle.sig_reference.specs.Vouching.{VouchedView, IsVouchedWith}
use Rattle.sig_reference.specs.declared.fault.SigFault.{SigFault}
use Rattle.sig_reference.specs.declared.fault.SigFault.TheVariants.{BadSignatureForm, BadReference, TagDiffers, DigestDiffers, NoMemory}
use Rattle.logout_profile.specs.Keys.{IsVouched, IsNotVouched}

-- the fault under the last key is that of all
last_key : (key : List ℕ) (tree : Nodes) (fault : SigFault) → IsUnvouched key tree 0 fault → IsNotVouched (key ∷ []) tree fault
last_key key tree TagDiffers u = inr (u, refl)
last_key key tree BadSignatureForm u = inl (u, λ e. cc)
last_key key tree BadReference u = inl (u, λ e. cc)
last_key key tree DigestDiffers u = inl (u, λ e. cc)
last_key key tree NoMemory u = inl (u, λ e. cc)

module _ (document : DocumentView) (n : ℕ) (root : n ≡ 0) where
  vouches : (key : List ℕ) (v : VouchedView) → IsVouchedWith key v → (v.document ≡ document) × (v.node ≡ n) → (parts : Parts) × Vouches key document.tree 0 parts
  vouches key v h place =
      (h.parts, subst (λ (at : DocumentView × ℕ). Vouches key at.0.tree at.1 h.parts) (λ i. (place.0 i, (place.1 ∙ root) i)) h.vouches)

  unvouched : (key : List ℕ) (fault : SigFault) → IsUnvouched key document.tree n fault → IsUnvouched key document.tree 0 fault
  unvouched key fault u = subst (λ e. IsUnvouched key document.tree e fault) root u

  -- the first key vouches
  pub by_first : (key : List ℕ) (others : List (List ℕ)) (v : VouchedView) → IsVouchedWith key v → (v.document ≡ document) × (v.node ≡ n) →
      (vouching : List ℕ) × IsVouched (key ∷ others) document.tree vouching
  by_first key others v h place = (key, inl (refl, vouches key v h place))

  -- the first key does not make the tag, and the second vouches
  pub by_second : (key other : List ℕ) (v : VouchedView) → IsUnvouched key document.tree n TagDiffers → IsVouchedWith other v →
      (v.document ≡ document) × (v.node ≡ n) → (vouching : List ℕ) × IsVouched (key ∷ other ∷ []) document.tree vouching
  by_second key other v u h place = (other, inr (unvouched key TagDiffers u, inl (refl, vouches other v h place)))

  -- another fault than that of the tag
  pub not_by_first : (key : List ℕ) (others : List (List ℕ)) (fault : SigFault) → fault ≢ TagDiffers → IsUnvouched key document.tree n fault →
      IsNotVouched (key ∷ others) document.tree fault
  not_by_first key others fault other u = inl (unvouched key fault u, other)

  -- the second key does not vouch either
  pub not_by_second : (key other : List ℕ) (fault : SigFault) → IsUnvouched key document.tree n TagDiffers → IsUnvouched other document.tree n fault →
      IsNotVouched (key ∷ other ∷ []) document.tree fault
  not_by_second key other fault u w = inr (unvouched key TagDiffers u, last_key other document.tree fault (unvouched other fault w))

-- WHICH KEY VOUCHES

of_last : (key other : List ℕ) (tree : Nodes) → IsVouched (other ∷ []) tree key → (other ≡ key) × ((parts : Parts) × Vouches key tree 0 parts)
of_last key other tree (inl v) = v
of_last key other tree (inr v) = absurd v.1

-- it is the first or the second
pub of_keys : (first : List ℕ) (second : Option (List ℕ)) (tree : Nodes) (key : List ℕ) → IsVouched (first ∷ option_to_list second) tree key →
    ((key ≡ first) ⊎ (second ≡ Some key)) × ((parts : Parts) × Vouches key tree 0 parts)
of_keys first second tree key (inl v) = (inl (sym v.0), v.1)
of_keys first None tree key (inr v) = absurd v.1
of_keys first (Some other) tree key (inr v) = let w = of_last key other tree v.1 in (inr (ap Some w.0), w.1)
