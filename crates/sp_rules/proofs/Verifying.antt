-- Under which key a signature vouches.
use Rattle.std.proofs.Common.{◌≡◌, ℕ, Bool, true, false, cond, List, [], ◌∷◌, None, Some, Result, Ok, Err, IfOk, IfErr, refl, ◌∙◌, ap, subst}
use Rattle.xml_spec.specs.Tree.{Nodes}
use Rattle.sig_reference.specs.Form.{Parts, HasForm}
use Rattle.sig_reference.specs.Signature.{Vouches, IsUnvouched, IsTagged, is_tagged}
use Rattle.sig_reference.specs.declared.fault.SigFault.{SigFault}
use Rattle.sig_reference.specs.declared.fault.SigFault.TheVariants as faults
use Rattle.sig_reference.specs.Vouching.{VouchedView, IsVouchedWith}
use Rattle.sig_reference.proofs.OneSignature.{one_signature}
use Rattle.sig_reference.proofs.Tagging.{tagged_test, test_tagged}
use Rattle.saml_tree.specs.Documents.{DocumentView}
use Rattle.assertion_model.specs.Parts.{own_signature}
use Rattle.sp_rules.specs.declared.cover.Verified.{Verified}
use Rattle.sp_rules.specs.Keys.{Key}
use Rattle.sp_rules.specs.Covering.{tagging, IsVerified, IsUnverified}
use Rattle.sp_rules.specs.Views.{IsVerifiedWith}

-- ONE KEY

pub tagged_is : (k : Key) (tree : Nodes) (parts : Parts) → IsTagged k.bytes tree parts → tagging (k ∷ []) tree parts ≡ Some k
tagged_is k tree parts t = ap (λ b. cond b (Some k) None) (tagged_test k.bytes tree parts t)

pub untagged_is : (k : Key) (tree : Nodes) (parts : Parts) → ¬ (IsTagged k.bytes tree parts) → tagging (k ∷ []) tree parts ≡ None
untagged_is k tree parts t = by_test (is_tagged k.bytes tree parts) refl
  where
    by_test : (b : Bool) → is_tagged k.bytes tree parts ≡ b → cond b (Some k) None ≡ None
    by_test true e = absurd (t (test_tagged k.bytes tree parts e))
    by_test false e = refl

pub unvouched_is : (k : Key) (tree : Nodes) (e : ℕ) (fault : SigFault) → IsUnvouched k.bytes tree e fault → IsUnverified (k ∷ []) tree e fault
unvouched_is k tree e faults.BadSignatureForm u = u
unvouched_is k tree e faults.BadReference u = u
unvouched_is k tree e faults.TagDiffers u = (u.0, u.1, u.2, untagged_is k tree u.0 u.3)
unvouched_is k tree e faults.DigestDiffers u = (u.0, k, u.1, u.2, tagged_is k tree u.0 u.3, u.4)
unvouched_is k tree e faults.NoMemory u = tt

-- TWO KEYS

-- the first makes the tag
pub tagging-front : (k : Key) (others : List Key) (tree : Nodes) (parts : Parts) (key : Key) → tagging (k ∷ []) tree parts ≡ Some key →
    tagging (k ∷ others) tree parts ≡ Some key
tagging-front k others tree parts key = by_test (is_tagged k.bytes tree parts)
  where
    by_test : (b : Bool) → cond b (Some k) None ≡ Some key → cond b (Some k) (tagging others tree parts) ≡ Some key
    by_test true e = e
    by_test false e = cc

-- it does not, so the others decide
pub tagging-behind : (k : Key) (others : List Key) (tree : Nodes) (parts : Parts) → tagging (k ∷ []) tree parts ≡ None →
    tagging (k ∷ others) tree parts ≡ tagging others tree parts
tagging-behind k others tree parts = by_test (is_tagged k.bytes tree parts)
  where
    by_test : (b : Bool) → cond b (Some k) None ≡ None → cond b (Some k) (tagging others tree parts) ≡ tagging others tree parts
    by_test true e = cc
    by_test false e = refl

pub verified_front : (k : Key) (others : List Key) (tree : Nodes) (e : ℕ) (key : Key) → IsVerified (k ∷ []) tree e key → IsVerified (k ∷ others) tree e key
verified_front k others tree e key v =
    record { parts = v.parts; tagged = tagging-front k others tree v.parts key v.tagged; vouches = v.vouches }

-- another fault than that of the tag is that of all keys
pub unverified_front : (k : Key) (others : List Key) (tree : Nodes) (e : ℕ) (fault : SigFault) → (fault ≡ faults.TagDiffers → ⊥) →
    IsUnverified (k ∷ []) tree e fault → IsUnverified (k ∷ others) tree e fault
unverified_front k others tree e faults.BadSignatureForm other u = u
unverified_front k others tree e faults.BadReference other u = u
unverified_front k others tree e faults.TagDiffers other u = absurd (other refl)
unverified_front k others tree e faults.DigestDiffers other u = (u.0, u.1, u.2, u.3, tagging-front k others tree u.0 u.1 u.4, u.5)
unverified_front k others tree e faults.NoMemory other u = tt

-- the parts of the signature whose tag the first key does not make
untagged_parts : (k : Key) (tree : Nodes) (e : ℕ) (parts : Parts) → HasForm tree e parts → IsUnverified (k ∷ []) tree e faults.TagDiffers →
    tagging (k ∷ []) tree parts ≡ None
untagged_parts k tree e parts f u = subst (λ p. tagging (k ∷ []) tree p ≡ None) (one_signature tree e u.0 parts u.1 f) u.3

pub verified_behind : (k : Key) (others : List Key) (tree : Nodes) (e : ℕ) (key : Key) → IsUnverified (k ∷ []) tree e faults.TagDiffers →
    IsVerified others tree e key → IsVerified (k ∷ others) tree e key
verified_behind k others tree e key u v = record {
  parts = v.parts;
  tagged = tagging-behind k others tree v.parts (untagged_parts k tree e v.parts v.vouches.form u) ∙ v.tagged;
  vouches = v.vouches;
}

pub unverified_behind : (k : Key) (others : List Key) (tree : Nodes) (e : ℕ) (fault : SigFault) → IsUnverified (k ∷ []) tree e faults.TagDiffers →
    IsUnverified others tree e fault → IsUnverified (k ∷ others) tree e fault
unverified_behind k others tree e faults.BadSignatureForm t u = u
unverified_behind k others tree e faults.BadReference t u = u
unverified_behind k others tree e faults.TagDiffers t u =
    (u.0, u.1, u.2, tagging-behind k others tree u.0 (untagged_parts k tree e u.0 u.1 t) ∙ u.3)
unverified_behind k others tree e faults.DigestDiffers t u =
    (u.0, u.1, u.2, u.3, tagging-behind k others tree u.0 (untagged_parts k tree e u.0 u.2 t) ∙ u.4, u.5)
unverified_behind k others tree e faults.NoMemory t u = tt

-- WHAT THE CODE KEEPS

-- a signature that vouches under a key is verified under it alone
pub verified_under : (number : ℕ) (bytes : List ℕ) (document : DocumentView) (e : ℕ) (v : VouchedView) →
    ((key : List ℕ) (tree : Nodes) (e : ℕ) (parts : Parts) → Vouches key tree e parts → own_signature tree e ≡ Some parts.signature) →
    IsVouchedWith bytes v → v.document ≡ document → v.node ≡ e →
    IsVerifiedWith (record { number = number; bytes = bytes } ∷ []) document e (record { vouched = v; key = number })
verified_under number bytes document e v law h d n =
    let key : Key = record { number = number; bytes = bytes } in
    let vouches : Vouches bytes document.tree e h.parts = subst (λ (at : DocumentView × ℕ). Vouches bytes at.0.tree at.1 h.parts) (λ i. (d i, n i)) h.vouches in
    record {
      key = key;
      is = record { parts = h.parts; tagged = tagged_is key document.tree h.parts vouches.tag; vouches = vouches };
      number = refl;
      place = d;
      node = n;
      own = law bytes document.tree e h.parts vouches ∙ ap Some h.signature;
    }

pub with_more : (k : Key) (others : List Key) (document : DocumentView) (e : ℕ) (verified : Verified) → IsVerifiedWith (k ∷ []) document e verified →
    IsVerifiedWith (k ∷ others) document e verified
with_more k others document e verified h = record {
  key = h.key;
  is = verified_front k others document.tree e h.key h.is;
  number = h.number;
  place = h.place;
  node = h.node;
  own = h.own;
}

pub with_less : (k : Key) (others : List Key) (document : DocumentView) (e : ℕ) (verified : Verified) → IsUnverified (k ∷ []) document.tree e faults.TagDiffers →
    IsVerifiedWith others document e verified → IsVerifiedWith (k ∷ others) document e verified
with_less k others document e verified u h = record {
  key = h.key;
  is = verified_behind k others document.tree e h.key u h.is;
  number = h.number;
  place = h.place;
  node = h.node;
  own = h.own;
}

-- the answer under the others is that under all, where the first key does not make the tag
pub if_ok_less : (k : Key) (others : List Key) (document : DocumentView) (e : ℕ) (r : Result Verified SigFault) →
    IsUnverified (k ∷ []) document.tree e faults.TagDiffers → IfOk r (IsVerifiedWith others document e) → IfOk r (IsVerifiedWith (k ∷ others) document e)
if_ok_less k others document e (Ok verified) u h = with_less k others document e verified u h
if_ok_less k others document e (Err fault) u h = tt

pub if_err_behind : (k : Key) (others : List Key) (tree : Nodes) (e : ℕ) (r : Result Verified SigFault) →
    IsUnverified (k ∷ []) tree e faults.TagDiffers → IfErr r (IsUnverified others tree e) → IfErr r (IsUnverified (k ∷ others) tree e)
if_err_behind k others tree e (Ok verified) u h = tt
if_err_behind k others tree e (Err fault) u h = unverified_behind k others tree e fault u h
