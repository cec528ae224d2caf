-- The headline of both providers follows from the laws of each.
use Rattle.std.specs.Prelude.{Contains}
use Rattle.std.proofs.Common.{◌≡◌, Bool, true, false, List, [], ◌∷◌, None, Some, subst, if◌then◌else◌}
use Rattle.xml_spec.specs.Tree.{Nodes}
use Rattle.sig_reference.specs.Form.{Parts}
use Rattle.sig_reference.specs.Signature.{is_tagged}
use Rattle.sp_rules.specs.Keys.{Key}
use Rattle.sp_rules.specs.Covering.{tagging}
use Rattle.login_origin.proofs.Lists.{contains_first, contains_behind}

-- the key that makes a tag is one of the keys
pub counts : (keys : List Key) (tree : Nodes) (parts : Parts) (key : Key) → tagging keys tree parts ≡ Some key → Contains keys key
counts [] tree parts key e = absurd (let clash : None ≡ Some key = e in cc)
counts (k ∷ keys) tree parts key e = which (is_tagged k.bytes tree parts) e (counts keys tree parts key)
  where
    which : (b : Bool) → (if b then Some k else tagging keys tree parts) ≡ Some key → (tagging keys tree parts ≡ Some key → Contains keys key) → Contains (k ∷ keys) key
    which true e later = subst (Contains (k ∷ keys)) (let same : k ≡ key = cc in same) (contains_first k keys)
    which false e later = contains_behind k key keys (later e)
