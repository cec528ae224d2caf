-- What an element that is vouched for is seen as.
use Rattle.std.specs.Prelude.{◌≡◌, ℕ, ◌+◌, ◌≤◌, ◌⊎◌, List}
use mathlib.Core.Path.{refl}
use Rattle.std.specs.Coded.{Coded, code_by, coded×, coded_ℕ}
use Rattle.xml_spec.specs.Tree.{Nodes}
use Rattle.xml_spec.specs.Numbering.{size, from_node, kids_of}
use Rattle.saml_tree.specs.Documents.{DocumentView, coded_document}
use Rattle.sig_reference.specs.Form.{Parts}
use Rattle.sig_reference.specs.Signature.{Vouches, VouchesFirst}

-- a document, and the numbers of the element and of the Signature in it
pub record VouchedView : Type 0 where
  pub document : DocumentView
  pub node : ℕ
  pub signature : ℕ

abbrev pub coded_vouched : Coded VouchedView
coded_vouched =
    code_by (DocumentView × (ℕ × ℕ)) (coded× coded_document (coded× coded_ℕ coded_ℕ)) (λ v. (v.document, (v.node, v.signature)))
    (λ p. record { document = p.0; node = p.1.0; signature = p.1.1 }) (λ _. refl)

-- that Signature vouches for the element under the key
pub record IsVouchedWith (key : List ℕ) (v : VouchedView) : Type 0 where
  pub parts : Parts
  pub vouches : Vouches key v.document.tree v.node parts
  pub signature : parts.signature ≡ v.signature

-- the same, where the Signature stands in front
pub record IsVouchedFirstWith (key : List ℕ) (v : VouchedView) : Type 0 where
  pub parts : Parts
  pub vouches : VouchesFirst key v.document.tree v.node parts
  pub signature : parts.signature ≡ v.signature

-- node n is element e or lies below it
pub record IsIn (tree : Nodes) (e n : ℕ) : Type 0 where
  pub from : e ≤ n
  pub to : n ≤ e + size (kids_of (from_node tree e))

-- The Signature vouches, under some key, for an element that the element of the view is, or that it lies below. It does not
-- lie in the Signature.
pub record IsVouched (v : VouchedView) : Type 0 where
  pub key : List ℕ
  pub element : ℕ
  pub parts : Parts
  pub vouches : Vouches key v.document.tree element parts ⊎ VouchesFirst key v.document.tree element parts
  pub signature : parts.signature ≡ v.signature
  pub inside : IsIn v.document.tree element v.node
  pub outside : ¬ (IsIn v.document.tree v.signature v.node)
