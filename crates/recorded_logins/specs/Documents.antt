-- A signed element as a document of its own: SAML Core, 5.4; XML Signature, 3.1.
use Rattle.std.specs.Prelude.{◌≡◌, List, [], ◌∷◌, ⊤}
use Rattle.xml_spec.specs.Document.{Spells}
use Rattle.element_make.specs.Made.{Made, written}
use Rattle.sig_reference.specs.Form.{HasForm}
use Rattle.login_origin.specs.Signed.{Signed}

-- The document of an element: what is written of it, the tree that these bytes spell, the root of that, and what its
-- Signature says.
pub record IsDocumentOf (element : Made) (s : Signed) : Type 0 where
  pub bytes : s.bytes ≡ written element
  pub spelled : Spells s.bytes s.tree
  pub root : s.element ≡ 0
  pub form : HasForm s.tree s.element s.parts

-- those of these elements, in their order
abbrev pub AreDocumentsOf : List Made → List Signed → Type 0
AreDocumentsOf [] [] = ⊤
AreDocumentsOf (element ∷ elements) (s ∷ documents) = IsDocumentOf element s × AreDocumentsOf elements documents
AreDocumentsOf _ _ = ⊥
