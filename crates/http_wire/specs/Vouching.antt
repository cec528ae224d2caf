-- What a client reads of an answer that vouches for someone. Which bytes are the head of a response, `httparse` defines.
use Rattle.std.specs.Prelude.{◌≡◌, ℕ, ◌<◌, ◌≤◌, List, [], ◌∷◌, ◌++◌, codes, None, All}
use Rattle.httparse.specs.Grammar.{ResponseHead, ReadsResponse}
use Rattle.percent_encoding.specs.Percent.{percent_decode}
use Rattle.form_urlencoded.specs.Form.{parse}
use Rattle.owned_values.specs.declared.attributes.Attribute.{Attribute}
use Rattle.http_wire.specs.Clients.{field, fields_of, head_of}
use Rattle.http_wire.specs.Vouched.{escaped_name, pairs_of, attributes_form, vouched_answer}

-- its head: the fields of each answer, and two more
abbrev pub vouched_head : List ℕ → List Attribute → ResponseHead
vouched_head name attributes = record (head_of 200 None None 0) {
  fields = fields_of None None 0
      ++ field (codes "Remote-User") (escaped_name name) ∷ field (codes "Remote-Attributes") (attributes_form attributes) ∷ [];
}

-- a client reads the bytes as its status and just these fields, without a body
abbrev pub IsReadAsVouched : (bytes name : List ℕ) → List Attribute → Type 0
IsReadAsVouched bytes name attributes = ReadsResponse bytes (vouched_head name attributes) []

-- so it reads the answer, whatever the name and the values hold
abbrev pub AVouchedAnswerIsReadAgain : Type 0
AVouchedAnswerIsReadAgain = (name : List ℕ) (attributes : List Attribute) → IsReadAsVouched (vouched_answer name attributes) name attributes

-- no byte of a line but 0x20 to 0x7E, so none that ends it
abbrev pub IsPrintable : List ℕ → Type 0
IsPrintable line = All (λ b. (0x20 ≤ b) × (b ≤ 0x7E)) line

pub record EachLineIsPrintable : Type 0 where
  pub user : (name : List ℕ) → IsPrintable (codes "Remote-User: " ++ escaped_name name)
  pub attributes : (attributes : List Attribute) → IsPrintable (codes "Remote-Attributes: " ++ attributes_form attributes)

-- bytes
abbrev pub AreBytes : List ℕ → Type 0
AreBytes bytes = All (λ b. b < 256) bytes

-- the name and the pairs are read back from the two values
pub record NothingIsLost : Type 0 where
  pub name : (name : List ℕ) → AreBytes name → percent_decode (escaped_name name) ≡ name
  pub pairs : (attributes : List Attribute) → All (λ (pair : List ℕ × List ℕ). AreBytes pair.0 × AreBytes pair.1) (pairs_of attributes)
      → parse (attributes_form attributes) ≡ pairs_of attributes
