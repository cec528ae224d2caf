-- When a posted form opens a session.
use Rattle.std.specs.Prelude.{◌≡◌, ℕ, List, [], ◌∷◌, Option, Some, Ok, true, IsTrue}
use Rattle.xml_spec.specs.Tree.{Nodes}
use Rattle.saml_tree.specs.Documents.{IsSpelled}
use Rattle.post_binding.specs.Form.{form}
use Rattle.post_binding.specs.declared.posted.Field.TheVariants.{Response}
use Rattle.protocol_messages.specs.Messages.{IsResponse}
use Rattle.protocol_messages.specs.declared.response.ResponseHead.{ResponseHead}
use Rattle.assertion_model.specs.declared.login.Login.{Login}
use Rattle.assertion_model.specs.Parts.{login_at}
use Rattle.request_rows.specs.declared.row.AskedRow.{AskedRow}
use Rattle.request_rows.specs.Rows.{RowsView}
use Rattle.sp_rules.specs.declared.config.SpConfig.{SpConfig}
use Rattle.sp_rules.specs.Keys.{Key, usable}
use Rattle.sp_rules.specs.Covering.{IsCovered}
use Rattle.sp_rules.specs.Meant.{is_meant}
use Rattle.sp_rules.specs.Outstanding.{asked_for, is_outstanding, is_unspent, is_unseen, is_relayed}

-- what a form carries: the bytes of a message with its relay, the tree that they spell, and what the Response at its root says
pub record Carried : Type 0 where
  pub message : List ℕ
  pub relay : Option (List ℕ)
  pub tree : Nodes
  pub head : ResponseHead

-- SAML Bindings, 3.5.4: this message stands in the form's SAMLResponse
abbrev pub Posts : List ℕ → List ℕ → Option (List ℕ) → Type 0
Posts body message relay = form body ≡ Ok (record { field = Response; message = message; relay = relay })

-- the form carries a Response
pub record Carries (body : List ℕ) (c : Carried) : Type 0 where
  pub posted : Posts body c.message c.relay
  pub spelled : IsSpelled c.message c.tree
  pub response : IsResponse c.tree 0 c.head

-- its status is Success, and element p of the tree is its one Assertion
pub record Asserts (head : ResponseHead) (p : ℕ) : Type 0 where
  pub success : head.success ≡ true
  pub one : head.assertions ≡ p ∷ []

-- The login that a form brings: that of the one Assertion of its Response, which signatures cover under a key that counts now. One
-- number p stands for the element that is covered and the element that is read; element e is the first that is signed.
pub record Brought : Type 0 where
  pub carried : Carried
  pub p : ℕ
  pub e : ℕ
  pub key : Key
  pub login : Login

pub record Brings (config : SpConfig) (now : ℕ) (body : List ℕ) (b : Brought) : Type 0 where
  pub carries : Carries body b.carried
  pub asserts : Asserts b.carried.head b.p
  pub covered : IsCovered (usable config now) b.carried.tree b.p b.e b.key
  pub read : login_at b.carried.tree b.p ≡ Some b.login

-- The form opens a session for this login and the asked row of its request: it is meant for this provider, and it answers with the
-- right relay an outstanding request that is unused.
pub record Opens (config : SpConfig) (rows : RowsView) (horizon now : ℕ) (body : List ℕ) (b : Brought) (asked : AskedRow) : Type 0 where
  pub brings : Brings config now body b
  pub meant : IsTrue (is_meant config now b.carried.head b.login)
  pub request : asked_for rows horizon now b.login ≡ Some asked
  pub outstanding : IsTrue (is_outstanding (Some asked) b.carried.head b.login)
  pub unspent : IsTrue (is_unspent rows b.login)
  pub unseen : IsTrue (is_unseen rows horizon now b.login)
  pub relayed : IsTrue (is_relayed (Some asked) b.carried.relay)
