-- What IDs hold: no end of a line, and characters that may stand in a document.
use Rattle.std.proofs.Common.{◌≡◌, ◌≢◌, ℕ, true, List, [], subst}
use Rattle.http_wire.specs.Answers.{is_one_line}
use Rattle.xml_spec.specs.Characters.{IsText}
use Rattle.saml_ids.specs.IdText.{id_text}
use Rattle.saml_ids.specs.Names.{IsIdForm}
use Rattle.saml_ids.specs.declared.Kind.{Kind}
use Rattle.saml_ids.proofs.IdForm.{every_id_is_a_name}
use Rattle.provider_node.proofs.Ids.{one_line_id}

-- an ID that is drawn has characters, which may stand in a document
id_named : (id : List ℕ) → IsIdForm id → id ≢ []
id_named id form none = subst IsIdForm none form

pub drawn_named : (key : List ℕ) (kind : Kind) (n : ℕ) → id_text key kind n ≢ []
drawn_named key kind n = id_named (id_text key kind n) (every_id_is_a_name key kind n).form

pub drawn_line : (key : List ℕ) (kind : Kind) (n : ℕ) → is_one_line (id_text key kind n) ≡ true
drawn_line key kind n = one_line_id (id_text key kind n) (every_id_is_a_name key kind n).form

pub drawn_text : (key : List ℕ) (kind : Kind) (n : ℕ) → IsText (id_text key kind n)
drawn_text key kind n = (every_id_is_a_name key kind n).text
