-- What passes the test of a record's texts may stand in a document, and each moment has a written form.
use Rattle.std.proofs.Common.{ℕ, List, [], ◌∷◌, ◌↔◌, IsTrue, arith, sym, ◌∙◌}
use Rattle.std.specs.List.{flat_map, list_all}
use Rattle.std.proofs.lemmas.Bool.{and_parts}
use Rattle.std.proofs.lemmas.List.Folds.{list_all-append}
use Rattle.xml_spec.specs.Characters.{IsText}
use Rattle.saml_time.specs.Instant.{EachIsTold}
use Rattle.assertion_model.proofs.Writable.{graphic_text}
use Rattle.ledger_rules.specs.Numbers.{is_xml_text}
use Rattle.ledger_rules.specs.Texts.{of_attribute}
use Rattle.idp_answers.specs.Stating.{AllowedAttributesMayStand, AllowedTextsMayStand, EachAssertionIsTold, EachMomentIsTold, presented_until}

module _ (law : (text : List ℕ) → IsTrue (is_xml_text text) ↔ IsText text) where
  pub texts_stand : AllowedTextsMayStand
  texts_stand [] all = tt
  texts_stand (text ∷ texts) all =
      let both = and_parts (is_xml_text text) (list_all is_xml_text texts) all in
      ((law text).0 both.0, texts_stand texts both.1)

  pub attributes_stand : AllowedAttributesMayStand
  attributes_stand [] all = tt
  attributes_stand (attribute ∷ attributes) all =
      let both = and_parts (list_all is_xml_text (of_attribute attribute)) (list_all is_xml_text (flat_map of_attribute attributes))
      (sym (list_all-append is_xml_text (of_attribute attribute) (flat_map of_attribute attributes)) ∙ all) in
      let texts = texts_stand (of_attribute attribute) both.0 in
      (record { name = texts.0; values = texts.1 }, attributes_stand attributes both.1)

pub moment_told : EachIsTold → EachMomentIsTold
moment_told law moment h =
    let told = law moment h in
    record { text = told.0; tells = told.1; may_stand = graphic_text told.0 told.2 }

pub assertion_told : EachIsTold → EachAssertionIsTold
assertion_told law now session_end h k = record {
  issued = moment_told law now h;
  until = moment_told law (presented_until now) (omega arith);
  ends = moment_told law session_end k;
}
