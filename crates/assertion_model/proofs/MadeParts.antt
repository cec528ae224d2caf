-- What the elements of a made assertion say when they are read.
use Rattle.std.proofs.Common.{◌≡◌, ℕ, true, List, [], ◌∷◌, append-nil, map, codes, Option, None, Some, refl, ap, ◌∙◌}
use Rattle.std.specs.Prelude.{is_some}
use Rattle.std.specs.List.{list_all, AllByRecursion}
use Rattle.std.specs.Option.{option_map, option_and_then}
use Rattle.xml_spec.specs.Names.{Scope, outermost}
use Rattle.xml_spec.specs.Content.{ContentAttribute, Contents, content_nodes}
use Rattle.saml_names.specs.Names.{saml_namespace}
use Rattle.saml_time.specs.Instant.{TellsInFull}
use Rattle.tree_read.specs.Texts.{trimmed}
use Rattle.owned_values.specs.declared.attributes.Attribute.{Attribute}
use Rattle.element_make.specs.declared.names.Ns.{Ns}
use Rattle.element_make.specs.declared.names.Ns.TheVariants.{Saml}
use Rattle.element_make.specs.Made.{MadeNodes, NothingMade, MadeText, nodes_of}
use Rattle.assertion_model.specs.Contents.{Part, names, text, first, each}
use Rattle.assertion_model.specs.Instants.{moment_of, moment_if_any}
use Rattle.assertion_model.specs.Login.{where_holds, children, is_known, audiences, attribute}
use Rattle.assertion_model.specs.Moments.{IsWritten}
use Rattle.assertion_model.specs.Assertion.{joined_all, all_holding, restriction, stated, IsTrimmed, IsAudienceList}
use Rattle.assertion_model.proofs.ToldMoments.{told_is_computed}

-- the scope inside a made assertion
abbrev pub inside : Scope
inside = record { prefix = codes "saml"; namespace = saml_namespace } ∷ outermost

-- the content of made nodes that stand in elements of assertions
abbrev pub content_of : List Ns → MadeNodes → Contents
content_of outer nodes = content_nodes inside (nodes_of (Saml ∷ outer) nodes)

-- a text and no more
pub text_said : (outer : List Ns) (bytes : List ℕ) → text (content_of outer (MadeText bytes NothingMade)) ≡ bytes
text_said outer [] = refl
text_said outer (b ∷ bytes) = append-nil (b ∷ bytes)

-- AUDIENCES

audience_texts : (outer : List Ns) (texts : List (List ℕ)) → AllByRecursion IsTrimmed texts →
    map (λ (a : Part). trimmed (text a.kids)) (children (codes "Audience") (content_of outer (all_holding (codes "Audience") texts))) ≡ texts
audience_texts outer [] all = refl
audience_texts outer (t ∷ texts) all = λ i. (ap trimmed (text_said (Saml ∷ outer) t) ∙ all.0) i ∷ audience_texts outer texts all.1 i

some_audience : (texts : List (List ℕ)) → (texts ≡ [] → ⊥) → where_holds (is_some (first texts)) (Some texts) ≡ Some texts
some_audience [] some = absurd (some refl)
some_audience (t ∷ texts) some = refl

restriction_said : (outer : List Ns) (given : List ContentAttribute) (texts : List (List ℕ)) → IsAudienceList texts →
    audiences (record { attributes = given; kids = content_of outer (all_holding (codes "Audience") texts) }) ≡ Some texts
restriction_said outer given texts list =
    ap (λ found. where_holds (is_some (first found)) (Some found)) (audience_texts outer texts list.each) ∙ some_audience texts list.some

pub restrictions_said : (outer : List Ns) (lists : List (List (List ℕ))) → AllByRecursion IsAudienceList lists →
    each audiences (children (codes "AudienceRestriction") (content_of outer (joined_all restriction lists))) ≡ Some lists
restrictions_said outer [] all = refl
restrictions_said outer (texts ∷ lists) all =
    λ i. option_and_then (λ y. option_map (λ ys. y ∷ ys) (restrictions_said outer lists all.1 i)) (restriction_said (Saml ∷ outer) [] texts all.0 i)

pub restrictions_known : (outer : List Ns) (lists : List (List (List ℕ))) →
    list_all is_known (names (content_of outer (joined_all restriction lists))) ≡ true
restrictions_known outer [] = refl
restrictions_known outer (texts ∷ lists) = restrictions_known outer lists

-- ATTRIBUTES

value_texts : (outer : List Ns) (texts : List (List ℕ)) →
    map (λ (v : Part). text v.kids) (children (codes "AttributeValue") (content_of outer (all_holding (codes "AttributeValue") texts))) ≡ texts
value_texts outer [] = refl
value_texts outer (t ∷ texts) = λ i. text_said (Saml ∷ outer) t i ∷ value_texts outer texts i

pub stated_said : (outer : List Ns) (attributes : List Attribute) →
    each attribute (children (codes "Attribute") (content_of outer (joined_all stated attributes))) ≡ Some attributes
stated_said outer [] = refl
stated_said outer (a ∷ attributes) =
    λ i. option_and_then (λ y. option_map (λ ys. y ∷ ys) (stated_said outer attributes i))
    (Some (record { name = a.name; values = value_texts (Saml ∷ outer) a.values i }))

-- MOMENTS

pub moment_said : (bytes : List ℕ) (ms : ℕ) → TellsInFull bytes ms → moment_of bytes ≡ Some ms
moment_said bytes ms told = told_is_computed bytes ms told.tells

pub moment_if_said : (o : Option ℕ) (bytes : Option (List ℕ)) → IsWritten o bytes → moment_if_any bytes ≡ Some o
moment_if_said None None told = refl
moment_if_said None (Some bytes) told = absurd told
moment_if_said (Some ms) None told = absurd told
moment_if_said (Some ms) (Some bytes) told = ap (option_map (λ (ms : ℕ). Some ms)) (moment_said bytes ms told)
