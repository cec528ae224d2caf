-- Worked examples: which documents have names as the standard wants them.
use Rattle.std.proofs.Common.{◌≡◌, true, false, ℕ, inl, inr, List, [], ◌∷◌, codes, refl}
use Rattle.std.specs.Char.{encode_utf8}
use Rattle.std.specs.Str.{chars}
use Rattle.xml_spec.specs.Tree.{Attribute, Nodes, NoNodes, Element}
use Rattle.xml_spec.specs.Names.{HasNames}
use Rattle.xml_spec.proofs.Valid.{name_shown, other_bytes}

abbrev attribute : List ℕ → List ℕ → Attribute
attribute name value = record { name = name; value = value }

abbrev lone : List ℕ → List Attribute → Nodes
lone name attributes = Element name attributes NoNodes NoNodes

-- <p:a xmlns:p="urn:u" xml:lang="en"/>
named : HasNames (lone (codes "p:a") (attribute (codes "xmlns:p") (codes "urn:u") ∷ attribute (codes "xml:lang") (codes "en") ∷ []))
unfolding chars encode_utf8
named = (
  record {
    qualified = ((name_shown _ refl, refl), (name_shown _ refl, refl));
    all_qualified = (((name_shown _ refl, refl), (name_shown _ refl, refl)), (((name_shown _ refl, refl), (name_shown _ refl, refl)), tt));
    in_scope = inr refl;
    all_in_scope = (inr refl, tt);
    not_xmlns = other_bytes (codes "p") (codes "xmlns") refl;
    declares = (
      record {
        not_xml = other_bytes (codes "p") (codes "xml") refl;
        not_xmlns = other_bytes (codes "p") (codes "xmlns") refl;
        not_xml_namespace = other_bytes (codes "urn:u") (codes "http://www.w3.org/XML/1998/namespace") refl;
        not_xmlns_namespace = other_bytes (codes "urn:u") (codes "http://www.w3.org/2000/xmlns/") refl;
        not_undeclared = λ e. absurd (other_bytes (codes "urn:u") [] refl e);
        absolute = inr refl;
      },
      tt,
    );
    prefixes_once = (tt, tt);
    names_once = ((other_bytes (codes "xmlns:p") (codes "xml:lang") refl, tt), (tt, tt));
    expanded_once = (tt, tt);
  },
  tt,
  tt,
)

-- <p:a/>: no prefix p is in scope
unbound : HasNames (lone (codes "p:a") []) → ⊥
unbound h =
    elim h.0.in_scope [
      | inl e ↦ other_bytes (codes "p") [] refl e
      | inr none ↦ (let clash : false ≡ true = none in cc)
    ]

-- <a b="" b=""/>: a name stands twice
doubled : HasNames (lone (codes "a") (attribute (codes "b") [] ∷ attribute (codes "b") [] ∷ [])) → ⊥
doubled h = h.0.names_once.0.0 refl

-- <a xmlns:p="urn:u" xmlns:q="urn:u" p:b="" q:b=""/>: an expanded name stands twice
doubled_expanded : HasNames (lone (codes "a")
    (attribute (codes "xmlns:p") (codes "urn:u") ∷ attribute (codes "xmlns:q") (codes "urn:u")
    ∷ attribute (codes "p:b") [] ∷ attribute (codes "q:b") [] ∷ [])) → ⊥
doubled_expanded h = h.0.expanded_once.0.0 refl

-- <a xmlns:p=""/>: a prefix is not undeclared
undeclared : HasNames (lone (codes "a") (attribute (codes "xmlns:p") [] ∷ [])) → ⊥
undeclared h = other_bytes (codes "p") [] refl (h.0.declares.0.not_undeclared refl)

-- <a xmlns="u"/>: a namespace name is absolute
relative : HasNames (lone (codes "a") (attribute (codes "xmlns") (codes "u") ∷ [])) → ⊥
relative h =
    elim h.0.declares.0.absolute [
      | inl e ↦ other_bytes (codes "u") [] refl e
      | inr e ↦ (let clash : false ≡ true = e in cc)
    ]
