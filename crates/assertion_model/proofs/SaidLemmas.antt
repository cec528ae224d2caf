-- The login of an element of a document is read at its places.
use Rattle.std.proofs.Common.{◌≡◌, ℕ, Bool, true, false, List, [], ◌∷◌, ◌++◌, map, codes, Option, None, Some, refl, sym, ap, ◌∙◌}
use Rattle.std.specs.List.{flat_map}
use Rattle.std.specs.Option.{option_map, option_and_then}
use Rattle.std.proofs.lemmas.List.{map-append}
use Rattle.std.proofs.lemmas.List.Concat.{flat_map-append}
use Rattle.xml_spec.specs.Tree.{Nodes}
use Rattle.saml_names.specs.Names.{saml}
use Rattle.tree_read.specs.Children as walk
use Rattle.tree_read.specs.Texts.{text_of, trimmed}
use Rattle.owned_values.specs.declared.attributes.Attribute.{Attribute}
use Rattle.assertion_model.specs.declared.login.Login.{Login}
use Rattle.assertion_model.specs.declared.parts.Head.{Head}
use Rattle.assertion_model.specs.declared.parts.Confirmed.{Confirmed}
use Rattle.assertion_model.specs.declared.parts.Valid.{Valid}
use Rattle.assertion_model.specs.declared.parts.Session.{Session}
use Rattle.assertion_model.specs.Contents.{Part, text, value, only, at_most_one, first, each}
use Rattle.assertion_model.specs.Login.{where_holds, children, user_name, confirmation, valid_if_any, authentication, attribute, head}
use Rattle.assertion_model.specs.Parts.{part_at, login_at}
use Rattle.assertion_model.specs.Places.{name_place, value_places, places_of_attribute, places_of_statement, values_of}
use Rattle.assertion_model.proofs.PartLemmas.{named_at, text_at}
use Rattle.assertion_model.proofs.SkipLemmas.{login_by, login_said}

-- WHAT IS SAID IN PARTS

-- behind the Subject
name_of_it : (n : Option (List ℕ)) (c : Option Confirmed) (v : Option Valid) (s : Option Session) (a : Option (List Attribute))
    (f : List ℕ → Confirmed → Valid → Session → List Attribute → Login) (l : Login) →
    ((name : List ℕ) (c : Confirmed) (v : Valid) (s : Session) (a : List Attribute) → ((f name c v s a).name ≡ name) × ((f name c v s a).attributes ≡ a)) →
    option_and_then (λ name. option_and_then (λ c. option_and_then (λ v. option_and_then (λ s. option_map (λ a. f name c v s a) a) s) v) c) n ≡ Some l →
    (n ≡ Some l.name) × (a ≡ Some l.attributes)
name_of_it None c v s a f l is e = absurd (cc)
name_of_it (Some n) None v s a f l is e = absurd (cc)
name_of_it (Some n) (Some c) None s a f l is e = absurd (cc)
name_of_it (Some n) (Some c) (Some v) None a f l is e = absurd (cc)
name_of_it (Some n) (Some c) (Some v) (Some s) None f l is e = absurd (cc)
name_of_it (Some n) (Some c) (Some v) (Some s) (Some a) f l is e =
    let same : f n c v s a ≡ l = cc in
    let parts = is n c v s a in
    (ap Some (sym parts.0 ∙ ap (λ (l : Login). l.name) same), ap Some (sym parts.1 ∙ ap (λ (l : Login). l.attributes) same))

-- a login has a Subject, which names the user, and attributes
pub record IsSaid (subjects attribute_statements : List Part) (l : Login) : Type 0 where
  pub subject : Part
  pub only : only subjects ≡ Some subject
  pub name : user_name subject.kids ≡ Some l.name
  pub attributes : each attribute (flat_map (λ (statement : Part). children (codes "Attribute") statement.kids) attribute_statements) ≡ Some l.attributes

-- the login of its parts
abbrev pub login_with : Head → Part → List ℕ → Confirmed → Valid → Session → List Attribute → Login
login_with h issuer name c v s stated = record {
  id = h.id;
  issuer = trimmed (text issuer.kids);
  issued = h.issued;
  audiences = v.audiences;
  recipient = c.recipient;
  request = c.request;
  confirm_until = c.until;
  not_before = v.not_before;
  not_on_or_after = v.not_on_or_after;
  name = name;
  index = s.index;
  session_until = s.until;
  attributes = stated;
}

-- what is said behind the Subject
abbrev pub behind_subject : Head → Part → Part → List Part → List Part → List Part → Option Login
behind_subject h issuer subject conditions statements attribute_statements =
    option_and_then (λ name. option_and_then (λ (c : Confirmed). option_and_then (λ (v : Valid). option_and_then (λ (s : Session).
    option_map (λ stated. login_with h issuer name c v s stated)
    (each attribute (flat_map (λ (statement : Part). children (codes "Attribute") statement.kids) attribute_statements))) (authentication statements))
    (option_and_then valid_if_any (at_most_one conditions)))
    (confirmation subject.kids)) (user_name subject.kids)

said : (h : Option Head) (issuers subjects conditions statements attribute_statements : List Part) (l : Login) →
    login_by h issuers subjects conditions statements attribute_statements ≡ Some l → IsSaid subjects attribute_statements l
said None issuers subjects conditions statements attribute_statements l e = absurd (cc)
said (Some h) issuers subjects conditions statements attribute_statements l e = which (only issuers) (only subjects) refl e
  where
    which : (i s : Option Part) → only subjects ≡ s →
        option_and_then (λ (issuer : Part). option_and_then (λ (subject : Part). behind_subject h issuer subject conditions statements attribute_statements) s) i ≡ Some l →
        IsSaid subjects attribute_statements l
    which None s k e = absurd (cc)
    which (Some issuer) None k e = absurd (cc)
    which (Some issuer) (Some subject) k e =
        let parts = name_of_it (user_name subject.kids) (confirmation subject.kids) (option_and_then valid_if_any (at_most_one conditions)) (authentication statements)
        (each attribute (flat_map (λ (statement : Part). children (codes "Attribute") statement.kids) attribute_statements)) (login_with h issuer) l (λ name c v s a. (refl, refl)) e in
        record { subject = subject; only = k; name = parts.0; attributes = parts.1 }

said_at : (tree : Nodes) (e : ℕ) (l : Login) → login_at tree e ≡ Some l →
    IsSaid (children (codes "Subject") (part_at tree e).kids) (children (codes "AttributeStatement") (part_at tree e).kids) l
said_at tree e l h =
    let kids = (part_at tree e).kids in
    said (head (part_at tree e)) (children (codes "Issuer") kids) (children (codes "Subject") kids) (children (codes "Conditions") kids)
    (children (codes "AuthnStatement") kids) (children (codes "AttributeStatement") kids) l (login_said tree e l h)

-- WHERE IT IS SAID

one_of : {X : Type 0} (f : ℕ → X) (ks : List ℕ) (x : X) → only (map f ks) ≡ Some x → (k : ℕ) × (first ks ≡ Some k) × (f k ≡ x)
one_of f [] x e = absurd (cc)
one_of f (k ∷ []) x e = (k, refl, let same : f k ≡ x = cc in same)
one_of f (k ∷ m ∷ ks) x e = absurd (cc)

texts_of : (tree : Nodes) (ks : List ℕ) → map (λ (v : Part). text v.kids) (map (part_at tree) ks) ≡ map (text_of tree) ks
texts_of tree [] = refl
texts_of tree (k ∷ ks) = λ i. text_at tree k i ∷ texts_of tree ks i

-- the name that a Subject says is the text of its first NameID
name_there : (tree : Nodes) (subject : ℕ) (name : List ℕ) → user_name (part_at tree subject).kids ≡ Some name →
    option_map (text_of tree) (first (walk.children tree subject (saml (codes "NameID")))) ≡ Some name
name_there tree subject name e =
    holds _ (ap (option_map (λ (n : Part). text n.kids)) (ap only (sym (named_at (saml (codes "NameID")) tree subject))) ∙ chosen _ _ e)
  where
    chosen : (b : Bool) (o : Option (List ℕ)) → where_holds b o ≡ Some name → o ≡ Some name
    chosen true o h = h
    chosen false o h = absurd (let clash : None ≡ Some name = h in cc)

    holds : (ks : List ℕ) → option_map (λ (n : Part). text n.kids) (only (map (part_at tree) ks)) ≡ Some name → option_map (text_of tree) (first ks) ≡ Some name
    holds [] h = absurd (let clash : None ≡ Some name = h in cc)
    holds (k ∷ []) h = ap Some (sym (text_at tree k)) ∙ h
    holds (k ∷ m ∷ ks) h = absurd (let clash : None ≡ Some name = h in cc)

pub name_said : (tree : Nodes) (e : ℕ) (l : Login) → login_at tree e ≡ Some l → option_map (text_of tree) (name_place tree e) ≡ Some l.name
name_said tree e l h =
    let is = said_at tree e l h in
    let here = one_of (part_at tree) (walk.children tree e (saml (codes "Subject"))) is.subject
    (ap only (sym (named_at (saml (codes "Subject")) tree e)) ∙ is.only) in
    ap (λ o. option_map (text_of tree) (option_and_then (λ subject. first (walk.children tree subject (saml (codes "NameID")))) o)) here.1
    ∙ name_there tree here.0 l.name (ap (λ (p : Part). user_name p.kids) here.2 ∙ is.name)

-- the values of attributes that are read of these elements
values_there : (tree : Nodes) (ks : List ℕ) (attributes : List Attribute) → each attribute (map (part_at tree) ks) ≡ Some attributes →
    map (text_of tree) (flat_map (places_of_attribute tree) ks) ≡ values_of attributes
values_there tree [] attributes e = ap values_of (let same : [] ≡ attributes = cc in same)
values_there tree (k ∷ ks) attributes e =
    which (value (codes "Name") (part_at tree k).attributes) (each attribute (map (part_at tree) ks)) (values_there tree ks) e
  where
    which : (name : Option (List ℕ)) (others : Option (List Attribute)) →
        ((more : List Attribute) → others ≡ Some more → map (text_of tree) (flat_map (places_of_attribute tree) ks) ≡ values_of more) →
        option_and_then (λ a. option_map (λ more. a ∷ more) others)
        (option_map (λ name. record { name = name; values = map (λ (v : Part). text v.kids) (children (codes "AttributeValue") (part_at tree k).kids) }) name) ≡ Some attributes →
        map (text_of tree) (flat_map (places_of_attribute tree) (k ∷ ks)) ≡ values_of attributes
    which None others later h = absurd (let clash : None ≡ Some attributes = h in cc)
    which (Some name) None later h = absurd (let clash : None ≡ Some attributes = h in cc)
    which (Some name) (Some more) later h =
        map-append (text_of tree) (places_of_attribute tree k) (flat_map (places_of_attribute tree) ks)
        ∙ (λ i. (sym (texts_of tree (places_of_attribute tree k)) ∙ ap (map (λ (v : Part). text v.kids)) (sym (named_at (saml (codes "AttributeValue")) tree k))) i
        ++ later more refl i)
        ∙ ap values_of (let same : record { name = name; values = map (λ (v : Part). text v.kids) (children (codes "AttributeValue") (part_at tree k).kids) } ∷ more ≡ attributes = cc in same)

-- the Attributes of statements
stated_there : (tree : Nodes) (ks : List ℕ) →
    flat_map (λ (statement : Part). children (codes "Attribute") statement.kids) (map (part_at tree) ks)
    ≡ map (part_at tree) (flat_map (λ k. walk.children tree k (saml (codes "Attribute"))) ks)
stated_there tree [] = refl
stated_there tree (k ∷ ks) =
    (λ i. named_at (saml (codes "Attribute")) tree k i ++ stated_there tree ks i)
    ∙ sym (map-append (part_at tree) (walk.children tree k (saml (codes "Attribute"))) (flat_map (λ k. walk.children tree k (saml (codes "Attribute"))) ks))

flattened : (tree : Nodes) (ks : List ℕ) →
    flat_map (places_of_statement tree) ks ≡ flat_map (places_of_attribute tree) (flat_map (λ k. walk.children tree k (saml (codes "Attribute"))) ks)
flattened tree [] = refl
flattened tree (k ∷ ks) =
    ap (λ more. places_of_statement tree k ++ more) (flattened tree ks)
    ∙ sym (flat_map-append (places_of_attribute tree) (walk.children tree k (saml (codes "Attribute"))) (flat_map (λ k. walk.children tree k (saml (codes "Attribute"))) ks))

pub values_said : (tree : Nodes) (e : ℕ) (l : Login) → login_at tree e ≡ Some l → map (text_of tree) (value_places tree e) ≡ values_of l.attributes
values_said tree e l h =
    let is = said_at tree e l h in
    let statements = walk.children tree e (saml (codes "AttributeStatement")) in
    ap (map (text_of tree)) (flattened tree statements)
    ∙ values_there tree (flat_map (λ k. walk.children tree k (saml (codes "Attribute"))) statements) l.attributes
    (ap (each attribute) (sym (stated_there tree statements)
    ∙ ap (flat_map (λ (statement : Part). children (codes "Attribute") statement.kids)) (sym (named_at (saml (codes "AttributeStatement")) tree e))) ∙ is.attributes)
