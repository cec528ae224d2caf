-- The login of a made assertion is the one that it was made of.
use Rattle.std.proofs.Common.{◌≡◌, ◌≢◌, ℕ, List, [], ◌∷◌, ◌++◌, append-nil, map, codes, Option, None, Some, IsTrue, refl, sym, ap, ◌∙◌, subst}
use Rattle.std.specs.List.{flat_map, AllByRecursion}
use Rattle.std.specs.Option.{option_map, option_and_then}
use Rattle.xml_spec.specs.Tree.{Nodes}
use Rattle.xml_spec.specs.Content.{ContentAttribute, Contents, NoContents, ElementContent, content}
use Rattle.saml_names.specs.Names.{saml}
use Rattle.saml_names.specs.Uris.{password}
use Rattle.sig_reference.specs.Form.{Parts, HasForm}
use Rattle.sig_reference.specs.Signing.{CanBeSigned, has_no_signature}
use Rattle.tree_read.specs.Children as walk
use Rattle.tree_read.specs.Texts.{trimmed}
use Rattle.owned_values.specs.declared.attributes.Attribute.{Attribute}
use Rattle.element_make.specs.declared.names.Ns.TheVariants.{Saml}
use Rattle.element_make.specs.Made.{MadeNodes, NothingMade, MadeElement, MadeText, joined, Made, tree_of}
use Rattle.assertion_model.specs.declared.login.Login.{Login}
use Rattle.assertion_model.specs.declared.moments.Moments.{Moments}
use Rattle.assertion_model.specs.declared.parts.Head.{Head}
use Rattle.assertion_model.specs.declared.parts.Confirmed.{Confirmed}
use Rattle.assertion_model.specs.declared.parts.Valid.{Valid}
use Rattle.assertion_model.specs.declared.parts.Session.{Session}
use Rattle.assertion_model.specs.Contents.{Part, named, text, only, at_most_one, first, each, value}
use Rattle.assertion_model.specs.Instants.{moment_of, moment_if_any}
use Rattle.assertion_model.specs.Login.{where_holds, children, some_text, user_name, confirmation, valid, valid_if_any, authentication, attribute, head, login}
use Rattle.assertion_model.specs.Moments.{AreWritten}
use Rattle.assertion_model.specs.Parts.{part_at, own_signature, login_at}
use Rattle.assertion_model.specs.Assertion as make
use Rattle.assertion_model.specs.Assertion.{given_if_any, joined_all, stated, statements, assertion, IsAssertionOf, IsAudienceList, CanBeRead}
use Rattle.assertion_model.proofs.PartLemmas.{named_at}
use Rattle.assertion_model.proofs.SkipLemmas.{signature, login_by}
use Rattle.assertion_model.proofs.SaidLemmas.{login_with, behind_subject}
use Rattle.assertion_model.proofs.MadeParts.{content_of, text_said, restrictions_said, restrictions_known, stated_said, moment_said, moment_if_said}

-- a login is what its parts say
together : (hd : Option Head) (issuers subjects conditions statements stateds : List Part) (h : Head) (i p : Part) (n : List ℕ) (c : Confirmed) (v : Valid) (s : Session)
    (a : List Attribute) → hd ≡ Some h → only issuers ≡ Some i → only subjects ≡ Some p → user_name p.kids ≡ Some n → confirmation p.kids ≡ Some c →
    option_and_then valid_if_any (at_most_one conditions) ≡ Some v → authentication statements ≡ Some s →
    each attribute (flat_map (λ (s : Part). children (codes "Attribute") s.kids) stateds) ≡ Some a →
    login_by hd issuers subjects conditions statements stateds ≡ Some (login_with h i n c v s a)
together hd issuers subjects conditions statements stateds h i p n c v s a eh ei ep en ec ev es ea =
    (λ j. option_and_then (λ (h : Head). option_and_then (λ (i : Part). option_and_then (λ (p : Part).
    behind_subject h i p conditions statements stateds) (ep j)) (ei j)) (eh j))
    ∙ (λ j. option_and_then (λ name. option_and_then (λ c. option_and_then (λ v. option_and_then (λ s. option_map (λ stated. login_with h i name c v s stated) (ea j)) (es j)) (ev j)) (ec j)) (en j))

-- WHAT A MADE ASSERTION HOLDS

abbrev says : List ℕ → List ℕ → ContentAttribute
says local value = record { name = record { namespace = []; local = local }; value = value }

abbrev says_if_any : List ℕ → Option (List ℕ) → List ContentAttribute
says_if_any local None = []
says_if_any local (Some value) = says local value ∷ []

abbrev bounds : Option (List ℕ) → Option (List ℕ) → List ContentAttribute
bounds from until = says_if_any (codes "NotBefore") from ++ says_if_any (codes "NotOnOrAfter") until

abbrev instant_and_session : List ℕ → Option (List ℕ) → Option (List ℕ) → List ContentAttribute
instant_and_session issued index until =
    (says (codes "AuthnInstant") issued ∷ [] ++ says_if_any (codes "SessionIndex") index) ++ says_if_any (codes "SessionNotOnOrAfter") until

conditions_hold : (from until : Option (List ℕ)) (kids rest : MadeNodes) →
    content_of [] (MadeElement Saml (codes "Conditions") (given_if_any (codes "NotBefore") from ++ given_if_any (codes "NotOnOrAfter") until) kids rest)
    ≡ ElementContent (saml (codes "Conditions")) (bounds from until) (content_of (Saml ∷ []) kids) (content_of [] rest)
conditions_hold None None kids rest = refl
conditions_hold None (Some until) kids rest = refl
conditions_hold (Some from) None kids rest = refl
conditions_hold (Some from) (Some until) kids rest = refl

authentication_holds : (issued : List ℕ) (index until : Option (List ℕ)) (kids rest : MadeNodes) →
    content_of []
    (MadeElement Saml (codes "AuthnStatement")
    ((make.given (codes "AuthnInstant") issued ∷ [] ++ given_if_any (codes "SessionIndex") index) ++ given_if_any (codes "SessionNotOnOrAfter") until) kids rest)
    ≡ ElementContent (saml (codes "AuthnStatement")) (instant_and_session issued index until) (content_of (Saml ∷ []) kids) (content_of [] rest)
authentication_holds issued None None kids rest = refl
authentication_holds issued None (Some until) kids rest = refl
authentication_holds issued (Some index) None kids rest = refl
authentication_holds issued (Some index) (Some until) kids rest = refl

-- WHAT THEY SAY

some_said : (bytes : List ℕ) → bytes ≢ [] → some_text bytes ≡ Some bytes
some_said [] some = absurd (some refl)
some_said (b ∷ bytes) some = refl

abbrev head_attributes : List ℕ → List ℕ → List ContentAttribute
head_attributes id issued = says (codes "ID") id ∷ says (codes "IssueInstant") issued ∷ says (codes "Version") (codes "2.0") ∷ []

head_said : (kids : Contents) (id issued : List ℕ) (ms : ℕ) → id ≢ [] → moment_of issued ≡ Some ms →
    head (record { attributes = head_attributes id issued; kids = kids }) ≡ Some (record { id = id; issued = ms })
head_said kids id issued ms some told =
    λ j. option_and_then (λ id. option_map (λ issued. record { id = id; issued = issued }) (told j)) (some_said id some j)

-- the content of the Subject
abbrev subject_holds : Login → Moments → Contents
subject_holds l m = content_of (Saml ∷ []) (joined (make.holding (codes "NameID") l.name) (make.confirmation l m))

name_said : (l : Login) (m : Moments) → user_name (subject_holds l m) ≡ Some l.name
name_said l m = ap Some (text_said (Saml ∷ Saml ∷ []) l.name)

confirmation_said : (l : Login) (m : Moments) → l.request ≢ [] → moment_of m.confirm_until ≡ Some l.confirm_until →
    confirmation (subject_holds l m) ≡ Some (record { recipient = l.recipient; request = l.request; until = l.confirm_until })
confirmation_said l m some told =
    λ j. option_and_then (λ recipient. option_and_then (λ request. option_map (λ until. record { recipient = recipient; request = request; until = until }) (told j))
    (some_said l.request some j)) (Some l.recipient)

bounds_said : (from until : Option (List ℕ)) → (value (codes "NotBefore") (bounds from until) ≡ from) × (value (codes "NotOnOrAfter") (bounds from until) ≡ until)
bounds_said None None = (refl, refl)
bounds_said None (Some until) = (refl, refl)
bounds_said (Some from) None = (refl, refl)
bounds_said (Some from) (Some until) = (refl, refl)

valid_said : (l : Login) (m : Moments) → AreWritten l m → AllByRecursion IsAudienceList l.audiences →
    valid (record { attributes = bounds m.not_before m.not_on_or_after; kids = content_of (Saml ∷ []) (joined_all make.restriction l.audiences) })
    ≡ Some (record { not_before = l.not_before; not_on_or_after = l.not_on_or_after; audiences = l.audiences })
valid_said l m written lists =
    let found = bounds_said m.not_before m.not_on_or_after in
    let from = ap moment_if_any found.0 ∙ moment_if_said l.not_before m.not_before written.not_before in
    let until = ap moment_if_any found.1 ∙ moment_if_said l.not_on_or_after m.not_on_or_after written.not_on_or_after in
    λ j. where_holds (restrictions_known (Saml ∷ []) l.audiences j)
    (option_and_then (λ not_before. option_and_then (λ not_on_or_after. option_map (λ audiences. record { not_before = not_before; not_on_or_after = not_on_or_after; audiences = audiences })
    (restrictions_said (Saml ∷ []) l.audiences lists j)) (until j)) (from j))

session_found : (issued : List ℕ) (index until : Option (List ℕ)) →
    (value (codes "AuthnInstant") (instant_and_session issued index until) ≡ Some issued)
    × (value (codes "SessionIndex") (instant_and_session issued index until) ≡ index)
    × (value (codes "SessionNotOnOrAfter") (instant_and_session issued index until) ≡ until)
session_found issued None None = (refl, refl, refl)
session_found issued None (Some until) = (refl, refl, refl)
session_found issued (Some index) None = (refl, refl, refl)
session_found issued (Some index) (Some until) = (refl, refl, refl)

session_said : (l : Login) (m : Moments) → AreWritten l m → (kids : Contents) →
    authentication (record { attributes = instant_and_session m.issued l.index m.session_until; kids = kids } ∷ [])
    ≡ Some (record { index = l.index; until = l.session_until })
session_said l m written kids =
    let found = session_found m.issued l.index m.session_until in
    let instant = ap (option_and_then moment_of) found.0 ∙ moment_said m.issued l.issued written.issued in
    let until = ap moment_if_any found.2 ∙ moment_if_said l.session_until m.session_until written.session_until in
    λ j. option_and_then (λ (moments : List ℕ). option_map (λ until. record { index = found.1 j; until = until }) (until j))
    (option_and_then (λ ms. Some (ms ∷ [])) (instant j))

-- behind the authentication there is nothing that is looked for but the attributes
record IsLast (rest : Contents) (attributes : List Attribute) : Type 0 where
  issuers : children (codes "Issuer") rest ≡ []
  subjects : children (codes "Subject") rest ≡ []
  conditions : children (codes "Conditions") rest ≡ []
  statements : children (codes "AuthnStatement") rest ≡ []
  signatures : named signature rest ≡ []
  stated : each attribute (flat_map (λ (s : Part). children (codes "Attribute") s.kids) (children (codes "AttributeStatement") rest)) ≡ Some attributes

statements_last : (attributes : List Attribute) → IsLast (content_of [] (statements attributes)) attributes
statements_last [] = record { issuers = refl; subjects = refl; conditions = refl; statements = refl; signatures = refl; stated = refl }
statements_last (a ∷ attributes) = record {
  issuers = refl;
  subjects = refl;
  conditions = refl;
  statements = refl;
  signatures = refl;
  stated = ap (each attribute) (append-nil (children (codes "Attribute") (content_of (Saml ∷ []) (joined_all stated (a ∷ attributes)))))
      ∙ stated_said (Saml ∷ []) (a ∷ attributes);
}

-- THE WHOLE

abbrev kids_hold : Login → Moments → Contents → Contents
kids_hold l m rest =
    ElementContent (saml (codes "Issuer")) [] (content_of (Saml ∷ []) (MadeText l.issuer NothingMade))
    (ElementContent (saml (codes "Subject")) [] (subject_holds l m)
    (ElementContent (saml (codes "Conditions")) (bounds m.not_before m.not_on_or_after) (content_of (Saml ∷ []) (joined_all make.restriction l.audiences))
    (ElementContent (saml (codes "AuthnStatement")) (instant_and_session m.issued l.index m.session_until)
    (content_of (Saml ∷ []) (make.part (codes "AuthnContext") [] (make.holding (codes "AuthnContextClassRef") password))) rest)))

abbrev assertion_holds : Login → Moments → Contents
assertion_holds l m =
    ElementContent (saml (codes "Assertion")) (head_attributes l.id m.issued) (kids_hold l m (content_of [] (statements l.attributes))) NoContents

kids_made : (l : Login) (m : Moments) → content_of [] (assertion l m).kids ≡ kids_hold l m (content_of [] (statements l.attributes))
kids_made l m =
    ap (λ others. ElementContent (saml (codes "Issuer")) [] (content_of (Saml ∷ []) (MadeText l.issuer NothingMade))
    (ElementContent (saml (codes "Subject")) [] (subject_holds l m) others))
    (conditions_hold m.not_before m.not_on_or_after (joined_all make.restriction l.audiences) (joined (make.authentication l m) (statements l.attributes))
    ∙ ap (ElementContent (saml (codes "Conditions")) (bounds m.not_before m.not_on_or_after) (content_of (Saml ∷ []) (joined_all make.restriction l.audiences)))
    (authentication_holds m.issued l.index m.session_until (make.part (codes "AuthnContext") [] (make.holding (codes "AuthnContextClassRef") password)) (statements l.attributes)))

made_holds : (l : Login) (m : Moments) → content (tree_of (assertion l m)) 0 None ≡ assertion_holds l m
made_holds l m = ap (λ kids. ElementContent (saml (codes "Assertion")) (head_attributes l.id m.issued) kids NoContents) (kids_made l m)

said_back : (l : Login) (m : Moments) → AreWritten l m → CanBeRead l → (rest : Contents) → IsLast rest l.attributes →
    login (ElementContent (saml (codes "Assertion")) (head_attributes l.id m.issued) (kids_hold l m rest) NoContents) ≡ Some l
said_back l m written can rest last =
    let issuer : Part = record { attributes = []; kids = content_of (Saml ∷ []) (MadeText l.issuer NothingMade) } in
    let subject : Part = record { attributes = []; kids = subject_holds l m } in
    let conditions : Part = record { attributes = bounds m.not_before m.not_on_or_after; kids = content_of (Saml ∷ []) (joined_all make.restriction l.audiences) } in
    let context : Contents = content_of (Saml ∷ []) (make.part (codes "AuthnContext") [] (make.holding (codes "AuthnContextClassRef") password)) in
    let statement : Part = record { attributes = instant_and_session m.issued l.index m.session_until; kids = context } in
    let hd : Head = record { id = l.id; issued = l.issued } in
    let c : Confirmed = record { recipient = l.recipient; request = l.request; until = l.confirm_until } in
    let v : Valid = record { not_before = l.not_before; not_on_or_after = l.not_on_or_after; audiences = l.audiences } in
    let s : Session = record { index = l.index; until = l.session_until } in
    let trim : trimmed (text issuer.kids) ≡ l.issuer = ap trimmed (text_said (Saml ∷ []) l.issuer) ∙ can.issuer in
    together (head (record { attributes = head_attributes l.id m.issued; kids = kids_hold l m rest })) (issuer ∷ children (codes "Issuer") rest)
    (subject ∷ children (codes "Subject") rest) (conditions ∷ children (codes "Conditions") rest) (statement ∷ children (codes "AuthnStatement") rest)
    (children (codes "AttributeStatement") rest) hd issuer subject l.name c v s l.attributes
    (head_said (kids_hold l m rest) l.id m.issued l.issued can.id (moment_said m.issued l.issued written.issued))
    (ap (λ (others : List Part). only (issuer ∷ others)) last.issuers)
    (ap (λ (others : List Part). only (subject ∷ others)) last.subjects)
    (name_said l m)
    (confirmation_said l m can.request (moment_said m.confirm_until l.confirm_until written.confirm_until))
    (ap (λ (others : List Part). option_and_then valid_if_any (at_most_one (conditions ∷ others))) last.conditions
    ∙ valid_said l m written can.audiences)
    (ap (λ (others : List Part). authentication (statement ∷ others)) last.statements ∙ session_said l m written context)
    last.stated
    ∙ ap Some (λ j. record {
      id = l.id;
      issuer = trim j;
      issued = l.issued;
      audiences = l.audiences;
      recipient = l.recipient;
      request = l.request;
      confirm_until = l.confirm_until;
      not_before = l.not_before;
      not_on_or_after = l.not_on_or_after;
      name = l.name;
      index = l.index;
      session_until = l.session_until;
      attributes = l.attributes;
    })

-- the login of the content of a made assertion
pub content_said : (l : Login) (made : Made) → IsAssertionOf l made → CanBeRead l → login (content (tree_of made) 0 None) ≡ Some l
content_said l made is can =
    ap (λ (made : Made). login (content (tree_of made) 0 None)) is.is ∙ ap login (made_holds l is.moments)
    ∙ said_back l is.moments is.written can (content_of [] (statements l.attributes)) (statements_last l.attributes)

-- WRITTEN AND READ

none_first : {X : Type 0} (f : ℕ → X) (ks : List ℕ) → map f ks ≡ [] → first ks ≡ None
none_first f [] e = refl
none_first f (k ∷ ks) e = absurd (cc)

unsigned : (l : Login) (m : Moments) → own_signature (tree_of (assertion l m)) 0 ≡ None
unsigned l m =
    let tree = tree_of (assertion l m) in
    none_first (part_at tree) (walk.children tree 0 signature)
    (sym (named_at signature tree 0) ∙ ap (named signature) (kids_made l m) ∙ (statements_last l.attributes).signatures)

pub login_made : (l : Login) (made : Made) → IsAssertionOf l made → CanBeRead l → login_at (tree_of made) 0 ≡ Some l
login_made l made is can =
    let none = ap (λ (made : Made). own_signature (tree_of made) 0) is.is ∙ unsigned l is.moments in
    ap (λ o. login (content (tree_of made) 0 o)) none ∙ content_said l made is can

none_signed : (attributes : List Attribute) → IsTrue (has_no_signature (statements attributes))
none_signed [] = refl
none_signed (a ∷ attributes) = refl

pub can_be_signed : (l : Login) (made : Made) → IsAssertionOf l made → CanBeRead l → CanBeSigned made
can_be_signed l made is can =
    subst CanBeSigned (sym is.is) (record { id = can.id; issuer = refl; unsigned = none_signed l.attributes })

pub login_signed : (l : Login) (made : Made) (tree : Nodes) → IsAssertionOf l made → CanBeRead l → (parts : Parts) → HasForm tree 0 parts →
    content tree 0 (Some parts.signature) ≡ content (tree_of made) 0 None → login_at tree 0 ≡ Some l
login_signed l made tree is can parts form same =
    ap (λ o. login (content tree 0 o)) (ap (λ (children : List walk.Child). first (walk.named signature children)) form.children)
    ∙ ap login same ∙ content_said l made is can
