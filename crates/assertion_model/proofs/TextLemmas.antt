-- The login of an element of a tree that can be written holds texts.
use Rattle.std.proofs.Common.{◌≡◌, ℕ, Bool, true, false, cond, not, List, [], ◌∷◌, map, codes, Option, None, Some, IsTrue, refl, sym, subst}
use Rattle.std.specs.Prelude.{⊤, IfSome}
use Rattle.std.specs.List.{AllByRecursion}
use Rattle.std.specs.Option.{option_map, option_and_then}
use Rattle.xml_spec.specs.Bytes.{is_empty}
use Rattle.xml_spec.specs.Characters.{IsText}
use Rattle.xml_spec.specs.Tree.{Attribute, Nodes, NoNodes, Element, Text, Comment, Instruction}
use Rattle.xml_spec.specs.Numbering.{from_node}
use Rattle.xml_spec.specs.Names.{Scope, outermost, is_declaration, inner_scope, ExpandedName, attribute_name, proper_attributes}
use Rattle.xml_spec.specs.Canonical.{alone, scope_at, expanded_order}
use Rattle.xml_spec.specs.Content.{ContentAttribute, Contents, NoContents, ElementContent, TextContent, InstructionContent, with_text_content, content_attributes, content_nodes}
use Rattle.canon_laws.specs.Trees.{begins_with_element}
use Rattle.canon_laws.specs.Writable.{IsWritableAttribute, IsWritable}
use Rattle.canon_laws.proofs.Kept.{IsElement, kept_is_element}
use Rattle.canon_laws.proofs.Scopes.{all_sorted, all_filtered}
use Rattle.canon_laws.proofs.Texts.{empty_text, text_append}
use Rattle.saml_names.specs.Names.{saml}
use Rattle.saml_names.specs.Uris.{bearer}
use Rattle.tree_read.specs.Children.{is_name}
use Rattle.tree_read.specs.Texts.{trimmed}
use Rattle.assertion_model.specs.declared.login.Login.{Login}
use Rattle.assertion_model.specs.declared.parts.Head.{Head}
use Rattle.assertion_model.specs.declared.parts.Confirmed.{Confirmed}
use Rattle.assertion_model.specs.declared.parts.Valid.{Valid}
use Rattle.assertion_model.specs.declared.parts.Session.{Session}
use Rattle.assertion_model.specs.Assertion.{IsStatable}
use Rattle.assertion_model.specs.Contents.{Part, named, text, value, only, at_most_one, first, each}
use Rattle.assertion_model.specs.Instants.{moment_if_any}
use Rattle.assertion_model.specs.Login as said
use Rattle.assertion_model.specs.Login.{where_holds, children, has_value, some_text}
use Rattle.assertion_model.specs.LoginTexts.{HoldsTexts}
use Rattle.assertion_model.specs.Parts.{part_in, part_at, login_at}
use Rattle.assertion_model.proofs.PlaceLemmas.{of_all}
use Rattle.assertion_model.proofs.SaidLemmas.{login_with}
use Rattle.assertion_model.proofs.SkipLemmas.{login_said}
use Rattle.assertion_model.proofs.TrimLemmas.{trimmed_text}

-- THE CONTENT

abbrev HasText : ContentAttribute → Type 0
HasText a = IsText a.value

-- the texts and the values of attributes are texts, at every depth
abbrev AreTexts : Contents → Type 0
AreTexts NoContents = ⊤
AreTexts (ElementContent name attributes kids rest) = AllByRecursion HasText attributes × AreTexts kids × AreTexts rest
AreTexts (TextContent bytes rest) = IsText bytes × AreTexts rest
AreTexts (InstructionContent target value rest) = AreTexts rest

-- so are those of an element
abbrev IsOfTexts : Part → Type 0
IsOfTexts part = AllByRecursion HasText part.attributes × AreTexts part.kids

-- what holds of all holds of what each is turned into
mapped : {X Y : Type 0} (P : X → Type 0) (Q : Y → Type 0) (f : X → Y) → ((x : X) → P x → Q (f x)) → (xs : List X) → AllByRecursion P xs →
    AllByRecursion Q (map f xs)
mapped P Q f g [] h = tt
mapped P Q f g (x ∷ xs) h = (g x h.0, mapped P Q f g xs h.1)

attributes_are : (scope : Scope) (attributes : List Attribute) → AllByRecursion IsWritableAttribute attributes →
    AllByRecursion HasText (content_attributes scope attributes)
attributes_are scope attributes w =
    let shown : Attribute → ContentAttribute = λ a. record { name = attribute_name scope a.name; value = a.value } in
    all_sorted HasText (λ a b. expanded_order a.name b.name) (map shown (proper_attributes attributes))
    (mapped IsWritableAttribute HasText shown (λ a is. is.value) (proper_attributes attributes)
    (all_filtered IsWritableAttribute (λ a. not (is_declaration a)) attributes w))

text_in_front : (bytes : List ℕ) (contents : Contents) → IsText bytes → AreTexts contents → AreTexts (with_text_content bytes contents)
text_in_front bytes NoContents t h = (t, h)
text_in_front bytes (ElementContent name attributes kids rest) t h = (t, h)
text_in_front bytes (TextContent more rest) t h = (text_append bytes more t h.0, h.1)
text_in_front bytes (InstructionContent target value rest) t h = (t, h)

content_is : (scope : Scope) (nodes : Nodes) → IsWritable nodes → AreTexts (content_nodes scope nodes)
content_is scope NoNodes w = tt
content_is scope (Element name attributes kids rest) w =
    (attributes_are (inner_scope attributes scope) attributes w.1, content_is (inner_scope attributes scope) kids w.2, content_is scope rest w.3)
content_is scope (Text bytes rest) w = text_in_front bytes (content_nodes scope rest) w.0 (content_is scope rest w.1)
content_is scope (Comment bytes rest) w = content_is scope rest w
content_is scope (Instruction target value rest) w = content_is scope rest w.1

-- an element of a tree that can be written
part_is : (scope : Scope) (nodes : Nodes) → (IsTrue (begins_with_element nodes) → IsElement (alone nodes)) → IsOfTexts (part_in scope nodes)
part_is scope NoNodes h = (tt, tt)
part_is scope (Element name attributes kids rest) h =
    let here = h refl in
    let w = subst IsWritable (sym here.is) here.writable in
    (attributes_are (inner_scope attributes scope) attributes w.1, content_is (inner_scope attributes scope) kids w.2)
part_is scope (Text bytes rest) h = (tt, tt)
part_is scope (Comment bytes rest) h = (tt, tt)
part_is scope (Instruction target value rest) h = (tt, tt)

-- WHAT IS READ OF IT

named_are : (wanted : ExpandedName) (contents : Contents) → AreTexts contents → AllByRecursion IsOfTexts (named wanted contents)
named_are wanted NoContents h = tt
named_are wanted (ElementContent name attributes kids rest) h = which (is_name wanted name) (named_are wanted rest h.2)
  where
    which : (b : Bool) → AllByRecursion IsOfTexts (named wanted rest) →
        AllByRecursion IsOfTexts (cond b (record { attributes = attributes; kids = kids } ∷ named wanted rest) (named wanted rest))
    which true others = ((h.0, h.1), others)
    which false others = others
named_are wanted (TextContent bytes rest) h = named_are wanted rest h.1
named_are wanted (InstructionContent target value rest) h = named_are wanted rest h

children_are : (local : List ℕ) (contents : Contents) → AreTexts contents → AllByRecursion IsOfTexts (children local contents)
children_are local contents h = named_are (saml local) contents h

text_is : (contents : Contents) → AreTexts contents → IsText (text contents)
text_is NoContents h = empty_text
text_is (ElementContent name attributes kids rest) h = text_append (text kids) (text rest) (text_is kids h.1) (text_is rest h.2)
text_is (TextContent bytes rest) h = text_append bytes (text rest) h.0 (text_is rest h.1)
text_is (InstructionContent target value rest) h = text_is rest h

value_is : (local : List ℕ) (attributes : List ContentAttribute) → AllByRecursion HasText attributes → IfSome (value local attributes) IsText
value_is local [] h = tt
value_is local (a ∷ attributes) h =
    which (is_name (record { namespace = []; local = local }) a.name) (value_is local attributes h.1)
  where
    which : (b : Bool) → IfSome (value local attributes) IsText → IfSome (cond b (Some a.value) (value local attributes)) IsText
    which true later = h.0
    which false later = later

-- WHERE THERE IS SOMETHING

where_some : {X : Type 0} (P : X → Type 0) (b : Bool) (o : Option X) → IfSome o P → IfSome (where_holds b o) P
where_some P true o h = h
where_some P false o h = tt

then_some : {X Y : Type 0} (P : X → Type 0) (Q : Y → Type 0) (f : X → Option Y) (o : Option X) → IfSome o P → ((x : X) → P x → IfSome (f x) Q) →
    IfSome (option_and_then f o) Q
then_some P Q f None h g = tt
then_some P Q f (Some x) h g = g x h

map_some : {X Y : Type 0} (P : X → Type 0) (Q : Y → Type 0) (f : X → Y) (o : Option X) → IfSome o P → ((x : X) → P x → Q (f x)) →
    IfSome (option_map f o) Q
map_some P Q f None h g = tt
map_some P Q f (Some x) h g = g x h

-- whatever it is
then_any : {X Y : Type 0} (Q : Y → Type 0) (f : X → Option Y) (o : Option X) → ((x : X) → IfSome (f x) Q) → IfSome (option_and_then f o) Q
then_any Q f None g = tt
then_any Q f (Some x) g = g x

map_any : {X Y : Type 0} (Q : Y → Type 0) (f : X → Y) (o : Option X) → ((x : X) → Q (f x)) → IfSome (option_map f o) Q
map_any Q f None g = tt
map_any Q f (Some x) g = g x

only_some : {X : Type 0} (P : X → Type 0) (xs : List X) → AllByRecursion P xs → IfSome (only xs) P
only_some P [] h = tt
only_some P (x ∷ []) h = h.0
only_some P (x ∷ y ∷ xs) h = tt

first_some : {X : Type 0} (P : X → Type 0) (xs : List X) → AllByRecursion P xs → IfSome (first xs) P
first_some P [] h = tt
first_some P (x ∷ xs) h = h.0

one_if_any : {X : Type 0} (P : X → Type 0) (xs : List X) → AllByRecursion P xs → IfSome (at_most_one xs) (λ o. IfSome o P)
one_if_any P [] h = tt
one_if_any P (x ∷ []) h = h.0
one_if_any P (x ∷ y ∷ xs) h = tt

each_some : {X Y : Type 0} (P : X → Type 0) (Q : Y → Type 0) (f : X → Option Y) → ((x : X) → P x → IfSome (f x) Q) → (xs : List X) →
    AllByRecursion P xs → IfSome (each f xs) (AllByRecursion Q)
each_some P Q f g [] h = tt
each_some P Q f g (x ∷ xs) h =
    then_some Q (AllByRecursion Q) (λ y. option_map (λ ys. y ∷ ys) (each f xs)) (f x) (g x h.0)
    (λ y is. map_some (AllByRecursion Q) (AllByRecursion Q) (λ ys. y ∷ ys) (each f xs) (each_some P Q f g xs h.1) (λ ys are. (is, are)))

-- THE LOGIN

-- what is read of the parts of an assertion holds texts
abbrev HeadHolds : Head → Type 0
HeadHolds h = IsText h.id

abbrev ConfirmedHolds : Confirmed → Type 0
ConfirmedHolds c = IsText c.recipient × IsText c.request

abbrev ValidHolds : Valid → Type 0
ValidHolds v = AllByRecursion (AllByRecursion IsText) v.audiences

abbrev SessionHolds : Session → Type 0
SessionHolds s = IfSome s.index IsText

some_text_is : (local : List ℕ) (part : Part) → IsOfTexts part → IfSome (option_and_then some_text (value local part.attributes)) IsText
some_text_is local part h =
    then_some IsText IsText some_text (value local part.attributes) (value_is local part.attributes h.0)
    (λ bytes is. where_some IsText (not (is_empty bytes)) (Some bytes) is)

head_is : (part : Part) → IsOfTexts part → IfSome (said.head part) HeadHolds
head_is part h =
    where_some HeadHolds _ _
    (then_some IsText HeadHolds _ _ (some_text_is (codes "ID") part h) (λ id is. map_any HeadHolds _ _ (λ issued. is)))

confirmed_are : (part : Part) → IsOfTexts part → IfSome (said.confirmed part) ConfirmedHolds
confirmed_are part h =
    where_some ConfirmedHolds _ _
    (then_some IsText ConfirmedHolds _ _ (value_is (codes "Recipient") part.attributes h.0) (λ recipient one.
    then_some IsText ConfirmedHolds _ _ (some_text_is (codes "InResponseTo") part h) (λ request other. map_any ConfirmedHolds _ _ (λ until. (one, other)))))

confirmation_is : (kids : Contents) → AreTexts kids → IfSome (said.confirmation kids) ConfirmedHolds
confirmation_is kids h =
    then_some IsOfTexts ConfirmedHolds _ _
    (first_some IsOfTexts _ (all_filtered IsOfTexts (has_value (codes "Method") bearer) _ (children_are (codes "SubjectConfirmation") kids h)))
    (λ consumed of. then_some IsOfTexts ConfirmedHolds said.confirmed _
    (only_some IsOfTexts _ (children_are (codes "SubjectConfirmationData") consumed.kids of.1)) confirmed_are)

user_name_is : (kids : Contents) → AreTexts kids → IfSome (said.user_name kids) IsText
user_name_is kids h =
    where_some IsText _ _
    (map_some IsOfTexts IsText (λ (name : Part). text name.kids) _ (only_some IsOfTexts _ (children_are (codes "NameID") kids h)) (λ name of. text_is name.kids of.1))

audiences_are : (restriction : Part) → IsOfTexts restriction → IfSome (said.audiences restriction) (AllByRecursion IsText)
audiences_are restriction h =
    let found : List Part = children (codes "Audience") restriction.kids in
    let cut : Part → List ℕ = λ audience. trimmed (text audience.kids) in
    where_some (AllByRecursion IsText) _ (Some (map cut found))
    (mapped IsOfTexts IsText cut (λ audience of. trimmed_text (text audience.kids) (text_is audience.kids of.1)) found
    (children_are (codes "Audience") restriction.kids h.1))

valid_is : (conditions : Part) → IsOfTexts conditions → IfSome (said.valid conditions) ValidHolds
valid_is conditions h =
    where_some ValidHolds _ _
    (then_any ValidHolds _ (moment_if_any (value (codes "NotBefore") conditions.attributes)) (λ not_before.
    then_any ValidHolds _ (moment_if_any (value (codes "NotOnOrAfter") conditions.attributes)) (λ not_on_or_after.
    map_some (AllByRecursion (AllByRecursion IsText)) ValidHolds
    (λ audiences. record { not_before = not_before; not_on_or_after = not_on_or_after; audiences = audiences }) _
    (each_some IsOfTexts (AllByRecursion IsText) said.audiences audiences_are _ (children_are (codes "AudienceRestriction") conditions.kids h.1))
    (λ audiences are. are))))

valid_if_any_is : (o : Option Part) → IfSome o IsOfTexts → IfSome (said.valid_if_any o) ValidHolds
valid_if_any_is None h = tt
valid_if_any_is (Some conditions) h = valid_is conditions h

session_is : (statement : Part) → IsOfTexts statement → IfSome (said.session statement) SessionHolds
session_is statement h = map_any SessionHolds _ _ (λ until. value_is (codes "SessionIndex") statement.attributes h.0)

authentication_is : (statements : List Part) → AllByRecursion IsOfTexts statements → IfSome (said.authentication statements) SessionHolds
authentication_is statements h =
    then_any SessionHolds _ _ (λ moments. then_some IsOfTexts SessionHolds said.session _ (first_some IsOfTexts statements h) session_is)

attribute_is : (part : Part) → IsOfTexts part → IfSome (said.attribute part) IsStatable
attribute_is part h =
    map_some IsText IsStatable _ _ (value_is (codes "Name") part.attributes h.0) (λ name is. record {
      name = is;
      values =
          mapped IsOfTexts IsText (λ (v : Part). text v.kids) (λ v of. text_is v.kids of.1) (children (codes "AttributeValue") part.kids)
          (children_are (codes "AttributeValue") part.kids h.1);
    })

stated_are : (kids : Contents) → AreTexts kids → IfSome (said.attributes kids) (AllByRecursion IsStatable)
stated_are kids h =
    each_some IsOfTexts IsStatable said.attribute attribute_is _
    (of_all IsOfTexts IsOfTexts (λ (statement : Part). children (codes "Attribute") statement.kids)
    (λ statement of. children_are (codes "Attribute") statement.kids of.1) _ (children_are (codes "AttributeStatement") kids h))

login_is : (assertion : Part) → IsOfTexts assertion → IfSome (said.login_of assertion) HoldsTexts
login_is assertion h =
    then_some HeadHolds HoldsTexts _ _ (head_is assertion h) (λ head id.
    then_some IsOfTexts HoldsTexts _ _ (only_some IsOfTexts _ (children_are (codes "Issuer") assertion.kids h.1)) (λ issuer made.
    then_some IsOfTexts HoldsTexts _ _ (only_some IsOfTexts _ (children_are (codes "Subject") assertion.kids h.1)) (λ subject about.
    then_some IsText HoldsTexts _ _ (user_name_is subject.kids about.1) (λ name called.
    then_some ConfirmedHolds HoldsTexts _ _ (confirmation_is subject.kids about.1) (λ c confirmed.
    then_some ValidHolds HoldsTexts _ _
    (then_some (λ o. IfSome o IsOfTexts) ValidHolds said.valid_if_any _
    (one_if_any IsOfTexts _ (children_are (codes "Conditions") assertion.kids h.1)) valid_if_any_is) (λ v meant.
    then_some SessionHolds HoldsTexts _ _ (authentication_is _ (children_are (codes "AuthnStatement") assertion.kids h.1)) (λ s within.
    map_some (AllByRecursion IsStatable) HoldsTexts (login_with head issuer name c v s) _ (stated_are assertion.kids h.1) (λ stated are. record {
      id = id;
      issuer = trimmed_text (text issuer.kids) (text_is issuer.kids made.1);
      audiences = meant;
      recipient = confirmed.0;
      request = confirmed.1;
      name = called;
      index = within;
      attributes = are;
    }))))))))

pub login_holds : (tree : Nodes) (e : ℕ) (l : Login) → IsWritable tree → login_at tree e ≡ Some l → HoldsTexts l
login_holds tree e l w is =
    subst (λ o. IfSome o HoldsTexts) (login_said tree e l is)
    (login_is (part_at tree e) (part_is (scope_at outermost tree e) (from_node tree e) (λ begins. kept_is_element tree e None begins tt w)))
