-- What is read of the Assertion of an issued record.
use Rattle.std.proofs.Common.{◌≡◌, ◌≢◌, ℕ, List, [], ◌∷◌, append-nil, codes, Option, None, Some, refl, sym, ap, ◌∙◌}
use Rattle.std.specs.List.{flat_map}
use Rattle.std.specs.Option.{option_map, option_and_then}
use Rattle.xml_spec.specs.Content.{ContentAttribute, Contents, NoContents, content}
use Rattle.saml_names.specs.Uris.{bearer, password}
use Rattle.tree_read.specs.Texts.{trimmed}
use Rattle.saml_time.specs.Instant.{TellsInFull}
use Rattle.owned_values.specs.declared.attributes.Attribute.{Attribute}
use Rattle.element_make.specs.declared.names.Ns.TheVariants.{Saml}
use Rattle.element_make.specs.Made.{NothingMade, MadeText, Made, joined, tree_of}
use Rattle.assertion_model.specs.declared.login.Login.{Login}
use Rattle.assertion_model.specs.Contents.{Part, only, at_most_one, each}
use Rattle.assertion_model.specs.Login.{children, some_text, user_name, confirmation, valid, valid_if_any, authentication, attribute, head, login}
use Rattle.assertion_model.specs.Moments.{IsWritten}
use Rattle.assertion_model.specs.Assertion as make
use Rattle.assertion_model.specs.Assertion.{assertion, joined_all, stated, statements, IsAssertionOf, CanBeRead}
use Rattle.assertion_model.proofs.SaidLemmas.{login_with}
use Rattle.assertion_model.proofs.MadeParts.{content_of, text_said, stated_said, moment_said, moment_if_said}
use Rattle.ledger_records.specs.declared.idp_record.Issued.{Issued}
use Rattle.idp_server.specs.Logins.{login_of}
use Rattle.recorded_logins.specs.Logins.{read_of}

-- ---- its moments

-- an Assertion of an issued record, with these texts of its moments
abbrev pub assertion_of : (issuer : List ℕ) → Issued → (issued until from end last : List ℕ) → Made
assertion_of issuer r issued until from end last =
    assertion (login_of issuer r)
    (record {
      issued = issued;
      confirm_until = until;
      not_before = Some from;
      not_on_or_after = Some end;
      session_until = Some last;
    })

-- the moments of an issued record are all written
pub record IsWrittenOf (issuer : List ℕ) (r : Issued) (made : Made) : Type 0 where
  pub issued : List ℕ
  pub until : List ℕ
  pub from : List ℕ
  pub end : List ℕ
  pub last : List ℕ
  pub is : made ≡ assertion_of issuer r issued until from end last
  pub issued_tells : TellsInFull issued r.moment
  pub until_tells : TellsInFull until r.until
  pub from_tells : TellsInFull from r.moment
  pub end_tells : TellsInFull end r.until
  pub last_tells : TellsInFull last r.session_end

record IsTold (ms : ℕ) (o : Option (List ℕ)) : Type 0 where
  text : List ℕ
  is : o ≡ Some text
  tells : TellsInFull text ms

told : (ms : ℕ) (o : Option (List ℕ)) → IsWritten (Some ms) o → IsTold ms o
told ms None written = absurd written
told ms (Some text) written = record { text = text; is = refl; tells = written }

pub all_told : (issuer : List ℕ) (r : Issued) (made : Made) → IsAssertionOf (login_of issuer r) made →
    IsWrittenOf issuer r made
all_told issuer r made of =
    let m = of.moments in
    let from = told r.moment m.not_before of.written.not_before in
    let end = told r.until m.not_on_or_after of.written.not_on_or_after in
    let last = told r.session_end m.session_until of.written.session_until in
    record {
      issued = m.issued;
      until = m.confirm_until;
      from = from.text;
      end = end.text;
      last = last.text;
      is = of.is ∙ (λ i. assertion (login_of issuer r) (record {
        issued = m.issued;
        confirm_until = m.confirm_until;
        not_before = from.is i;
        not_on_or_after = end.is i;
        session_until = last.is i;
      }));
      issued_tells = of.written.issued;
      until_tells = of.written.confirm_until;
      from_tells = from.tells;
      end_tells = end.tells;
      last_tells = last.tells;
    }

-- ---- what its parts say

-- a login is what its parts say, also where there is none
module _ {H I P N C V S A L : Type 0} (name : P → Option N) (confirmed : P → Option C) (ov : Option V) (os : Option S)
    (oa : Option A) (f : H → I → N → C → V → S → A → L) where
  -- what is said behind the subject
  abbrev behind_subject : H → I → P → Option L
  behind_subject h i p =
      option_and_then (λ n. option_and_then (λ c. option_and_then (λ v. option_and_then (λ s.
      option_map (λ a. f h i n c v s a) oa) os) ov) (confirmed p)) (name p)

  together : (hd oh : Option H) (oi : Option I) (op : Option P) (oc : Option C) (i : I) (p : P) (n : N) (v : V) (s : S)
      (a : A) → hd ≡ oh → oi ≡ Some i → op ≡ Some p → name p ≡ Some n → confirmed p ≡ oc → ov ≡ Some v → os ≡ Some s →
      oa ≡ Some a →
      option_and_then (λ h. option_and_then (λ i. option_and_then (λ p. behind_subject h i p) op) oi) hd
      ≡ option_and_then (λ h. option_and_then (λ c. Some (f h i n c v s a)) oc) oh
  together hd oh oi op oc i p n v s a eh ei ep en ec ev es ea =
      (λ j. option_and_then (λ h. option_and_then (λ i. option_and_then (λ p. behind_subject h i p) (ep j)) (ei j))
      (eh j))
      ∙ (λ j. option_and_then (λ h. option_and_then (λ n. option_and_then (λ c. option_and_then (λ v.
      option_and_then (λ s. option_map (λ a. f h i n c v s a) (ea j)) (es j)) (ev j)) (ec j)) (en j)) oh)

-- the IDs are not empty where a login is read
chosen : {H C : Type 0} (id request : List ℕ) (head_of : List ℕ → H) (confirmed_of : List ℕ → C) (f : H → C → Login)
    (l : Login) →
    option_and_then (λ h. option_and_then (λ c. Some (f h c))
    (option_and_then (λ x. Some (confirmed_of x)) (some_text request)))
    (option_and_then (λ x. Some (head_of x)) (some_text id)) ≡ Some l →
    (f (head_of id) (confirmed_of request) ≡ l) × (id ≢ []) × (request ≢ [])
chosen [] request head_of confirmed_of f l e = absurd (let clash : None ≡ Some l = e in cc)
chosen (b ∷ id) [] head_of confirmed_of f l e = absurd (let clash : None ≡ Some l = e in cc)
chosen (b ∷ id) (c ∷ request) head_of confirmed_of f l e = (
  let same : Some (f (head_of (b ∷ id)) (confirmed_of (c ∷ request))) ≡ Some l = e in cc,
  λ none. let clash : b ∷ id ≡ [] = none in cc,
  λ none. let clash : c ∷ request ≡ [] = none in cc,
)

-- the attributes that statements say
abbrev stated_in : Contents → Option (List Attribute)
stated_in rest =
    each attribute
    (flat_map (λ (s : Part). children (codes "Attribute") s.kids) (children (codes "AttributeStatement") rest))

-- behind the authentication there is nothing that is looked for but the attributes
record IsLast (rest : Contents) (attributes : List Attribute) : Type 0 where
  issuers : children (codes "Issuer") rest ≡ []
  subjects : children (codes "Subject") rest ≡ []
  conditions : children (codes "Conditions") rest ≡ []
  statements : children (codes "AuthnStatement") rest ≡ []
  stated : stated_in rest ≡ Some attributes

statements_last : (attributes : List Attribute) → IsLast (content_of [] (statements attributes)) attributes
statements_last [] = record { issuers = refl; subjects = refl; conditions = refl; statements = refl; stated = refl }
statements_last (a ∷ attributes) = record {
  issuers = refl;
  subjects = refl;
  conditions = refl;
  statements = refl;
  stated =
      ap (each attribute)
      (append-nil (children (codes "Attribute") (content_of (Saml ∷ []) (joined_all stated (a ∷ attributes)))))
      ∙ stated_said (Saml ∷ []) (a ∷ attributes);
}

-- ---- the whole

abbrev says : List ℕ → List ℕ → ContentAttribute
says local value = record { name = record { namespace = []; local = local }; value = value }

module _ (issuer : List ℕ) (r : Issued) (issued until from end last : List ℕ)
    (issued_tells : TellsInFull issued r.moment) (until_tells : TellsInFull until r.until)
    (from_tells : TellsInFull from r.moment) (end_tells : TellsInFull end r.until)
    (last_tells : TellsInFull last r.session_end) where
  abbrev rest : Contents
  rest = content_of [] (statements r.attributes)

  abbrev head_part : Part
  head_part = record {
    attributes =
        says (codes "ID") r.assertion ∷ says (codes "IssueInstant") issued ∷ says (codes "Version") (codes "2.0") ∷ [];
    kids = NoContents;
  }

  abbrev issuer_part : Part
  issuer_part = record { attributes = []; kids = content_of (Saml ∷ []) (MadeText issuer NothingMade) }

  abbrev subject_part : Part
  subject_part = record {
    attributes = [];
    kids =
        content_of (Saml ∷ []) (joined (make.holding (codes "NameID") r.user)
        (make.part (codes "SubjectConfirmation") (make.given (codes "Method") bearer ∷ [])
        (make.part (codes "SubjectConfirmationData")
        (make.given (codes "InResponseTo") r.request ∷ make.given (codes "NotOnOrAfter") until
        ∷ make.given (codes "Recipient") r.consumer ∷ []) NothingMade)));
  }

  abbrev conditions_part : Part
  conditions_part = record {
    attributes = says (codes "NotBefore") from ∷ says (codes "NotOnOrAfter") end ∷ [];
    kids = content_of (Saml ∷ []) (joined_all make.restriction ((r.peer ∷ []) ∷ []));
  }

  abbrev statement_part : Part
  statement_part = record {
    attributes =
        says (codes "AuthnInstant") issued ∷ says (codes "SessionIndex") r.index
        ∷ says (codes "SessionNotOnOrAfter") last ∷ [];
    kids =
        content_of (Saml ∷ [])
        (make.part (codes "AuthnContext") [] (make.holding (codes "AuthnContextClassRef") password));
  }

  head_said : head head_part
      ≡ option_and_then (λ id. Some (record { id = id; issued = r.moment })) (some_text r.assertion)
  head_said =
      let told = moment_said issued r.moment issued_tells in
      λ j. option_and_then (λ id. option_map (λ issued. record { id = id; issued = issued }) (told j))
      (some_text r.assertion)

  confirmation_said : confirmation subject_part.kids
      ≡ option_and_then (λ request. Some (record { recipient = r.consumer; request = request; until = r.until }))
      (some_text r.request)
  confirmation_said =
      let told = moment_said until r.until until_tells in
      λ j. option_and_then (λ request. option_map (λ until. record {
        recipient = r.consumer;
        request = request;
        until = until;
      }) (told j)) (some_text r.request)

  valid_said : valid conditions_part ≡ Some (record {
    not_before = Some r.moment;
    not_on_or_after = Some r.until;
    audiences = (trimmed r.peer ∷ []) ∷ [];
  })
  valid_said =
      let begins = moment_if_said (Some r.moment) (Some from) from_tells in
      let ends = moment_if_said (Some r.until) (Some end) end_tells in
      λ j. option_and_then (λ not_before. option_and_then (λ not_on_or_after. Some (record {
        not_before = not_before;
        not_on_or_after = not_on_or_after;
        audiences = (trimmed (text_said (Saml ∷ Saml ∷ []) r.peer j) ∷ []) ∷ [];
      })) (ends j)) (begins j)

  session_said : authentication (statement_part ∷ [])
      ≡ Some (record { index = Some r.index; until = Some r.session_end })
  session_said =
      let instant = moment_said issued r.moment issued_tells in
      let until = moment_if_said (Some r.session_end) (Some last) last_tells in
      λ j. option_and_then (λ (moments : List ℕ). option_map (λ until. record { index = Some r.index; until = until })
      (until j)) (option_and_then (λ ms. Some (ms ∷ [])) (instant j))

  read_so : (l : Login) → login (content (tree_of (assertion_of issuer r issued until from end last)) 0 None) ≡ Some l →
      (l ≡ read_of issuer r) × (r.assertion ≢ []) × (r.request ≢ [])
  read_so l e =
      let others = statements_last r.attributes in
      let said =
      together (λ (subject : Part). user_name subject.kids) (λ (subject : Part). confirmation subject.kids)
      (option_and_then valid_if_any (at_most_one (conditions_part ∷ children (codes "Conditions") rest)))
      (authentication (statement_part ∷ children (codes "AuthnStatement") rest)) (stated_in rest) login_with
      (head head_part) _ (only (issuer_part ∷ children (codes "Issuer") rest))
      (only (subject_part ∷ children (codes "Subject") rest)) _ issuer_part subject_part r.user _ _ r.attributes
      head_said
      (ap (λ (parts : List Part). only (issuer_part ∷ parts)) others.issuers)
      (ap (λ (parts : List Part). only (subject_part ∷ parts)) others.subjects)
      (ap Some (text_said (Saml ∷ Saml ∷ []) r.user))
      confirmation_said
      (ap (λ (parts : List Part). option_and_then valid_if_any (at_most_one (conditions_part ∷ parts)))
      others.conditions ∙ valid_said)
      (ap (λ (parts : List Part). authentication (statement_part ∷ parts)) others.statements ∙ session_said)
      others.stated in
      let found = chosen r.assertion r.request _ _ _ l (sym said ∙ e) in (
        sym found.0 ∙ (λ j. record (read_of issuer r) { issuer = trimmed (text_said (Saml ∷ []) issuer j) }),
        found.1,
        found.2,
      )

-- what is read is what the record says, and its IDs are not empty
pub read_back : (issuer : List ℕ) (r : Issued) (made : Made) (l : Login) → IsAssertionOf (login_of issuer r) made →
    login (content (tree_of made) 0 None) ≡ Some l → (l ≡ read_of issuer r) × (r.assertion ≢ []) × (r.request ≢ [])
read_back issuer r made l of e =
    let t = all_told issuer r made of in
    read_so issuer r t.issued t.until t.from t.end t.last t.issued_tells t.until_tells t.from_tells t.end_tells
    t.last_tells l
    (ap (λ (made : Made). login (content (tree_of made) 0 None)) (sym t.is) ∙ e)

-- ---- where nothing is trimmed

pub read_whole : (issuer : List ℕ) (r : Issued) → CanBeRead (login_of issuer r) → read_of issuer r ≡ login_of issuer r
read_whole issuer r can =
    let lists = can.audiences.0 in
    λ j. record (login_of issuer r) { issuer = can.issuer j; audiences = (lists.each.0 j ∷ []) ∷ [] }
