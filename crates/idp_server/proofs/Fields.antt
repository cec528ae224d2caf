-- What follows for the page of a login that was posted.
use Rattle.std.specs.Prelude.{codes, slice_get}
use Rattle.std.specs.Option.{option_map}
use Rattle.std.proofs.Common.{◌≡◌, ℕ, ◌<◌, List, [], ◌∷◌, length, true, Option, None, Some, refl, sym, ap, ◌∙◌}
use Rattle.std.specs.List.{AllByRecursion, list_all}
use Rattle.std.proofs.lemmas.Bool.{and_parts}
use Rattle.owned_values.specs.declared.attributes.Attribute.{Attribute}
use Rattle.assertion_model.specs.Assertion.{IsStatable}
use Rattle.http_wire.specs.Requests.{Request}
use Rattle.http_wire.specs.declared.answer.Answer.TheVariants.{Fixed}
use Rattle.post_binding.specs.Form.{Pair, fields, fields_of, pairs, the_value, values}
use Rattle.ledger_rules.specs.Numbers.{is_xml_text}
use Rattle.peer_keys.specs.Peers.{place_of}
use Rattle.user_store.specs.Store.{checked}
use Rattle.idp_rows.specs.declared.row.PendingRow.{PendingRow}
use Rattle.idp_rows.specs.Finding.{pending_found}
use Rattle.idp_ledger.specs.Ledger.{Held}
use Rattle.idp_ledger.specs.Record.{AreRecords}
use Rattle.idp_rows.specs.RowsOf.{rows_of}
use Rattle.idp_ledger.proofs.RowTexts.{found_pending, pendings_allowed, row_there}
use Rattle.idp_rules.specs.Config.{IsTextAttribute}
use Rattle.idp_rules.specs.declared.config.IdpConfig.{IdpConfig}
use Rattle.idp_server.specs.declared.route.Service.TheVariants as routes
use Rattle.service_routes.specs.declared.route.Route.TheVariants.{To}
use Rattle.idp_server.specs.Routes.{route}
use Rattle.idp_server.specs.Step.{Answers, ByNoPending, ByPassword, Typed, typed, typed_in}
use Rattle.idp_server.proofs.Issues.{followed}

-- an option that is mapped
mapped : {A B : Type 0} (f : A → B) (o : Option A) (b : B) → option_map f o ≡ Some b → (a : A) × (o ≡ Some a)
    × (f a ≡ b)
mapped f None b is = absurd (cc)
mapped f (Some a) b is = (a, refl, (let same : f a ≡ b = cc in same))

-- the values of three names are three
one_more : (given : List Pair) (name : List ℕ) (names found : List (List ℕ))
    → fields_of given (name ∷ names) ≡ Some found
    → (value : List ℕ) × (rest : List (List ℕ)) × (fields_of given names ≡ Some rest) × (found ≡ value ∷ rest)
one_more given name names found is =
    let value =
    followed (λ value. option_map (λ rest. value ∷ rest) (fields_of given names)) (the_value (values name given)) found
    is in
    let rest = mapped (λ rest. value.0 ∷ rest) (fields_of given names) found value.2 in
    (value.0, rest.0, rest.1, sym rest.2)

-- the fields of the page, in order
pub record AreFields (body : List ℕ) (found : List (List ℕ)) : Type 0 where
  pub t : Typed
  pub posted : typed body ≡ Some t
  pub are : found ≡ t.pending ∷ t.user ∷ t.password ∷ []

pub are_fields : (body : List ℕ) (found : List (List ℕ))
    → fields body (codes "pending" ∷ codes "user" ∷ codes "password" ∷ []) ≡ Some found → AreFields body found
are_fields body found is =
    let one = one_more (pairs body) (codes "pending") (codes "user" ∷ codes "password" ∷ []) found is in
    let two = one_more (pairs body) (codes "user") (codes "password" ∷ []) one.1 one.2 in
    let three = one_more (pairs body) (codes "password") [] two.1 two.2 in
    let none : three.1 ≡ [] = (let e : Some [] ≡ Some three.1 = three.2 in cc) in
    let are : found ≡ one.0 ∷ two.0 ∷ three.0 ∷ [] =
    one.3 ∙ ap (λ (xs : List (List ℕ)). one.0 ∷ xs) (two.3
    ∙ ap (λ (xs : List (List ℕ)). two.0 ∷ xs) (three.3 ∙ ap (λ (xs : List (List ℕ)). three.0 ∷ xs) none)) in
    record {
      t = record { pending = one.0; user = two.0; password = three.0 };
      posted = ap typed_in (is ∙ ap Some are);
      are = are;
    }

-- one of them
pub field_at : (found more : List (List ℕ)) (place : ℕ) (one other : List ℕ) → found ≡ more
    → slice_get more place ≡ Some other → slice_get found place ≡ Some one → one ≡ other
field_at found more place one other same is there =
    let both : Some one ≡ Some other = sym there ∙ ap (λ (xs : List (List ℕ)). slice_get xs place) same ∙ is in cc

-- ---- why there is no login

none_else : {X : Type 0} (o : Option X) (x y : X) → o ≡ Some x → o ≡ Some y → x ≡ y
none_else o x y a b = let both : Some x ≡ Some y = sym a ∙ b in cc

pub no_pending : (setup : IdpConfig) (held : Held) (request : Request) (now : ℕ) (t : Typed)
    → route request ≡ To routes.Login → typed request.body ≡ Some t
    → pending_found (rows_of held.records).pendings t.pending now held.header.horizon ≡ None
    → Answers setup held request now (Fixed 45) None
no_pending setup held request now t to posted none =
    ByNoPending t to posted (λ row peer is. let clash : Some row ≡ None = sym is.0 ∙ none in cc) refl refl

pub no_peer : (setup : IdpConfig) (held : Held) (request : Request) (now : ℕ) (t : Typed) (row : PendingRow)
    → route request ≡ To routes.Login → typed request.body ≡ Some t
    → pending_found (rows_of held.records).pendings t.pending now held.header.horizon ≡ Some row
    → place_of row.peer setup.peers ≡ None → Answers setup held request now (Fixed 45) None
no_peer setup held request now t row to posted found none =
    ByNoPending t to posted
    (λ other peer is.
    let same =
    none_else (pending_found (rows_of held.records).pendings t.pending now held.header.horizon) other row is.0 found in
    let clash : Some is.1.0 ≡ None =
    sym is.1.1 ∙ ap (λ (r : PendingRow). place_of r.peer setup.peers) same ∙ none in cc) refl refl

pub no_user : (setup : IdpConfig) (held : Held) (request : Request) (now : ℕ) (t : Typed) (row : PendingRow) (place : ℕ)
    → route request ≡ To routes.Login → typed request.body ≡ Some t
    → pending_found (rows_of held.records).pendings t.pending now held.header.horizon ≡ Some row
    → place_of row.peer setup.peers ≡ Some place → place < length setup.peers
    → checked setup.users t.user t.password ≡ None → Answers setup held request now (Fixed 46) None
no_user setup held request now t row place to posted found known inside none =
    let peer = row_there setup.peers place inside in
    ByPassword t row peer.0 to posted (found, (place, known, peer.1)) none refl refl

-- ---- its texts

-- the texts of a pending login that is found
pub record HasXml (row : PendingRow) : Type 0 where
  pub request : is_xml_text row.request ≡ true
  pub peer : is_xml_text row.peer ≡ true
  pub consumer : is_xml_text row.consumer ≡ true

pub pending_xml : (held : Held) (id : List ℕ) (now : ℕ) (row : PendingRow) → AreRecords held.records
    → pending_found (rows_of held.records).pendings id now held.header.horizon ≡ Some row → HasXml row
pending_xml held id now row are is =
    let found =
    found_pending (rows_of held.records).pendings id now held.header.horizon row is
    (pendings_allowed held.records are) in
    let one =
    and_parts (is_xml_text row.pending) (list_all is_xml_text (row.request ∷ row.peer ∷ row.consumer ∷ []))
    found.texts_are in
    let two = and_parts (is_xml_text row.request) (list_all is_xml_text (row.peer ∷ row.consumer ∷ [])) one.1 in
    let three = and_parts (is_xml_text row.peer) (list_all is_xml_text (row.consumer ∷ [])) two.1 in
    record { request = two.0; peer = three.0; consumer = (and_parts (is_xml_text row.consumer) true three.1).0 }

-- attributes of a user can be stated
pub all_statable : (attributes : List Attribute) → AllByRecursion IsTextAttribute attributes
    → AllByRecursion IsStatable attributes
all_statable [] all = tt
all_statable (a ∷ attributes) all = (record { name = all.0.name; values = all.0.values }, all_statable attributes all.1)
