-- The session of a request's cookie, and what asks for a login.
use Rattle.std.specs.Prelude.{IfSome, Option, slice_get}
use Rattle.std.proofs.Common.{◌≡◌, ℕ, zero, suc, Bool, false, cond, List, [], ◌∷◌, None, Some, sym, subst, ap}
use Rattle.std.specs.List.{AllByRecursion}
use Rattle.xml_spec.specs.Characters.{IsText}
use Rattle.http_wire.specs.Requests.{Request}
use Rattle.peer_keys.specs.declared.peers.LogoutPeer.{LogoutPeer}
use Rattle.user_store.specs.Store.{checked}
use Rattle.user_store.specs.declared.user.User.{User}
use Rattle.idp_ledger.specs.declared.ask.Ask.{Ask}
use Rattle.idp_rows.specs.declared.row.SessionRow.{SessionRow}
use Rattle.idp_rows.specs.Finding.{session_found}
use Rattle.idp_ledger.specs.Ledger.{Held}
use Rattle.idp_ledger.specs.Record.{AreRecords}
use Rattle.idp_rows.specs.RowsOf.{rows_of}
use Rattle.idp_ledger.proofs.RowTexts.{SessionTexts, found_session, session_texts, sessions_allowed}
use Rattle.idp_rules.specs.Asking.{IsAsked}
use Rattle.idp_rules.specs.Config.{IsTextPeer, IsTextUser, sign_on}
use Rattle.idp_rules.specs.declared.asked.Asked.{Asked}
use Rattle.idp_rules.specs.declared.config.IdpConfig.{IdpConfig}
use Rattle.idp_server.specs.Replies.{AreTold, AsksWith, IsTextAsk, IsTextSession, Leaves}
use Rattle.idp_server.specs.Rounds.{asks_others}
use Rattle.service_routes.specs.declared.route.Route.TheVariants.{To}
use Rattle.idp_server.specs.declared.route.Service.TheVariants.{Logout, SignOn}
use Rattle.idp_server.specs.Routes.{route}
use Rattle.idp_server.specs.Step.{ask_of, session_for}
use Rattle.provider_node.proofs.Sessions.{found_at, found_itself}
use Rattle.idp_server.proofs.Issues.{used_is}
use Rattle.idp_server.proofs.StayingEnded.{begun_sessions}

-- a session that is used: it is found by its cookie, and its texts may stand in a document
pub record IsUsed (held : Held) (now : ℕ) (row : SessionRow) : Type 0 where
  pub texts : SessionTexts row
  pub found : session_found (rows_of held.records).sessions row.cookie now held.header.horizon ≡ Some row

pub used_session : (held : Held) (force : Bool) (request : Request) (now : ℕ) (row : SessionRow)
    → AreRecords held.records → Some row ≡ cond force None (session_for held now request)
    → IsUsed held now row
used_session held force request now row are is =
    let live = used_is force (session_for held now request) row (sym is) in
    let rows = (rows_of held.records).sessions in
    let found = found_itself begun_sessions rows now held.header.horizon _ row live in
    let own =
    found_session rows row.cookie now held.header.horizon row found.again (sessions_allowed held.records are) in
    record { texts = session_texts row own.texts_are; found = found.again }

-- of an element what holds of all
pub all_at : {X : Type 0} (P : X → Type 0) (xs : List X) (place : ℕ) (x : X) → AllByRecursion P xs
    → slice_get xs place ≡ Some x → P x
all_at {X} P [] place x all is = absurd (cc)
all_at {X} P (y ∷ xs) zero x all is = let same : y ≡ x = cc in subst P same all.0
all_at {X} P (y ∷ xs) (suc place) x all is = all_at P xs place x all.1 is

-- of an option what holds where it has something
pub some_text : (o : Option (List ℕ)) → IfSome o IsText → (text : List ℕ) → o ≡ Some text → IsText text
some_text None texts text is = absurd (cc)
some_text (Some other) texts text is = let same : other ≡ text = cc in subst IsText same texts

-- the texts of what is asked for
abbrev pub AreTextsOfRequests : Type 0
AreTextsOfRequests =
    (peers : List LogoutPeer) (address body : List ℕ) (asked : Asked) → AllByRecursion IsTextPeer peers
    → IsAsked peers address body asked → IsText asked.request × IsText asked.consumer

pub asks_for : (setup : IdpConfig) (request : Request) (ask : Ask) (asked : Asked) → AreTextsOfRequests
    → AllByRecursion IsTextPeer setup.peers → route request ≡ To SignOn
    → IsAsked setup.peers (sign_on setup) request.body asked
    → ((peer : LogoutPeer) → slice_get setup.peers asked.peer ≡ Some peer → ask ≡ ask_of asked peer)
    → (peer : LogoutPeer) × AsksWith setup request ask asked peer
asks_for setup request ask asked texts all to is says =
    let place : is.place ≡ asked.peer = sym (ap (λ (a : Asked). a.peer) is.is) in
    let known : slice_get setup.peers asked.peer ≡ Some is.peer =
    subst (λ (p : ℕ). slice_get setup.peers p ≡ Some is.peer) place is.asks.peer_is in
    let said = says is.peer known in
    let both = texts setup.peers (sign_on setup) request.body asked all is in
    let peer = all_at IsTextPeer setup.peers asked.peer is.peer all known in (
      is.peer,
      record {
        is = record { to = to; is = is; known = known };
        says = said;
        texts = subst IsTextAsk (sym said) (record { request = both.0; peer = peer.entity; consumer = both.1 });
      },
    )

-- a user leaves the session of a cookie
pub leaves : (setup : IdpConfig) (held : Held) (request : Request) (now : ℕ) (row : SessionRow)
    (cookie user index : List ℕ) → AllByRecursion IsTextPeer setup.peers → AreRecords held.records
    → route request ≡ To Logout → Some row ≡ session_for held now request → cookie ≡ row.cookie → user ≡ row.user
    → index ≡ row.index → IsTextSession row → AreTold now row.until
    → asks_others setup held None (cookie ∷ []) ≡ false → Leaves setup held request now cookie user index
leaves setup held request now row cookie user index peers are to live cookie_is user_is index_is texts told alone =
    let used = used_session held false request now row are live in
    record {
      to = to;
      row = row;
      live = sym live;
      found =
          subst (λ (c : List ℕ). session_found (rows_of held.records).sessions c now held.header.horizon ≡ Some row)
          (sym cookie_is) used.found;
      cookie_is = cookie_is;
      alone = alone;
      user_is = user_is;
      index_is = index_is;
      user_text = subst IsText (sym user_is) texts.user;
      index_text = subst IsText (sym index_is) texts.index;
      peers = peers;
      told = told;
    }

-- the texts of a user that is found
pub user_texts : (users : List User) (name password : List ℕ) (user : User) → AllByRecursion IsTextUser users
    → checked users name password ≡ Some user → IsTextUser user
user_texts users name password user all is = let found =
    found_at _ users user is in all_at IsTextUser users found.0 user all found.1
