-- Which record names which, and which has a visible row.
use Rattle.std.specs.Prelude.{ℕ, Bool, false, ◌||◌, List, [], ◌∷◌, Option, None, Some}
use Rattle.std.specs.Str.{bytes_eq}
use Rattle.ledger_records.specs.declared.idp_record.IdpRecord.{IdpRecord}
use Rattle.ledger_records.specs.declared.idp_record.IdpRecord.TheVariants as kinds
use Rattle.idp_rows.specs.Finding.{visible}
use Rattle.idp_rows.specs.RowsOf.{is_among}
use Rattle.owned_values.specs.Options.{is_there}

-- whether a row of a record is visible: the pending login, the assertion or the session that began with it, the logout
abbrev pub has_session_visible : (now horizon : ℕ) → Option (List ℕ) → (session_end : ℕ) → Bool
has_session_visible now horizon None session_end = false
has_session_visible now horizon (Some pending) session_end = visible session_end now horizon

abbrev pub has_visible : (now horizon : ℕ) → IdpRecord → Bool
has_visible now horizon (kinds.Pending r) = visible r.until now horizon
has_visible now horizon (kinds.Issued r) = visible r.until now horizon || has_session_visible now horizon r.pending r.session_end
has_visible now horizon (kinds.Left r) = visible r.until now horizon
has_visible now horizon (kinds.Round r) = visible r.until now horizon
has_visible now horizon other = false

-- whether a record has the pending row of an ID, the session of one of these cookies, or the logout of a request
abbrev pub has_pending : List ℕ → IdpRecord → Bool
has_pending pending (kinds.Pending r) = bytes_eq r.pending pending
has_pending pending other = false

abbrev pub has_cookie : List (List ℕ) → Option (List ℕ) → List ℕ → Bool
has_cookie cookies None cookie = false
has_cookie cookies (Some pending) cookie = is_among cookie cookies

abbrev pub has_session : List (List ℕ) → IdpRecord → Bool
has_session cookies (kinds.Issued r) = has_cookie cookies r.pending r.cookie
has_session cookies other = false

abbrev pub has_logout : List ℕ → IdpRecord → Bool
has_logout request (kinds.Left r) = bytes_eq r.request request
has_logout request other = false

-- whether a record makes this request of a round: a Round its first one, and a Told the next one
abbrev pub has_request : List ℕ → IdpRecord → Bool
has_request request (kinds.Round r) = bytes_eq r.request request
has_request request (kinds.Told r) = is_there request r.next
has_request request other = false

-- Whether the first record names a row of the second: an Issued the login that was pending or the session that the user
-- had, a Left, an Ended and a Round the sessions that they end, a Confirmed its logout, and a Told the record that made the
-- request that it answers.
abbrev pub issue_names : Option (List ℕ) → List ℕ → IdpRecord → Bool
issue_names None cookie earlier = has_session (cookie ∷ []) earlier
issue_names (Some pending) cookie earlier = has_pending pending earlier

abbrev pub names : IdpRecord → IdpRecord → Bool
names (kinds.Issued r) earlier = issue_names r.pending r.cookie earlier
names (kinds.Ended r) earlier = has_session r.cookies earlier
names (kinds.Left r) earlier = has_session (r.cookie ∷ []) earlier
names (kinds.Confirmed r) earlier = has_logout r.request earlier
names (kinds.Round r) earlier = has_session r.cookies earlier
names (kinds.Told r) earlier = has_request r.request earlier
names other earlier = false
