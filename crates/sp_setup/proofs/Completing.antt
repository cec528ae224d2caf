-- A config that names each file that is needed sets a provider up.
use Rattle.std.proofs.Common.{◌≡◌, ℕ, ◌*◌, ◌<◌, ◌≤◌, Bool, true, ◌||◌, List, length, Option, None, Some, IfSome, IsTrue, is_some, refl, sym, ap, subst, arith}
use Rattle.std.proofs.lemmas.Bool.{and_parts}
use Rattle.saml_outside.specs.Files.{File}
use Rattle.metadata.specs.declared.peer.Peer.{Peer}
use Rattle.provider_config.specs.Config.{Config, AreInOrder, same_role, role_of, has_file, has_files}
use Rattle.provider_config.specs.declared.config.FileRole.{FileRole}
use Rattle.provider_config.specs.declared.config.FileRole.TheVariants as roles
use Rattle.provider_config.specs.declared.config.SpFile.{SpFile}
use Rattle.provider_config.specs.declared.config.SpFile.TheVariants as names
use Rattle.provider_config.specs.declared.config.AskedLine.{AskedLine}
use Rattle.provider_config.specs.declared.config.OpenedLine.{OpenedLine}
use Rattle.provider_config.specs.declared.config.Times.{Times}
use Rattle.provider_config.specs.declared.line.TheConstants.{MILLIS, MOST_SKEW}
use Rattle.request_rows.specs.declared.rows.TheConstants.{ROW_LIMIT}
use Rattle.sp_rules.specs.declared.config.NextKey.{NextKey}
use Rattle.sp_rules.specs.declared.config.SpConfig.{SpConfig}
use Rattle.saml_time.specs.declared.TheConstants.{GREATEST_SKEW}
use Rattle.sp_setup.specs.declared.loaded.Loaded.{Loaded}
use Rattle.sp_setup.specs.declared.setup.SetUp.{SetUp}
use Rattle.sp_setup.specs.Config.{next_of, config_of}
use Rattle.sp_setup.specs.Files.{in_order}
use Rattle.sp_setup.specs.Setup.{nothing, load_file, load}
use Rattle.sp_setup.specs.Views.{IsSetUpBy, IsWithinBounds}
use Rattle.sp_setup.proofs.Loading.{named_is_read}
use Rattle.owned_values.specs.Options.{◌>>=◌}

-- ---- each file that is needed was read

-- what the file of a role holds is there
abbrev is_loaded : FileRole → Loaded → Bool
is_loaded roles.Idp loaded = is_some loaded.idp
is_loaded roles.KeyIn loaded = is_some loaded.key_in
is_loaded roles.NextIn loaded = is_some loaded.next_in
is_loaded roles.KeyOut loaded = is_some loaded.key_out
is_loaded roles.IdKey loaded = is_some loaded.id_key
is_loaded roles.Policy loaded = is_some loaded.policy

-- a file adds what its role says, and takes nothing away
one_more : (told : Option (List File)) (other role : FileRole) (name : List ℕ) (before after : Loaded) → (load_file other name before).gives told after →
    is_loaded role after ≡ (same_role other role || is_loaded role before)
one_more told roles.Idp roles.Idp name before after h = ap (is_loaded roles.Idp) h.2
one_more told roles.Idp role name before after h = ap (is_loaded role) h.2
one_more told roles.KeyIn roles.KeyIn name before after h = ap (is_loaded roles.KeyIn) h.2
one_more told roles.KeyIn role name before after h = ap (is_loaded role) h.2
one_more told roles.NextIn roles.NextIn name before after h = ap (is_loaded roles.NextIn) h.2
one_more told roles.NextIn role name before after h = ap (is_loaded role) h.2
one_more told roles.KeyOut roles.KeyOut name before after h = ap (is_loaded roles.KeyOut) h.2
one_more told roles.KeyOut role name before after h = ap (is_loaded role) h.2
one_more told roles.IdKey roles.IdKey name before after h = ap (is_loaded roles.IdKey) h.2
one_more told roles.IdKey role name before after h = ap (is_loaded role) h.2
one_more told roles.Policy roles.Policy name before after h = ap (is_loaded roles.Policy) h.2
one_more told roles.Policy role name before after h = ap (is_loaded role) h.2

-- a registry adds the identity provider
registry_more : (role : FileRole) (peer : Peer) (until : ℕ) (before after : Loaded) → after ≡ record before { idp = Some peer; expiry = Some until } →
    is_loaded role after ≡ (same_role roles.Idp role || is_loaded role before)
registry_more roles.Idp peer until before after e = ap (is_loaded roles.Idp) e
registry_more role peer until before after e = ap (is_loaded role) e

line_more : (told : Option (List File)) (role : FileRole) (named : SpFile) (before after : Loaded) → (load named before).gives told after →
    is_loaded role after ≡ (same_role (role_of named) role || is_loaded role before)
line_more told role (names.One file) before after h = one_more told file.role role file.name before after h
line_more told role (names.Registry line) before after (bytes, there, (key, key_there, (registry, read, (peer, says, is)))) =
    registry_more role peer registry.valid_until before after is

named_is_loaded : (told : Option (List File)) (role : FileRole) (files : List SpFile) (before after : Loaded) → (in_order load files before).gives told after →
    has_file role files ≡ true → is_loaded role after ≡ true
named_is_loaded told role = named_is_read load told (λ named. same_role (role_of named) role) (is_loaded role) (line_more told role)

-- ---- what is set up

some_of : (idp : Option Peer) (key_in key_out id_key : Option (List ℕ)) (make : Peer → List ℕ → List ℕ → List ℕ → SpConfig) →
    is_some idp ≡ true → is_some key_in ≡ true → is_some key_out ≡ true → is_some id_key ≡ true →
    (idp >>= λ i. key_in >>= λ k. key_out >>= λ o. id_key >>= λ d. Some (make i k o d)) ≡ None → ⊥
some_of (Some i) (Some k) (Some o) (Some d) make has_idp has_in has_out has_id e = cc
some_of None key_in key_out id_key make has_idp has_in has_out has_id e = cc
some_of idp None key_out id_key make has_idp has_in has_out has_id e = cc
some_of idp key_in None id_key make has_idp has_in has_out has_id e = cc
some_of idp key_in key_out None make has_idp has_in has_out has_id e = cc

pub is_set_up : (told : Option (List File)) (lines : Config) (loaded : Loaded) → IsTrue (has_files lines.files) →
    (in_order load lines.files nothing).gives told loaded →
    config_of lines loaded ≡ None → ⊥
is_set_up told lines loaded named all none =
    let three = and_parts _ _ named in
    let two = and_parts _ _ three.0 in
    let one = and_parts _ _ two.0 in
    some_of loaded.idp loaded.key_in loaded.key_out loaded.id_key _
    (named_is_loaded told roles.Idp lines.files nothing loaded all one.0)
    (named_is_loaded told roles.KeyIn lines.files nothing loaded all one.1)
    (named_is_loaded told roles.KeyOut lines.files nothing loaded all two.1)
    (named_is_loaded told roles.IdKey lines.files nothing loaded all three.1)
    none

-- what holds of each config that the lines make holds of the one that is set up
made_of : (P : SpConfig → Type 0) (idp : Option Peer) (key_in key_out id_key : Option (List ℕ)) (make : Peer → List ℕ → List ℕ → List ℕ → SpConfig) (config : SpConfig) →
    ((i : Peer) (k o d : List ℕ) → P (make i k o d)) →
    (idp >>= λ i. key_in >>= λ k. key_out >>= λ o. id_key >>= λ d. Some (make i k o d)) ≡ Some config → P config
made_of P (Some i) (Some k) (Some o) (Some d) make config each e = let is : make i k o d ≡ config = cc in subst P is (each i k o d)
made_of P None key_in key_out id_key make config each e = absurd (cc)
made_of P idp None key_out id_key make config each e = absurd (cc)
made_of P idp key_in None id_key make config each e = absurd (cc)
made_of P idp key_in key_out None make config each e = absurd (cc)

next_in_order : (times : Option Times) (key : Option (List ℕ)) → IfSome times AreInOrder → IfSome (next_of times key) (λ (next : NextKey). next.from ≤ next.until)
next_in_order (Some times) (Some key) h = h
next_in_order (Some times) None h = tt
next_in_order None key h = tt

within_bounds : (lines : Config) (loaded : Loaded) (config : SpConfig) → config_of lines loaded ≡ Some config →
    (config.skew ≡ lines.skew) × (config.next_in ≡ next_of lines.next_in loaded.next_in)
within_bounds lines loaded config is =
    made_of (λ made. (made.skew ≡ lines.skew) × (made.next_in ≡ next_of lines.next_in loaded.next_in)) loaded.idp loaded.key_in loaded.key_out loaded.id_key _ config
    (λ i k o d. (refl, refl)) is

-- the bounds of the lines are those of the config that they make
pub config_bounds : (lines : Config) (loaded : Loaded) (config : SpConfig) → config_of lines loaded ≡ Some config → lines.skew ≤ MILLIS * MOST_SKEW →
    IfSome lines.next_in AreInOrder → (config.skew ≤ GREATEST_SKEW) × IfSome config.next_in (λ next. next.from ≤ next.until)
config_bounds lines loaded config is skew times =
    let says = within_bounds lines loaded config is in (
      omega (arith, says.0, skew),
      subst (λ (next : Option NextKey). IfSome next (λ (n : NextKey). n.from ≤ n.until)) (sym says.1) (next_in_order lines.next_in loaded.next_in times),
    )

-- what is set up can be judged by
pub bounds : (told : Option (List File)) (lines : Config) (setup : SetUp) → IsSetUpBy told lines setup →
    lines.skew ≤ MILLIS * MOST_SKEW → IfSome lines.next_in AreInOrder → length lines.asked < ROW_LIMIT → length lines.opened < ROW_LIMIT → IsWithinBounds setup
bounds told lines setup h skew times asked opened =
    let within = config_bounds lines h.loaded setup.config h.is.config skew times in
    record {
      skew = within.0;
      times = within.1;
      asked = subst (λ (rows : List AskedLine). length rows < ROW_LIMIT) (sym h.is.asked) asked;
      opened = subst (λ (rows : List OpenedLine). length rows < ROW_LIMIT) (sym h.is.opened) opened;
    }
