-- A config that names each file that is needed sets a provider up, and a provider can be started with what is set up.
use Rattle.std.proofs.Common.{◌≡◌, ℕ, ◌+◌, ◌*◌, ◌≤◌, true, cond, ◌||◌, List, [], ◌∷◌, length, length-append, Option, None, Some, IfSome, IsTrue, is_some, count_by, refl, sym, ap, subst, arith}
use Rattle.std.specs.List.{AllByRecursion}
use Rattle.std.proofs.lemmas.Bool.{and_parts}
use Rattle.xml_spec.specs.Characters.{IsText}
use Rattle.saml_outside.specs.Files.{File}
use Rattle.saml_tree.proofs.Lists.{all_push}
use Rattle.user_store.specs.declared.user.User.{User}
use Rattle.provider_config.specs.IdpConfig as configs
use Rattle.provider_config.specs.IdpConfig.{is_users, is_id_key, is_peer_file, has_files}
use Rattle.provider_config.specs.declared.idp_config.IdpFile.{IdpFile}
use Rattle.provider_config.specs.declared.idp_config.IdpFile.TheVariants as named
use Rattle.provider_config.specs.declared.idp_config.TheConstants.{MAX_PEERS}
use Rattle.provider_config.specs.declared.line.TheConstants.{MILLIS, MOST_SKEW}
use Rattle.peer_keys.specs.Peers.{place_of, differ}
use Rattle.idp_rules.specs.Config.{IsTextPeer, IsTextUser, IsUsable}
use Rattle.idp_rules.specs.declared.config.IdpConfig.{IdpConfig}
use Rattle.tree_read.proofs.WritableTexts.{AreWritable}
use Rattle.idp_setup.specs.declared.loaded.Loaded.{Loaded}
use Rattle.idp_setup.specs.Config.{config_of}
use Rattle.idp_setup.specs.Setup.{nothing, load, set_up_by}
use Rattle.sp_setup.specs.Files.{in_order}
use Rattle.sp_setup.proofs.Loading.{kept, named_is_read, count_all}
use Rattle.idp_setup.proofs.Naming.{none_doubled, differ_with}
use Rattle.idp_setup.proofs.Spelling.{users_are_texts}
use Rattle.idp_setup.proofs.Texts.{read_texts}
use Rattle.owned_values.specs.Options.{◌>>=◌}

-- ---- each file that is needed was read

users_more : (told : Option (List File)) (file : IdpFile) (before after : Loaded) → (load file before).gives told after →
    is_some after.users ≡ (is_users file || is_some before.users)
users_more told (named.Users name) before after h = ap (λ (l : Loaded). is_some l.users) h.2
users_more told (named.IdKey name) before after h = ap (λ (l : Loaded). is_some l.users) h.2
users_more told (named.Peer names) before after h = ap (λ (l : Loaded). is_some l.users) h.2

id_key_more : (told : Option (List File)) (file : IdpFile) (before after : Loaded) → (load file before).gives told after →
    is_some after.id_key ≡ (is_id_key file || is_some before.id_key)
id_key_more told (named.Users name) before after h = ap (λ (l : Loaded). is_some l.id_key) h.2
id_key_more told (named.IdKey name) before after h = ap (λ (l : Loaded). is_some l.id_key) h.2
id_key_more told (named.Peer names) before after h = ap (λ (l : Loaded). is_some l.id_key) h.2

some_of : (users : Option (List User)) (id_key : Option (List ℕ)) (make : List User → List ℕ → IdpConfig) → is_some users ≡ true → is_some id_key ≡ true →
    (users >>= λ u. id_key >>= λ k. Some (make u k)) ≡ None → ⊥
some_of (Some u) (Some k) make has_users has_id e = cc
some_of None id_key make has_users has_id e = cc
some_of users None make has_users has_id e = cc

pub is_set_up : (told : Option (List File)) (lines : configs.IdpConfig) (loaded : Loaded) → IsTrue (has_files lines.files) →
    (in_order load lines.files nothing).gives told loaded → config_of lines loaded ≡ None → ⊥
is_set_up told lines loaded whole all none =
    let two = and_parts _ _ whole in
    let one = and_parts _ _ two.0 in
    some_of loaded.users loaded.id_key _
    (named_is_read load told is_users (λ (l : Loaded). is_some l.users) (users_more told) lines.files nothing loaded all one.0)
    (named_is_read load told is_id_key (λ (l : Loaded). is_some l.id_key) (id_key_more told) lines.files nothing loaded all one.1)
    none

-- ---- what the files hold

record IsSound (loaded : Loaded) : Type 0 where
  peers : AllByRecursion IsTextPeer loaded.read.peers
  users : IfSome loaded.users (AllByRecursion IsTextUser)
  apart : loaded.read.doubled ≡ None → differ loaded.read.peers ≡ true

sound_more : (told : Option (List File)) → AreWritable → (file : IdpFile) (before after : Loaded) → (load file before).gives told after → IsSound before → IsSound after
sound_more told law (named.Users name) before after (found, (bytes, there, says), is) sound =
    subst IsSound (sym is) (record { peers = sound.peers; users = users_are_texts bytes found says; apart = sound.apart })
sound_more told law (named.IdKey name) before after h sound = subst IsSound (sym h.2) (record { peers = sound.peers; users = sound.users; apart = sound.apart })
sound_more told law (named.Peer names) before after (peer, there, is) sound =
    let texts = read_texts told names peer law there in
    subst IsSound (sym is) (record {
      peers = all_push IsTextPeer before.read.peers peer sound.peers texts;
      users = sound.users;
      apart = λ none.
          let parts = none_doubled before.read.doubled names.line (is_some (place_of peer.peer.entity before.read.peers)) none in
          differ_with before.read.peers peer (sound.apart parts.0) parts.1;
    })

-- ---- how many peers there are

count_more : (told : Option (List File)) (file : IdpFile) (before after : Loaded) → (load file before).gives told after →
    length after.read.peers ≡ length before.read.peers + cond (is_peer_file file) 1 0
count_more told (named.Users name) before after h = omega (arith, ap (λ (l : Loaded). length l.read.peers) h.2)
count_more told (named.IdKey name) before after h = omega (arith, ap (λ (l : Loaded). length l.read.peers) h.2)
count_more told (named.Peer names) before after h = omega (arith, ap (λ (l : Loaded). length l.read.peers) h.2, length-append before.read.peers (h.0 ∷ []))

-- ---- what is set up

-- the parts of which a config was made
made_from : (users : Option (List User)) (id_key : Option (List ℕ)) (make : List User → List ℕ → IdpConfig) (config : IdpConfig) →
    (users >>= λ u. id_key >>= λ k. Some (make u k)) ≡ Some config → (u : List User) × (k : List ℕ) × (users ≡ Some u) × (make u k ≡ config)
made_from (Some u) (Some k) make config e = (u, k, refl, cc)
made_from None id_key make config e = absurd (cc)
made_from users None make config e = absurd (cc)

pub usable : (told : Option (List File)) (file : List ℕ) (lines : configs.IdpConfig) (config : IdpConfig) → AreWritable →
    (set_up_by file lines).gives told config → IsText lines.entity → IsText lines.base → lines.skew ≤ MILLIS * MOST_SKEW →
    count_by is_peer_file lines.files ≤ MAX_PEERS → IsUsable config
usable told file lines config law (loaded, all, (unit, none, is)) entity base skew few =
    let sound = kept load told IsSound (sound_more told law) lines.files nothing loaded all (record { peers = tt; users = tt; apart = λ none. refl }) in
    let made = made_from loaded.users loaded.id_key _ config is in
    let count = count_all load told is_peer_file (λ (l : Loaded). length l.read.peers) (count_more told) lines.files nothing loaded all in
    let users = subst (λ (o : Option (List User)). IfSome o (AllByRecursion IsTextUser)) made.2 sound.users in
    subst IsUsable made.3 (record {
      entity = entity;
      base = base;
      peers = sound.peers;
      users = users;
      few = omega (arith, few, count);
      apart = sound.apart none;
      skew = omega (arith, skew);
    })
