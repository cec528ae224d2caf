-- A registry in a config tells the identity provider.
use Rattle.std.proofs.Common.{◌≡◌, ℕ, zero, suc, Bool, true, false, ◌||◌, List, [], ◌∷◌, Option, Some, Ok, refl, sym, ap, ◌∙◌, subst, arith}
use Rattle.std.specs.Prelude.{Contains}
use Rattle.xml_spec.specs.declared.TheConstants.{MAX_DOCUMENT_LENGTH}
use Rattle.saml_outside.specs.Files.{File}
use Rattle.meta_registry.specs.Aggregate.{RegistryView, peer_in}
use Rattle.meta_registry.specs.Faults.{IsRead}
use Rattle.metadata.specs.declared.peer.Peer.{Peer}
use Rattle.metadata.specs.declared.peer.Role.TheVariants.{Idp}
use Rattle.provider_config.specs.Config.{Config, same_role, role_of, has_file, AreOfDifferentRoles, sp_config}
use Rattle.provider_config.specs.declared.config.FileRole.{FileRole}
use Rattle.provider_config.specs.declared.config.FileRole.TheVariants as roles
use Rattle.provider_config.specs.declared.config.RegistryLine.{RegistryLine}
use Rattle.provider_config.specs.declared.config.SpFile.{SpFile}
use Rattle.provider_config.specs.declared.config.SpFile.TheVariants.{One, Registry}
use Rattle.provider_config.specs.declared.line.Purpose.{Purpose}
use Rattle.sp_rules.specs.declared.config.SpConfig.{SpConfig}
use Rattle.sp_setup.specs.declared.loaded.Loaded.{Loaded}
use Rattle.sp_setup.specs.Laws.{ARegistryTellsTheProvider, WithoutARegistryNothingEnds}
use Rattle.sp_setup.specs.Config.{config_of}
use Rattle.sp_setup.specs.Files.{whole, in_order, key_file}
use Rattle.sp_setup.specs.Setup.{nothing, load_file, load_registry, load, Setup, IsSetUp}
use Rattle.sp_setup.proofs.Texts.{FromListed, made_from}

-- what the identity provider is, and when the registry ends, is as it was
pub record Keeps (before after : Loaded) : Type 0 where
  pub idp : after.idp ≡ before.idp
  pub expiry : after.expiry ≡ before.expiry

keeps_both : (before middle after : Loaded) → Keeps before middle → Keeps middle after → Keeps before after
keeps_both before middle after a b = record { idp = b.idp ∙ a.idp; expiry = b.expiry ∙ a.expiry }

-- a file of another role leaves both
file_keeps : (told : Option (List File)) (role : FileRole) (name : List ℕ) (before after : Loaded) → (load_file role name before).gives told after →
    same_role role roles.Idp ≡ false → Keeps before after
file_keeps told roles.Idp name before after h other = absurd (cc)
file_keeps told roles.KeyIn name before after h other = record { idp = ap (λ (l : Loaded). l.idp) h.2; expiry = ap (λ (l : Loaded). l.expiry) h.2 }
file_keeps told roles.NextIn name before after h other = record { idp = ap (λ (l : Loaded). l.idp) h.2; expiry = ap (λ (l : Loaded). l.expiry) h.2 }
file_keeps told roles.KeyOut name before after h other = record { idp = ap (λ (l : Loaded). l.idp) h.2; expiry = ap (λ (l : Loaded). l.expiry) h.2 }
file_keeps told roles.IdKey name before after h other = record { idp = ap (λ (l : Loaded). l.idp) h.2; expiry = ap (λ (l : Loaded). l.expiry) h.2 }
file_keeps told roles.Policy name before after h other = record { idp = ap (λ (l : Loaded). l.idp) h.2; expiry = ap (λ (l : Loaded). l.expiry) h.2 }

line_keeps : (told : Option (List File)) (named : SpFile) (before after : Loaded) → (load named before).gives told after → same_role (role_of named) roles.Idp ≡ false →
    Keeps before after
line_keeps told (One file) before after h other = file_keeps told file.role file.name before after h other
line_keeps told (Registry line) before after h other = absurd (cc)

neither : (a b : Bool) → (a || b) ≡ false → (a ≡ false) × (b ≡ false)
neither true b h = absurd (cc)
neither false b h = (refl, h)

files_keep : (told : Option (List File)) (files : List SpFile) (before after : Loaded) → (in_order load files before).gives told after →
    has_file roles.Idp files ≡ false → Keeps before after
files_keep told [] before after h none = record { idp = ap (λ (l : Loaded). l.idp) h; expiry = ap (λ (l : Loaded). l.expiry) h }
files_keep told (named ∷ others) before after (middle, adds, rest) none =
    let parts = neither (same_role (role_of named) roles.Idp) (has_file roles.Idp others) none in
    keeps_both before middle after (line_keeps told named before middle adds parts.0) (files_keep told others middle after rest parts.1)

-- what the registry of a line gives is there in the end
pub record Tells (told : Option (List File)) (line : RegistryLine) (after : Loaded) : Type 0 where
  pub bytes : List ℕ
  pub key : List ℕ
  pub there : (whole MAX_DOCUMENT_LENGTH line.file).gives told bytes
  pub key_there : (key_file line.key).gives told key
  pub registry : RegistryView
  pub read : IsRead bytes key registry
  pub peer : Peer
  pub says : peer_in registry line.entity Idp ≡ Ok peer
  pub idp : after.idp ≡ Some peer
  pub expiry : after.expiry ≡ Some registry.valid_until

here : (told : Option (List File)) (line : RegistryLine) (before middle after : Loaded) → (load_registry line before).gives told middle → Keeps middle after →
    Tells told line after
here told line before middle after (bytes, there, (key, key_there, (registry, read, (peer, says, is)))) keeps = record {
  bytes = bytes;
  key = key;
  there = there;
  key_there = key_there;
  registry = registry;
  read = read;
  peer = peer;
  says = says;
  idp = keeps.idp ∙ ap (λ (l : Loaded). l.idp) is;
  expiry = keeps.expiry ∙ ap (λ (l : Loaded). l.expiry) is;
}

tells : (told : Option (List File)) (line : RegistryLine) (files : List SpFile) (before after : Loaded) → AreOfDifferentRoles files →
    (in_order load files before).gives told after → Contains files (Registry line) → Tells told line after
tells told line [] before after differ h (k, within, is) = absurd (omega arith)
tells told line (named ∷ others) before after (once, differ) (middle, adds, rest) (zero, within, is) =
    let adds_it : (load (Registry line) before).gives told middle = subst (λ (n : SpFile). (load n before).gives told middle) is adds in
    let alone : has_file roles.Idp others ≡ false = subst (λ (n : SpFile). has_file (role_of n) others ≡ false) is once in
    here told line before middle after adds_it (files_keep told others middle after rest alone)
tells told line (named ∷ others) before after (once, differ) (middle, adds, rest) (suc k, within, is) =
    tells told line others middle after differ rest (k, omega (arith, within), is)

-- without one nothing ends
file_endless : (told : Option (List File)) (role : FileRole) (name : List ℕ) (before after : Loaded) → (load_file role name before).gives told after →
    after.expiry ≡ before.expiry
file_endless told roles.Idp name before after h = ap (λ (l : Loaded). l.expiry) h.2
file_endless told roles.KeyIn name before after h = ap (λ (l : Loaded). l.expiry) h.2
file_endless told roles.NextIn name before after h = ap (λ (l : Loaded). l.expiry) h.2
file_endless told roles.KeyOut name before after h = ap (λ (l : Loaded). l.expiry) h.2
file_endless told roles.IdKey name before after h = ap (λ (l : Loaded). l.expiry) h.2
file_endless told roles.Policy name before after h = ap (λ (l : Loaded). l.expiry) h.2

line_endless : (told : Option (List File)) (named : SpFile) (before after : Loaded) → (load named before).gives told after →
    ((line : RegistryLine) → named ≡ Registry line → ⊥) → after.expiry ≡ before.expiry
line_endless told (One file) before after h none = file_endless told file.role file.name before after h
line_endless told (Registry line) before after h none = absurd (none line refl)

endless : (told : Option (List File)) (files : List SpFile) (before after : Loaded) → (in_order load files before).gives told after →
    ((line : RegistryLine) → Contains files (Registry line) → ⊥) → after.expiry ≡ before.expiry
endless told [] before after h none = ap (λ (l : Loaded). l.expiry) h
endless told (named ∷ others) before after (middle, adds, rest) none =
    endless told others middle after rest (λ line (k, within, is). none line (suc k, omega (arith, within), is))
    ∙ line_endless told named before middle adds (λ line is. none line (0, omega arith, is))

-- ---- what is set up

-- no two files of a config have one role
abbrev pub NoRoleTwice : Type 0
NoRoleTwice = (purpose : Purpose) (text : List ℕ) (config : Config) → sp_config purpose text ≡ Ok config → AreOfDifferentRoles config.files

same_peer : (idp : Option Peer) (one other : Peer) → idp ≡ Some one → idp ≡ Some other → one ≡ other
same_peer idp one other e h = cc

-- what reading a config gave, by its parts
pub record Parts (told : Option (List File)) (purpose : Purpose) (setup : Setup) : Type 0 where
  pub bytes : List ℕ
  pub spelled : sp_config purpose bytes ≡ Ok setup.lines
  pub loaded : Loaded
  pub all : (in_order load setup.lines.files nothing).gives told loaded
  pub is : config_of setup.lines loaded ≡ Some setup.config
  pub expiry : setup.expiry ≡ loaded.expiry

pub parts_of : (told : Option (List File)) (purpose : Purpose) (file : List ℕ) (setup : Setup) → IsSetUp told purpose file setup → Parts told purpose setup
unfolding IsSetUp
parts_of told purpose file setup (lines, (bytes, there, spelled), (loaded, all, (config, is, made))) =
    let said : setup.lines ≡ lines = ap (λ (s : Setup). s.lines) made in
    let named : setup.config ≡ config = ap (λ (s : Setup). s.config) made in
    record {
      bytes = bytes;
      spelled = spelled ∙ ap Ok (sym said);
      loaded = loaded;
      all = subst (λ (l : Config). (in_order load l.files nothing).gives told loaded) (sym said) all;
      is = ap (λ (l : Config). config_of l loaded) said ∙ is ∙ ap Some (sym named);
      expiry = ap (λ (s : Setup). s.expiry) made;
    }

pub told_by_registry : NoRoleTwice → FromListed → ARegistryTellsTheProvider
told_by_registry once from told purpose file setup line h named =
    let parts = parts_of told purpose file setup h in
    let loaded = parts.loaded in
    let found = tells told line setup.lines.files nothing loaded (once purpose parts.bytes setup.lines parts.spelled) parts.all named in
    let read = found.read in
    let listed = from found.key read.tree found.registry line.entity Idp found.peer read.root found.says in
    let made = made_from loaded.idp loaded.key_in loaded.key_out loaded.id_key _ setup.config parts.is in
    let idp : found.peer ≡ setup.config.idp = same_peer loaded.idp found.peer made.0 found.idp made.4 ∙ ap (λ (c : SpConfig). c.idp) made.5 in
    record {
      bytes = found.bytes;
      key = found.key;
      there = found.there;
      key_there = found.key_there;
      tree = read.tree;
      spelled = read.spelled;
      descriptor = listed.0;
      listed = listed.1;
      says = listed.2 ∙ ap Ok idp;
      until = found.registry.valid_until;
      ends = read.root.until;
      expiry = parts.expiry ∙ found.expiry;
    }

pub endless_without : WithoutARegistryNothingEnds
endless_without told purpose file setup h none =
    let parts = parts_of told purpose file setup h in parts.expiry ∙ endless told setup.lines.files nothing parts.loaded parts.all none
