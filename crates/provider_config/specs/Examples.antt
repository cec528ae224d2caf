-- The definitions at worked examples.
use Rattle.std.specs.Prelude.{◌≡◌, ℕ, true, false, List, [], ◌∷◌, ◌++◌, None, Some, Ok, Err, codes, refl}
use Rattle.std.specs.Str.{chars}
use lib.Utf8.{encode}
use Rattle.provider_config.specs.declared.config.FileRole.{FileRole}
use Rattle.provider_config.specs.declared.config.FileRole.TheVariants as roles
use Rattle.provider_config.specs.declared.config.SpFile.{SpFile}
use Rattle.provider_config.specs.declared.config.SpFile.TheVariants.{One, Registry}
use Rattle.provider_config.specs.declared.line.Purpose.TheVariants.{Check, Serve}
use Rattle.provider_config.specs.declared.line.SpLine.TheVariants.{Entity, Skew, NextIn, Asked}
use Rattle.provider_config.specs.declared.line.SpLine.TheVariants as lines
use Rattle.provider_config.specs.Line.{line_of}
use Rattle.provider_config.specs.Config.{sp_config}

-- a key has one word, and compares with case
one_word : (line_of Serve (codes "entity urn:a") ≡ Some (Entity (codes "urn:a"))) × (line_of Serve (codes "entity") ≡ None) × (line_of Serve (codes "entity a b") ≡ None)
    × (line_of Serve (codes "Entity a") ≡ None) × (line_of Serve (codes "entity  a") ≡ None)
one_word = (refl, refl, refl, refl, refl)

-- the skew is said in seconds, 300 at most
skews : (line_of Serve (codes "skew 0") ≡ Some (Skew 0)) × (line_of Serve (codes "skew 300") ≡ Some (Skew 300000)) × (line_of Serve (codes "skew 301") ≡ None)
    × (line_of Serve (codes "skew 060") ≡ None)
skews = (refl, refl, refl, refl)

-- moments are in order, and the last has a written form
times : (line_of Serve (codes "next_in k 1 1") ≡ Some (NextIn (codes "k") (record { from = 1; until = 1 }))) × (line_of Serve (codes "next_in k 2 1") ≡ None)
    × (line_of Serve (codes "next_in k 0 253402300799999") ≡ Some (NextIn (codes "k") (record { from = 0; until = 253402300799999 })))
    × (line_of Serve (codes "next_in k 0 253402300800000") ≡ None) × (line_of Serve (codes "next_in k 1") ≡ None)
times = (refl, refl, refl, refl, refl)

-- what was asked is said only where a form is checked
rows : (line_of Check (codes "asked r s t 18446744073709551615") ≡ Some (Asked (record { request = codes "r"; relay = codes "s"; target = codes "t"; until = 18446744073709551615 })))
    × (line_of Serve (codes "asked r s t 1") ≡ None) × (line_of Check (codes "asked r s t 18446744073709551616") ≡ None) × (line_of Check (codes "asked r s 1") ≡ None)
rows = (refl, refl, refl, refl)

-- a registry has two files and a name, which is the word as it stands; a policy has one file, also where a form is checked
registries : (line_of Serve (codes "registry a k e") ≡ Some (lines.Registry (record { file = codes "a"; key = codes "k"; entity = codes "e" })))
    × (line_of Serve (codes "registry a k \te\r") ≡ Some (lines.Registry (record { file = codes "a"; key = codes "k"; entity = codes "\te\r" })))
    × (line_of Serve (codes "registry a k") ≡ None) × (line_of Serve (codes "registry a k e f") ≡ None)
registries = (refl, refl, refl, refl)

policies : (line_of Serve (codes "policy p") ≡ Some (lines.Policy (codes "p"))) × (line_of Check (codes "policy p") ≡ Some (lines.Policy (codes "p")))
    × (line_of Serve (codes "policy") ≡ None) × (line_of Serve (codes "policy p q") ≡ None)
policies = (refl, refl, refl, refl)

-- lines that make a config, but for one
most : List ℕ
most = codes "id_key d\nkey_out o\nkey_in k\nidp i\nlisten l\nbase b\nentity e\n"

-- one file of this role
one : FileRole → List ℕ → SpFile
one role name = One (record { role = role; name = name })

-- the files stand in the order of their lines
a_config : sp_config Serve (most ++ codes "next_in n 1 2\n\nskew 60")
    ≡ Ok (record {
      entity = codes "e";
      base = codes "b";
      listen = codes "l";
      skew = 60000;
      files = one roles.IdKey (codes "d") ∷ one roles.KeyOut (codes "o") ∷ one roles.KeyIn (codes "k") ∷ one roles.Idp (codes "i") ∷ one roles.NextIn (codes "n") ∷ [];
      next_in = Some (record { from = 1; until = 2 });
      guard = false;
      asked = [];
      opened = [];
    })
unfolding chars encode most one
a_config = refl

-- a registry stands in place of the metadata
with_registry : sp_config Serve (codes "policy p\nid_key d\nregistry a k e\nkey_out o\nkey_in i\nlisten l\nbase b\nentity e\nskew 1")
    ≡ Ok (record {
      entity = codes "e";
      base = codes "b";
      listen = codes "l";
      skew = 1000;
      files = one roles.Policy (codes "p") ∷ one roles.IdKey (codes "d") ∷ Registry (record { file = codes "a"; key = codes "k"; entity = codes "e" }) ∷ one roles.KeyOut (codes "o") ∷ one roles.KeyIn (codes "i") ∷ [];
      next_in = None;
      guard = false;
      asked = [];
      opened = [];
    })
unfolding chars encode one
with_registry = refl

-- a guard has no word, stands once and anywhere, and is said for either purpose
guards : (line_of Serve (codes "guard") ≡ Some lines.Guard) × (line_of Check (codes "guard") ≡ Some lines.Guard) × (line_of Serve (codes "guard yes") ≡ None)
    × (line_of Serve (codes "guard ") ≡ None) × (line_of Serve (codes "GUARD") ≡ None)
guards = (refl, refl, refl, refl, refl)

with_guard : sp_config Check (codes "guard\n" ++ most ++ codes "skew 1\n")
    ≡ Ok (record {
      entity = codes "e";
      base = codes "b";
      listen = codes "l";
      skew = 1000;
      files = one roles.IdKey (codes "d") ∷ one roles.KeyOut (codes "o") ∷ one roles.KeyIn (codes "k") ∷ one roles.Idp (codes "i") ∷ [];
      next_in = None;
      guard = true;
      asked = [];
      opened = [];
    })
unfolding chars encode most one
with_guard = refl

-- a missing key; a bad line behind it comes first
missing : (sp_config Serve most ≡ Err 0) × (sp_config Serve (most ++ codes "x") ≡ Err 8) × (sp_config Serve [] ≡ Err 0)
unfolding chars encode most
missing = (refl, refl, refl)

-- of two lines of a key the later is bad, unless one before it is; all lines are counted
doubled : (sp_config Serve (codes "entity a\n# c\nentity b\n") ≡ Err 3) × (sp_config Serve (codes "entity a\nx\nentity b\n") ≡ Err 2)
    × (sp_config Serve (codes "idp a\nnext_in n 1 2\nnext_in m 3 4\n") ≡ Err 3) × (sp_config Serve (codes "guard\nidp a\nguard\n") ≡ Err 3)
unfolding chars encode
doubled = (refl, refl, refl, refl)

-- of metadata and registry the later is bad, in whichever order; neither is a missing key
in_place : (sp_config Serve (most ++ codes "registry a k e\nskew 1\n") ≡ Err 8) × (sp_config Serve (codes "registry a k e\nidp i\n") ≡ Err 2)
    × (sp_config Serve (codes "registry a k e\nregistry a k f\n") ≡ Err 2) × (sp_config Serve (codes "policy p\npolicy p\n") ≡ Err 2)
    × (sp_config Serve (codes "id_key d\nkey_out o\nkey_in k\nlisten l\nbase b\nentity e\nskew 1\n") ≡ Err 0)
unfolding chars encode most
in_place = (refl, refl, refl, refl, refl)

-- a line that is no text is bad
no_text : sp_config Serve (codes "# " ++ 255 ∷ codes "\nx") ≡ Err 1
unfolding chars encode
no_text = refl
