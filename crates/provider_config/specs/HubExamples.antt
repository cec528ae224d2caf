-- The definitions of a hub's config at worked examples.
use Rattle.std.specs.Prelude.{◌≡◌, ℕ, false, List, [], ◌∷◌, ◌++◌, map, None, Some, Ok, Err, codes, refl}
use Rattle.std.specs.Str.{chars}
use lib.Utf8.{encode}
use Rattle.provider_config.specs.declared.config.FileRole.{FileRole}
use Rattle.provider_config.specs.declared.config.FileRole.TheVariants as roles
use Rattle.provider_config.specs.declared.config.SpFile.{SpFile}
use Rattle.provider_config.specs.declared.config.SpFile.TheVariants as names
use Rattle.provider_config.specs.declared.hub_config.HubFile.TheVariants as files
use Rattle.provider_config.specs.declared.hub_line.HubLine.TheVariants.{Above, Peer}
use Rattle.provider_config.specs.declared.line.SpLine.TheVariants.{KeyIn}
use Rattle.provider_config.specs.HubLine.{line_of}
use Rattle.provider_config.specs.HubConfig.{hub_config}

-- the lines of a service provider, and a peer, which knows the number of its line
lines : (line_of 7 (codes "key_in k") ≡ Some (Above (KeyIn (codes "k"))))
    × (line_of 7 (codes "peer m i o") ≡ Some (Peer (record { line = 7; metadata = codes "m"; key_in = codes "i"; key_out = codes "o" })))
lines = (refl, refl)

-- lines that the one has or the other, and the hub has not
others : (line_of 7 (codes "policy p") ≡ None) × (line_of 7 (codes "registry a k e") ≡ None) × (line_of 7 (codes "guard") ≡ None)
    × (line_of 7 (codes "asked r s t 1") ≡ None) × (line_of 7 (codes "users u") ≡ None) × (line_of 7 (codes "sign both") ≡ None)
    × (line_of 7 (codes "fanout") ≡ None)
others = (refl, refl, refl, refl, refl, refl, refl)

-- lines that make a config, but for the peers
most : List ℕ
most = codes "id_key d\nkey_out o\nidp m\nskew 1\nlisten l\nbase b\nentity e\nkey_in i\n"

-- a file of a line that a service provider's config has too
one : FileRole → List ℕ → SpFile
one role name = names.One (record { role = role; name = name })

-- those of these lines, and of one more
above_files : List SpFile
above_files =
    one roles.IdKey (codes "d") ∷ one roles.KeyOut (codes "o") ∷ one roles.Idp (codes "m") ∷ one roles.KeyIn (codes "i")
    ∷ one roles.NextIn (codes "k") ∷ []

a_config : hub_config (codes "peer n x y\n" ++ most ++ codes "next_in k 2 5\n") ≡ Ok (record {
  above = record {
    entity = codes "e";
    base = codes "b";
    listen = codes "l";
    skew = 1000;
    files = above_files;
    next_in = Some (record { from = 2; until = 5 });
    guard = false;
    asked = [];
    opened = [];
  };
  files = files.Peer (record { line = 1; metadata = codes "n"; key_in = codes "x"; key_out = codes "y" })
      ∷ map files.Above above_files;
})
unfolding chars encode most one above_files
a_config = refl

-- without a peer a key is missing, and without a key of a service provider too; a key stands once
faults : (hub_config most ≡ Err 0) × (hub_config (codes "peer n x y\n") ≡ Err 0) × (hub_config (most ++ codes "skew 1\n") ≡ Err 9)
    × (hub_config (most ++ codes "peer n x y\nguard\n") ≡ Err 10)
unfolding chars encode most
faults = (refl, refl, refl, refl)
