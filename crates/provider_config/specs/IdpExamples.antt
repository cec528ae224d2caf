-- The definitions of an identity provider's config at worked examples.
use Rattle.std.specs.Prelude.{◌≡◌, ℕ, true, false, List, [], ◌∷◌, ◌++◌, None, Some, Ok, Err, codes, refl}
use Rattle.std.specs.Str.{chars}
use lib.Utf8.{encode}
use Rattle.provider_config.specs.declared.idp_config.IdpFile.TheVariants as files
use Rattle.provider_config.specs.declared.idp_config.SignMode.TheVariants as modes
use Rattle.provider_config.specs.declared.idp_line.IdpLine.TheVariants.{Sign, Fanout, Peer}
use Rattle.provider_config.specs.IdpLine.{line_of}
use Rattle.provider_config.specs.IdpConfig.{idp_config}

-- a peer knows the number of its line
lines : (line_of 7 (codes "peer m i o") ≡ Some (Peer (record { line = 7; metadata = codes "m"; key_in = codes "i"; key_out = codes "o" }))) × (line_of 7 (codes "peer m i") ≡ None)
    × (line_of 7 (codes "sign both") ≡ Some (Sign modes.Both)) × (line_of 7 (codes "sign Both") ≡ None) × (line_of 7 (codes "idp m") ≡ None)
lines = (refl, refl, refl, refl, refl)

-- lines that make a config, but for the peers
most : List ℕ
most = codes "id_key d\nusers u\nskew 1\nlisten l\nbase b\nentity e\n"

a_config : idp_config (most ++ codes "peer m i o\n") ≡ Ok (record {
  entity = codes "e";
  base = codes "b";
  listen = codes "l";
  skew = 1000;
  files = files.IdKey (codes "d") ∷ files.Users (codes "u") ∷ files.Peer (record { line = 7; metadata = codes "m"; key_in = codes "i"; key_out = codes "o" }) ∷ [];
  sign = modes.Assertion;
  fanout = false;
})
unfolding chars encode most
a_config = refl

-- a fan-out has no word, and stands anywhere
fanouts : (line_of 7 (codes "fanout") ≡ Some Fanout) × (line_of 7 (codes "fanout yes") ≡ None)
    × (line_of 7 (codes "fanout ") ≡ None)
fanouts = (refl, refl, refl)

with_fanout : idp_config (codes "fanout\n" ++ most ++ codes "peer m i o\n") ≡ Ok (record {
  entity = codes "e";
  base = codes "b";
  listen = codes "l";
  skew = 1000;
  files = files.IdKey (codes "d") ∷ files.Users (codes "u")
      ∷ files.Peer (record { line = 8; metadata = codes "m"; key_in = codes "i"; key_out = codes "o" }) ∷ [];
  sign = modes.Assertion;
  fanout = true;
})
unfolding chars encode most
with_fanout = refl

-- without a peer a key is missing; a key stands once
faults : (idp_config most ≡ Err 0) × (idp_config (most ++ codes "sign both\nsign both\n") ≡ Err 8)
    × (idp_config (codes "fanout\nfanout\n") ≡ Err 2)
unfolding chars encode most
faults = (refl, refl, refl)
