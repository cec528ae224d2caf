-- What the lines of a config set up is what the config in its file sets up.
use Rattle.std.proofs.Common.{◌≡◌, ℕ, List, Option, Ok, sym}
use Rattle.saml_outside.specs.Files.{File}
use Rattle.provider_config.specs.Config.{Config, sp_config}
use Rattle.provider_config.specs.declared.config.TheConstants.{MAX_CONFIG_LENGTH}
use Rattle.provider_config.specs.declared.line.Purpose.{Purpose}
use Rattle.sp_setup.specs.declared.setup.SetUp.{SetUp}
use Rattle.sp_setup.specs.Files.{whole}
use Rattle.sp_setup.specs.Setup.{IsSetUp}
use Rattle.sp_setup.specs.Views.{IsSetUpBy, IsSetUpFrom}

pub from_lines : (told : Option (List File)) (purpose : Purpose) (file bytes : List ℕ) (lines : Config) (setup : SetUp) →
    (whole MAX_CONFIG_LENGTH file).gives told bytes → sp_config purpose bytes ≡ Ok lines → IsSetUpBy told lines setup → IsSetUpFrom told purpose file setup
unfolding IsSetUp
from_lines told purpose file bytes lines setup there says h = record {
  lines = lines;
  is = (
    lines,
    (bytes, there, says),
    (
      h.loaded,
      h.all,
      (
        setup.config,
        h.is.config,
        λ i. record { lines = lines; config = setup.config; policy = sym h.is.policy i; expiry = sym h.is.expiry i },
      ),
    ),
  );
  guard = h.is.guard;
  asked = h.is.asked;
  opened = h.is.opened;
}
