-- By what a service provider is set up and begins.
use Rattle.std.specs.Prelude.{◌≡◌, ℕ, List, Option}
use Rattle.saml_outside.specs.Files.{File}
use Rattle.provider_run.specs.Providers as any
use Rattle.provider_run.specs.Runs.{Outside}
use Rattle.request_ledger.specs.Record.{request_rules}
use Rattle.provider_config.specs.declared.line.Purpose.TheVariants.{Serve}
use Rattle.sp_server.specs.Step as steps
use Rattle.sp_server.specs.Step.{Provider}
use Rattle.sp_setup.specs.Setup.{Setup, IsSetUp, IsBadSetUp}

-- a provider serves by all that it is set up with
abbrev pub served_by : Setup → steps.Setup
served_by setup = record { config = setup.config; policy = setup.policy; expiry = setup.expiry; guard = setup.lines.guard }

-- The config in this file sets a provider up, which serves by this.
pub record IsServedBy (told : Option (List File)) (file : List ℕ) (by : steps.Setup) : Type 0 where
  pub setup : Setup
  pub is : IsSetUp told Serve file setup
  pub serves_by : by ≡ served_by setup

-- This is the first file, the config or one that it names, that can't be used, and its line.
abbrev pub IsBadFile : Option (List File) → (config file : List ℕ) → (line : ℕ) → Type 0
IsBadFile told config file line = IsBadSetUp told Serve config file line

-- where a provider listens
abbrev pub address : steps.Setup → List ℕ
address setup = setup.config.listen

-- the key of the IDs that a provider draws
abbrev pub key : steps.Setup → List ℕ
key setup = setup.config.id_key

-- The config in this file sets such a provider up, its ledger was opened, it listens at its address, and else all is as
-- it was.
abbrev pub Begins : Option (List File) → (file : List ℕ) → (before : Outside) → Provider → (opened : Outside) → Type 0
Begins = any.Begins IsServedBy address key request_rules
