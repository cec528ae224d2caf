use Rattle.std.proofs.Common.{◌≡◌, length}
use Rattle.provider_config.specs.Config.{sp_config}
use Rattle.provider_config.specs.Drafts.{config_from}
use Rattle.text_lines.proofs.Numbering.{AreSmall}
use Rattle.provider_config.proofs.read.read_sp_config.Given as goal

-- what is found and what is still to be said make the config
abbrev pub invariant-loop-said : goal.invariant-loop-said
invariant-loop-said l = record {
  config : config_from l.purpose l.draft l.lines ≡ sp_config l.purpose l.text;
  small : AreSmall l.lines;
}

abbrev pub decreases-loop-said : goal.decreases-loop-said
decreases-loop-said l = length l.lines
