-- One line of a hub's config: a line of a service provider's config, or the line of a peer.
use Rattle.std.specs.Prelude.{ℕ, List, Option, None, Some, option_and_then}
use Rattle.std.specs.Option.{option_or}
use Rattle.text_lines.specs.Words.{words_of}
use Rattle.provider_config.specs.declared.hub_line.HubLine.{HubLine}
use Rattle.provider_config.specs.declared.hub_line.HubLine.TheVariants.{Above, Peer}
use Rattle.provider_config.specs.declared.idp_line.IdpLine.{IdpLine}
use Rattle.provider_config.specs.declared.idp_line.IdpLine.TheVariants as idp_lines
use Rattle.provider_config.specs.declared.line.Purpose.TheVariants.{Serve}
use Rattle.provider_config.specs.declared.line.SpLine.{SpLine}
use Rattle.provider_config.specs.declared.line.SpLine.TheVariants.{Policy, Registry, Guard}
use Rattle.provider_config.specs.IdpLine as idp
use Rattle.provider_config.specs.Line as sp

-- Which lines of a service provider's config are a hub's: a hub has no pages, so no policy and no guard, and it has the identity
-- provider above from metadata, not from a registry.
abbrev pub above : SpLine → Option HubLine
above (Policy name) = None
above (Registry line) = None
above Guard = None
above line = Some (Above line)

-- which lines of an identity provider's config are: those of peers
abbrev pub below : IdpLine → Option HubLine
below (idp_lines.Peer names) = Some (Peer names)
below line = None

-- the line of these words, which has this number: `peer METADATA KEYIN KEYOUT`, or a line of a service provider that serves
abbrev pub spelled : ℕ → List (List ℕ) → Option HubLine
spelled number words = option_or (option_and_then below (idp.spelled number words)) (option_and_then above (sp.spelled Serve words))

-- the line that a text spells, which has this number
abbrev pub line_of : ℕ → List ℕ → Option HubLine
line_of number text = option_and_then (spelled number) (words_of text)
