-- How the definitions see a command.
use Rattle.std.specs.Prelude.{◌≤◌}
use Rattle.std.specs.Option.{option_map}
use Rattle.schedules.specs.declared.make.TheConstants.{MOST_LOGINS}
use Rattle.saml_commands.specs.declared.limits.TheConstants.{MOST_START}
use Rattle.saml_time.specs.declared.TheConstants.{LAST}
use Rattle.saml_commands.specs.Running as running
use Rattle.saml_commands.specs.declared.command.Command.{Command}
use Rattle.saml_commands.specs.declared.command.Command.TheVariants as commands

abbrev pub command_view : Command → running.Command
command_view (commands.Canon file id) = running.Canon file.now (option_map (λ text. text.now) id)
command_view (commands.Vouch file id key_file) = running.Vouch file.now id.now key_file.now
command_view (commands.Check config body now) = running.Check config.now body.now now
command_view (commands.Records role) = running.Records role
command_view (commands.Serve role config events) = running.Serve role config.now events
command_view (commands.Replay file) = running.Replay file.now
command_view (commands.Make logins start) = running.Make logins start

-- a moment that a command names has a written form, and the numbers of a schedule that is made are within their bounds
abbrev pub HasMoment : Command → Type 0
HasMoment (commands.Check config body now) = now ≤ LAST
HasMoment (commands.Make logins start) = (1 ≤ logins) × (logins ≤ MOST_LOGINS) × (start ≤ MOST_START)
HasMoment command = Unit {0}
