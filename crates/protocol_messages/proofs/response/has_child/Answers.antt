use Rattle.std.proofs.Common.{ap, ◌∙◌}
use Rattle.saml_names.specs.Views.{name_of}
use Rattle.tree_read.specs.Children.{named}
use Rattle.protocol_messages.specs.Messages.{is_any}
use Rattle.protocol_messages.proofs.Statuses.{any_is}
use Rattle.protocol_messages.proofs.response.has_child.Goals as goal

pub returns : goal.returns
returns c = any_is _ _ c.has_no.ensures ∙ ap (λ xs. is_any (named (name_of c.args.name) xs)) c.of-left.ensures.left
