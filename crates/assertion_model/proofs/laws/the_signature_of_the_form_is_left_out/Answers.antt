use Rattle.std.proofs.Common.{List, codes, ap}
use Rattle.saml_names.specs.Names.{ds}
use Rattle.tree_read.specs.Children.{Child, named}
use Rattle.assertion_model.specs.Contents.{first}
use Rattle.assertion_model.proofs.laws.the_signature_of_the_form_is_left_out.Goals as goal

pub returns : goal.returns
returns c = λ tree e parts form. ap (λ (children : List Child). first (named (ds (codes "Signature")) children)) form.children
