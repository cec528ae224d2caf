use Rattle.std.proofs.Common.{List, codes, ap}
use Rattle.saml_names.specs.Names.{ds}
use Rattle.tree_read.specs.Children.{Child, named}
use Rattle.assertion_model.specs.Contents.{first}
use Rattle.assertion_model.proofs.laws.the_first_signature_left_out_vouches.Goals as goal

pub returns : goal.returns
returns c = λ key tree e parts v. ap (λ (children : List Child). first (named (ds (codes "Signature")) children)) v.form.children
