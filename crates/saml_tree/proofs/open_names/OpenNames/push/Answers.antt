use Rattle.std.proofs.Common.{[], ◌∷◌, ◌++◌, ◌∙◌, ap, arith}
use Rattle.saml_tree.proofs.NamePlaces.{one_more, front_length}
use Rattle.saml_tree.proofs.open_names.OpenNames.push.Goals as goal

pub returns-clause-ok : goal.returns-clause-ok
returns-clause-ok c =
    let seen = c.self.view_is in
    let text = c.self.inside.text.now in
    let name = c.args.name.now in
    let whole = ap (λ v. v.text) seen ∙ c.requires.tail.1 in
    let front = front_length text c.requires.tail.0 c.args.left.now whole in
    let names = one_more text c.requires.tail.0 c.args.left.now name c.requires.named.0 c.self.inside.places.items c.push.new.self.items _
    whole c.requires.named.1 c.in_ok-push.ensures.items (omega (arith, front)) (omega arith) in
    λ i. record { text = (seen i).text; names = (names ∙ ap (λ v. v.names ++ name ∷ []) seen) i }
