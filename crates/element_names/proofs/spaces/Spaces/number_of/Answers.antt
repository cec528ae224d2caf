use Rattle.std.proofs.Common.{ℕ, Option, sym, subst}
use Rattle.xml_spec.specs.Names.{bound}
use Rattle.element_names.specs.Spaces.{scope_of}
use Rattle.element_names.proofs.Bindings.{LeadsTo, looked_up}
use Rattle.element_names.proofs.spaces.Spaces.number_of.Goals as goal

pub returns : goal.returns
returns c =
    let here = c.args.self.now in
    subst (λ (o : Option ℕ). LeadsTo here.table o (bound (scope_of here) c.args.prefix.now)) (sym c.lookup.ensures)
    (looked_up here.table c.args.prefix.now here.scope c.requires.numbered)
