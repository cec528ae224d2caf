use Rattle.std.proofs.Common.{drop}
use Rattle.std.specs.List.{flat_map}
use Rattle.canon_octets.proofs.Underway.{IsUnderway}
use Rattle.element_make.specs.Views.{lent_views}
use Rattle.element_make.proofs.Attributes.{print_of}
use Rattle.element_make.proofs.tag.put_attributes.Given as goal

abbrev pub invariant-loop-attribute : goal.invariant-loop-attribute
invariant-loop-attribute g l =
    IsUnderway g.O.Octets.appends l.initial.out l.out (flat_map print_of (drop l.attribute-index (lent_views l.attribute-items)))
    (flat_map print_of (lent_views l.attribute-items))
