-- An element begins and ends: what is written and what is rendered then.
use Rattle.std.proofs.Common.{◌≡◌, ℕ, ◌<◌, List, [], ◌∷◌, ◌++◌, map, length, drop, ap, ◌∙◌, arith}
use Rattle.xml_spec.specs.Tree.{Nodes}
use Rattle.xml_spec.specs.Numbering.{from_node}
use Rattle.xml_spec.specs.Names.{Binding, outermost}
use Rattle.xml_spec.specs.Canonical.{scope_at, print_start, written_attributes}
use Rattle.saml_tree.specs.Elements.{name_in, attributes_in}
use Rattle.excl_c14n.specs.Levels.{RenderedView, in_force, with_bindings, binding_in}
use Rattle.excl_c14n.specs.Pairs.{Pair, prefixes_in, binding_placed, ArePlaced}
use Rattle.excl_c14n.specs.NodeByNode.{scope_inside, wanted_prefixes, written_in, start_in}
use Rattle.excl_c14n.proofs.Nesting.{in_force-with_bindings, length-with_bindings, rest-with_bindings}
use Rattle.excl_c14n.proofs.Pairs.{bindings_are}

-- a level more
abbrev pub entered : RenderedView → RenderedView
entered v = record v { levels = [] ∷ v.levels }

-- and then these declarations
abbrev pub begun : List Binding → RenderedView → RenderedView
begun shown v = record v { levels = with_bindings shown ([] ∷ v.levels) }

pub level_in : (before inside : RenderedView) → inside ≡ entered before → 0 < length inside.levels
level_in before inside enter = omega (arith, ap (λ (v : RenderedView). length v.levels) enter)

pub rendered_in : (before inside : RenderedView) → inside ≡ entered before → in_force inside.levels ≡ in_force before.levels
rendered_in before inside enter = ap (λ (v : RenderedView). in_force v.levels) enter

module _ (listed : List (List ℕ)) (tree : Nodes) (n : ℕ) (before inside : RenderedView) (wanted : List Pair) (enter : inside ≡ entered before)
    (found : prefixes_in wanted ≡ wanted_prefixes listed (scope_inside tree n) (in_force inside.levels) (name_in (from_node tree n)) (attributes_in (from_node tree n)))
    (placed : ArePlaced tree (scope_inside tree n) wanted) where
  abbrev pub shown : List Binding
  shown = written_in listed (scope_at outermost tree n) (in_force before.levels) (name_in (from_node tree n)) (attributes_in (from_node tree n))

  bindings_wanted : map (binding_placed tree) wanted ≡ shown
  bindings_wanted =
      bindings_are tree (scope_inside tree n) wanted placed ∙ ap (map (binding_in (scope_inside tree n))) found
      ∙ (λ i. map (binding_in (scope_inside tree n))
      (wanted_prefixes listed (scope_inside tree n) (rendered_in before inside enter i) (name_in (from_node tree n)) (attributes_in (from_node tree n))))

  pub start_is : print_start (name_in (from_node tree n)) (map (binding_placed tree) wanted) (written_attributes (scope_inside tree n) (attributes_in (from_node tree n)))
      ≡ start_in listed (scope_at outermost tree n) (in_force before.levels) (name_in (from_node tree n)) (attributes_in (from_node tree n))
  start_is = λ i. print_start (name_in (from_node tree n)) (bindings_wanted i) (written_attributes (scope_inside tree n) (attributes_in (from_node tree n)))

  pub all_rendered : (new : RenderedView) → inside.tree ≡ tree →
      new ≡ record { tree = inside.tree; levels = with_bindings (map (binding_placed inside.tree) wanted) inside.levels } → new ≡ begun shown before
  all_rendered new same put =
      put ∙ (λ i. record { tree = inside.tree; levels = with_bindings (map (binding_placed (same i)) wanted) inside.levels })
      ∙ (λ i. record { tree = (enter i).tree; levels = with_bindings (bindings_wanted i) (enter i).levels })

-- an element that began, seen from below
pub rendered_below : (before now : RenderedView) (shown : List Binding) → now ≡ begun shown before → in_force now.levels ≡ shown ++ in_force before.levels
rendered_below before now shown is =
    ap (λ (v : RenderedView). in_force v.levels) is ∙ in_force-with_bindings shown ([] ∷ before.levels) (omega arith)

pub level_below : (before now : RenderedView) (shown : List Binding) → now ≡ begun shown before → 0 < length now.levels
level_below before now shown is =
    omega (arith, ap (λ (v : RenderedView). length v.levels) is, length-with_bindings shown ([] ∷ before.levels))

-- and when it ends all is as before
pub ended : (before now after : RenderedView) (shown : List Binding) → now ≡ begun shown before →
    after ≡ record { tree = now.tree; levels = drop 1 now.levels } → after ≡ before
ended before now after shown is end =
    end ∙ ap (λ (v : RenderedView). record { tree = v.tree; levels = drop 1 v.levels }) is
    ∙ (λ i. record { tree = before.tree; levels = rest-with_bindings shown ([] ∷ before.levels) i })
