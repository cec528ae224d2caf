-- What an element's content shows: its children by name, its text, and its attributes. Comments and prefixes are no part of
-- it, and texts that meet are one.
use Rattle.std.specs.Prelude.{ℕ, List, [], ◌∷◌, ◌++◌, Option, None, Some, if◌then◌else◌}
use Rattle.xml_spec.specs.Names.{ExpandedName}
use Rattle.xml_spec.specs.Content.{ContentAttribute, Contents, NoContents, ElementContent, TextContent, InstructionContent}
use Rattle.tree_read.specs.Children.{is_name}
use Rattle.owned_values.specs.Options.{◌>>=◌}
pub use Rattle.owned_values.specs.Options.{only, at_most_one}

-- the attributes and the children of an element
pub record Part : Type 0 where
  pub attributes : List ContentAttribute
  pub kids : Contents

-- the elements of this name, in order
abbrev pub named : ExpandedName → Contents → List Part
named wanted NoContents = []
named wanted (ElementContent name attributes kids rest) =
    let others = named wanted rest in if is_name wanted name then record { attributes = attributes; kids = kids } ∷ others else others
named wanted (TextContent text rest) = named wanted rest
named wanted (InstructionContent target value rest) = named wanted rest

-- the names of all elements, in order
abbrev pub names : Contents → List ExpandedName
names NoContents = []
names (ElementContent name attributes kids rest) = name ∷ names rest
names (TextContent text rest) = names rest
names (InstructionContent target value rest) = names rest

-- all texts, in document order, those inside elements too
abbrev pub text : Contents → List ℕ
text NoContents = []
text (ElementContent name attributes kids rest) = text kids ++ text rest
text (TextContent bytes rest) = bytes ++ text rest
text (InstructionContent target value rest) = text rest

-- the value of the attribute that has this local name and is in no namespace
abbrev pub value : List ℕ → List ContentAttribute → Option (List ℕ)
value local [] = None
value local (a ∷ attributes) =
    if is_name (record { namespace = []; local = local }) a.name then Some a.value else value local attributes

-- the first, where there is one
abbrev pub first : {X : Type 0} → List X → Option X
first [] = None
first (x ∷ others) = Some x

-- what each of them says, where each says something
abbrev pub each : {X Y : Type 0} → (X → Option Y) → List X → Option (List Y)
each says [] = Some []
each says (x ∷ others) = do
  y ← says x
  ys ← each says others
  Some (y ∷ ys)
