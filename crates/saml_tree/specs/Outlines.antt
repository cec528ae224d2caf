-- Which tokens make a document: the end tags answer the start tags, there is one root, and only white space,
-- comments and instructions stand outside it.
use Rattle.std.specs.Prelude.{ℕ, Bool, true, false, ◌&&◌, ◌||◌, not, List, [], ◌∷◌, Option, Some, None, if◌then◌else◌}
use Rattle.std.specs.Option.{option_and_then}
use Rattle.std.specs.Str.{bytes_eq}
use Rattle.xml_spec.specs.Syntax.{Item, EmptyTag, Token, Alone, StartTag, EndTag}
use Rattle.xml_spec.specs.Document.{is_misc}
use Rattle.saml_tree.specs.Run.{is_some}

-- the names of the open elements, the innermost first, and whether the root has begun
pub record Outline : Type 0 where
  pub names : List (List ℕ)
  pub begun : Bool

-- an item outside the root
abbrev pub item_outside : Outline → Item → Option Outline
item_outside o (EmptyTag tag) = if o.begun then None else Some (record o { begun = true })
item_outside o item = if is_misc item then Some o else None

-- an element may begin in an open one, or as the root
abbrev pub may_begin : Outline → Bool
may_begin o = is_some o.names || not o.begun

-- the innermost of these open elements ends, if it has this name
abbrev pub named_end : Outline → List (List ℕ) → List ℕ → Option Outline
named_end o [] name = None
named_end o (inner ∷ outer) name = if bytes_eq inner name then Some (record o { names = outer }) else None

-- the outline behind a token, none where the token has no place there
abbrev pub next_outline : Outline → Token → Option Outline
next_outline o (Alone item) = if is_some o.names then Some o else item_outside o item
next_outline o (StartTag tag) =
    if may_begin o then Some (record { names = tag.name ∷ o.names; begun = true }) else None
next_outline o (EndTag name space) = named_end o o.names name

-- the outline behind tokens in a row
abbrev pub outline_of : Outline → List Token → Option Outline
outline_of o [] = Some o
outline_of o (token ∷ tokens) = option_and_then (λ next. outline_of next tokens) (next_outline o token)

-- before the first token
abbrev pub first_outline : Outline
first_outline = record { names = []; begun = false }

-- the root is read and no element is open
abbrev pub is_complete : Outline → Bool
is_complete o = not (is_some o.names) && o.begun
