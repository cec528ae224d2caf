-- What is written of pieces, one after the other.
use Rattle.std.specs.Prelude.{ℕ, Bool, true, false, List, [], ◌∷◌, ◌++◌, drop, if◌then◌else◌}
use Rattle.std.specs.List.{flat_map}
use Rattle.xml_spec.specs.Tree.{Attribute}
use Rattle.xml_spec.specs.Names.{Binding}
use Rattle.xml_spec.specs.Canonical.{byte_order, sorted, print_start, print_end, escape_text}
use Rattle.element_make.specs.Prefixes.{prefix, namespace}
use Rattle.element_make.specs.Made.{qualified}
use Rattle.element_make.specs.Pieces.{Piece, StartPiece, TextPiece, EndPiece}
use Rattle.element_make.specs.declared.names.Ns.{Ns}
use Rattle.element_make.specs.declared.names.Ns.TheVariants.{Saml, Samlp, Ds, Md}
use Rattle.element_make.specs.declared.scope.Declared.{Declared}

-- whether a namespace is declared
abbrev pub declares : Declared → Ns → Bool
declares d Saml = d.saml
declares d Samlp = d.samlp
declares d Ds = d.ds
declares d Md = d.md

abbrev pub nothing_declared : Declared
nothing_declared = record { saml = false; samlp = false; ds = false; md = false }

-- the namespace is declared too
abbrev pub also_declared : Declared → Ns → Declared
also_declared d Saml = record d { saml = true }
also_declared d Samlp = record d { samlp = true }
also_declared d Ds = record d { ds = true }
also_declared d Md = record d { md = true }

-- an element that is open: its name, and what is declared inside it
pub record Open : Type 0 where
  pub ns : Ns
  pub local : List ℕ
  pub inside : Declared

abbrev pub opened : Declared → Ns → List ℕ → Open
opened outside ns local = record { ns = ns; local = local; inside = also_declared outside ns }

abbrev pub by_name : List Attribute → List Attribute
by_name attributes = sorted (λ a b. byte_order a.name b.name) attributes

abbrev pub binding : Ns → Binding
binding ns = record { prefix = prefix ns; namespace = namespace ns }

-- the start tag of an element inside others that declare these namespaces
abbrev pub start_tag : Declared → Ns → List ℕ → List Attribute → List ℕ
start_tag outside ns local attributes =
    print_start (qualified ns local) (if declares outside ns then [] else binding ns ∷ []) (by_name attributes)

abbrev pub end_tag : Open → List ℕ
end_tag element = print_end (qualified element.ns element.local)

-- what is declared inside the innermost open element
abbrev pub inside_of : List Open → Declared
inside_of [] = nothing_declared
inside_of (element ∷ elements) = element.inside

-- the end tag of the innermost open element, where there is one
abbrev pub innermost_end : List Open → List ℕ
innermost_end [] = []
innermost_end (element ∷ elements) = end_tag element

-- what is written of one piece inside these open elements, the innermost first, and which are open behind it
abbrev pub piece_form : List Open → Piece → List ℕ
piece_form elements (StartPiece ns local attributes) = start_tag (inside_of elements) ns local attributes
piece_form elements (TextPiece text) = escape_text text
piece_form elements EndPiece = innermost_end elements

abbrev pub open_behind : List Open → Piece → List Open
open_behind elements (StartPiece ns local attributes) = opened (inside_of elements) ns local ∷ elements
open_behind elements (TextPiece text) = elements
open_behind elements EndPiece = drop 1 elements

-- what is written of the pieces inside these open elements, and of the ends of those that are open behind them
abbrev pub written_pieces : List Open → List Piece → List ℕ
written_pieces elements [] = flat_map end_tag elements
written_pieces elements (piece ∷ pieces) = piece_form elements piece ++ written_pieces (open_behind elements piece) pieces
