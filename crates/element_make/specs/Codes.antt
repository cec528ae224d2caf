-- A code of made elements, by which a proof tells them apart where a type of a program is seen as one.
use Rattle.std.specs.Prelude.{◌≡◌, ℕ, zero, suc, List, [], ◌∷◌}
use mathlib.Core.Path.{refl, ap, ◌∙◌}
use Rattle.std.specs.Coded.{Coded, code_by, coded×, coded_ℕ, coded_list}
use Rattle.xml_spec.specs.Codes.{coded_bytes, coded_attribute}
use Rattle.xml_spec.specs.Tree.{Attribute}
use Rattle.element_make.specs.declared.names.Ns.{Ns}
use Rattle.element_make.specs.declared.names.Ns.TheVariants.{Saml, Samlp, Ds, Md}
use Rattle.element_make.specs.Made.{Made, MadeNodes, NothingMade, MadeElement, MadeText, joined}
use Rattle.element_make.specs.Pieces.{Piece, StartPiece, TextPiece, EndPiece, pieces_before, pieces_of, begun, Levels, levels_of, content_of}

abbrev pub number_of : Ns → ℕ
number_of Saml = 0
number_of Samlp = 1
number_of Ds = 2
number_of Md = 3

abbrev pub numbered : ℕ → Ns
numbered zero = Saml
numbered (suc zero) = Samlp
numbered (suc (suc zero)) = Ds
numbered (suc (suc (suc n))) = Md

pub ns_back : (ns : Ns) → numbered (number_of ns) ≡ ns
ns_back Saml = refl
ns_back Samlp = refl
ns_back Ds = refl
ns_back Md = refl

abbrev pub coded_ns : Coded Ns
coded_ns = code_by ℕ coded_ℕ number_of numbered ns_back

-- a kind, a namespace, a text and attributes
abbrev pub Parts : Type 0
Parts = ℕ × (Ns × (List ℕ × List Attribute))

abbrev pub parts_of : Piece → Parts
parts_of (StartPiece ns local attributes) = (0, (ns, (local, attributes)))
parts_of (TextPiece text) = (1, (Saml, (text, [])))
parts_of EndPiece = (2, (Saml, ([], [])))

abbrev pub part_kind : ℕ → Ns → List ℕ → List Attribute → Piece
part_kind zero ns text attributes = StartPiece ns text attributes
part_kind (suc zero) ns text attributes = TextPiece text
part_kind (suc (suc n)) ns text attributes = EndPiece

abbrev pub of_parts : Parts → Piece
of_parts p = part_kind p.0 p.1.0 p.1.1.0 p.1.1.1

pub piece_back : (piece : Piece) → of_parts (parts_of piece) ≡ piece
piece_back (StartPiece ns local attributes) = refl
piece_back (TextPiece text) = refl
piece_back EndPiece = refl

abbrev pub coded_piece : Coded Piece
coded_piece =
    code_by Parts (coded× coded_ℕ (coded× coded_ns (coded× coded_bytes (coded_list coded_attribute)))) parts_of of_parts piece_back

pub joined_none : (nodes : MadeNodes) → joined nodes NothingMade ≡ nodes
joined_none NothingMade = refl
joined_none (MadeElement ns local attributes kids rest) = ap (MadeElement ns local attributes kids) (joined_none rest)
joined_none (MadeText text rest) = ap (MadeText text) (joined_none rest)

-- the nodes in front of other pieces
abbrev pub in_front : MadeNodes → Levels → Levels
in_front nodes levels = record { here = joined nodes levels.here; outside = levels.outside }

pub levels_before : (nodes : MadeNodes) (pieces : List Piece) → levels_of (pieces_before nodes pieces) ≡ in_front nodes (levels_of pieces)
levels_before NothingMade pieces = refl
levels_before (MadeElement ns local attributes kids rest) pieces =
    let behind = EndPiece ∷ pieces_before rest pieces in
    ap (λ (l : Levels). begun ns local attributes l.here l.outside) (levels_before kids behind)
    ∙ ap (λ k. record { here = MadeElement ns local attributes k (content_of (pieces_before rest pieces)); outside = (levels_of (pieces_before rest pieces)).outside }) (joined_none kids)
    ∙ ap (λ (l : Levels). record { here = MadeElement ns local attributes kids l.here; outside = l.outside }) (levels_before rest pieces)
levels_before (MadeText text rest) pieces =
    ap (λ (l : Levels). record { here = MadeText text l.here; outside = l.outside }) (levels_before rest pieces)

-- the nodes come back from their pieces
pub content_back : (nodes : MadeNodes) → content_of (pieces_of nodes) ≡ nodes
content_back nodes = ap (λ (l : Levels). l.here) (levels_before nodes []) ∙ joined_none nodes

abbrev pub coded_content : Coded MadeNodes
coded_content = code_by (List Piece) (coded_list coded_piece) pieces_of content_of content_back

abbrev pub Fields : Type 0
Fields = Ns × (List ℕ × (List Attribute × MadeNodes))

abbrev pub coded_made : Coded Made
coded_made =
    code_by Fields (coded× coded_ns (coded× coded_bytes (coded× (coded_list coded_attribute) coded_content)))
    (λ m. (m.ns, (m.local, (m.attributes, m.kids))))
    (λ f. record { ns = f.0; local = f.1.0; attributes = f.1.1.0; kids = f.1.1.1 }) (λ _. refl)
