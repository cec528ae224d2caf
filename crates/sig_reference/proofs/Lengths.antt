-- How long the forms of made elements are: at most eight times as long as a document in which they stand.
use Rattle.std.proofs.Common.{◌≡◌, ℕ, ◌+◌, ◌*◌, ◌≤◌, Bool, true, false, List, [], ◌∷◌, ◌++◌, length, codes, lit≤, arith, length-append, ap}
use Rattle.std.specs.List.{flat_map, list_any}
use Rattle.sha2.specs.Sha256.{sha256}
use Rattle.xml_spec.specs.declared.TheConstants.{MAX_DOCUMENT_LENGTH}
use Rattle.xml_spec.specs.Tree.{Attribute}
use Rattle.xml_spec.specs.Names.{Binding, outermost}
use Rattle.xml_spec.specs.Canonical.{print_binding, print_start, print_end, escape_text}
use Rattle.element_make.specs.declared.names.Ns.{Ns}
use Rattle.element_make.specs.declared.names.Ns.TheVariants.{Saml, Samlp, Ds, Md}
use Rattle.element_make.specs.Prefixes.{prefix, same}
use Rattle.element_make.specs.Made.{Made, MadeNodes, NothingMade, MadeElement, MadeText, alone, joined, with_second, qualified, written, IsMade}
use Rattle.element_make.specs.Writing.{by_name}
use Rattle.element_make.proofs.Forms.{added}
use Rattle.sig_reference.specs.Placing.{Around, Beside, Inside, filled}
use Rattle.sig_reference.specs.Signing.{signed_info, signature, signed, id_of, CanBeChecked}
use Rattle.sig_reference.proofs.AnyScope.{form_below, form_of}
use Rattle.sig_reference.proofs.MadeScopes.{has_none, none_rendered}
use Rattle.sig_reference.proofs.SignatureMade.{info_made}
use Rattle.sig_reference.proofs.Writable.{value_text}

-- ONE ELEMENT

start_length : (name : List ℕ) (bindings : List Binding) (attributes : List Attribute) →
    length (print_start name bindings attributes)
    ≡ length (print_start name [] attributes) + length (flat_map print_binding bindings)
start_length name bindings attributes = simp length-append (omega arith)

-- a declaration
declared_length : (there : Bool) (ns : Ns) → length (flat_map print_binding (added there ns)) ≤ 51
declared_length true ns = lit≤ tt
declared_length false Saml = lit≤ tt
declared_length false Samlp = lit≤ tt
declared_length false Ds = lit≤ tt
declared_length false Md = lit≤ tt

prefix_length : (ns : Ns) → 2 ≤ length (prefix ns)
prefix_length Saml = lit≤ tt
prefix_length Samlp = lit≤ tt
prefix_length Ds = lit≤ tt
prefix_length Md = lit≤ tt

-- is at most seven times as long as the tags that it stands in
tags_length : (ns : Ns) (local : List ℕ) (attributes : List Attribute) →
    51 ≤ 7 * (length (print_start (qualified ns local) [] attributes) + length (print_end (qualified ns local)))
tags_length ns local attributes = simp length-append (omega (arith, prefix_length ns))

-- NODES

-- the length of what is written of nodes but for declarations
abbrev pub bare : MadeNodes → ℕ
bare NothingMade = 0
bare (MadeElement ns local attributes kids rest) =
    length (print_start (qualified ns local) [] (by_name attributes)) + bare kids + length (print_end (qualified ns local))
    + bare rest
bare (MadeText text rest) = length (escape_text text) + bare rest

parts_length : (a b c d : List ℕ) → length (a ++ b ++ c ++ d) ≡ length a + length b + length c + length d
parts_length a b c d = simp length-append (omega arith)

at_least : (outside : List Ns) (nodes : MadeNodes) → bare nodes ≤ length (form_below outside nodes)
at_least outside NothingMade = omega arith
at_least outside (MadeElement ns local attributes kids rest) =
    let name = qualified ns local in
    let bindings = added (list_any (same ns) outside) ns in
    omega (
      arith,
      start_length name bindings (by_name attributes),
      at_least (ns ∷ outside) kids,
      at_least outside rest,
      parts_length (print_start name bindings (by_name attributes)) (form_below (ns ∷ outside) kids) (print_end name)
          (form_below outside rest),
    )
at_least outside (MadeText text rest) =
    omega (arith, at_least outside rest, length-append (escape_text text) (form_below outside rest))

at_most : (outside : List Ns) (nodes : MadeNodes) → length (form_below outside nodes) ≤ 8 * bare nodes
at_most outside NothingMade = omega arith
at_most outside (MadeElement ns local attributes kids rest) =
    let name = qualified ns local in
    let bindings = added (list_any (same ns) outside) ns in
    omega (
      arith,
      start_length name bindings (by_name attributes),
      declared_length (list_any (same ns) outside) ns,
      tags_length ns local (by_name attributes),
      at_most (ns ∷ outside) kids,
      at_most outside rest,
      parts_length (print_start name bindings (by_name attributes)) (form_below (ns ∷ outside) kids) (print_end name)
          (form_below outside rest),
    )
at_most outside (MadeText text rest) =
    omega (arith, at_most outside rest, length-append (escape_text text) (form_below outside rest))

-- ELEMENTS IN OTHERS

bare-joined : (front back : MadeNodes) → bare (joined front back) ≡ bare front + bare back
bare-joined NothingMade back = omega arith
bare-joined (MadeElement ns local attributes kids rest) back = omega (arith, bare-joined rest back)
bare-joined (MadeText text rest) back = omega (arith, bare-joined rest back)

bare_kept : (nodes second : MadeNodes) → bare nodes ≤ bare (with_second nodes second)
bare_kept NothingMade second = omega arith
bare_kept (MadeElement ns local attributes kids rest) second = omega (arith, bare-joined second rest)
bare_kept (MadeText text rest) second = omega (arith, bare-joined second rest)

bare_second : (nodes second : MadeNodes) → bare second ≤ bare (with_second nodes second)
bare_second NothingMade second = omega arith
bare_second (MadeElement ns local attributes kids rest) second = omega (arith, bare-joined second rest)
bare_second (MadeText text rest) second = omega (arith, bare-joined second rest)

bare_filled : (around : Around) (made : Made) → bare (alone made) ≤ bare (filled around made)
bare_filled (Beside before after) made =
    omega (arith, bare-joined before (joined (alone made) after), bare-joined (alone made) after)
bare_filled (Inside before ns local attributes around after) made =
    omega (
      arith,
      bare-joined before (MadeElement ns local attributes (filled around made) after),
      bare_filled around made,
    )

-- an element without its signature, and SignedInfo
bare_unsigned : (key : List ℕ) (made : Made) → bare (alone made) ≤ bare (alone (signed key made))
bare_unsigned key made =
    omega (arith, bare_kept made.kids (alone (signature key (signed_info (id_of made) (sha256 (written made))))))

bare_info : (key : List ℕ) (made : Made) →
    bare (alone (signed_info (id_of made) (sha256 (written made)))) ≤ bare (alone (signed key made))
bare_info key made =
    let info = signed_info (id_of made) (sha256 (written made)) in
    let behind = signature key info in
    let inside : bare (alone info) ≤ bare behind.kids = omega arith in
    omega (arith, inside, bare_second made.kids (alone behind))

-- WHAT IS WRITTEN

length_is : (made : Made) → IsMade made → length (written made) ≡ length (form_below [] (alone made))
length_is made is = ap length (form_of (alone made) [] outermost has_none [] [] none_rendered is)

written_most : (made : Made) → IsMade made → length (written made) ≤ 8 * bare (alone made)
written_most made is = omega (arith, at_most [] (alone made), length_is made is)

written_least : (made : Made) → IsMade made → bare (alone made) ≤ length (written made)
written_least made is =
    omega (arith, at_least [] (alone made), length_is made is)

-- the forms that the signature is checked over, where the element stands in a document that can be read
checked_in : (key : List ℕ) (made : Made) → IsMade made → bare (alone (signed key made)) ≤ MAX_DOCUMENT_LENGTH →
    CanBeChecked made
checked_in key made is short = record {
  element = omega (arith, written_most made is, bare_unsigned key made, short);
  info =
      omega (
        arith,
        short,
        bare_info key made,
        written_most (signed_info (id_of made) (sha256 (written made)))
            (info_made (id_of made) (written made) (value_text (codes "ID") made.attributes is.1)),
      );
}

pub checked_alone : (key : List ℕ) (made : Made) → IsMade made → IsMade (signed key made) →
    length (written (signed key made)) ≤ MAX_DOCUMENT_LENGTH → CanBeChecked made
checked_alone key made is signed_is short =
    checked_in key made is (omega (arith, short, written_least (signed key made) signed_is))

pub checked_inside : (key : List ℕ) (around : Around) (outer made : Made) → outer.kids ≡ filled around (signed key made) →
    IsMade outer → IsMade made → length (written outer) ≤ MAX_DOCUMENT_LENGTH → CanBeChecked made
checked_inside key around outer made holds outer_is is short =
    checked_in key made is
    (omega (arith, short, written_least outer outer_is, bare_filled around (signed key made), ap bare holds))
