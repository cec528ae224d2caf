-- Readings of a name, an equals sign and an attribute are one, and what refuses them.
use Rattle.std.proofs.Common.{◌≡◌, ℕ, ◌<◌, Bool, true, false, ◌==◌, nat_lt, List, [], ◌∷◌, ◌++◌, length, get_or, IsFalse, refl, sym, ◌∙◌, ap, subst, arith}
use Rattle.std.specs.List.{list_all}
use Rattle.std.specs.Str.{IsAscii}
use Rattle.std.proofs.lemmas.Str.{encodes-IsAscii}
use Rattle.std.proofs.lemmas.Str.Ascii.{IsAscii-nil, IsAscii-cons}
use borrow.Author.Tests.{ltb-true}
use Rattle.xml_spec.specs.Ascii.{equals_sign}
use Rattle.xml_spec.specs.Bytes.{AllPass, begins_with}
use Rattle.xml_spec.specs.Characters.{is_name_start, is_name_char, IsName}
use Rattle.xml_spec.specs.Tree as tree
use Rattle.xml_spec.specs.Syntax.{is_white, Assignment}
use Rattle.xml_spec.specs.Meaning.{attribute_of}
use Rattle.xml_spec.proofs.Tests.{both_true, and_true}
use Rattle.xml_spec.proofs.Runs.{begins_not, same_run}
use Rattle.xml_spec.proofs.NameBytes.{name_passes, name_begins}
use Rattle.xml_spec.proofs.Tags.{from_value, from_right, from_left, from_name, from_before, assignment_parts, left_stops_name, name_begins_not_white}
use Rattle.xml_spec.proofs.Heads.{quote_not_white}
use Rattle.xml_tokens.specs.Lexing.{is_ascii_name_byte, is_name_byte, NameAt, EqualsAt, ValueAt, AssignedAt, AssignmentAt, NoName, NoEquals, NoValue, NoAssigned, NoAssignment}

-- bytes of ASCII that may stand in a name
all_ascii : (bytes : List ℕ) → AllPass is_ascii_name_byte bytes → IsAscii bytes
all_ascii [] h = IsAscii-nil
all_ascii (b ∷ bytes) h =
    let both = both_true (is_ascii_name_byte b) (list_all is_ascii_name_byte bytes) h in
    IsAscii-cons b bytes (ltb-true b 128 (both_true (nat_lt b 128) (is_name_char b) both.0).0) (all_ascii bytes both.1)

all_name_chars : (bytes : List ℕ) → AllPass is_ascii_name_byte bytes → list_all is_name_char bytes ≡ true
all_name_chars [] h = refl
all_name_chars (b ∷ bytes) h =
    let both = both_true (is_ascii_name_byte b) (list_all is_ascii_name_byte bytes) h in
    and_true (is_name_char b) (list_all is_name_char bytes) (both_true (nat_lt b 128) (is_name_char b) both.0).1 (all_name_chars bytes both.1)

-- a text of ASCII is a name by its bytes
pub ascii_name : (first : ℕ) (others : List ℕ) → first < 128 → is_name_start first ≡ true → AllPass is_ascii_name_byte others → IsName (first ∷ others)
ascii_name first others l s h = record {
  first = first;
  others = others;
  starts = s;
  goes_on = all_name_chars others h;
  spelled = sym (encodes-IsAscii (first ∷ others) (IsAscii-cons first others l (all_ascii others h)));
}

-- the same of a text, by the test of its first byte
pub ascii_name_of : (text : List ℕ) (starts : Bool) → 0 < length text → (starts ≡ true → get_or text 0 0 < 128) →
    (get_or text 0 0 < 128 → starts ≡ is_name_start (get_or text 0 0)) → starts ≡ true →
    AllPass is_ascii_name_byte text → IsName text
ascii_name_of [] starts l low named s passes = absurd (omega arith)
ascii_name_of (b ∷ text) starts l low named s passes =
    ascii_name b text (low s) (sym (named (low s)) ∙ s) (both_true (is_ascii_name_byte b) (list_all is_ascii_name_byte text) passes).1

-- two readings of a name
pub same_name : (bytes n m x y : List ℕ) → NameAt bytes n x → NameAt bytes m y → (n ≡ m) × (x ≡ y)
same_name bytes n m x y a b =
    same_run is_name_byte n m x y (name_passes n a.named) (name_passes m b.named) a.ends b.ends (sym a.split ∙ b.split)

pub no_name : (bytes front back : List ℕ) → bytes ≡ front ++ back → AllPass is_name_byte front → IsFalse (begins_with is_name_byte back) →
    (IsName front → ⊥) → NoName bytes
no_name bytes front back e passes stops not_named name behind a =
    let same = same_run is_name_byte front name back behind passes (name_passes name a.named) stops a.ends (sym e ∙ a.split) in
    not_named (subst IsName (sym same.0) a.named)

-- two readings of an equals sign
pub same_equals : (bytes x y : List ℕ) → EqualsAt bytes x → EqualsAt bytes y → x ≡ y
same_equals bytes x y a b =
    let left = same_run is_white a.left b.left (equals_sign ∷ (a.right ++ x)) (equals_sign ∷ (b.right ++ y)) a.left_white b.left_white refl refl
    (sym a.split ∙ b.split) in
    let behind : a.right ++ x ≡ b.right ++ y = cc (left.1) in
    (same_run is_white a.right b.right x y a.right_white b.right_white a.ends b.ends behind).1

pub no_equals : (bytes left at : List ℕ) → bytes ≡ left ++ at → AllPass is_white left → IsFalse (begins_with is_white at) →
    ((x : List ℕ) → ¬ (at ≡ equals_sign ∷ x)) → NoEquals bytes
no_equals bytes left at e white stops none behind a =
    let split = same_run is_white left a.left at (equals_sign ∷ (a.right ++ behind)) white a.left_white stops refl (sym e ∙ a.split) in
    none (a.right ++ behind) split.1

-- the attribute behind white space is an assignment's
pub assigned_from : (space rest : List ℕ) (attribute : tree.Attribute) (x : List ℕ) → AllPass is_white space →
    IsFalse (begins_with is_white rest) → (at : AssignmentAt (space ++ rest) attribute x) → AssignedAt rest (attribute_of at.assignment) x
assigned_from space rest attribute x white stops at =
    let a = at.assignment in
    let v = at.valid in
    let whole : space ++ rest ≡ from_before a x = at.split ∙ assignment_parts a x in
    let before = same_run is_white space a.before rest (from_name a x) white v.before stops
    (name_begins_not_white (from_name a x) (name_begins a.name (from_left a x) v.name)) whole in
    record {
      sign = from_left a x;
      quote = a.quote ∷ from_value a x;
      named = record { named = v.name; split = before.1; ends = left_stops_name a.left (from_right a x) v.left };
      equated = record {
        left = a.left;
        right = a.right;
        left_white = v.left;
        right_white = v.right;
        split = refl;
        ends = quote_not_white a.quote v.quote;
      };
      valued = record {
        quote = a.quote;
        inner = from_value a x;
        quoted = v.quote;
        split = refl;
        pieces = record { pieces = a.pieces; valid = v.pieces; whole_runs = v.whole_runs; means = refl; split = refl };
      };
    }

pub no_assignment : (space rest : List ℕ) → AllPass is_white space → IsFalse (begins_with is_white rest) →
    NoAssigned rest → NoAssignment (space ++ rest)
no_assignment space rest white stops none attribute x at =
    none (attribute_of at.assignment) x (assigned_from space rest attribute x white stops at)

-- what an answer on emptiness says of the length
pub is_short : (text : List ℕ) (r : Bool) → r ≡ (length text == 0) → r ≡ true → length text < 1
is_short text r e h = grind arith

pub is_long : (text : List ℕ) (r : Bool) → r ≡ (length text == 0) → r ≡ false → 0 < length text
is_long text r e h = grind arith

white_space_begins : (rest before y : List ℕ) → IsFalse (begins_with is_white rest) → 0 < length before → AllPass is_white before →
    rest ≡ before ++ y → ⊥
white_space_begins rest [] y stops h w e = absurd (omega arith)
white_space_begins rest (b ∷ before) y stops h w e = begins_not is_white b (before ++ y) rest (both_true (is_white b) _ w).0 stops e

-- an attribute stands behind white space
pub no_space : (space rest : List ℕ) → length space < 1 → IsFalse (begins_with is_white rest) → NoAssignment (space ++ rest)
no_space [] rest none stops attribute x at =
    white_space_begins rest at.assignment.before (from_name at.assignment x) stops at.valid.apart at.valid.before
    (at.split ∙ assignment_parts at.assignment x)
no_space (b ∷ space) rest none stops attribute x at = absurd (omega arith)

pub unequal_unassigned : (rest name mid : List ℕ) → NameAt rest name mid → NoEquals mid → NoAssigned rest
unequal_unassigned rest name mid n none attribute behind at =
    none at.quote (subst (λ m. EqualsAt m at.quote) (sym (same_name rest name attribute.name mid at.sign n at.named).1) at.equated)

pub unvalued_unassigned : (rest name mid last : List ℕ) → NameAt rest name mid → EqualsAt mid last → NoValue last → NoAssigned rest
unvalued_unassigned rest name mid last n e none attribute behind at =
    let here : EqualsAt mid at.quote =
    subst (λ m. EqualsAt m at.quote) (sym (same_name rest name attribute.name mid at.sign n at.named).1) at.equated in
    none attribute.value behind (subst (λ l. ValueAt l attribute.value behind) (sym (same_equals mid last at.quote e here)) at.valued)

pub assignment_from : (space rest : List ℕ) (attribute : tree.Attribute) (behind : List ℕ) → 0 < length space → AllPass is_white space →
    AssignedAt rest attribute behind → AssignmentAt (space ++ rest) attribute behind
assignment_from space rest attribute behind apart white at =
    let pieces = at.valued.pieces in
    let a : Assignment = record {
      before = space;
      name = attribute.name;
      left = at.equated.left;
      right = at.equated.right;
      quote = at.valued.quote;
      pieces = pieces.pieces;
    } in
    let valued : at.quote ≡ a.quote ∷ from_value a behind = at.valued.split ∙ ap (λ z. a.quote ∷ z) pieces.split in
    let equals : at.sign ≡ from_left a behind =
    at.equated.split ∙ ap (λ z. a.left ++ equals_sign ∷ (a.right ++ z)) valued in
    let whole : space ++ rest ≡ from_before a behind =
    ap (λ z. space ++ z) (at.named.split ∙ ap (λ z. attribute.name ++ z) equals) in
    record {
      assignment = a;
      valid = record {
        apart = apart;
        before = white;
        name = at.named.named;
        left = at.equated.left_white;
        right = at.equated.right_white;
        quote = at.valued.quoted;
        pieces = pieces.valid;
        whole_runs = pieces.whole_runs;
      };
      means = λ i. record { name = attribute.name; value = pieces.means i };
      split = whole ∙ sym (assignment_parts a behind);
    }
