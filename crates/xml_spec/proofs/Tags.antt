-- A tag is determined by the bytes up to the sign that closes it.
use Rattle.std.proofs.Common.{◌≡◌, ℕ, ◌<◌, true, false, List, [], ◌∷◌, ◌++◌, length, IsFalse, refl, sym, ◌∙◌, ap, subst, append_assoc, arith}
use Rattle.std.specs.List.{flat_map, AllByRecursion}
use Rattle.xml_spec.specs.Ascii.{equals_sign}
use Rattle.xml_spec.specs.Bytes.{AllPass, begins_with}
use Rattle.xml_spec.specs.Syntax.{is_white, is_quote, IsPiece, Assignment, print_assignment, IsAssignment, Tag, print_tag, IsTag}
use Rattle.xml_spec.proofs.Tests.{both_true}
use Rattle.xml_spec.proofs.Runs.{same_run}
use Rattle.xml_spec.proofs.NameBytes.{is_name_byte, name_passes, name_begins}
use Rattle.xml_spec.proofs.Values.{closed_value, same_pieces}

-- what follows a tag: a byte that is no white space and of no name
pub record Closes (x : List ℕ) : Type 0 where
  pub not_white : IsFalse (begins_with is_white x)
  pub not_name : IsFalse (begins_with is_name_byte x)

-- a part of an assignment and what follows it
abbrev pub from_value : Assignment → List ℕ → List ℕ
from_value a x = closed_value a.quote a.pieces x

abbrev pub from_right : Assignment → List ℕ → List ℕ
from_right a x = a.right ++ (a.quote ∷ from_value a x)

abbrev pub from_left : Assignment → List ℕ → List ℕ
from_left a x = a.left ++ (equals_sign ∷ from_right a x)

abbrev pub from_name : Assignment → List ℕ → List ℕ
from_name a x = a.name ++ from_left a x

abbrev pub from_before : Assignment → List ℕ → List ℕ
from_before a x = a.before ++ from_name a x

pub assignment_parts : (a : Assignment) (x : List ℕ) → print_assignment a ++ x ≡ from_before a x
assignment_parts a x = simp append_assoc

pub quote_not_white : (q : ℕ) → is_quote q ≡ true → is_white q ≡ false
quote_not_white q h = grind arith

pub white_is_no_name : (b : ℕ) → is_white b ≡ true → is_name_byte b ≡ false
white_is_no_name b h = grind arith

pub name_is_not_white : (b : ℕ) → is_name_byte b ≡ true → is_white b ≡ false
name_is_not_white b h = grind arith

-- white space or the equals sign follows a name
pub left_stops_name : (left x : List ℕ) → AllPass is_white left → begins_with is_name_byte (left ++ (equals_sign ∷ x)) ≡ false
left_stops_name [] x h = refl
left_stops_name (b ∷ bytes) x h = white_is_no_name b (both_true (is_white b) _ h).0

pub name_begins_not_white : (z : List ℕ) → begins_with is_name_byte z ≡ true → begins_with is_white z ≡ false
name_begins_not_white [] h = refl
name_begins_not_white (b ∷ bytes) h = name_is_not_white b h

-- the assignments, the white space behind them and what follows
abbrev pub from_assignments : List Assignment → List ℕ → List ℕ → List ℕ
from_assignments ones space x = flat_map print_assignment ones ++ (space ++ x)

pub assignments_go_on : (a : Assignment) (ones : List Assignment) (space x : List ℕ) →
    from_assignments (a ∷ ones) space x ≡ from_before a (from_assignments ones space x)
assignments_go_on a ones space x =
    append_assoc (print_assignment a) (flat_map print_assignment ones) (space ++ x)
    ∙ assignment_parts a (from_assignments ones space x)

-- two readings of one assignment
pub record SameAssignment (a b : Assignment) (x y : List ℕ) : Type 0 where
  pub whole : a ≡ b
  pub behind : x ≡ y

pub same_assignment : (a b : Assignment) (x y : List ℕ) → IsAssignment a → IsAssignment b →
    from_before a x ≡ from_before b y → SameAssignment a b x y
same_assignment a b x y va vb e =
    let before = same_run is_white a.before b.before (from_name a x) (from_name b y) va.before vb.before
    (name_begins_not_white (from_name a x) (name_begins a.name (from_left a x) va.name))
    (name_begins_not_white (from_name b y) (name_begins b.name (from_left b y) vb.name)) e in
    let name = same_run is_name_byte a.name b.name (from_left a x) (from_left b y) (name_passes a.name va.name) (name_passes b.name vb.name)
    (left_stops_name a.left (from_right a x) va.left) (left_stops_name b.left (from_right b y) vb.left) before.1 in
    let left = same_run is_white a.left b.left (equals_sign ∷ from_right a x) (equals_sign ∷ from_right b y) va.left vb.left refl refl name.1 in
    let behind_equals : from_right a x ≡ from_right b y = cc (left.1) in
    let right = same_run is_white a.right b.right (a.quote ∷ from_value a x) (b.quote ∷ from_value b y) va.right vb.right
    (quote_not_white a.quote va.quote) (quote_not_white b.quote vb.quote) behind_equals in
    let quotes : a.quote ≡ b.quote = cc (right.1) in
    let values : closed_value a.quote a.pieces x ≡ closed_value b.quote b.pieces y = cc (right.1) in
    let pieces = same_pieces a.quote a.pieces b.pieces x y va.quote va.pieces
    (subst (λ q. AllByRecursion (IsPiece q) b.pieces) (sym quotes) vb.pieces) va.whole_runs vb.whole_runs
    (values ∙ ap (λ q. closed_value q b.pieces y) (sym quotes)) in
    record {
      whole = λ i. record {
        before = before.0 i;
        name = name.0 i;
        left = left.0 i;
        right = right.0 i;
        quote = quotes i;
        pieces = pieces.0 i;
      };
      behind = pieces.1;
    }

pub not_both_ways : (z x : List ℕ) → z ≡ x → begins_with is_name_byte z ≡ true → begins_with is_name_byte x ≡ false → ⊥
not_both_ways z x e begins stops =
    let clash : begins_with is_name_byte x ≡ true = sym (ap (begins_with is_name_byte) e) ∙ begins in
    cc

-- white space and then the end of a tag is not white space and then a name
pub no_assignment : (b : Assignment) (space x y : List ℕ) → IsAssignment b → AllPass is_white space → Closes x →
    space ++ x ≡ from_before b y → ⊥
no_assignment b space x y vb ws closes e =
    let split = same_run is_white space b.before x (from_name b y) ws vb.before closes.not_white
    (name_begins_not_white (from_name b y) (name_begins b.name (from_left b y) vb.name)) e in
    not_both_ways (from_name b y) x (sym split.1) (name_begins b.name (from_left b y) vb.name) closes.not_name

-- two readings of the assignments of a tag
pub record SameRest (ones bs : List Assignment) (space blank x y : List ℕ) : Type 0 where
  pub assignments : ones ≡ bs
  pub spaces : space ≡ blank
  pub behind : x ≡ y

pub same_assignments : (ones bs : List Assignment) (space blank x y : List ℕ) →
    AllByRecursion IsAssignment ones → AllByRecursion IsAssignment bs → AllPass is_white space → AllPass is_white blank →
    Closes x → Closes y → from_assignments ones space x ≡ from_assignments bs blank y → SameRest ones bs space blank x y
same_assignments [] [] space blank x y va vb ws wb cx cy e =
    let split = same_run is_white space blank x y ws wb cx.not_white cy.not_white e in
    record { assignments = refl; spaces = split.0; behind = split.1 }
same_assignments [] (b ∷ bs) space blank x y va vb ws wb cx cy e =
    absurd (no_assignment b space x (from_assignments bs blank y) vb.0 ws cx (e ∙ assignments_go_on b bs blank y))
same_assignments (a ∷ ones) [] space blank x y va vb ws wb cx cy e =
    absurd (no_assignment a blank y (from_assignments ones space x) va.0 wb cy (sym e ∙ assignments_go_on a ones space x))
same_assignments (a ∷ ones) (b ∷ bs) space blank x y va vb ws wb cx cy e =
    let here = same_assignment a b (from_assignments ones space x) (from_assignments bs blank y) va.0 vb.0
    (sym (assignments_go_on a ones space x) ∙ e ∙ assignments_go_on b bs blank y) in
    let later = same_assignments ones bs space blank x y va.1 vb.1 ws wb cx cy here.behind in
    record { assignments = λ i. here.whole i ∷ later.assignments i; spaces = later.spaces; behind = later.behind }

pub white_begins : (before x : List ℕ) → 0 < length before → AllPass is_white before → begins_with is_name_byte (before ++ x) ≡ false
white_begins [] x h ws = absurd (omega arith)
white_begins (b ∷ bytes) x h ws = white_is_no_name b (both_true (is_white b) _ ws).0

-- behind the name of a tag
pub assignments_stop_name : (ones : List Assignment) (space x : List ℕ) → AllByRecursion IsAssignment ones → AllPass is_white space →
    Closes x → begins_with is_name_byte (from_assignments ones space x) ≡ false
assignments_stop_name [] [] x va ws closes = closes.not_name
assignments_stop_name [] (b ∷ space) x va ws closes = white_is_no_name b (both_true (is_white b) _ ws).0
assignments_stop_name (a ∷ ones) space x va ws closes =
    ap (begins_with is_name_byte) (assignments_go_on a ones space x)
    ∙ white_begins a.before (from_name a (from_assignments ones space x)) va.0.apart va.0.before

pub tag_parts : (tag : Tag) (x : List ℕ) → print_tag tag ++ x ≡ tag.name ++ from_assignments tag.assignments tag.space x
tag_parts tag x = simp append_assoc

-- two readings of a tag
pub record SameTag (tag other : Tag) (x y : List ℕ) : Type 0 where
  pub whole : tag ≡ other
  pub behind : x ≡ y

pub same_tag : (tag other : Tag) (x y : List ℕ) → IsTag tag → IsTag other → Closes x → Closes y →
    print_tag tag ++ x ≡ print_tag other ++ y → SameTag tag other x y
same_tag tag other x y v w cx cy e =
    let name = same_run is_name_byte tag.name other.name (from_assignments tag.assignments tag.space x) (from_assignments other.assignments other.space y)
    (name_passes tag.name v.name) (name_passes other.name w.name)
    (assignments_stop_name tag.assignments tag.space x v.assignments v.space cx)
    (assignments_stop_name other.assignments other.space y w.assignments w.space cy)
    (sym (tag_parts tag x) ∙ e ∙ tag_parts other y) in
    let rest = same_assignments tag.assignments other.assignments tag.space other.space x y v.assignments w.assignments v.space w.space cx cy name.1 in
    record {
      whole = λ i. record { name = name.0 i; assignments = rest.assignments i; space = rest.spaces i };
      behind = rest.behind;
    }
