-- Readings of a tag's attributes and of a tag are one, and what refuses them.
use Rattle.std.proofs.Common.{◌≡◌, ℕ, ◌+◌, true, List, [], ◌∷◌, ◌++◌, IsFalse, refl, sym, ◌∙◌, ap, subst, append_assoc, append-nil}
use Rattle.std.specs.List.{flat_map, AllByRecursion}
use Rattle.std.proofs.lemmas.List.{map-append}
use Rattle.std.proofs.lemmas.List.Concat.{flat_map-append}
use Rattle.xml_spec.specs.Ascii.{greater_than}
use Rattle.xml_spec.specs.Bytes.{AllPass, begins_with}
use Rattle.xml_spec.specs.Tree as tree
use Rattle.xml_spec.specs.Syntax.{is_white, Assignment, print_assignment, IsAssignment, Tag}
use Rattle.xml_spec.specs.Meaning.{attribute_of, attributes_of}
use Rattle.xml_spec.proofs.Runs.{same_run}
use Rattle.xml_spec.proofs.Tags.{Closes, assignment_parts, from_assignments, assignments_go_on, same_assignment, tag_parts, same_tag, name_begins_not_white, not_both_ways, no_assignment, assignments_stop_name}
use Rattle.xml_tokens.specs.Lexing.{is_name_byte, NameAt, AssignmentAt, AttributesAt, AreSoFar, TagAt, NoName, NoAssignment, NoAttributes, NoTag}
use Rattle.xml_tokens.proofs.AttributeReadings.{same_name}

every_more : {X : Type 0} (P : X → Type 0) (xs : List X) (y : X) → AllByRecursion P xs → P y → AllByRecursion P (xs ++ y ∷ [])
every_more P [] y h k = (k, tt)
every_more P (x ∷ xs) y h k = (h.0, every_more P xs y h.1 k)

pub none_so_far : (whole : List ℕ) → AreSoFar whole [] whole
none_so_far whole = record { assignments = []; valid = tt; mean = refl; split = refl }

-- one more attribute
pub one_more : (whole : List ℕ) (read : List tree.Attribute) (rest : List ℕ) (attribute : tree.Attribute) (behind : List ℕ) →
    AreSoFar whole read rest → AssignmentAt rest attribute behind → AreSoFar whole (read ++ attribute ∷ []) behind
one_more whole read rest attribute behind far at =
    let a = at.assignment in
    record {
      assignments = far.assignments ++ a ∷ [];
      valid = every_more IsAssignment far.assignments a far.valid at.valid;
      mean = (λ i. far.mean i ++ at.means i ∷ []) ∙ sym (map-append attribute_of far.assignments (a ∷ []));
      split = far.split ∙ ap (λ z. flat_map print_assignment far.assignments ++ z) at.split
          ∙ sym (append_assoc (flat_map print_assignment far.assignments) (print_assignment a) behind)
          ∙ ap (λ z. z ++ behind) (ap (λ z. flat_map print_assignment far.assignments ++ z) (sym (append-nil (print_assignment a)))
          ∙ sym (flat_map-append print_assignment far.assignments (a ∷ [])));
    }

-- all attributes
pub all_read : (whole : List ℕ) (read : List tree.Attribute) (rest space at : List ℕ) → AreSoFar whole read rest →
    rest ≡ space ++ at → AllPass is_white space → IsFalse (begins_with is_white at) → IsFalse (begins_with is_name_byte at) →
    AttributesAt whole read at
all_read whole read rest space at far e white stops ends = record {
  assignments = far.assignments;
  space = space;
  valid = far.valid;
  white = white;
  mean = far.mean;
  split = far.split ∙ ap (λ z. flat_map print_assignment far.assignments ++ z) e;
  not_white = stops;
  not_name = ends;
}

-- no attribute stands in front of the sign that closes a tag
pub none_at_close : (given behind : List ℕ) → given ≡ greater_than ∷ behind → AttributesAt given [] given
none_at_close given behind e =
    all_read given [] given [] given (none_so_far given) refl refl (ap (begins_with is_white) e) (ap (begins_with is_name_byte) e)

-- where no assignment begins the rest, and a name follows its white space, no attributes are read
stuck : (ones bs : List Assignment) (rest space at blank y : List ℕ) → AllByRecursion IsAssignment ones →
    AllByRecursion IsAssignment bs → AllPass is_white space → AllPass is_white blank → rest ≡ space ++ at →
    begins_with is_name_byte at ≡ true → Closes y → NoAssignment rest →
    flat_map print_assignment ones ++ rest ≡ from_assignments bs blank y → ⊥
stuck [] [] rest space at blank y vo vb ws wb split named closes none e =
    let same = same_run is_white space blank at y ws wb (name_begins_not_white at named) closes.not_white (sym split ∙ e) in
    not_both_ways at y same.1 named closes.not_name
stuck [] (b ∷ bs) rest space at blank y vo vb ws wb split named closes none e =
    let behind = from_assignments bs blank y in
    none (attribute_of b) behind (record {
      assignment = b;
      valid = vb.0;
      means = refl;
      split = e ∙ append_assoc (print_assignment b) (flat_map print_assignment bs) (blank ++ y);
    })
stuck (a ∷ ones) [] rest space at blank y vo vb ws wb split named closes none e =
    no_assignment a blank y (flat_map print_assignment ones ++ rest) vo.0 wb closes
    (sym e ∙ append_assoc (print_assignment a) (flat_map print_assignment ones) rest
    ∙ assignment_parts a (flat_map print_assignment ones ++ rest))
stuck (a ∷ ones) (b ∷ bs) rest space at blank y vo vb ws wb split named closes none e =
    let here = same_assignment a b (flat_map print_assignment ones ++ rest) (from_assignments bs blank y) vo.0 vb.0
    (sym (append_assoc (print_assignment a) (flat_map print_assignment ones) rest
    ∙ assignment_parts a (flat_map print_assignment ones ++ rest)) ∙ e ∙ assignments_go_on b bs blank y) in
    stuck ones bs rest space at blank y vo.1 vb.1 ws wb split named closes none here.behind

pub no_attributes : (whole : List ℕ) (read : List tree.Attribute) (rest space at : List ℕ) → AreSoFar whole read rest →
    rest ≡ space ++ at → AllPass is_white space → begins_with is_name_byte at ≡ true → NoAssignment (space ++ at) → NoAttributes whole
no_attributes whole read rest space at far split white named none attributes behind other =
    stuck far.assignments other.assignments rest space at other.space behind far.valid other.valid white other.white split named
    (record { not_white = other.not_white; not_name = other.not_name }) (subst NoAssignment (sym split) none) (sym far.split ∙ other.split)

name_of_tag : (bytes name : List ℕ) (attributes : List tree.Attribute) (behind : List ℕ) → (at : TagAt bytes name attributes behind) →
    NameAt bytes at.tag.name (from_assignments at.tag.assignments at.tag.space behind)
name_of_tag bytes name attributes behind at = record {
  named = at.valid.name;
  split = at.split ∙ tag_parts at.tag behind;
  ends = assignments_stop_name at.tag.assignments at.tag.space behind at.valid.assignments at.valid.space
      (record { not_white = at.not_white; not_name = at.not_name });
}

pub unnamed_no_tag : (bytes : List ℕ) → NoName bytes → NoTag bytes
unnamed_no_tag bytes none name attributes behind at =
    none at.tag.name (from_assignments at.tag.assignments at.tag.space behind) (name_of_tag bytes name attributes behind at)

pub unread_no_tag : (bytes name mid : List ℕ) → NameAt bytes name mid → NoAttributes mid → NoTag bytes
unread_no_tag bytes name mid n none other attributes behind at =
    let same = same_name bytes name at.tag.name mid (from_assignments at.tag.assignments at.tag.space behind) n
    (name_of_tag bytes other attributes behind at) in
    none (attributes_of at.tag) behind (record {
      assignments = at.tag.assignments;
      space = at.tag.space;
      valid = at.valid.assignments;
      white = at.valid.space;
      mean = refl;
      split = same.1;
      not_white = at.not_white;
      not_name = at.not_name;
    })

pub tag_from : (bytes name mid : List ℕ) (attributes : List tree.Attribute) (behind : List ℕ) → NameAt bytes name mid →
    AttributesAt mid attributes behind → TagAt bytes name attributes behind
tag_from bytes name mid attributes behind n at =
    let tag : Tag = record { name = name; assignments = at.assignments; space = at.space } in
    record {
      tag = tag;
      valid = record { name = n.named; assignments = at.valid; space = at.white };
      named = refl;
      mean = at.mean;
      split = n.split ∙ ap (λ z. name ++ z) at.split ∙ sym (tag_parts tag behind);
      not_white = at.not_white;
      not_name = at.not_name;
    }

-- two readings of a tag end at one place
pub same_tag_end : (bytes name other : List ℕ) (attributes others : List tree.Attribute) (x y : List ℕ) →
    TagAt bytes name attributes x → TagAt bytes other others y → x ≡ y
same_tag_end bytes name other attributes others x y a b =
    (same_tag a.tag b.tag x y a.valid b.valid (record { not_white = a.not_white; not_name = a.not_name })
    (record { not_white = b.not_white; not_name = b.not_name }) (sym a.split ∙ b.split)).behind
