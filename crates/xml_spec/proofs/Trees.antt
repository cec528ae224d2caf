-- Trees that are spelled are joined, and paths lead back to numbers.
use Rattle.std.proofs.Common.{◌≡◌, ℕ, zero, suc, ◌+◌, ◌-◌, ◌<◌, ◌≤◌, Bool, true, false, cond, ◌&&◌, not, nat_lt, List, [], ◌∷◌, ◌++◌, length, Option, Some, None, refl, sym, ◌∙◌, ap, subst, arith, IsSomeAnd}
use Rattle.std.specs.Char.{encode_utf8}
use Rattle.std.specs.Option.{option_map, option_map_or}
use Rattle.std.proofs.lemmas.Bool.Decides.{nat_tests}
use borrow.Author.Tests.{ltb-false, ltb-true}
use Rattle.xml_spec.proofs.Tests.{both_true, and_true}
use Rattle.xml_spec.specs.Tree.{Nodes, NoNodes, Element, Text, Comment, Instruction, with_text, begins_with_text, IsJoined}
use Rattle.xml_spec.specs.Numbering.{size, path_of, number_in, number_of, one_on}
use Rattle.xml_spec.specs.Syntax.{character_of, Item, Characters, Refers, Section, CommentItem, ProcessingInstruction, EmptyTag, Content, NoContent, Then, Pair}
use Rattle.xml_spec.specs.Meaning.{line_ends, with_item, nodes_of}
use Rattle.xml_spec.specs.Document.{root_of, Spells}

pub positive : (b : ℕ) (bytes : List ℕ) → nat_lt 0 (length (b ∷ bytes)) ≡ true
positive b bytes = grind arith

pub text_stands : (b : ℕ) (bytes : List ℕ) (c : Bool) → not c ≡ true → (nat_lt 0 (length (b ∷ bytes)) && not c) ≡ true
text_stands b bytes c h = and_true (nat_lt 0 (length (b ∷ bytes))) (not c) (positive b bytes) h

pub with_text_joined : (text : List ℕ) (nodes : Nodes) → IsJoined nodes → IsJoined (with_text text nodes)
with_text_joined [] nodes h = h
with_text_joined (b ∷ bytes) NoNodes h = (text_stands b bytes false refl, h)
with_text_joined (b ∷ bytes) (Element name attributes kids rest) h = (text_stands b bytes false refl, h)
with_text_joined (b ∷ bytes) (Text text rest) h =
    (text_stands b (bytes ++ text) (begins_with_text rest) (both_true (nat_lt 0 (length text)) _ h.0).1, h.1)
with_text_joined (b ∷ bytes) (Comment text rest) h = (text_stands b bytes false refl, h)
with_text_joined (b ∷ bytes) (Instruction target value rest) h = (text_stands b bytes false refl, h)

pub with_item_joined : (item : Item) (nodes : Nodes) → IsJoined nodes → IsJoined (with_item item nodes)
with_item_joined (Characters bytes) nodes h = with_text_joined (line_ends bytes) nodes h
with_item_joined (Refers r) nodes h = with_text_joined (encode_utf8 (character_of r)) nodes h
with_item_joined (Section bytes) nodes h = with_text_joined (line_ends bytes) nodes h
with_item_joined (CommentItem bytes) nodes h = h
with_item_joined (ProcessingInstruction target space value) nodes h = h
with_item_joined (EmptyTag tag) nodes h = (tt, h)

pub nodes_joined : (c : Content) → IsJoined (nodes_of c)
nodes_joined NoContent = tt
nodes_joined (Then item rest) = with_item_joined item (nodes_of rest) (nodes_joined rest)
nodes_joined (Pair tag inner space rest) = (nodes_joined inner, nodes_joined rest)

pub root_joined : (c : Content) → IsJoined (root_of c)
root_joined NoContent = tt
root_joined (Then (Characters bytes) rest) = root_joined rest
root_joined (Then (Refers r) rest) = root_joined rest
root_joined (Then (Section bytes) rest) = root_joined rest
root_joined (Then (CommentItem bytes) rest) = root_joined rest
root_joined (Then (ProcessingInstruction target space value) rest) = root_joined rest
root_joined (Then (EmptyTag tag) rest) = (tt, tt)
root_joined (Pair tag inner space rest) = (nodes_joined inner, tt)

pub spelled_joined : (bytes : List ℕ) (tree : Nodes) → Spells bytes tree → IsJoined tree
spelled_joined bytes tree s = subst IsJoined (sym s.means) (root_joined s.document.content)

-- the path of node k of the list leads to it
abbrev pub LeadsTo : (List ℕ → Option ℕ) → ℕ → Option (List ℕ) → Type 0
LeadsTo number k path = IsSomeAnd path (λ p. number p ≡ Some k)

-- a path in a list that one node stands in front of, whose subtree has n nodes
pub behind_leads : (rest : List ℕ → Option ℕ) (whole : List ℕ → Option ℕ) (n k : ℕ) (path : Option (List ℕ)) →
    ((place : ℕ) (p : List ℕ) → whole (suc place ∷ p) ≡ option_map (λ j. suc (n + j)) (rest (place ∷ p))) →
    rest [] ≡ None → LeadsTo rest k path → LeadsTo whole (suc (n + k)) (option_map one_on path)
behind_leads rest whole n k None i r h = h
behind_leads rest whole n k (Some []) i r h = absurd (let clash : None ≡ Some k = sym r ∙ h in cc)
behind_leads rest whole n k (Some (place ∷ p)) i r h = i place p ∙ ap (option_map (λ j. suc (n + j))) h

pub next_leads : (rest : List ℕ → Option ℕ) (whole : List ℕ → Option ℕ) (k : ℕ) (path : Option (List ℕ)) →
    ((place : ℕ) (p : List ℕ) → whole (suc place ∷ p) ≡ option_map (λ j. suc j) (rest (place ∷ p))) →
    rest [] ≡ None → LeadsTo rest k path → LeadsTo whole (suc k) (option_map one_on path)
next_leads rest whole k None i r h = h
next_leads rest whole k (Some []) i r h = absurd (let clash : None ≡ Some k = sym r ∙ h in cc)
next_leads rest whole k (Some (place ∷ p)) i r h = i place p ∙ ap (option_map (λ j. suc j)) h

pub empty_path : (nodes : Nodes) → number_of nodes [] ≡ None
empty_path NoNodes = refl
empty_path (Element name attributes kids rest) = refl
empty_path (Text text rest) = refl
empty_path (Comment text rest) = refl
empty_path (Instruction target value rest) = refl

pub below_leads : (kids : List ℕ → Option ℕ) (whole : List ℕ → Option ℕ) (k : ℕ) (path : Option (List ℕ)) →
    ((place : ℕ) (p : List ℕ) → whole (0 ∷ place ∷ p) ≡ option_map (λ j. suc j) (kids (place ∷ p))) →
    kids [] ≡ None → LeadsTo kids k path → LeadsTo whole (suc k) (option_map (λ p. 0 ∷ p) path)
below_leads kids whole k None i r h = h
below_leads kids whole k (Some []) i r h = absurd (let clash : None ≡ Some k = sym r ∙ h in cc)
below_leads kids whole k (Some (place ∷ p)) i r h = i place p ∙ ap (option_map (λ j. suc j)) h

pub same_node : (number : List ℕ → Option ℕ) (j k : ℕ) (path : Option (List ℕ)) → j ≡ k → LeadsTo number j path → LeadsTo number k path
same_node number j k path e h = subst (λ n. LeadsTo number n path) e h

pub path_leads : (nodes : Nodes) (k : ℕ) → k < size nodes → LeadsTo (number_of nodes) k (path_of nodes k)
path_leads NoNodes k h = absurd (omega arith)
path_leads (Element name attributes kids rest) zero h = refl
path_leads (Element name attributes kids rest) (suc k) h = which (nat_lt k (size kids)) refl (path_leads kids k) (path_leads rest (k - size kids))
  where
    which : (b : Bool) → nat_lt k (size kids) ≡ b →
        (k < size kids → LeadsTo (number_of kids) k (path_of kids k)) →
        (k - size kids < size rest → LeadsTo (number_of rest) (k - size kids) (path_of rest (k - size kids))) →
        LeadsTo (number_of (Element name attributes kids rest)) (suc k)
        (cond b (option_map (λ p. 0 ∷ p) (path_of kids k)) (option_map one_on (path_of rest (k - size kids))))
    which true e below behind =
        below_leads (number_of kids) (number_of (Element name attributes kids rest)) k (path_of kids k) (λ place p. refl) (empty_path kids) (below (ltb-true k (size kids) e))
    which false e below behind =
        let past : size kids ≤ k = ltb-false k (size kids) e in
        same_node (number_of (Element name attributes kids rest)) (suc (size kids + (k - size kids))) (suc k) (option_map one_on (path_of rest (k - size kids))) (omega arith)
        (behind_leads (number_of rest) (number_of (Element name attributes kids rest)) (size kids) (k - size kids) (path_of rest (k - size kids)) (λ place p. refl) (empty_path rest) (behind (omega arith)))
path_leads (Text text rest) zero h = refl
path_leads (Text text rest) (suc k) h =
    next_leads (number_of rest) (number_of (Text text rest)) k (path_of rest k) (λ place p. refl) (empty_path rest) (path_leads rest k (omega arith))
path_leads (Comment text rest) zero h = refl
path_leads (Comment text rest) (suc k) h =
    next_leads (number_of rest) (number_of (Comment text rest)) k (path_of rest k) (λ place p. refl) (empty_path rest) (path_leads rest k (omega arith))
path_leads (Instruction target value rest) zero h = refl
path_leads (Instruction target value rest) (suc k) h =
    next_leads (number_of rest) (number_of (Instruction target value rest)) k (path_of rest k) (λ place p. refl) (empty_path rest) (path_leads rest k (omega arith))

-- node k stands at the path
abbrev pub StandsAt : Nodes → List ℕ → ℕ → Type 0
StandsAt nodes path k = (k < size nodes) × (path_of nodes k ≡ Some path)

pub some_once : {X : Type 0} (x y : X) → Some x ≡ Some y → x ≡ y
some_once x y e = ap (λ o. option_map_or (λ z. z) o x) e

pub mapped_number : (f : ℕ → ℕ) (o : Option ℕ) (k : ℕ) → option_map f o ≡ Some k → (j : ℕ) × ((o ≡ Some j) × (k ≡ f j))
mapped_number f None k e = cc
mapped_number f (Some j) k e = (j, (refl, sym (some_once (f j) k e)))

-- in a list that one node without kids stands in front of
pub number_behind_stands : (one rest : Nodes) (path : List ℕ) (k : ℕ) →
    ((j : ℕ) → path_of one (suc j) ≡ option_map one_on (path_of rest j)) → path_of one 0 ≡ Some (0 ∷ []) → size one ≡ suc (size rest) →
    ((p : List ℕ) (j : ℕ) → number_of rest p ≡ Some j → StandsAt rest p j) →
    number_in path (number_of rest) ≡ Some k → StandsAt one path k
number_behind_stands one rest [] k i z s h e = cc
number_behind_stands one rest (zero ∷ []) k i z s h e =
    let zero_is : 0 ≡ k = some_once 0 k e in subst (λ n. StandsAt one (0 ∷ []) n) zero_is (let there : 0 < size one = omega (arith, s) in there, z)
number_behind_stands one rest (zero ∷ place ∷ path) k i z s h e = cc
number_behind_stands one rest (suc place ∷ path) k i z s h e =
    let found : (j : ℕ) × ((number_of rest (place ∷ path) ≡ Some j) × (k ≡ suc j)) =
    mapped_number (λ n. suc n) (number_of rest (place ∷ path)) k e in
    let j : ℕ = found.0 in
    let stands : StandsAt rest (place ∷ path) j = h (place ∷ path) j found.1.0 in
    subst (λ n. StandsAt one (suc place ∷ path) n) (sym found.1.1)
    (let there : suc j < size one = omega (arith, s, stands.0) in there, i j ∙ ap (option_map one_on) stands.1)

pub number_stands : (nodes : Nodes) (path : List ℕ) (k : ℕ) → number_of nodes path ≡ Some k → StandsAt nodes path k
number_stands NoNodes path k e = cc
number_stands (Element name attributes kids rest) [] k e = cc
number_stands (Element name attributes kids rest) (zero ∷ []) k e =
    let zero_is : 0 ≡ k = some_once 0 k e in
    let first : StandsAt (Element name attributes kids rest) (0 ∷ []) 0 = (omega arith, refl) in
    subst (λ n. StandsAt (Element name attributes kids rest) (0 ∷ []) n) zero_is first
number_stands (Element name attributes kids rest) (zero ∷ place ∷ path) k e =
    let found : (j : ℕ) × ((number_of kids (place ∷ path) ≡ Some j) × (k ≡ suc j)) =
    mapped_number (λ n. suc n) (number_of kids (place ∷ path)) k e in
    let j : ℕ = found.0 in
    let stands : StandsAt kids (place ∷ path) j = number_stands kids (place ∷ path) j found.1.0 in
    let inside : nat_lt j (size kids) ≡ true = grind (arith, nat_tests, stands.0) in
    let at : StandsAt (Element name attributes kids rest) (0 ∷ place ∷ path) (suc j) = (
      omega (arith, stands.0),
      ap (λ b. cond b (option_map (λ p. 0 ∷ p) (path_of kids j)) (option_map one_on (path_of rest (j - size kids)))) inside
          ∙ ap (option_map (λ p. 0 ∷ p)) stands.1,
    ) in
    subst (λ n. StandsAt (Element name attributes kids rest) (0 ∷ place ∷ path) n) (sym found.1.1) at
number_stands (Element name attributes kids rest) (suc place ∷ path) k e =
    let found : (j : ℕ) × ((number_of rest (place ∷ path) ≡ Some j) × (k ≡ suc (size kids + j))) =
    mapped_number (λ n. suc (size kids + n)) (number_of rest (place ∷ path)) k e in
    let j : ℕ = found.0 in
    let stands : StandsAt rest (place ∷ path) j = number_stands rest (place ∷ path) j found.1.0 in
    let outside : nat_lt (size kids + j) (size kids) ≡ false = grind (arith, nat_tests) in
    let back : (size kids + j) - size kids ≡ j = omega arith in
    let at : StandsAt (Element name attributes kids rest) (suc place ∷ path) (suc (size kids + j)) = (
      omega (arith, stands.0),
      ap (λ b. cond b (option_map (λ p. 0 ∷ p) (path_of kids (size kids + j))) (option_map one_on (path_of rest ((size kids + j) - size kids)))) outside
          ∙ ap (λ n. option_map one_on (path_of rest n)) back ∙ ap (option_map one_on) stands.1,
    ) in
    subst (λ n. StandsAt (Element name attributes kids rest) (suc place ∷ path) n) (sym found.1.1) at
number_stands (Text text rest) path k e =
    number_behind_stands (Text text rest) rest path k (λ j. refl) refl refl (number_stands rest) e
number_stands (Comment text rest) path k e =
    number_behind_stands (Comment text rest) rest path k (λ j. refl) refl refl (number_stands rest) e
number_stands (Instruction target value rest) path k e =
    number_behind_stands (Instruction target value rest) rest path k (λ j. refl) refl refl (number_stands rest) e
