-- A code of trees, by which a proof tells them apart where a type of a program is seen as one.
use Rattle.std.specs.Prelude.{◌≡◌, ℕ, List}
use mathlib.Core.Path.{refl, ap, subst}
use lib.Dec.{T, eqb}
use base.Stored.{Gv, gnil, gnum, gcons, Coded, coded_ℕ, coded_list, coded×}
use Rattle.std.specs.Coded.{code_by}
use Rattle.xml_spec.specs.Tree.{Attribute, Nodes, NoNodes, Element, Text, Comment, Instruction}

abbrev pub coded_bytes : Coded (List ℕ)
coded_bytes = coded_list coded_ℕ

abbrev pub coded_attribute : Coded Attribute
coded_attribute =
    code_by (List ℕ × List ℕ) (coded× coded_bytes coded_bytes) (λ a. (a.name, a.value))
    (λ p. record { name = p.0; value = p.1 }) (λ _. refl)

-- a tree of numbers for each kind of node
pub code_nodes : Nodes → Gv
code_nodes NoNodes = gcons (gnum 4) gnil
code_nodes (Element name attributes kids rest) =
    gcons (gnum 0) (gcons (coded_bytes.code name) (gcons ((coded_list coded_attribute).code attributes) (gcons (code_nodes kids) (code_nodes rest))))
code_nodes (Text text rest) = gcons (gnum 1) (gcons (coded_bytes.code text) (code_nodes rest))
code_nodes (Comment text rest) = gcons (gnum 2) (gcons (coded_bytes.code text) (code_nodes rest))
code_nodes (Instruction target value rest) =
    gcons (gnum 3) (gcons (coded_bytes.code target) (gcons (coded_bytes.code value) (code_nodes rest)))

abbrev left : Gv → Gv
left gnil = gnil
left (gnum n) = gnil
left (gcons a b) = a

abbrev right : Gv → Gv
right gnil = gnil
right (gnum n) = gnil
right (gcons a b) = b

-- the number in front, which is that of the kind
abbrev kind : Gv → ℕ
kind gnil = 5
kind (gnum n) = 5
kind (gcons gnil b) = 5
kind (gcons (gnum n) b) = n
kind (gcons (gcons a c) b) = 5

apart : (x y : Gv) (n : ℕ) → x ≡ y → T (eqb n (kind x)) → T (eqb n (kind y))
apart x y n p t = subst (λ g. T (eqb n (kind g))) p t

pub inj_nodes : (x y : Nodes) → code_nodes x ≡ code_nodes y → x ≡ y
unfolding code_nodes
inj_nodes NoNodes NoNodes p = refl
inj_nodes (Element n a k r) (Element n' a' k' r') p = λ i.
    Element (coded_bytes.inj n n' (ap (λ g. left (right g)) p) i)
    ((coded_list coded_attribute).inj a a' (ap (λ g. left (right (right g))) p) i)
    (inj_nodes k k' (ap (λ g. left (right (right (right g)))) p) i)
    (inj_nodes r r' (ap (λ g. right (right (right (right g)))) p) i)
inj_nodes (Text t r) (Text t' r') p = λ i.
    Text (coded_bytes.inj t t' (ap (λ g. left (right g)) p) i) (inj_nodes r r' (ap (λ g. right (right g)) p) i)
inj_nodes (Comment t r) (Comment t' r') p = λ i.
    Comment (coded_bytes.inj t t' (ap (λ g. left (right g)) p) i) (inj_nodes r r' (ap (λ g. right (right g)) p) i)
inj_nodes (Instruction t v r) (Instruction t' v' r') p = λ i.
    Instruction (coded_bytes.inj t t' (ap (λ g. left (right g)) p) i)
    (coded_bytes.inj v v' (ap (λ g. left (right (right g))) p) i) (inj_nodes r r' (ap (λ g. right (right (right g))) p) i)
inj_nodes NoNodes (Element n a k r) p = absurd (apart _ _ 4 p tt)
inj_nodes NoNodes (Text t r) p = absurd (apart _ _ 4 p tt)
inj_nodes NoNodes (Comment t r) p = absurd (apart _ _ 4 p tt)
inj_nodes NoNodes (Instruction t v r) p = absurd (apart _ _ 4 p tt)
inj_nodes (Element n a k r) NoNodes p = absurd (apart _ _ 0 p tt)
inj_nodes (Element n a k r) (Text t' r') p = absurd (apart _ _ 0 p tt)
inj_nodes (Element n a k r) (Comment t' r') p = absurd (apart _ _ 0 p tt)
inj_nodes (Element n a k r) (Instruction t' v' r') p = absurd (apart _ _ 0 p tt)
inj_nodes (Text t r) NoNodes p = absurd (apart _ _ 1 p tt)
inj_nodes (Text t r) (Element n' a' k' r') p = absurd (apart _ _ 1 p tt)
inj_nodes (Text t r) (Comment t' r') p = absurd (apart _ _ 1 p tt)
inj_nodes (Text t r) (Instruction t' v' r') p = absurd (apart _ _ 1 p tt)
inj_nodes (Comment t r) NoNodes p = absurd (apart _ _ 2 p tt)
inj_nodes (Comment t r) (Element n' a' k' r') p = absurd (apart _ _ 2 p tt)
inj_nodes (Comment t r) (Text t' r') p = absurd (apart _ _ 2 p tt)
inj_nodes (Comment t r) (Instruction t' v' r') p = absurd (apart _ _ 2 p tt)
inj_nodes (Instruction t v r) NoNodes p = absurd (apart _ _ 3 p tt)
inj_nodes (Instruction t v r) (Element n' a' k' r') p = absurd (apart _ _ 3 p tt)
inj_nodes (Instruction t v r) (Text t' r') p = absurd (apart _ _ 3 p tt)
inj_nodes (Instruction t v r) (Comment t' r') p = absurd (apart _ _ 3 p tt)

abbrev pub coded_nodes : Coded Nodes
coded_nodes = record { code = code_nodes; inj = inj_nodes }
