-- The texts of SessionIndex, read one after the other and made one after the other.
use Rattle.std.proofs.Common.{◌≡◌, ℕ, List, [], ◌∷◌, ◌++◌, map, codes, refl, sym, ap, ◌∙◌, append_assoc}
use Rattle.element_make.specs.declared.names.Ns.TheVariants.{Samlp}
use Rattle.element_make.specs.Made.{MadeNodes, NothingMade, MadeElement, MadeText, joined}
use Rattle.protocol_messages.specs.Making.{with_text, session_indexes}

-- one more text was read
pub next_text : (f : ℕ → List ℕ) (texts more : List (List ℕ)) (text : List ℕ) (n : ℕ) (left rest : List ℕ) (all : List (List ℕ)) →
    texts ++ map f left ≡ all → left ≡ n ∷ rest → text ≡ f n → more ≡ texts ++ text ∷ [] → more ++ map f rest ≡ all
next_text f texts more text n left rest all before taken says is =
    ap (λ xs. xs ++ map f rest) is ∙ append_assoc texts (text ∷ []) (map f rest) ∙ (λ i. texts ++ (says i ∷ map f rest))
    ∙ ap (λ xs. texts ++ map f xs) (sym taken) ∙ before

-- the nodes in three parts
joined_twice : (a b c : MadeNodes) → joined (joined a b) c ≡ joined a (joined b c)
joined_twice NothingMade b c = refl
joined_twice (MadeElement ns local attributes kids rest) b c = ap (MadeElement ns local attributes kids) (joined_twice rest b c)
joined_twice (MadeText text rest) b c = ap (MadeText text) (joined_twice rest b c)

-- one more SessionIndex
abbrev index_made : List ℕ → MadeNodes
index_made index = with_text Samlp (codes "SessionIndex") index

one_more : (indexes : List (List ℕ)) (index : List ℕ) → joined (session_indexes indexes) (index_made index) ≡ session_indexes (indexes ++ index ∷ [])
one_more [] index = refl
one_more (first ∷ indexes) index = ap (MadeElement Samlp (codes "SessionIndex") [] (MadeText first NothingMade)) (one_more indexes index)

pub next_made : (nodes : MadeNodes) (indexes : List (List ℕ)) (index : List ℕ) →
    joined (joined nodes (session_indexes indexes)) (index_made index) ≡ joined nodes (session_indexes (indexes ++ index ∷ []))
next_made nodes indexes index = joined_twice nodes (session_indexes indexes) (index_made index) ∙ ap (joined nodes) (one_more indexes index)
